-- What a token says of the tree, and what is done of it step by step.
use Rattle.std.specs.Prelude.{◌≡◌, ◌-◌, nat_lt, Option, Some, None, Result, Ok, Err, if◌then◌else◌}
use Rattle.rx_grammar.specs.declared.stops.Stop.{Stop}
use Rattle.rx_grammar.specs.declared.stops.Stop.TheVariants as stop
use Rattle.rx_tags.specs.declared.tags.Tag.{Tag}
use Rattle.rx_tags.specs.Seen.{tag_seen}
use Rattle.rx_scan.specs.declared.answers.Token.{Token}
use Rattle.rx_scan.specs.declared.answers.Token.TheVariants as token
use Rattle.rx_nest.specs.declared.lines.TagAction.{TagAction}
use Rattle.rx_nest.specs.declared.lines.TagAction.TheVariants as own
use Rattle.rx_nest.specs.declared.lines.TagEffect.{TagEffect}
use Rattle.rx_nest.specs.declared.lines.Refused.{Refused}
use Rattle.rx_nest.specs.declared.lines.Refused.TheVariants as refused
use Rattle.rx_nest.specs.declared.tree_tokens.TreeToken.{TreeToken}
use Rattle.rx_nest.specs.declared.tree_tokens.TreeToken.TheVariants as tree_token
use Rattle.rx_nest.specs.declared.tree_tokens.EventKind.{EventKind}
use Rattle.rx_nest.specs.declared.tree_tokens.EventKind.TheVariants as did
use Rattle.rx_nest.specs.declared.tree_tokens.PendingEvents.{PendingEvents}
use Rattle.rx_nest.specs.Lines.{Lines, TagGives, says_text}

-- a tag that isn't taken decides the fault at its last byte
abbrev pub token_result : Tag → Result TagEffect Refused → Result TreeToken Stop
token_result t (Ok told) = Ok (tree_token.Tag told)
token_result t (Err (refused.Fault kind)) = Err (stop.Fault (record { kind = kind; token = t.token; at = t.at }))
token_result t (Err refused.NoMemory) = Err stop.NoMemory

pub record TakesTagToken (old : Lines) (t : Tag) (result : Result TreeToken Stop) (new : Lines) : Type 0 where
  pub taken : Result TagEffect Refused
  pub gives : TagGives old (tag_seen t) taken new
  pub is : result ≡ token_result t taken

-- nothing becomes of the elements
abbrev pub OnlyTakes : TreeToken → Lines → Result TreeToken Stop → Lines → Type 0
OnlyTakes what old result new = (result ≡ Ok what) × (new ≡ old)

abbrev pub TakesToken : Lines → Token → Result TreeToken Stop → Lines → Type 0
TakesToken old token.More result new = OnlyTakes tree_token.More old result new
TakesToken old token.Skipped result new = OnlyTakes tree_token.Skipped old result new
TakesToken old token.Doctype result new = OnlyTakes tree_token.Skipped old result new
TakesToken old (token.Text text) result new = OnlyTakes (if says_text old then tree_token.Text else tree_token.Skipped) old result new
TakesToken old (token.Start t) result new = TakesTagToken old t result new
TakesToken old (token.End t) result new = TakesTagToken old t result new

abbrev pub paid : PendingEvents
paid = record { ends = 0; own = None }

-- what is done first of a tag's own, and what is owed then
abbrev pub first_own : TagAction → EventKind × PendingEvents
first_own own.Nothing = (did.Skipped, paid)
first_own own.Begin = (did.Begin, paid)
first_own own.Finish = (did.Finish, paid)
first_own own.Alone = (did.Begin, record { ends = 0; own = Some own.Finish })

-- Where elements ended by omission before it, a tag that is hidden tells no more.
abbrev pub own_next : TagAction → Option (EventKind × PendingEvents)
own_next own.Nothing = None
own_next own.Begin = Some (first_own own.Begin)
own_next own.Finish = Some (first_own own.Finish)
own_next own.Alone = Some (first_own own.Alone)

abbrev pub next_own : Option TagAction → Option (EventKind × PendingEvents)
next_own None = None
next_own (Some o) = own_next o

abbrev pub next_owed : PendingEvents → Option (EventKind × PendingEvents)
next_owed owed = if nat_lt 0 owed.ends then Some (did.Finish, record { ends = owed.ends - 1; own = owed.own }) else next_own owed.own

abbrev pub first_event : TreeToken → EventKind × PendingEvents
first_event tree_token.More = (did.More, paid)
first_event tree_token.Skipped = (did.Skipped, paid)
first_event tree_token.Text = (did.Text, paid)
first_event (tree_token.Tag told) = if nat_lt 0 told.ends then (did.Finish, record { ends = told.ends - 1; own = Some told.own }) else first_own told.own
