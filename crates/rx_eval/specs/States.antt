-- The stack of contexts, as the rules see it.
use Rattle.std.specs.Prelude.{ℕ, Bool, List, Option, option_map}
use Rattle.rx_rdfa.specs.Common.{Chars, Node, Triple, node_seen, Inherited}
use Rattle.rx_lists.specs.declared.lists.SlotId.{SlotId}
use Rattle.rx_lists.specs.declared.lists.Owner.{Owner}
use Rattle.rx_eval.specs.Labels.{Numbered}
use Rattle.rx_eval.specs.Contexts.{context_seen}
use Rattle.rx_eval.specs.declared.values.TextRule.{TextRule}
use Rattle.rx_eval.specs.OwnersSeen.{Owning}
use Rattle.rx_eval.specs.Gathering.{target_seen}
use Rattle.rx_eval.specs.Closing.{slots_in}
use Rattle.rx_eval.specs.declared.frames.Gathered.{Gathered}
use Rattle.rx_eval.specs.declared.frames.Frame.{Frame as CodeFrame}

-- the text of an element that gathers it: the subject of its value, how the text is the value, the predicates of its
-- triples or the places in lists that wait for it, and how much text was kept at its start, in bytes
pub record Text : Type 0 where
  pub subject : Node ℕ
  pub by : TextRule
  pub said : Option (List Chars)
  pub slots : List SlotId
  pub mark : ℕ

-- an open element: what its children inherit, the owners that it began, and its text where it gathers it
pub record Frame : Type 0 where
  pub context : Inherited ℕ ℕ
  pub own : Option ℕ
  pub below : Option ℕ
  pub text : Option Text

abbrev pub text_seen : Gathered → Text
text_seen gathered = record {
  subject = node_seen gathered.subject;
  by = gathered.rule;
  said = target_seen gathered.target;
  slots = slots_in gathered.target;
  mark = gathered.mark;
}

abbrev pub owner_seen : Owner → ℕ
owner_seen owner = owner.0

abbrev pub frame_seen : CodeFrame → Frame
frame_seen frame = record {
  context = context_seen frame.context;
  own = option_map owner_seen frame.own;
  below = option_map owner_seen frame.below;
  text = option_map text_seen frame.gathered;
}

-- the page's context, the frames from the root's on, the numbers that are drawn for labels and new nodes, the next
-- number of a cell, the owners of lists, the text that is kept, and the triples so far
pub record State : Type 0 where
  pub base : Chars
  pub levels : ℕ
  pub page : Inherited ℕ ℕ
  pub frames : List Frame
  pub labels : Numbered
  pub drawn : ℕ
  pub cells : ℕ
  pub owners : List (Option Owning)
  pub kept : Chars
  pub out : List (Triple ℕ)
  pub ended : Bool
  pub out_of_memory : Bool
