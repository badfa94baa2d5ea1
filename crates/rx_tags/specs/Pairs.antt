-- A start tag's attributes as the reader has them, with the value that is read.
use Rattle.std.specs.Prelude.{◌≡◌, ℕ, Bool, true, not, ◌||◌, List, [], ◌∷◌, ◌++◌, Result, Ok, Err}
use Rattle.rx_grammar.specs.Common.{list_all, ampersand, is_ascii, Chars, Syntax, meaning, firsts, has_repeat, Attribute}
use Rattle.rx_reader.specs.declared.phases.RunPhase.{RunPhase}
use Rattle.rx_reader.specs.declared.phases.RunPhase.TheVariants as run
use Rattle.rx_reader.specs.Tables.{is_html_syntax}
use Rattle.rx_reader.specs.Values.{PartialValue, no_value_yet, value_step, value_end, is_run}
use Rattle.rx_tags.specs.Reading.{AttributeReading}
use Rattle.rx_tags.specs.declared.pairs.TagError.{TagError}
use Rattle.rx_tags.specs.declared.pairs.TagError.TheVariants.{Bad, NoMemory}

pub record Pairs : Type 0 where
  pub whole : List Attribute
  pub key : Chars
  pub value : PartialValue

abbrev pub no_pairs : Pairs
no_pairs = record { whole = []; key = []; value = no_value_yet }

abbrev pub after_first : Chars → Chars
after_first [] = []
after_first (c ∷ text) = text

abbrev pub pairs_read : RunPhase → AttributeReading → Pairs
pairs_read phase reading =
    record { whole = reading.whole; key = reading.key; value = record { phase = phase; known = reading.known; run = after_first reading.pending } }

-- a run stands after `&`, and is ASCII
abbrev pub IsPendingRun : RunPhase → Chars → Type 0
IsPendingRun run.Plain pending = pending ≡ []
IsPendingRun _ pending = (pending ≡ ampersand ∷ after_first pending) × (list_all is_ascii (after_first pending) ≡ true)

-- XHTML has no run that is no reference
abbrev pub may_end : Syntax → RunPhase → Bool
may_end syntax phase = is_html_syntax syntax || not (is_run phase)

-- one more character of the value
abbrev pub TakeGives : Syntax → Pairs → ℕ → Result (Unit {0}) TagError → Pairs → Type 0
TakeGives syntax old c (Ok done) new = (value_step syntax (meaning syntax) old.value c ≡ Ok new.value) × (new.whole ≡ old.whole) × (new.key ≡ old.key)
TakeGives syntax old c (Err (Bad kind)) new = value_step syntax (meaning syntax) old.value c ≡ Err kind
TakeGives syntax old c (Err NoMemory) new = Unit {0}

-- the end of the attribute
abbrev pub AddGives : Syntax → Pairs → Result (Unit {0}) TagError → Pairs → Type 0
AddGives syntax old (Ok done) new =
    (value : Chars) × (value_end syntax old.value ≡ Ok value) × (new ≡ record { whole = old.whole ++ (old.key, value) ∷ []; key = []; value = no_value_yet })
AddGives syntax old (Err (Bad kind)) new = value_end syntax old.value ≡ Err kind
AddGives syntax old (Err NoMemory) new = Unit {0}

-- the end of the attribute, and the first character of the next one's name
abbrev pub AddKeyGives : Syntax → Pairs → ℕ → Result (Unit {0}) TagError → Pairs → Type 0
AddKeyGives syntax old c (Ok done) new =
    (value : Chars) × (value_end syntax old.value ≡ Ok value) × (new ≡ record { whole = old.whole ++ (old.key, value) ∷ []; key = c ∷ []; value = no_value_yet })
AddKeyGives syntax old c (Err (Bad kind)) new = value_end syntax old.value ≡ Err kind
AddKeyGives syntax old c (Err NoMemory) new = Unit {0}

-- the end of the last attribute, and of those of one name the first
abbrev pub AddLastGives : Syntax → Pairs → Result Bool TagError → Pairs → Type 0
AddLastGives syntax old (Ok repeated) new =
    (value : Chars) × (value_end syntax old.value ≡ Ok value) × (repeated ≡ has_repeat (old.whole ++ (old.key, value) ∷ []))
    × (new ≡ record { whole = firsts (old.whole ++ (old.key, value) ∷ []); key = []; value = no_value_yet })
AddLastGives syntax old (Err (Bad kind)) new = value_end syntax old.value ≡ Err kind
AddLastGives syntax old (Err NoMemory) new = Unit {0}
