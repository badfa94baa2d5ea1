-- How a tag is read, one character at a time.
use Rattle.std.specs.Prelude.{ℕ, Bool, true, false, ◌&&◌, List, [], ◌∷◌, ◌++◌, Option, Some, None, Result, Ok, Err, if◌then◌else◌}
use Rattle.rx_grammar.specs.Common.{Chars, Syntax, Attribute, Tag, cased_char, firsts, is_repeated}
use Rattle.rx_grammar.specs.declared.faults.Kind.{Kind}
use Rattle.rx_grammar.specs.declared.faults.Kind.TheVariants.{BadTag, RepeatedAttribute}
use Rattle.rx_reader.specs.declared.phases.TagPhase.{TagPhase}
use Rattle.rx_reader.specs.declared.phases.TagPhase.TheVariants as phase
use Rattle.rx_reader.specs.declared.phases.TagAction.{TagAction}
use Rattle.rx_reader.specs.declared.phases.TagAction.TheVariants as action
use Rattle.rx_reader.specs.Tables.{move_of, is_last}
use Rattle.rx_reader.specs.Values.{PartialValue, no_value_yet, value_step, value_end}

-- A tag so far: its name, its attributes that are whole, and the name and the value of the one that is read.
pub record TagState : Type 0 where
  pub phase : TagPhase
  pub name : Chars
  pub attributes : List Attribute
  pub key : Chars
  pub value : PartialValue

abbrev pub fresh : TagState
fresh = record { phase = phase.Start; name = []; attributes = []; key = []; value = no_value_yet }

abbrev pub with_value : TagPhase → TagState → Result PartialValue Kind → Result TagState Kind
with_value p s (Ok value) = Ok (record { phase = p; name = s.name; attributes = s.attributes; key = s.key; value = value })
with_value p s (Err kind) = Err kind

-- the attribute that was read is whole, and the next one's name begins with `key`
abbrev pub with_attribute : TagPhase → TagState → Chars → Result Chars Kind → Result TagState Kind
with_attribute p s key (Ok value) = Ok (record { phase = p; name = s.name; attributes = s.attributes ++ (s.key, value) ∷ []; key = key; value = no_value_yet })
with_attribute p s key (Err kind) = Err kind

abbrev pub done_by : Syntax → (Chars → Option ℕ) → TagState → ℕ → TagPhase → TagAction → Result TagState Kind
done_by syntax means s c p action.Skip = Ok (record { phase = p; name = s.name; attributes = s.attributes; key = s.key; value = s.value })
done_by syntax means s c p action.Name =
    Ok (record { phase = p; name = s.name ++ cased_char syntax c ∷ []; attributes = s.attributes; key = s.key; value = s.value })
done_by syntax means s c p action.Key =
    Ok (record { phase = p; name = s.name; attributes = s.attributes; key = s.key ++ cased_char syntax c ∷ []; value = s.value })
done_by syntax means s c p action.Value = with_value p s (value_step syntax means s.value c)
done_by syntax means s c p action.Add = with_attribute p s [] (value_end syntax s.value)
done_by syntax means s c p action.AddKey = with_attribute p s (cased_char syntax c ∷ []) (value_end syntax s.value)

abbrev pub moved : Syntax → (Chars → Option ℕ) → TagState → ℕ → Option (TagPhase × TagAction) → Result TagState Kind
moved syntax means s c None = Err BadTag
moved syntax means s c (Some (p, a)) = done_by syntax means s c p a

-- the state after one more character, names that stand twice not being looked at
abbrev pub tag_move : Syntax → (Chars → Option ℕ) → TagState → ℕ → Result TagState Kind
tag_move syntax means s c = moved syntax means s c (move_of syntax s.phase c)

abbrev pub tag_move_on : Syntax → (Chars → Option ℕ) → Result TagState Kind → ℕ → Result TagState Kind
tag_move_on syntax means (Ok s) c = tag_move syntax means s c
tag_move_on syntax means (Err kind) c = Err kind

abbrev pub moves_on : Syntax → (Chars → Option ℕ) → Result TagState Kind → Chars → Result TagState Kind
moves_on syntax means reached [] = reached
moves_on syntax means reached (c ∷ text) = moves_on syntax means (tag_move_on syntax means reached c) text

-- At the tag's `>` no name may stand twice in XHTML.
abbrev pub checked : Syntax → Result TagState Kind → Result TagState Kind
checked syntax (Ok s) = if is_last s.phase && is_repeated syntax s.attributes then Err RepeatedAttribute else Ok s
checked syntax (Err kind) = Err kind

-- the state after one more character, or the fault that it decides
abbrev pub tag_step : Syntax → (Chars → Option ℕ) → TagState → ℕ → Result TagState Kind
tag_step syntax means s c = checked syntax (tag_move syntax means s c)

abbrev pub tag_step_on : Syntax → (Chars → Option ℕ) → Result TagState Kind → ℕ → Result TagState Kind
tag_step_on syntax means (Ok s) c = tag_step syntax means s c
tag_step_on syntax means (Err kind) c = Err kind

-- the state after these characters, or the first fault in them
abbrev pub tag_on : Syntax → (Chars → Option ℕ) → Result TagState Kind → Chars → Result TagState Kind
tag_on syntax means reached [] = reached
tag_on syntax means reached (c ∷ text) = tag_on syntax means (tag_step_on syntax means reached c) text

abbrev pub is_closing : TagPhase → Bool
is_closing phase.Closed = true
is_closing _ = false

abbrev pub is_emptied : TagPhase → Bool
is_emptied phase.Emptied = true
is_emptied _ = false

-- the tag's parts, all attributes in order, and the tag that was read
abbrev pub parts_of : TagState → Tag
parts_of s = record { closing = is_closing s.phase; name = s.name; attributes = s.attributes; slash = is_emptied s.phase }

abbrev pub tag_of : TagState → Tag
tag_of s = record { closing = is_closing s.phase; name = s.name; attributes = firsts s.attributes; slash = is_emptied s.phase }
