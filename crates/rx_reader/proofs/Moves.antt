-- The phases among attributes are left for no others.
use Rattle.rx_grammar.proofs.Common.{◌≡◌, ℕ, Bool, true, false, cond, Some, ◌==◌, is_white_space, greater_than_sign, quotation_mark, apostrophe, split, Syntax}
use Rattle.rx_reader.specs.declared.phases.TagPhase.{TagPhase}
use Rattle.rx_reader.specs.declared.phases.TagPhase.TheVariants as phase
use Rattle.rx_reader.specs.declared.phases.TagAction.TheVariants as action
use Rattle.rx_reader.specs.Tables.{Move, move_of}

-- a phase after a start tag's name
abbrev pub is_among : TagPhase → Bool
is_among phase.Start = false
is_among phase.Name = false
is_among phase.EndStart = false
is_among phase.EndName = false
is_among phase.EndGap = false
is_among phase.Closed = false
is_among _ = true

-- the phases in which a value is read
abbrev pub is_value_phase : TagPhase → Bool
is_value_phase phase.DoubleQuoted = true
is_value_phase phase.SingleQuoted = true
is_value_phase phase.Unquoted = true
is_value_phase _ = false

-- in a value's phase each character belongs to the value or ends it
abbrev pub InValue : Move → Type 0
InValue (Some (p, action.Value)) = Unit {0}
InValue (Some (p, action.Add)) = Unit {0}
InValue _ = ⊥

pick : (b : Bool) (x y : Move) → InValue x → InValue y → InValue (cond b x y)
pick b x y h k = split InValue b x y (λ _. h) (λ _. k)

pub in_value : (s : Syntax) (p : TagPhase) (c : ℕ) → is_value_phase p ≡ true → InValue (move_of s p c)
in_value s phase.DoubleQuoted c h = pick (c == quotation_mark) _ _ tt tt
in_value s phase.SingleQuoted c h = pick (c == apostrophe) _ _ tt tt
in_value s phase.Unquoted c h = pick (is_white_space c) _ _ tt (pick (c == greater_than_sign) _ _ tt tt)
in_value s _ c h = absurd (cc)
