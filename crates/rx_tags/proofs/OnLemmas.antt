-- What ends a value, a name or a run is read like one character more.
use Rattle.rx_reader.proofs.Common.{◌≡◌, ◌∙◌, ℕ, ◌+◌, ◌-◌, ◌<◌, ◌≤◌, true, false, List, [], length, take, drop, refl, ap, sym, subst, Result, Ok, Err, is_err, arith, eqb-true, get_or, cond-true, Chars, Syntax, meaning, Kind, Move, go, move_of, TagState, with_attribute, moved, checked}
use Rattle.rx_reader.specs.declared.phases.TagPhase.{TagPhase}
use Rattle.rx_reader.specs.declared.phases.TagPhase.TheVariants as phase
use Rattle.rx_reader.specs.declared.phases.TagAction.TheVariants as action
use Rattle.rx_tags.specs.Fronts.{is_printed, ends_value, SkipsCharacter, GoesTo, TakesFront, TakesOn}
use Rattle.rx_tags.specs.declared.pairs.TagError.{TagError}
use Rattle.rx_tags.specs.Pairs.{Pairs, AddGives}
use Rattle.rx_tags.specs.TagReads.{state_of}
use Rattle.rx_tags.proofs.TakeLemmas.{checked_open, takes_one, takes_then}

pub skips : (s : Syntax) (p next : TagPhase) (name : Chars) (pairs : Pairs) (c : ℕ) → SkipsCharacter p c next → GoesTo s (state_of p name pairs) c (state_of next name pairs)
skips s p next name pairs c h = (
  ap (λ (m : Move). checked s (moved s (meaning s) (state_of p name pairs) c m)) (h.move s) ∙ checked_open s (state_of next name pairs) h.unfinished,
  h.unfinished,
)

pub skipped : (s : Syntax) (p next : TagPhase) (name : Chars) (pairs : Pairs) (bytes : List ℕ) (i : ℕ) → i < length bytes → SkipsCharacter p (get_or bytes i 0) next
    → TakesOn s (state_of p name pairs) bytes i (i + 1) (state_of next name pairs)
skipped s p next name pairs bytes i k h start f =
    takes_one s start (state_of p name pairs) (state_of next name pairs) bytes i k f h.printed (skips s p next name pairs (get_or bytes i 0) h)

quote_move : (s : Syntax) (p : TagPhase) (c : ℕ) → ends_value p c ≡ true → move_of s p c ≡ go phase.AfterValue action.Add
quote_move s phase.DoubleQuoted c h = cond-true _ _ _ h
quote_move s phase.SingleQuoted c h = cond-true _ _ _ h
quote_move s _ c h = absurd (cc)

quote_printed : (p : TagPhase) (c : ℕ) → ends_value p c ≡ true → is_printed c ≡ true
quote_printed phase.DoubleQuoted c h = ap is_printed (eqb-true c 34 h)
quote_printed phase.SingleQuoted c h = ap is_printed (eqb-true c 39 h)
quote_printed _ c h = absurd (cc)

pub ends : (s : Syntax) (p : TagPhase) (name : Chars) (old new : Pairs) (c : ℕ) → ends_value p c ≡ true → AddGives s old (Ok tt) new → GoesTo s (state_of p name old) c (state_of phase.AfterValue name new)
ends s p name old new c h g =
    subst (λ (x : Pairs). GoesTo s (state_of p name old) c (state_of phase.AfterValue name x)) (sym g.2) (
      ap (λ (m : Move). checked s (moved s (meaning s) (state_of p name old) c m)) (quote_move s p c h)
          ∙ ap (λ (v : Result Chars Kind). checked s (with_attribute phase.AfterValue (state_of p name old) [] v)) g.1,
      refl,
    )

pub ended : (s : Syntax) (p : TagPhase) (name : Chars) (old new : Pairs) (bytes : List ℕ) (i : ℕ) → i < length bytes → ends_value p (get_or bytes i 0) ≡ true → AddGives s old (Ok tt) new
    → TakesOn s (state_of p name old) bytes i (i + 1) (state_of phase.AfterValue name new)
ended s p name old new bytes i k h g start f =
    takes_one s start (state_of p name old) (state_of phase.AfterValue name new) bytes i k f (quote_printed p (get_or bytes i 0) h) (ends s p name old new (get_or bytes i 0) h g)

pub given_ok : (s : Syntax) (old new : Pairs) (r : Result (Unit {0}) TagError) → false ≡ is_err r → AddGives s old r new → AddGives s old (Ok tt) new
given_ok s old new (Ok x) e g = g
given_ok s old new (Err x) e g = absurd (cc)

-- one front, and what is taken behind it
pub on_then : (s t : Syntax) (a b c : TagState) (bytes : List ℕ) (i n : ℕ) → t ≡ s → TakesOn t b bytes i n c → TakesFront s a bytes i b → TakesFront s a bytes n c
on_then s t a b c bytes i n e h f = subst (λ (x : Syntax). TakesFront x a bytes n c) e (h a (subst (λ (x : Syntax). TakesFront x a bytes i b) (sym e) f))

-- one character, where nothing was taken
pub one_taken : (s t : Syntax) (a b c : TagState) (bytes : List ℕ) (n : ℕ) → 0 < length bytes → n ≡ 0 → TakesFront s a bytes n b → t ≡ s → is_printed (get_or bytes 0 0) ≡ true → GoesTo t b (get_or bytes 0 0) c → TakesFront s a bytes 1 c
one_taken s t a b c bytes n k z f e p g =
    takes_one s a b c bytes 0 k (subst (λ (x : ℕ). TakesFront s a bytes x b) z f) p (subst (λ (x : Syntax). GoesTo x b (get_or bytes 0 0) c) e g)

-- nothing is taken yet
pub from_none : (s : Syntax) (a b : TagState) (bytes : List ℕ) (n : ℕ) → TakesOn s a bytes 0 n b → TakesFront s a bytes n b
from_none s a b bytes n h = h a (record { fits = omega arith; printed = refl; goes = refl })

-- what is taken behind a front
pub turn : (s t : Syntax) (a b c : TagState) (bytes : List ℕ) (i n : ℕ) → i ≤ length bytes → TakesFront s a bytes i b → t ≡ s → TakesFront t b (take (length bytes - i) (drop i bytes)) n c → TakesFront s a bytes (i + n) c
turn s t a b c bytes i n k f e g =
    takes_then s a b c bytes i n (omega (arith, k)) f (subst (λ (x : Syntax). TakesFront x b (take (length bytes - i) (drop i bytes)) n c) e g)
