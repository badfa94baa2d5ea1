-- A tag that is read one character at a time by the table alone: what is written so far, and the phases.
use Rattle.rx_grammar.proofs.Common.{◌≡◌, ℕ, true, false, List, [], ◌∷◌, ◌++◌, Option, Some, None, refl, ap, sym, ◌∙◌, Chars, not_both_ways, Syntax, Attribute}
use Rattle.rx_reader.specs.declared.phases.TagPhase.{TagPhase}
use Rattle.rx_reader.specs.declared.phases.TagPhase.TheVariants as phase
use Rattle.rx_reader.specs.declared.phases.TagAction.TheVariants as action
use Rattle.rx_reader.specs.Tables.{Move, move_of, is_last}

-- the tag's name, the attributes that are whole, and the name and the value of the one that is read
pub record Written : Type 0 where
  pub phase : TagPhase
  pub name : Chars
  pub attributes : List Attribute
  pub key : Chars
  pub value : Chars

abbrev pub at : TagPhase → Chars → List Attribute → Chars → Chars → Written
at p name attributes key value = record { phase = p; name = name; attributes = attributes; key = key; value = value }

abbrev pub nothing_written : Written
nothing_written = at phase.Start [] [] [] []

abbrev pub written_by : Written → ℕ → Move → Option Written
written_by w c None = None
written_by w c (Some (p, action.Skip)) = Some (at p w.name w.attributes w.key w.value)
written_by w c (Some (p, action.Name)) = Some (at p (w.name ++ c ∷ []) w.attributes w.key w.value)
written_by w c (Some (p, action.Key)) = Some (at p w.name w.attributes (w.key ++ c ∷ []) w.value)
written_by w c (Some (p, action.Value)) = Some (at p w.name w.attributes w.key (w.value ++ c ∷ []))
written_by w c (Some (p, action.Add)) = Some (at p w.name (w.attributes ++ (w.key, w.value) ∷ []) [] [])
written_by w c (Some (p, action.AddKey)) = Some (at p w.name (w.attributes ++ (w.key, w.value) ∷ []) (c ∷ []) [])

abbrev pub written_step : Syntax → Option Written → ℕ → Option Written
written_step s None c = None
written_step s (Some w) c = written_by w c (move_of s w.phase c)

abbrev pub written_on : Syntax → Option Written → Chars → Option Written
written_on s o [] = o
written_on s o (c ∷ text) = written_on s (written_step s o c) text

pub written_none : (s : Syntax) (text : Chars) → written_on s None text ≡ None
written_none s [] = refl
written_none s (c ∷ text) = written_none s text

pub written-append : (s : Syntax) (o : Option Written) (a b : Chars) → written_on s o (a ++ b) ≡ written_on s (written_on s o a) b
written-append s o [] b = refl
written-append s o (c ∷ a) b = written-append s (written_step s o c) a b

pub as_written : (v w : Written) → ◌≡◌ {A = Option Written} (Some v) (Some w) → v ≡ w
as_written v w h = cc

pub not_last : (v last : Written) (G : Type 0) → ◌≡◌ {A = Option Written} (Some v) (Some last) → is_last v.phase ≡ false → is_last last.phase ≡ true → G
not_last v last G h n l = absurd (not_both_ways (is_last last.phase) l (ap (λ x. is_last x.phase) (sym (as_written v last h)) ∙ n))

-- the phases are the table's
abbrev pub phase_by : Move → Option TagPhase
phase_by None = None
phase_by (Some m) = Some m.0

abbrev pub phase_on : Syntax → Option TagPhase → ℕ → Option TagPhase
phase_on s None c = None
phase_on s (Some p) c = phase_by (move_of s p c)

abbrev pub phases_on : Syntax → Option TagPhase → Chars → Option TagPhase
phases_on s o [] = o
phases_on s o (c ∷ text) = phases_on s (phase_on s o c) text

phases_by : (s : Syntax) (text : Chars) (ih : (w last : Written) → written_on s (Some w) text ≡ Some last → phases_on s (Some w.phase) text ≡ Some last.phase) (w last : Written) (c : ℕ) (m : Move)
    → written_on s (written_by w c m) text ≡ Some last → phases_on s (phase_by m) text ≡ Some last.phase
phases_by s text ih w last c None h = absurd (let k = written_none s text in cc)
phases_by s text ih w last c (Some (p, action.Skip)) h = ih (at p w.name w.attributes w.key w.value) last h
phases_by s text ih w last c (Some (p, _)) h = let k = ih _ last h in k

pub written_phases : (s : Syntax) (text : Chars) (w last : Written) → written_on s (Some w) text ≡ Some last → phases_on s (Some w.phase) text ≡ Some last.phase
written_phases s [] w last h = ap (λ x. Some x.phase) (as_written w last h)
written_phases s (c ∷ text) w last h = phases_by s text (written_phases s text) w last c (move_of s w.phase c) h

pub phases_none : (s : Syntax) (text : Chars) → phases_on s None text ≡ None
phases_none s [] = refl
phases_none s (c ∷ text) = phases_none s text

pub phases-append : (s : Syntax) (o : Option TagPhase) (a b : Chars) → phases_on s o (a ++ b) ≡ phases_on s (phases_on s o a) b
phases-append s o [] b = refl
phases-append s o (c ∷ a) b = phases-append s (phase_on s o c) a b

-- a phase in which the tag is whole
pub record Whole (s : Syntax) (o : Option TagPhase) (text : Chars) : Type 0 where
  pub q : TagPhase
  pub reads : phases_on s o text ≡ Some q
  pub whole : is_last q ≡ true

pub nowhere : (s : Syntax) (text : Chars) (G : Type 0) → Whole s None text → G
nowhere s text G w = absurd (let e = phases_none s text in let h = w.reads in cc)

-- what comes after the next character
pub next : (s : Syntax) (p : TagPhase) (c : ℕ) (text : Chars) → Whole s (Some p) (c ∷ text) → Whole s (phase_by (move_of s p c)) text
next s p c text w = record { q = w.q; reads = w.reads; whole = w.whole }

pub not_whole : (s : Syntax) (p : TagPhase) (G : Type 0) → is_last p ≡ false → Whole s (Some p) [] → G
not_whole s p G n w = absurd (not_both_ways (is_last p) (let e : p ≡ w.q = let r = w.reads in cc in ap is_last e ∙ w.whole) n)
