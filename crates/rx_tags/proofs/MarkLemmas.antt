-- Names that have different marks are different.
use Rattle.rx_grammar.proofs.Common.{◌≡◌, ◌∙◌, sym, ap, ap₂, refl, ℕ, ◌+◌, ◌<◌, List, [], ◌∷◌, length, take, Bool, true, false, get_or, eqb-true, inl, inr, ◌==◌, ◌||◌, nat_eq, slice_set, and_parts, eqb-false, get_or-set_other, by_test, either, not_both_ways, get_or-set_at, same}
use Rattle.rx_tags.specs.declared.attributes.AttributeSpan.{AttributeSpan}
use Rattle.rx_tags.specs.Reading.{piece}
use Rattle.rx_tags.specs.Repeats.{mark_of, row_has_name}
use Rattle.rx_tags.proofs.RepeatLemmas.{at, names_turn}

-- the mark of each name of these rows stands
abbrev pub Marked : List ℕ → List AttributeSpan → List Bool → Type 0
Marked text rows marks = (name : List ℕ) → row_has_name text rows name ≡ true → get_or marks (mark_of name) false ≡ true

same_is : (a b : List ℕ) → same a b ≡ true → a ≡ b
same_is [] [] h = refl
same_is (x ∷ a) (y ∷ b) h = let k = and_parts (nat_eq x y) _ h in ap₂ (λ c l. c ∷ l) (eqb-true x y k.0) (same_is a b k.1)
same_is _ _ h = absurd (cc)

-- a mark stays
stays : (marks : List Bool) (m j : ℕ) → m < length marks → get_or marks j false ≡ true → get_or (slice_set marks m true) j false ≡ true
stays marks m j l h = by_test (j == m) (λ e. get_or-set_at marks m j true false (eqb-true j m e) l) (λ e. get_or-set_other marks m j true false (eqb-false j m e) ∙ h)

-- a row more, whose name gets its mark
pub marks_turn : (text : List ℕ) (rows : List AttributeSpan) (i m : ℕ) (marks : List Bool) → i < length rows → m < length marks → Marked text (take i rows) marks
    → m ≡ mark_of (piece text (at rows i).start (at rows i).middle) → Marked text (take (i + 1) rows) (slice_set marks m true)
marks_turn text rows i m marks h l k e name is =
    let own = piece text (at rows i).start (at rows i).middle in
    let told : (same own name || row_has_name text (take i rows) name) ≡ true = names_turn text rows i name (row_has_name text (take i rows) name) (same own name || row_has_name text (take i rows) name) h refl refl ∙ is in
    elim (either (same own name) (row_has_name text (take i rows) name) told) [
      | inl a ↦ get_or-set_at marks m (mark_of name) true false (ap mark_of (sym (same_is own name a)) ∙ sym e) l
      | inr b ↦ stays marks m (mark_of name) l (k name b)
    ]

-- a name whose mark doesn't stand is in no row
pub unmarked : (text : List ℕ) (rows : List AttributeSpan) (marks : List Bool) (name : List ℕ) → Marked text rows marks → get_or marks (mark_of name) false ≡ false → row_has_name text rows name ≡ false
unmarked text rows marks name k h = by_test (row_has_name text rows name) (λ e. absurd (not_both_ways (get_or marks (mark_of name) false) (k name e) h)) (λ e. e)
