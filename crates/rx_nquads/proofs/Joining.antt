-- What a text denotes whose parts denote something: of one line, and of one text behind another.
use Rattle.rx_model.proofs.Common.{◌≡◌, ◌⊎◌, ℕ, true, List, [], ◌∷◌, ◌++◌, Option, refl, sym, ap, ◌∙◌, inl, inr, subst, append-nil, arith, None, line_feed, number_sign, Chars, flat_map-append, Among, Triple, Among_cases, Among_left, Among_right}
use Rattle.rx_nquads.specs.Quads.{Quad, quad_of}
use Rattle.rx_nquads.specs.Document.{States, HasNoStatement, Nquads, joined_lines, has_no_line_feed}
use Rattle.rx_nquads.specs.Writing.{line_text}
use Rattle.rx_pieces.specs.Writable.{WritableTriple}
use Rattle.rx_nquads.proofs.Cuts.{lacks}
use Rattle.rx_nquads.proofs.OneMeaning.{node_begins}
use Rattle.rx_nquads.proofs.Denoting.{denotes}

pub denotes_none : Nquads [] []
denotes_none = denotes None [] (λ t m. absurd m)

-- ---- a line

-- what an only line is
only : {A : Type 0} (x y : A) → Among (x ∷ []) y → x ≡ y
only x y (inl e) = e
only x y (inr n) = absurd n

one_line : (line : Chars) → line ++ line_feed ∷ [] ≡ joined_lines (line ∷ [])
one_line line = sym (append-nil (line ++ line_feed ∷ []))

-- a comment is no statement
no_statement : (line : Chars) (q : Quad) → States (number_sign ∷ line) q → ⊥
no_statement line q s = node_begins number_sign (λ e. omega (arith, e)) (λ e. omega (arith, e)) s.subject q.triple.subject s.subject_spelled _ line (sym s.spelled)

pub denotes_comment : (line : Chars) → lacks line_feed (number_sign ∷ line) ≡ true → Nquads ((number_sign ∷ line) ++ line_feed ∷ []) []
denotes_comment line h =
    let whole : Chars = number_sign ∷ line in
    record {
      lines = whole ∷ [];
      ended = one_line whole;
      unbroken = λ other m. subst (λ (z : Chars). has_no_line_feed z ≡ true) (only whole other m) h;
      each = λ other m. inl (subst (λ (z : Chars). HasNoStatement z) (only whole other m) refl);
      stated = λ q. (λ m. absurd m, λ s. absurd (no_statement line q (subst (λ (z : Chars). States z q) (sym (only whole s.0 s.1)) s.2)));
    }

pub denotes_line : (name : Option Chars) (t : Triple ℕ) → WritableTriple name t → Nquads (line_text name t) (quad_of name t ∷ [])
denotes_line name t w = subst (λ (z : Chars). Nquads z (quad_of name t ∷ [])) (append-nil (line_text name t)) (denotes name (t ∷ []) (λ u m. subst (WritableTriple name) (only t u m) w))

-- ---- one text behind another

joined_both : (xs ys : List Chars) → joined_lines (xs ++ ys) ≡ joined_lines xs ++ joined_lines ys
joined_both xs ys = flat_map-append (λ line. line ++ line_feed ∷ []) xs ys

module _ (a b : Chars) (xs ys : List Quad) (h : Nquads a xs) (k : Nquads b ys) where
  stated_in : (q : Quad) → Among (xs ++ ys) q → (line : Chars) × Among (h.lines ++ k.lines) line × States line q
  stated_in q m = go (Among_cases xs ys q m)
    where
      go : Among xs q ⊎ Among ys q → (line : Chars) × Among (h.lines ++ k.lines) line × States line q
      go (inl n) = let s = (h.stated q).0 n in (s.0, Among_left h.lines k.lines s.0 s.1, s.2)
      go (inr n) = let s = (k.stated q).0 n in (s.0, Among_right h.lines k.lines s.0 s.1, s.2)

  states_in : (q : Quad) (line : Chars) → Among h.lines line ⊎ Among k.lines line → States line q → Among (xs ++ ys) q
  states_in q line (inl n) s = Among_left xs ys q ((h.stated q).1 (line, n, s))
  states_in q line (inr n) s = Among_right xs ys q ((k.stated q).1 (line, n, s))

  pub denotes_both : Nquads (a ++ b) (xs ++ ys)
  denotes_both = record {
    lines = h.lines ++ k.lines;
    ended = ap (λ z. z ++ b) h.ended ∙ ap (λ z. joined_lines h.lines ++ z) k.ended ∙ sym (joined_both h.lines k.lines);
    unbroken = λ line m. elim (Among_cases h.lines k.lines line m) [ inl n ↦ h.unbroken line n | inr n ↦ k.unbroken line n ];
    each = λ line m. elim (Among_cases h.lines k.lines line m) [ inl n ↦ h.each line n | inr n ↦ k.each line n ];
    stated = λ q. (λ m. stated_in q m, λ (line, m, s). states_in q line (Among_cases h.lines k.lines line m) s);
  }
