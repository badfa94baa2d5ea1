-- Words, as they are read.
use Rattle.rx_rdfa.proofs.Common.{◌≡◌, ◌≢◌, ◌∙◌, ℕ, Bool, true, false, List, [], ◌∷◌, ◌++◌, reverse, Option, Some, None, MatchOption, Bor, codes, sym, ap, refl, arith, ◌==◌, is_some, chars, nat_tests, reverse-append, reverse-reverse, right_bracket, left_bracket, Chars, begins_with, is_empty, seen_slice, has_scheme, ascii-chars, by_test, ElementTag, Context}
use Rattle.rx_rdfa.specs.Readings.{Joined, read_parts, xhtml_vocabulary}
use Rattle.rx_curie.specs.Brackets.{before_bracket, inside_brackets}
use Rattle.rx_reader.proofs.Fronts.{begins_append}

pub begins-some : (front text : Chars) (r : Option (Bor (List ℕ))) → MatchOption r (begins_with front text ≡ false) (λ rest. text ≡ front ++ chars rest.now) → is_some r ≡ begins_with front text
begins-some front text None h = sym h
begins-some front text (Some rest) h = sym (ap (begins_with front) h ∙ begins_append front (chars rest.now))

slashes : chars (codes "//") ≡ codes "//"
slashes = ascii-chars (codes "//") refl

pub begins-slashes : (text : Chars) (r : Option (Bor (List ℕ))) → MatchOption r (begins_with (chars (codes "//")) text ≡ false) (λ rest. text ≡ chars (codes "//") ++ chars rest.now) → is_some r ≡ begins_with (codes "//") text
begins-slashes text r h = begins-some (chars (codes "//")) text r h ∙ ap (λ (x : Chars). begins_with x text) slashes

-- Brackets

bracket : chars (codes "[") ≡ codes "["
bracket = ascii-chars (codes "[") refl

pub no-bracket : (text : Chars) → begins_with (chars (codes "[")) text ≡ false → None ≡ inside_brackets text
no-bracket text h = go text (sym (ap (λ (x : Chars). begins_with x text) bracket) ∙ h) where
  go : (text : Chars) → begins_with (codes "[") text ≡ false → None ≡ inside_brackets text
  go [] h = refl
  go (c ∷ text) h = by_test (c == left_bracket) (λ t. let same : (91 == c) ≡ true = grind (arith, nat_tests) in let g : true ≡ false = rw same at h in absurd (cc g)) (λ t. rw t refl)

last-bracket : (rest front : Chars) → rest ≡ front ++ right_bracket ∷ [] → before_bracket (reverse rest) ≡ Some front
last-bracket rest front e = ap before_bracket (ap reverse e ∙ reverse-append front (right_bracket ∷ [])) ∙ ap Some (reverse-reverse front)

no-last-bracket : (rest : Chars) → ((front : Chars) → rest ≢ front ++ right_bracket ∷ []) → before_bracket (reverse rest) ≡ None
no-last-bracket rest h = go (reverse rest) refl where
  go : (r : Chars) → reverse rest ≡ r → before_bracket (reverse rest) ≡ None
  go [] e = ap before_bracket e
  go (c ∷ r) e =
      by_test (c == right_bracket) (λ t.
      let same : c ≡ right_bracket = grind (arith, nat_tests) in
      let whole : rest ≡ reverse r ++ c ∷ [] = sym (reverse-reverse rest) ∙ ap reverse e ∙ reverse-append (c ∷ []) r in
      absurd (h (reverse r) (whole ∙ ap (λ (x : ℕ). reverse r ++ x ∷ []) same))) (λ t. ap before_bracket e ∙ rw t refl)

pub in-brackets : (text rest : Chars) (r : Option (Bor (List ℕ))) → text ≡ chars (codes "[") ++ rest
    → MatchOption r ((front : Chars) → rest ≢ front ++ right_bracket ∷ []) (λ front. rest ≡ chars front.now ++ right_bracket ∷ []) → seen_slice r ≡ inside_brackets text
in-brackets text rest r e h = go r h ∙ sym (ap inside_brackets (e ∙ ap (λ (x : Chars). x ++ rest) bracket)) where
  go : (r : Option (Bor (List ℕ))) → MatchOption r ((front : Chars) → rest ≢ front ++ right_bracket ∷ []) (λ front. rest ≡ chars front.now ++ right_bracket ∷ []) → seen_slice r ≡ before_bracket (reverse rest)
  go None h = sym (no-last-bracket rest h)
  go (Some front) h = sym (last-bracket rest (chars front.now) h)

-- The empty prefix

xhtml : chars xhtml_vocabulary ≡ xhtml_vocabulary
xhtml = ascii-chars xhtml_vocabulary refl

pub xhtml-scheme : has_scheme (chars xhtml_vocabulary) ≡ true
xhtml-scheme = ap has_scheme xhtml ∙ refl

pub empty-prefix : (context : Context) (line : List ElementTag) (prefix reference : Chars) (b : Bool) → b ≡ is_empty prefix → b ≡ true
    → Some (Joined (chars xhtml_vocabulary) reference) ≡ read_parts context line prefix reference
empty-prefix context line [] reference b e h = ap (λ (x : Chars). Some (Joined x reference)) xhtml
empty-prefix context line (c ∷ prefix) reference b e h = let g : true ≡ false = sym h ∙ e in absurd (cc g)
