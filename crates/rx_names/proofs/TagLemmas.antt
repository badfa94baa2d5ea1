-- Attributes of the tag that is lent.
use Rattle.rx_names.proofs.Common.{◌≡◌, ◌∙◌, ap, sym, refl, Option, Some, None, MatchOption, List, [], ◌∷◌, ℕ, Bor, true, bytes_eq, cond, list_all, chars, is_ascii, Chars, seen_slice, ascii-chars, value_of_first, value_of}

same-attribute : (attributes : List (Chars × Chars)) (name : Chars) → value_of attributes name ≡ value_of_first attributes name
same-attribute [] name = refl
same-attribute (a ∷ more) name = ap (λ (x : Option Chars). cond (bytes_eq a.0 name) (Some a.1) x) (same-attribute more name)

pub found-attribute : (attributes : List (Chars × Chars)) (name : List ℕ) (r : Option (Bor (List ℕ))) → list_all is_ascii name ≡ true
    → MatchOption r (value_of attributes (chars name) ≡ None) (λ value. value_of attributes (chars name) ≡ Some (chars value.now))
    → seen_slice r ≡ value_of_first attributes name
found-attribute attributes name None h e = sym (sym (same-attribute attributes name) ∙ ap (value_of attributes) (sym (ascii-chars name h)) ∙ e)
found-attribute attributes name (Some value) h e = sym (sym (same-attribute attributes name) ∙ ap (value_of attributes) (sym (ascii-chars name h)) ∙ e)
