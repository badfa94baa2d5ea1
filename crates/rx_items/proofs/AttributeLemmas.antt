-- The value of a tag's attribute, whose name is ASCII.
use Rattle.rx_grammar.proofs.Common.{◌≡◌, ℕ, true, List, Option, Some, None, MatchOption, list_all, chars, sym, ap, ◌∙◌, is_ascii, ascii-chars, seen_slice, Bor, Attribute, value_of}

pub found : (attributes : List Attribute) (name : List ℕ) (result : Option (Bor (List ℕ))) → list_all is_ascii name ≡ true
    → MatchOption result (value_of attributes (chars name) ≡ None) (λ value. value_of attributes (chars name) ≡ Some (chars value.now))
    → seen_slice result ≡ value_of attributes name
found attributes name None ascii h = sym h ∙ ap (value_of attributes) (ascii-chars name ascii)
found attributes name (Some value) ascii h = sym h ∙ ap (value_of attributes) (ascii-chars name ascii)
