-- Names are compared with words of ASCII as their bytes are.
use Rattle.rx_grammar.proofs.Common.{◌≡◌, ℕ, Bool, true, List, [], ◌∷◌, refl, chars, IsUtf8, list_all, and_parts, is_ascii, Chars, same-ascii, is_among, row_among}

abbrev pub are_ascii : List Chars → Bool
are_ascii names = list_all (list_all is_ascii) names

pub among-chars : (names : List Chars) → are_ascii names ≡ true → (bs : List ℕ) → IsUtf8 bs → is_among names bs ≡ is_among names (chars bs)
among-chars [] h bs u = refl
among-chars (name ∷ names) h bs u =
    let p = and_parts (list_all is_ascii name) (are_ascii names) h in
    rw (same-ascii bs name u p.0, among-chars names p.1 bs u) refl

abbrev pub rows_ascii : List (Chars × List Chars) → Bool
rows_ascii rows = list_all (λ row. list_all is_ascii row.0) rows

pub row-chars : (rows : List (Chars × List Chars)) → rows_ascii rows ≡ true → (bs : List ℕ) → IsUtf8 bs → row_among rows bs ≡ row_among rows (chars bs)
row-chars [] h bs u = refl
row-chars (row ∷ rows) h bs u =
    let p = and_parts (list_all is_ascii row.0) (rows_ascii rows) h in
    rw (same-ascii bs row.0 u p.0, row-chars rows p.1 bs u) refl
