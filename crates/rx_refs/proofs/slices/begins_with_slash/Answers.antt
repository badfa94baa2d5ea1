use Rattle.rx_refs.proofs.Common.{◌≡◌, ◌≢◌, ℕ, List, ◌∷◌, [], ◌++◌, Bool, true, false, sym, ap, ◌∙◌, drop, lit<, chars, IsUtf8, IsCharBoundary, encode_ascii, begins_with, FindsCharPrefix, Some, None, drop_at_char}
use Rattle.std.specs.Bool.{MatchBool}
use Rattle.rx_refs.proofs.CutLemmas.{past-slash, prefix-none}
use Rattle.rx_refs.proofs.slices.begins_with_slash.Goals as goal

in_chars : (bs : List ℕ) (r : Bool) → IsUtf8 bs → MatchBool r ((n : ℕ) × FindsCharPrefix 47 bs (Some n) × IsCharBoundary bs n) (FindsCharPrefix 47 bs None) → r ≡ begins_with (47 ∷ []) (chars bs)
in_chars bs true u h =
    let here : bs ≡ 47 ∷ drop h.0 bs = drop_at_char 47 bs 0 h.0 h.1 (lit< tt) in
    sym (ap (begins_with (47 ∷ [])) (past-slash bs (drop h.0 bs) u here).0)
in_chars bs false u h =
    let none : (rest : List ℕ) → bs ≢ (47 ∷ []) ++ rest = λ rest e. h rest (e ∙ sym (ap (λ (x : List ℕ). x ++ rest) (encode_ascii 47 (lit< tt)))) in
    sym (prefix-none (47 ∷ []) bs (ap (λ (x : List ℕ). x ++ []) (encode_ascii 47 (lit< tt))) u none)

pub returns : goal.returns
returns c = in_chars c.args.text.now c.starts_with.result c.utf8.text c.starts_with.ensures.cases
