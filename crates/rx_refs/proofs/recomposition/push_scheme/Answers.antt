use Rattle.rx_refs.proofs.Common.{◌≡◌, ◌∙◌, ◌++◌, ◌∷◌, [], ℕ, List, Option, sym, ap, refl, string_bytes, codes, OnOk, Ok, Err, Result, chars, Chars, seen_slice, ascii-chars, Bor, append_assoc, delimited}
use Rattle.rx_refs.proofs.recomposition.push_scheme.Goals as goal

on_ok : {E : Type 0} (r : Result (Unit {0}) E) (new a b : Chars) → a ≡ b → OnOk r (new ≡ a) → OnOk r (new ≡ b)
on_ok (Ok x) new a b e h = h ∙ e
on_ok (Err x) new a b e h = tt

both : (old mid scheme colon : Chars) → mid ≡ old ++ scheme → colon ≡ 58 ∷ [] → mid ++ colon ≡ old ++ (scheme ++ 58 ∷ [])
both old mid scheme colon e f = rw (e, f) (append_assoc old scheme (58 ∷ []))

pub returns : goal.returns
returns c =
    let old : Chars = chars (string_bytes c.args.text.now) in
    let mid : Chars = chars (string_bytes c.push_text.new.text) in
    let scheme : Chars = chars c.in-Some.scheme.now in
    let form : Option (Bor (List ℕ)) → Chars = λ o. old ++ delimited (λ (s : Chars). s ++ codes ":") (seen_slice o) in
    on_ok c.push_text-2.result (chars (string_bytes c.push_text-2.new.text)) (mid ++ chars (58 ∷ [])) (form c.args.scheme)
    (both old mid scheme (chars (58 ∷ [])) c.in_ok-push_text.ensures (ascii-chars (58 ∷ []) refl) ∙ ap form (sym c.in-Some.is)) c.push_text-2.ensures
