use Rattle.rx_refs.proofs.Common.{◌∙◌, List, ℕ, length, take, ap, subst, sym, string_bytes, IsCharBoundary, IsUtf8-string_bytes}
use Rattle.rx_refs.proofs.EscapeLemmas.{kept-boundary, kept-front}
use Rattle.rx_refs.proofs.escapes.push_or_undo.Goals as goal

pub truncate-requires : goal.truncate-requires
truncate-requires c =
    let old = string_bytes c.args.out.now in
    let new = string_bytes c.push_escaping.new.out in
    let kept = kept-boundary old new (IsUtf8-string_bytes c.args.out.now) (IsUtf8-string_bytes c.push_escaping.new.out) c.in-Err.ensures.front in
    let here : IsCharBoundary new (length c.as_str-before.result.now) = subst (λ (x : List ℕ). IsCharBoundary new (length x)) (sym c.as_str-before.ensures.value) kept in
    λ within. (here.0, λ some. here.1)

pub returns-in-Err-clause-err : goal.returns-in-Err-clause-err
returns-in-Err-clause-err c =
    let new = string_bytes c.push_escaping.new.out in
    c.truncate.ensures.bytes ∙ ap (λ (x : List ℕ). take (length x) new) c.as_str-before.ensures.value ∙ kept-front (string_bytes c.args.out.now) new c.in-Err.ensures.front
