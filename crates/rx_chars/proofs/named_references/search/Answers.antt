use Rattle.std.proofs.Common.{rules, ℕ, List, Bor, sym}
use Rattle.std.proofs.lemmas.List.Sorted.{answers_always}
use Rattle.rx_chars.proofs.NamedLemmas.{found_at, found_nowhere}
use Rattle.rx_chars.proofs.named_references.search.Goals as goal

pub returns-in-Ok : goal.returns-in-Ok
returns-in-Ok c =
    let found = c.in-Ok.ensures.position (λ (row : Bor (List ℕ) × ℕ). row.0) (answers_always _ _ _ (λ f a r g called. search rules)) in
    sym (found_at (λ row. row.0.now) (λ row. row.1) c.args.rows.now c.in-Ok.at _ c.args.name.now c.requires c.in-Ok.ensures.bound (found _))

pub returns-in-Err : goal.returns-in-Err
returns-in-Err c =
    let gap = c.in-Err.ensures.position (λ (row : Bor (List ℕ) × ℕ). row.0) (answers_always _ _ _ (λ f a r g called. search rules)) in
    sym (found_nowhere (λ row. row.0.now) (λ row. row.1) c.args.rows.now c.args.name.now c.in-Err.field-0 c.requires gap)
