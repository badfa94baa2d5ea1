use Rattle.rx_names.proofs.Common.{ℕ, List, Bor, sym, rules, chars, lowered, always_returns_same, byte_order}
use Rattle.rx_names.proofs.TableLemmas.{found_at, found_nowhere}
use Rattle.rx_names.proofs.GivenLemmas.{given-rises, given-iri}
use Rattle.rx_names.proofs.standard.find_lowered.Goals as goal

pub returns-in-Ok-clause-value : goal.returns-in-Ok-clause-value
returns-in-Ok-clause-value c =
    let found = c.in-Ok.ensures.position (λ (row : Bor (List ℕ) × Bor (List ℕ)). byte_order (chars row.0.now) (lowered (chars c.args.name.now))) (always_returns_same _ _ _ (λ a r f called. search rules)) in
    sym (found_at (λ row. chars row.0.now) (λ row. chars row.1.now) c.args.rows.now c.in-Ok.at _ (lowered (chars c.args.name.now)) (given-rises c.args.rows.now c.requires) c.in-Ok.ensures.bound (found _))

pub returns-in-Ok-clause-scheme : goal.returns-in-Ok-clause-scheme
returns-in-Ok-clause-scheme c = (given-iri c.args.rows.now c.in-Ok.at _ c.requires c.in-Ok.ensures.bound).scheme

pub returns-in-Err-clause-value : goal.returns-in-Err-clause-value
returns-in-Err-clause-value c =
    let gap = c.in-Err.ensures.position (λ (row : Bor (List ℕ) × Bor (List ℕ)). byte_order (chars row.0.now) (lowered (chars c.args.name.now))) (always_returns_same _ _ _ (λ a r f called. search rules)) in
    sym (found_nowhere (λ row. chars row.0.now) (λ row. chars row.1.now) c.args.rows.now (lowered (chars c.args.name.now)) c.in-Err._gap (given-rises c.args.rows.now c.requires) gap)
