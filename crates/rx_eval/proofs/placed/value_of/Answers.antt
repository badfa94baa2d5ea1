use Rattle.rx_eval.proofs.Common.{◌≡◌, ◌∙◌, ap, subst, sym, ℕ, Option, option_map, None, Some, IfOk, unwrap_or, chars, Chars, term_seen, Term, Resources, rule, value_now, value_of_text, facts_seen, labelled, moment, value_with}
use Rattle.rx_eval.specs.Placing.{placed_seen}
use Rattle.rx_eval.proofs.TextLemmas.{ok_text}
use Rattle.rx_eval.proofs.placed.value_of.Goals as goal

pub returns-in-Some : goal.returns-in-Some
returns-in-Some c =
    let facts = facts_seen c.args.facts.now in
    let naming = moment c.args.labels.now 0 0 0 in
    let here = placed_seen c.args.placed.now in
    let against = c.of-against.result in
    let text = chars c.args.text.now in
    let known : Some (term_seen c.in-Some.value) ≡ value_now (rule naming against facts here) facts =
    sym (ap (option_map term_seen) c.in-Some.is) ∙ c.in_ok-value.ensures
    ∙ ap (λ (h : Resources ℕ). value_now (rule naming against facts h) facts) c.in_ok-found.ensures in
    subst (λ (base : Chars). term_seen c.in-Some.value ≡ value_with (labelled c.args.labels.now) base facts here text) (c.of-against.ensures ∙ c.in_ok-copy.ensures)
    (ap (λ (o : Option (Term ℕ)). unwrap_or o (value_of_text (rule naming against facts here) facts text)) known)

pub returns : goal.returns
returns c =
    let facts = facts_seen c.args.facts.now in
    let naming = moment c.args.labels.now 0 0 0 in
    let here = placed_seen c.args.placed.now in
    let against = c.of-against.result in
    let none : None ≡ value_now (rule naming against facts here) facts =
    sym (ap (option_map term_seen) c.in-None.is) ∙ c.in_ok-value.ensures
    ∙ ap (λ (h : Resources ℕ). value_now (rule naming against facts h) facts) c.in_ok-found.ensures in
    subst (λ (base : Chars). IfOk c.value.result (λ term. term_seen term ≡ value_with (labelled c.args.labels.now) base facts here (chars c.args.text.now)))
    (c.of-against.ensures ∙ c.in_ok-copy.ensures)
    (ok_text facts (rule naming against facts here) _ (chars c.args.text.now) c.value.result none
    (c.in_ok-of-in-None.ensures.literal naming against here (sym none) (chars c.args.text.now)) c.value.ensures)
