use Rattle.rx_items.proofs.Common.{◌∙◌, [], ◌∷◌, ap, sym, on_ok_weaker, data_events, one, told_as, is_item, said, string_of, is_there, value_at}
use Rattle.serde.specs.Event as event
use Rattle.rx_items.proofs.WritingLemmas.{value_none, value_plain, data_told}
use Rattle.rx_items.proofs.writing.write_plain_at.Goals as goal

pub returns-in_default : goal.returns-in_default
returns-in_default g c rows base left holds plain =
    let none = value_none rows base left c.args.place (c.in_default.ensures rows base holds) in
    on_ok_weaker c.unit.result (λ wrote. told_as (event.nothing ∷ []) (data_events (value_at rows base left c.args.place)) none (one _ _ event.nothing wrote)) c.unit.ensures

pub returns : goal.returns
returns g c rows base left holds plain =
    let at = c.in-Some.ensures rows base holds in
    on_ok_weaker c.write_plain.result
    (λ wrote. data_told (string_of (said c.args.kept.now.base at.0.facts.value)) (value_at rows base left c.args.place)
    (ap (λ b. string_of (said b at.0.facts.value)) holds.base_is ∙ value_plain rows base left c.args.place at.0 at.1 (sym (ap (is_there is_item) at.1) ∙ plain)) wrote)
    (c.write_plain.ensures at.0.facts.value at.2)
