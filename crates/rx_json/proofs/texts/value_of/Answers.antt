use Rattle.std.proofs.Common.{◌≡◌, ◌∙◌, sym, Some}
use Rattle.serde_json.specs.View.{view}
use Rattle.rx_json.proofs.EventLemmas.{value_told}
use Rattle.rx_json.proofs.texts.value_of.Goals as goal

pub returns-in-Ok : goal.returns-in-Ok
returns-in-Ok g c told plain shallow tells =
    let sent = c.in-Ok.ensures.events in
    let same : Some (view c.in-Ok.value) ≡ Some told = sym sent.4 ∙ value_told told plain shallow sent.0 sent.1 (tells sent.0 sent.2) sent.3 in
    cc
