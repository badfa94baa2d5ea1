use Rattle.rx_json.proofs.EventLemmas.{text_told}
use Rattle.rx_json.proofs.texts.text_of.Goals as goal

pub returns-in-Ok : goal.returns-in-Ok
returns-in-Ok g c told plain tells =
    let sent = c.in-Ok.ensures.events in
    text_told told plain sent.0 c.in-Ok.text.items (tells sent.0 sent.1) sent.2
