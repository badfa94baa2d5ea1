use Rattle.rx_microdata.specs.Base.{base_in}
use Rattle.rx_page.proofs.ItemLemmas.{json_text, json_stops}
use Rattle.rx_page.proofs.json_texts.text_of_items.Goals as goal

pub returns : goal.returns
returns c address tree are = json_text address tree c.in-Ok.text.items c.in_ok-ended.field-0.items (c.in-Ok.ensures tree (base_in address tree) are) c.in_ok-ended.ensures

pub returns-in-Err : goal.returns-in-Err
returns-in-Err c address tree are = json_stops address tree c.in-Err.stop (c.in-Err.ensures tree (base_in address tree) are)
