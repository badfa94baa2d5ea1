use Rattle.rx_job.specs.Words.{itemizes}
use Rattle.rx_page.specs.Settings.{item_setting_for}
use Rattle.rx_session.proofs.WorkLemmas.{stops, items_text, items_refused}
use Rattle.rx_session.proofs.works.itemized.Goals as goal

pub returns-in-Err : goal.returns-in-Err
returns-in-Err c i first singly context bytes at =
    stops (itemizes i) first singly context bytes c.in-Err.stop (c.in-Err.ensures (item_setting_for i.syntax i.address) bytes at)

pub returns-in-Ok-text_of_items : goal.returns-in-Ok-text_of_items
returns-in-Ok-text_of_items c i first singly context bytes at =
    items_text i first singly context bytes c.in-Ok.found c.in-Ok-text_of_items.text (c.in-Ok.ensures (item_setting_for i.syntax i.address) bytes at) c.in-Ok-text_of_items.ensures

pub returns-in-Err-text_of_items : goal.returns-in-Err-text_of_items
returns-in-Err-text_of_items c i first singly context bytes at =
    items_refused i first singly context bytes c.in-Ok.found c.in-Err-text_of_items.stop (c.in-Ok.ensures (item_setting_for i.syntax i.address) bytes at) c.in-Err-text_of_items.ensures
