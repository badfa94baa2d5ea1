use Rattle.rx_items.specs.Ids.{id_place}
use Rattle.rx_items.proofs.IdLemmas.{noted}
use Rattle.rx_items.proofs.ids.note_id.Goals as goal

pub returns-in-Some : goal.returns-in-Some
returns-in-Some c word shown =
    noted c.put_id.result c.args.words.now c.in-Some.span c.text_of.result.now c.args.place (id_place c.put_id.new.ids) (id_place c.args.ids.now) word c.text_of.utf8 c.text_of.ensures
    (rw c.in-Some.is at shown) c.put_id.ensures
