use Rattle.rx_items.proofs.Common.{microdata_way, refl}
use Rattle.rx_page.specs.Readers.{shown_read}
use Rattle.rx_page.proofs.ReaderLemmas.{items_ended}
use Rattle.rx_page.proofs.walks.ItemWalkPageReader.finish.Goals as goal

pub returns : goal.returns
returns c setting bytes s =
    items_ended setting bytes c.finish.result (shown_read (microdata_way setting) bytes c.args.self.nest s.goes.signs s.goes.shown s.paid refl)
    (c.finish.ensures.gives setting bytes s)
