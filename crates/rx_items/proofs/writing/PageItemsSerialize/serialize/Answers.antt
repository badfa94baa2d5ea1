use Rattle.rx_items.proofs.WritingLemmas.{of_all}
use Rattle.rx_items.proofs.writing.PageItemsSerialize.serialize.Goals as goal

pub returns : goal.returns
returns g c = of_all c.args.self.now.kept.now _ _ c.write_page.result c.write_page.ensures
