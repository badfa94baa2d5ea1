use Rattle.rx_walk.specs.Settings.{way_of}
use Rattle.rx_page.specs.Readers.{shown_read}
use Rattle.rx_page.proofs.ReaderLemmas.{check_ended}
use Rattle.rx_page.proofs.walks.CheckPageReader.finish.Goals as goal

pub returns : goal.returns
returns c setting bytes s =
    check_ended setting bytes c.finish.result (shown_read (way_of setting) bytes c.args.self.nest s.goes.signs s.goes.shown s.paid s.goes.known.accepted)
    (c.finish.ensures.gives setting bytes s)
