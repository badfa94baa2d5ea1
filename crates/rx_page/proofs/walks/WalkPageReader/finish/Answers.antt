use Rattle.rx_walk.specs.Settings.{way_of}
use Rattle.rx_page.specs.Readers.{shown_read}
use Rattle.rx_page.proofs.ReaderLemmas.{walk_ended}
use Rattle.rx_page.proofs.walks.WalkPageReader.finish.Goals as goal

pub returns : goal.returns
returns c made bytes s =
    walk_ended made.0 made.1 bytes c.finish.result (shown_read (way_of made.0) bytes c.args.self.nest s.goes.signs s.goes.shown s.paid s.goes.known.accepted)
    (c.finish.ensures.gives made.0 made.1 bytes s)
