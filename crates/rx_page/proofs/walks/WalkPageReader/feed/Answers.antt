use Rattle.rx_walk.specs.Courses.{runs_at}
use Rattle.rx_walk.specs.Settings.{way_of}
use Rattle.rx_page.proofs.ReaderLemmas.{fed}
use Rattle.rx_page.proofs.walks.WalkPageReader.feed.Goals as goal

pub returns : goal.returns
returns c made bytes s = fed (way_of made.0) (runs_at made) bytes c.args.piece.now c.feed.result c.feed.new.self (c.feed.ensures.gives made.0 made.1 bytes s)
