use Rattle.rx_walk.specs.Accepting.{accepts_at}
use Rattle.rx_walk.specs.Settings.{way_of}
use Rattle.rx_page.proofs.ReaderLemmas.{fed}
use Rattle.rx_page.proofs.walks.CheckPageReader.feed.Goals as goal

pub returns : goal.returns
returns c setting bytes s = fed (way_of setting) (accepts_at setting) bytes c.args.piece.now c.feed.result c.feed.new.self (c.feed.ensures.gives setting bytes s)
