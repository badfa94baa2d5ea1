use Rattle.rx_scan.proofs.FeedLemmas.{fed_fits}
use Rattle.rx_scan.proofs.readers.Reader.feed_front.Goals as goal

pub fed-self-inside-requires : goal.fed-self-inside-requires
fed-self-inside-requires c =
    fed_fits c.self.inside.pending.tag c.feed_front-count.new.self.tag c.args.bytes.now c.tag_limit-limit.result c.feed_front-count.result c.self.inside.place.at c.tag_limit-limit.ensures.fits c.feed_front-count.ensures.takes
    (rw (← c.self.view_is) at c.tag_limit-limit.ensures.room)
