use Rattle.rx_scan.proofs.FeedLemmas.{opened_by}
use Rattle.rx_scan.proofs.readers.Reader.open_front.Goals as goal

pub returns-clause-opens : goal.returns-clause-opens
returns-clause-opens c =
    opened_by _ c.args.self.now c.feed_front-count.new.self c.turn.new.self c.args.bytes.now c.feed_front-count.result _ c.self.view_is c.turn.ensures c.if-count-eq0.false c.requires.opened (c.opens_tag.ensures c.if-not-opens_tag.false) c.feed_front-count.ensures.feeds
