use Rattle.rx_items.proofs.Common.{refl, begun}
use Rattle.rx_nest.specs.Nests.{tag_shown}
use Rattle.rx_items.proofs.Telling.{collects_next}
use Rattle.rx_items.proofs.collectors.Collector.begin.Goals as goal

pub returns : goal.returns
returns c setting signs k =
    collects_next setting c.args.self.now
    (record { alloc = c.args.self.now.alloc; address = c.args.self.now.address; base = c.begin_base.new.base; table = c.begin.new.self })
    signs (begun (tag_shown c.args.tag.now)) c.depth.result c.depth.ensures refl c.in_ok-begin.ensures c.in_ok-begin_base.ensures k
