use Rattle.rx_items.proofs.Common.{refl, finished}
use Rattle.rx_items.proofs.Telling.{collects_next}
use Rattle.rx_items.proofs.collectors.Collector.finish.Goals as goal

pub returns : goal.returns
returns c setting signs k =
    collects_next setting c.args.self.now
    (record { alloc = c.args.self.now.alloc; address = c.args.self.now.address; base = c.end_base.new.base; table = c.finish.new.self })
    signs finished c.depth.result c.depth.ensures refl c.finish.ensures c.in_ok-end_base.ensures k
