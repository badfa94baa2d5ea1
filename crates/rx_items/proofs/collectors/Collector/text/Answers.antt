use Rattle.rx_terms.proofs.Common.{refl, chars}
use Rattle.rx_items.proofs.Telling.{collects_said}
use Rattle.rx_items.proofs.collectors.Collector.text.Goals as goal

pub returns-clause-hears : goal.returns-clause-hears
returns-clause-hears c setting signs k =
    collects_said setting c.args.self.now (record { alloc = c.args.self.now.alloc; address = c.args.self.now.address; base = c.args.self.now.base; table = c.text.new.self })
    signs (chars c.args.text.now) refl refl c.in_ok-text.ensures.says k
