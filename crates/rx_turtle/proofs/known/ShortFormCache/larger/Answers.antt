use Rattle.std.proofs.Common.{rules, ◌<◌, sym, subst, length}
use Rattle.rx_turtle.specs.Known.{AreEntries}
use Rattle.rx_turtle.proofs.SlotLemmas.{entry_at}
use Rattle.rx_turtle.proofs.known.ShortFormCache.larger.Goals as goal

pub loop-i-preserved : goal.loop-i-preserved
loop-i-preserved c = λ found h.
    let own : AreEntries found c.self.inside.entries.items = subst (AreEntries found) (sym c.self.view_is) h in
    let within : c.loop-i.i < length c.self.inside.entries.items = search rules in
    c.put.ensures found (entry_at found c.self.inside.entries.items c.loop-i.i c.index-entry.result.now within c.index-entry.ensures own) (c.loop-i.invariant found h)
