use Rattle.rx_turtle.proofs.Common.{◌∙◌, ◌<◌, ap, sym, arith, length, refl, length-map, Keyed, group_seen}
use Rattle.rx_turtle.proofs.GroupLemmas.{put_seen}
use Rattle.rx_turtle.proofs.groups.Groups.put.Goals as goal

pub returns : goal.returns
returns c =
    let within : c.args.place < length c.self.inside.groups.items = omega (arith, c.requires, ap length c.self.view_is, length-map {B = Keyed} c.self.inside.groups.items group_seen) in
    rw (← c.self.view_is) (put_seen c.push.result c.self.inside.groups.items c.args.place c.index_mut.result.now (record { key = c.index_mut.result.now.key; triples = c.push.new.self }) c.args.triple within
    c.index_mut.ensures.value refl (sym c.is_err.ensures.value ∙ c.if-is_err.false) c.push.ensures.items)
