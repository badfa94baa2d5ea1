use Rattle.rx_turtle.proofs.Common.{◌<◌, arith, length, resource_seen}
use Rattle.rx_turtle.proofs.TakenLemmas.{key_at}
use Rattle.rx_turtle.proofs.groups.Groups.is_at.Goals as goal

pub returns : goal.returns
returns c =
    let less : c.args.place < length c.args.self.now = omega (arith, c.if-place-len.false, c.len.ensures) in
    key_at c.args.self.now c.args.place (resource_seen c.args.key) c.has_key.result less c.has_key.ensures
