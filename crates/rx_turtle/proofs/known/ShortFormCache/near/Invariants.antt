use Rattle.std.proofs.Common.{◌<◌, length}
use Rattle.rx_turtle.proofs.known.ShortFormCache.near.Given as goal

abbrev pub invariant-loop : goal.invariant-loop
invariant-loop l = l.place < length l.self
