use Rattle.std.proofs.Common.{arith}
use Rattle.rx_tags.proofs.Pieces.{rows_fit_past}
use Rattle.rx_tags.proofs.attributes.Attributes.are_apart.Goals as goal

pub are_apart-requires : goal.are_apart-requires
are_apart-requires c =
    rw (c.deref.ensures.value, c.deref-2.ensures.value)
    (rows_fit_past _ c.self.inside.start _ c.self.inside.rows.items (omega (arith, c.self.invariant.rises, c.self.invariant.on, c.self.invariant.within)) c.self.invariant.rows_fit)
