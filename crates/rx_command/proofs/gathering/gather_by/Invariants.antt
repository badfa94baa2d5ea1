use Rattle.rx_command.proofs.Common.{◌≡◌, ◌≤◌, take, vec_len, IsPiece, AddsPages}
use Rattle.rx_command.proofs.gathering.gather_by.Given as goal

abbrev pub invariant-loop-i : goal.invariant-loop-i
invariant-loop-i g l = record {
  piece : IsPiece (vec_len l.piece);
  adds : AddsPages l.context l.syntax (take l.i l.pages) l.fn.many l.many (g.F.Shelf.told l.fn.shelf) (g.F.Shelf.told l.shelf);
  later : g.F.Shelf.faults l.fn.shelf ≤ g.F.Shelf.faults l.shelf;
  same : g.F.Shelf.faults l.shelf ≡ g.F.Shelf.faults l.fn.shelf;
}
