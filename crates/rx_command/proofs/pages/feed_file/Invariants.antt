use Rattle.rx_command.proofs.Common.{◌≤◌, ◌≡◌, ◌+◌, ◌-◌, [], vec_len, standard_limits, IsPiece, page_limit}
use Rattle.rx_command.proofs.ReadLemmas.{SoFar}
use Rattle.rx_command.proofs.pages.feed_file.Given as goal

abbrev pub invariant-loop-taken : goal.invariant-loop-taken
invariant-loop-taken g l = record {
  piece : IsPiece (vec_len l.piece);
  most : l.taken ≤ page_limit;
  so_far : (setting : g.R.PageReader.Setting) → g.R.PageReader.stands setting l.fn.reader []
      → SoFar (g.R.PageReader.stands setting) l.name l.reader l.taken (g.F.Shelf.told l.fn.shelf) (g.F.Shelf.told l.shelf);
  later : g.F.Shelf.faults l.fn.shelf ≤ g.F.Shelf.faults l.shelf;
  same : g.F.Shelf.faults l.shelf ≡ g.F.Shelf.faults l.fn.shelf;
}

abbrev pub decreases-loop-taken : goal.decreases-loop-taken
decreases-loop-taken g l = standard_limits.page + 1 - l.taken
