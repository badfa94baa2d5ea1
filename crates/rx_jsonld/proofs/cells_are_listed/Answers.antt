use Rattle.rx_jsonld.proofs.Cells.{lists_cells as law}
use Rattle.rx_jsonld.proofs.cells_are_listed.Goals as goal

pub returns : goal.returns
returns c = law
