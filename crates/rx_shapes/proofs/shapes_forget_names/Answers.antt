use Rattle.rx_shapes.proofs.RenamedLemmas.{shapes_forget_names}
use Rattle.rx_shapes.proofs.shapes_forget_names.Goals as goal

pub returns : goal.returns
returns c = shapes_forget_names
