use Rattle.rx_shapes.proofs.ExampleLemmas.{examples_hold}
use Rattle.rx_shapes.proofs.examples_hold.Goals as goal

pub returns : goal.returns
returns c = examples_hold
