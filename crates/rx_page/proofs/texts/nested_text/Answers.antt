use Rattle.rx_shapes.specs.Table.{shape_in}
use Rattle.rx_page.proofs.texts.nested_text.Goals as goal

pub returns-clause-spelled : goal.returns-clause-spelled
returns-clause-spelled c = record { shapes = shape_in c.in_ok-shapes.shapes; have = c.in_ok-shapes.ensures.shape; spelled = c.in_ok-text.ensures.bytes }
