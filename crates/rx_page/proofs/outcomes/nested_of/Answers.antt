use Rattle.rx_jsonld.proofs.Common.{ap, encode_utf8_all, shape_in}
use Rattle.rx_notation.specs.Nesting.{nested}
use Rattle.rx_page.proofs.outcomes.nested_of.Goals as goal

pub returns-in-Ok-clause-spelled : goal.returns-in-Ok-clause-spelled
returns-in-Ok-clause-spelled c = record {
  shapes = shape_in c.in-Ok.shaped.table;
  have = c.in-Ok.ensures.shapes.shape;
  spelled = ap (λ list. encode_utf8_all (nested c.args.context.prefixes list (shape_in c.in-Ok.shaped.table))) c.in-Ok.ensures.triples;
}
