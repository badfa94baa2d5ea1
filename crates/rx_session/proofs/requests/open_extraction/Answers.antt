use Rattle.std.proofs.Common.{◌∙◌, sym}
use Rattle.rx_session.specs.Requests.{bytes_in}
use Rattle.rx_session.specs.Wants.{extraction_seen}
use Rattle.rx_session.proofs.WorkLemmas.{extraction_asked}
use Rattle.rx_session.proofs.requests.open_extraction.Goals as goal

pub returns : goal.returns
returns c = record {
  want = extraction_seen (record {
    syntax = c.in-Some-syntax_of.syntax;
    output = c.in-Some-output_of.output;
    graph = c.in-Ok-graph_of.graph;
    address = c.in-Ok.address;
    first = c.in-Some.first;
  });
  context = c.in-Ok-context_of.context;
  is =
      extraction_asked c.args.syntax c.args.format c.args.first c.args.address.now (bytes_in c.args.graph) c.in-Some.first c.in-Some-syntax_of.syntax
      c.in-Some-output_of.output c.in-Ok.address c.in-Ok-graph_of.graph (sym c.first_of.ensures ∙ c.in-Some.is) (sym c.syntax_of.ensures ∙ c.in-Some-syntax_of.is)
      (sym c.output_of.ensures ∙ c.in-Some-output_of.is) c.in-Ok.ensures c.in-Ok-graph_of.ensures;
  holds = c.in-Ok-context_of.ensures;
  fed = c.in_ok-extract.ensures;
}
