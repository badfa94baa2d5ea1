use Rattle.rdfax_c.proofs.Common.{ℕ, List, Option, subst, SessionOpenGives, bytes_in, bytes_given, extraction_by}
use Rattle.rdfax_c.proofs.CallLemmas.{opens_page}
use Rattle.rdfax_c.proofs.exports.rdfax_extract_given.Goals as goal

pub returns : goal.returns
returns c =
    let o = c.args.options.now in
    let address : List ℕ = c.args.address.now in
    let file : Option (List ℕ) = bytes_given c.args.has_context c.args.context.now in
    let graph : Option (List ℕ) = bytes_given c.args.has_graph c.args.graph.now in
    opens_page (extraction_by o address graph) file c.open_extraction-opened.result c.keep.result c.keep.new.page.handle.session
    (subst (λ (f : Option (List ℕ)). SessionOpenGives (extraction_by o address graph) f c.open_extraction-opened.result) c.given-2.ensures
    (subst (λ (g : Option (List ℕ)). SessionOpenGives (extraction_by o address g) (bytes_in c.given-2.result) c.open_extraction-opened.result) c.given.ensures c.open_extraction-opened.ensures))
    c.keep.ensures
