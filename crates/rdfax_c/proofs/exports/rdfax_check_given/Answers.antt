use Rattle.rdfax_c.proofs.Common.{ℕ, List, Option, subst, SessionOpenGives, check_in, bytes_given}
use Rattle.rdfax_c.proofs.CallLemmas.{opens_page}
use Rattle.rdfax_c.proofs.exports.rdfax_check_given.Goals as goal

pub returns : goal.returns
returns c =
    opens_page (check_in c.args.syntax) (bytes_given c.args.has_context c.args.context.now) c.open_check-opened.result c.keep.result c.keep.new.page.handle.session
    (subst (λ (file : Option (List ℕ)). SessionOpenGives (check_in c.args.syntax) file c.open_check-opened.result) c.given.ensures c.open_check-opened.ensures) c.keep.ensures
