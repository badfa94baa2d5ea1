use Rattle.rdfax_c.proofs.Common.{None, items_wanted}
use Rattle.rdfax_c.proofs.CallLemmas.{opens_page}
use Rattle.rdfax_c.proofs.exports.rdfax_items_given.Goals as goal

pub returns : goal.returns
returns c = opens_page (items_wanted c.args.syntax c.args.address.now) None c.open_items-opened.result c.keep.result c.keep.new.page.handle.session c.open_items-opened.ensures c.keep.ensures
