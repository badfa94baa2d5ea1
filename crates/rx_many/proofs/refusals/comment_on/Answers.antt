use Rattle.rx_many.proofs.Common.{◌∙◌, iri_of}
use Rattle.rx_many.proofs.CommentLemmas.{comment_line}
use Rattle.rx_many.proofs.refusals.comment_on.Goals as goal

pub returns-clause-spelled : goal.returns-clause-spelled
returns-clause-spelled c =
    c.in_ok-line.ensures.spelled ∙ comment_line c.args.fault.kind c.args.fault.at c.args.fault.token c.args.address.now _ _ c.name_of.ensures c.as_str.ensures.bytes c.in_ok-line.ensures.fits.0 c.in_ok-line.ensures.fits.1

pub returns-clause-writable : goal.returns-clause-writable
returns-clause-writable c = record { iri = iri_of _ _ c.as_str.utf8 c.as_str.ensures.characters c.as_str.ensures.form; at = c.in_ok-line.ensures.fits.0; token = c.in_ok-line.ensures.fits.1 }
