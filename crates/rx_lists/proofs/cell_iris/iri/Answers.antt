use Rattle.rx_terms.proofs.Common.{◌≡◌, ◌∙◌, subst, sym, ap, string_bytes, chars, IsIri, ascii-chars, ok_is}
use Rattle.rx_lists.proofs.cell_iris.iri.Goals as goal
use Rattle.rx_lists.proofs.cell_iris.iri.Goals.{In_ok-text}

copied : (c : In_ok-text) → chars (string_bytes c.in_ok-text.text) ≡ c.args.text.now
copied c = ap chars c.in_ok-text.ensures.ok ∙ ascii-chars c.args.text.now c.requires.ascii

pub of_string-requires : goal.of_string-requires
of_string-requires c = subst IsIri (sym (copied c)) c.requires.form

pub returns : goal.returns
returns c = ok_is c.of_string.result (copied (goal.at.returns c).In_ok-text) c.of_string.ensures
