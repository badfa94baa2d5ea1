use Rattle.rx_names.proofs.GivenLemmas.{given-iri}
use Rattle.rx_names.proofs.standard.row_at.Goals as goal

pub returns-clause-iri : goal.returns-clause-iri
returns-clause-iri c = given-iri c.args.rows.now c.args.i _ c.requires.given c.requires.place
