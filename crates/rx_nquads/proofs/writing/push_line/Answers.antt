use Rattle.rx_model.proofs.Common.{codes, refl, option_map, triple_seen}
use Rattle.rx_pieces.proofs.Adding.{adds_then, adds_by, literal}
use Rattle.rx_nquads.proofs.Adding.{line_spaced}
use Rattle.rx_nquads.proofs.writing.push_line.Goals as goal

pub returns-clause-adds : goal.returns-clause-adds
returns-clause-adds g c =
    adds_by (line_spaced (option_map (λ iri. iri.now) c.args.name) (triple_seen c.args.triple.now))
    (adds_then c.push_subject.ensures.adds (adds_then c.push_iri.ensures.adds (adds_then c.push_object.ensures.adds (adds_then c.push_name.ensures.adds (literal (codes ".\n") refl c.push.ensures)))))
