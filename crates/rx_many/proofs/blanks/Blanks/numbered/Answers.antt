use Rattle.rx_many.proofs.Common.{◌∙◌, blank_of_term, term_seen, renamed_triple}
use Rattle.rx_many.proofs.HereLemmas.{subject_stays}
use Rattle.rx_many.proofs.blanks.Blanks.numbered.Goals as goal

pub returns-clause-renamed : goal.returns-clause-renamed
returns-clause-renamed c = renamed_triple _ _ _
    (c.in_ok-subject.ensures.renamed ∙ subject_stays _ _ _ (blank_of_term (term_seen c.args.triple.now.object)) _ c.in_ok-object.ensures.before c.in_ok-subject.ensures.known c.in_ok-object.ensures.known)
    c.in_ok-predicate.ensures c.in_ok-object.ensures.renamed
