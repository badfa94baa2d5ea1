use Rattle.rx_model.proofs.Common.{◌∙◌, refl, blank_of_term, term_seen}
use Rattle.rx_graph.proofs.NumberLemmas.{renamed_triple, subject_stays}
use Rattle.rx_graph.proofs.numbering.Numbers.give.Goals as goal

pub returns-clause-renamed : goal.returns-clause-renamed
returns-clause-renamed c = renamed_triple _ _ _
    (c.in_ok-give_node.ensures.renamed ∙ subject_stays _ _ _ (blank_of_term (term_seen c.args.triple.now.object)) _ c.in_ok-give_node.ensures.known c.in_ok-give_term.ensures.known)
    refl c.in_ok-give_term.ensures.renamed
