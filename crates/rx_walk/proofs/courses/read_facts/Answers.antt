use Rattle.rx_walk.proofs.Common.{◌≡◌, ◌∷◌, on_ok_weaker, List, false, sym, subst, facts, is_relative, ElementTag, facts_seen, KeptNames, NamesStand, vocabulary_of}
use Rattle.rx_walk.proofs.courses.read_facts.Goals as goal

pub read-requires-clause-vocabulary : goal.read-requires-clause-vocabulary
read-requires-clause-vocabulary c = subst (λ (k : KeptNames). is_relative (vocabulary_of k) ≡ false) (sym c.view.ensures.same) c.requires.vocabulary

pub returns : goal.returns
returns c =
    let tag = c.args.attributes.now in
    on_ok_weaker c.read.result (λ g (above : List ElementTag) stands. subst (λ (k : KeptNames). facts_seen c.read.new.self ≡ facts k.context above tag) c.view.ensures.same
    (g (tag ∷ above) (subst (λ (k : KeptNames). NamesStand k (tag ∷ above)) (sym c.view.ensures.same) stands))) c.read.ensures.ok
