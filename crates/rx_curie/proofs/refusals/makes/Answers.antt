use Rattle.rx_rdfa.proofs.Common.{◌∙◌, ◌++◌, sym, ap, chars, iri_of}
use Rattle.rx_curie.specs.Refusing.{is_that_iri}
use Rattle.rx_curie.specs.Seen.{reading_seen}
use Rattle.rx_curie.specs.declared.readings.Reading.{Reading}
use Rattle.rx_curie.proofs.WordLemmas.{cleaned-same}
use Rattle.rx_curie.proofs.refusals.makes.Goals as goal

pub returns-in-Full : goal.returns-in-Full
returns-in-Full c =
    c.is_word.ensures ∙ (sym (cleaned-same (chars c.in-Full.whole.now) c.args.iri.now c.requires.clean) ∙ sym (ap (λ (r : Reading). is_that_iri (iri_of (reading_seen r)) c.args.iri.now) c.in-Full.is))

pub returns-in-Joined : goal.returns-in-Joined
returns-in-Joined c =
    c.are_word.ensures
    ∙ (sym (cleaned-same (chars c.in-Joined.front.now ++ chars c.in-Joined.more.now) c.args.iri.now c.requires.clean) ∙ sym (ap (λ (r : Reading). is_that_iri (iri_of (reading_seen r)) c.args.iri.now) c.in-Joined.is))
