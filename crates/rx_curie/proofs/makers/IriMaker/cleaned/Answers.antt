use Rattle.rx_rdfa.proofs.Common.{◌∙◌, ◌++◌, ap, chars, chars-nil, Chars, ok_is, cleaned}
use Rattle.rx_curie.proofs.makers.IriMaker.cleaned.Goals as goal

pub returns-in-Some : goal.returns-in-Some
returns-in-Some c = ok_is c.try_clone.result (c.in-Some.ensures ∙ ap (λ (front : Chars). cleaned (front ++ chars c.args.iri.now)) chars-nil) c.try_clone.ensures
