use Rattle.rx_jsonld.proofs.Common.{refl, subst, chars, Chars, Option, triples_seen, quads}
use Rattle.rx_nquads.specs.Document.{Nquads}
use Rattle.rx_page.specs.declared.forms.Form.TheVariants as forms
use Rattle.rx_page.proofs.MadeLemmas.{quads_denote}
use Rattle.rx_page.proofs.texts.nquads_of.Goals as goal

pub returns-clause-denotes : goal.returns-clause-denotes
returns-clause-denotes c =
    quads_denote (forms.Nquads c.args.name) c.args.name (triples_seen c.args.graph) _ refl
    (subst (λ (name : Option Chars). Nquads (chars c.in_ok-text.field-0.items) (quads (triples_seen c.args.graph) name)) c.as_ref.ensures.value c.in_ok-text.ensures.denotes)
