use Rattle.rx_rdfa.proofs.Common.{◌∙◌, ◌∷◌, ap, sym, facts, facts_of, refusal}
use Rattle.rx_tags.specs.Seen.{tag_seen}
use Rattle.rx_rdfa.specs.Pages.{token_tag}
use Rattle.rx_names.specs.Views.{names_seen}
use Rattle.rx_curie.proofs.RefusalLemmas.{refuses-for, refuses-none, refused-line}
use Rattle.rx_curie.proofs.facts.Facts.renew.Goals as goal

pub returns-in-Some-clause-line : goal.returns-in-Some-clause-line
returns-in-Some-clause-line c = λ above stands absolute.
    refuses-for c.in-Some.kind (refusal (facts (names_seen c.args.names.now).context above (token_tag (tag_seen c.args.tag.now))))
    (sym c.in-Some.is ∙ refused-line (names_seen c.args.names.now) c.of-attributes.result (token_tag (tag_seen c.args.tag.now)) c.refusal_by.result c.of-attributes.ensures c.refusal_by.ensures.line above stands absolute)

pub returns-clause-line : goal.returns-clause-line
returns-clause-line c = λ above stands absolute. (
  c.in_ok-read.ensures.ok (token_tag (tag_seen c.args.tag.now) ∷ above) stands ∙ ap (λ t. facts_of (names_seen c.args.names.now).context (token_tag (tag_seen c.args.tag.now) ∷ above) t) c.of-attributes.ensures,
  refuses-none (refusal (facts (names_seen c.args.names.now).context above (token_tag (tag_seen c.args.tag.now))))
      (sym c.in_default.is ∙ refused-line (names_seen c.args.names.now) c.of-attributes.result (token_tag (tag_seen c.args.tag.now)) c.refusal_by.result c.of-attributes.ensures c.refusal_by.ensures.line above stands absolute),
)
