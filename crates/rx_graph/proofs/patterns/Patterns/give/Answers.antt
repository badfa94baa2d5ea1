use Rattle.rx_model.proofs.Common.{◌≡◌, ◌∙◌, subst, List, ℕ, on_ok_weaker, node_seen, triples_seen}
use Rattle.rx_terms.specs.declared.triples.Triple.{Triple}
use Rattle.rx_graph.specs.Resources.{resource_seen}
use Rattle.rx_graph.specs.Copying.{contents}
use Rattle.rx_graph.proofs.PatternLemmas.{no_number}
use Rattle.rx_graph.proofs.PlaceLemmas.{given_end}
use Rattle.rx_graph.proofs.CopyLemmas.{no_lead, content_of, contents_at, not_nil}
use Rattle.rx_graph.proofs.patterns.Patterns.give.Goals as goal

pub returns-in_default : goal.returns-in_default
returns-in_default c = absurd (no_number (triples_seen c.self.inside.triples.now) c.self.inside.index.nodes (resource_seen c.args.pattern) c.self.invariant.index.patterns (rw c.self.view_is c.requires) (no_lead _ _ _ c.lead_of.ensures c.in_default.is))

pub returns-then-not-is_empty : goal.returns-then-not-is_empty
returns-then-not-is_empty c =
    let found : List ℕ = c.numbers-found.result.now in
    let is : found ≡ contents (triples_seen c.self.inside.triples.now) (resource_seen c.args.pattern) =
    content_of (triples_seen c.self.inside.triples.now) _ _ _ _ _ (resource_seen c.args.pattern) c.in-Some.from found _ c.self.invariant.index
    (contents_at _ _ _ _ _ c.self.inside.contents c.in-Some.from found c.numbers-found.ensures c.self.invariant.contents_are (not_nil found c.is_empty.result c.is_empty.ensures c.if-not-is_empty.true)) c.lead_of.ensures c.in-Some.is in
    on_ok_weaker c.give_all.result
    (λ h. given_end (triples_seen c.args.self.now) (node_seen c.args.subject.now) (resource_seen c.args.pattern) found _ _ (subst (λ (z : List Triple). found ≡ contents (triples_seen z) (resource_seen c.args.pattern)) c.self.view_is is) h)
    c.give_all.ensures

pub returns : goal.returns
returns c =
    let found : List ℕ = c.in_ok-places.places.items in
    let is : found ≡ contents (triples_seen c.self.inside.triples.now) (resource_seen c.args.pattern) =
    content_of (triples_seen c.self.inside.triples.now) _ _ _ _ _ (resource_seen c.args.pattern) c.in-Some.from found _ c.self.invariant.index c.in_ok-places.ensures c.lead_of.ensures c.in-Some.is in
    on_ok_weaker c.give_all-2.result
    (λ h. given_end (triples_seen c.args.self.now) (node_seen c.args.subject.now) (resource_seen c.args.pattern) c.deref.result.now _ _
    (c.deref.ensures.value ∙ subst (λ (z : List Triple). found ≡ contents (triples_seen z) (resource_seen c.args.pattern)) c.self.view_is is) h)
    c.give_all-2.ensures
