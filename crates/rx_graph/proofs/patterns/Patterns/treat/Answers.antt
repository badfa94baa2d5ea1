use Rattle.rx_model.proofs.Common.{◌≡◌, ◌∙◌, ap, sym, subst, List, false, Some, None, nat_eq, option_map, on_ok_weaker, contains, with_one, same_node, same_triple, edges, is_referenced, live, triple_seen, triples_seen, node_seen}
use Rattle.rx_terms.specs.declared.triples.Triple.{Triple}
use Rattle.rx_graph.specs.Resources.{resource_seen}
use Rattle.rx_graph.proofs.PatternLemmas.{live_is}
use Rattle.rx_graph.proofs.PlaceLemmas.{treated_kept, treated_live, referenced_is}
use Rattle.rx_graph.proofs.patterns.Patterns.treat.Goals as goal

pub returns-in_ok-try_clone-in-None : goal.returns-in_ok-try_clone-in-None
returns-in_ok-try_clone-in-None c =
    let list : List Triple = c.self.inside.triples.now in
    let kept : is_referenced nat_eq (edges nat_eq (triples_seen list)) (node_seen c.args.triple.now.subject) ≡ false =
    sym (referenced_is (triples_seen list) c.self.inside.index.nodes c.self.inside.referenced c.self.invariant.index.patterns c.self.invariant.references (node_seen c.args.triple.now.subject))
    ∙ ap (contains (same_node nat_eq) c.self.inside.referenced) (sym c.of_node.ensures) ∙ sym c.contains.ensures ∙ c.if-contains.false in
    let none : live nat_eq (triples_seen list) (triple_seen c.args.triple.now).predicate (triple_seen c.args.triple.now).object ≡ None =
    sym (live_is (triples_seen list) c.self.inside.index.nodes c.self.invariant.index.patterns (triple_seen c.args.triple.now)) ∙ sym c.live.ensures ∙ ap (option_map resource_seen) c.in-None.is in
    on_ok_weaker c.add.result
    (λ h. rw (← c.self.view_is) (treated_kept (triples_seen list) (triple_seen c.args.triple.now) _ _ kept none (h ∙ ap (λ t. with_one (same_triple nat_eq) (triples_seen c.args.gathering.now) (triple_seen t)) c.in_ok-try_clone-in-None.ensures)))
    c.add.ensures

pub returns-in-Some : goal.returns-in-Some
returns-in-Some c =
    let list : List Triple = c.self.inside.triples.now in
    let kept : is_referenced nat_eq (edges nat_eq (triples_seen list)) (node_seen c.args.triple.now.subject) ≡ false =
    sym (referenced_is (triples_seen list) c.self.inside.index.nodes c.self.inside.referenced c.self.invariant.index.patterns c.self.invariant.references (node_seen c.args.triple.now.subject))
    ∙ ap (contains (same_node nat_eq) c.self.inside.referenced) (sym c.of_node.ensures) ∙ sym c.contains.ensures ∙ c.if-contains.false in
    let some : live nat_eq (triples_seen list) (triple_seen c.args.triple.now).predicate (triple_seen c.args.triple.now).object ≡ Some (resource_seen c.in-Some.pattern) =
    sym (live_is (triples_seen list) c.self.inside.index.nodes c.self.invariant.index.patterns (triple_seen c.args.triple.now)) ∙ sym c.live.ensures ∙ ap (option_map resource_seen) c.in-Some.is in
    on_ok_weaker c.give.result
    (λ h. treated_live (triples_seen c.args.self.now) (triple_seen c.args.triple.now) (resource_seen c.in-Some.pattern) _ _
    (subst (λ (z : List Triple). is_referenced nat_eq (edges nat_eq (triples_seen z)) (node_seen c.args.triple.now.subject) ≡ false) c.self.view_is kept)
    (subst (λ (z : List Triple). live nat_eq (triples_seen z) (triple_seen c.args.triple.now).predicate (triple_seen c.args.triple.now).object ≡ Some (resource_seen c.in-Some.pattern)) c.self.view_is some) h)
    c.give.ensures
