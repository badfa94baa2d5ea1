use Rattle.rx_terms.proofs.Common.{◌≡◌, ◌∙◌, rules, ◌++◌, ◌∷◌, [], ap, nat_cmp, cond, length, List, ℕ, Some, is_eq}
use Rattle.std.specs.BTreeMap.{get}
use Rattle.rx_unique.specs.declared.places.Entry.{Entry}
use Rattle.rx_unique.proofs.PlaceLemmas.{filed-more}
use Rattle.rx_unique.proofs.places.Places.push.Goals as goal

pub invariant_of-self-2 : goal.invariant_of-self-2
invariant_of-self-2 c =
    let count : c.len-place.result ≡ length c.self.inside.entries.items = search rules in
    let entry : Entry = record { number = c.args.number; earlier = c.in_ok-earlier.earlier } in
    filed-more (λ (e : Entry). e.number) (λ (e : Entry). e.earlier) c.self.inside.entries.items entry c.self.inside.last c.insert.new.self c.push.new.self.items
    (c.in_ok-push.ensures.items ∙ ap (λ (l : List Entry). l ++ entry ∷ []) c.reserve.ensures.items) c.self.invariant c.in_ok-earlier.ensures.old
    (λ q. c.in_ok-earlier.ensures.updates.0 q
    ∙ ap (λ (k : ℕ). cond (is_eq (nat_cmp c.args.number q)) (Some k) (get nat_cmp c.self.inside.last q)) count)
