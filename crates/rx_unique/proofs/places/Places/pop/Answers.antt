use Rattle.rx_terms.proofs.Common.{◌∙◌, ap, sym, Option, ℕ, cond, nat_cmp, is_eq}
use Rattle.std.specs.BTreeMap.{get}
use Rattle.rx_unique.specs.declared.places.Entry.{Entry}
use Rattle.rx_unique.proofs.PlaceLemmas.{filed-less, filed-last, certain}
use Rattle.rx_unique.proofs.places.Places.pop.Goals as goal

pub invariant_of-self-in-None : goal.invariant_of-self-in-None
invariant_of-self-in-None c =
    filed-less (λ (e : Entry). e.number) (λ (e : Entry). e.earlier) c.pop.new.self.items c.in-Some.entry c.self.inside.last c.remove.new.self
    c.self.inside.entries.items c.in-Some.ensures.items c.self.invariant
    (λ q. c.remove.ensures.updates.0 q ∙ ap (λ (o : Option ℕ). cond (is_eq (nat_cmp c.in-Some.entry.number q)) o (get nat_cmp c.self.inside.last q)) (sym c.in-None.is))

pub invariant_of-self-in-Some-earlier : goal.invariant_of-self-in-Some-earlier
invariant_of-self-in-Some-earlier c =
    let there = filed-last (λ (e : Entry). e.number) (λ (e : Entry). e.earlier) c.pop.new.self.items c.in-Some.entry c.self.inside.last c.insert.new.self c.self.inside.entries.items c.in-Some.ensures.items c.self.invariant in
    let updates = certain c.insert.result _ _ _ c.insert.ensures.updates c.insert.ensures.absent there in
    filed-less (λ (e : Entry). e.number) (λ (e : Entry). e.earlier) c.pop.new.self.items c.in-Some.entry c.self.inside.last c.insert.new.self
    c.self.inside.entries.items c.in-Some.ensures.items c.self.invariant
    (λ q. updates.0 q ∙ ap (λ (o : Option ℕ). cond (is_eq (nat_cmp c.in-Some.entry.number q)) o (get nat_cmp c.self.inside.last q)) (sym c.in-Some-earlier.is))
