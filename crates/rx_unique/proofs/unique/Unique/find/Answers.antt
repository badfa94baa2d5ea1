use Rattle.rx_terms.proofs.Common.{◌∙◌, ◌<◌, ap, sym, rules, position, length, subst, get_or, List, ◌≡◌, false, refl, slice_get_within}
use Rattle.rx_unique.specs.Places.{last_place}
use Rattle.rx_unique.specs.Hashes.{hash_of, quick_hash_of}
use Rattle.rx_unique.proofs.SearchLemmas.{alone, free-none, sought-first, sought-before, sought-none, within, key-within, nearer}
use Rattle.rx_unique.proofs.unique.Unique.find.Goals as goal

pub returns-in_default : goal.returns-in_default
returns-in_default g c =
    free-none g.K.PartialEq.eq (λ k. quick_hash_of (g.K.Hash.hash_input k)) (λ k. hash_of (g.K.Hash.hash_input k)) (g.Q.Equivalent.equivalent c.args.key) c.args.hash (λ k t. c.requires ∙ ap quick_hash_of (g.met.Q.Equivalent.respects_hash c.args.key k t)) c.self.inside.keys.items c.self.inside.hashes.items c.self.inside.slots c.self.inside.others.places.items c.self.inside.others.numbers c.self.invariant c.in_default.ensures.free ∙ ap (position (g.Q.Equivalent.equivalent c.args.key)) c.self.view_is

pub loop-next-init : goal.loop-next-init
loop-next-init g c =
    sought-first (λ k. hash_of (g.K.Hash.hash_input k)) (g.Q.Equivalent.equivalent c.args.key) (hash_of (g.Q.Hash.hash_input c.args.key)) (λ k t. ap hash_of (g.met.Q.Equivalent.respects_hash c.args.key k t)) c.self.inside.keys.items c.self.inside.others.places.items c.self.inside.others.numbers c.self.invariant.apart
    _ (c.last-next.ensures ∙ ap (λ n. last_place n c.self.inside.others.numbers) c.hash_of.ensures)

pub index-place-requires : goal.index-place-requires
index-place-requires g c =
    let inside : c.in-Some-next.other < length c.self.inside.others.places.items = within (λ k. hash_of (g.K.Hash.hash_input k)) (g.Q.Equivalent.equivalent c.args.key) (hash_of (g.Q.Hash.hash_input c.args.key)) (λ k t. ap hash_of (g.met.Q.Equivalent.respects_hash c.args.key k t)) c.self.inside.keys.items c.self.inside.others.places.items c.self.inside.others.numbers c.self.invariant.apart _ c.in-Some-next.other c.loop-next.invariant c.in-Some-next.is in
    search (rules, inside)

pub index-requires : goal.index-requires
index-requires g c =
    let inside : c.index-place.result.now < length c.self.inside.keys.items = key-within (λ k. hash_of (g.K.Hash.hash_input k)) (g.Q.Equivalent.equivalent c.args.key) (hash_of (g.Q.Hash.hash_input c.args.key)) (λ k t. ap hash_of (g.met.Q.Equivalent.respects_hash c.args.key k t)) c.self.inside.keys.items c.self.inside.others.places.items c.self.inside.others.numbers c.self.invariant.apart _ c.in-Some-next.other _ c.loop-next.invariant c.in-Some-next.is c.index-place.ensures in
    search (rules, inside)

pub returns-then-equivalent : goal.returns-then-equivalent
returns-then-equivalent g c =
    let inside : c.index-place.result.now < length c.self.inside.keys.items = key-within (λ k. hash_of (g.K.Hash.hash_input k)) (g.Q.Equivalent.equivalent c.args.key) (hash_of (g.Q.Hash.hash_input c.args.key)) (λ k t. ap hash_of (g.met.Q.Equivalent.respects_hash c.args.key k t)) c.self.inside.keys.items c.self.inside.others.places.items c.self.inside.others.numbers c.self.invariant.apart _ c.in-Some-next.other _ c.loop-next.invariant c.in-Some-next.is c.index-place.ensures in
    sym (alone g.K.PartialEq.eq (g.Q.Equivalent.equivalent c.args.key) (λ x y t. g.met.Q.Equivalent.respects_eq c.args.key x y t) c.self.inside.keys.items c.self.invariant.once
    c.index-place.result.now c.index.result.now inside c.index.ensures (sym c.equivalent.ensures ∙ c.if-equivalent.true))
    ∙ ap (position (g.Q.Equivalent.equivalent c.args.key)) c.self.view_is

pub earlier-next-requires : goal.earlier-next-requires
earlier-next-requires g c = slice_get_within c.self.inside.others.numbers c.in-Some-next.other (hash_of (g.Q.Hash.hash_input c.args.key)) (c.loop-next.invariant.there c.in-Some-next.other c.in-Some-next.is)

pub loop-next-smaller : goal.loop-next-smaller
loop-next-smaller g c = nearer c.self.inside.others.numbers c.loop-next.next c.earlier-next.result c.in-Some-next.other _ c.in-Some-next.is c.earlier-next.ensures

pub loop-next-preserved : goal.loop-next-preserved
loop-next-preserved g c =
    sought-before (λ k. hash_of (g.K.Hash.hash_input k)) (g.Q.Equivalent.equivalent c.args.key) (hash_of (g.Q.Hash.hash_input c.args.key)) (λ k t. ap hash_of (g.met.Q.Equivalent.respects_hash c.args.key k t)) c.self.inside.keys.items c.self.inside.others.places.items c.self.inside.others.numbers c.self.invariant.apart
    _ c.earlier-next.result c.in-Some-next.other _ c.index.result.now c.loop-next.invariant c.in-Some-next.is c.index-place.ensures c.index.ensures (sym c.equivalent.ensures ∙ c.if-equivalent.false) c.earlier-next.ensures

pub returns : goal.returns
returns g c =
    sought-none g.K.PartialEq.eq (λ k. quick_hash_of (g.K.Hash.hash_input k)) (λ k. hash_of (g.K.Hash.hash_input k)) (g.Q.Equivalent.equivalent c.args.key) c.args.hash (λ k t. c.requires ∙ ap quick_hash_of (g.met.Q.Equivalent.respects_hash c.args.key k t)) c.self.inside.keys.items c.self.inside.hashes.items c.self.inside.slots c.self.inside.others.places.items c.self.inside.others.numbers c.self.invariant
    _ _ c.in-Some.first c.loop-next.invariant c.in_default-next.is c.in-Some.ensures.own (λ d inside. subst (λ (keys : List g.row.K.Denot). c.in-Some.first < length keys → g.Q.Equivalent.equivalent c.args.key (get_or keys c.in-Some.first d) ≡ false) (sym c.self.view_is) (c.if-is_at.ensures.no refl d) inside)
    ∙ ap (position (g.Q.Equivalent.equivalent c.args.key)) c.self.view_is
