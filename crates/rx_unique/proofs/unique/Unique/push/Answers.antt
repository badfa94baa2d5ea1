use Rattle.std.proofs.Common.{◌≡◌, ◌∙◌, ◌++◌, ◌∷◌, [], ap, sym, subst, rules, position, length}
use Rattle.rx_unique.specs.Hashes.{hash_of, quick_hash_of}
use Rattle.rx_unique.specs.Slots.{AreHeld}
use Rattle.rx_unique.proofs.SearchLemmas.{kept-more}
use Rattle.rx_unique.proofs.unique.Unique.push.Goals as goal

pub invariant_of-self-2 : goal.invariant_of-self-2
invariant_of-self-2 g c =
    let hashes : c.deref.result.now ≡ c.self.inside.hashes.items = search rules in
    let place : c.len-place.result ≡ length c.self.inside.keys.items = search rules in
    let others = c.self.inside.others.places.items in
    let room : AreHeld c.make_room.new.self others c.self.inside.hashes.items =
    subst (AreHeld c.make_room.new.self others) hashes (c.make_room.ensures.held others (subst (AreHeld c.self.inside.slots others) (sym hashes) c.self.invariant.held)) in
    kept-more g.K.PartialEq.eq g.met.K.Eq.laws (λ k. quick_hash_of (g.K.Hash.hash_input k)) (λ k. hash_of (g.K.Hash.hash_input k)) c.self.inside.keys.items _ c.self.inside.hashes.items _
    c.self.inside.slots c.file.new.slots others c.self.inside.others.numbers _ _ c.args.key c.args.hash c.len-place.result
    c.self.invariant (ap (position (g.K.PartialEq.eq c.args.key)) c.self.view_is ∙ c.requires.fresh) c.requires.hash place
    (c.in_ok-push-2.ensures.items ∙ ap (λ l. l ++ c.args.key ∷ []) c.reserve.ensures.items) (c.in_ok-push.ensures.items ∙ ap (λ l. l ++ c.args.hash ∷ []) c.reserve-2.ensures.items)
    (c.file.ensures.held c.self.inside.hashes.items room) c.in_ok-file.ensures.own c.in_ok-file.ensures.added
