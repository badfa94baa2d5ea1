use denote.Ref.{Bor}
use Rattle.rx_jsonld.proofs.Common.{◌≡◌, ◌∙◌, ℕ, List, Vec, Global, BTreeMap, ap, sym, on_ok_weaker, grouped, places_under, value_at, with_last}
use Rattle.rx_jsonld.proofs.GroupLemmas.{put_behind}
use Rattle.rx_jsonld.proofs.groups.put_place.Goals as goal

pub returns-in-Some : goal.returns-in-Some
returns-in-Some c list shapes =
    on_ok_weaker c.push_place.result
    (λ more. ap (grouped list shapes) (c.get_mut.follows.holds c.push_place.new.places).0
    ∙ put_behind list shapes c.args.key.now c.args.place c.args.groups.now.entries c.in-Some.places.now c.push_place.new.places c.get_mut.ensures.ordered (sym c.in-Some.ensures.value) more)
    c.push_place.ensures

pub returns-in-None : goal.returns-in-None
returns-in-None c list shapes =
    let back : c.get_mut.follows.lender-at-none ≡ c.args.groups.now = c.get_mut.follows.holds-at-none in
    on_ok_weaker c.start_group.result
    (λ put. put (ap (λ (groups : BTreeMap (Bor (List ℕ)) (Vec ℕ Global)). places_under groups c.args.key.now) back ∙ sym c.in-None.ensures.value)
    ∙ ap (λ (groups : BTreeMap (Bor (List ℕ)) (Vec ℕ Global)). with_last c.args.key.now (value_at list shapes c.args.place) (grouped list shapes groups.entries)) back)
    (c.start_group.ensures list shapes)
