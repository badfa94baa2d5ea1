use Rattle.rx_jsonld.proofs.Common.{◌∙◌, ℕ, List, [], ◌∷◌, ◌++◌, ap, grouped}
use Rattle.rx_jsonld.proofs.GroupLemmas.{put_first}
use Rattle.rx_jsonld.proofs.groups.start_group.Goals as goal

pub returns-in-Ok : goal.returns-in-Ok
returns-in-Ok c list shapes absent =
    ap (grouped list shapes) c.in-Ok.ensures.entries
    ∙ put_first list shapes c.args.place c.args.groups.now.entries c.args.key c.push_place.new.places absent
    (c.in_ok-push_place.ensures ∙ ap (λ (places : List ℕ). places ++ c.args.place ∷ []) c.new-places.ensures.items)
