use Rattle.rx_items.proofs.Common.{◌≡◌, ◌∙◌, ◌∷◌, [], List, Bool, false, sym, ap, None, if◌then◌else◌, on_ok_weaker, bytes_eq, one, both, told_as, opening}
use Rattle.serde.specs.Event as event
use Rattle.serde.specs.Event.{Event}
use Rattle.rx_items.proofs.writing.next_values.Goals as goal

pub returns : goal.returns
returns g c =
    let next : List Event = event.seq_ends ∷ opening None c.args.name.now in
    let off : bytes_eq c.args.before.now c.args.name.now ≡ false = sym c.eq.ensures ∙ c.if-eq.false in
    on_ok_weaker c.begin_values.result
    (λ began. told_as next _ (ap (λ (b : Bool). if b then [] else next) (sym off)) (both (one _ _ event.seq_ends c.in_ok-end_seq.ensures) began))
    c.begin_values.ensures
