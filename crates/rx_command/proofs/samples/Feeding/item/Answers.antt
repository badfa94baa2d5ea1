use Rattle.std.proofs.Common.{◌∙◌}
use Rattle.rx_command.proofs.SampleLemmas.{cut_is, item_due, item_fed, behind_is}
use Rattle.rx_command.proofs.samples.Feeding.item.Goals as goal

pub take-requires : goal.take-requires
take-requires c =
    let f = c.requires.fed in
    item_due c.args.number f.bytes _ c.requires.few (record { stands = f.fed.stands; size = f.fed.size })
    (cut_is c.args.number f.bytes c.args.self.now.piece.items c.as_bytes.result.now _ f.due (c.as_bytes.ensures.value ∙ c.in_ok-before.ensures) c.in_ok-extend_from_slice.ensures.items)

pub returns : goal.returns
returns c =
    let f = c.requires.fed in
    let t = c.in_ok-take.ensures f.bytes (record { stands = f.fed.stands; size = f.fed.size }) in
    let cut = cut_is c.args.number f.bytes c.args.self.now.piece.items c.as_bytes.result.now _ f.due (c.as_bytes.ensures.value ∙ c.in_ok-before.ensures) c.in_ok-extend_from_slice.ensures.items in
    item_fed c.args.number c.args.self.now.depth _ _ (record { stands = t.fed.stands; size = t.fed.size }) cut (behind_is _ _ t.empty c.in_ok-extend_from_slice-2.ensures.items) f.depth t.depth
