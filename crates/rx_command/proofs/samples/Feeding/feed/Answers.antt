use Rattle.rx_command.proofs.Common.{◌≡◌, ◌∙◌, ℕ, ◌+◌, suc, ap, subst, arith, items_to}
use Rattle.rx_command.specs.Feeding.{FedTo, IsDeepestTo}
use Rattle.rx_command.specs.declared.samples.Feeding.{Feeding}
use Rattle.rx_command.proofs.SampleLemmas.{whole_due, if_whole, tail_due}
use Rattle.rx_command.proofs.samples.Feeding.feed.Goals as goal

pub take-requires : goal.take-requires
take-requires c =
    let i = c.loop-number.invariant in
    let all : c.loop-number.number ≡ c.args.count = omega (arith, c.loop-number-test.false, c.loop-number.auto.number-end) in
    whole_due c.args.count i.bytes _ c.requires.few (record { stands = i.fed.stands; size = i.fed.size }) (tail_due c.args.count i.bytes c.loop-number.self.piece.items _ (i.due ∙ ap items_to all) c.in_ok-extend_from_slice.ensures.items)

pub returns : goal.returns
returns c =
    let i = c.loop-number.invariant in
    let all : c.loop-number.number ≡ c.args.count = omega (arith, c.loop-number-test.false, c.loop-number.auto.number-end) in
    let due : Feeding = record { walk = c.loop-number.self.walk; piece = c.extend_from_slice.new.self; size = c.loop-number.self.size; depth = c.loop-number.self.depth } in
    if_whole c.args.count i.bytes due c.take.new.self c.take.result (tail_due c.args.count i.bytes c.loop-number.self.piece.items _ (i.due ∙ ap items_to all) c.in_ok-extend_from_slice.ensures.items) (subst (λ n. IsDeepestTo n c.loop-number.self.depth) all i.depth)
    (c.take.ensures i.bytes (record { stands = i.fed.stands; size = i.fed.size }))

pub loop-number-preserved : goal.loop-number-preserved
loop-number-preserved c =
    let next : suc c.loop-number.number ≡ c.loop-number.number + 1 = omega arith in
    subst (λ (n : ℕ). FedTo n c.item.new.self) next c.in_ok-item.ensures
