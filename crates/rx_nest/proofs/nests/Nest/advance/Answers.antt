use Rattle.rx_nest.proofs.Common.{◌≡◌, ◌≢◌, ◌∙◌, true, refl, sym, ap, subst, Option, Some, None, Nested, NestStands, Done, DidLends, LendsStart, owes_begin}
use Rattle.rx_nest.specs.declared.tree_tokens.PendingEvents.{PendingEvents}
use Rattle.rx_nest.specs.declared.tree_tokens.EventKind.{EventKind}
use Rattle.rx_nest.proofs.Advancing.{due, due_done, first_turn, read_done, read_stopped}
use Rattle.rx_nest.proofs.LatchLemmas.{falls_by, has_fallen}
use Rattle.rx_nest.proofs.nests.Nest.advance.Goals as goal

none_of : {A : Type 0} (o : Option A) → ((x : A) → o ≢ Some x) → o ≡ None
none_of None n = refl
none_of (Some x) n = absurd (n x refl)

pub returns-in-Some-clause-steps : goal.returns-in-Some-clause-steps
returns-in-Some-clause-steps c syntax limits bytes signs st =
    due_done syntax limits _ bytes signs (subst (λ v. NestStands syntax limits v bytes signs) (sym c.self.view_is) st) c.args.piece.now c.in-Some.did c.in-Some.owed
    (record { scan = c.self.inside.scan; line = c.self.inside.line; owed = c.in-Some.owed; failed = c.self.inside.latch.failed; out_of_memory = c.self.inside.latch.out_of_memory }) (sym c.next_owed.ensures ∙ c.in-Some.is) refl

pub invariant_of-self-in-Ok : goal.invariant_of-self-in-Ok
invariant_of-self-in-Ok c unfailed unspent =
    let s = (c.self.invariant unfailed unspent).0 in
    let heeds = c.in-Ok.ensures.reads s.syntax s.limits s.bytes s.told s.at in (
      record { syntax = s.syntax; limits = s.limits; bytes = _; told = _; at = heeds.at },
      subst (λ (p : EventKind × PendingEvents). owes_begin p.1.own ≡ true → LendsStart c.read.new.scan) (sym c.first_of-did.ensures) (first_turn c.in-Ok.tree_token c.read.new.scan heeds.lends).begin_left,
    )

pub invariant_of-self-in-Err : goal.invariant_of-self-in-Err
invariant_of-self-in-Err c unfailed unspent = has_fallen c.in-Err.stop c.keep.new.self c.keep.ensures unfailed unspent

-- what is due lends what was lent
pub invariant_of-self : goal.invariant_of-self
invariant_of-self c unfailed unspent =
    let was = c.self.invariant unfailed unspent in
    (was.0, (due c.self.inside.owed c.in-Some.did c.in-Some.owed c.self.inside.scan (sym c.next_owed.ensures ∙ c.in-Some.is) was.1).begin_left)

pub returns-in-Some-clause-lends : goal.returns-in-Some-clause-lends
returns-in-Some-clause-lends c =
    (due c.self.inside.owed c.in-Some.did c.in-Some.owed c.self.inside.scan (sym c.next_owed.ensures ∙ c.in-Some.is) (c.self.invariant c.in_ok-repeat.ensures.0 c.in_ok-repeat.ensures.1).1).lends

pub returns-in-Ok-clause-lends : goal.returns-in-Ok-clause-lends
returns-in-Ok-clause-lends c =
    let s = (c.self.invariant c.in_ok-repeat.ensures.0 c.in_ok-repeat.ensures.1).0 in
    subst (λ (p : EventKind × PendingEvents). DidLends p.0 c.read.new.scan) (sym c.first_of-did.ensures) (first_turn c.in-Ok.tree_token c.read.new.scan (c.in-Ok.ensures.reads s.syntax s.limits s.bytes s.told s.at).lends).lends

pub returns-in-Ok-clause-steps : goal.returns-in-Ok-clause-steps
returns-in-Ok-clause-steps c syntax limits bytes signs st =
    let new : Nested = record { scan = c.read.new.scan; line = c.read.new.line; owed = c.first_of-did.result.1; failed = c.self.inside.latch.failed; out_of_memory = c.self.inside.latch.out_of_memory } in
    let was = subst (λ v. NestStands syntax limits v bytes signs) (sym c.self.view_is) st in
    let none = sym c.next_owed.ensures ∙ none_of c.next_owed.result c.in_default.not-Some in
    subst (λ d. Done syntax limits bytes signs c.args.piece.now c.in-Ok.taken d new) (sym (ap (λ (p : EventKind × PendingEvents). p.0) c.first_of-did.ensures))
    (read_done syntax limits _ bytes signs was c.args.piece.now c.in-Ok.taken c.in-Ok.tree_token new c.in-Ok.ensures.takes none (c.in-Ok.ensures.reads syntax limits bytes was.told was.at) (ap (λ (p : EventKind × PendingEvents). p.1) c.first_of-did.ensures) was.unfailed was.unspent)

pub returns-in-Err-clause-steps : goal.returns-in-Err-clause-steps
returns-in-Err-clause-steps c syntax limits bytes signs st =
    let new : Nested = record { scan = c.read.new.scan; line = c.read.new.line; owed = c.self.inside.owed; failed = c.keep.new.self.failed; out_of_memory = c.keep.new.self.out_of_memory } in
    let was = subst (λ v. NestStands syntax limits v bytes signs) (sym c.self.view_is) st in
    let none = sym c.next_owed.ensures ∙ none_of c.next_owed.result c.in_default.not-Some in
    read_stopped syntax limits _ bytes signs was c.args.piece.now c.in-Err.stop new none (c.in-Err.ensures.reads syntax limits bytes was.told was.at) c.in-Err.ensures.stays (rw c.keep.ensures (falls_by c.in-Err.stop))

pub returns-in-Err-clause-quiet : goal.returns-in-Err-clause-quiet
returns-in-Err-clause-quiet c syntax limits bytes signs st b q =
    let was = subst (λ v. NestStands syntax limits v bytes signs) (sym c.self.view_is) st in
    c.in-Err.ensures.quiet syntax limits bytes was.told was.at b q
