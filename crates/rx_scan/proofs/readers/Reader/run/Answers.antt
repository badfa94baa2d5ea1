use Rattle.rx_scan.proofs.Common.{◌≡◌, length, take, drop, ◌-◌, ◌<◌, ◌∙◌, ℕ, ◌+◌, sym, subst, inl, arith, refl, Result, get_or, false, IfOk, MatchBool, ◌==◌, ◌≤◌, Stop, Buffered, ReadsFront, Reading, Runs, is_tag}
use Rattle.rx_scan.specs.declared.answers.TokenKind.{TokenKind}
use Rattle.rx_scan.proofs.RunLemmas.{took_text}
use Rattle.rx_scan.proofs.QuietLemmas.{quiet_tells, quiet_at, between_tells, stopped_tells, other_tells, next_read, token_read, stopped, rest_took, lends, may_step}
use Rattle.rx_scan.proofs.FrontLemmas.{IsKept, kept, apart_on, later_on, front_first, front_next, front_within}
use Rattle.rx_scan.proofs.WholeTagLemmas.{tag_first, lends_tag, keeps_text, not_quiet}
use Rattle.rx_scan.proofs.readers.Reader.run.Goals as goal

pub returns-then-whole-gt0-clause-runs : goal.returns-then-whole-gt0-clause-runs
returns-then-whole-gt0-clause-runs c =
    λ s h. tag_first c.args.self.now c.take_tag-whole.new.self s c.args.piece.now c.take_tag-whole.result c.requires.none h (c.take_tag-whole.ensures.takes c.if-whole-gt0.true)

pub returns-then-whole-gt0-clause-ready : goal.returns-then-whole-gt0-clause-ready
returns-then-whole-gt0-clause-ready c =
    let t = c.take_tag-whole.ensures.takes c.if-whole-gt0.true in (
      lends_tag c.args.self.now c.take_tag-whole.new.self c.args.piece.now c.take_tag-whole.result t,
      subst (λ (x : Buffered). 4096 ≤ x.room) (sym (keeps_text c.args.self.now c.take_tag-whole.new.self c.args.piece.now c.take_tag-whole.result t)) c.requires.room,
    )

pub returns-then-whole-gt0-clause-quiet_tells : goal.returns-then-whole-gt0-clause-quiet_tells
returns-then-whole-gt0-clause-quiet_tells c =
    λ m q. absurd (not_quiet c.args.self.now c.take_tag-whole.new.self c.args.piece.now c.take_tag-whole.result (c.take_tag-whole.ensures.takes c.if-whole-gt0.true) q)

pub loop-taken-init : goal.loop-taken-init
loop-taken-init c =
    let n = c.take_front-taken.result in
    let new = c.take_front-taken.new.self in
    let same : c.take_tag-whole.new.self ≡ c.args.self.now = c.take_tag-whole.ensures.none (omega (arith, c.if-whole-gt0.false)) in
    let takes = subst (λ (x : Reading). MatchBool (n == 0) (new ≡ x) (ReadsFront x (take n c.args.piece.now) new)) same c.take_front-taken.ensures.takes in
    let k : IsKept c.args.self.now n new = kept c.args.self.now new (take n c.args.piece.now) n takes in
    record {
      within = c.take_front-taken.ensures.fits;
      may_step = k.steps c.requires.may_step;
      room = c.take_front-taken.ensures.room;
      fits = c.take_front-taken.ensures.size;
      apart = apart_on c.args.self.now new n k (inl c.requires.none);
      so_far = λ s h. front_first c.args.self.now new s c.args.piece.now n c.requires.none c.take_front-taken.ensures.fits h takes;
      later = λ x. subst (λ (z : ℕ). 0 < z) (omega arith) (later_on c.args.self.now new n k 0 (λ y. absurd (y c.requires.none)) x);
      quiet = λ m q. k.between m;
    }

pub returns-in-Err-clause-runs : goal.returns-in-Err-clause-runs
returns-in-Err-clause-runs c =
    λ s h. subst (λ (r : Result (ℕ × TokenKind) Stop). Runs c.args.self.now s c.args.piece.now r c.read.new.self) (sym c.stopped.ensures)
    (stopped c.args.self.now c.loop-taken.self c.read.new.self s c.args.piece.now c.loop-taken.taken c.loop-taken-test.true (c.loop-taken.invariant.so_far s h) c.in-Err.stop c.loop-taken.taken refl c.loop-taken.invariant.apart c.in-Err.ensures.reads c.in-Err.ensures.between c.in-Err.ensures.ready.text)

pub returns-then-is_token-clause-runs : goal.returns-then-is_token-clause-runs
returns-then-is_token-clause-runs c =
    λ s h. (token_read c.args.self.now c.loop-taken.self c.read.new.self s c.args.piece.now c.loop-taken.taken c.loop-taken-test.true (c.loop-taken.invariant.so_far s h) c.in-Ok.what (sym c.is_token.ensures ∙ c.if-is_token.true) c.loop-taken.invariant.apart c.in-Ok.ensures.reads)

pub returns-then-must_show-clause-runs : goal.returns-then-must_show-clause-runs
returns-then-must_show-clause-runs c =
    λ s h. (took_text c.args.self.now c.read.new.self s c.args.piece.now (c.loop-taken.taken + 1) (omega (arith, c.loop-taken-test.true)) (omega arith)
    (next_read c.args.self.now c.loop-taken.self c.read.new.self s c.args.piece.now c.loop-taken.taken c.loop-taken-test.true (c.loop-taken.invariant.so_far s h) c.in-Ok.what (sym c.is_token.ensures ∙ c.if-is_token.false) c.in-Ok.ensures.reads)
    (c.must_show.ensures.some c.if-must_show.true))

pub returns-in-Err-clause-quiet_tells : goal.returns-in-Err-clause-quiet_tells
returns-in-Err-clause-quiet_tells c =
    λ m q. subst (λ (r : Result (ℕ × TokenKind) Stop). IfOk r (λ answer. is_tag answer.1 ≡ false)) (sym c.stopped.ensures) (stopped_tells c.read.new.self.text.text c.loop-taken.taken c.in-Err.stop)

pub returns-then-is_token-clause-quiet_tells : goal.returns-then-is_token-clause-quiet_tells
returns-then-is_token-clause-quiet_tells c =
    λ m q. between_tells c.loop-taken.self c.read.new.self (get_or c.args.piece.now c.loop-taken.taken 0) c.in-Ok.what (c.loop-taken.invariant.quiet m q) c.in-Ok.ensures.reads

pub returns-then-ends_text-clause-runs : goal.returns-then-ends_text-clause-runs
returns-then-ends_text-clause-runs c =
    let some = c.ends_text.ensures c.if-ends_text.true in
    λ s h. took_text c.args.self.now c.loop-taken.self s c.args.piece.now c.loop-taken.taken (omega (arith, c.loop-taken-test.true)) (c.loop-taken.invariant.later some) (c.loop-taken.invariant.so_far s h) some

pub loop-taken-preserved : goal.loop-taken-preserved
loop-taken-preserved c =
    let i = c.loop-taken.taken + 1 in
    let n = c.take_front-taken-in-loop-taken.result in
    let l = c.read.new.self in
    let new = c.take_front-taken-in-loop-taken.new.self in
    let told = c.take_front-taken-in-loop-taken.ensures in
    let front = take n (take (length c.args.piece.now - i) (drop i c.args.piece.now)) in
    let takes = told.takes in
    let k : IsKept l n new = kept l new front n takes in
    let not_token = sym c.is_token.ensures ∙ c.if-is_token.false in
    record {
      within = front_within c.args.piece.now i n (omega (arith, c.loop-taken-test.true)) told.fits;
      may_step = k.steps (may_step c.in-Ok.what l not_token c.in-Ok.ensures.ready.may_go_on);
      room = told.room;
      fits = told.size;
      apart = apart_on l new n k (c.must_show.ensures.apart c.if-must_show.false);
      so_far = λ s h. front_next c.args.self.now l new s c.args.piece.now i n told.fits
          (next_read c.args.self.now c.loop-taken.self l s c.args.piece.now c.loop-taken.taken c.loop-taken-test.true (c.loop-taken.invariant.so_far s h) c.in-Ok.what not_token c.in-Ok.ensures.reads) takes;
      later = later_on l new n k i (λ x. omega arith);
      quiet = λ m q. k.between
          (quiet_tells c.loop-taken.self l (get_or c.args.piece.now c.loop-taken.taken 0) c.in-Ok.what (c.loop-taken.invariant.quiet m q) (quiet_at c.args.piece.now c.loop-taken.taken c.loop-taken-test.true q) c.in-Ok.ensures.reads);
    }

pub returns-clause-runs : goal.returns-clause-runs
returns-clause-runs c =
    λ s h. rest_took c.args.self.now c.loop-taken.self s c.args.piece.now c.loop-taken.taken c.loop-taken.taken c.rest.result refl (omega (arith, c.loop-taken-test.false, c.loop-taken.invariant.within)) (c.loop-taken.invariant.so_far s h) c.rest.ensures.either c.rest.ensures.text c.rest.ensures.nothing

pub returns-clause-quiet_tells : goal.returns-clause-quiet_tells
returns-clause-quiet_tells c = λ m q. other_tells c.rest.result c.rest.ensures.either

pub returns-clause-ready : goal.returns-clause-ready
returns-clause-ready c = (lends c.rest.result c.loop-taken.self c.rest.ensures.either c.loop-taken.invariant.may_step, c.loop-taken.invariant.room)
