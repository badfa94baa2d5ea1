use Rattle.rx_eval.proofs.Common.{◌∙◌, sym, ap, arith, owners_seen}
use Rattle.rx_eval.proofs.KeepLemmas.{quiet_is}
use Rattle.rx_eval.proofs.OpenLemmas.{around_is, none_hangs}
use Rattle.rx_eval.proofs.SeenLemmas.{ended_are}
use Rattle.rx_eval.proofs.stack.Stack.lets_wait.Goals as goal

pub returns : goal.returns
returns c h =
    let around = around_is c.self.inside.page _ _ c.self.inside.frames.items c.self.inside.skipped c.around.ensures c.as_slice.ensures.value in
    rw (← c.self.view_is) (record {
      rooted = omega (arith, c.if-self-eq0.false, c.self.invariant.deep);
      nothing_hangs = none_hangs c.around.result.now _ _ c.is_empty.result c.as_slice-2.ensures around c.is_empty.ensures h;
      tidy = sym (ended_are c.self.inside.lists) ∙ ap owners_seen (c.ends_open.ensures.trimmed c.if-not-ends_open.false);
      quiet = quiet_is c.self.invariant;
    })
