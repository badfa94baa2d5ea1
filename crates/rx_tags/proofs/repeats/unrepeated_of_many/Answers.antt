use Rattle.std.proofs.Common.{arith}
use Rattle.rx_tags.proofs.RepeatLemmas.{kept_all, kept_some}
use Rattle.rx_tags.proofs.repeats.unrepeated_of_many.Goals as goal

pub returns-then-len-rows : goal.returns-then-len-rows
returns-then-len-rows c =
    kept_all c.args.text.now c.args.rows.now c.in_ok-kept.kept.items c.len.result _ c.in_ok-kept.ensures.read (omega (arith, c.len.ensures, c.in_ok-kept.kept.ok.0)) (omega arith) c.if-len-rows.true

pub returns : goal.returns
returns c = record {
  repeated = kept_some c.args.text.now c.args.rows.now c.in_ok-kept.kept.items c.len.result _ c.in_ok-kept.ensures.read (omega (arith, c.len.ensures, c.in_ok-kept.kept.ok.0)) (omega arith) c.if-len-rows.false;
  read = c.in_ok-kept.ensures.read;
  fit = c.in_ok-kept.ensures.fit;
}
