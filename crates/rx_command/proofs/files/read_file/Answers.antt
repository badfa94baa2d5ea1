use Rattle.rx_command.proofs.Common.{arith, rules, ◌≡◌, ◌∙◌, ◌≤◌, ◌<◌, ◌+◌, length, moves_then, moves_weaker}
use Rattle.rx_command.proofs.FileLemmas.{read_start, read_more, read_end, read_past, takes_none, takes_read, takes_more}
use Rattle.rx_command.proofs.files.read_file.Goals as goal

pub loop-bytes-init : goal.loop-bytes-init
loop-bytes-init g c = record {
  piece = c.in-Ok.ensures.len;
  most = omega (arith, c.new-bytes.ensures.len);
  read = moves_weaker _ (λ x y s. read_start _ _ x y c.new-bytes.ensures.items s) c.in-Ok-start_file.ensures.told;
  later = c.in-Ok-start_file.ensures.later;
  same = c.in-Ok-start_file.ensures.steady;
}

pub returns-clause-ok : goal.returns-clause-ok
returns-clause-ok g c =
    let past : c.args.limit < length c.loop-bytes.bytes.items = omega (arith, c.loop-bytes.bytes.ok.0, c.loop-bytes-test.false, c.len.ensures) in
    let most : length c.loop-bytes.bytes.items ≤ c.args.limit + 1 = omega (arith, c.loop-bytes.bytes.ok.0, c.loop-bytes.invariant.most) in
    moves_weaker _ (λ x y h. read_past _ _ _ x y h past most) c.loop-bytes.invariant.read

pub returns-in-Ok-eq0-clause-ok : goal.returns-in-Ok-eq0-clause-ok
returns-in-Ok-eq0-clause-ok g c =
    let none : c.in-Ok-eq0.field-0 ≡ 0 = c.in-Ok-eq0.field-0-test in
    let most : length c.read_on.new.bytes.items ≤ c.args.limit + 1 = omega (arith, c.read_on.new.bytes.ok.0, c.loop-bytes.invariant.most, c.in-Ok-eq0.ensures.count, none) in
    moves_then _ (λ x y z h r. read_end _ _ _ _ _ x y z h r none most) c.loop-bytes.invariant.read c.in-Ok-eq0.ensures.told

pub loop-bytes-preserved : goal.loop-bytes-preserved
loop-bytes-preserved g c = record {
  piece = c.loop-bytes.invariant.piece;
  most = search rules;
  read = moves_then _ (λ x y z h r. read_more _ _ _ _ x y z h r) c.loop-bytes.invariant.read c.in-Ok-read_on.ensures.told;
  later = omega (arith, c.loop-bytes.invariant.later, c.in-Ok-read_on.ensures.later);
  same = c.in-Ok-read_on.ensures.steady ∙ c.loop-bytes.invariant.same;
}

pub returns-in_default-start_file-clause-takes : goal.returns-in_default-start_file-clause-takes
returns-in_default-start_file-clause-takes g c = moves_weaker _ (λ x y s. takes_none _ _ _ x y s) c.in_default-start_file.ensures.told

pub returns-clause-takes : goal.returns-clause-takes
returns-clause-takes g c =
    let most : length c.loop-bytes.bytes.items ≤ c.args.limit + 1 = omega (arith, c.loop-bytes.bytes.ok.0, c.loop-bytes.invariant.most) in
    moves_weaker _ (λ x y h. takes_read _ _ _ x y h most) c.loop-bytes.invariant.read

pub returns-in-Ok-eq0-clause-takes : goal.returns-in-Ok-eq0-clause-takes
returns-in-Ok-eq0-clause-takes g c =
    moves_then _ (λ x y z h t. takes_more _ _ _ _ x y z h t (search rules)) c.loop-bytes.invariant.read c.in-Ok-eq0.ensures.takes

pub returns-in-Err-clause-takes : goal.returns-in-Err-clause-takes
returns-in-Err-clause-takes g c =
    moves_then _ (λ x y z h t. takes_more _ _ _ _ x y z h t (search rules)) c.loop-bytes.invariant.read c.in-Err.ensures.takes
