use Rattle.std.proofs.Common.{◌<◌, ◌≡◌, map, length, arith}
use Rattle.rx_turtle.proofs.GroupLemmas.{lent_seen}
use Rattle.rx_turtle.proofs.ArrangedLemmas.{some_there, seen_length}
use Rattle.rx_turtle.proofs.DueLemmas.{some_brackets}
use Rattle.rx_turtle.proofs.starts.start_brackets.Goals as goal

pub returns : goal.returns
returns c =
    let size : length (map lent_seen c.args.said.now) ≡ length c.args.said.now = seen_length c.args.said.now in
    let some : 0 < length c.args.said.now = some_there c.args.said.now c.is_empty.result c.is_empty.ensures c.if-is_empty.false in
    some_brackets (map lent_seen c.args.said.now) c.args.stack.now c.say.new.self c.push_lines.new.stack (omega (arith, size, some)) c.in_ok-say.ensures c.in_ok-push_lines.ensures
