use Rattle.std.proofs.Common.{◌≤◌, ◌<◌, arith, length}
use Rattle.rx_page.specs.Contexts.{largest_context}
use Rattle.rx_page.proofs.ContextLemmas.{too_long, file_gives}
use Rattle.rx_page.proofs.contexts.context_of.Goals as goal

pub returns-then-bytes-gt-LARGEST_CONTEXT : goal.returns-then-bytes-gt-LARGEST_CONTEXT
returns-then-bytes-gt-LARGEST_CONTEXT c =
    let past : largest_context < length c.args.bytes.now = omega (arith, c.if-bytes-gt-LARGEST_CONTEXT.true) in
    too_long c.args.bytes.now past

pub returns : goal.returns
returns c =
    let small : length c.args.bytes.now ≤ largest_context = omega (arith, c.if-bytes-gt-LARGEST_CONTEXT.false) in
    file_gives c.args.bytes.now c.of_json.result small c.of_json.ensures
