use Rattle.std.proofs.Common.{take}
use Rattle.rx_scan.proofs.PlainLemmas.{ascii_plain, ascii_text}
use Rattle.rx_scan.proofs.plain.run_length.Goals as goal

pub returns-clause-text : goal.returns-clause-text
returns-clause-text c = ascii_text (take c.ascii_run.result c.args.bytes.now) c.ascii_run.ensures.plain

pub returns-clause-plain : goal.returns-clause-plain
returns-clause-plain c = ascii_plain (take c.ascii_run.result c.args.bytes.now) c.ascii_run.ensures.plain
