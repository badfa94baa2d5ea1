use Rattle.std.proofs.Common.{sym, ◌∙◌, arith}
use Rattle.rx_scan.proofs.PlainLemmas.{three_begin}
use Rattle.rx_scan.proofs.wide_chars.begins_three.Goals as goal

pub returns : goal.returns
returns c = λ h. three_begin c.args.bytes.now (omega (arith, c.if-bytes-lt3.false)) (sym c.is_three.ensures ∙ h)
