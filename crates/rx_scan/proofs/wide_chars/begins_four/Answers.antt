use Rattle.std.proofs.Common.{sym, ◌∙◌, arith}
use Rattle.rx_scan.proofs.PlainLemmas.{four_begin}
use Rattle.rx_scan.proofs.wide_chars.begins_four.Goals as goal

pub returns : goal.returns
returns c = λ h. four_begin c.args.bytes.now (omega (arith, c.if-bytes-lt4.false)) (sym c.is_four.ensures ∙ h)
