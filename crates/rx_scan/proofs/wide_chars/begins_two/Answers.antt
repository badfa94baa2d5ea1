use Rattle.std.proofs.Common.{sym, ◌∙◌, arith}
use Rattle.rx_scan.proofs.PlainLemmas.{two_begin}
use Rattle.rx_scan.proofs.wide_chars.begins_two.Goals as goal

pub returns : goal.returns
returns c = λ h. two_begin c.args.bytes.now (omega (arith, c.if-bytes-lt2.false)) (sym c.is_two.ensures ∙ h)
