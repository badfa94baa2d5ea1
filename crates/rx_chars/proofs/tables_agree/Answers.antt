use Rattle.rx_chars.proofs.Utf8Forms.{tables_agree}
use Rattle.rx_chars.proofs.tables_agree.Goals as goal

pub returns : goal.returns
returns c = tables_agree
