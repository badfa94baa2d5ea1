use Rattle.rx_chars.proofs.Utf8Exact.{answers_are_exact}
use Rattle.rx_chars.proofs.answers_are_exact.Goals as goal

pub returns : goal.returns
returns c = answers_are_exact
