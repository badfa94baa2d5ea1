use Rattle.rx_words.proofs.CaseLemmas.{same-lowered}
use Rattle.rx_words.proofs.letter_case.is_same_lowered.Goals as goal

pub returns : goal.returns
returns c = same-lowered c.args.a.now c.args.b.now c.eq_ignore_ascii_case.result c.utf8.a c.utf8.b c.eq_ignore_ascii_case.ensures.test
