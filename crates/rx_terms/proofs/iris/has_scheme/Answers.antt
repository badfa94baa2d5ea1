use Rattle.std.proofs.Common.{refl, lit<}
use Rattle.rx_terms.proofs.SplitLemmas.{split-chars-some, split-chars-none}
use Rattle.rx_terms.proofs.iris.has_scheme.Goals as goal

pub returns-in-Some : goal.returns-in-Some
returns-in-Some c =
    let cut = split-chars-some 58 c.args.text.now c.in-Some.scheme c.in-Some._rest c.in-Some.ensures.cases (lit< tt) c.utf8.text in
    rw cut c.is_scheme.ensures

pub returns-in-None : goal.returns-in-None
returns-in-None c =
    let cut = split-chars-none 58 c.args.text.now c.in-None.ensures.cases (lit< tt) c.utf8.text in
    rw cut refl
