use Rattle.rx_refs.proofs.ByteLemmas.{scheme-end}
use Rattle.rx_refs.proofs.plain.scheme_end_of.Goals as goal

pub returns : goal.returns
returns c = scheme-end c.args.base.now c.scheme_length-colon.result c.if-colon-base.false c.scheme_length-colon.ensures.front c.if-base-colon-ne58.false
