use Rattle.std.proofs.lemmas.Result.{on_ok_weaker}
use Rattle.rx_eval.proofs.SeenLemmas.{seen_awaited}
use Rattle.rx_eval.proofs.listing.put_awaited.Goals as goal

pub returns : goal.returns
returns c = on_ok_weaker c.add_awaited.result (λ h. seen_awaited c.args.lists.now _ c.args.subject.now _ c.args.waiting.now c.in_ok-node_term.ensures.code h) c.add_awaited.ensures
