use Rattle.rx_graph.proofs.GivenLemmas.{renamed_by}
use Rattle.rx_graph.proofs.numbering.relabel.Goals as goal

pub returns-clause-renamed : goal.returns-clause-renamed
returns-clause-renamed c = renamed_by c.args.graph.now _ c.relabel_owned.result c.in_ok-try_clone.ensures c.relabel_owned.ensures.numbered
