use Rattle.rx_jsonld.proofs.Common.{on_ok_weaker, both}
use Rattle.rx_jsonld.proofs.said.write_empty_list.Goals as goal

pub returns : goal.returns
returns g c = on_ok_weaker c.end_list.result (λ ended. both c.in_ok-begin_list.ensures ended) c.end_list.ensures
