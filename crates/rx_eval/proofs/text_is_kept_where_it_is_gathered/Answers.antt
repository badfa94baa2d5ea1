use Rattle.rx_eval.proofs.KeptLemmas.{keeps_where_gathered}
use Rattle.rx_eval.proofs.text_is_kept_where_it_is_gathered.Goals as goal

pub returns : goal.returns
returns c = keeps_where_gathered
