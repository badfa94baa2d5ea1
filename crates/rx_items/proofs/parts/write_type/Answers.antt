use Rattle.rx_terms.proofs.Common.{[], ◌∷◌, on_ok_weaker, chars}
use Rattle.rx_items.proofs.WritingLemmas.{several_made}
use Rattle.rx_items.proofs.parts.write_type.Goals as goal

pub returns : goal.returns
returns g c =
    on_ok_weaker c.end_seq.result
    (λ ended. several_made _ (chars c.args.text.now ∷ []) (λ none. cc) c.in_ok-key.ensures c.in_ok-begin_seq.ensures c.in_ok-write_text.ensures ended)
    c.end_seq.ensures
