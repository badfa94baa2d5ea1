use Rattle.rx_terms.proofs.Common.{sym, on_ok_weaker, encodes-chars, chars}
use Rattle.rx_items.proofs.WritingLemmas.{text_told}
use Rattle.rx_items.proofs.parts.write_text.Goals as goal

pub returns : goal.returns
returns g c =
    on_ok_weaker c.str.result (λ wrote. text_told c.args.text.now (chars c.args.text.now) (sym (encodes-chars c.args.text.now c.utf8.text)) wrote) c.str.ensures
