use Rattle.rx_refs.proofs.Common.{◌∙◌, sym, ap, List, ℕ, string_bytes, chars, has_forbidden}
use Rattle.rx_refs.proofs.SchemeLemmas.{uncleaned}
use Rattle.rx_refs.proofs.escapes.clean_string.Goals as goal

pub returns : goal.returns
returns c =
    let clean = ap (λ (bs : List ℕ). has_forbidden (chars bs)) (sym c.as_str.ensures.value) ∙ sym c.if-has_forbidden.ensures in
    sym (uncleaned (chars (string_bytes c.args.text)) clean)
