use Rattle.std.proofs.Common.{◌∙◌, ◌<◌, ◌^◌, sym, rules}
use Rattle.rx_jsonld.proofs.LabelLemmas.{label_bytes}
use Rattle.rx_jsonld.proofs.said.label.Goals as goal

pub returns : goal.returns
returns c =
    let fits : c.args.blank.0 < 2 ^ 64 = search rules in
    c.in_ok-format.ensures.ok ∙ sym (label_bytes c.args.blank.0 fits)
