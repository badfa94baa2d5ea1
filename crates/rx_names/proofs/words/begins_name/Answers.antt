use Rattle.rx_terms.proofs.Common.{◌∙◌, ap, sym, chars_past_char}
use Rattle.rx_names.specs.Words.{begins_name}
use Rattle.rx_names.proofs.words.begins_name.Goals as goal

pub returns-in-Some : goal.returns-in-Some
returns-in-Some c =
    let next = chars_past_char c.args.text.now _ _ c.utf8.text (sym c.chars.ensures.rest ∙ c.in-Some.ensures.steps.0) in
    c.is_nc_start.ensures ∙ sym (ap begins_name next)
