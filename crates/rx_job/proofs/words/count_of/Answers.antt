use Rattle.std.proofs.Common.{◌∙◌, sym, ap}
use Rattle.rx_job.specs.Words.{is_positive_number}
use Rattle.rx_job.proofs.NumberLemmas.{is_count, is_past, is_too_long}
use Rattle.rx_job.proofs.words.count_of.Goals as goal

pub returns-in-Ok : goal.returns-in-Ok
returns-in-Ok c = is_count (Unit {0}) c.args.word.now c.as_str-digits.result.now c.in-Ok.count c.as_str-digits.ensures.bytes (ap is_positive_number (sym c.as_str-digits.ensures.characters) ∙ (sym c.is_number.ensures ∙ c.if-not-is_number.false)) c.in-Ok.ensures.value.0 c.if-count-le-MOST_ITEMS.true

pub returns-in_default : goal.returns-in_default
returns-in_default c = is_past (Unit {0}) c.args.word.now c.as_str-digits.result.now c.in-Ok.count c.as_str-digits.ensures.bytes (ap is_positive_number (sym c.as_str-digits.ensures.characters) ∙ (sym c.is_number.ensures ∙ c.if-not-is_number.false)) c.in-Ok.ensures.value.0 c.if-count-le-MOST_ITEMS.false

pub returns-in_default-2 : goal.returns-in_default-2
returns-in_default-2 c = is_too_long c.args.word.now c.as_str-digits.result.now c.in_default.field-0 c.as_str-digits.ensures.bytes (ap is_positive_number (sym c.as_str-digits.ensures.characters) ∙ (sym c.is_number.ensures ∙ c.if-not-is_number.false)) c.in_default.ensures.value.0
