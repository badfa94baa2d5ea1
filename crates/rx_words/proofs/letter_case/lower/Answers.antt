use Rattle.rx_terms.proofs.Common.{◌∙◌, ap, map, string_bytes, to_ascii_lowercase, IsUtf8-string_bytes, ok_is}
use Rattle.rx_words.proofs.CaseLemmas.{lower-chars}
use Rattle.rx_words.proofs.letter_case.lower.Goals as goal

pub returns : goal.returns
returns c =
    let bytes = c.make_ascii_lowercase.ensures.bytes ∙ ap (map to_ascii_lowercase) c.in_ok-low.ensures.ok in
    ok_is c.of_string.result
    (lower-chars c.args.text.now (string_bytes c.make_ascii_lowercase.new.self) c.utf8.text (IsUtf8-string_bytes c.make_ascii_lowercase.new.self) bytes)
    c.of_string.ensures
