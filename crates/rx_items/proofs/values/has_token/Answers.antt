use Rattle.rx_items.proofs.Common.{◌≡◌, Bool, true, false, List, ℕ, length, take, drop, refl, sym, ap, not, ◌==◌, is_ascii_whitespace, position_or_len, chars, IsUtf8, IsTrimAsciiStart, tokens, is_any}
use Rattle.rx_words.proofs.TokenLemmas.{no-tokens, first-token, tokens-first}
use Rattle.rx_items.proofs.values.has_token.Goals as goal

something_left : (text left : List ℕ) (empty : Bool) → IsUtf8 text → IsUtf8 left → IsTrimAsciiStart text left → empty ≡ (length left == 0) → not empty ≡ is_any (tokens (chars text))
something_left text left true u v trim is = sym (ap is_any (no-tokens text left true u v trim is refl))
something_left text left false u v trim is =
    let end = position_or_len is_ascii_whitespace left in
    let cut = first-token text left (take end left) (drop end left) end false u v trim is refl refl refl refl in
    sym (ap is_any (tokens-first (chars text) (chars (take end left)) (chars (drop end left)) cut.0))

pub returns : goal.returns
returns c = something_left c.args.text.now c.trim_ascii_start.result.now c.is_empty.result c.utf8.text c.trim_ascii_start.utf8 c.trim_ascii_start.ensures.value c.is_empty.ensures
