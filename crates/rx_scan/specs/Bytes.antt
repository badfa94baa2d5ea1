-- Characters that surely belong to a tag.
use Rattle.std.specs.Prelude.{◌≡◌, ℕ, true, false, ◌==◌}
use Rattle.rx_grammar.specs.Common.{byte_order_mark, carriage_return, line_feed}
use Rattle.rx_scan.specs.declared.marks.TokenState.{TokenState}
use Rattle.rx_scan.specs.declared.marks.Move.TheVariants as move
use Rattle.rx_scan.specs.KnownTags.{is_tag_with}
use Rattle.rx_scan.specs.Marks.{scan_move}
use Rattle.rx_scan.specs.declared.places.Setting.{Setting}

-- Behind the mark the character goes on with a tag. It is no NUL, no byte order mark and ends no line.
pub record IsOfTag (setting : Setting) (mark : TokenState) (c : ℕ) : Type 0 where
  pub moves : scan_move setting.syntax setting.inside mark c ≡ move.Tags
  pub known : is_tag_with setting.syntax setting.inside mark c ≡ true
  pub some : (c == 0) ≡ false
  pub unmarked : (c == byte_order_mark) ≡ false
  pub on_a_line : (c == carriage_return) ≡ false
  pub goes_on : (c == line_feed) ≡ false
