-- References and line ends that stand whole in a piece, and are taken at once, and the text that stands around them.
use Rattle.std.specs.Prelude.{◌≡◌, ◌+◌, ◌≤◌, ◌<◌, ℕ, true, List, [], ◌∷◌, ◌++◌, length, take, codes, Option, Some, None, if◌then◌else◌}
use Rattle.rx_grammar.specs.Common.{line_feed, ampersand, semicolon, quotation_mark, less_than_sign, greater_than_sign, Chars, begins_with, Syntax, carriage_return, meaning, has_references}
use Rattle.rx_reader.specs.declared.phases.RunPhase.{RunPhase}
use Rattle.rx_reader.specs.declared.phases.RunPhase.TheVariants as run
use Rattle.rx_reader.specs.declared.phases.RunMove.{RunMove}
use Rattle.rx_reader.specs.declared.phases.RunMove.TheVariants as run_moves
use Rattle.rx_reader.specs.Tables.{run_move}
use Rattle.rx_scan.specs.declared.marks.TokenState.TheVariants as mark
use Rattle.rx_scan.specs.Entries.{TextGains, with_parts, undropped}
use Rattle.rx_scan.specs.Fronts.{TellsPlain, TellsFront}
use Rattle.rx_scan.specs.Pending.{run_on}
use Rattle.rx_scan.specs.Places.{text_passed}
use Rattle.rx_scan.specs.Scanner.{Reading}

-- the usual reference at the front, if one stands there whole: its character, and how many bytes it has
abbrev pub usual_reference : List ℕ → Option (ℕ × ℕ)
usual_reference bytes =
    if begins_with (codes "&amp;") bytes then Some (ampersand, 5) else if begins_with (codes "&lt;") bytes then Some (less_than_sign, 4)
    else if begins_with (codes "&gt;") bytes then Some (greater_than_sign, 4) else if begins_with (codes "&quot;") bytes then Some (quotation_mark, 6) else None

-- How many bytes were taken behind an `&`, through the `;` of its reference, or 0 where it is none.
abbrev pub body_from : RunMove → ℕ → List ℕ → ℕ
body_from (run_moves.Goes p) n [] = 0
body_from (run_moves.Goes p) n (byte ∷ bytes) = body_from (run_move p byte) (n + 1) bytes
body_from run_moves.Closes n bytes = n
body_from run_moves.Stops n bytes = 0

abbrev pub body_length : List ℕ → ℕ
body_length bytes = body_from (run_moves.Goes run.Ampersand) 0 bytes

-- These bytes are a reference, of a name or of a number, which means this character.
pub record IsReference (syntax : Syntax) (c : ℕ) (front : List ℕ) : Type 0 where
  pub body : Chars
  pub are : front ≡ ampersand ∷ (body ++ semicolon ∷ [])
  pub last : RunPhase
  pub goes : run_on (run_moves.Goes run.Ampersand) body ≡ run_moves.Goes last
  pub closes : run_move last semicolon ≡ run_moves.Closes
  pub means : meaning syntax body ≡ Some c

-- So many bytes at the front are one. No character has more bytes.
pub record BeginsReference (syntax : Syntax) (bytes : List ℕ) (c n : ℕ) : Type 0 where
  pub is : IsReference syntax c (take n bytes)
  pub some : 4 ≤ n
  pub fits : n ≤ length bytes

-- Where plain text may be told, and references are read, its character is.
pub record TellsReference (old : Reading) (front : List ℕ) (new : Reading) : Type 0 where
  pub between : old.pending.mark ≡ mark.Nothing
  pub may : TellsPlain old
  pub reads : has_references old.setting.inside ≡ true
  pub page : old.place.at + length front ≤ old.setting.limits.page
  pub c : ℕ
  pub reference : IsReference old.setting.syntax c front
  pub text : TextGains old.text new.text c
  pub is : new ≡ with_parts old (undropped old.setting) (text_passed (length front) old.place) old.pending new.text

-- A CR and an LF stand at the front.
pub record BeginsLineEnd (bytes : List ℕ) : Type 0 where
  pub is : take 2 bytes ≡ carriage_return ∷ line_feed ∷ []
  pub fits : 2 ≤ length bytes

-- Where plain text may be told, they are one LF of text (HTML, 13.2.3.5, preprocessing the input stream; XML 1.0, 2.11).
pub record TellsLineEnd (old : Reading) (front : List ℕ) (new : Reading) : Type 0 where
  pub between : old.pending.mark ≡ mark.Nothing
  pub may : TellsPlain old
  pub page : old.place.at + 2 ≤ old.setting.limits.page
  pub are : front ≡ carriage_return ∷ line_feed ∷ []
  pub text : TextGains old.text new.text line_feed
  pub is : new ≡ with_parts old (undropped old.setting) (text_passed 2 old.place) old.pending new.text

-- plain text is told, a reference, or a line end
pub data TellsOne (old : Reading) (front : List ℕ) (new : Reading) : Type 0 where
  of_plain : TellsFront old front new → TellsOne old front new
  of_reference : TellsReference old front new → TellsOne old front new
  of_line_end : TellsLineEnd old front new → TellsOne old front new

-- One after another they are told, of which none is empty.
pub data TellsText (old : Reading) : List ℕ → Reading → Type 0 where
  one : {front : List ℕ} {new : Reading} → 0 < length front → TellsOne old front new → TellsText old front new
  more : {front next : List ℕ} {middle new : Reading} → TellsText old front middle → 0 < length next → TellsOne middle next new → TellsText old (front ++ next) new
