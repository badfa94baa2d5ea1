-- What joins the moves to the verdicts on characters.
use Rattle.std.specs.Prelude.{◌≡◌, ℕ, [], ◌∷◌, ◌++◌}
use Rattle.rx_grammar.specs.Common.{Chars, Syntax, is_known_tag}
use Rattle.rx_grammar.specs.declared.contents.Content.{Content}
use Rattle.rx_scan.specs.KnownTags.{is_tag_with, lies_in_tag}
use Rattle.rx_scan.specs.Marks.{scan_move}
use Rattle.rx_scan.specs.Meant.{Means}
use Rattle.rx_scan.specs.Pending.{Pending, Pends}

-- Whatever the characters are for which the mark stands: its move says what the verdict on the next one is, and what pends with it.
abbrev pub MovesAreVerdicts : Type 0
MovesAreVerdicts =
    (syntax : Syntax) (inside : Content) (pending : Pending) (text : Chars) (c : ℕ) → Pends syntax inside pending text
    → Means syntax inside pending text c (scan_move syntax inside pending.mark c)

-- These characters are known to begin a tag where the mark says so, and with one more where it says so with this one.
abbrev pub KnownAreTags : Type 0
KnownAreTags = (syntax : Syntax) (inside : Content) (pending : Pending) (text : Chars) → Pends syntax inside pending text
    → (is_known_tag syntax inside text ≡ lies_in_tag pending.mark) × ((c : ℕ) → is_known_tag syntax inside (text ++ c ∷ []) ≡ is_tag_with syntax inside pending.mark c)
