-- What may be taken at once: text, characters of a tag, and those with which a tag begins behind its `<`.
use Rattle.std.specs.Prelude.{◌≡◌, ℕ, List, [], ◌∷◌}
use Rattle.rx_scan.specs.declared.marks.TokenState.TheVariants as mark
use Rattle.rx_scan.specs.declared.places.Setting.{Setting}
use Rattle.rx_scan.specs.Bytes.{IsOfTag}
use Rattle.rx_scan.specs.Entries.{with_mark}
use Rattle.rx_scan.specs.Fronts.{FeedsFront}
use Rattle.rx_scan.specs.Scanner.{Reading}
use Rattle.rx_scan.specs.WholeReferences.{TellsText}

-- the first byte surely begins a tag
abbrev pub OpensTag : Setting → List ℕ → Type 0
OpensTag setting [] = ⊥
OpensTag setting (c ∷ bytes) = IsOfTag setting mark.LessThan c

-- the `<` that was read is a tag's
abbrev pub with_tag_mark : Reading → Reading
with_tag_mark v = record { setting = v.setting; place = v.place; held = v.held; pending = with_mark mark.Tag v.pending; text = v.text; end = v.end }

-- Behind a `<` these bytes begin a tag, which goes on with them.
pub record OpensFront (old : Reading) (front : List ℕ) (new : Reading) : Type 0 where
  pub opened : old.pending.mark ≡ mark.LessThan
  pub begins : OpensTag old.setting front
  pub feeds : FeedsFront (with_tag_mark old) front new

-- They are taken: they are told, the tag goes on with them, or it begins with them.
pub data ReadsFront (old : Reading) (front : List ℕ) (new : Reading) : Type 0 where
  of_text : TellsText old front new → ReadsFront old front new
  of_tag : FeedsFront old front new → ReadsFront old front new
  of_opening : OpensFront old front new → ReadsFront old front new
