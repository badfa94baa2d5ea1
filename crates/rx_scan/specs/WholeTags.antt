-- A tag that stands whole is taken at once.
use Rattle.std.specs.Prelude.{◌≡◌, ◌+◌, ◌<◌, ℕ, true, false, List, [], ◌∷◌, take, Ok}
use Rattle.rx_grammar.specs.Common.{less_than_sign, greater_than_sign, has_markup}
use Rattle.rx_tags.specs.Lists.{ClosesAt}
use Rattle.rx_scan.specs.declared.answers.TokenKind.TheVariants as what
use Rattle.rx_scan.specs.declared.marks.TokenState.TheVariants as mark
use Rattle.rx_scan.specs.Entries.{Tags, with_begun, with_mark}
use Rattle.rx_scan.specs.Openings.{OpensFront}
use Rattle.rx_scan.specs.Scanner.{Reading}

-- Behind a `<` that was read a tag stands whole in n bytes: it begins and goes on with those before its `>`, by which it is whole.
-- None is past the page's limit or the tag's.
pub record ReadsOpened (old : Reading) (bytes : List ℕ) (n : ℕ) (new : Reading) : Type 0 where
  pub at : ℕ
  pub count : n ≡ at + 1
  pub closes : ClosesAt bytes at
  pub before : Reading
  pub front : OpensFront old (take at bytes) before
  pub page : before.place.at < before.setting.limits.page
  pub tag : before.place.at < before.place.token + before.setting.limits.tag
  pub ends : Tags before greater_than_sign false (with_mark mark.Tag before.pending) (Ok what.Tag) new

-- Where no token is begun, `<` begins one, and these bytes follow it.
pub record ReadsBehind (old : Reading) (bytes : List ℕ) (n : ℕ) (new : Reading) : Type 0 where
  pub between : old.pending.mark ≡ mark.Nothing
  pub held : old.held ≡ []
  pub page : old.place.at < old.setting.limits.page
  pub markup : has_markup old.setting.inside ≡ true
  pub opened : ReadsOpened (with_begun old false mark.LessThan) bytes n new

-- A tag stands whole in n bytes, of which the first is its `<`.
pub record ReadsWholeTag (old : Reading) (bytes : List ℕ) (n : ℕ) (new : Reading) : Type 0 where
  pub rest : List ℕ
  pub opens : bytes ≡ less_than_sign ∷ rest
  pub behind : ℕ
  pub count : n ≡ behind + 1
  pub reads : ReadsBehind old rest behind new
