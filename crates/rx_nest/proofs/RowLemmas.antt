-- The rows are of ASCII, and so are the names that choose a content.
use Rattle.rx_nest.proofs.Common.{◌≡◌, ℕ, true, List, refl, chars, IsUtf8, same-ascii, codes, inside_html, row_seen}
use Rattle.rx_nest.specs.declared.tables.OmittedEnd.{OmittedEnd}
use Rattle.rx_nest.specs.declared.tables.OmittedEnd.TheVariants.{Item}
use Rattle.rx_nest.proofs.NameLemmas.{are_ascii}

pub row_ascii : (row : OmittedEnd) → are_ascii (row_seen row) ≡ true
row_ascii Item = refl
row_ascii _ = refl

pub inside-chars : (bs : List ℕ) → IsUtf8 bs → inside_html bs ≡ inside_html (chars bs)
inside-chars bs u =
    rw (
      same-ascii bs (codes "svg") u refl,
      same-ascii bs (codes "math") u refl,
      same-ascii bs (codes "script") u refl,
      same-ascii bs (codes "style") u refl,
      same-ascii bs (codes "iframe") u refl,
      same-ascii bs (codes "noembed") u refl,
      same-ascii bs (codes "noframes") u refl,
      same-ascii bs (codes "xmp") u refl,
      same-ascii bs (codes "title") u refl,
      same-ascii bs (codes "textarea") u refl,
    ) refl
