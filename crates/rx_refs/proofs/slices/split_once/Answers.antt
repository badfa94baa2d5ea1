use Rattle.rx_refs.proofs.Common.{◌≡◌, ℕ, ◌<◌, List, ◌++◌, ◌∷◌, false, Option, Some, None, MatchOption, chars, IsUtf8, IsSplitOnceResult, Bor, holds}
use Rattle.rx_refs.proofs.CutLemmas.{lacking, first-char}
use Rattle.rx_refs.proofs.slices.split_once.Goals as goal

in_chars : (mark : ℕ) (bs : List ℕ) (r : Option (Bor (List ℕ) × Bor (List ℕ))) → IsSplitOnceResult mark bs r → mark < 128 → IsUtf8 bs
    → MatchOption r (holds mark (chars bs) ≡ false) (λ cut. (chars bs ≡ chars cut.0.now ++ mark ∷ chars cut.1.now) × (holds mark (chars cut.0.now) ≡ false))
in_chars mark bs None s small u = lacking mark bs u s
in_chars mark bs (Some cut) s small u =
    let f = first-char mark bs s.0 s.1 small u s.2 in
    rw (s.3, s.4) f

pub returns : goal.returns
returns c = in_chars c.args.mark c.args.text.now c.split_once.result c.split_once.ensures.cases c.requires c.utf8.text
