use Rattle.rx_refs.proofs.Common.{◌≡◌, ◌∙◌, ◌∷◌, ◌++◌, [], false, true, sym, ap, refl, ◌&&◌, is_some, chars, Chars, is_empty, ascii-chars, through_last_slash, seen}
use Rattle.rx_refs.specs.Dots.{without_dots}
use Rattle.rx_refs.proofs.TargetLemmas.{seen-some, relative-bare, relative-merged}
use Rattle.rx_refs.proofs.targets.target_path.Goals as goal

pub returns-then-is_bare : goal.returns-then-is_bare
returns-then-is_bare c =
    let bare : (is_some (seen c.args.base).authority && is_empty (seen c.args.base).path) ≡ true = ap (λ b. b && is_empty (seen c.args.base).path) (seen-some c.args.base.authority) ∙ sym c.if-is_bare.ensures in
    ap (λ (x : Chars). without_dots (through_last_slash x ++ chars c.args.path.now)) (ascii-chars (47 ∷ []) refl)
    ∙ sym (relative-bare (seen c.args.base) (chars c.args.path.now) (sym c.if-begins_with_slash.ensures) bare)

pub returns : goal.returns
returns c =
    let covered : (is_some (seen c.args.base).authority && is_empty (seen c.args.base).path) ≡ false = ap (λ b. b && is_empty (seen c.args.base).path) (seen-some c.args.base.authority) ∙ sym c.if-is_bare.ensures in
    sym (relative-merged (seen c.args.base) (chars c.args.path.now) (sym c.if-begins_with_slash.ensures) covered)
