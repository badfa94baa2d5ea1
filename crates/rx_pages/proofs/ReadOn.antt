-- The characters of the front of a page's bytes are the first of the page's characters.
use Rattle.rx_grammar.proofs.Common.{◌≡◌, ◌∙◌, ℕ, List, [], ◌∷◌, ◌++◌, refl, ap, sym, false, chars, chars-append, chars-encodes, PlacedCharacter, IsRead, placed, without_mark, preprocessed}
use Rattle.rx_pages.proofs.Entered.{page_behind}

-- one list begins with another
pub record Begins (all front : List PlacedCharacter) : Type 0 where
  pub more : List PlacedCharacter
  pub are : all ≡ front ++ more

begins : (cs xs : List ℕ) → Begins (preprocessed false (without_mark (placed 0 (cs ++ xs)))) (preprocessed false (without_mark (placed 0 cs)))
begins [] xs = record { more = _; are = refl }
begins (c ∷ cs) xs = record { more = _; are = page_behind (c ∷ cs) xs refl }

pub read_on : (whole rest : List ℕ) (front all : List PlacedCharacter) → IsRead whole front → IsRead (whole ++ rest) all → Begins all front
read_on whole rest front all r s =
    let split : s.characters ≡ r.characters ++ chars rest =
    sym (chars-encodes s.characters s.scalars) ∙ (ap chars s.forms ∙ (chars-append whole rest (r.characters, (r.scalars, r.forms)) ∙ ap (λ x. x ++ chars rest) (sym (ap chars r.forms) ∙ chars-encodes r.characters r.scalars))) in
    let b = begins r.characters (chars rest) in
    record { more = b.more; are = s.read ∙ (ap (λ x. preprocessed false (without_mark (placed 0 x))) split ∙ (b.are ∙ ap (λ x. x ++ b.more) (sym r.read))) }
