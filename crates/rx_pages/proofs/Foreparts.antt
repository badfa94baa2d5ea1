-- The bytes before a character of a page are read as the characters before it.
use Rattle.rx_pages.proofs.Words.{◌≡◌, ◌∙◌, ℕ, ◌+◌, ◌≤◌, true, List, [], ◌∷◌, ◌++◌, refl, sym, ap, subst, length, append_assoc, append-nil, arith, take, all_scalars, encodes, scalar, encodes-append, and_parts, and_from, length-append, PlacedCharacter, IsRead, token_of, take-append_seam, no_end}
use Rattle.rx_pages.proofs.Entered.{Within, page_within, page_parted, at_last, from_first}

pub scalars_parts : (a b : List ℕ) → all_scalars (a ++ b) ≡ true → (all_scalars a ≡ true) × (all_scalars b ≡ true)
scalars_parts [] b h = (refl, h)
scalars_parts (c ∷ a) b h = let p = and_parts (scalar c) (all_scalars (a ++ b)) h in let q = scalars_parts a b p.1 in (and_from (scalar c) (all_scalars a) p.0 q.0, q.1)

-- What stands before a run at the end of some whole characters.
pub record Forepart (bytes whole : List ℕ) (front run : List PlacedCharacter) : Type 0 where
  pub first : List ℕ
  pub is : take (token_of whole run) bytes ≡ first
  pub read : IsRead first front
  pub size : length first ≡ token_of whole run
  pub within : length first ≤ length whole
  pub order : (es : List PlacedCharacter) (c : PlacedCharacter) → run ≡ es ++ c ∷ [] → token_of whole run ≤ c.last

pub forepart : (bytes whole rest : List ℕ) (front run : List PlacedCharacter) → bytes ≡ whole ++ rest → IsRead whole (front ++ run) → Forepart bytes whole front run
forepart bytes whole rest front [] e r =
    record {
      first = whole;
      is = ap (λ x. take (length whole) x) e ∙ take-append_seam whole rest;
      read = subst (λ es. IsRead whole es) (append-nil front) r;
      size = refl;
      within = omega arith;
      order = λ es c h. absurd (no_end es c h);
    }
forepart bytes whole rest front (d ∷ run) e r =
    let p = page_parted r.characters front d run (sym r.read) in
    let at : d.first ≡ length (encodes p.before) = ap (λ (x : PlacedCharacter). x.first) p.is in
    let forms : encodes p.before ++ encodes (p.c ∷ p.left) ≡ whole = sym (encodes-append p.before (p.c ∷ p.left)) ∙ (sym (ap encodes p.are) ∙ r.forms) in
    let all : bytes ≡ encodes p.before ++ (encodes (p.c ∷ p.left) ++ rest) = e ∙ (ap (λ x. x ++ rest) (sym forms) ∙ append_assoc (encodes p.before) (encodes (p.c ∷ p.left)) rest) in
    let sizes : length (encodes p.before) + length (encodes (p.c ∷ p.left)) ≡ length whole = sym (length-append (encodes p.before) (encodes (p.c ∷ p.left))) ∙ ap length forms in
    let hi : ℕ = length (encodes r.characters) in
    record {
      first = encodes p.before;
      is = ap (λ x. take d.first x) all ∙ (ap (λ n. take n (encodes p.before ++ (encodes (p.c ∷ p.left) ++ rest))) at ∙ take-append_seam (encodes p.before) (encodes (p.c ∷ p.left) ++ rest));
      read = record { characters = p.before; scalars = (scalars_parts p.before (p.c ∷ p.left) (sym (ap all_scalars p.are) ∙ r.scalars)).0; forms = refl; read = sym p.read };
      size = sym at;
      within = omega arith;
      order = λ es c h. at_last d.first hi es c (subst (λ xs. Within d.first hi xs) h (from_first 0 hi front d run (subst (λ xs. Within 0 hi xs) (sym r.read) (page_within r.characters))));
    }
