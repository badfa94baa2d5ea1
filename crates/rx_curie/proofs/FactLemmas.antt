-- The facts of a tag from its attributes.
use Rattle.rx_rdfa.proofs.Common.{◌≡◌, ◌∙◌, refl, ap₂, Bool, List, ℕ, Option, Some, None, Bor, is_some, option_and_then, Chars, seen_slice, ElementTag, Context, link}

pub is_some-seen : (r : Option (Bor (List ℕ))) → is_some r ≡ is_some (seen_slice r)
is_some-seen None = refl
is_some-seen (Some x) = refl

pub link-is : (context : Context) (line : List ElementTag) (made : Option (List Chars)) (seen value : Option Chars) (told beside : Bool) → made ≡ option_and_then (link context line told) seen → told ≡ beside → seen ≡ value
    → made ≡ option_and_then (link context line beside) value
link-is context line made seen value told beside m t s = m ∙ ap₂ (λ b v. option_and_then (link context line b) v) t s
