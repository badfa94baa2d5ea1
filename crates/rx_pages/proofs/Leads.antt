-- Whether a document type may still come matters only where a token is complete.
use Rattle.rx_pages.proofs.Common.{◌≡◌, ◌∙◌, Bool, ℕ, List, [], ◌∷◌, ◌++◌, refl, sym, ap, Ok, Syntax, Item, Content, Limits, Spot, Scanning, scan_from}
use Rattle.rx_pages.proofs.Below.{byte_read, first, scan_first, with_before}

module _ (syntax : Syntax) (limits : Limits) (inside : Content) (a b : Bool) where
  abbrev here : Spot
  here = record { inside = inside; leads = a }

  abbrev there : Spot
  there = record { inside = inside; leads = b }

  -- bytes that complete no token are read alike
  pub scan_same : (bytes : List ℕ) (s next : Scanning) → scan_from syntax limits here s bytes ≡ Ok (record { next = next; items = [] }) → scan_from syntax limits there s bytes ≡ Ok (record { next = next; items = [] })
  scan_same [] s next h = h
  scan_same (byte ∷ bytes) s next h =
      let f = first syntax limits here s byte bytes next [] h in
      let none = no_items f.r.items f.more (sym f.are) in
      let ih = scan_same bytes f.r.next next (f.behind ∙ ap (λ x. Ok (record { next = next; items = x })) none.1) in
      scan_first syntax limits there s byte bytes f.r ((byte_read syntax limits here b s byte f.r f.read).1 none.0)
      ∙ (ap (λ x. with_before f.r.items x) ih ∙ ap (λ x. Ok (record { next = next; items = x ++ [] })) none.0)
    where
      no_items : (x y : List Item) → x ++ y ≡ [] → (x ≡ []) × (y ≡ [])
      no_items [] y h = (refl, h)
      no_items (i ∷ x) y h = absurd (cc)
