-- A tag is complete at the last byte that was read.
use Rattle.rx_pages.proofs.Words.{◌≡◌, ◌∙◌, ℕ, ◌+◌, Bool, List, [], ◌∷◌, ◌++◌, refl, sym, ap, subst, length, Ok, arith, Syntax, Item, Limits, Spot, Scanning, Scanned, token_at, read_byte, scan_from}
use Rattle.rx_pages.proofs.Doctyped.{one_byte}
use Rattle.rx_pages.proofs.Below.{IsKept, FirstEnds, ends_here, told_next, byte_is, first, ok_same}

nothing : (bytes : List ℕ) → length bytes ≡ 0 → bytes ≡ []
nothing [] h = refl
nothing (b ∷ bytes) h = absurd (cc)

module _ (syntax : Syntax) (limits : Limits) (spot : Spot) where
  pub scan_at : (bytes : List ℕ) (s next : Scanning) (items : List Item) → scan_from syntax limits spot s bytes ≡ Ok (record { next = next; items = items }) → next.at ≡ s.at + length bytes
  scan_at [] s next items h = let same = ok_same syntax limits spot (record { next = s; items = [] }) (record { next = next; items = items }) h in sym (ap (λ (z : Scanned). z.next.at) same) ∙ (omega arith)
  scan_at (byte ∷ bytes) s next items h =
      let f = first syntax limits spot s byte bytes next items h in
      let b = byte_is syntax limits spot s byte f.r f.read in
      let n = b.next in
      let ih = scan_at bytes f.r.next next f.more f.behind in
      omega arith

  -- the bytes before the last one complete no token
  pub record LastByte (s : Scanning) (bytes : List ℕ) (next : Scanning) (item : Item) : Type 0 where
    pub front : List ℕ
    pub byte : ℕ
    pub are : bytes ≡ front ++ byte ∷ []
    pub before : Scanning
    pub reads : scan_from syntax limits spot s front ≡ Ok (record { next = before; items = [] })
    pub completes : read_byte syntax limits spot byte before ≡ Ok (record { next = next; items = item ∷ [] })
    pub first_is : item.first ≡ token_at before
    pub last_is : item.last ≡ before.at

  -- the item of one byte stands at its end
  ends_at : {leads : Bool} {first at : ℕ} (item : Item) → FirstEnds leads first at (item ∷ []) → (IsKept item.token → ⊥) → (item.last ≡ at) × (item.first ≡ first)
  ends_at item (ends_here _ l f w) n = (l, f)
  ends_at item (told_next _ _ k) n = absurd (n k)

  pub last_byte : (bytes : List ℕ) (s next : Scanning) (item : Item) → scan_from syntax limits spot s bytes ≡ Ok (record { next = next; items = item ∷ [] }) → item.last + 1 ≡ next.at → (IsKept item.token → ⊥) → LastByte s bytes next item
  last_byte bytes s next item h l n =
      let o = one_byte syntax limits spot bytes s next item h in
      let b = byte_is syntax limits spot o.before o.byte (record { next = o.after; items = item ∷ [] }) o.completes in
      let ends = ends_at item b.items n in
      let none : o.rest ≡ [] = nothing o.rest (let at = ends.0 in let nx = b.next in let end = scan_at o.rest o.after next [] o.behind in omega arith) in
      let same = ok_same syntax limits spot (record { next = o.after; items = [] }) (record { next = next; items = [] }) (subst (λ x. scan_from syntax limits spot o.after x ≡ Ok (record { next = next; items = [] })) none o.behind) in
      record {
        front = o.front;
        byte = o.byte;
        are = o.are ∙ ap (λ x. o.front ++ o.byte ∷ x) none;
        before = o.before;
        reads = o.reads;
        completes = o.completes ∙ ap (λ (z : Scanned). Ok (record { next = z.next; items = item ∷ [] })) same;
        first_is = ends.1;
        last_is = ends.0;
      }
