-- Where one token is complete among some bytes, and that a document type is complete only where it may come.
use Rattle.rx_pages.proofs.Words.{◌≡◌, ◌∙◌, ℕ, Bool, true, List, [], ◌∷◌, ◌++◌, refl, sym, ap, Ok, Syntax, Token, kept, doctype, Item, Limits, Spot, Scanning, Scanned, read_byte, scan_from}
use Rattle.rx_pages.proofs.Below.{IsKept, is_kept, FirstEnds, no_item, ends_here, told_next, byte_is, First, first, ok_same, scan_first, with_before}

no_doctype : (token : Token) → IsKept token → token ≡ doctype → ⊥
no_doctype token (is_kept text e) d = let w : kept text ≡ doctype = sym e ∙ d in cc

first_leads : {leads : Bool} {first at : ℕ} {items : List Item} → FirstEnds leads first at items → (item : Item) (more : List Item) → items ≡ item ∷ more → item.token ≡ doctype → leads ≡ true
first_leads no_item item more h d = absurd (cc)
first_leads (ends_here i l f w) item more h d = let same : i ≡ item = cc in w (ap (λ (x : Item). x.token) same ∙ d)
first_leads (told_next i items k) item more h d = let same : i ≡ item = cc in absurd (no_doctype i.token k (ap (λ (x : Item). x.token) same ∙ d))

module _ (syntax : Syntax) (limits : Limits) (spot : Spot) where
  -- the first token of a byte is a document type only where one may come
  pub byte_leads : (byte : ℕ) (s : Scanning) (r : Scanned) (item : Item) (more : List Item) → read_byte syntax limits spot byte s ≡ Ok r → r.items ≡ item ∷ more → item.token ≡ doctype → spot.leads ≡ true
  byte_leads byte s r item more h = first_leads (byte_is syntax limits spot s byte r h).items item more

  -- the byte that completes the one token, and those before and behind it
  pub record OneByte (s : Scanning) (bytes : List ℕ) (next : Scanning) (item : Item) : Type 0 where
    pub front : List ℕ
    pub byte : ℕ
    pub rest : List ℕ
    pub are : bytes ≡ front ++ byte ∷ rest
    pub before : Scanning
    pub after : Scanning
    pub reads : scan_from syntax limits spot s front ≡ Ok (record { next = before; items = [] })
    pub completes : read_byte syntax limits spot byte before ≡ Ok (record { next = after; items = item ∷ [] })
    pub behind : scan_from syntax limits spot after rest ≡ Ok (record { next = next; items = [] })

  at_first : (byte : ℕ) (bytes : List ℕ) (s next : Scanning) (item : Item) (f : First syntax limits spot s byte bytes next (item ∷ [])) → (scan_from syntax limits spot f.r.next bytes ≡ Ok (record { next = next; items = item ∷ [] }) → OneByte f.r.next bytes next item) → OneByte s (byte ∷ bytes) next item
  at_first byte bytes s next item f again = by f.r.items f.are refl
    where
      by : (items : List Item) → item ∷ [] ≡ items ++ f.more → f.r.items ≡ items → OneByte s (byte ∷ bytes) next item
      by [] e k =
          let ih = again (f.behind ∙ ap (λ x. Ok (record { next = next; items = x })) (sym e)) in
          record {
            front = byte ∷ ih.front;
            byte = ih.byte;
            rest = ih.rest;
            are = ap (λ x. byte ∷ x) ih.are;
            before = ih.before;
            after = ih.after;
            reads = scan_first syntax limits spot s byte ih.front f.r f.read ∙ (ap (λ x. with_before f.r.items x) ih.reads ∙ ap (λ x. Ok (record { next = ih.before; items = x ++ [] })) k);
            completes = ih.completes;
            behind = ih.behind;
          }
      by (i ∷ []) e k =
          let same : item ≡ i = cc in
          let left : f.more ≡ [] = cc in
          record {
            front = [];
            byte = byte;
            rest = bytes;
            are = refl;
            before = s;
            after = f.r.next;
            reads = refl;
            completes = f.read ∙ ap (λ x. Ok (record { next = f.r.next; items = x })) (k ∙ ap (λ x. x ∷ []) (sym same));
            behind = f.behind ∙ ap (λ x. Ok (record { next = next; items = x })) left;
          }
      by (i ∷ j ∷ items) e k = absurd (cc)

  pub one_byte : (bytes : List ℕ) (s next : Scanning) (item : Item) → scan_from syntax limits spot s bytes ≡ Ok (record { next = next; items = item ∷ [] }) → OneByte s bytes next item
  one_byte [] s next item h = absurd (let same = ok_same syntax limits spot (record { next = s; items = [] }) (record { next = next; items = item ∷ [] }) h in let e : [] ≡ item ∷ [] = ap (λ (z : Scanned). z.items) same in cc)
  one_byte (byte ∷ bytes) s next item h = let f = first syntax limits spot s byte bytes next (item ∷ []) h in at_first byte bytes s next item f (λ g. one_byte bytes f.r.next next item g)
