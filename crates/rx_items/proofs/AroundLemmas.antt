-- The rows of a page lie in each other: by their scopes, and by the items around them.
use Rattle.rx_items.proofs.Common.{◌≡◌, ◌∙◌, ◌<◌, ℕ, true, List, Some, None, refl, sym, ap, arith, Chars, slice_get, ◌⊎◌, inl, inr, Tree, Placed, is_item, row_count, rows_of, ShowsRows}
use Rattle.rx_items.specs.declared.rows.Row.{Row}
use Rattle.rx_items.specs.Lying.{Lies}
use Rattle.rx_items.proofs.HoldLemmas.{place_is}
use Rattle.rx_items.proofs.NestLemmas.{Fits, IsAround, laid, numbered}
use Rattle.rx_items.proofs.StartLemmas.{each_at, nests_at}
use Rattle.rx_items.proofs.TakeLemmas.{there_is}
use Rattle.rx_items.proofs.ShowLemmas.{shown_by, row_of}

-- the item at the place that a row's scope tells
item_around : (tree : Tree) (j k : ℕ) (e : Placed) → slice_get (rows_of tree) j ≡ Some e → e.scope ≡ Some k
    → (item : Placed) × (slice_get (rows_of tree) k ≡ Some item) × (is_item item ≡ true) × (k < j) × (j < item.past)
item_around tree j k e there scope_is = by (each_at (Fits None 0 (row_count tree) (rows_of tree)) (rows_of tree) j e (laid tree None 0 refl).fits there).around
  where
    by : (e.scope ≡ None) ⊎ ((item : Placed) × IsAround (rows_of tree) 0 e item) → (item : Placed) × (slice_get (rows_of tree) k ≡ Some item) × (is_item item ≡ true) × (k < j) × (j < item.past)
    by (inl none) = let clash : Some k ≡ None = sym scope_is ∙ none in absurd (cc (clash))
    by (inr a) =
        let item = a.0 in
        let found = there_is (rows_of tree) item (a.1).among in
        let told : Some item.place ≡ Some k = sym (a.1).scope_is ∙ scope_is in
        let at : item.place ≡ k = cc (told) in
        let index : item.place ≡ found.0 = place_is (rows_of tree) found.0 item (numbered tree) found.1 in
        let here : e.place ≡ j = place_is (rows_of tree) j e (numbered tree) there in
        (item, ap (slice_get (rows_of tree)) (sym at ∙ index) ∙ found.1, (a.1).begins, omega (arith, at, here, (a.1).low), omega (arith, here, (a.1).high))

pub lies : (words gathered : Chars) (times : List Chars) (rows : List Row) (tree : Tree) → ShowsRows words gathered times rows (rows_of tree) → Lies rows
lies words gathered times rows tree s = record {
  inside = λ i j item row item_is row_is begins low high.
      let p = shown_by words gathered times rows (rows_of tree) i item s item_is in
      let e = shown_by words gathered times rows (rows_of tree) j row s row_is in
      let at : p.0.place ≡ i = place_is (rows_of tree) i p.0 (numbered tree) p.1 in
      let here : e.0.place ≡ j = place_is (rows_of tree) j e.0 (numbered tree) e.1 in
      let nests = nests_at (rows_of tree) i j p.0 e.0 (laid tree None 0 refl).pairs p.1 e.1 in
      let k = nests.in_item (omega (arith, at, here, low)) (omega (arith, here, p.2.past, high)) (sym p.2.is_item ∙ begins) in
      (k.0, e.2.scope ∙ k.1, omega (arith, at, k.2));
  around = λ j k row row_is scope_is.
      let e = shown_by words gathered times rows (rows_of tree) j row s row_is in
      let item = item_around tree j k e.0 e.1 (sym e.2.scope ∙ scope_is) in
      let r = row_of words gathered times rows (rows_of tree) k item.0 s item.1 in
      (r.0, r.1, r.2.is_item ∙ item.2, item.3, omega (arith, r.2.past, item.4));
}
