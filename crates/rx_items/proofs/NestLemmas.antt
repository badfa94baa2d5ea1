-- How the rows of a tree lie in each other.
use Rattle.rx_items.proofs.Common.{◌≡◌, ◌∙◌, ℕ, suc, ◌+◌, ◌<◌, ◌≤◌, Bool, true, false, cond, List, [], ◌∷◌, ◌++◌, length, Contains, Contains-append_left, Contains-append_right, Option, Some, None, refl, sym, ap, subst, or_parts, ◌⊎◌, inl, inr, arith, StartTag, Tree, end, element, text, begins_item, facts_of, Placed, is_item, scope_in, is_after_scope, first, later, matters, behind_row, row_count, rows_from, rows_of, with_row, needed, RowsAreNumbered, length-append}
use borrow.Author.Tests.{ltb-true, lt-ltb}
use Rattle.rx_items.proofs.Alike.{Each, each_append}
use Rattle.rx_terms.proofs.Bools.{by_test}
use Rattle.std.proofs.Common.{true≢false}

pub each_by : (P Q : Placed → Type 0) (a : List Placed) → ((x : Placed) → P x → Q x) → Each P a → Each Q a
each_by P Q [] f p = tt
each_by P Q (x ∷ a) f p = (f x p.0, each_by P Q a f p.1)

each_pair : (P Q : Placed → Type 0) (R : Placed → Placed → Type 0) (a b : List Placed) → ((x y : Placed) → P x → Q y → R x y) → Each P a → Each Q b → Each (λ x. Each (R x) b) a
each_pair P Q R [] b f p q = tt
each_pair P Q R (x ∷ a) b f p q = (each_by Q (R x) b (λ y k. f x y p.0 k) q, each_pair P Q R a b f p.1 q)

each_both : (P Q : Placed → Type 0) (a : List Placed) → Each P a → Each Q a → Each (λ x. P x × Q x) a
each_both P Q [] p q = tt
each_both P Q (x ∷ a) p q = ((p.0, q.0), each_both P Q a p.1 q.1)

-- an item among these rows that is the nearest one around a row, in which the row is, and that stands behind a place
pub record IsAround (rows : List Placed) (place : ℕ) (e item : Placed) : Type 0 where
  pub among : Contains rows item
  pub scope_is : e.scope ≡ Some item.place
  pub begins : is_item item ≡ true
  pub from : place ≤ item.place
  pub low : item.place < e.place
  pub high : e.place < item.past

-- the nearest item around a row is the one around all, or it is among these
abbrev HasAround : Option ℕ → List Placed → ℕ → Placed → Type 0
HasAround scope rows place e = (e.scope ≡ scope) ⊎ ((item : Placed) × IsAround rows place e item)

-- a row stands among these places
pub record Fits (scope : Option ℕ) (place size : ℕ) (rows : List Placed) (e : Placed) : Type 0 where
  pub low : place ≤ e.place
  pub high : e.place < place + size
  pub ends : e.past ≤ place + size
  pub has_room : e.place < e.past
  pub around : HasAround scope rows place e
  pub before : is_after_scope e.scope e.place ≡ true

-- what is below a row has its own scope, or one that lies below
pub record Nests (s e : Placed) : Type 0 where
  pub in_item : s.place < e.place → e.place < s.past → is_item s ≡ true → (k : ℕ) × (e.scope ≡ Some k) × (s.place ≤ k)
  pub in_other : s.place < e.place → e.place < s.past → is_item s ≡ false → (e.scope ≡ s.scope) ⊎ ((k : ℕ) × (e.scope ≡ Some k) × (s.place < k))

abbrev pub Pairs : List Placed → List Placed → Type 0
Pairs xs ys = Each (λ s. Each (Nests s) ys) xs

-- of two parts in a row none lies in the other
apart : (s e : Placed) → (s.place < e.place → e.place < s.past → ⊥) → Nests s e
apart s e outside = record { in_item = λ a b i. absurd (outside a b); in_other = λ a b i. absurd (outside a b) }

pairs_right : (xs a b : List Placed) → Pairs xs a → Pairs xs b → Pairs xs (a ++ b)
pairs_right [] a b p q = tt
pairs_right (x ∷ xs) a b p q = (each_append (Nests x) a b p.0 q.0, pairs_right xs a b p.1 q.1)

among_more : (scope : Option ℕ) (some all : List Placed) (from place : ℕ) (e : Placed) → place ≤ from → ((item : Placed) → Contains some item → Contains all item)
    → HasAround scope some from e → HasAround scope all place e
among_more scope some all from place e l more (inl is) = inl is
among_more scope some all from place e l more (inr a) =
    inr (a.0, record { among = more a.0 (a.1).among; scope_is = (a.1).scope_is; begins = (a.1).begins; from = omega (arith, l, (a.1).from); low = (a.1).low; high = (a.1).high })

wider : (inner scope : Option ℕ) (from place size all : ℕ) (some rows : List Placed) (e : Placed) → place ≤ from → from + size ≤ place + all → HasAround scope rows place e → Fits inner from size some e
    → Fits scope place all rows e
wider inner scope from place size all some rows e l h around f =
    record { low = omega (arith, l, f.low); high = omega (arith, h, f.high); ends = omega (arith, h, f.ends); has_room = f.has_room; around = around; before = f.before }

pub not_item : (tag : StartTag) (inner : Tree) → matters (facts_of tag inner) ≡ false → begins_item tag ≡ false
not_item tag inner none = (or_parts (begins_item tag) _ none).0

before_more : (scope : Option ℕ) (place later : ℕ) → place ≤ later → is_after_scope scope place ≡ true → is_after_scope scope later ≡ true
before_more None place later le h = refl
before_more (Some k) place later le h = let lt = ltb-true k place h in lt-ltb k later (omega (arith, lt, le))

scope_before : (tag : StartTag) (place : ℕ) (scope : Option ℕ) → is_after_scope scope place ≡ true → is_after_scope (scope_in tag place scope) (suc place) ≡ true
scope_before tag place scope h = by_test (begins_item tag) (λ t. rw t (lt-ltb place (suc place) (omega arith))) (λ t. rw t (before_more scope place (suc place) (omega arith) h))

abbrev row_at : StartTag → Tree → Option ℕ → ℕ → ℕ → Placed
row_at tag inner scope place past = record { place = place; past = past; scope = scope; facts = needed (facts_of tag inner) }

numbered_append : (place : ℕ) (a b : List Placed) → RowsAreNumbered place a → RowsAreNumbered (place + length a) b → RowsAreNumbered place (a ++ b)
numbered_append place [] b p q = let plain : place + 0 ≡ place = omega arith in subst (λ n. RowsAreNumbered n b) plain q
numbered_append place (x ∷ a) b p q = let next : place + suc (length a) ≡ suc place + length a = omega arith in (p.0, numbered_append (suc place) a b p.1 (subst (λ n. RowsAreNumbered n b) next q))

-- rows that lie among these places, in each other, each at its place
pub record Laid (size : ℕ) (scope : Option ℕ) (place : ℕ) (rows : List Placed) : Type 0 where
  pub long : length rows ≡ size
  pub numbered : RowsAreNumbered place rows
  pub fits : Each (Fits scope place size rows) rows
  pub pairs : Pairs rows rows

-- rows and those behind them
laid_both : (scope : Option ℕ) (place n m : ℕ) (a b : List Placed) → Laid n scope place a → Laid m scope (place + n) b → Laid (n + m) scope place (a ++ b)
laid_both scope place n m a b p q = record {
  long = omega (arith, length-append a b, p.long, q.long);
  numbered = numbered_append place a b p.numbered (subst (λ k. RowsAreNumbered (place + k) b) (sym p.long) q.numbered);
  fits = each_append (Fits scope place (n + m) (a ++ b)) a b
      (each_by (Fits scope place n a) (Fits scope place (n + m) (a ++ b)) a
      (λ e f. wider scope scope place place n (n + m) a (a ++ b) e (omega arith) (omega arith) (among_more scope a (a ++ b) place place e (omega arith) (λ z c. Contains-append_left a b z c) f.around) f) p.fits)
      (each_by (Fits scope (place + n) m b) (Fits scope place (n + m) (a ++ b)) b
      (λ e f. wider scope scope (place + n) place m (n + m) b (a ++ b) e (omega arith) (omega arith) (among_more scope b (a ++ b) (place + n) place e (omega arith) (λ z c. Contains-append_right a b z c) f.around) f) q.fits);
  pairs = each_append (λ s. Each (Nests s) (a ++ b)) a b
      (pairs_right a a b p.pairs (each_pair (Fits scope place n a) (Fits scope (place + n) m b) Nests a b (λ x y f g. apart x y (λ low high. omega (arith, high, f.ends, g.low))) p.fits q.fits))
      (pairs_right b a b (each_pair (Fits scope (place + n) m b) (Fits scope place n a) Nests b a (λ x y f g. apart x y (λ low high. omega (arith, low, f.low, g.high))) q.fits p.fits) q.pairs);
}

module _ (tag : StartTag) (inner : Tree) (scope : Option ℕ) (place n : ℕ) (a : List Placed) where
  abbrev row : Placed
  row = row_at tag inner scope place (suc place + n)

  -- the item around what is in a row is the row, or the one around it, or it is among them
  around_in : (e : Placed) → Fits (scope_in tag place scope) (suc place) n a e → HasAround scope (row ∷ a) place e
  around_in e f = by (begins_item tag) refl f.around
    where
      by : (b : Bool) → begins_item tag ≡ b → HasAround (cond b (Some place) scope) a (suc place) e → HasAround scope (row ∷ a) place e
      by true item (inl is) = inr (row, record { among = first row a; scope_is = is; begins = item; from = omega arith; low = omega (arith, f.low); high = omega (arith, f.high) })
      by false item (inl is) = inl is
      by b item (inr k) = among_more scope a (row ∷ a) (suc place) place e (omega arith) (λ z c. later row z a c) (inr k)

  -- what is within a row nests in it
  inside : (e : Placed) → Fits (scope_in tag place scope) (suc place) n a e → Nests row e
  inside e f = by (begins_item tag) refl f.around
    where
      by : (b : Bool) → begins_item tag ≡ b → HasAround (cond b (Some place) scope) a (suc place) e → Nests row e
      by true item (inl is) = record { in_item = λ low high i. (place, is, omega arith); in_other = λ low high i. absurd (true≢false (sym item ∙ i)) }
      by true item (inr k) = record { in_item = λ low high i. ((k.0).place, (k.1).scope_is, omega (arith, (k.1).from)); in_other = λ low high i. absurd (true≢false (sym item ∙ i)) }
      by false item (inl is) = record { in_item = λ low high i. absurd (true≢false (sym i ∙ item)); in_other = λ low high i. inl is }
      by false item (inr k) = record { in_item = λ low high i. absurd (true≢false (sym i ∙ item)); in_other = λ low high i. inr ((k.0).place, (k.1).scope_is, omega (arith, (k.1).from)) }

  -- a row and those within it
  laid_row : is_after_scope scope place ≡ true → Laid n (scope_in tag place scope) (suc place) a → Laid (suc n) scope place (row ∷ a)
  laid_row h p = record {
    long = ap suc p.long;
    numbered = (refl, p.numbered);
    fits = (
      record { low = omega arith; high = omega arith; ends = omega arith; has_room = omega arith; around = inl refl; before = h },
      each_by (Fits (scope_in tag place scope) (suc place) n a) (Fits scope place (suc n) (row ∷ a)) a
          (λ e f. wider (scope_in tag place scope) scope (suc place) place n (suc n) a (row ∷ a) e (omega arith) (omega arith) (around_in e f) f) p.fits,
    );
    pairs = (
      (apart row row (λ low high. omega (arith, low)), each_by (Fits (scope_in tag place scope) (suc place) n a) (Nests row) a inside p.fits),
      each_both (λ s. Nests s row) (λ s. Each (Nests s) a) a
          (each_by (Fits (scope_in tag place scope) (suc place) n a) (λ s. Nests s row) a (λ s f. apart s row (λ low high. omega (arith, low, f.low))) p.fits) p.pairs,
    );
  }

-- an element and what follows it, whether it is a row or not
laid_element : (tag : StartTag) (inner : Tree) (scope : Option ℕ) (place n m : ℕ) (b : Bool) (xs ys : List Placed) → matters (facts_of tag inner) ≡ b → is_after_scope scope place ≡ true
    → (is_after_scope (scope_in tag place scope) (behind_row b place) ≡ true → Laid n (scope_in tag place scope) (behind_row b place) xs) → (is_after_scope scope (behind_row b place + n) ≡ true → Laid m scope (behind_row b place + n) ys)
    → Laid (behind_row b n + m) scope place (with_row b (row_at tag inner scope place (behind_row b place + n)) (xs ++ ys))
laid_element tag inner scope place n m true xs ys e h p q =
    let behind_it : suc place + n ≡ place + suc n = omega arith in
    laid_both scope place (suc n) m (row_at tag inner scope place (suc place + n) ∷ xs) ys (laid_row tag inner scope place n xs h (p (scope_before tag place scope h)))
    (subst (λ k. Laid m scope k ys) behind_it (q (before_more scope place (suc place + n) (omega arith) h)))
laid_element tag inner scope place n m false xs ys e h p q =
    let plain : scope_in tag place scope ≡ scope = ap (λ b. cond b (Some place) scope) (not_item tag inner e) in
    laid_both scope place n m xs ys (subst (λ s. Laid n s place xs) plain (p (ap (λ s. is_after_scope s place) plain ∙ h))) (q (before_more scope place (place + n) (omega arith) h))

pub laid : (tree : Tree) (scope : Option ℕ) (place : ℕ) → is_after_scope scope place ≡ true → Laid (row_count tree) scope place (rows_from scope place tree)
laid end scope place h = record { long = refl; numbered = tt; fits = tt; pairs = tt }
laid (text chars more) scope place h = laid more scope place h
laid (element tag inner more) scope place h =
    laid_element tag inner scope place (row_count inner) (row_count more) (matters (facts_of tag inner)) _ _ refl h (λ g. laid inner (scope_in tag place scope) (behind_row (matters (facts_of tag inner)) place) g)
    (λ g. laid more scope (behind_row (matters (facts_of tag inner)) place + row_count inner) g)

pub numbered : (tree : Tree) → RowsAreNumbered 0 (rows_of tree)
numbered tree = (laid tree None 0 refl).numbered
