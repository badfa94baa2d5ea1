-- Labels draw numbers for authors' blank nodes, and an element for its own new one.
use Rattle.rx_eval.proofs.Common.{◌≡◌, ◌∙◌, ℕ, ◌+◌, ◌<◌, ◌≤◌, ◌^◌, ◌⊎◌, inl, inr, true, false, List, [], ◌∷◌, ◌++◌, length, Option, Some, None, bytes_eq, refl, sym, ap, arith, is_some, Chars, by_test, Among, false_unless, exact_texts, Path, Bnode, Author, Made, Cell, Owner, same_bnode, exact_bnodes, Numbered, label_number, draw, Numbering, KeepsNumbers, with_number, Numbers}
use Rattle.rx_eval.proofs.NameLemmas.{grown_same, grown_then}

pub some_is : (o : Option ℕ) → is_some o ≡ true → (n : ℕ) × (o ≡ Some n)
some_is None h = absurd (cc)
some_is (Some n) h = (n, refl)

pub none_is : (o : Option ℕ) → is_some o ≡ false → o ≡ None
none_is None h = refl
none_is (Some n) h = absurd (cc)

-- ---- one more number

-- a number that is drawn, or a cell's, is so when more are
pub raised : (n drawn more cells more_cells : ℕ) → drawn ≤ more → cells ≤ more_cells → (n < drawn) ⊎ ((2 ^ 61 ≤ n) × (n < cells)) → (n < more) ⊎ ((2 ^ 61 ≤ n) × (n < more_cells))
raised n drawn more cells more_cells a b (inl x) = inl (omega (arith, x, a))
raised n drawn more cells more_cells a b (inr x) = inr (x.0, omega (arith, x.1, b))

-- each number is one of the new ones, which are no others' and within the bounds, or was there
pub numbers_more : (to now : Numbering) (New : Bnode → ℕ → Type 0) (labels labels' : Numbered) (drawn drawn' cells cells' : ℕ) → Numbers to labels drawn cells → ((b : Bnode) (n : ℕ) → now b ≡ Some n → New b n ⊎ (to b ≡ Some n))
    → ((a b : Bnode) (n : ℕ) → New a n → New b n → a ≡ b) → ((b : Bnode) (n : ℕ) → New b n → ¬ ((n < drawn) ⊎ ((2 ^ 61 ≤ n) × (n < cells)))) → ((b : Bnode) (n : ℕ) → New b n → (n < drawn') ⊎ ((2 ^ 61 ≤ n) × (n < cells')))
    → ((l : Chars) → now (Author l) ≡ label_number labels' l) → drawn ≤ drawn' → cells ≤ cells' → drawn' ≤ 2 ^ 61 → Numbers now labels' drawn' cells'
numbers_more to now New labels labels' drawn drawn' cells cells' h from once free within label a b room = record {
  label = label;
  bounded = λ x n e. bound x n (from x n e);
  one_to_one = λ x y n e f. one x y n (from x n e) (from y n f);
  low = room;
  high = omega (arith, h.high, b);
}
  where
    bound : (x : Bnode) (n : ℕ) → New x n ⊎ (to x ≡ Some n) → (n < drawn') ⊎ ((2 ^ 61 ≤ n) × (n < cells'))
    bound x n (inl q) = within x n q
    bound x n (inr q) = raised n drawn drawn' cells cells' a b (h.bounded x n q)

    one : (x y : Bnode) (n : ℕ) → New x n ⊎ (to x ≡ Some n) → New y n ⊎ (to y ≡ Some n) → x ≡ y
    one x y n (inl p) (inl q) = once x y n p q
    one x y n (inl p) (inr q) = absurd (free x n p (h.bounded y n q))
    one x y n (inr p) (inl q) = absurd (free y n q (h.bounded x n p))
    one x y n (inr p) (inr q) = h.one_to_one x y n p q

module _ (to : Numbering) (new : Bnode) (k : ℕ) where
  pub at_new : with_number to new k new ≡ Some k
  at_new = rw ((exact_bnodes new new).1 refl) refl

  pub at_other : (b : Bnode) → ¬ (b ≡ new) → with_number to new k b ≡ to b
  at_other b h = rw (false_unless (same_bnode b new) (λ e. h ((exact_bnodes b new).0 e))) refl

  pub grown_with : to new ≡ None → KeepsNumbers to (with_number to new k)
  grown_with free = record { keeps = λ a n e. at_other a (λ q. absurd (cc (ap to q, free, e))) ∙ e }

  numbered_now : (b : Bnode) (n : ℕ) → with_number to new k b ≡ Some n → ((b ≡ new) × (k ≡ n)) ⊎ (to b ≡ Some n)
  numbered_now b n h = by_test (same_bnode b new)
      (λ t. let e : Some k ≡ Some n = rw t at h in inl ((exact_bnodes b new).0 t, cc e))
      (λ f. inr (rw f at h))

  pub numbers_with : (labels labels' : Numbered) (drawn cells after : ℕ) → Numbers to labels drawn cells → drawn ≤ k → k < after → after ≤ 2 ^ 61
      → ((l : Chars) → with_number to new k (Author l) ≡ label_number labels' l) → Numbers (with_number to new k) labels' after cells
  numbers_with labels labels' drawn cells after h lo hi room label =
      numbers_more to (with_number to new k) (λ b n. (b ≡ new) × (k ≡ n)) labels labels' drawn after cells cells h numbered_now (λ a b n p q. p.0 ∙ sym q.0) (λ b n q. clash n q.1)
      (λ b n q. inl (omega (arith, q.1, hi))) label (omega (arith, lo, hi)) (omega arith) room
    where
      clash : (n : ℕ) → k ≡ n → (n < drawn) ⊎ ((2 ^ 61 ≤ n) × (n < cells)) → ⊥
      clash n q (inl x) = omega (arith, x, q, lo)
      clash n q (inr x) = omega (arith, x.0, q, hi, room)

-- ---- labels

number_more : (labels : Numbered) (x : Chars) (k : ℕ) (l : Chars) → label_number labels x ≡ None → ¬ (l ≡ x) → label_number (labels ++ (x, k) ∷ []) l ≡ label_number labels l
number_more [] x k l h n = rw (false_unless (bytes_eq x l) (λ e. n (sym ((exact_texts x l).0 e)))) refl
number_more (row ∷ labels) x k l h n =
    by_test (bytes_eq row.0 l) (λ t. rw t refl)
    (λ f. rw f (number_more labels x k l (by_test (bytes_eq row.0 x) (λ t. absurd (cc (rw t at h))) (λ g. rw g at h)) n))

number_new : (labels : Numbered) (x : Chars) (k : ℕ) → label_number labels x ≡ None → label_number (labels ++ (x, k) ∷ []) x ≡ Some k
number_new [] x k h = rw ((exact_texts x x).1 refl) refl
number_new (row ∷ labels) x k h =
    by_test (bytes_eq row.0 x) (λ t. absurd (cc (rw t at h))) (λ f. rw f (number_new labels x k (rw f at h)))

label_is : (to : Numbering) (labels : Numbered) (x : Chars) (k : ℕ) → ((l : Chars) → to (Author l) ≡ label_number labels l) → label_number labels x ≡ None
    → (l : Chars) → with_number to (Author x) k (Author l) ≡ label_number (labels ++ (x, k) ∷ []) l
label_is to labels x k h free l =
    by_test (bytes_eq l x)
    (λ t. rw t (sym (ap (label_number (labels ++ (x, k) ∷ [])) ((exact_texts l x).0 t) ∙ number_new labels x k free)))
    (λ f. rw f (h l ∙ sym (number_more labels x k l free (λ e. absurd (cc (f, (exact_texts l x).1 e))))))

-- the labels have numbers, and no other names have drawn any
pub record Drew (to : Numbering) (labels : Numbered) (next cells : ℕ) (list : List Chars) : Type 0 where
  pub now : Numbering
  pub grown : KeepsNumbers to now
  pub numbers : Numbers now (draw labels next list).0 (draw labels next list).1 cells
  pub made : (r : Path) → now (Made r) ≡ to (Made r)
  pub cell : (o : Owner) (p : Chars) (i : ℕ) → now (Cell o p i) ≡ to (Cell o p i)
  pub has : (l : Chars) → Among list l → (n : ℕ) × (now (Author l) ≡ Some n)

pub drew : (list : List Chars) (to : Numbering) (labels : Numbered) (next cells : ℕ) → Numbers to labels next cells → next + length list ≤ 2 ^ 61 → Drew to labels next cells list
drew [] to labels next cells h room = record {
  now = to;
  grown = grown_same to;
  numbers = h;
  made = λ r. refl;
  cell = λ o p i. refl;
  has = λ l a. absurd a;
}
drew (x ∷ list) to labels next cells h room =
    by_test (is_some (label_number labels x))
    (λ t.
    let d = drew list to labels next cells h (omega (arith, room)) in
    let n = some_is (label_number labels x) t in
    record {
      now = d.now;
      grown = d.grown;
      numbers = rw t d.numbers;
      made = d.made;
      cell = d.cell;
      has = λ l a. known d l n a;
    })
    (λ f.
    let free = none_is (label_number labels x) f in
    let to' : Numbering = with_number to (Author x) next in
    let h' = numbers_with to (Author x) next labels (labels ++ (x, next) ∷ []) next cells (next + 1) h (omega arith) (omega arith) (omega (arith, room)) (label_is to labels x next h.label free) in
    let d = drew list to' (labels ++ (x, next) ∷ []) (next + 1) cells h' (omega (arith, room)) in
    record {
      now = d.now;
      grown = grown_then to to' d.now (grown_with to (Author x) next (h.label x ∙ free)) d.grown;
      numbers = rw f d.numbers;
      made = d.made;
      cell = d.cell;
      has = λ l a. fresh d l a;
    })
  where
    known : (d : Drew to labels next cells list) (l : Chars) → (n : ℕ) × (label_number labels x ≡ Some n) → (x ≡ l) ⊎ Among list l → (n : ℕ) × (d.now (Author l) ≡ Some n)
    known d l n (inl e) = (n.0, d.grown.keeps (Author l) n.0 (h.label l ∙ ap (label_number labels) (sym e) ∙ n.1))
    known d l n (inr a) = d.has l a

    fresh : (d : Drew (with_number to (Author x) next) (labels ++ (x, next) ∷ []) (next + 1) cells list) (l : Chars) → (x ≡ l) ⊎ Among list l → (n : ℕ) × (d.now (Author l) ≡ Some n)
    fresh d l (inl e) = (next, d.grown.keeps (Author l) next (ap (λ (z : Chars). with_number to (Author x) next (Author z)) (sym e) ∙ at_new to (Author x) next))
    fresh d l (inr a) = d.has l a
