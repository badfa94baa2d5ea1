-- Elements that are still to come.
use Rattle.rx_eval.proofs.Common.{◌≡◌, ◌∙◌, ℕ, suc, inl, inr, [], ◌∷◌, ◌++◌, length, refl, sym, ap, arith, append_assoc, length-append, Path, Ahead, Coming}

-- two that end alike in front of what they share
same_last : (xs ys : Path) (i j : ℕ) (path : Path) → xs ++ i ∷ path ≡ ys ++ j ∷ path → i ≡ j
same_last [] [] i j path e = cc
same_last [] (y ∷ ys) i j path e =
    let n = ap length e in let m = length-append ys (j ∷ path) in absurd (omega (arith, n, m))
same_last (x ∷ xs) [] i j path e =
    let n = ap length e in let m = length-append xs (i ∷ path) in absurd (omega (arith, n, m))
same_last (x ∷ xs) (y ∷ ys) i j path e = let t : xs ++ i ∷ path ≡ ys ++ j ∷ path = cc in same_last xs ys i j path t

more_front : (front : Path) (i : ℕ) (path : Path) → front ++ i ∷ path ≡ (front ++ i ∷ []) ++ path
more_front front i path = sym (append_assoc front (i ∷ []) path)

ahead_not : (path : Path) (i : ℕ) (r : Path) → Ahead path (suc i) r → (front : Path) → ¬ (r ≡ front ++ i ∷ path)
ahead_not path i r h front e = let q = same_last h.front front h.number i path (sym h.is ∙ e) in let b = h.from in omega (arith, q, b)

-- what comes after an element is not at it or inside it
pub coming_not : (path : Path) (i : ℕ) (r : Path) → Coming path (suc i) r → (front : Path) → ¬ (r ≡ front ++ i ∷ path)
coming_not [] i r h front e = ahead_not [] i r h front e
coming_not (n ∷ path) i r (inl h) front e = ahead_not (n ∷ path) i r h front e
coming_not (n ∷ path) i r (inr h) front e = coming_not path n r h (front ++ i ∷ []) (e ∙ more_front front i (n ∷ path))

ahead_coming : (path : Path) (i : ℕ) (r : Path) → Ahead path i r → Coming path i r
ahead_coming [] i r h = h
ahead_coming (n ∷ path) i r h = inl h

later_coming : (path : Path) (i : ℕ) (r : Path) → Coming path (suc i) r → Coming path i r
later_coming [] i r h = record { front = h.front; number = h.number; from = (let b = h.from in omega (arith, b)); is = h.is }
later_coming (n ∷ path) i r (inl h) = inl (record { front = h.front; number = h.number; from = (let b = h.from in omega (arith, b)); is = h.is })
later_coming (n ∷ path) i r (inr h) = inr h

-- the next element is to come
pub next_coming : (path : Path) (i : ℕ) → Coming path i (i ∷ path)
next_coming path i = ahead_coming path i (i ∷ path) (record { front = []; number = i; from = omega arith; is = refl })

-- what comes when it is open came before it
pub inside_coming : (path : Path) (i : ℕ) (r : Path) → Coming (i ∷ path) 0 r → Coming path i r
inside_coming path i r (inl h) = ahead_coming path i r (record { front = h.front ++ h.number ∷ []; number = i; from = omega arith; is = h.is ∙ more_front h.front h.number (i ∷ path) })
inside_coming path i r (inr h) = later_coming path i r h

-- and isn't itself
pub inside_not : (path : Path) (i : ℕ) (r : Path) → Coming (i ∷ path) 0 r → ¬ (r ≡ i ∷ path)
inside_not path i r (inl h) e =
    let n = ap length (sym h.is ∙ e) in let m = length-append h.front (h.number ∷ i ∷ path) in omega (arith, n, m)
inside_not path i r (inr h) e = coming_not path i r h [] e
