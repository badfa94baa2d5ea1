-- Bytes that are looked at sixteen at a time.
use Rattle.rx_terms.proofs.Common.{◌≡◌, ◌∙◌, ℕ, ◌+◌, ◌%◌, ◌^◌, ◌<◌, ◌≤◌, Bool, true, false, cond, List, [], ◌∷◌, map, replicate, length, take, drop, refl, sym, ap, ap₂, arith, take-add, zero, suc, not, eqb, leb, w8, Fits, ◌&&◌, list_all, prefix_len, and_from, and_parts, agree_below, agree_below_at, both_ways, length-map, length-take, take_all, take-take, list_all-append, prefix_len-le-length, mask_l-mod, zip2_of_maps, leading_from_mask_l, trailing_mask_l}
use lib.Bits.{bit_or}
use lib.Count.{count_trailing_zeros}
use lib.Lanes.{zip2, mask_l, top, Each1, chunk}

-- what a comparison leaves in a lane
abbrev pub hit : ℕ → ℕ → ℕ
hit a b = cond (eqb a b) 255 0

abbrev pub at_most : ℕ → ℕ → ℕ
at_most a b = cond (leb a b) 255 0

-- an `|` of two vectors that were computed lane by lane
pub either : (f g : ℕ → ℕ) (v : List ℕ) {a b : List ℕ} → a ≡ map f v → b ≡ map g v → zip2 bit_or a b ≡ map (λ x. bit_or (f x) (g x)) v
either f g v p q = zip2_of_maps bit_or f g v p q

-- one byte before each lane
splat_left : (h : ℕ → ℕ → ℕ) (y : ℕ) (xs : List ℕ) → zip2 h (replicate (length xs) y) xs ≡ map (h y) xs
splat_left h y [] = refl
splat_left h y (x ∷ xs) = ap (λ r. h y x ∷ r) (splat_left h y xs)

pub splat_first : (h : ℕ → ℕ → ℕ) (xs : List ℕ) (n y : ℕ) → length xs ≡ n → zip2 h (replicate n y) xs ≡ map (h y) xs
splat_first h xs n y e = ap (λ k. zip2 h (replicate k y) xs) (sym e) ∙ splat_left h y xs

each_byte : (f : ℕ → ℕ) (p : ℕ → Bool) → agree_below (λ x. top 7 (f x)) p 256 ≡ true → (v : List ℕ) → Each1 (Fits w8) v → map (top 7) (map f v) ≡ map p v
each_byte f p all [] fits = refl
each_byte f p all (x ∷ xs) fits = ap₂ (λ a b. a ∷ b) (agree_below_at (λ y. top 7 (f y)) p 256 x all fits.0.fits) (each_byte f p all xs fits.1)

-- a vector that is computed lane by lane has the mask of a test, where both agree at each of the 256 bytes
pub masked : (f : ℕ → ℕ) (p : ℕ → Bool) (v z : List ℕ) → length v ≤ 64 → Each1 (Fits w8) v → z ≡ map f v → agree_below (λ x. top 7 (f x)) p 256 ≡ true → mask_l (map (top 7) z) % 2 ^ 64 ≡ mask_l (map p v)
masked f p v z short fits e all =
    ap (λ l. mask_l l % 2 ^ 64) (ap (map (top 7)) e ∙ each_byte f p all v fits) ∙ mask_l-mod (map p v) 64 (omega (arith, length-map v p))

-- a run of bytes that don't meet the test, seen through the mask of those that do
module _ (p : ℕ → Bool) where
  abbrev pub misses : ℕ → Bool
  misses x = not (p x)

  front_misses : (n : ℕ) (xs : List ℕ) → n ≤ prefix_len misses xs → list_all misses (take n xs) ≡ true
  front_misses zero xs h = refl
  front_misses (suc n) [] h = refl
  front_misses (suc n) (x ∷ xs) h = by (misses x) refl h (front_misses n xs)
    where
      by : (b : Bool) → misses x ≡ b → suc n ≤ cond b (1 + prefix_len misses xs) 0 → (n ≤ prefix_len misses xs → list_all misses (take n xs) ≡ true) → list_all misses (x ∷ take n xs) ≡ true
      by true e h rest = and_from _ _ e (rest (omega arith))
      by false e h rest = absurd (omega arith)

  all_miss : (xs : List ℕ) → mask_l (map p xs) ≡ 0 → list_all misses xs ≡ true
  all_miss xs e =
      ap (list_all misses) (sym (take_all (length xs) xs (omega arith))) ∙ front_misses (length xs) xs (omega (arith, leading_from_mask_l p xs e))

  joined : (xs : List ℕ) (i n : ℕ) → list_all misses (take i xs) ≡ true → list_all misses (take n (drop i xs)) ≡ true → list_all misses (take (i + n) xs) ≡ true
  joined xs i n h k = ap (list_all misses) (take-add i n xs) ∙ (list_all-append misses (take i xs) (take n (drop i xs)) ∙ and_from _ _ h k)

  pub run_through : (xs : List ℕ) (i : ℕ) → list_all misses (take i xs) ≡ true → mask_l (map p (chunk i 16 xs)) ≡ 0 → list_all misses (take (i + 16) xs) ≡ true
  run_through xs i h e = joined xs i 16 h (all_miss (chunk i 16 xs) e)

  module _ (xs : List ℕ) (i m : ℕ) (mask : m ≡ mask_l (map p (chunk i 16 xs))) (some : 0 < m) where
    -- how many bytes stand before the first that meets it
    found : count_trailing_zeros 64 m ≡ prefix_len misses (chunk i 16 xs)
    found = ap (count_trailing_zeros 64) mask ∙ trailing_mask_l p 64 (chunk i 16 xs) (omega (arith, length-take 16 (drop i xs))) (omega (arith, mask, some))

    short : count_trailing_zeros 64 m ≤ 16
    short = omega (arith, found, prefix_len-le-length misses (chunk i 16 xs), length-take 16 (drop i xs))

    pub run_fits : i + 16 ≤ length xs → i + count_trailing_zeros 64 m ≤ length xs
    run_fits room = omega (arith, short, room)

    pub run_stops : list_all misses (take i xs) ≡ true → list_all misses (take (i + count_trailing_zeros 64 m) xs) ≡ true
    run_stops h =
        let n = count_trailing_zeros 64 m in
        joined xs i n h (ap (list_all misses) (sym (take-take n 16 (drop i xs) short)) ∙ front_misses n (chunk i 16 xs) (omega (arith, found)))

-- what doesn't miss the opposite of a test meets it
pub meets : (q : ℕ → Bool) (xs : List ℕ) → list_all (λ x. not (not (q x))) xs ≡ true → list_all q xs ≡ true
meets q [] h = refl
meets q (x ∷ xs) h = by (q x) refl h (meets q xs)
  where
    by : (b : Bool) → q x ≡ b → (not (not (q x)) && list_all (λ y. not (not (q y))) xs) ≡ true → (list_all (λ y. not (not (q y))) xs ≡ true → list_all q xs ≡ true) → list_all q (x ∷ xs) ≡ true
    by true e h rest = and_from _ _ e (rest (and_parts (not (not (q x))) _ h).1)
    by false e h rest = absurd (both_ways (not (not (q x))) (ap (λ b. not (not b)) e) (and_parts (not (not (q x))) _ h).0)
