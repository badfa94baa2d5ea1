-- What is entered of characters, one after another.
use Rattle.rx_pages.proofs.Words.{◌≡◌, ◌∙◌, ℕ, ◌+◌, ◌-◌, ◌<◌, ◌≤◌, Bool, true, false, List, [], ◌∷◌, ◌++◌, refl, sym, ap, subst, length, nat_lt, arith, ◌&&◌, ◌==◌, len_utf8, encode, encodes, length-encode, nat_tests, and_parts, cond-true, cond-false, or-false, list_all, by_test, split, length-append, PlacedCharacter, byte_order_mark, line_feed, carriage_return, placed, preprocessed, without_mark, list_all-append, append_assoc, append-nil, if◌then◌else◌}
use Rattle.std.proofs.lemmas.List.{same_from_push}
use Rattle.rx_pages.proofs.Reading.{Last, no_last, a_last, last_of}
use Rattle.rx_pages.proofs.CharSteps.{passes, entry_at}

pub all_parts : {A : Type 0} (test : A → Bool) (a b : List A) → list_all test (a ++ b) ≡ true → (list_all test a ≡ true) × (list_all test b ≡ true)
all_parts test a b h = and_parts (list_all test a) (list_all test b) (sym (list_all-append test a b) ∙ h)

pub no_return : (c : ℕ) → (c == line_feed) ≡ true → (c == carriage_return) ≡ false
no_return c h = grind (arith, nat_tests)

pub no_mark : (c : ℕ) → (c == byte_order_mark) ≡ true → (c == carriage_return) ≡ false
no_mark c h = grind (arith, nat_tests)

pub len_positive : (c : ℕ) → 1 ≤ len_utf8 c
len_positive c = by_test (nat_lt c 0x80) (λ e. rw e (omega arith)) (λ e. rw e (by_test (nat_lt c 0x800) (λ d. rw d (omega arith)) (λ d. rw d (by_test (nat_lt c 0x1_0000) (λ b. rw b (omega arith)) (λ b. rw b (omega arith))))))

-- where characters end
pub end_is : (start c : ℕ) (cs : List ℕ) → start + length (encodes (c ∷ cs)) ≡ start + len_utf8 c + length (encodes cs)
end_is start c cs = let n = length-append (encode c) (encodes cs) in let l = length-encode c in omega arith

pub end_zero : (c : ℕ) (cs : List ℕ) → length (encodes (c ∷ cs)) ≡ 0 + len_utf8 c + length (encodes cs)
end_zero c cs = let n = length-append (encode c) (encodes cs) in let l = length-encode c in omega arith

-- the flags behind some characters
abbrev pub ends_return : Bool → List ℕ → Bool
ends_return after_return [] = after_return
ends_return after_return (c ∷ cs) = ends_return (c == carriage_return) cs

abbrev pub is_started : List ℕ → Bool
is_started [] = false
is_started (c ∷ cs) = true

abbrev pub is_marked : List ℕ → Bool
is_marked [] = false
is_marked (c ∷ cs) = c == byte_order_mark

-- What holds of nothing, goes on over a character that is passed over, and over one that is entered, holds of all that is entered.
module _ (P : Bool → ℕ → List ℕ → List PlacedCharacter → Type 0) (none : (after_return : Bool) (start : ℕ) → P after_return start [] [])
    (skips : (after_return : Bool) (start c : ℕ) (cs : List ℕ) (es : List PlacedCharacter) → (after_return && c == line_feed) ≡ true → P false (start + len_utf8 c) cs es → P after_return start (c ∷ cs) es)
    (enters : (after_return : Bool) (start c : ℕ) (cs : List ℕ) (es : List PlacedCharacter) → (after_return && c == line_feed) ≡ false → P (c == carriage_return) (start + len_utf8 c) cs es → P after_return start (c ∷ cs) (entry_at c start (start + len_utf8 c - 1) ∷ es)) where
  pub each_entered : (after_return : Bool) (start : ℕ) (cs : List ℕ) → P after_return start cs (preprocessed after_return (placed start cs))
  each_entered after_return start [] = none after_return start
  each_entered after_return start (c ∷ cs) =
      split (λ es. P after_return start (c ∷ cs) es) (after_return && c == line_feed) _ _
      (λ t. skips after_return start c cs _ t (each_entered false (start + len_utf8 c) cs))
      (λ t. enters after_return start c cs _ t (each_entered (c == carriage_return) (start + len_utf8 c) cs))

  -- the same of a page, where a mark that stands first is passed over
  pub page_entered : (Q : List ℕ → List PlacedCharacter → Type 0) → ((c : ℕ) (cs : List ℕ) (es : List PlacedCharacter) → (c == byte_order_mark) ≡ true → P false (0 + len_utf8 c) cs es → Q (c ∷ cs) es)
      → ((cs : List ℕ) (es : List PlacedCharacter) → is_marked cs ≡ false → P false 0 cs es → Q cs es) → (cs : List ℕ) → Q cs (preprocessed false (without_mark (placed 0 cs)))
  page_entered Q marked unmarked [] = unmarked [] [] refl (none false 0)
  page_entered Q marked unmarked (c ∷ cs) =
      split (λ es. Q (c ∷ cs) (preprocessed false es)) (c == byte_order_mark) _ _ (λ t. marked c cs _ t (each_entered false (0 + len_utf8 c) cs)) (λ t. unmarked (c ∷ cs) _ t (each_entered false 0 (c ∷ cs)))

-- what is entered of more characters behind some
pub entered_behind : (after_return : Bool) (at : ℕ) (cs xs : List ℕ) → preprocessed after_return (placed at (cs ++ xs)) ≡ preprocessed after_return (placed at cs) ++ preprocessed (ends_return after_return cs) (placed (at + length (encodes cs)) xs)
entered_behind =
    each_entered (λ after_return at cs es. (xs : List ℕ) → preprocessed after_return (placed at (cs ++ xs)) ≡ es ++ preprocessed (ends_return after_return cs) (placed (at + length (encodes cs)) xs))
    (λ after_return at xs. let z : at ≡ at + 0 = omega arith in ap (λ n. preprocessed after_return (placed n xs)) z)
    (λ after_return at c cs es t more xs.
    let returned : false ≡ (c == carriage_return) = sym (no_return c (and_parts after_return (c == line_feed) t).1) in
    cond-true _ _ _ t ∙ (more xs ∙ (λ i. es ++ preprocessed (ends_return (returned i) cs) (placed (sym (end_is at c cs) i) xs))))
    (λ after_return at c cs es t more xs.
    cond-false _ _ _ t ∙ ap (λ x. entry_at c at (at + len_utf8 c - 1) ∷ x) (more xs ∙ ap (λ n. es ++ preprocessed (ends_return (c == carriage_return) cs) (placed n xs)) (sym (end_is at c cs))))

pub page_behind : (cs xs : List ℕ) → is_started cs ≡ true → preprocessed false (without_mark (placed 0 (cs ++ xs))) ≡ preprocessed false (without_mark (placed 0 cs)) ++ preprocessed (ends_return false cs) (placed (length (encodes cs)) xs)
page_behind [] xs h = absurd (cc)
page_behind (c ∷ cs) xs h =
    let z : 0 + length (encodes (c ∷ cs)) ≡ length (encodes (c ∷ cs)) = omega arith in
    by_test {G = preprocessed false (without_mark (placed 0 (c ∷ (cs ++ xs)))) ≡ preprocessed false (without_mark (placed 0 (c ∷ cs))) ++ preprocessed (ends_return false (c ∷ cs)) (placed (length (encodes (c ∷ cs))) xs)} (c == byte_order_mark)
    (λ t.
    ap (λ es. preprocessed false es) (cond-true _ _ _ t)
    ∙ (entered_behind false (0 + len_utf8 c) cs xs
    ∙ (λ i. preprocessed false (sym (cond-true (c == byte_order_mark) (placed (0 + len_utf8 c) cs) (placed 0 (c ∷ cs)) t) i) ++ preprocessed (ends_return (sym (no_mark c t) i) cs) (placed (sym (end_zero c cs) i) xs))))
    (λ t.
    ap (λ es. preprocessed false es) (cond-false _ _ _ t)
    ∙ (entered_behind false 0 (c ∷ cs) xs ∙ (λ i. preprocessed false (sym (cond-false (c == byte_order_mark) (placed (0 + len_utf8 c) cs) (placed 0 (c ∷ cs)) t) i) ++ preprocessed (ends_return false (c ∷ cs)) (placed (z i) xs))))

-- an entry stands among some bytes
pub record Among (lo hi : ℕ) (e : PlacedCharacter) : Type 0 where
  pub from : lo ≤ e.first
  pub order : e.first ≤ e.last
  pub to : e.last < hi

-- entries stand there one after another
abbrev pub Within : ℕ → ℕ → List PlacedCharacter → Type 0
Within lo hi [] = Unit {0}
Within lo hi (e ∷ es) = Among lo hi e × Within (e.last + 1) hi es

lower : (low lo hi : ℕ) (es : List PlacedCharacter) → low ≤ lo → Within lo hi es → Within low hi es
lower low lo hi [] l w = tt
lower low lo hi (e ∷ es) l w = (record { from = (let f = w.0.from in omega arith); order = w.0.order; to = w.0.to }, w.1)

behind : (low start c : ℕ) (cs : List ℕ) (es : List PlacedCharacter) → low ≤ start + len_utf8 c → Within (start + len_utf8 c) (start + len_utf8 c + length (encodes cs)) es → Within low (start + length (encodes (c ∷ cs))) es
behind low start c cs es l w = subst (λ hi. Within low hi es) (sym (end_is start c cs)) (lower low (start + len_utf8 c) (start + len_utf8 c + length (encodes cs)) es l w)

-- what is entered stands among the bytes of its characters
pub all_within : (after_return : Bool) (start : ℕ) (cs : List ℕ) → Within start (start + length (encodes cs)) (preprocessed after_return (placed start cs))
all_within =
    each_entered (λ after_return start cs es. Within start (start + length (encodes cs)) es) (λ after_return start. tt) (λ after_return start c cs es t w. behind start start c cs es (omega arith) w)
    (λ after_return start c cs es t w. let p = len_positive c in let e = end_is start c cs in (record { from = omega arith; order = omega arith; to = omega arith }, behind (start + len_utf8 c - 1 + 1) start c cs es (omega arith) w))

pub page_within : (cs : List ℕ) → Within 0 (length (encodes cs)) (preprocessed false (without_mark (placed 0 cs)))
page_within [] = tt
page_within (c ∷ cs) =
    let z : 0 + length (encodes (c ∷ cs)) ≡ length (encodes (c ∷ cs)) = omega arith in
    split (λ es. Within 0 (length (encodes (c ∷ cs))) (preprocessed false es)) (c == byte_order_mark) _ _ (λ t. subst (λ hi. Within 0 hi (preprocessed false (placed (0 + len_utf8 c) cs))) z (behind 0 0 c cs _ (omega arith) (all_within false (0 + len_utf8 c) cs)))
    (λ t. subst (λ hi. Within 0 hi (preprocessed false (placed 0 (c ∷ cs)))) z (all_within false 0 (c ∷ cs)))

-- the first entry of some characters
pub first_among : (after_return : Bool) (start : ℕ) (cs : List ℕ) (e : PlacedCharacter) (es : List PlacedCharacter) → preprocessed after_return (placed start cs) ≡ e ∷ es → Among start (start + length (encodes cs)) e
first_among after_return start cs e es h = (subst (λ xs. Within start (start + length (encodes cs)) xs) h (all_within after_return start cs)).0

pub at_last : (lo hi : ℕ) (es : List PlacedCharacter) (c : PlacedCharacter) → Within lo hi (es ++ c ∷ []) → lo ≤ c.last
at_last lo hi [] c w = let f = w.0.from in let o = w.0.order in omega arith
at_last lo hi (e ∷ es) c w = let l = at_last (e.last + 1) hi es c w.1 in let f = w.0.from in let o = w.0.order in omega arith

pub from_first : (lo hi : ℕ) (front : List PlacedCharacter) (e : PlacedCharacter) (es : List PlacedCharacter) → Within lo hi (front ++ e ∷ es) → Within e.first hi (e ∷ es)
from_first lo hi [] e es w = (record { from = omega arith; order = w.0.order; to = w.0.to }, w.1)
from_first lo hi (d ∷ front) e es w = from_first (d.last + 1) hi front e es w.1

-- what one more character enters
abbrev pub entered_one : Bool → ℕ → ℕ → List PlacedCharacter
entered_one skipped at c = if skipped then [] else entry_at c at (at + len_utf8 c - 1) ∷ []

pub entered_snoc : (after_return : Bool) (at : ℕ) (cs : List ℕ) (c : ℕ)
    → preprocessed after_return (placed at (cs ++ c ∷ [])) ≡ preprocessed after_return (placed at cs) ++ entered_one (ends_return after_return cs && c == line_feed) (at + length (encodes cs)) c
entered_snoc after_return at cs c = entered_behind after_return at cs (c ∷ [])

pub page_snoc : (cs : List ℕ) (c : ℕ) → preprocessed false (without_mark (placed 0 (cs ++ c ∷ []))) ≡ preprocessed false (without_mark (placed 0 cs)) ++ entered_one (passes (is_started cs) (ends_return false cs) c) (length (encodes cs)) c
page_snoc [] c =
    by_test {G = preprocessed false (without_mark (placed 0 (c ∷ []))) ≡ entered_one (passes false false c) 0 c} (c == byte_order_mark)
    (λ t. ap (λ es. preprocessed false es) (cond-true _ _ _ t) ∙ ap (λ b. entered_one b 0 c) (sym (or-false (c == byte_order_mark) ∙ t)))
    (λ t. ap (λ es. preprocessed false es) (cond-false _ _ _ t) ∙ ap (λ b. entered_one b 0 c) (sym (or-false (c == byte_order_mark) ∙ t)))
page_snoc (d ∷ cs) c = page_behind (d ∷ cs) (c ∷ []) refl

-- what holds of nothing, and of one more, holds of each list
pub each_snoc : {A : Type 0} (P : List A → Type 0) → P [] → ((xs : List A) (x : A) → P xs → P (xs ++ x ∷ [])) → (xs : List A) → P xs
each_snoc {A = A} P none more xs = go [] xs none
  where
    go : (front rest : List A) → P front → P (front ++ rest)
    go front [] p = subst P (sym (append-nil front)) p
    go front (x ∷ rest) p = subst P (append_assoc front (x ∷ []) rest) (go (front ++ x ∷ []) rest (more front x p))

-- Entries of a page before one, and the characters before that which enters it.
pub record PageParted (cs : List ℕ) (front : List PlacedCharacter) (e : PlacedCharacter) : Type 0 where
  pub before : List ℕ
  pub c : ℕ
  pub left : List ℕ
  pub are : cs ≡ before ++ c ∷ left
  pub read : preprocessed false (without_mark (placed 0 before)) ≡ front
  pub is : e ≡ entry_at c (length (encodes before)) (length (encodes before) + len_utf8 c - 1)
  pub enters : passes (is_started before) (ends_return false before) c ≡ false

abbrev Parts : List ℕ → Type 0
Parts cs = (front : List PlacedCharacter) (e : PlacedCharacter) (rest : List PlacedCharacter) → preprocessed false (without_mark (placed 0 cs)) ≡ front ++ e ∷ rest → PageParted cs front e

nothing_parted : Parts []
nothing_parted [] e rest h = absurd (cc)
nothing_parted (f ∷ front) e rest h = absurd (cc)

one_parted : (cs : List ℕ) (x : ℕ) → Parts cs → Parts (cs ++ x ∷ [])
one_parted cs x parts front e rest h =
    by_test (passes (is_started cs) (ends_return false cs) x) (λ t. behind_it (parts front e rest (sym (append-nil entries) ∙ (sym (one t) ∙ (sym (page_snoc cs x) ∙ h)))))
    (λ t. by t (last_of rest) (sym (one t) ∙ (sym (page_snoc cs x) ∙ h)))
  where
    entries : List PlacedCharacter
    entries = preprocessed false (without_mark (placed 0 cs))

    at : ℕ
    at = length (encodes cs)

    one : {b : Bool} → passes (is_started cs) (ends_return false cs) x ≡ b → entries ++ entered_one (passes (is_started cs) (ends_return false cs) x) at x ≡ entries ++ entered_one b at x
    one e = ap (λ b. entries ++ entered_one b at x) e

    behind_it : PageParted cs front e → PageParted (cs ++ x ∷ []) front e
    behind_it p = record { before = p.before; c = p.c; left = p.left ++ x ∷ []; are = ap (λ y. y ++ x ∷ []) p.are ∙ append_assoc p.before (p.c ∷ p.left) (x ∷ []); read = p.read; is = p.is; enters = p.enters }

    by : passes (is_started cs) (ends_return false cs) x ≡ false → Last rest → entries ++ entry_at x at (at + len_utf8 x - 1) ∷ [] ≡ front ++ e ∷ rest → PageParted (cs ++ x ∷ []) front e
    by t (no_last r) k =
        let w : entries ++ entry_at x at (at + len_utf8 x - 1) ∷ [] ≡ front ++ e ∷ [] = k ∙ ap (λ y. front ++ e ∷ y) r in
        record { before = cs; c = x; left = []; are = refl; read = (same_from_push entries front _ e w).0; is = sym (same_from_push entries front _ e w).1; enters = t }
    by t (a_last r z q) k = behind_it (parts front e r (same_from_push entries (front ++ e ∷ r) _ z (k ∙ (ap (λ y. front ++ e ∷ y) q ∙ sym (append_assoc front (e ∷ r) (z ∷ []))))).0)

pub page_parted : (cs : List ℕ) → Parts cs
page_parted = each_snoc Parts nothing_parted one_parted
