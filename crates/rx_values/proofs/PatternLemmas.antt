-- A text that has the form of a time is ASCII.
use Rattle.rx_terms.proofs.Common.{◌≡◌, ◌∙◌, ℕ, ◌<◌, Bool, true, false, List, [], ◌∷◌, refl, sym, ap, arith, Option, Some, None, ◌⊎◌, ⊎_elim, lit<, not, ◌&&◌, ◌||◌, ◌==◌, if◌then◌else◌, option_or, list_all, chars, IsUtf8, and_parts, and_from, false_from_ne_true, nat_tests, encodes-chars, is_ascii, is_digit, colon, hyphen, plus_sign, full_stop, is_empty, ascii-same, ascii-chars, either}
use Rattle.rx_rdfa.specs.Times.{◌andThen◌, after_char, after_two, digits, after_digits, after_some_digits, follows, is_zero, is_offset, is_zone, is_year, without_minus, after_year, after_month, after_date, after_fraction, after_hms, after_clock, Parts, with_part, part, seconds, ends_with_part, are_time_parts, is_duration, time_kind}

abbrev all_ascii : List ℕ → Bool
all_ascii text = list_all is_ascii text

-- where what follows is ASCII, the whole is
abbrev Keeps : Option (List ℕ) → List ℕ → Type 0
Keeps None text = Unit {0}
Keeps (Some rest) text = all_ascii rest ≡ true → all_ascii text ≡ true

then_keeps : (o : Option (List ℕ)) (f : List ℕ → Option (List ℕ)) (text : List ℕ) → Keeps o text → ((rest : List ℕ) → Keeps (f rest) rest) → Keeps (o andThen f) text
then_keeps None f text k g = tt
then_keeps (Some rest) f text k g = through (f rest) (g rest) where
  through : (p : Option (List ℕ)) → Keeps p rest → Keeps p text
  through None h = tt
  through (Some more) h = λ e. k (h e)

or_keeps : (o p : Option (List ℕ)) (text : List ℕ) → Keeps o text → Keeps p text → Keeps (option_or o p) text
or_keeps None p text k l = l
or_keeps (Some rest) p text k l = k

-- what follows in the end is tested
follows_ascii : (test : List ℕ → Bool) (o : Option (List ℕ)) (text : List ℕ) → Keeps o text
    → ((rest : List ℕ) → test rest ≡ true → all_ascii rest ≡ true) → follows test o ≡ true → all_ascii text ≡ true
follows_ascii test None text k t h = absurd (cc)
follows_ascii test (Some rest) text k t h = k (t rest h)

digit_ascii : (c : ℕ) → is_digit c ≡ true → is_ascii c ≡ true
digit_ascii c h = grind (arith, nat_tests)

same_ascii : (c d : ℕ) → d < 128 → (c == d) ≡ true → is_ascii c ≡ true
same_ascii c d small h = grind (arith, nat_tests)

empty_ascii : (text : List ℕ) → is_empty text ≡ true → all_ascii text ≡ true
empty_ascii [] h = refl
empty_ascii (c ∷ text) h = absurd (cc)

cond_keeps : (b : Bool) (rest text : List ℕ) → (b ≡ true → all_ascii rest ≡ true → all_ascii text ≡ true) → Keeps (if b then Some rest else None) text
cond_keeps true rest text h = h refl
cond_keeps false rest text h = tt

char_keeps : (c : ℕ) (text : List ℕ) → c < 128 → Keeps (after_char c text) text
char_keeps c [] small = tt
char_keeps c (d ∷ text) small = cond_keeps (d == c) text (d ∷ text) (λ e a. and_from _ _ (same_ascii d c small e) a)

two_keeps : (low high : ℕ) (text : List ℕ) → Keeps (after_two low high text) text
two_keeps low high [] = tt
two_keeps low high (a ∷ []) = tt
two_keeps low high (a ∷ b ∷ text) =
    cond_keeps _ text (a ∷ b ∷ text) (λ e h.
    let p = and_parts _ _ e in
    let q = and_parts _ _ p.0 in
    and_from _ _ (digit_ascii a q.0) (and_from _ _ (digit_ascii b q.1) h))

digits_keep : (text : List ℕ) → all_ascii (after_digits text) ≡ true → all_ascii text ≡ true
digits_keep [] h = refl
digits_keep (c ∷ text) h = step (is_digit c) refl h (digits_keep text) where
  step : (b : Bool) → is_digit c ≡ b → all_ascii (if b then after_digits text else c ∷ text) ≡ true → (all_ascii (after_digits text) ≡ true → all_ascii text ≡ true) → all_ascii (c ∷ text) ≡ true
  step true e k more = and_from _ _ (digit_ascii c e) (more k)
  step false e k more = k

some_digits_keep : (text : List ℕ) → Keeps (after_some_digits text) text
some_digits_keep text = none_or (is_empty (digits text)) where
  none_or : (b : Bool) → Keeps (if b then None else Some (after_digits text)) text
  none_or true = tt
  none_or false = digits_keep text

minus_keeps : (text : List ℕ) → all_ascii (without_minus text) ≡ true → all_ascii text ≡ true
minus_keeps [] h = refl
minus_keeps (c ∷ text) h = step (c == hyphen) refl h where
  step : (b : Bool) → (c == hyphen) ≡ b → all_ascii (if b then text else c ∷ text) ≡ true → all_ascii (c ∷ text) ≡ true
  step true e k = and_from _ _ (same_ascii c hyphen (lit< tt) e) k
  step false e k = k

behind_minus : (o : Option (List ℕ)) (text : List ℕ) → Keeps o (without_minus text) → Keeps o text
behind_minus None text k = tt
behind_minus (Some rest) text k = λ h. minus_keeps text (k h)

year_keeps : (text : List ℕ) → Keeps (after_year text) text
year_keeps text = behind_minus (after_year text) text (cond_keeps (is_year (digits (without_minus text))) _ _ (λ e. digits_keep (without_minus text)))

part_keeps : (o : Option (List ℕ)) (high : ℕ) (text : List ℕ) → Keeps o text → Keeps (o andThen after_char hyphen andThen after_two 1 high) text
part_keeps o high text k = then_keeps _ _ text (then_keeps o _ text k (λ rest. char_keeps hyphen rest (lit< tt))) (λ rest. two_keeps 1 high rest)

month_keeps : (text : List ℕ) → Keeps (after_month text) text
month_keeps text = part_keeps (after_year text) 12 text (year_keeps text)

date_keeps : (text : List ℕ) → Keeps (after_date text) text
date_keeps text = part_keeps (after_month text) 31 text (month_keeps text)

fraction_keeps : (test : ℕ → Bool) (text : List ℕ) → Keeps (after_fraction test text) text
fraction_keeps test [] = λ h. h
fraction_keeps test (c ∷ text) = step (c == full_stop) refl where
  step : (b : Bool) → (c == full_stop) ≡ b
      → Keeps (if b then (if not (is_empty (digits text)) && list_all test (digits text) then Some (after_digits text) else None) else Some (c ∷ text)) (c ∷ text)
  step true e = cond_keeps _ _ _ (λ _ h. and_from _ _ (same_ascii c full_stop (lit< tt) e) (digits_keep text h))
  step false e = λ h. h

hms_keep : (hours : ℕ × ℕ) (high : ℕ) (fraction : ℕ → Bool) (text : List ℕ) → Keeps (after_hms hours high fraction text) text
hms_keep hours high fraction text =
    then_keeps _ _ text
    (then_keeps _ _ text
    (then_keeps _ _ text
    (then_keeps _ _ text
    (then_keeps _ _ text (two_keeps hours.0 hours.1 text) (λ rest. char_keeps colon rest (lit< tt)))
    (λ rest. two_keeps 0 high rest))
    (λ rest. char_keeps colon rest (lit< tt)))
    (λ rest. two_keeps 0 high rest))
    (λ rest. fraction_keeps fraction rest)

clock_keeps : (text : List ℕ) → Keeps (after_clock text) text
clock_keeps text = or_keeps _ _ text (hms_keep (0, 23) 59 is_digit text) (hms_keep (24, 24) 0 is_zero text)

offset_ascii : (text : List ℕ) → is_offset text ≡ true → all_ascii text ≡ true
offset_ascii text h = ⊎_elim (ends 0 13 59) (ends 14 14 0) (either _ _ h) where
  ends : (low high last : ℕ) → follows is_empty (after_two low high text andThen after_char colon andThen after_two 0 last) ≡ true → all_ascii text ≡ true
  ends low high last k =
      follows_ascii is_empty _ text
      (then_keeps _ _ text (then_keeps _ _ text (two_keeps low high text) (λ rest. char_keeps colon rest (lit< tt))) (λ rest. two_keeps 0 last rest))
      empty_ascii k

zone_ascii : (text : List ℕ) → is_zone text ≡ true → all_ascii text ≡ true
zone_ascii [] h = refl
zone_ascii (c ∷ text) h = ⊎_elim by_z by_sign (either _ _ h) where
  by_z : ((c == 90) && is_empty text) ≡ true → all_ascii (c ∷ text) ≡ true
  by_z k = let p = and_parts _ _ k in and_from _ _ (same_ascii c 90 (lit< tt) p.0) (empty_ascii text p.1)

  by_sign : (((c == plus_sign) || (c == hyphen)) && is_offset text) ≡ true → all_ascii (c ∷ text) ≡ true
  by_sign k =
      let p = and_parts _ _ k in
      and_from _ _ (⊎_elim (same_ascii c plus_sign (lit< tt)) (same_ascii c hyphen (lit< tt)) (either _ _ p.0)) (offset_ascii text p.1)

with_part_keeps : (before : Parts) (o : Option (List ℕ)) → Keeps o before.1 → all_ascii (with_part before o).1 ≡ true → all_ascii before.1 ≡ true
with_part_keeps before None k h = h
with_part_keeps before (Some rest) k h = k h

number_keeps : (letter : ℕ) (before : Parts) → letter < 128 → all_ascii (part letter before).1 ≡ true → all_ascii before.1 ≡ true
number_keeps letter before small h = with_part_keeps before _ (then_keeps _ _ before.1 (some_digits_keep before.1) (λ rest. char_keeps letter rest small)) h

seconds_keep : (before : Parts) → all_ascii (seconds before).1 ≡ true → all_ascii before.1 ≡ true
seconds_keep before h =
    with_part_keeps before _
    (then_keeps _ _ before.1 (then_keeps _ _ before.1 (some_digits_keep before.1) (λ rest. fraction_keeps is_digit rest)) (λ rest. char_keeps 83 rest (lit< tt)))
    h

ended_ascii : (parts : Parts) → ends_with_part parts ≡ true → all_ascii parts.1 ≡ true
ended_ascii parts h = empty_ascii parts.1 (and_parts _ _ h).1

behind_ascii : (rest : List ℕ) → ends_with_part (seconds (part 77 (part 72 (false, rest)))) ≡ true → all_ascii rest ≡ true
behind_ascii rest e =
    let hours : Parts = part 72 (false, rest) in
    let minutes : Parts = part 77 hours in
    number_keeps 72 (false, rest) (lit< tt) (number_keeps 77 hours (lit< tt) (seconds_keep minutes (ended_ascii (seconds minutes) e)))

time_parts_ascii : (days : Parts) → are_time_parts days ≡ true → all_ascii days.1 ≡ true
time_parts_ascii days h =
    ⊎_elim (ended_ascii days) (follows_ascii (λ rest. ends_with_part (seconds (part 77 (part 72 (false, rest))))) (after_char 84 days.1) days.1 (char_keeps 84 days.1 (lit< tt)) behind_ascii)
    (either _ _ h)

date_parts_ascii : (rest : List ℕ) → are_time_parts (part 68 (part 77 (part 89 (false, rest)))) ≡ true → all_ascii rest ≡ true
date_parts_ascii rest e =
    let years : Parts = part 89 (false, rest) in
    let months : Parts = part 77 years in
    number_keeps 89 (false, rest) (lit< tt) (number_keeps 77 years (lit< tt) (number_keeps 68 months (lit< tt) (time_parts_ascii (part 68 months) e)))

duration_ascii : (text : List ℕ) → is_duration text ≡ true → all_ascii text ≡ true
duration_ascii text h =
    follows_ascii (λ rest. are_time_parts (part 68 (part 77 (part 89 (false, rest))))) (after_char 80 (without_minus text)) text
    (behind_minus _ text (char_keeps 80 (without_minus text) (lit< tt))) date_parts_ascii h

-- a row of the table
or_none : (b : Bool) (name : List ℕ) (o : Option (List ℕ)) → b ≡ false → o ≡ None → (if b then Some name else o) ≡ None
or_none b name o e f = rw (e, f) refl

pub no_ascii_no_time : (text : List ℕ) → all_ascii text ≡ false → time_kind text ≡ None
unfolding time_kind
no_ascii_no_time text h =
    let never = λ (e : all_ascii text ≡ true). clash e in
    or_none _ _ _ (false_from_ne_true _ (λ k. never (follows_ascii is_zone _ text (year_keeps text) zone_ascii k)))
    (or_none _ _ _ (false_from_ne_true _ (λ k. never (follows_ascii is_zone _ text (month_keeps text) zone_ascii k)))
    (or_none _ _ _ (false_from_ne_true _ (λ k. never (follows_ascii is_zone _ text (date_keeps text) zone_ascii k)))
    (or_none _ _ _ (false_from_ne_true _ (λ k. never (follows_ascii is_zone _ text (clock_keeps text) zone_ascii k)))
    (or_none _ _ _ (false_from_ne_true _ (λ k. never (follows_ascii is_zone _ text (then_keeps _ _ text (then_keeps _ _ text (date_keeps text) (λ rest. char_keeps 84 rest (lit< tt))) clock_keeps) zone_ascii k)))
    (or_none _ _ _ (false_from_ne_true _ (λ k. never (duration_ascii text k))) refl)))))
  where
    clash : all_ascii text ≡ true → ⊥
    clash e = cc

-- so its bytes and its characters have one form
pub time_of_bytes : (bs : List ℕ) → IsUtf8 bs → time_kind bs ≡ time_kind (chars bs)
time_of_bytes bs u = go (all_ascii bs) refl (all_ascii (chars bs)) refl where
  go : (a : Bool) → all_ascii bs ≡ a → (b : Bool) → all_ascii (chars bs) ≡ b → time_kind bs ≡ time_kind (chars bs)
  go true e b f = ap time_kind (sym (ascii-chars bs e))
  go false e true f =
      let same : bs ≡ chars bs = sym (encodes-chars bs u) ∙ (ascii-same (chars bs) f).0 in
      ap time_kind same
  go false e false f = no_ascii_no_time bs e ∙ sym (no_ascii_no_time (chars bs) f)
