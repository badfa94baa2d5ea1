-- Runs after an `&`, one character at a time.
use Rattle.rx_grammar.proofs.Common.{◌≡◌, ℕ, Bool, true, false, eqb-true, [], ◌∷◌, ◌++◌, refl, inl, inr, subst, ◌&&◌, ◌==◌, not, list_all, list_all-append, is_letter, is_digit, is_letter_or_digit, number_sign, semicolon, Chars, both, either, untrue, split, not_both_ways, by_test, is_hexadecimal_digit, is_x, is_body, is_begun, stops_at}
use Rattle.rx_reader.specs.declared.phases.RunPhase.{RunPhase}
use Rattle.rx_reader.specs.declared.phases.RunPhase.TheVariants as run
use Rattle.rx_reader.specs.declared.phases.RunMove.{RunMove}
use Rattle.rx_reader.specs.declared.phases.RunMove.TheVariants.{Goes, Closes, Stops}
use Rattle.rx_reader.specs.Tables.{run_move}
use Rattle.rx_reader.proofs.Classes.{of_one, unless}
use Rattle.rx_reader.proofs.Gaps.{all_snoc}

-- the runs of each phase
pub data RunIs : RunPhase → Chars → Type 0 where
  at_ampersand : RunIs run.Ampersand []
  in_name : (c : ℕ) (text : Chars) → is_letter c ≡ true → list_all is_letter_or_digit text ≡ true → RunIs run.Named (c ∷ text)
  at_hash : RunIs run.Hash (number_sign ∷ [])
  in_decimal : (c : ℕ) (text : Chars) → is_digit c ≡ true → list_all is_digit text ≡ true → RunIs run.Decimal (number_sign ∷ c ∷ text)
  at_mark : (x : ℕ) → is_x x ≡ true → RunIs run.Mark (number_sign ∷ x ∷ [])
  in_hexadecimal : (x c : ℕ) (text : Chars) → is_x x ≡ true → is_hexadecimal_digit c ≡ true → list_all is_hexadecimal_digit text ≡ true → RunIs run.Hexadecimal (number_sign ∷ x ∷ c ∷ text)

of_x : (P : ℕ → Type 0) (x : ℕ) → is_x x ≡ true → P 120 → P 88 → P x
of_x P x h p q = elim (either (x == 120) (x == 88) h) [ inl e ↦ of_one P x 120 e p | inr e ↦ of_one P x 88 e q ]

pub x_no_digit : (x : ℕ) → is_x x ≡ true → is_digit x ≡ false
x_no_digit x h = of_x (λ y. is_digit y ≡ false) x h refl refl

digit_no_x : (c : ℕ) → is_digit c ≡ true → is_x c ≡ false
digit_no_x c h = unless is_digit c (is_x c) h (λ e. x_no_digit c e)

letter_no_sign : (c : ℕ) → is_letter c ≡ true → (c == number_sign) ≡ false
letter_no_sign c h = unless is_letter c (c == number_sign) h (λ e. of_one (λ x. is_letter x ≡ false) c number_sign e refl)

snoc_false : (test : ℕ → Bool) (text : Chars) (c : ℕ) → list_all test text ≡ true → test c ≡ false → list_all test (text ++ c ∷ []) ≡ false
snoc_false test text c h k = rw (list_all-append test text (c ∷ []), h, k) refl

pub run_begun : {p : RunPhase} {text : Chars} → RunIs p text → is_begun text ≡ true
run_begun at_ampersand = refl
run_begun (in_name c text h k) = rw (h, k) refl
run_begun at_hash = refl
run_begun (in_decimal c text h k) = rw (h, k) refl
run_begun (at_mark x h) = rw (x_no_digit x h, h) refl
run_begun (in_hexadecimal x c text h k l) = rw (x_no_digit x h, h, k, l) refl

-- the run is the body of a reference
pub record Closing (c : ℕ) (text : Chars) : Type 0 where
  pub body : is_body text ≡ true
  pub mark : c ≡ semicolon

-- what a character does to a run: it goes on, it was the body of a reference, or it is text before this character
abbrev Moved : ℕ → Chars → RunMove → Type 0
Moved c text (Goes q) = RunIs q (text ++ c ∷ [])
Moved c text Closes = Closing c text
Moved c text Stops = stops_at text c ≡ true

moved : (c : ℕ) {p : RunPhase} {text : Chars} → RunIs p text → Moved c text (run_move p c)
moved c at_ampersand =
    split (Moved c []) (is_letter c) _ _ (λ e. in_name c [] e refl)
    (λ a. split (Moved c []) (c == number_sign) _ _ (λ e. of_one (λ x. RunIs run.Hash (x ∷ [])) c number_sign e at_hash)
    (λ b. by_test {G = stops_at [] c ≡ true} (c == semicolon) (λ k. rw (k, a, b) refl) (λ k. rw (k, a, b) refl)))
moved c (in_name d text a b) =
    split (Moved c (d ∷ text)) (is_letter_or_digit c) _ _ (λ e. in_name d (text ++ c ∷ []) a (all_snoc is_letter_or_digit text c b e))
    (λ e. split (Moved c (d ∷ text)) (c == semicolon) _ _ (λ f. record { body = rw (a, b) refl; mark = eqb-true c semicolon f })
    (λ f. rw (f, a, snoc_false is_letter_or_digit text c b e, letter_no_sign d a) refl))
moved c at_hash =
    split (Moved c (number_sign ∷ [])) (is_digit c) _ _ (λ e. in_decimal c [] e refl)
    (λ e. split (Moved c (number_sign ∷ [])) (is_x c) _ _ (λ f. at_mark c f)
    (λ f. by_test {G = stops_at (number_sign ∷ []) c ≡ true} (c == semicolon) (λ k. rw (e, f, k) refl) (λ k. rw (e, f, k) refl)))
moved c (in_decimal d text a b) =
    split (Moved c (number_sign ∷ d ∷ text)) (is_digit c) _ _ (λ e. in_decimal d (text ++ c ∷ []) a (all_snoc is_digit text c b e))
    (λ e. split (Moved c (number_sign ∷ d ∷ text)) (c == semicolon) _ _ (λ f. record { body = rw (a, b) refl; mark = eqb-true c semicolon f })
    (λ f. rw (f, a, snoc_false is_digit text c b e, digit_no_x d a) refl))
moved c (at_mark x a) =
    split (Moved c (number_sign ∷ x ∷ [])) (is_hexadecimal_digit c) _ _ (λ e. in_hexadecimal x c [] a e refl)
    (λ e. by_test {G = stops_at (number_sign ∷ x ∷ []) c ≡ true} (c == semicolon) (λ k. rw (k, x_no_digit x a, a, e) refl) (λ k. rw (k, x_no_digit x a, a, e) refl))
moved c (in_hexadecimal x d text a b k) =
    split (Moved c (number_sign ∷ x ∷ d ∷ text)) (is_hexadecimal_digit c) _ _ (λ e. in_hexadecimal x d (text ++ c ∷ []) a b (all_snoc is_hexadecimal_digit text c k e))
    (λ e. split (Moved c (number_sign ∷ x ∷ d ∷ text)) (c == semicolon) _ _ (λ f. record { body = rw (x_no_digit x a, a, b, k) refl; mark = eqb-true c semicolon f })
    (λ f. rw (f, x_no_digit x a, a, b, snoc_false is_hexadecimal_digit text c k e) refl))

pub goes_on : (c : ℕ) (q : RunPhase) {p : RunPhase} {text : Chars} → RunIs p text → run_move p c ≡ Goes q → RunIs q (text ++ c ∷ [])
goes_on c q {text = text} i h = subst (Moved c text) h (moved c i)

pub closes : (c : ℕ) {p : RunPhase} {text : Chars} → RunIs p text → run_move p c ≡ Closes → Closing c text
closes c {text = text} i h = subst (Moved c text) h (moved c i)

pub stops : (c : ℕ) {p : RunPhase} {text : Chars} → RunIs p text → run_move p c ≡ Stops → stops_at text c ≡ true
stops c {text = text} i h = subst (Moved c text) h (moved c i)

stops_case : (c : ℕ) {p : RunPhase} {text : Chars} → RunIs p text → stops_at text c ≡ true → (m : RunMove) → run_move p c ≡ m → m ≡ Stops
stops_case c {text = text} i h (Goes q) e =
    absurd (let b = both (not (is_begun (text ++ c ∷ []))) _ h in not_both_ways (is_begun (text ++ c ∷ [])) (run_begun (goes_on c q i e)) (untrue (is_begun (text ++ c ∷ [])) b.0))
stops_case c {text = text} i h Closes e =
    let k = closes c i e in
    absurd (let b = both (not (is_begun (text ++ c ∷ []))) _ h in
    not_both_ways (c == semicolon && is_body text) (of_one (λ x. (x == semicolon && is_body text) ≡ true) c semicolon (rw k.mark refl) k.body) (untrue (c == semicolon && is_body text) b.1))
stops_case c i h Stops e = refl

pub stops_back : (c : ℕ) {p : RunPhase} {text : Chars} → RunIs p text → stops_at text c ≡ true → run_move p c ≡ Stops
stops_back c {p = p} i h = stops_case c i h (run_move p c) refl

body_mark : (x : ℕ) → is_x x ≡ true → is_body (number_sign ∷ x ∷ []) ≡ true → ⊥
body_mark x h b = let k : is_body (number_sign ∷ x ∷ []) ≡ false = rw (x_no_digit x h, h) refl in not_both_ways (is_body (number_sign ∷ x ∷ [])) b k

pub closes_back : {p : RunPhase} {text : Chars} → RunIs p text → is_body text ≡ true → run_move p semicolon ≡ Closes
closes_back at_ampersand h = absurd (cc)
closes_back (in_name c text a b) h = refl
closes_back at_hash h = absurd (cc)
closes_back (at_mark x a) h = absurd (body_mark x a h)
closes_back _ h = refl
