-- Which character decides a fault of a value of HTML, and what stands before it.
use Rattle.rx_grammar.proofs.Common.{◌≡◌, ℕ, Bool, true, false, [], ◌∷◌, ◌++◌, refl, ap, sym, ◌∙◌, append_assoc, inl, inr, ◌&&◌, ◌==◌, not, list_all, is_white_space, is_letter, is_digit, is_letter_or_digit, solidus, ampersand, semicolon, number_sign, Chars, both, either, untrue, not_both_ways, Syntax, is_hexadecimal_digit, is_x, begins_number, is_begun, meaning, is_quote, RunFault, unknown, bad, no_reference, ValueFault, in_run, less_than}
use Rattle.rx_grammar.specs.declared.faults.Kind.{Kind}
use Rattle.rx_reader.specs.Tables.{is_html_syntax}
use Rattle.rx_reader.proofs.Classes.{of_white, of_one, unless}
use Rattle.rx_reader.proofs.TextComplete.{body_begun}
use Rattle.rx_reader.proofs.ValueFaults.{of_quote, snoc_front, snoc_last}
use Rattle.rx_reader.proofs.ValueRefusals.{name_body}
use Rattle.rx_reader.proofs.InTables.{no_end, is_outer}

-- A fault of a value of HTML is decided at a `;`, after a character of its run.
inner_by : (test : ℕ → Bool) (c : ℕ) → test c ≡ true → test 9 ≡ false → test 10 ≡ false → test 12 ≡ false → test 13 ≡ false → test 32 ≡ false → test 47 ≡ false → test 34 ≡ false → test 39 ≡ false → not (is_outer c) ≡ true
inner_by test c h p9 p10 p12 p13 p32 p47 p34 p39 =
    let white : is_white_space c ≡ false = unless test c (is_white_space c) h (λ e. of_white (λ x. test x ≡ false) c e p9 p10 p12 p13 p32) in
    let slash : (c == solidus) ≡ false = unless test c (c == solidus) h (λ e. of_one (λ x. test x ≡ false) c solidus e p47) in
    let mark : is_quote c ≡ false = unless test c (is_quote c) h (λ e. of_quote (λ x. test x ≡ false) c e p34 p39) in
    rw (white, slash, mark) refl

abbrev is_inner : ℕ → Bool
is_inner c = not (is_outer c)

all_inner : (test : ℕ → Bool) (text : Chars) → ((c : ℕ) → test c ≡ true → is_inner c ≡ true) → list_all test text ≡ true → list_all is_inner text ≡ true
all_inner test [] f h = refl
all_inner test (c ∷ text) f h = let b = both (test c) _ h in rw (f c b.0, all_inner test text f b.1) refl

number_inner : (text : Chars) → begins_number text ≡ true → list_all is_inner text ≡ true
number_inner [] h = refl
number_inner (c ∷ text) h = elim (either (is_digit c && list_all is_digit text) _ h) [
  | inl e ↦ let b = both (is_digit c) _ e in rw (inner_by is_digit c b.0 refl refl refl refl refl refl refl refl, all_inner is_digit text (λ d k. inner_by is_digit d k refl refl refl refl refl refl refl refl) b.1) refl
  | inr e ↦ let b = both (is_x c) _ e in rw (inner_by is_x c b.0 refl refl refl refl refl refl refl refl, all_inner is_hexadecimal_digit text (λ d k. inner_by is_hexadecimal_digit d k refl refl refl refl refl refl refl refl) b.1) refl
]

begun_inner : (text : Chars) → is_begun text ≡ true → list_all is_inner text ≡ true
begun_inner [] h = refl
begun_inner (c ∷ text) h = elim (either (is_letter c && list_all is_letter_or_digit text) _ h) [
  | inl e ↦ let b = both (is_letter c) _ e in rw (inner_by is_letter c b.0 refl refl refl refl refl refl refl refl, all_inner is_letter_or_digit text (λ d k. inner_by is_letter_or_digit d k refl refl refl refl refl refl refl refl) b.1) refl
  | inr e ↦ let b = both (c == number_sign) _ e in of_one (λ x. list_all is_inner (x ∷ text) ≡ true) c number_sign b.0 (number_inner text b.1)
]

pub record EndsInner (text : Chars) : Type 0 where
  pub init : Chars
  pub c : ℕ
  pub are : text ≡ init ++ c ∷ []
  pub inner : is_outer c ≡ false

last_inner : (c : ℕ) (text : Chars) → is_inner c ≡ true → list_all is_inner text ≡ true → EndsInner (c ∷ text)
last_inner c [] h k = record { init = []; c = c; are = refl; inner = untrue (is_outer c) h }
last_inner c (d ∷ text) h k = let b = both (is_inner d) _ k in let e = last_inner d text b.0 b.1 in record { init = c ∷ e.init; c = e.c; are = ap (λ x. c ∷ x) e.are; inner = e.inner }

pub record HtmlFault (value : Chars) (c : ℕ) : Type 0 where
  pub tail : EndsInner value
  pub closes : c ≡ semicolon

run_tail : (front body value : Chars) (c : ℕ) → is_begun body ≡ true → front ++ ampersand ∷ (body ++ semicolon ∷ []) ≡ value ++ c ∷ [] → HtmlFault value c
run_tail front body value c b e =
    let k : (front ++ ampersand ∷ body) ++ semicolon ∷ [] ≡ value ++ c ∷ [] = append_assoc front (ampersand ∷ body) (semicolon ∷ []) ∙ e in
    let v : front ++ ampersand ∷ body ≡ value = snoc_front (front ++ ampersand ∷ body) value semicolon c k in
    let d = last_inner ampersand body refl (begun_inner body b) in
    record {
      tail = record { init = front ++ d.init; c = d.c; are = sym v ∙ ap (λ x. front ++ x) d.are ∙ sym (append_assoc front d.init (d.c ∷ [])); inner = d.inner };
      closes = sym (snoc_last (front ++ ampersand ∷ body) value semicolon c k);
    }

run_fault : (s : Syntax) (front value : Chars) (c : ℕ) {kind : Kind} {run : Chars} → is_html_syntax s ≡ true → RunFault s kind run → front ++ ampersand ∷ run ≡ value ++ c ∷ [] → HtmlFault value c
run_fault s front value c z (unknown name h n) e = run_tail front name value c (body_begun s (meaning s) name (name_body name h)) e
run_fault s front value c z (bad body b h n) e = run_tail front body value c (body_begun s (meaning s) body b) e
run_fault s front value c z (no_reference run d x b h) e = absurd (let y : is_html_syntax s ≡ false = ap is_html_syntax x in not_both_ways (is_html_syntax s) z y)

pub html_fault : (s : Syntax) (value : Chars) (c : ℕ) {kind : Kind} {faulty : Chars} → is_html_syntax s ≡ true → ValueFault s kind faulty → faulty ≡ value ++ c ∷ [] → HtmlFault value c
html_fault s value c z (in_run front run f) e = run_fault s front value c z f e
html_fault s value c z (less_than front x) e = absurd (let y : is_html_syntax s ≡ false = ap is_html_syntax x in not_both_ways (is_html_syntax s) z y)

-- no fault of HTML is decided at a value's first character
pub no_first : (s : Syntax) (c : ℕ) (kind : Kind) → is_html_syntax s ≡ true → ValueFault s kind (c ∷ []) → ⊥
no_first s c kind z f = let d = html_fault s [] c z f refl in no_end d.tail.init d.tail.c d.tail.are
