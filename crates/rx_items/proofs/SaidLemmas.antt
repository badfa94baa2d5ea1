-- The own texts of times while text is said.
use Rattle.rx_items.proofs.Common.{⊤, slice_index_or, ◌≡◌, ℕ, ◌<◌, ◌≤◌, nat_lt, List, [], ◌++◌, length, slice_get, slice_set, Option, Some, None, refl, sym, ap, ◌∙◌, cases_lt, ltb-false, Chars, arith, with_said, ◌⊎◌, inl, inr}
use Rattle.std.proofs.lemmas.List.{length-set, append-nil, append_assoc, set-get_or, get_or_append_left, set-append_left, get_or-set_same, set-set, set_past}
use Rattle.rx_terms.proofs.Bools.{split}
use Rattle.rx_items.proofs.ListLemmas.{get_other, get_append}

abbrev pub OwnIn : Option ℕ → ℕ → Type 0
OwnIn None size = ⊤
OwnIn (Some own) size = own < size

pub said_there : (own : ℕ) (c : Chars) (times : List Chars) → with_said (Some own) c times ≡ slice_set times own (slice_index_or times own [] ++ c)
said_there own c times =
    split (λ (l : List Chars). l ≡ slice_set times own (slice_index_or times own [] ++ c)) (nat_lt own (length times)) (slice_set times own (slice_index_or times own [] ++ c)) times
    (λ e. refl) (λ e. sym (set_past times own (slice_index_or times own [] ++ c) (ltb-false own (length times) e)))

pub said_length : (own : Option ℕ) (c : Chars) (times : List Chars) → length (with_said own c times) ≡ length times
said_length None c times = refl
said_length (Some own) c times = ap (λ (l : List Chars). length l) (said_there own c times) ∙ length-set times own (slice_index_or times own [] ++ c)

pub said_nothing : (own : Option ℕ) (times : List Chars) → with_said own [] times ≡ times
said_nothing None times = refl
said_nothing (Some own) times = said_there own [] times ∙ ap (λ x. slice_set times own x) (append-nil (slice_index_or times own [])) ∙ set-get_or times own []

pub said_more : (own : Option ℕ) (c : Chars) (times more : List Chars) → OwnIn own (length times) → with_said own c (times ++ more) ≡ with_said own c times ++ more
said_more None c times more o = refl
said_more (Some own) c times more o =
    said_there own c (times ++ more)
    ∙ ap (λ x. slice_set (times ++ more) own (x ++ c)) (get_or_append_left times more [] own o)
    ∙ set-append_left times more own (slice_index_or times own [] ++ c) o
    ∙ ap (λ l. l ++ more) (sym (said_there own c times))

pub said_twice : (own : Option ℕ) (a b : Chars) (times : List Chars) → with_said own b (with_said own a times) ≡ with_said own (a ++ b) times
said_twice None a b times = refl
said_twice (Some own) a b times = by (cases_lt own (length times))
  where
    there : Chars
    there = slice_index_or times own [] ++ a

    outside : length times ≤ own → (c : Chars) → with_said (Some own) c times ≡ times
    outside o c = said_there own c times ∙ set_past times own (slice_index_or times own [] ++ c) o

    by : (own < length times) ⊎ (length times ≤ own) → with_said (Some own) b (with_said (Some own) a times) ≡ with_said (Some own) (a ++ b) times
    by (inl o) =
        ap (with_said (Some own) b) (said_there own a times)
        ∙ said_there own b (slice_set times own there)
        ∙ ap (λ x. slice_set (slice_set times own there) own (x ++ b)) (get_or-set_same times own there [] o)
        ∙ set-set times own there (there ++ b)
        ∙ ap (λ x. slice_set times own x) (append_assoc (slice_index_or times own []) a b)
        ∙ sym (said_there own (a ++ b) times)
    by (inr o) = ap (with_said (Some own) b) (outside o a) ∙ outside o b ∙ sym (outside o (a ++ b))

-- what stands from some number on stays there
abbrev pub Keeps : ℕ → List Chars → List Chars → Type 0
Keeps low times later = (time : ℕ) (part : Chars) → low ≤ time → slice_get times time ≡ Some part → slice_get later time ≡ Some part

said_keeps : (own : Option ℕ) (c : Chars) (times : List Chars) (low time : ℕ) → OwnIn own low → low ≤ time → slice_get (with_said own c times) time ≡ slice_get times time
said_keeps None c times low time o l = refl
said_keeps (Some own) c times low time o l =
    ap (λ (ts : List Chars). slice_get ts time) (said_there own c times) ∙ get_other times own time (slice_index_or times own [] ++ c) (omega (arith, o, l))

pub keeps : (own : Option ℕ) (c : Chars) (times more : List Chars) (low : ℕ) → OwnIn own low → Keeps low times (with_said own c times ++ more)
keeps own c times more low o = λ time part l h.
    get_append (with_said own c times) more time part (said_keeps own c times low time o l ∙ h)
