-- The tests by rows against the relations: which bytes begin a sequence, and that exactly one answer holds.
use Rattle.std.proofs.Common.{◌≡◌, ◌≢◌, ◌↔◌, ⊎_elim, ℕ, Bool, true, false, ◌&&◌, nat_le, List, [], ◌∷◌, ◌++◌, refl, sym, ap, ◌∙◌, subst, arith}
use Rattle.std.proofs.lemmas.Bool.{and_parts, and_from, or_cases, or_left, or_right, cases_Bool, false_from_ne_true, false≢true, both_ways}
use Rattle.std.proofs.lemmas.Bool.Decides.{nat_tests}
use Rattle.std.proofs.lemmas.List.{append-nil}
use Rattle.std.specs.List.{list_any, list_all}
use Rattle.rx_chars.specs.Utf8.{Range, is_in, tail, well_formed_rows, fills, begins_row, is_well_formed, begins_sequence, scalar_value, BeginsCharacter, BeginNone, Answers, answer_of}
use Rattle.rx_chars.specs.Held.{fits_second}
use Rattle.rx_chars.specs.declared.utf8.Utf8Step.{Utf8Step}
use Rattle.rx_chars.specs.declared.utf8.Utf8Step.TheVariants.{More, Char, Bad}
use Rattle.rx_chars.proofs.Utf8Rows.{whole_one, whole_two, whole_three, begun_one, begun_two, begun_three, begun_more}
use Rattle.rx_chars.proofs.Utf8Answers.{at_whole, at_begun, at_none}

-- a shorter front of a sequence begins one
row_longer : (row : List Range) (bytes : List ℕ) (m : ℕ) (more : List ℕ) → fills row (bytes ++ m ∷ more) ≡ true → begins_row row bytes ≡ true
row_longer (r ∷ row) [] m more whole = refl
row_longer (r ∷ row) (b ∷ bytes) m more whole =
    let parts = and_parts (is_in r b) (fills row (bytes ++ m ∷ more)) whole in
    and_from (is_in r b) (begins_row row bytes) parts.0 (row_longer row bytes m more parts.1)
row_longer [] [] m more whole = absurd (false≢true whole)
row_longer [] (b ∷ bytes) m more whole = absurd (false≢true whole)

any_longer : (rows : List (List Range)) (bytes : List ℕ) (m : ℕ) (more : List ℕ) → list_any (λ row. fills row (bytes ++ m ∷ more)) rows ≡ true
    → list_any (λ row. begins_row row bytes) rows ≡ true
any_longer [] bytes m more some = absurd (false≢true some)
any_longer (row ∷ rows) bytes m more some =
    ⊎_elim
    (λ here. or_left (begins_row row bytes) (list_any (λ row. begins_row row bytes) rows) (row_longer row bytes m more here))
    (λ there. or_right (begins_row row bytes) (list_any (λ row. begins_row row bytes) rows) (any_longer rows bytes m more there))
    (or_cases (fills row (bytes ++ m ∷ more)) (list_any (λ row. fills row (bytes ++ m ∷ more)) rows) some)

-- what begins a row can be completed
abbrev is_filled : Range → Bool
is_filled range = nat_le range.0 range.1

abbrev are_filled : List (List Range) → Bool
are_filled [] = true
are_filled (row ∷ rows) = list_all is_filled row && are_filled rows

lowest_in : (r : Range) → is_filled r ≡ true → is_in r r.0 ≡ true
lowest_in r filled = and_from (nat_le r.0 r.0) (nat_le r.0 r.1) (grind (arith, nat_tests)) filled

row_lowest : (row : List Range) → list_all is_filled row ≡ true → (more : List ℕ) × (fills row more ≡ true)
row_lowest [] filled = ([], refl)
row_lowest (r ∷ row) filled =
    let parts = and_parts (is_filled r) (list_all is_filled row) filled in
    let rest = row_lowest row parts.1 in
    (r.0 ∷ rest.0, and_from (is_in r r.0) (fills row rest.0) (lowest_in r parts.0) rest.1)

row_completed : (row : List Range) (bytes : List ℕ) → list_all is_filled row ≡ true → begins_row row bytes ≡ true
    → (next : ℕ) × ((more : List ℕ) × (fills row (bytes ++ next ∷ more) ≡ true))
row_completed [] bytes filled begun = absurd (false≢true begun)
row_completed (r ∷ row) [] filled begun =
    let parts = and_parts (is_filled r) (list_all is_filled row) filled in
    let rest = row_lowest row parts.1 in
    (r.0, (rest.0, and_from (is_in r r.0) (fills row rest.0) (lowest_in r parts.0) rest.1))
row_completed (r ∷ row) (b ∷ bytes) filled begun =
    let parts = and_parts (is_filled r) (list_all is_filled row) filled in
    let here = and_parts (is_in r b) (begins_row row bytes) begun in
    let rest = row_completed row bytes parts.1 here.1 in
    (rest.0, (rest.1.0, and_from (is_in r b) (fills row (bytes ++ rest.0 ∷ rest.1.0)) here.0 rest.1.1))

any_completed : (rows : List (List Range)) (bytes : List ℕ) → are_filled rows ≡ true → list_any (λ row. begins_row row bytes) rows ≡ true
    → (next : ℕ) × ((more : List ℕ) × (list_any (λ row. fills row (bytes ++ next ∷ more)) rows ≡ true))
any_completed [] bytes filled some = absurd (false≢true some)
any_completed (row ∷ rows) bytes filled some =
    let parts = and_parts (list_all is_filled row) (are_filled rows) filled in
    let there : List ℕ → Bool = λ whole. list_any (λ row. fills row whole) rows in
    ⊎_elim
    (λ h. let r = row_completed row bytes parts.0 h in
    let whole = bytes ++ r.0 ∷ r.1.0 in (r.0, (r.1.0, or_left (fills row whole) (there whole) r.1.1)))
    (λ h. let r = any_completed rows bytes parts.1 h in
    let whole = bytes ++ r.0 ∷ r.1.0 in (r.0, (r.1.0, or_right (fills row whole) (there whole) r.1.1)))
    (or_cases (begins_row row bytes) (list_any (λ row. begins_row row bytes) rows) some)

-- no sequence begins a longer one
pub whole_excludes : (bytes : List ℕ) → is_well_formed bytes ≡ true → begins_sequence bytes ≡ false
whole_excludes [] whole = absurd (false≢true whole)
whole_excludes (a ∷ []) whole =
    let one : is_in (0x00, 0x7F) a ≡ true = sym (whole_one a) ∙ whole in
    begun_one a ∙ grind (arith, nat_tests)
whole_excludes (a ∷ b ∷ []) whole =
    begun_two a b ∙ apart a (is_in tail b) (fits_second a b) (sym (whole_two a b) ∙ whole)
  where
    apart : (a : ℕ) (s t : Bool) → (is_in (0xC2, 0xDF) a && s) ≡ true → (is_in (0xE0, 0xF4) a && t) ≡ false
    apart a s t h = grind (arith, nat_tests)
whole_excludes (a ∷ b ∷ c ∷ []) whole =
    begun_three a b c ∙ apart a (fits_second a b && is_in tail c) (sym (whole_three a b c) ∙ whole)
  where
    apart : (a : ℕ) (s : Bool) → (is_in (0xE0, 0xEF) a && s) ≡ true → (is_in (0xF0, 0xF4) a && s) ≡ false
    apart a s h = grind (arith, nat_tests)
whole_excludes (a ∷ b ∷ c ∷ d ∷ bytes) whole = begun_more a b c d bytes

pub begins-from_rows : (bytes : List ℕ) → begins_sequence bytes ≡ true → BeginsCharacter bytes
begins-from_rows bytes begun =
    let rest = any_completed well_formed_rows bytes refl begun in
    record {
      more = rest.0 ∷ rest.1.0;
      value = scalar_value (bytes ++ rest.0 ∷ rest.1.0);
      longer = λ e. cc;
      character = record { well_formed = rest.1.1; scalar = refl };
    }

pub rows_begin : (bytes : List ℕ) → BeginsCharacter bytes → begins_sequence bytes ≡ true
rows_begin bytes begun = go begun.more begun.longer begun.character.well_formed
  where
    go : (more : List ℕ) → more ≢ [] → is_well_formed (bytes ++ more) ≡ true → begins_sequence bytes ≡ true
    go [] longer whole = absurd (longer refl)
    go (m ∷ more) longer whole = any_longer well_formed_rows bytes m more whole

none-from_rows : (bytes : List ℕ) → is_well_formed bytes ≡ false → begins_sequence bytes ≡ false → BeginNone bytes
none-from_rows bytes whole begun [] value character = both_ways (is_well_formed bytes) whole (sym (ap is_well_formed (append-nil bytes)) ∙ character.well_formed)
none-from_rows bytes whole begun (m ∷ more) value character = both_ways (begins_sequence bytes) begun (any_longer well_formed_rows bytes m more character.well_formed)

none_whole : (bytes : List ℕ) → BeginNone bytes → is_well_formed bytes ≡ false
none_whole bytes none = false_from_ne_true (is_well_formed bytes) (λ whole.
    none [] (scalar_value (bytes ++ [])) (record { well_formed = subst (λ x. is_well_formed x ≡ true) (sym (append-nil bytes)) whole; scalar = refl }))

none_begun : (bytes : List ℕ) → BeginNone bytes → begins_sequence bytes ≡ false
none_begun bytes none = false_from_ne_true (begins_sequence bytes) (λ begun.
    let longer = begins-from_rows bytes begun in none longer.more longer.value longer.character)

pub answer_is : (bytes : List ℕ) (step : Utf8Step) → Answers bytes step → step ≡ answer_of bytes
answer_is bytes (Char value) character = ap Char (sym character.scalar) ∙ at_whole bytes character.well_formed
answer_is bytes More begun =
    let rows : begins_sequence bytes ≡ true = rows_begin bytes begun in
    at_begun bytes (false_from_ne_true (is_well_formed bytes) (λ whole. both_ways (begins_sequence bytes) (whole_excludes bytes whole) rows)) rows
answer_is bytes Bad none = at_none bytes (none_whole bytes none) (none_begun bytes none)

pub answers-answer_of : (bytes : List ℕ) → Answers bytes (answer_of bytes)
answers-answer_of bytes = ⊎_elim
    (λ whole. subst (λ s. Answers bytes s) (at_whole bytes whole) (record { well_formed = whole; scalar = refl }))
    (λ partial. ⊎_elim
    (λ begun. subst (λ s. Answers bytes s) (at_begun bytes partial begun) (begins-from_rows bytes begun))
    (λ none. subst (λ s. Answers bytes s) (at_none bytes partial none) (none-from_rows bytes partial none))
    (cases_Bool (begins_sequence bytes)))
    (cases_Bool (is_well_formed bytes))

pub answers_from : (bytes : List ℕ) (step : Utf8Step) → step ≡ answer_of bytes → Answers bytes step
answers_from bytes step same = subst (λ s. Answers bytes s) (sym same) (answers-answer_of bytes)

pub rows_are_begun : (bytes : List ℕ) → BeginsCharacter bytes ↔ (begins_sequence bytes ≡ true)
rows_are_begun bytes = (rows_begin bytes, begins-from_rows bytes)

pub answers_are_exact : (bytes : List ℕ) (step : Utf8Step) → Answers bytes step ↔ (step ≡ answer_of bytes)
answers_are_exact bytes step = (answer_is bytes step, answers_from bytes step)
