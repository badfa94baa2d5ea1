-- Tables that are written out.
use Rattle.rx_names.proofs.Common.{◌≡◌, ◌∙◌, ℕ, suc, zero, ◌<◌, true, false, List, [], ◌∷◌, length, get_or, Option, Some, None, bytes_eq, sym, ap, refl, arith, Bor, not, list_all, option_or, chars, and_parts, IsIri, has_scheme, has_forbidden, is_iri, Chars, lowered, by_test, bytes_eq-Decides, Table, table_value, rise}
use Rattle.rx_names.specs.Given.{given_table, are_given, are_lowered}
use Rattle.rx_names.proofs.TableLemmas.{found-later}

is_iri-true : (text : Chars) → is_iri text ≡ true → IsIri text
is_iri-true text h =
    let parts = and_parts (has_scheme text) (not (has_forbidden text)) h in
    record { scheme = parts.0; clean = by_test (has_forbidden text) (λ t. let g : false ≡ true = rw t at parts.1 in absurd (cc g)) (λ t. t) }

abbrev pub Declaration : Type 0
Declaration = Bor (List ℕ) × Bor (List ℕ)

pub given-rises : (rows : List Declaration) → are_given (given_table rows) ≡ true → rise (given_table rows) ≡ true
given-rises rows h = (and_parts (rise (given_table rows)) (list_all (λ row. is_iri row.1) (given_table rows)) h).0

pub given-iri : (rows : List Declaration) (i : ℕ) (d : Declaration) → are_given (given_table rows) ≡ true → i < length rows → IsIri (chars (get_or rows i d).1.now)
given-iri rows i d h below = is_iri-true (chars (get_or rows i d).1.now) (at rows i below (and_parts (rise (given_table rows)) (list_all (λ row. is_iri row.1) (given_table rows)) h).1) where
  at : (rows : List Declaration) (i : ℕ) → i < length rows → list_all (λ (row : Chars × Chars). is_iri row.1) (given_table rows) ≡ true → is_iri (chars (get_or rows i d).1.now) ≡ true
  at [] i l a = absurd (omega arith)
  at (row ∷ rows) zero l a = (and_parts (is_iri (chars row.1.now)) (list_all (λ row. is_iri row.1) (given_table rows)) a).0
  at (row ∷ rows) (suc i) l a = at rows i (omega arith) ((and_parts (is_iri (chars row.1.now)) (list_all (λ row. is_iri row.1) (given_table rows)) a).1)

-- Of names in lower case: what has one of them as its name has it in lower case too, and no other name has.
module _ (name : Chars) where
  no-lowered : (rows : Table) → are_lowered rows ≡ true → bytes_eq (lowered name) name ≡ false → table_value name rows ≡ None
  no-lowered [] h other = refl
  no-lowered (row ∷ rows) h other =
      let parts = and_parts (bytes_eq (lowered row.0) row.0) (are_lowered rows) h in
      found-later row rows name (by_test (bytes_eq row.0 name) (λ t. clash row.0 ((bytes_eq-Decides row.0 name).0 t) parts.0) (λ t. t))
      ∙ no-lowered rows parts.1 other
    where
      clash : (front : Chars) → front ≡ name → bytes_eq (lowered front) front ≡ true → bytes_eq front name ≡ false
      clash front e h =
          let g : false ≡ true = sym other ∙ sym (ap (λ (x : Chars). bytes_eq (lowered x) x) e) ∙ h in
          absurd (cc g)

  pub lowered-tells : (rows : Table) → are_lowered rows ≡ true → option_or (table_value name rows) (table_value (lowered name) rows) ≡ table_value (lowered name) rows
  lowered-tells rows h = by_test (bytes_eq (lowered name) name) same other where
    twice : (o : Option Chars) → option_or o o ≡ o
    twice None = refl
    twice (Some x) = refl

    same : bytes_eq (lowered name) name ≡ true → option_or (table_value name rows) (table_value (lowered name) rows) ≡ table_value (lowered name) rows
    same t =
        let e : table_value (lowered name) rows ≡ table_value name rows = ap (λ (x : Chars). table_value x rows) ((bytes_eq-Decides (lowered name) name).0 t) in
        ap (option_or (table_value name rows)) e ∙ twice (table_value name rows) ∙ sym e

    other : bytes_eq (lowered name) name ≡ false → option_or (table_value name rows) (table_value (lowered name) rows) ≡ table_value (lowered name) rows
    other t = ap (λ (o : Option Chars). option_or o (table_value (lowered name) rows)) (no-lowered rows h t)
