-- Decoding a byte at a time against whole texts.
use Rattle.std.proofs.Common.{length, length-append, arith, ◌≡◌, ◌≢◌, ◌⊎◌, ⊎_elim, inl, inr, ℕ, true, List, [], ◌∷◌, ◌++◌, refl, sym, ap, ◌∙◌, subst, append_assoc}
use Rattle.std.proofs.lemmas.Bool.{and_parts, and_from, both_ways}
use Rattle.std.proofs.lemmas.List.{append-nil}
use Rattle.std.proofs.lemmas.Str.{encodes-append, cons_from_encodes}
use Rattle.std.specs.Char.{IsScalar}
use Rattle.std.specs.Str.{all_scalars, IsUtf8}
use lib.Utf8.{encode, encodes, scalar}
use Rattle.rx_chars.specs.Utf8.{begins_sequence, IsCharacter, BeginsCharacter, BeginNone, Answers}
use Rattle.rx_chars.specs.Decoding.{IsDecoded, BeginNoText, DecodesMore}
use Rattle.rx_chars.specs.declared.utf8.Utf8Step.{Utf8Step}
use Rattle.rx_chars.specs.declared.utf8.Utf8Step.TheVariants.{More, Char, Bad}
use Rattle.rx_chars.proofs.Utf8Exact.{rows_begin, whole_excludes, begins-from_rows}
use Rattle.rx_chars.proofs.Utf8Forms.{form_of, character_of_form}

-- two fronts of one list: the second has the first in front, or the first goes on
front_cases : (xs ys us vs : List ℕ) → xs ++ ys ≡ us ++ vs → ((n : List ℕ) × (us ≡ xs ++ n)) ⊎ ((m : List ℕ) × ((xs ≡ us ++ m) × (m ++ ys ≡ vs)))
front_cases [] ys us vs e = inl (us, refl)
front_cases (x ∷ xs) ys [] vs e = inr (x ∷ xs, (refl, e))
front_cases (x ∷ xs) ys (u ∷ us) vs e =
    let head : u ≡ x = cc in
    let tail : xs ++ ys ≡ us ++ vs = cc in
    ⊎_elim (λ h. let rest : us ≡ xs ++ h.0 = h.1 in inl (h.0, cc)) (λ h. let rest : xs ≡ us ++ h.0 = h.1.0 in inr (h.0, (cc, h.1.1)))
    (front_cases xs ys us vs tail)

pub scalars-append : (xs ys : List ℕ) → all_scalars xs ≡ true → all_scalars ys ≡ true → all_scalars (xs ++ ys) ≡ true
scalars-append [] ys left right = right
scalars-append (x ∷ xs) ys left right =
    let parts = and_parts (scalar x) (all_scalars xs) left in and_from (scalar x) (all_scalars (xs ++ ys)) parts.0 (scalars-append xs ys parts.1 right)

-- what begins a character has no whole one in front
no_whole : (d : ℕ) (rest held : List ℕ) → IsScalar d → encode d ++ rest ≡ held → BeginsCharacter held → ⊥
no_whole d rest held scalar_d same begun =
    both_ways (begins_sequence (encode d)) (whole_excludes (encode d) (character_of_form d scalar_d).well_formed) (rows_begin (encode d) (record {
      more = rest ++ begun.more;
      value = begun.value;
      longer = some rest begun.more begun.longer;
      character = subst (λ bytes. IsCharacter bytes begun.value) (ap (λ bytes. bytes ++ begun.more) (sym same) ∙ append_assoc (encode d) rest begun.more) begun.character;
    })) where
      some : (rest more : List ℕ) → more ≢ [] → rest ++ more ≢ []
      some [] more longer e = longer e
      some (r ∷ rest) more longer e = cc e

-- a text that begins with the characters goes on with a text
without_front : (cs ds xs : List ℕ) → all_scalars ds ≡ true → encodes ds ≡ encodes cs ++ xs → (es : List ℕ) × ((all_scalars es ≡ true) × (encodes es ≡ xs))
without_front [] ds xs scalars same = (ds, (scalars, same))
without_front (c ∷ cs) ds xs scalars same =
    let rest = cons_from_encodes ds (encodes cs ++ xs) c (same ∙ append_assoc (encode c) (encodes cs) xs) in
    let after : all_scalars (c ∷ rest.0) ≡ true = subst (λ l. all_scalars l ≡ true) rest.1 scalars in
    without_front cs rest.0 xs (and_parts (scalar c) (all_scalars rest.0) after).1 rest.2

pub held_is_no_text : (bytes characters held : List ℕ) → IsDecoded bytes characters held → held ≢ [] → IsUtf8 bytes → ⊥
held_is_no_text bytes characters held decoded some text =
    let rest = without_front characters text.0 held text.1.0 (text.1.1 ∙ sym decoded.forms) in
    no_text rest.0 rest.1.0 rest.1.1
  where
    no_text : (es : List ℕ) → all_scalars es ≡ true → encodes es ≡ held → ⊥
    no_text [] scalars same = some (sym same)
    no_text (e ∷ es) scalars same = no_whole e (encodes es) held (and_parts (scalar e) (all_scalars es) scalars).0 same decoded.begun

bad_begins_none : (bytes characters held : List ℕ) (byte : ℕ) → IsDecoded bytes characters held → BeginNone (held ++ byte ∷ []) → BeginNoText (bytes ++ byte ∷ [])
bad_begins_none bytes characters held byte decoded none more text =
    let rest = without_front characters text.0 (held ++ byte ∷ more) text.1.0 (text.1.1 ∙ regrouped) in
    no_text rest.0 rest.1.0 rest.1.1
  where
    regrouped : (bytes ++ byte ∷ []) ++ more ≡ encodes characters ++ (held ++ byte ∷ more)
    regrouped =
        append_assoc bytes (byte ∷ []) more ∙ (ap (λ b. b ++ byte ∷ more) (sym decoded.forms) ∙ append_assoc (encodes characters) held (byte ∷ more))

    goes_on : (e : ℕ) (m ys : List ℕ) → IsScalar e → encode e ≡ held ++ m → m ++ ys ≡ byte ∷ more → ⊥
    goes_on e [] ys scalar_e same after = no_whole e [] held scalar_e (append-nil (encode e) ∙ (same ∙ append-nil held)) decoded.begun
    goes_on e (b ∷ m) ys scalar_e same after =
        let next : b ≡ byte = cc in
        none m e (subst (λ form. IsCharacter form e)
        (same ∙ (ap (λ x. held ++ x ∷ m) next ∙ sym (append_assoc held (byte ∷ []) m))) (character_of_form e scalar_e))

    no_text : (es : List ℕ) → all_scalars es ≡ true → encodes es ≡ held ++ byte ∷ more → ⊥
    no_text [] scalars same = omega (arith, ap length same, length-append held (byte ∷ more))
    no_text (e ∷ es) scalars same =
        let scalar_e = (and_parts (scalar e) (all_scalars es) scalars).0 in
        ⊎_elim
        (λ h. no_whole e h.0 held scalar_e (sym h.1) decoded.begun)
        (λ h. goes_on e h.0 (encodes es) scalar_e h.1.0 h.1.1)
        (front_cases (encode e) (encodes es) held (byte ∷ more) same)

pub decoding_grows : (bytes characters held : List ℕ) (byte : ℕ) (step : Utf8Step) → IsDecoded bytes characters held → Answers (held ++ byte ∷ []) step
    → DecodesMore (bytes ++ byte ∷ []) characters (held ++ byte ∷ []) step
decoding_grows bytes characters held byte (Char c) decoded character =
    let form = form_of (held ++ byte ∷ []) c character in
    record {
      scalars = scalars-append characters (c ∷ []) decoded.scalars (and_from (scalar c) true form.0 refl);
      forms =
          append-nil (encodes (characters ++ c ∷ []))
          ∙ (encodes-append characters (c ∷ [])
          ∙ (ap (λ b. encodes characters ++ b) (append-nil (encode c) ∙ form.1)
          ∙ (sym (append_assoc (encodes characters) held (byte ∷ [])) ∙ ap (λ b. b ++ byte ∷ []) decoded.forms)));
      begun = begins-from_rows [] refl;
    }
decoding_grows bytes characters held byte More decoded begun = record {
  scalars = decoded.scalars;
  forms = sym (append_assoc (encodes characters) held (byte ∷ [])) ∙ ap (λ b. b ++ byte ∷ []) decoded.forms;
  begun = begun;
}
decoding_grows bytes characters held byte Bad decoded none = bad_begins_none bytes characters held byte decoded none
