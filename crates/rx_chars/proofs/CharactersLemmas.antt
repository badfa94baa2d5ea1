-- The characters of a page: one list at most, and newlines normalized in one pass or in two.
use Rattle.std.proofs.Common.{◌≡◌, ℕ, Bool, true, false, ◌&&◌, ◌==◌, List, [], ◌∷◌, ◌++◌, map, Some, None, refl, sym, ap, ◌∙◌, if◌then◌else◌}
use Rattle.std.proofs.lemmas.Bool.{eqb-true}
use Rattle.std.proofs.lemmas.Str.{encodes_same}
use Rattle.rx_chars.specs.Characters.{PlacedCharacter, IsRead, placed, without_mark, preprocessed, normal, pairs_as_line_feed, as_line_end, begins_with_line_feed, line_end_given, line_end_entry, ends_with_return, given_list}
use Rattle.std.proofs.Math.Bool.{and-false}
use Rattle.rx_terms.specs.Ascii.{carriage_return, line_feed}

pub one_reading : (bytes : List ℕ) (some others : List PlacedCharacter) → IsRead bytes some → IsRead bytes others → some ≡ others
one_reading bytes some others left right =
    left.read ∙ (ap (λ characters. preprocessed false (without_mark (placed 0 characters)))
    (encodes_same left.characters right.characters (left.forms ∙ sym right.forms)) ∙ sym right.read)

abbrev values : List PlacedCharacter → List ℕ
values = map (λ entry. entry.value)

-- what the entries of one more character are worth, before and after a CR
values-entered : (b : Bool) (entries : List PlacedCharacter) → values (preprocessed b entries) ≡ (if b then values (preprocessed true entries) else values (preprocessed false entries))
values-entered true entries = refl
values-entered false entries = refl

values-if : (b : Bool) (some others : List PlacedCharacter) → values (if b then some else others) ≡ (if b then values some else values others)
values-if true some others = refl
values-if false some others = refl

normal-cons : (c : ℕ) (rest after : List ℕ) (b : Bool) → (c == carriage_return) ≡ b → (line_feed ∷ after) ≡ normal (carriage_return ∷ rest)
    → as_line_end c ∷ (if b then after else normal rest) ≡ normal (c ∷ rest)
normal-cons c rest after true is follows =
    ap (λ x. (if x then line_feed else c) ∷ after) is ∙ (follows ∙ ap (λ x. normal (x ∷ rest)) (sym (eqb-true c carriage_return is)))
normal-cons c rest after false is follows =
    sym (ap (λ b. map as_line_end (if b && begins_with_line_feed rest then pairs_as_line_feed rest else c ∷ pairs_as_line_feed rest)) is)

normal-pair : (c : ℕ) (rest : List ℕ) (b : Bool) → (c == line_feed) ≡ b
    → line_feed ∷ (if b then normal rest else normal (c ∷ rest)) ≡ normal (carriage_return ∷ c ∷ rest)
normal-pair c rest true is = ap (λ x. normal (carriage_return ∷ x ∷ rest)) (sym (eqb-true c line_feed is))
normal-pair c rest false is =
    sym (ap (λ b. map as_line_end (if b then pairs_as_line_feed (c ∷ rest) else carriage_return ∷ pairs_as_line_feed (c ∷ rest))) is)

-- what is entered is normal, also behind a CR
record Normal (entries : List PlacedCharacter) : Type 0 where
  alone : values (preprocessed false entries) ≡ normal (values entries)
  behind : (line_feed ∷ values (preprocessed true entries)) ≡ normal (carriage_return ∷ values entries)

normal_entries : (entries : List PlacedCharacter) → Normal entries
normal_entries [] = record { alone = refl; behind = refl }
normal_entries (entry ∷ entries) =
    let rest = normal_entries entries in
    let alone : values (preprocessed false (entry ∷ entries)) ≡ normal (values (entry ∷ entries)) =
    ap (λ v. as_line_end entry.value ∷ v) (values-entered (entry.value == carriage_return) entries
    ∙ ap (λ v. if entry.value == carriage_return then values (preprocessed true entries) else v) rest.alone)
    ∙ normal-cons entry.value (values entries) (values (preprocessed true entries)) (entry.value == carriage_return) refl rest.behind in
    record {
      alone = alone;
      behind =
          ap (λ v. line_feed ∷ v)
          (values-if (entry.value == line_feed) (preprocessed false entries) (line_end_entry entry ∷ preprocessed (entry.value == carriage_return) entries)
          ∙ (ap (λ v. if entry.value == line_feed then v else values (preprocessed false (entry ∷ entries))) rest.alone
          ∙ ap (λ v. if entry.value == line_feed then normal (values entries) else v) alone))
          ∙ normal-pair entry.value (values entries) (entry.value == line_feed) refl;
    }

pub enters_normal : (entries : List PlacedCharacter) → values (preprocessed false entries) ≡ normal (values entries)
enters_normal entries = (normal_entries entries).alone

pub normal_grows : (characters : List ℕ) (c : ℕ) → normal (characters ++ c ∷ []) ≡ normal characters ++ given_list (line_end_given (ends_with_return characters) c)
normal_grows [] c = ap (λ b. map as_line_end (if b then [] else c ∷ [])) (and-false (c == carriage_return))
normal_grows (d ∷ []) c =
    ap (λ x. map as_line_end (if d == carriage_return && c == line_feed then x else d ∷ x)) (ap (λ b. if b then [] else c ∷ []) (and-false (c == carriage_return)))
    ∙ (two (d == carriage_return) (c == line_feed) refl refl
    ∙ sym (ap (λ b. map as_line_end (if b then [] else d ∷ []) ++ given_list (line_end_given (d == carriage_return) c)) (and-false (d == carriage_return))))
  where
    two : (r f : Bool) → (d == carriage_return) ≡ r → (c == line_feed) ≡ f
        → map as_line_end (if r && f then c ∷ [] else d ∷ c ∷ []) ≡ as_line_end d ∷ given_list (line_end_given r c)
    two true true is then_is =
        ap (λ x. as_line_end x ∷ []) (eqb-true c line_feed then_is) ∙ (sym (ap (λ x. as_line_end x ∷ []) (eqb-true d carriage_return is))
        ∙ sym (ap (λ b. as_line_end d ∷ given_list (if b then None else Some (as_line_end c))) then_is))
    two true false is then_is = sym (ap (λ b. as_line_end d ∷ given_list (if b then None else Some (as_line_end c))) then_is)
    two false f is then_is = refl
normal_grows (d ∷ e ∷ characters) c = longer (d == carriage_return && e == line_feed) (normal_grows (e ∷ characters) c)
  where
    longer : (b : Bool) → normal (e ∷ (characters ++ c ∷ [])) ≡ normal (e ∷ characters) ++ given_list (line_end_given (ends_with_return (e ∷ characters)) c)
        → map as_line_end (if b then pairs_as_line_feed (e ∷ (characters ++ c ∷ [])) else d ∷ pairs_as_line_feed (e ∷ (characters ++ c ∷ [])))
        ≡ map as_line_end (if b then pairs_as_line_feed (e ∷ characters) else d ∷ pairs_as_line_feed (e ∷ characters)) ++ given_list (line_end_given (ends_with_return (e ∷ characters)) c)
    longer true rest = rest
    longer false rest = ap (λ v. as_line_end d ∷ v) rest
