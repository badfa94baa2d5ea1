-- Lists of rows.
use Rattle.rx_names.proofs.Common.{by_test, eq-eqb, false_from_ne_true, and_parts, list_all, take-append-drop, take-map, length-map, slice_get_within, get_or_from_slice_get, list_all-append, list_all_at, Chars, bytes_eq-Decides, ◌≡◌, ◌∙◌, ℕ, suc, ◌-◌, ◌<◌, ◌≤◌, ap, sym, refl, arith, Bool, true, false, Option, Some, None, List, [], ◌∷◌, ◌++◌, take, drop, length, get_or, slice_get, map, bytes_eq, true≢false, ◌==◌, ◌&&◌, take-take, if◌then◌else◌, option_or, is_sound, last_of, prefix_in, vocabulary_in, language_in, number_of, row_number, AreNumbered, earlier-below, front-at}
use lib.Seq.{take-suc}
use Rattle.std.specs.Option.{option_map}
use Rattle.rx_names.specs.declared.rows.Declaration.{Declaration}
use Rattle.rx_unique.specs.Places.{last_place}
use Rattle.rx_unique.proofs.PlaceLemmas.{last-within}
use Rattle.rx_names.specs.declared.rows.Declaration.TheVariants as row
pub use Rattle.rx_unique.proofs.SearchLemmas.{reach, nearer}

pub sound-front : (n : ℕ) (rows : List Declaration) → list_all is_sound rows ≡ true → list_all is_sound (take n rows) ≡ true
sound-front n rows h =
    let whole : (list_all is_sound (take n rows) && list_all is_sound (drop n rows)) ≡ true = sym (list_all-append is_sound (take n rows) (drop n rows)) ∙ ap (list_all is_sound) (take-append-drop n rows) ∙ h in
    (and_parts _ _ whole).0

pub sound-at : (rows : List Declaration) (i : ℕ) (x : Declaration) → list_all is_sound rows ≡ true → i < length rows → x ≡ get_or rows i x → is_sound x ≡ true
sound-at rows i x h within at = ap is_sound at ∙ by_test (is_sound (get_or rows i x)) (λ t. t) (λ t. absurd (true≢false (sym h ∙ list_all_at is_sound rows i x within t)))

-- what rows say that stand behind others
pub or-none : {A : Type 0} (o : Option A) → option_or o None ≡ o
or-none None = refl
or-none (Some x) = refl

pub or-assoc : {A : Type 0} (a b c : Option A) → option_or (option_or a b) c ≡ option_or a (option_or b c)
or-assoc None b c = refl
or-assoc (Some x) b c = refl

pub last-append : {A : Type 0} (f : Declaration → Option A) (front rows : List Declaration) → last_of f (front ++ rows) ≡ option_or (last_of f rows) (last_of f front)
last-append f [] rows = sym (or-none (last_of f rows))
last-append f (row ∷ front) rows = ap (λ o. option_or o (f row)) (last-append f front rows) ∙ or-assoc (last_of f rows) (last_of f front) (f row)

-- a front is told by its last row, or by the rows before that
last-here :
    {A : Type 0} (f : Declaration → Option A) (rows : List Declaration) (i : ℕ) (x : Declaration) (t : Option A)
    → i < length rows → x ≡ get_or rows i x → f x ≡ t → last_of f (take (suc i) rows) ≡ option_or t (last_of f (take i rows))
last-here f rows i x t within at is =
    ap (last_of f) (take-suc rows i x within ∙ ap (λ (r : Declaration). take i rows ++ r ∷ []) (sym at)) ∙ last-append f (take i rows) (x ∷ [])
    ∙ ap (λ (o : Option _). option_or o (last_of f (take i rows))) is

pub last-before :
    {A : Type 0} (f : Declaration → Option A) (rows : List Declaration) (i : ℕ) (x : Declaration) (t : Option A)
    → 0 < i → i ≤ length rows → x ≡ get_or rows (i - 1) x → f x ≡ t → last_of f (take i rows) ≡ option_or t (last_of f (take (i - 1) rows))
last-before f rows i x t some within at is =
    let one_more : i ≡ suc (i - 1) = omega arith in
    ap (λ (n : ℕ). last_of f (take n rows)) one_more ∙ last-here f rows (i - 1) x t (omega arith) at is

-- where a number stands, a row stands
pub row-within : (rows : List Declaration) (numbers : List ℕ) (p n : ℕ) → AreNumbered rows numbers → slice_get numbers p ≡ Some n → p < length rows
row-within rows numbers p n numbered here =
    let inside = slice_get_within numbers p n here in
    let count : length numbers ≡ length rows = ap (λ (l : List ℕ). length l) numbered.are ∙ length-map rows row_number in
    omega (arith, inside, count)

-- the rows through a place, none where there is no place
abbrev pub through : Option ℕ → List Declaration → List Declaration
through None rows = []
through (Some place) rows = take (suc place) rows

-- what all rows tell is told by those through `next`, where a row of this number stands
pub record RowsTold {A : Type 0} (f : Declaration → Option A) (n : ℕ) (rows : List Declaration) (numbers : List ℕ) (next : Option ℕ) : Type 0 where
  pub rest : last_of f rows ≡ last_of f (through next rows)
  pub there : (place : ℕ) → next ≡ Some place → slice_get numbers place ≡ Some n

-- rows of another number than `n` say nothing, so what is told is told by the last row of that number, or by those before
module _ {A : Type 0} (f : Declaration → Option A) (n : ℕ) (others : (x : Declaration) → (row_number x == n) ≡ false → f x ≡ None) where
  pub last-numbered : (rows : List Declaration) → last_of f rows ≡ last_of f (through (last_place n (map row_number rows)) rows)
  last-numbered [] = refl
  last-numbered (x ∷ rows) = there (last_place n (map row_number rows)) (row_number x == n) refl (last-numbered rows) where
    there :
        (o : Option ℕ) (b : Bool) → (row_number x == n) ≡ b → last_of f rows ≡ last_of f (through o rows)
        → last_of f (x ∷ rows) ≡ last_of f (through (option_or (option_map suc o) (if b then Some 0 else None)) (x ∷ rows))
    there None true t ih = ap (λ (o : Option A). option_or o (f x)) ih
    there None false t ih = ap (λ (o : Option A). option_or o (f x)) ih ∙ others x t
    there (Some p) b t ih = ap (λ (o : Option A). option_or o (f x)) ih

  pub told-at-first : (rows : List Declaration) (numbers : List ℕ) (next : Option ℕ) → AreNumbered rows numbers → next ≡ last_place n numbers → RowsTold f n rows numbers next
  told-at-first rows numbers next numbered found = record {
    rest = last-numbered rows ∙ ap (λ (o : Option ℕ). last_of f (through o rows)) (ap (last_place n) (sym numbered.are) ∙ sym found);
    there = λ p e. last-within n numbers p (sym found ∙ e);
  }

  -- the row at the place tells it
  pub told-there :
      (rows : List Declaration) (numbers : List ℕ) (next : Option ℕ) (p : ℕ) (x : Declaration) (v : A)
      → AreNumbered rows numbers → RowsTold f n rows numbers next → next ≡ Some p → x ≡ get_or rows p x → f x ≡ Some v → last_of f rows ≡ Some v
  told-there rows numbers next p x v numbered told is at says =
      told.rest ∙ ap (λ (o : Option ℕ). last_of f (through o rows)) is ∙ last-here f rows p x (Some v) (row-within rows numbers p n numbered (told.there p is)) at says

  -- or else those before it
  pub told-before :
      (rows : List Declaration) (numbers : List ℕ) (next before : Option ℕ) (p : ℕ) (x : Declaration)
      → AreNumbered rows numbers → RowsTold f n rows numbers next → next ≡ Some p → x ≡ get_or rows p x → f x ≡ None
      → before ≡ last_place (get_or numbers p 0) (take p numbers) → RowsTold f n rows numbers before
  told-before rows numbers next before p x numbered told is at silent found = record {
    rest =
        told.rest ∙ ap (λ (o : Option ℕ). last_of f (through o rows)) is
        ∙ last-here f rows p x None (row-within rows numbers p n numbered (told.there p is)) at silent
        ∙ last-numbered (take p rows)
        ∙ ap (λ (o : Option ℕ). last_of f (through o (take p rows))) place
        ∙ shorter before refl;
    there = λ q e. sym (front-at numbers p q (earlier-below numbers p q n (last e))) ∙ last-within n (take p numbers) q (last e);
  } where
    last : {o : Option ℕ} → before ≡ o → last_place n (take p numbers) ≡ o
    last e = ap (λ (k : ℕ). last_place k (take p numbers)) (sym (get_or_from_slice_get numbers p n 0 (told.there p is))) ∙ sym found ∙ e

    place : last_place n (map row_number (take p rows)) ≡ before
    place = ap (last_place n) (sym (take-map row_number p rows) ∙ ap (take p) (sym numbered.are)) ∙ last refl

    shorter : (o : Option ℕ) → before ≡ o → last_of f (through o (take p rows)) ≡ last_of f (through o rows)
    shorter None e = refl
    shorter (Some q) e =
        let inside : q < p = earlier-below numbers p q n (last e) in
        ap (last_of f) (take-take (suc q) p rows (omega (arith, inside)))

-- which rows say nothing
pub other-prefix : (name : Chars) (x : Declaration) → (row_number x == number_of name) ≡ false → prefix_in name x ≡ None
other-prefix name (row.Prefix key iri) t =
    ap (λ (b : Bool). if b then Some iri else None)
    (false_from_ne_true (bytes_eq key name) (λ e. true≢false (sym (eq-eqb (number_of key) (number_of name) (ap number_of ((bytes_eq-Decides key name).0 e))) ∙ t)))
other-prefix name x t = refl

pub other-vocabulary : (x : Declaration) → (row_number x == 0) ≡ false → vocabulary_in x ≡ None
other-vocabulary (row.Vocabulary value) t = absurd (cc)
other-vocabulary x t = refl

pub other-language : (x : Declaration) → (row_number x == 1) ≡ false → language_in x ≡ None
other-language (row.Language value) t = absurd (cc)
other-language x t = refl
