-- The first row of each id, from the back.
use Rattle.rx_items.proofs.Common.{◌≡◌, ◌∙◌, ◌+◌, ◌<◌, ◌≤◌, ℕ, zero, suc, Bool, true, false, cond, List, [], ◌∷◌, length, drop, get_or, Option, Some, None, option_map, refl, sym, ap, arith, nat_cmp, add-one, is_eq, drop-cons, slice_cmp, nat_list_eq_equiv, chars, IsUtf8, list_any, Chars, same-chars, slice_get-get_or, slice_get_within, get_or_from_slice_get, or_parts, slice_get, IfOk, OnOk, Result, Ok, Err, same, Placed, first_with_id, is_same_id, RowsAreNumbered, IsRun, references_in, span_if, ShowsRow, ShowsRows, ShowsWord, Looks, LooksFor, has_itemref, id_place}
use Rattle.rx_terms.proofs.Common.{is_eq-slice_cmp, BTreeMap, is_at, Bor}
use Rattle.rx_items.specs.declared.spans.Span.{Span}
use Rattle.rx_items.specs.declared.rows.Row.{Row}
use Rattle.std.specs.Map.{lookup}
use Rattle.rx_items.proofs.HoldLemmas.{place_is}
use Rattle.rx_items.proofs.ShowLemmas.{shown_by, shows_length}
use Rattle.std.proofs.Common.{drop_of_length-le}

pub put_under : (id text : List ℕ) (new old : Option ℕ) → cond (is_eq (slice_cmp nat_cmp id text)) new old ≡ cond (same id text) new old
put_under id text new old = ap (λ b. cond b new old) (is_eq-slice_cmp id text)

pub noted : {E : Type 0} (r : Result (Unit {0}) E) (words : Chars) (span : Span) (id : List ℕ) (place : ℕ) (new old : List ℕ → Option ℕ) (word : Option Chars) → IsUtf8 id
    → ((front text rest : Chars) → IsRun words span front text rest → chars id ≡ text) → ShowsWord words (Some span) word
    → OnOk r ((text : List ℕ) → new text ≡ cond (same id text) (Some place) (old text))
    → OnOk r ((text : List ℕ) → IsUtf8 text → new text ≡ cond (is_same_id (chars text) word) (Some place) (old text))
noted r words span id place new old None utf8 told shown f = absurd shown
noted (Err e) words span id place new old (Some part) utf8 told shown f = f
noted (Ok x) words span id place new old (Some part) utf8 told shown f = λ text v.
    let alike = same-chars id text utf8 v ∙ ap (λ (c : Chars). same c (chars text)) (told shown.front part shown.rest shown.is_run) ∙ nat_list_eq_equiv.symm part (chars text) in
    f text ∙ ap (λ b. cond b (Some place) (old text)) alike

pub row_shown : (words gathered : Chars) (times : List Chars) (rows : List Row) (ps : List Placed) (i : ℕ) (d : Row) → ShowsRows words gathered times rows ps → i < length rows
    → (p : Placed) × (slice_get ps i ≡ Some p) × ShowsRow words gathered times (get_or rows i d) p
row_shown words gathered times rows ps i d s lt = shown_by words gathered times rows ps i (get_or rows i d) s (slice_get-get_or rows i d lt)

drop_there : (ps : List Placed) (i : ℕ) (p : Placed) → slice_get ps i ≡ Some p → drop i ps ≡ p ∷ drop (i + 1) ps
drop_there ps i p g =
    drop-cons ps i p (slice_get_within ps i p g) ∙ (λ j. (get_or_from_slice_get ps i p p g) j ∷ drop (sym (add-one i) j) ps)

-- one row more at the front
pub id_turn : (ps : List Placed) (i j : ℕ) (p : Placed) (text : Chars) (new old : Option ℕ) → RowsAreNumbered 0 ps → slice_get ps i ≡ Some p → j ≡ i + 1
    → old ≡ option_map (λ (p : Placed). p.place) (first_with_id (drop j ps) text) → new ≡ cond (is_same_id text p.facts.id) (Some i) old
    → new ≡ option_map (λ (p : Placed). p.place) (first_with_id (drop i ps) text)
id_turn ps i j p text new old n g next was is =
    is ∙ ap (cond (is_same_id text p.facts.id) (Some i)) (was ∙ ap (λ k. option_map (λ (p : Placed). p.place) (first_with_id (drop k ps) text)) next)
    ∙ by (is_same_id text p.facts.id) ∙ sym (ap (λ (l : List Placed). option_map (λ (p : Placed). p.place) (first_with_id l text)) (drop_there ps i p g))
  where
    by : (b : Bool) → cond b (Some i) (option_map (λ (p : Placed). p.place) (first_with_id (drop (i + 1) ps) text))
        ≡ option_map (λ (p : Placed). p.place) (cond b (Some p) (first_with_id (drop (i + 1) ps) text))
    by true = ap Some (sym (place_is ps i p n g))
    by false = refl

pub no_ids : (words gathered : Chars) (times : List Chars) (rows : List Row) (ps : List Placed) → ShowsRows words gathered times rows ps → drop (length rows) ps ≡ []
no_ids words gathered times rows ps s = drop_of_length-le ps (omega (arith, shows_length words gathered times rows ps s))

pub empty_ids : (ids : BTreeMap (Bor (List ℕ)) ℕ) (text : List ℕ) → ids.entries ≡ [] → id_place ids text ≡ None
empty_ids ids text none = ap (λ es. lookup (is_at (λ (id : Bor (List ℕ)). slice_cmp nat_cmp text id.now)) es) none

pub all_ids : (ps : List Placed) (i : ℕ) (text : Chars) → i ≤ 0 → option_map (λ (p : Placed). p.place) (first_with_id (drop i ps) text) ≡ option_map (λ (p : Placed). p.place) (first_with_id ps text)
all_ids ps i text le = let none : i ≡ 0 = omega (arith, le) in ap (λ n. option_map (λ (p : Placed). p.place) (first_with_id (drop n ps) text)) none

-- where no row has references, none has a run of them
pub looks_for_none : {P : Type 0} (rows : List Row) (place : ℕ) (row : Row) (span : Span) → slice_get rows place ≡ Some row → list_any has_itemref rows ≡ false → references_in row.head.words ≡ Some span → P
looks_for_none [] place row span g none is = absurd (cc (g))
looks_for_none (r ∷ rows) zero row span g none is =
    let same : r ≡ row = cc (g) in
    let no : row.head.words.has_references ≡ false = ap has_itemref (sym same) ∙ (or_parts r.head.words.has_references (list_any has_itemref rows) none).0 in
    let clash : None ≡ Some span = ap (λ b. span_if b row.head.words.item_id_end row.head.words.references_end) (sym no) ∙ is in
    absurd (cc (clash))
looks_for_none (r ∷ rows) (suc place) row span g none is = looks_for_none rows place row span g (or_parts r.head.words.has_references (list_any has_itemref rows) none).1 is

pub looks_for : {E : Type 0} (rows : List Row) (look : Chars → Option ℕ) (r : Result (BTreeMap (Bor (List ℕ)) ℕ) E) → IfOk r (λ ids. Looks ids look) → IfOk r (λ ids. LooksFor rows ids look)
looks_for rows look (Ok ids) looks = λ place row there span is. looks
looks_for rows look (Err e) looks = tt
