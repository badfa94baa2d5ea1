-- Attributes that are copied as they are written are read like their characters one after another.
use Rattle.rx_grammar.proofs.Common.{◌≡◌, ◌∙◌, ℕ, ◌+◌, ◌-◌, ◌≤◌, ◌<◌, List, [], ◌∷◌, ◌++◌, length, take, drop, refl, ap, sym, subst, arith, take-add, length-take-le, get_or, length-drop, chars, IsUtf8, take-append-drop, take_rest, map-append, chars-nil, IsUtf8-nil, ascii-utf8, ascii-chars, Chars, Syntax, Attribute}
use Rattle.rx_reader.specs.declared.phases.RunPhase.{RunPhase}
use Rattle.rx_reader.specs.declared.phases.RunPhase.TheVariants as run
use Rattle.rx_reader.specs.declared.phases.TagPhase.TheVariants as phase
use Rattle.rx_tags.specs.declared.attributes.AttributeSpan.{AttributeSpan}
use Rattle.rx_tags.specs.Fronts.{TakesFront}
use Rattle.rx_tags.specs.Lists.{only_whole, ListsTo, MarksList, AddsRow}
use Rattle.rx_tags.specs.Pairs.{Pairs, no_pairs, pairs_read, IsPendingRun}
use Rattle.rx_tags.specs.Reading.{AttributeReading, piece, row_read, rows_read, read_as, RowsFit, SpansFit, begun_behind, nothing_read}
use Rattle.rx_tags.specs.TagReads.{state_of}
use Rattle.rx_tags.proofs.OnLemmas.{skips}
use Rattle.rx_tags.proofs.Pieces.{piece_on, drop_two, rows_on, rows_fit_on, rows_fit_append, nothing_past, fresh}
use Rattle.rx_tags.proofs.TakeLemmas.{plain_ascii, small_ascii, takes_then}
use Rattle.rx_tags.proofs.WholeLemmas.{taken_at, whole_front}

-- what stands in a front
in_front : (bytes : List ℕ) (n from to : ℕ) → from ≤ to → to ≤ n → n ≤ length bytes → piece (take n bytes) from to ≡ piece bytes from to
in_front bytes n from to h k l =
    let m : length (take n bytes) ≡ n = length-take-le n bytes l in
    sym (piece_on (take n bytes) (drop n bytes) from to h (omega (arith, k, m))) ∙ ap (λ t. piece t from to) (take-append-drop n bytes)

-- an attribute more
module _ (bytes : List ℕ) (at : ℕ) (rows new : List AttributeSpan) (n : ℕ) (l : at ≤ length bytes) (m : MarksList phase.Gap bytes at rows) (a : AddsRow bytes at rows n new) where
  abbrev rest : List ℕ
  rest = drop at bytes

  abbrev name : List ℕ
  name = take a.name rest

  abbrev value : List ℕ
  value = take a.value (drop (a.name + 2) rest)

  abbrev all : ℕ
  all = a.name + 2 + a.value + 1

  abbrev row : AttributeSpan
  row = record { start = at; middle = at + a.name; value = at + a.name + 2; end = at + a.name + 2 + a.value }

  within : n ≤ length bytes
  within = omega (arith, a.whole.fits, length-drop at bytes, a.behind, l)

  grown : take n bytes ≡ take at bytes ++ take all rest
  grown = ap (λ k. take k bytes) a.behind ∙ take-add at all bytes

  before : at ≤ length (take at bytes)
  before = omega (arith, length-take-le at bytes l)

  name_is : piece (take n bytes) at (at + a.name) ≡ name
  name_is =
      let k : at + a.name - at ≡ a.name = omega arith in
      in_front bytes n at (at + a.name) (omega arith) (omega (arith, a.behind)) within ∙ ap (λ x. take x rest) k

  value_is : piece (take n bytes) (at + a.name + 2) (at + a.name + 2 + a.value) ≡ value
  value_is =
      let k : at + a.name + 2 + a.value - (at + a.name + 2) ≡ a.value = omega arith in
      let d : at + a.name + 2 ≡ at + (a.name + 2) = omega arith in
      in_front bytes n (at + a.name + 2) (at + a.name + 2 + a.value) (omega arith) (omega (arith, a.behind)) within
      ∙ ap (λ x. take x (drop (at + a.name + 2) bytes)) k ∙ ap (λ x. take a.value x) (ap (λ x. drop x bytes) d ∙ sym (drop_two at (a.name + 2) bytes))

  name_chars : chars (piece (take n bytes) at (at + a.name)) ≡ name
  name_chars = ap chars name_is ∙ ascii-chars name (small_ascii name a.whole.small)

  value_chars : chars (piece (take n bytes) (at + a.name + 2) (at + a.name + 2 + a.value)) ≡ value
  value_chars = ap chars value_is ∙ ascii-chars value (plain_ascii value a.whole.plain)

  row_is : row_read (take n bytes) row ≡ (name, value)
  row_is = λ i. (name_chars i, value_chars i)

  rows_are : rows_read (take n bytes) new ≡ rows_read (take at bytes) rows ++ (name, value) ∷ []
  rows_are =
      ap (rows_read (take n bytes)) a.is ∙ map-append (row_read (take n bytes)) rows (row ∷ [])
      ∙ ap (λ f. f ++ row_read (take n bytes) row ∷ []) (ap (λ t. rows_read t rows) grown ∙ rows_on (take at bytes) (take all rest) at rows before m.fit)
      ∙ ap (λ r. rows_read (take at bytes) rows ++ r ∷ []) row_is

  fits : RowsFit (take n bytes) n new
  fits =
      subst (λ (r : List AttributeSpan). RowsFit (take n bytes) n r) (sym a.is)
      (rows_fit_append (take n bytes) n rows row
      (subst (λ (t : List ℕ). RowsFit t n rows) (sym grown) (rows_fit_on (take at bytes) (take all rest) at n rows before (omega (arith, a.behind)) m.fit))
      (record {
        rises = omega arith;
        apart = omega arith;
        on = omega arith;
        within = omega (arith, a.behind);
        name = subst IsUtf8 (sym name_is) (ascii-utf8 name (small_ascii name a.whole.small));
        value = subst IsUtf8 (sym value_is) (ascii-utf8 value (plain_ascii value a.whole.plain));
      }))

  read : (s : Syntax) (tag : Chars) → TakesFront s (state_of phase.Gap tag no_pairs) bytes (at + all) (state_of phase.AfterValue tag (only_whole (rows_read (take at bytes) rows ++ (name, value) ∷ [])))
  read s tag =
      let w : List Attribute = rows_read (take at bytes) rows in
      let more = whole_front s tag (only_whole w) (only_whole (w ++ (name, value) ∷ [])) rest a.name a.value a.whole refl phase.Gap refl (record { is = refl }) in
      takes_then s (state_of phase.Gap tag no_pairs) (state_of phase.Gap tag (only_whole w)) (state_of phase.AfterValue tag (only_whole (w ++ (name, value) ∷ []))) bytes at all l (m.lists s tag)
      (subst (λ (x : List ℕ). TakesFront s (state_of phase.Gap tag (only_whole w)) x all (state_of phase.AfterValue tag (only_whole (w ++ (name, value) ∷ [])))) (sym (take_rest bytes at)) more)

  pub row_added : MarksList phase.AfterValue bytes n new
  row_added = record {
    fit = fits;
    lists = λ s tag. subst (λ (x : ℕ). TakesFront s (state_of phase.Gap tag no_pairs) bytes x (state_of phase.AfterValue tag (only_whole (rows_read (take n bytes) new)))) (sym a.behind)
        (subst (λ (x : List Attribute). TakesFront s (state_of phase.Gap tag no_pairs) bytes (at + all) (state_of phase.AfterValue tag (only_whole x))) (sym rows_are) (read s tag));
  }

-- the space behind it
pub space_added : (bytes : List ℕ) (n : ℕ) (rows : List AttributeSpan) → MarksList phase.AfterValue bytes n rows → n < length bytes → get_or bytes n 0 ≡ 32 → MarksList phase.Gap bytes (n + 1) rows
space_added bytes n rows m k e =
    let grown : take (n + 1) bytes ≡ take n bytes ++ take 1 (drop n bytes) = take-add n 1 bytes in
    let before : n ≤ length (take n bytes) = omega (arith, length-take-le n bytes (omega arith)) in
    let same : rows_read (take (n + 1) bytes) rows ≡ rows_read (take n bytes) rows = ap (λ t. rows_read t rows) grown ∙ rows_on (take n bytes) (take 1 (drop n bytes)) n rows before m.fit in
    let w : List Attribute = rows_read (take n bytes) rows in
    record {
      fit = subst (λ (t : List ℕ). RowsFit t (n + 1) rows) (sym grown) (rows_fit_on (take n bytes) (take 1 (drop n bytes)) n (n + 1) rows before (omega arith) m.fit);
      lists = λ s tag. subst (λ (x : List Attribute). TakesFront s (state_of phase.Gap tag no_pairs) bytes (n + 1) (state_of phase.Gap tag (only_whole x))) (sym same)
          (taken_at s (state_of phase.Gap tag no_pairs) (state_of phase.AfterValue tag (only_whole w)) (state_of phase.Gap tag (only_whole w)) bytes n 32 k e (m.lists s tag) refl
          (skips s phase.AfterValue phase.Gap tag (only_whole w) 32 (record { move = λ x. refl; unfinished = refl; printed = refl; outside = refl })));
    }

-- the copied bytes with their rows
pub listed : (text bytes : List ℕ) (n : ℕ) (rows : List AttributeSpan) → RowsFit (take n bytes) n rows → n ≤ length bytes → text ≡ take n bytes
    → SpansFit text rows n n n × (read_as text rows n n n ≡ begun_behind (rows_read text rows) [])
listed text bytes n rows m k e =
    let count : n ≡ length text = sym (ap length e ∙ length-take-le n bytes k) in
    let past = nothing_past text n count in
    let z : n - n ≡ 0 = omega arith in
    let none : piece text n n ≡ [] = rw z refl in (
      record {
        rows_fit = subst (λ (t : List ℕ). RowsFit t n rows) (sym e) m;
        rises = omega arith;
        on = omega arith;
        within = omega (arith, count);
        key = rw none IsUtf8-nil;
        known = rw none IsUtf8-nil;
        pending = past.0;
      },
      λ i. record {
        whole = rows_read text rows;
        key = (ap chars none ∙ chars-nil) i;
        known = (ap chars none ∙ chars-nil) i;
        pending = past.1 i;
      },
    )

pub lists_text : (text bytes : List ℕ) (n : ℕ) (rows : List AttributeSpan) → MarksList phase.AfterValue bytes n rows → text ≡ take n bytes → ListsTo phase.AfterValue bytes n (rows_read text rows)
lists_text text bytes n rows m e = subst (λ (t : List ℕ). ListsTo phase.AfterValue bytes n (rows_read t rows)) (sym e) m.lists

-- an empty buffer has read nothing
pub nothing_in : (text : List ℕ) (rows : List AttributeSpan) (start middle end : ℕ) → SpansFit text rows start middle end → length text ≡ 0 → length rows ≡ 0 → read_as text rows start middle end ≡ nothing_read
nothing_in [] [] start middle end f t r =
    let a : start ≡ 0 = omega (arith, f.rises, f.on, f.within) in
    let b : middle ≡ 0 = omega (arith, f.rises, f.on, f.within) in
    let c : end ≡ 0 = omega (arith, f.within) in
    (λ i. read_as [] [] (a i) (b i) (c i)) ∙ fresh.1
nothing_in [] (x ∷ rows) start middle end f t r = absurd (omega (arith, r))
nothing_in (x ∷ text) rows start middle end f t r = absurd (omega (arith, t))

-- where nothing was read no run is
pub none_pairs : (p : RunPhase) (r : AttributeReading) → IsPendingRun p r.pending → r ≡ nothing_read → pairs_read p r ≡ no_pairs
none_pairs run.Plain r k e = ap (pairs_read run.Plain) e
none_pairs _ r k e = absurd (let z = sym (ap (λ (x : AttributeReading). x.pending) e) ∙ k.0 in cc)

module _ (p : RunPhase) (r : AttributeReading) (k : IsPendingRun p r.pending) (e : pairs_read p r ≡ no_pairs) where
  is_plain : p ≡ run.Plain
  is_plain = ap (λ (x : Pairs). x.value.phase) e

  -- behind the list nothing is read
  pub listed_pairs : (new : AttributeReading) → new ≡ begun_behind new.whole [] → pairs_read p new ≡ only_whole new.whole
  listed_pairs new q = ap (λ (x : RunPhase). pairs_read x new) is_plain ∙ ap (pairs_read run.Plain) q
