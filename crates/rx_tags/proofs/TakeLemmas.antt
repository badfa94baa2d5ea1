-- Characters that a tag takes at once are read like one after another.
use Rattle.rx_reader.proofs.Common.{◌≡◌, ◌∙◌, ℕ, ◌+◌, ◌-◌, ◌≤◌, ◌<◌, Bool, true, false, List, [], ◌∷◌, ◌++◌, length, take, drop, refl, ap, sym, subst, Result, Ok, append_assoc, arith, eqb-true, take-add, length-take-le, get_or, inl, inr, length-drop, ◌==◌, ◌&&◌, nat_le, MatchBool, list_all, cond-true, cond-false, or_left, or_right, lt-ltb, le-leb, leb-true, eqb-false, and_parts, and_from, cases_lt, lt-leb, both_ways, take_more, take_rest, list_all-append, is_ascii, Chars, by_test, Syntax, Html, Xhtml, meaning, cased_char, Kind, Move, go, move_of, is_last, PartialValue, known_as, plain_step, value_step, is_run, TagState, with_value, moved, checked, tag_on}
use Rattle.rx_chars.specs.NcName.{is_nc, is_nc_start}
use Rattle.rx_reader.specs.declared.phases.RunPhase.{RunPhase}
use Rattle.rx_reader.specs.declared.phases.RunPhase.TheVariants as run
use Rattle.rx_reader.specs.declared.phases.TagPhase.{TagPhase}
use Rattle.rx_reader.specs.declared.phases.TagPhase.TheVariants as phase
use Rattle.rx_reader.specs.declared.phases.TagAction.TheVariants as action
use Rattle.rx_tags.specs.Fronts.{is_printed, plain_in_quotes, is_small, is_quoted, is_naming, after_letter, opens_key, GoesTo, GoesBy, TakesFront, GainsValue, GainsKey, GainsName}
use Rattle.rx_tags.specs.Pairs.{Pairs, pairs_read, IsPendingRun}
use Rattle.rx_tags.specs.Reading.{AttributeReading}
use Rattle.rx_tags.specs.TagBufs.{TagSoFar, MayStep, TakesMore}
use Rattle.rx_tags.specs.TagReads.{state_of}

-- a character of a class is none outside it
pub is_none : (p : ℕ → Bool) (c d : ℕ) → p c ≡ true → p d ≡ false → (c == d) ≡ false
is_none p c d h k = by_test {G = (c == d) ≡ false} (c == d) (λ e. absurd (both_ways (p d) k (ap p (sym (eqb-true c d e)) ∙ h))) (λ e. e)

-- what is plain or small is printed, and what is printed is ASCII
printed_to : (c : ℕ) → is_printed c ≡ true → c ≤ 126
printed_to c h = leb-true c 126 (and_parts (nat_le 32 c) (nat_le c 126) h).1

printed_ascii : (front : Chars) → list_all is_printed front ≡ true → list_all is_ascii front ≡ true
printed_ascii [] h = refl
printed_ascii (c ∷ front) h =
    let k = and_parts (is_printed c) _ h in
    let b = printed_to c k.0 in
    and_from (is_ascii c) _ (lt-ltb c 128 (omega arith)) (printed_ascii front k.1)

plain_printed : (front : Chars) → list_all plain_in_quotes front ≡ true → list_all is_printed front ≡ true
plain_printed [] h = refl
plain_printed (c ∷ front) h = let k = and_parts (plain_in_quotes c) _ h in and_from (is_printed c) _ (and_parts (is_printed c) _ k.0).0 (plain_printed front k.1)

small_from : (c : ℕ) → is_small c ≡ true → 97 ≤ c
small_from c h = leb-true 97 c (and_parts (nat_le 97 c) (nat_le c 122) h).0

small_to : (c : ℕ) → is_small c ≡ true → c ≤ 122
small_to c h = leb-true c 122 (and_parts (nat_le 97 c) (nat_le c 122) h).1

small_printed : (front : Chars) → list_all is_small front ≡ true → list_all is_printed front ≡ true
small_printed [] h = refl
small_printed (c ∷ front) h =
    let k = and_parts (is_small c) _ h in
    let low = small_from c k.0 in
    let high = small_to c k.0 in
    and_from (is_printed c) _ (and_from _ _ (le-leb 32 c (omega arith)) (le-leb c 126 (omega arith))) (small_printed front k.1)

pub plain_ascii : (front : Chars) → list_all plain_in_quotes front ≡ true → list_all is_ascii front ≡ true
plain_ascii front h = printed_ascii front (plain_printed front h)

pub small_ascii : (front : Chars) → list_all is_small front ≡ true → list_all is_ascii front ≡ true
small_ascii front h = printed_ascii front (small_printed front h)

-- what holds of both quotes
on_quoted : (P : TagPhase → Type 0) (p : TagPhase) → is_quoted p ≡ true → P phase.DoubleQuoted → P phase.SingleQuoted → P p
on_quoted P phase.DoubleQuoted q d s = d
on_quoted P phase.SingleQuoted q d s = s
on_quoted P _ q d s = absurd (cc)

-- of where a tag's name is read
on_naming : (P : TagPhase → Type 0) (p : TagPhase) → is_naming p ≡ true → P phase.Start → P phase.Name → P phase.EndName → P phase.EndStart → P p
on_naming P phase.Start q w x y z = w
on_naming P phase.Name q w x y z = x
on_naming P phase.EndName q w x y z = y
on_naming P phase.EndStart q w x y z = z
on_naming P _ q w x y z = absurd (cc)

-- of where an attribute's name is read
pub on_key : (P : TagPhase → Type 0) (p : TagPhase) → opens_key p ≡ true → P phase.Gap → P phase.Key → P p
on_key P phase.Gap q x y = x
on_key P phase.Key q x y = y
on_key P _ q x y = absurd (cc)

-- the state itself, where the tag isn't whole
pub checked_open : (s : Syntax) (st : TagState) → is_last st.phase ≡ false → checked s (Ok st) ≡ Ok st
checked_open s st e = rw e refl

-- a plain character of a value in quotes
module _ (s : Syntax) (c : ℕ) (h : plain_in_quotes c ≡ true) where
  plain_is : (sy : Syntax) (known : Chars) → plain_step sy known c ≡ Ok (known_as (known ++ c ∷ []))
  plain_is Html known = rw (is_none plain_in_quotes c 38 h refl) refl
  plain_is Xhtml known = rw (is_none plain_in_quotes c 38 h refl, is_none plain_in_quotes c 60 h refl, is_none plain_in_quotes c 9 h refl, is_none plain_in_quotes c 10 h refl) refl

  value_is : (value : PartialValue) → value.phase ≡ run.Plain → value_step s (meaning s) value c ≡ Ok (known_as (value.known ++ c ∷ []))
  value_is value e = cond-false _ _ _ (ap is_run e) ∙ plain_is s value.known

  quoted_move : (p : TagPhase) → is_quoted p ≡ true → move_of s p c ≡ go p action.Value
  quoted_move p q = on_quoted (λ x. move_of s x c ≡ go x action.Value) p q (cond-false _ _ _ (is_none plain_in_quotes c 34 h refl)) (cond-false _ _ _ (is_none plain_in_quotes c 39 h refl))

-- the attributes with more of the value, or of the name
abbrev pub valued : Pairs → Chars → Pairs
valued old text = record { whole = old.whole; key = old.key; value = known_as text }

abbrev pub keyed : Pairs → Chars → Pairs
keyed old text = record { whole = old.whole; key = text; value = old.value }

module _ (s : Syntax) (p : TagPhase) (name : Chars) (q : is_quoted p ≡ true) where
  one_value : (old : Pairs) (c : ℕ) → plain_in_quotes c ≡ true → old.value.phase ≡ run.Plain → GoesTo s (state_of p name old) c (state_of p name (valued old (old.value.known ++ c ∷ [])))
  one_value old c h e =
      let unfinished = on_quoted (λ x. is_last x ≡ false) p q refl refl in (
        ap (λ (m : Move). checked s (moved s (meaning s) (state_of p name old) c m)) (quoted_move s c h p q)
            ∙ (ap (λ (v : Result PartialValue Kind). checked s (with_value p (state_of p name old) v)) (value_is s c h old.value e)
            ∙ checked_open s (state_of p name (valued old (old.value.known ++ c ∷ []))) unfinished),
        unfinished,
      )

  more_value : (old : Pairs) (c : ℕ) (front : Chars) → old.value.phase ≡ run.Plain → list_all plain_in_quotes (c ∷ front) ≡ true → GoesBy s (state_of p name old) (c ∷ front) (state_of p name (valued old (old.value.known ++ c ∷ front)))
  more_value old c [] e h = (state_of p name (valued old (old.value.known ++ c ∷ [])), one_value old c (and_parts (plain_in_quotes c) _ h).0 e, refl)
  more_value old c (d ∷ front) e h =
      let k = and_parts (plain_in_quotes c) _ h in
      let next : Pairs = valued old (old.value.known ++ c ∷ []) in (
        state_of p name next,
        one_value old c k.0 e,
        subst (λ (x : Chars). GoesBy s (state_of p name next) (d ∷ front) (state_of p name (valued old x))) (append_assoc old.value.known (c ∷ []) (d ∷ front)) (more_value next d front refl k.1),
      )

  some_value : (old new : Pairs) (front : Chars) → 0 < length front → GainsValue old front new → GoesBy s (state_of p name old) front (state_of p name new)
  some_value old new [] n g = absurd (omega arith)
  some_value old new (c ∷ front) n g = subst (λ (x : Pairs). GoesBy s (state_of p name old) (c ∷ front) (state_of p name x)) (sym g.is) (more_value old c front g.outside g.plain)

-- a small letter of an attribute's name
module _ (c : ℕ) (h : is_small c ≡ true) where
  small_start : is_nc_start c ≡ true
  small_start =
      let low = small_from c h in
      let parts = and_parts (nat_le 97 c) (nat_le c 122) h in
      rw (le-leb 65 c (omega arith), lt-leb c 90 (omega arith), is_none is_small c 95 h refl, parts.0, parts.1) refl

  small_nc : is_nc c ≡ true
  small_nc = or_left _ _ (or_left _ _ (or_left _ _ (or_left _ _ (or_left _ _ (or_left (is_nc_start c) _ small_start)))))

  small_move : (s : Syntax) → move_of s phase.Key c ≡ go phase.Key action.Key
  small_move Html =
      rw (is_none is_small c 9 h refl, is_none is_small c 10 h refl, is_none is_small c 12 h refl, is_none is_small c 13 h refl, is_none is_small c 32 h refl, is_none is_small c 61 h refl, is_none is_small c 47 h refl, is_none is_small c 62 h refl, is_none is_small c 34 h refl, is_none is_small c 39 h refl, is_none is_small c 60 h refl) refl
  small_move Xhtml =
      rw (is_none is_small c 9 h refl, is_none is_small c 10 h refl, is_none is_small c 12 h refl, is_none is_small c 13 h refl, is_none is_small c 32 h refl, is_none is_small c 61 h refl, is_none is_small c 47 h refl, is_none is_small c 62 h refl, small_nc) refl

  gap_move : (s : Syntax) → move_of s phase.Gap c ≡ go phase.Key action.Key
  gap_move Html =
      rw (is_none is_small c 9 h refl, is_none is_small c 10 h refl, is_none is_small c 12 h refl, is_none is_small c 13 h refl, is_none is_small c 32 h refl, is_none is_small c 61 h refl, is_none is_small c 47 h refl, is_none is_small c 62 h refl, is_none is_small c 34 h refl, is_none is_small c 39 h refl, is_none is_small c 60 h refl) refl
  gap_move Xhtml = rw (is_none is_small c 9 h refl, is_none is_small c 10 h refl, is_none is_small c 12 h refl, is_none is_small c 13 h refl, is_none is_small c 32 h refl, is_none is_small c 47 h refl, is_none is_small c 62 h refl, small_start) refl

  key_move : (s : Syntax) (p : TagPhase) → opens_key p ≡ true → move_of s p c ≡ go phase.Key action.Key
  key_move s p q = on_key (λ x. move_of s x c ≡ go phase.Key action.Key) p q (gap_move s) (small_move s)

  start_move : (s : Syntax) → move_of s phase.Name c ≡ go phase.Name action.Name
  start_move Html = rw (is_none is_small c 9 h refl, is_none is_small c 10 h refl, is_none is_small c 12 h refl, is_none is_small c 13 h refl, is_none is_small c 32 h refl, is_none is_small c 47 h refl, is_none is_small c 62 h refl) refl
  start_move Xhtml = rw (is_none is_small c 9 h refl, is_none is_small c 10 h refl, is_none is_small c 12 h refl, is_none is_small c 13 h refl, is_none is_small c 32 h refl, is_none is_small c 47 h refl, is_none is_small c 62 h refl, small_nc) refl

  end_move : (s : Syntax) → move_of s phase.EndName c ≡ go phase.EndName action.Name
  end_move Html = rw (is_none is_small c 9 h refl, is_none is_small c 10 h refl, is_none is_small c 12 h refl, is_none is_small c 13 h refl, is_none is_small c 32 h refl, is_none is_small c 47 h refl, is_none is_small c 62 h refl) refl
  end_move Xhtml = rw (is_none is_small c 9 h refl, is_none is_small c 10 h refl, is_none is_small c 12 h refl, is_none is_small c 13 h refl, is_none is_small c 32 h refl, is_none is_small c 62 h refl, small_nc) refl

  first_move : (s : Syntax) → move_of s phase.EndStart c ≡ go phase.EndName action.Name
  first_move Html =
      let parts = and_parts (nat_le 97 c) (nat_le c 122) h in
      cond-true _ _ _ (or_right (nat_le 65 c && nat_le c 90) _ h)
  first_move Xhtml = cond-true _ _ _ (or_left (is_nc_start c) _ small_start)

  opening_move : (s : Syntax) → move_of s phase.Start c ≡ go phase.Name action.Name
  opening_move Html = cond-true _ _ _ (or_right (nat_le 65 c && nat_le c 90) _ h)
  opening_move Xhtml = cond-true _ _ _ (or_left (is_nc_start c) _ small_start)

  name_move : (s : Syntax) (p : TagPhase) → is_naming p ≡ true → move_of s p c ≡ go (after_letter p) action.Name
  name_move s p q = on_naming (λ x. move_of s x c ≡ go (after_letter x) action.Name) p q (opening_move s) (start_move s) (end_move s) (first_move s)

  small_cased : (s : Syntax) → cased_char s c ≡ c
  small_cased Html =
      let low = small_from c h in
      let no_capital : (nat_le 65 c && nat_le c 90) ≡ false = rw (le-leb 65 c (omega arith), lt-leb c 90 (omega arith)) refl in
      cond-false _ _ _ no_capital
  small_cased Xhtml = refl

module _ (s : Syntax) (name : Chars) where
  abbrev in_key : Pairs → TagState
  in_key pairs = state_of phase.Key name pairs

  abbrev ok_state : TagState → Result TagState Kind
  ok_state st = Ok st

  one_key : (p : TagPhase) (old : Pairs) (c : ℕ) → opens_key p ≡ true → is_small c ≡ true → GoesTo s (state_of p name old) c (in_key (keyed old (old.key ++ c ∷ [])))
  one_key p old c q h = (
    ap (λ (m : Move). checked s (moved s (meaning s) (state_of p name old) c m)) (key_move c h s p q) ∙ ap (λ (d : ℕ). ok_state (in_key (keyed old (old.key ++ d ∷ [])))) (small_cased c h s),
    refl,
  )

  more_key : (p : TagPhase) (old : Pairs) (c : ℕ) (front : Chars) → opens_key p ≡ true → list_all is_small (c ∷ front) ≡ true → GoesBy s (state_of p name old) (c ∷ front) (in_key (keyed old (old.key ++ c ∷ front)))
  more_key p old c [] q h = (in_key (keyed old (old.key ++ c ∷ [])), one_key p old c q (and_parts (is_small c) _ h).0, refl)
  more_key p old c (d ∷ front) q h =
      let k = and_parts (is_small c) _ h in
      let next : Pairs = keyed old (old.key ++ c ∷ []) in (
        in_key next,
        one_key p old c q k.0,
        subst (λ (x : Chars). GoesBy s (in_key next) (d ∷ front) (in_key (keyed old x))) (append_assoc old.key (c ∷ []) (d ∷ front)) (more_key phase.Key next d front refl k.1),
      )

  some_key : (p : TagPhase) (old new : Pairs) (front : Chars) → opens_key p ≡ true → 0 < length front → GainsKey old front new → GoesBy s (state_of p name old) front (in_key new)
  some_key p old new [] q n g = absurd (omega arith)
  some_key p old new (c ∷ front) q n g = subst (λ (x : Pairs). GoesBy s (state_of p name old) (c ∷ front) (in_key x)) (sym g.is) (more_key p old c front q g.small)

-- a small letter of a tag's name
named_naming : (p : TagPhase) → is_naming p ≡ true → is_naming (after_letter p) ≡ true
named_naming p q = on_naming (λ x. is_naming (after_letter x) ≡ true) p q refl refl refl refl

named_twice : (p : TagPhase) → is_naming p ≡ true → after_letter (after_letter p) ≡ after_letter p
named_twice p q = on_naming (λ x. after_letter (after_letter x) ≡ after_letter x) p q refl refl refl refl

module _ (s : Syntax) (pairs : Pairs) where
  abbrev with_name : TagPhase → Chars → TagState
  with_name p name = state_of p name pairs

  one_name : (p : TagPhase) (name : Chars) (c : ℕ) → is_naming p ≡ true → is_small c ≡ true → GoesTo s (with_name p name) c (with_name (after_letter p) (name ++ c ∷ []))
  one_name p name c q h =
      let unfinished = on_naming (λ x. is_last (after_letter x) ≡ false) p q refl refl refl refl in (
        ap (λ (m : Move). checked s (moved s (meaning s) (with_name p name) c m)) (name_move c h s p q)
            ∙ (ap (λ (d : ℕ). checked s (ok_state s name (with_name (after_letter p) (name ++ d ∷ [])))) (small_cased c h s) ∙ checked_open s (with_name (after_letter p) (name ++ c ∷ [])) unfinished),
        unfinished,
      )

  more_name : (p : TagPhase) (name : Chars) (c : ℕ) (front : Chars) → is_naming p ≡ true → list_all is_small (c ∷ front) ≡ true → GoesBy s (with_name p name) (c ∷ front) (with_name (after_letter p) (name ++ c ∷ front))
  more_name p name c [] q h = (with_name (after_letter p) (name ++ c ∷ []), one_name p name c q (and_parts (is_small c) _ h).0, refl)
  more_name p name c (d ∷ front) q h =
      let k = and_parts (is_small c) _ h in
      let more = subst (λ (x : TagPhase). GoesBy s (with_name (after_letter p) (name ++ c ∷ [])) (d ∷ front) (with_name x ((name ++ c ∷ []) ++ d ∷ front))) (named_twice p q) (more_name (after_letter p) (name ++ c ∷ []) d front (named_naming p q) k.1) in (
        with_name (after_letter p) (name ++ c ∷ []),
        one_name p name c q k.0,
        subst (λ (x : Chars). GoesBy s (with_name (after_letter p) (name ++ c ∷ [])) (d ∷ front) (with_name (after_letter p) x)) (append_assoc name (c ∷ []) (d ∷ front)) more,
      )

  some_name : (p : TagPhase) (name new front : Chars) → is_naming p ≡ true → 0 < length front → GainsName name front new → GoesBy s (with_name p name) front (with_name (after_letter p) new)
  some_name p name new [] q n g = absurd (omega arith)
  some_name p name new (c ∷ front) q n g = subst (λ (x : Chars). GoesBy s (with_name p name) (c ∷ front) (with_name (after_letter p) x)) (sym g.is) (more_name p name c front q g.small)

-- nothing is taken, or some characters are
pub some_count : (n : ℕ) → (n ≡ 0 → ⊥) → 0 < n
some_count n z = elim (cases_lt 0 n) [ inl a ↦ a | inr b ↦ absurd (z (omega (arith, b))) ]

pub match_by : {G : Type 0} (b : Bool) (P Q : Type 0) → MatchBool b P Q → (b ≡ true → P → G) → (b ≡ false → Q → G) → G
match_by true P Q m f g = f refl m
match_by false P Q m f g = g refl m

some_taken : (n : ℕ) (bytes : List ℕ) → n ≤ length bytes → (n == 0) ≡ false → 0 < length (take n bytes)
some_taken n bytes f z = subst (λ (x : ℕ). 0 < x) (sym (length-take-le n bytes f)) (some_count n (eqb-false n 0 z))

none_taken : (s : Syntax) (old new : TagState) (bytes : List ℕ) (n : ℕ) → n ≡ 0 → new ≡ old → TakesFront s old bytes n new
none_taken s old new bytes n z e = subst (λ (x : ℕ). TakesFront s old bytes x new) (sym z) (record { fits = omega arith; printed = refl; goes = e })

pub value_front : (s : Syntax) (p : TagPhase) (name : Chars) (old new : Pairs) (bytes : List ℕ) (n : ℕ) → is_quoted p ≡ true → n ≤ length bytes → MatchBool (n == 0) (new ≡ old) (GainsValue old (take n bytes) new)
    → TakesFront s (state_of p name old) bytes n (state_of p name new)
value_front s p name old new bytes n q f m =
    match_by (n == 0) _ _ m
    (λ z e. none_taken s (state_of p name old) (state_of p name new) bytes n (eqb-true n 0 z) (ap (state_of p name) e))
    (λ z g. record { fits = f; printed = plain_printed (take n bytes) g.plain; goes = some_value s p name q old new (take n bytes) (some_taken n bytes f z) g })

pub key_front : (s : Syntax) (p : TagPhase) (name : Chars) (old new : Pairs) (bytes : List ℕ) (n : ℕ) → opens_key p ≡ true → (n ≡ 0 → ⊥) → n ≤ length bytes → MatchBool (n == 0) (new ≡ old) (GainsKey old (take n bytes) new)
    → TakesFront s (state_of p name old) bytes n (state_of phase.Key name new)
key_front s p name old new bytes n q some f m =
    match_by (n == 0) _ _ m
    (λ z e. absurd (some (eqb-true n 0 z)))
    (λ z g. record { fits = f; printed = small_printed (take n bytes) g.small; goes = some_key s name p old new (take n bytes) q (some_taken n bytes f z) g })

pub name_front : (s : Syntax) (p : TagPhase) (name new : Chars) (pairs : Pairs) (bytes : List ℕ) (n : ℕ) → is_naming p ≡ true → (n ≡ 0 → ⊥) → n ≤ length bytes → MatchBool (n == 0) (new ≡ name) (GainsName name (take n bytes) new)
    → TakesFront s (state_of p name pairs) bytes n (state_of (after_letter p) new pairs)
name_front s p name new pairs bytes n q some f m =
    match_by (n == 0) _ _ m
    (λ z e. absurd (some (eqb-true n 0 z)))
    (λ z g. record { fits = f; printed = small_printed (take n bytes) g.small; goes = some_name s pairs p name new (take n bytes) q (some_taken n bytes f z) g })

-- one front after another
goes_then : (s : Syntax) (a b c : TagState) (xs ys : Chars) → GoesBy s a xs b → GoesBy s b ys c → GoesBy s a (xs ++ ys) c
goes_then s a b c [] ys g h = subst (λ (x : TagState). GoesBy s x ys c) g h
goes_then s a b c (x ∷ xs) ys g h = (g.0, g.1, goes_then s g.0 b c xs ys g.2 h)

pub takes_then : (s : Syntax) (a b c : TagState) (bytes : List ℕ) (i n : ℕ) → i ≤ length bytes → TakesFront s a bytes i b → TakesFront s b (take (length bytes - i) (drop i bytes)) n c → TakesFront s a bytes (i + n) c
takes_then s a b c bytes i n k f g =
    let more = subst (λ (x : List ℕ). TakesFront s b x n c) (take_rest bytes i) g in
    record {
      fits = omega (arith, k, more.fits, length-drop i bytes);
      printed = subst (λ (x : List ℕ). list_all is_printed x ≡ true) (sym (take-add i n bytes)) (list_all-append is_printed (take i bytes) (take n (drop i bytes)) ∙ and_from _ _ f.printed more.printed);
      goes = subst (λ (x : List ℕ). GoesBy s a x c) (sym (take-add i n bytes)) (goes_then s a b c (take i bytes) (take n (drop i bytes)) f.goes more.goes);
    }

pub takes_one : (s : Syntax) (a b c : TagState) (bytes : List ℕ) (i : ℕ) → i < length bytes → TakesFront s a bytes i b → is_printed (get_or bytes i 0) ≡ true → GoesTo s b (get_or bytes i 0) c → TakesFront s a bytes (i + 1) c
takes_one s a b c bytes i k f p g =
    let e = take_more bytes i 0 k in
    record {
      fits = omega (arith, k);
      printed = subst (λ (x : List ℕ). list_all is_printed x ≡ true) (sym e) (list_all-append is_printed (take i bytes) (get_or bytes i 0 ∷ []) ∙ and_from _ _ f.printed (and_from (is_printed (get_or bytes i 0)) true p refl));
      goes = subst (λ (x : List ℕ). GoesBy s a x c) (sym e) (goes_then s a b c (take i bytes) (get_or bytes i 0 ∷ []) f.goes (c, g, refl));
    }

-- what is taken is read, and ends no tag
pub goes_unfinished : (s : Syntax) (a b : TagState) (xs : Chars) → GoesBy s a xs b → is_last a.phase ≡ false → is_last b.phase ≡ false
goes_unfinished s a b [] g h = ap (λ (x : TagState). is_last x.phase) g ∙ h
goes_unfinished s a b (x ∷ xs) g h = goes_unfinished s g.0 b xs g.2 g.1.1

pub goes_read : (s : Syntax) (a b : TagState) (xs : Chars) → GoesBy s a xs b → tag_on s (meaning s) (Ok a) xs ≡ Ok b
goes_read s a b [] g = ap (λ (x : TagState). Ok x) (sym g)
goes_read s a b (x ∷ xs) g = ap (λ (r : Result TagState Kind). tag_on s (meaning s) r xs) g.1.0 ∙ goes_read s g.0 b xs g.2

pub may_step : (old new : TagSoFar) (bytes : List ℕ) (n : ℕ) → TakesMore old bytes n new → MayStep old → MayStep new
may_step old new bytes n t m =
    record { unfinished = goes_unfinished old.syntax old.state new.state (take n bytes) t.front.goes m.unfinished; unrefused = ap (λ (x : TagSoFar). x.refused) t.is ∙ m.unrefused }

pub none_same : (old new : TagSoFar) (bytes : List ℕ) (n : ℕ) → TakesMore old bytes n new → n ≡ 0 → new ≡ old
none_same old new bytes n t z =
    let e : new.state ≡ old.state = subst (λ (x : ℕ). GoesBy old.syntax old.state (take x bytes) new.state) z t.front.goes in
    t.is ∙ (λ i. record { syntax = old.syntax; state = e i; refused = old.refused })

-- the value, or the name, by what the buffer has
pub chosen : (n : ℕ) (P Q : Type 0) → (n ≡ 0 → ⊥) → Q → MatchBool (n == 0) P Q
chosen n P Q z q = subst (λ (b : Bool). MatchBool b P Q) (by_test {G = false ≡ (n == 0)} (n == 0) (λ t. absurd (z (eqb-true n 0 t))) (λ t. sym t)) q

gains : (p : RunPhase) (old new : AttributeReading) (front : Chars) → is_run p ≡ false → IsPendingRun p old.pending → list_all plain_in_quotes front ≡ true
    → new ≡ record { whole = old.whole; key = old.key; known = old.known ++ (old.pending ++ front); pending = [] } → GainsValue (pairs_read p old) front (pairs_read p new)
gains run.Plain old new front r k h e =
    record { plain = h; outside = refl; is = ap (pairs_read run.Plain) e ∙ ap (λ (x : Chars). valued (pairs_read run.Plain old) (old.known ++ (x ++ front))) k }
gains _ old new front r k h e = absurd (cc)

pub gains_value : (p : RunPhase) (old new : AttributeReading) (front : Chars) (n : ℕ) (P : Type 0) → (n ≡ 0 → ⊥) → is_run p ≡ false → IsPendingRun p old.pending → list_all plain_in_quotes front ≡ true
    → new ≡ record { whole = old.whole; key = old.key; known = old.known ++ (old.pending ++ front); pending = [] } → MatchBool (n == 0) P (GainsValue (pairs_read p old) front (pairs_read p new))
gains_value p old new front n P z r k h e = chosen n P _ z (gains p old new front r k h e)

pub stays_pending : (p : RunPhase) (old new : AttributeReading) (front : Chars) → is_run p ≡ false → new ≡ record { whole = old.whole; key = old.key; known = old.known ++ (old.pending ++ front); pending = [] } → IsPendingRun p new.pending
stays_pending run.Plain old new front r e = ap (λ (x : AttributeReading). x.pending) e
stays_pending _ old new front r e = absurd (cc)

pub gains_key : (p : RunPhase) (old new : AttributeReading) (front : Chars) (n : ℕ) (P : Type 0) → (n ≡ 0 → ⊥) → list_all is_small front ≡ true
    → new ≡ record { whole = old.whole; key = old.key ++ front; known = old.known; pending = old.pending } → MatchBool (n == 0) P (GainsKey (pairs_read p old) front (pairs_read p new))
gains_key p old new front n P z h e = chosen n P _ z (record { small = h; is = ap (pairs_read p) e })
