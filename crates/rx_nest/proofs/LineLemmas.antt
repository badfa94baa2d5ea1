-- What a tag does to the levels, it does to the open elements.
use Rattle.rx_nest.proofs.Common.{◌≡◌, ◌∙◌, ℕ, suc, ◌+◌, Bool, true, false, cond, List, [], ◌∷◌, ◌++◌, append_assoc, append-nil, refl, sym, ap, length, arith, ◌&&◌, not, Chars, by_test, Syntax, same, is_among, Place, is_html, enders, is_omissible, is_held, names_listed, has_row, Line, inside_of, parent_of, after_start, under_start, after_end, is_innermost, is_no_line, Event, ended_by_start, ended_under, ended_by_end, is_none_open, is_open_named, kept_at_start, ended_at_start, Sign, finished, sees, finishing, AreLevels, flags_of, StartTag, subst, if◌then◌else◌, finishes}
use Rattle.rx_nest.specs.Levels.{Level, Levels, row_at, place_under, name_under, ends_by, kept_levels, ended_count, one_if}

-- a row is kept where the name's start tag stands in content Html
pub names_row : (place : Place) (name : Chars) → names_listed (row_at place name) ≡ enders place name
names_row place name = by_test (is_html place.content) (λ t. rw t refl) (λ t. rw t refl)

pub has_row_at : (place : Place) (name : Chars) → has_row (row_at place name) ≡ is_omissible place name
has_row_at place name = by_test (is_html place.content) (λ t. rw t refl) (λ t. rw t refl)

module _ (syntax : Syntax) where
  -- what the levels say of the elements
  pub record AreSame (levels : Levels) (line : Line) : Type 0 where
    pub place : place_under levels ≡ inside_of syntax line
    pub name : name_under levels ≡ parent_of line
    pub size : length levels ≡ length line
    pub none : is_none_open levels ≡ is_no_line line
    pub named : (name : Chars) → is_open_named name levels ≡ is_innermost name line

  pub same_of : (levels : Levels) (line : Line) → AreLevels syntax levels line → AreSame levels line
  same_of [] [] h = record { place = refl; name = refl; size = refl; none = refl; named = λ name. refl }
  same_of (level ∷ levels) (t ∷ above) h = record { place = h.1; name = h.0; size = ap suc (same_of levels above h.4).size; none = refl; named = λ name. ap (λ n. same n name) h.0 }
  same_of _ _ h = elim h [ ]

  -- the tests of one element
  pub start_test : (name : Chars) (level : Level) (levels : Levels) (t : _) (above : Line) → AreLevels syntax (level ∷ levels) (t ∷ above) → ends_by false name level ≡ is_among (enders (inside_of syntax above) t.name) name
  start_test name level levels t above h = ap (λ row. is_among (names_listed row) name) h.2 ∙ ap (λ names. is_among names name) (names_row (inside_of syntax above) t.name)

  pub end_test : (name : Chars) (level : Level) (levels : Levels) (t : _) (above : Line) → AreLevels syntax (level ∷ levels) (t ∷ above)
      → ends_by true name level ≡ (is_omissible (inside_of syntax above) t.name && not (same t.name name) && not (is_held (parent_of above) t.name))
  end_test name level levels t above h = rw (h.0, h.2, h.3, has_row_at (inside_of syntax above) t.name) refl

pub ends_one : (shown : Bool) (n : ℕ) (signs : List Sign) → (signs ++ cond shown (finished ∷ []) []) ++ finishing n ≡ signs ++ finishing (one_if shown + n)
ends_one true n signs = let z : 1 + n ≡ suc n = omega arith in append_assoc signs (finished ∷ []) (finishing n) ∙ ap (λ m. signs ++ finishing m) (sym z)
ends_one false n signs = let z : 0 + n ≡ n = omega arith in ap (λ l. l ++ finishing n) (append-nil signs) ∙ ap (λ m. signs ++ finishing m) (sym z)

-- What a test of the levels ends, the same test of the elements does: these stay open, and this is what the ends show.
module _ (syntax : Syntax) (closing : Bool) (name : Chars) (after : Line → Line) (told : Line → List Event) (none : (after [] ≡ []) × (told [] ≡ []))
    (one : (level : Level) (levels : Levels) (t : StartTag) (above : Line) → AreLevels syntax (level ∷ levels) (t ∷ above)
    → (after (t ∷ above) ≡ (if ends_by closing name level then after above else t ∷ above)) × (told (t ∷ above) ≡ (if ends_by closing name level then finishes ∷ told above else []))) where
  all_kept : (levels : Levels) (line : Line) → AreLevels syntax levels line → AreLevels syntax (kept_levels (ends_by closing name) levels) (after line)
  all_kept [] [] h = subst (λ (x : Line). AreLevels syntax [] x) (sym none.0) h
  all_kept (level ∷ levels) (t ∷ above) h =
      subst (λ (x : Line). AreLevels syntax (kept_levels (ends_by closing name) (level ∷ levels)) x) (sym (one level levels t above h).0)
      (by_test (ends_by closing name level) (λ e. rw e (all_kept levels above h.4)) (λ e. rw e h))
  all_kept _ _ h = elim h [ ]

  all_seen : (levels : Levels) (line : Line) (signs : List Sign) (more : List Event) → AreLevels syntax levels line
      → sees (record { flags = flags_of levels; signs = signs }) (told line ++ more)
      ≡ sees (record { flags = flags_of (kept_levels (ends_by closing name) levels); signs = signs ++ finishing (ended_count (ends_by closing name) levels) }) more
  all_seen [] [] signs more h = ap (λ x. sees (record { flags = []; signs = signs }) (x ++ more)) none.1 ∙ ap (λ l. sees (record { flags = []; signs = l }) more) (sym (append-nil signs))
  all_seen (level ∷ levels) (t ∷ above) signs more h =
      ap (λ x. sees (record { flags = flags_of (level ∷ levels); signs = signs }) (x ++ more)) (one level levels t above h).1
      ∙ by_test (ends_by closing name level)
      (λ e. rw e
      (all_seen levels above (signs ++ cond level.shown (finished ∷ []) []) more h.4
      ∙ ap (λ l. sees (record { flags = flags_of (kept_levels (ends_by closing name) levels); signs = l }) more) (ends_one level.shown (ended_count (ends_by closing name) levels) signs)))
      (λ e. rw e (ap (λ l. sees (record { flags = flags_of (level ∷ levels); signs = l }) more) (sym (append-nil signs))))
  all_seen _ _ signs more h = elim h [ ]

module _ (syntax : Syntax) where
  start_one : (name : Chars) (level : Level) (levels : Levels) (t : StartTag) (above : Line) → AreLevels syntax (level ∷ levels) (t ∷ above)
      → (after_start syntax name (t ∷ above) ≡ (if ends_by false name level then after_start syntax name above else t ∷ above))
      × (ended_by_start syntax name (t ∷ above) ≡ (if ends_by false name level then finishes ∷ ended_by_start syntax name above else []))
  start_one name level levels t above h = rw (start_test syntax name level levels t above h) (refl, refl)

  end_one : (name : Chars) (level : Level) (levels : Levels) (t : StartTag) (above : Line) → AreLevels syntax (level ∷ levels) (t ∷ above)
      → (after_end syntax name (t ∷ above) ≡ (if ends_by true name level then after_end syntax name above else t ∷ above))
      × (ended_by_end syntax name (t ∷ above) ≡ (if ends_by true name level then finishes ∷ ended_by_end syntax name above else []))
  end_one name level levels t above h = rw (end_test syntax name level levels t above h) (refl, refl)

  pub end_kept : (name : Chars) (levels : Levels) (line : Line) → AreLevels syntax levels line → AreLevels syntax (kept_levels (ends_by true name) levels) (after_end syntax name line)
  end_kept name = all_kept syntax true name (after_end syntax name) (ended_by_end syntax name) (refl, refl) (end_one name)

  pub end_seen : (name : Chars) (levels : Levels) (line : Line) (signs : List Sign) (more : List Event) → AreLevels syntax levels line
      → sees (record { flags = flags_of levels; signs = signs }) (ended_by_end syntax name line ++ more)
      ≡ sees (record { flags = flags_of (kept_levels (ends_by true name) levels); signs = signs ++ finishing (ended_count (ends_by true name) levels) }) more
  end_seen name = all_seen syntax true name (after_end syntax name) (ended_by_end syntax name) (refl, refl) (end_one name)

  pub under_kept : (name : Chars) (levels : Levels) (line : Line) → AreLevels syntax levels line → AreLevels syntax (kept_at_start name levels) (under_start syntax name line)
  under_kept name levels line h =
      by_test (is_html (place_under levels).content)
      (λ e. rw (e, sym (ap (λ (p : Place). is_html p.content) (same_of syntax levels line h).place) ∙ e) (all_kept syntax false name (after_start syntax name) (ended_by_start syntax name) (refl, refl) (start_one name) levels line h))
      (λ e. rw (e, sym (ap (λ (p : Place). is_html p.content) (same_of syntax levels line h).place) ∙ e) h)

  pub under_seen : (name : Chars) (levels : Levels) (line : Line) (signs : List Sign) (more : List Event) → AreLevels syntax levels line
      → sees (record { flags = flags_of levels; signs = signs }) (ended_under syntax name line ++ more)
      ≡ sees (record { flags = flags_of (kept_at_start name levels); signs = signs ++ finishing (ended_at_start name levels) }) more
  under_seen name levels line signs more h =
      by_test (is_html (place_under levels).content)
      (λ e. rw (e, sym (ap (λ (p : Place). is_html p.content) (same_of syntax levels line h).place) ∙ e) (all_seen syntax false name (after_start syntax name) (ended_by_start syntax name) (refl, refl) (start_one name) levels line signs more h))
      (λ e. rw (e, sym (ap (λ (p : Place). is_html p.content) (same_of syntax levels line h).place) ∙ e)
      (ap (λ l. sees (record { flags = flags_of levels; signs = l }) more) (sym (append-nil signs))))
