-- A tag is taken as the tables of nesting say.
use Rattle.rx_nest.proofs.Common.{◌≡◌, ◌∙◌, ⊎_elim, ℕ, Bool, true, false, List, [], ◌∷◌, ◌++◌, append_assoc, append-nil, refl, sym, ap, subst, length, Option, Some, None, Result, Ok, Err, nat_le, ◌&&◌, ◌||◌, not, if◌then◌else◌, drop, Chars, by_test, Syntax, Tag, tag, Place, is_alone, hides, drops_line_feed, place_inside, StartTag, Item, start_tag_of, is_held, Line, inside_of, within, Rows, first_row, start_rows, end_rows, under_start, after_end, has_ended, is_before_root, Kind, TooDeep, NothingOpen, Mismatch, Nesting, Event, begins, finishes, Step, nest_step, step_by, unless_refused, over, line_above, ended_under, ended_by_end, begun_under, Lines, start_refusals, is_none_open, is_open_named, kept_at_start, ended_at_start, level_under, TagGives, GivesBy, is_room, StartTagBegins, own_of_end, EndTagEnds, Sign, begun, finished, Flags, Sight, sees, finishing, is_hidden, AreLevels, Follows, flags_of, phase_at, own_signs, own_tag, tag_by, ap₂}
use Rattle.std.specs.Option.{option_or}
use Rattle.rx_nest.specs.declared.lines.TagEffect.{TagEffect}
use Rattle.rx_nest.specs.declared.lines.Refused.{Refused}
use Rattle.rx_nest.specs.declared.lines.Refused.TheVariants.{Fault, NoMemory}
use Rattle.rx_nest.specs.declared.lines.TagAction.{TagAction}
use Rattle.rx_nest.specs.declared.lines.TagAction.TheVariants.{Alone, Begin, Nothing}
use Rattle.rx_nest.specs.Levels.{Levels, row_at, place_under, hidden_under, ends_by, kept_levels, ended_count}
use Rattle.rx_nest.proofs.LineLemmas.{same_of, under_kept, under_seen, end_kept, end_seen}
use Rattle.rx_nest.proofs.TreeSeen.{over_line}

rows_append : (rows more : Rows) → first_row (rows ++ more) ≡ option_or (first_row rows) (first_row more)
rows_append [] more = refl
rows_append (r ∷ rows) more = by_test r.0 (λ e. rw e refl) (λ e. rw e (rows_append rows more))

-- the phase is told by what is kept
ended_is : (b : Bool) (levels : Levels) (stood : Bool) → has_ended (phase_at b levels stood) ≡ (b && is_none_open levels)
ended_is true (level ∷ levels) stood = refl
ended_is _ _ stood = refl

before_is : (b : Bool) (levels : Levels) (stood : Bool) → is_before_root (phase_at b levels stood) ≡ not b
before_is true (level ∷ levels) stood = refl
before_is _ _ stood = refl

abbrev row_by : Option Kind → Bool → Option Kind
row_by first room = option_or first (if room then None else Some TooDeep)

module _ (l : Lines) (n : Nesting) (f : Follows l n) where
  pub refusals_are : (t : Tag) → start_rows l.syntax l.depth n.line n.phase t ≡ start_refusals l t ++ (nat_le l.depth (length (kept_at_start t.name l.levels)), TooDeep) ∷ []
  refusals_are t =
      rw (
        f.phase_is,
        ended_is l.begun l.levels f.stood,
        before_is l.begun l.levels f.stood,
        sym (same_of l.syntax (kept_at_start t.name l.levels) (under_start l.syntax t.name n.line) (under_kept l.syntax t.name l.levels n.line f.levels_are)).size,
        sym (same_of l.syntax l.levels n.line f.levels_are).place,
      ) refl

  -- the first row that refuses a start tag
  start_row : (t : Tag) → first_row (start_rows l.syntax l.depth n.line n.phase t) ≡ row_by (first_row (start_refusals l t)) (is_room l t)
  start_row t =
      ap first_row (refusals_are t) ∙ (rows_append (start_refusals l t) ((nat_le l.depth (length (kept_at_start t.name l.levels)), TooDeep) ∷ [])
      ∙ by_test (nat_le l.depth (length (kept_at_start t.name l.levels))) (λ e. rw e refl) (λ e. rw e refl))

  -- an end tag
  pub end_refusals_are : (t : Tag) → end_rows l.syntax n.line t ≡ (is_none_open l.levels, NothingOpen) ∷ (not (is_open_named t.name (kept_levels (ends_by true t.name) l.levels)), Mismatch) ∷ []
  end_refusals_are t =
      rw (
        sym (same_of l.syntax l.levels n.line f.levels_are).none,
        sym ((same_of l.syntax (kept_levels (ends_by true t.name) l.levels) (after_end l.syntax t.name n.line) (end_kept l.syntax t.name l.levels n.line f.levels_are)).named t.name),
      ) refl

-- a tag's step, by whether it is an end tag and by the row that refuses it
abbrev end_step : Syntax → Nesting → Tag → Step
end_step syntax n t = record { next = over (line_above (after_end syntax t.name n.line)); events = ended_by_end syntax t.name n.line ++ finishes ∷ [] }

abbrev begun_step : Syntax → Nesting → Item → Tag → Step
begun_step syntax n item t = begun_under syntax item t (under_start syntax t.name n.line) (ended_under syntax t.name n.line)

tag_is : (syntax : Syntax) (depth : ℕ) (n : Nesting) (item : Item) (t : Tag) (closing : Bool) (row : Option Kind) → item.token ≡ tag t → t.closing ≡ closing
    → first_row (if closing then end_rows syntax n.line t else start_rows syntax depth n.line n.phase t) ≡ row → nest_step syntax depth n item ≡ unless_refused row (if closing then end_step syntax n t else begun_step syntax n item t)
tag_is syntax depth n item t closing row is_tag is h =
    ap (λ token. step_by syntax depth n item token) is_tag
    ∙ (ap (λ b. unless_refused (first_row (if b then end_rows syntax n.line t else start_rows syntax depth n.line n.phase t)) (if b then end_step syntax n t else begun_step syntax n item t)) is
    ∙ ap (λ r. unless_refused r (if closing then end_step syntax n t else begun_step syntax n item t)) h)

-- what a tag leads to and shows
pub record Taken (l : Lines) (n : Nesting) (item : Item) (told : TagEffect) (new : Lines) : Type 0 where
  pub step : Step
  pub is_step : nest_step l.syntax l.depth n item ≡ Ok step
  pub follows : Follows new step.next
  pub drops_is : step.next.drops ≡ told.drops
  pub seen : (signs : List Sign) → sees (record { flags = flags_of l.levels; signs = signs }) step.events ≡ record { flags = flags_of new.levels; signs = (signs ++ finishing told.ends) ++ own_signs told.own (own_tag item) }

-- the phase after an element that is its start tag alone
over_phase : (syntax : Syntax) (levels : Levels) (line : Line) (stood : Bool) → AreLevels syntax levels line → (over line).phase ≡ phase_at true levels stood
over_phase syntax [] (t ∷ above) stood h = elim h [ ]
over_phase syntax (level ∷ levels) [] stood h = elim h [ ]
over_phase syntax _ _ stood h = refl

over_drops : (line : Line) → (over line).drops ≡ false
over_drops [] = refl
over_drops (t ∷ above) = refl

pub hidden_flags : (levels : Levels) → is_hidden (flags_of levels) ≡ hidden_under levels
hidden_flags [] = refl
hidden_flags (level ∷ levels) = refl

module _ (flags : Flags) (signs : List Sign) (s : StartTag) (h : Bool) where
  abbrev alone_seen : Bool → Sight
  alone_seen hidden = sees (if hidden then record { flags = (false, true) ∷ flags; signs = signs } else record { flags = (true, h) ∷ flags; signs = signs ++ begun s ∷ [] }) (finishes ∷ [])

  alone_shows : (hidden : Bool) → alone_seen hidden ≡ record { flags = flags; signs = signs ++ own_signs (if hidden then Nothing else Alone) s }
  alone_shows true = refl
  alone_shows false = ap (λ l. record { flags = flags; signs = l }) (append_assoc signs (begun s ∷ []) (finished ∷ []))

  begin_shows : (hidden : Bool) → sees (if hidden then record { flags = (false, true) ∷ flags; signs = signs } else record { flags = (true, h) ∷ flags; signs = signs ++ begun s ∷ [] }) []
      ≡ record { flags = (not hidden, hidden || h) ∷ flags; signs = signs ++ own_signs (if hidden then Nothing else Begin) s }
  begin_shows true = ap (λ l. record { flags = (false, true) ∷ flags; signs = l }) (sym (append-nil signs))
  begin_shows false = refl

-- what the levels and the elements become
abbrev next_of : Syntax → Line → Item → Tag → Bool → Nesting
next_of syntax line item t alone = if alone then over line else record { line = start_tag_of item t ∷ line; phase = within; drops = drops_line_feed (inside_of syntax line) t }

abbrev events_of : Syntax → Line → Item → Tag → Bool → List Event
events_of syntax line item t alone = if alone then begins (start_tag_of item t) (hides (inside_of syntax line) t) ∷ finishes ∷ [] else begins (start_tag_of item t) (hides (inside_of syntax line) t) ∷ []

abbrev levels_of : Syntax → Levels → Tag → Bool → Levels
levels_of syntax levels t alone = if alone then levels else level_under syntax t levels ∷ levels

-- the step of a start tag, by whether it is the whole element
module _ (syntax : Syntax) (depth : ℕ) (n : Nesting) (item : Item) (t : Tag) (is_tag : item.token ≡ tag t) (is_start : t.closing ≡ false) where
  abbrev line : Line
  line = under_start syntax t.name n.line

  abbrev start_step : Bool → Step
  start_step alone = record { next = next_of syntax line item t alone; events = ended_under syntax t.name n.line ++ events_of syntax line item t alone }

  pub start_steps : first_row (start_rows syntax depth n.line n.phase t) ≡ None → nest_step syntax depth n item ≡ Ok (start_step (is_alone syntax (inside_of syntax line) t))
  start_steps h =
      tag_is syntax depth n item t false None is_tag is_start h
      ∙ ap (λ (step : Step). unless_refused None step) (by_test {G = begun_step syntax n item t ≡ start_step (is_alone syntax (inside_of syntax line) t)} (is_alone syntax (inside_of syntax line) t) (λ e. rw e refl) (λ e. rw e refl))

module _ (syntax : Syntax) (levels : Levels) (line : Line) (item : Item) (t : Tag) (stood : Bool) (are : AreLevels syntax levels line) where
  next_levels : (alone : Bool) → AreLevels syntax (levels_of syntax levels t alone) (next_of syntax line item t alone).line
  next_levels true = subst (λ (x : Line). AreLevels syntax levels x) (sym (over_line line)) are
  next_levels false = (
    refl,
    ap (λ (p : Place). place_inside syntax p t.name) (same_of syntax levels line are).place,
    ap (λ (p : Place). row_at p t.name) (same_of syntax levels line are).place,
    ap (λ name. is_held name t.name) (same_of syntax levels line are).name,
    are,
  )

  next_phase : (alone : Bool) → (next_of syntax line item t alone).phase ≡ phase_at true (levels_of syntax levels t alone) stood
  next_phase true = over_phase syntax levels line stood are
  next_phase false = refl

  next_drops : (alone : Bool) → (next_of syntax line item t alone).drops ≡ (not alone && drops_line_feed (place_under levels) t)
  next_drops true = over_drops line
  next_drops false = ap (λ (p : Place). drops_line_feed p t) (sym (same_of syntax levels line are).place)

  -- and what is shown
  abbrev own_of : Bool → TagAction
  own_of alone = if hidden_under levels then Nothing else if alone then Alone else Begin

  next_seen : (alone : Bool) (signs : List Sign) → sees (record { flags = flags_of levels; signs = signs }) (events_of syntax line item t alone) ≡ record { flags = flags_of (levels_of syntax levels t alone); signs = signs ++ own_signs (own_of alone) (start_tag_of item t) }
  next_seen true signs =
      ap (λ b. alone_seen (flags_of levels) signs (start_tag_of item t) (hides (inside_of syntax line) t) b) (hidden_flags levels)
      ∙ alone_shows (flags_of levels) signs (start_tag_of item t) (hides (inside_of syntax line) t) (hidden_under levels)
  next_seen false signs =
      ap (λ b. sees (if b then record { flags = (false, true) ∷ flags_of levels; signs = signs } else record { flags = (true, hides (inside_of syntax line) t) ∷ flags_of levels; signs = signs ++ begun (start_tag_of item t) ∷ [] }) []) (hidden_flags levels)
      ∙ (begin_shows (flags_of levels) signs (start_tag_of item t) (hides (inside_of syntax line) t) (hidden_under levels)
      ∙ ap (λ (p : Place). record { flags = (not (hidden_under levels), hidden_under levels || hides p t) ∷ flags_of levels; signs = signs ++ own_signs (if hidden_under levels then Nothing else Begin) (start_tag_of item t) }) (sym (same_of syntax levels line are).place))

-- a start tag is taken
pub start_taken : (l new : Lines) (n : Nesting) (item : Item) (t : Tag) (told : TagEffect) → Follows l n → item.token ≡ tag t → t.closing ≡ false → StartTagBegins l t told new → Taken l n item told new
start_taken l new n item t told f is_tag is_start b =
    let ls : Levels = kept_at_start t.name l.levels in
    let line : Line = under_start l.syntax t.name n.line in
    let are : AreLevels l.syntax ls line = under_kept l.syntax t.name l.levels n.line f.levels_are in
    let alone : Bool = is_alone l.syntax (inside_of l.syntax line) t in
    let same_alone : is_alone l.syntax (place_under ls) t ≡ alone = ap (λ (p : Place). is_alone l.syntax p t) (same_of l.syntax ls line are).place in
    let becomes : Bool → Lines = λ a. record { syntax = l.syntax; depth = l.depth; begun = true; levels = levels_of l.syntax ls t a } in
    let is : new ≡ becomes alone = b.becomes ∙ ap becomes same_alone in
    let own : told.own ≡ own_of l.syntax ls line item t f.stood are alone = b.own ∙ ap (λ a. own_of l.syntax ls line item t f.stood are a) same_alone in
    let tag_is : own_tag item ≡ start_tag_of item t = ap (λ token. tag_by item token) is_tag in
    record {
      step = start_step l.syntax l.depth n item t is_tag is_start alone;
      is_step = start_steps l.syntax l.depth n item t is_tag is_start (start_row l n f t ∙ ap₂ row_by b.allowed b.room);
      follows =
          subst (λ (x : Lines). Follows x (start_step l.syntax l.depth n item t is_tag is_start alone).next) (sym is)
          (record { levels_are = next_levels l.syntax ls line item t f.stood are alone; stood = f.stood; phase_is = next_phase l.syntax ls line item t f.stood are alone; none_yet = λ e. absurd (cc) });
      drops_is =
          next_drops l.syntax ls line item t f.stood are alone ∙ (ap (λ a. not a && drops_line_feed (place_under ls) t) (sym same_alone) ∙ sym b.drops);
      seen = λ signs.
          under_seen l.syntax t.name l.levels n.line signs (events_of l.syntax line item t alone) f.levels_are
          ∙ (next_seen l.syntax ls line item t f.stood are alone (signs ++ finishing (ended_at_start t.name l.levels))
          ∙ (ap (λ k. record { flags = flags_of (levels_of l.syntax ls t alone); signs = (signs ++ finishing k) ++ own_signs (own_of l.syntax ls line item t f.stood are alone) (start_tag_of item t) }) (sym b.ends)
          ∙ (ap (λ o. record { flags = flags_of (levels_of l.syntax ls t alone); signs = (signs ++ finishing told.ends) ++ own_signs o (start_tag_of item t) }) (sym own)
          ∙ (ap (λ (s : StartTag). record { flags = flags_of (levels_of l.syntax ls t alone); signs = (signs ++ finishing told.ends) ++ own_signs told.own s }) (sym tag_is)
          ∙ ap (λ (x : Lines). record { flags = flags_of x.levels; signs = (signs ++ finishing told.ends) ++ own_signs told.own (own_tag item) }) (sym is)))));
    }

-- an end tag is taken
above_levels : (syntax : Syntax) (levels : Levels) (line : Line) → AreLevels syntax levels line → AreLevels syntax (drop 1 levels) (line_above line)
above_levels syntax [] [] h = h
above_levels syntax (level ∷ levels) (t ∷ above) h = h.4
above_levels syntax _ _ h = elim h [ ]

end_shows : (name : Chars) (levels : Levels) (signs : List Sign) (s : StartTag) → is_open_named name levels ≡ true
    → sees (record { flags = flags_of levels; signs = signs }) (finishes ∷ []) ≡ record { flags = flags_of (drop 1 levels); signs = signs ++ own_signs (own_of_end levels) s }
end_shows name [] signs s h = absurd (cc)
end_shows name (level ∷ levels) signs s h = by_test level.shown (λ e. rw e refl) (λ e. rw e refl)

pub has_begun : (l : Lines) (n : Nesting) → Follows l n → is_none_open l.levels ≡ false → l.begun ≡ true
has_begun l n f h = by_test l.begun (λ e. e) (λ e. absurd (let w : true ≡ false = sym (ap is_none_open (f.none_yet e)) ∙ h in cc))

pub end_taken : (l new : Lines) (n : Nesting) (item : Item) (t : Tag) (told : TagEffect) → Follows l n → item.token ≡ tag t → t.closing ≡ true → EndTagEnds l t told new → Taken l n item told new
end_taken l new n item t told f is_tag is_end b =
    let ls : Levels = kept_levels (ends_by true t.name) l.levels in
    let line : Line = after_end l.syntax t.name n.line in
    let are : AreLevels l.syntax ls line = end_kept l.syntax t.name l.levels n.line f.levels_are in
    let above : AreLevels l.syntax (drop 1 ls) (line_above line) = above_levels l.syntax ls line are in
    let begun_is : l.begun ≡ true = has_begun l n f b.there in
    let passes : first_row (end_rows l.syntax n.line t) ≡ None = ap first_row (end_refusals_are l n f t) ∙ rw (b.there, b.named) refl in
    record {
      step = end_step l.syntax n t;
      is_step = tag_is l.syntax l.depth n item t true None is_tag is_end passes;
      follows =
          subst (λ (x : Lines). Follows x (over (line_above line))) (sym b.becomes)
          (record {
            levels_are = subst (λ (x : Line). AreLevels l.syntax (drop 1 ls) x) (sym (over_line (line_above line))) above;
            stood = f.stood;
            phase_is = over_phase l.syntax (drop 1 ls) (line_above line) f.stood above ∙ ap (λ x. phase_at x (drop 1 ls) f.stood) (sym begun_is);
            none_yet = λ e. absurd (let w : true ≡ false = sym begun_is ∙ e in cc);
          });
      drops_is = over_drops (line_above line) ∙ sym b.drops;
      seen = λ signs.
          end_seen l.syntax t.name l.levels n.line signs (finishes ∷ []) f.levels_are
          ∙ (end_shows t.name ls (signs ++ finishing (ended_count (ends_by true t.name) l.levels)) (own_tag item) b.named
          ∙ (ap (λ k. record { flags = flags_of (drop 1 ls); signs = (signs ++ finishing k) ++ own_signs (own_of_end ls) (own_tag item) }) (sym b.ends)
          ∙ (ap (λ o. record { flags = flags_of (drop 1 ls); signs = (signs ++ finishing told.ends) ++ own_signs o (own_tag item) }) (sym b.own)
          ∙ ap (λ (x : Lines). record { flags = flags_of x.levels; signs = (signs ++ finishing told.ends) ++ own_signs told.own (own_tag item) }) (sym b.becomes))));
    }

-- what a tag's answer says of the tables of nesting
abbrev pub TagSteps : Lines → Nesting → Item → Result TagEffect Refused → Lines → Type 0
TagSteps l n item (Ok told) new = Taken l n item told new
TagSteps l n item (Err (Fault kind)) new = nest_step l.syntax l.depth n item ≡ Err kind
TagSteps l n item (Err NoMemory) new = Unit {0}

pub tag_steps : (l new : Lines) (n : Nesting) (item : Item) (t : Tag) (result : Result TagEffect Refused) → Follows l n → item.token ≡ tag t → TagGives l t result new → TagSteps l n item result new
tag_steps l new n item t result f is_tag gives = go t.closing refl result gives
  where
    go : (closing : Bool) → t.closing ≡ closing → (result : Result TagEffect Refused) → GivesBy closing l t result new → TagSteps l n item result new
    go true e (Ok told) g = end_taken l new n item t told f is_tag e g
    go true e (Err (Fault kind)) g =
        ⊎_elim
        (λ w. tag_is l.syntax l.depth n item t true (Some kind) is_tag e (ap first_row (end_refusals_are l n f t) ∙ rw (w.0, w.1) refl))
        (λ w. tag_is l.syntax l.depth n item t true (Some kind) is_tag e (ap first_row (end_refusals_are l n f t) ∙ rw (w.0, w.1, w.2) refl))
        g.0
    go true e (Err NoMemory) g = tt
    go false e (Ok told) g = start_taken l new n item t told f is_tag e g
    go false e (Err (Fault kind)) g =
        ⊎_elim
        (λ w. tag_is l.syntax l.depth n item t false (Some kind) is_tag e (start_row l n f t ∙ ap (λ o. row_by o (is_room l t)) w))
        (λ w. tag_is l.syntax l.depth n item t false (Some kind) is_tag e (start_row l n f t ∙ (ap₂ row_by w.0 w.1 ∙ ap (λ k. Some k) (sym w.2))))
        g.0
    go false e (Err NoMemory) g = tt
