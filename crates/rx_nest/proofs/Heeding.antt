-- What the scanner tells, and the elements take, is what the page's bytes lead to.
use Rattle.rx_nest.proofs.Common.{◌≡◌, ◌∙◌, ℕ, zero, suc, ◌+◌, Bool, true, false, List, [], ◌∷◌, ◌++◌, refl, sym, ap, subst, append_assoc, append-nil, Some, Result, Ok, Err, ◌&&◌, not, if◌then◌else◌, map, take, slice_get, Chars, Syntax, doctype, tag, Item, Line, inside_of, Phase, before, Fault, Kind, Limits, Event, Nesting, Step, content_at, doctype_step, step_by, nest_step, Spot, spot_of, Scanning, Scanned, scan_from, read_byte, is_none_left, may_lead, steps_on, with_events, telling, no_step, progress_of, page_on, page_read, no_progress, IsKept, is_kept, page_scan, page_append, page_last, page_byte_fault, from_there, LastByte, last_byte, tag_seen, Setting, Scanner, HasMark, mark_bytes, ends_leading, setting_behind, Faults, Lines, says_text, is_none_open, Levels, hidden_under, Sign, said, is_hidden, sees, AreLevels, Follows, flags_of, phase_at, StopsInPiece, At, setting_of, heard_signs}
use Rattle.rx_grammar.specs.Tokens as tokens
use Rattle.rx_pages.proofs.Doctyped.{OneByte, one_byte, byte_leads}
use Rattle.rx_pages.proofs.Leads.{scan_same}
use Rattle.rx_tags.specs.declared.tags.Tag.{Tag}
use Rattle.rx_scan.specs.declared.answers.Token.{Token}
use Rattle.rx_scan.specs.declared.answers.Token.TheVariants as token
use Rattle.rx_scan.specs.Steps as scan
use Rattle.rx_nest.specs.declared.tree_tokens.TreeToken.{TreeToken}
use Rattle.rx_nest.proofs.Takes.{hidden_flags}
use Rattle.rx_nest.proofs.TextSteps.{said_by, Quiet}

pub byte_at : (n : ℕ) (xs : List ℕ) (byte : ℕ) → slice_get xs n ≡ Some byte → (rest : List ℕ) × (xs ≡ take n xs ++ byte ∷ rest)
byte_at n [] byte h = absurd (cc)
byte_at zero (x ∷ xs) byte h = let e : x ≡ byte = cc in (xs, ap (λ y. y ∷ xs) e)
byte_at (suc n) (x ∷ xs) byte h = let r = byte_at n xs byte h in (r.0, ap (λ y. x ∷ y) r.1)

module _ (syntax : Syntax) (limits : Limits) (bytes : List ℕ) (told : List Event) (v : Scanner) (line : Lines) (at : At syntax limits bytes told v line) where
  abbrev nest : Nesting
  nest = at.now.nest

  abbrev s : Scanning
  s = at.now.scan

  abbrev spot : Spot
  spot = spot_of syntax nest

  -- what the page's bytes lead to, by what they lead to from here
  page_from : (xs : List ℕ) → page_read syntax limits (bytes ++ xs) ≡ page_on syntax limits (from_there syntax limits spot s nest told) xs
  page_from xs = page_append syntax limits spot (Ok no_progress) bytes xs ∙ ap (λ x. page_on syntax limits x xs) at.read

  -- the scanner's spot is the page's
  abbrev scan_by : Setting → List ℕ → Result Scanned Fault
  scan_by setting xs = scan_from setting.syntax setting.limits (record { inside = setting.inside; leads = setting.leads }) s xs

  pub scan_is : (xs : List ℕ) → scan_by v.reading.setting xs ≡ scan_from syntax limits spot s xs
  scan_is xs = ap (λ (x : Setting). scan_by x xs) at.setting

  -- bytes that complete no token tell nothing
  pub quiet_front : (front : List ℕ) (next : Scanning) → scan_from syntax limits spot s front ≡ Ok (record { next = next; items = [] })
      → page_read syntax limits (bytes ++ front) ≡ Ok (record { now = record { scan = next; nest = nest }; told = told })
  quiet_front front next h =
      let p = page_scan syntax limits spot front s nest told next [] h refl in
      let none : p.step ≡ no_step nest = (let w : Ok (no_step nest) ≡ Ok p.step = p.is_step in cc) in
      page_from front ∙ (p.read ∙ (ap (λ (z : Step). from_there syntax limits spot next z.next (told ++ z.events)) none ∙ ap (λ z. from_there syntax limits spot next nest z) (append-nil told)))

  -- a fault of the scanner
  pub scan_fails : (piece : List ℕ) (fault : Fault) → Faults v.reading s piece fault → StopsInPiece syntax limits bytes told piece fault
  scan_fails piece fault f =
      let b = byte_at f.n piece f.byte f.here in
      let quiet = quiet_front (take f.n piece) f.next (sym (scan_is (take f.n piece)) ∙ f.read) in
      let decides : read_byte syntax limits spot f.byte f.next ≡ Err fault.kind = subst (λ (x : Setting). read_byte x.syntax x.limits (record { inside = x.inside; leads = x.leads }) f.byte f.next ≡ Err fault.kind) at.setting f.decides in
      record {
        front = take f.n piece;
        byte = f.byte;
        rest = b.0;
        are = b.1;
        now = record { scan = f.next; nest = nest };
        read = quiet;
        before = record {
          before = record { now = at.now; told = told };
          read = at.read;
          next = f.next;
          items = [];
          completed = sym (scan_is (take f.n piece)) ∙ f.read;
          are = refl;
          mark = λ rest m. absurd (f.unmarked rest m);
        };
        here =
            ap (λ x. page_read syntax limits x) (sym (append_assoc bytes (take f.n piece) (f.byte ∷ [])))
            ∙ (page_append syntax limits spot (Ok no_progress) (bytes ++ take f.n piece) (f.byte ∷ [])
            ∙ (ap (λ x. page_on syntax limits x (f.byte ∷ [])) quiet
            ∙ (page_byte_fault syntax limits spot f.next nest told f.byte fault.kind refl decides ∙ ap (λ x. Err x) (sym f.is))));
      }

  -- the setting where the elements stay
  abbrev setting_by : Line → Phase → Bool → Setting
  setting_by l p d = record { syntax = syntax; limits = limits; inside = (inside_of syntax l).content; leads = may_lead p; drops = d }

  setting_same : (m : Nesting) (d : Bool) → m.line ≡ nest.line → m.phase ≡ nest.phase → m.drops ≡ d → setting_by nest.line nest.phase d ≡ setting_of syntax limits m
  setting_same m d l p e = ap (λ x. setting_by x nest.phase d) (sym l) ∙ (ap (λ x. setting_by m.line x d) (sym p) ∙ ap (λ x. setting_by m.line m.phase x) (sym e))

  pub behind_is : (t : Token) (items : List Item) → ends_leading t ≡ false → setting_behind t v.reading.setting items ≡ setting_by nest.line nest.phase (if is_none_left items then nest.drops else false)
  behind_is t items h = ap (λ (x : Setting). setting_behind t x items) at.setting ∙ by items
    where
      by : (items : List Item) → setting_behind t (setting_of syntax limits nest) items ≡ setting_by nest.line nest.phase (if is_none_left items then nest.drops else false)
      by [] = ap (λ b. record { syntax = syntax; limits = limits; inside = content_at syntax nest; leads = if b then false else may_lead nest.phase; drops = nest.drops }) h
      by (item ∷ items) = ap (λ b. record { syntax = syntax; limits = limits; inside = content_at syntax nest; leads = if b then false else may_lead nest.phase; drops = false }) h

  follows_same : (m : Nesting) → m.line ≡ nest.line → m.phase ≡ nest.phase → Follows line m
  follows_same m l p = record { levels_are = subst (λ (x : Line). AreLevels line.syntax line.levels x) (sym l) at.follows.levels_are; stood = at.follows.stood; phase_is = p ∙ at.follows.phase_is; none_yet = at.follows.none_yet }

  module _ (xs : List ℕ) (mid : Scanner) (next : Scanning) (items : List Item) (reads : scan_from syntax limits spot s xs ≡ Ok (record { next = next; items = items })) (stands : scan.ScanStands mid next) where
    -- tokens that leave the elements as they are
    module _ (shown : Bool → List Sign) (q : Quiet syntax limits spot nest items shown) where
      pub quiet_at : mid.reading.setting ≡ setting_by nest.line nest.phase (if is_none_left items then nest.drops else false) → At syntax limits (bytes ++ xs) (told ++ q.step.events) mid line
      quiet_at e =
          let p = page_scan syntax limits spot xs s nest told next items reads q.stays in
          let same : p.step ≡ q.step = (let w : Ok p.step ≡ Ok q.step = sym p.is_step ∙ q.is_step in cc) in
          record {
            now = record { scan = next; nest = q.step.next };
            read = page_from xs ∙ (p.read ∙ ap (λ (z : Step). from_there syntax limits spot next z.next (told ++ z.events)) same);
            stands = stands;
            setting = e ∙ setting_same q.step.next (if is_none_left items then nest.drops else false) q.line q.phase q.drops;
            follows = follows_same q.step.next q.line q.phase;
            syntax_is = at.syntax_is;
            depth_is = at.depth_is;
          }

      pub quiet_shows : (h : TreeToken) → shown (is_hidden (flags_of line.levels)) ≡ heard_signs h mid → (signs : List Sign) → sees (record { flags = flags_of line.levels; signs = signs }) q.step.events ≡ record { flags = flags_of line.levels; signs = signs ++ heard_signs h mid }
      quiet_shows h e signs = q.shows (flags_of line.levels) signs ∙ ap (λ x. record { flags = flags_of line.levels; signs = signs ++ x }) e

  -- text shows where an element is open that doesn't hide it
  pub said_is : (text : Chars) → said_by nest.phase (is_hidden (flags_of line.levels)) text ≡ (if says_text line then map said text else [])
  said_is text = ap (λ p. said_by p (is_hidden (flags_of line.levels)) text) at.follows.phase_is ∙ (ap (λ b. said_by (phase_at line.begun line.levels at.follows.stood) b text) (hidden_flags line.levels) ∙ by line.begun line.levels refl refl)
    where
      by : (b : Bool) (levels : Levels) → line.begun ≡ b → line.levels ≡ levels → said_by (phase_at b levels at.follows.stood) (hidden_under levels) text ≡ (if not (is_none_open levels) && not (hidden_under levels) then map said text else [])
      by true [] e l = refl
      by true (level ∷ levels) e l = hides (hidden_under (level ∷ levels))
        where
          hides : (h : Bool) → (if h then [] else map said text) ≡ (if not h then map said text else [])
          hides true = refl
          hides false = refl
      by false [] e l = refl
      by false (level ∷ levels) e l = absurd (let w : [] ≡ level ∷ levels = sym (at.follows.none_yet e) ∙ l in cc)

  -- what the page's bytes lead to
  pub record Leads (xs : List ℕ) (next : Scanning) (step : Step) : Type 0 where
    pub page : page_read syntax limits (bytes ++ xs) ≡ Ok (record { now = record { scan = next; nest = step.next }; told = told ++ step.events })

  module _ (xs : List ℕ) (next : Scanning) (item : Item) (reads : scan_from syntax limits spot s xs ≡ Ok (record { next = next; items = item ∷ [] })) where
    one_step_on : (x : Result Step Kind) → nest_step syntax limits.depth nest item ≡ x → steps_on syntax limits.depth (Ok (no_step nest)) (item ∷ []) ≡ x
    one_step_on (Ok step) h = ap (λ y. with_events [] y) h
    one_step_on (Err kind) h = ap (λ y. with_events [] y) h

    -- the document type, which may come
    module _ (is : item.token ≡ doctype) where
      abbrev o : OneByte syntax limits spot s xs next item
      o = one_byte syntax limits spot xs s next item reads

      lead_phase : (p : Phase) → may_lead p ≡ true → p ≡ before false
      lead_phase (before false) h = refl
      lead_phase _ h = absurd (cc)

      phase_is : nest.phase ≡ before false
      phase_is = let b = o in lead_phase nest.phase (byte_leads syntax limits spot b.byte b.before (record { next = b.after; items = item ∷ [] }) item [] b.completes refl is)

      begun_is : line.begun ≡ false
      begun_is = by line.begun line.levels refl refl (sym at.follows.phase_is ∙ phase_is)
        where
          by : (b : Bool) (levels : Levels) → line.begun ≡ b → line.levels ≡ levels → phase_at b levels at.follows.stood ≡ before false → line.begun ≡ false
          by true [] e l h = absurd (cc)
          by true (level ∷ levels) e l h = absurd (cc)
          by false levels e l h = e

      line_is : nest.line ≡ []
      line_is = by nest.line (subst (λ x. AreLevels line.syntax x nest.line) (at.follows.none_yet begun_is) at.follows.levels_are)
        where
          by : (l : Line) → AreLevels line.syntax [] l → l ≡ []
          by [] h = refl
          by (t ∷ above) h = elim h [ ]

      abbrev doctype_next : Step
      doctype_next = record { next = record { line = []; phase = before true; drops = false }; events = [] }

      pub doctype_leads : Leads xs next doctype_next
      doctype_leads =
          let b = o in
          let spots : record { inside = content_at syntax nest; leads = false } ≡ spot_of syntax doctype_next.next = ap (λ (l : Line). record { inside = (inside_of syntax l).content; leads = false }) line_is in
          let behind = scan_same syntax limits (content_at syntax nest) (may_lead nest.phase) false b.rest b.after next b.behind in
          let p = page_scan syntax limits (record { inside = content_at syntax nest; leads = false }) b.rest b.after doctype_next.next (told ++ []) next [] behind (sym spots) in
          let none : p.step ≡ no_step doctype_next.next = (let w : Ok (no_step doctype_next.next) ≡ Ok p.step = p.is_step in cc) in
          record {
            page =
                page_from xs
                ∙ (ap (λ x. page_on syntax limits (from_there syntax limits spot s nest told) x) (b.are ∙ sym (append_assoc b.front (b.byte ∷ []) b.rest))
                ∙ (page_append syntax limits spot (from_there syntax limits spot s nest told) (b.front ++ b.byte ∷ []) b.rest
                ∙ (ap (λ x. page_on syntax limits x b.rest) (page_last syntax limits spot s nest told b.front b.byte b.before (record { next = b.after; items = item ∷ [] }) (Ok doctype_next) refl b.reads b.completes (one_step_on (Ok doctype_next) (ap (λ t. step_by syntax limits.depth nest item t) is ∙ ap doctype_step phase_is)))
                ∙ (p.read ∙ (ap (λ (z : Step). from_there syntax limits spot next z.next ((told ++ []) ++ z.events)) none ∙ ap (λ z. from_there syntax limits spot next doctype_next.next z) (append-nil (told ++ [])))))));
          }

      pub doctype_at : (mid : Scanner) → scan.ScanStands mid next → mid.reading.setting ≡ setting_behind token.Doctype v.reading.setting (item ∷ []) → At syntax limits (bytes ++ xs) (told ++ []) mid line
      doctype_at mid stands e =
          record {
            now = record { scan = next; nest = doctype_next.next };
            read = doctype_leads.page;
            stands = stands;
            setting = e ∙ (ap (λ (x : Setting). setting_behind token.Doctype x (item ∷ [])) at.setting ∙ ap (λ (l : Line). record { syntax = syntax; limits = limits; inside = (inside_of syntax l).content; leads = false; drops = false }) line_is);
            follows = record { levels_are = subst (λ (x : Line). AreLevels line.syntax line.levels x) line_is at.follows.levels_are; stood = true; phase_is = ap (λ b. phase_at b line.levels true) (sym begun_is); none_yet = at.follows.none_yet };
            syntax_is = at.syntax_is;
            depth_is = at.depth_is;
          }

    -- a tag
    module _ (t : Tag) (is : item.token ≡ tag (tag_seen t)) (first_is : item.first ≡ t.token) (last_is : item.last ≡ t.at) (ends : next.at ≡ t.at + 1) where
      not_kept : IsKept item.token → ⊥
      not_kept (is_kept text e) = let w : tokens.kept text ≡ tag (tag_seen t) = sym e ∙ is in cc

      abbrev b : LastByte syntax limits spot s xs next item
      b = last_byte syntax limits spot xs s next item reads (ap (λ n. n + 1) last_is ∙ sym ends) not_kept

      tag_page : (x : Result Step Kind) → nest_step syntax limits.depth nest item ≡ x → page_read syntax limits (bytes ++ xs) ≡ telling told (progress_of b.before next x)
      tag_page x h =
          page_from xs
          ∙ (ap (λ y. page_on syntax limits (from_there syntax limits spot s nest told) y) b.are
          ∙ page_last syntax limits spot s nest told b.front b.byte b.before (record { next = next; items = item ∷ [] }) x refl b.reads b.completes (one_step_on x h))

      longer : (more : List ℕ) → HasMark s b.front more → HasMark s xs (more ++ b.byte ∷ [])
      longer more m = record {
        first = m.first;
        part = m.part;
        are = ap (λ z. s.held ++ z) b.are ∙ (sym (append_assoc s.held b.front (b.byte ∷ [])) ∙ (ap (λ z. z ++ b.byte ∷ []) m.are ∙ append_assoc mark_bytes more (b.byte ∷ [])));
      }

      pub tag_stops : (kind : Kind) → nest_step syntax limits.depth nest item ≡ Err kind → (piece rest : List ℕ) → piece ≡ xs ++ rest → ((more : List ℕ) → HasMark s xs more → ⊥) → StopsInPiece syntax limits bytes told piece (record { kind = kind; token = t.token; at = t.at })
      tag_stops kind h piece rest e unmarked = record {
        front = b.front;
        byte = b.byte;
        rest = rest;
        are = e ∙ (ap (λ y. y ++ rest) b.are ∙ append_assoc b.front (b.byte ∷ []) rest);
        now = record { scan = b.before; nest = nest };
        read = quiet_front b.front b.before b.reads;
        before = record {
          before = record { now = at.now; told = told };
          read = at.read;
          next = b.before;
          items = [];
          completed = b.reads;
          are = refl;
          mark = λ more m. absurd (unmarked (more ++ b.byte ∷ []) (longer more m));
        };
        here = ap (λ y. page_read syntax limits (bytes ++ y)) (sym b.are) ∙ (tag_page (Err kind) h ∙ ap (λ n. Err (record { kind = kind; token = n; at = b.before.at })) (sym b.first_is ∙ first_is) ∙ ap (λ n. Err (record { kind = kind; token = t.token; at = n })) (sym b.last_is ∙ last_is));
      }

      pub tag_leads : (step : Step) → nest_step syntax limits.depth nest item ≡ Ok step → Leads xs next step
      tag_leads step h = record { page = tag_page (Ok step) h }
