-- Before each start tag that is shown stands the front of a page.
use Rattle.rx_nest.proofs.Common.{hides, Nesting, ◌&&◌, ◌||◌, ◌==◌, not, nat_le, if◌then◌else◌, ◌⊎◌, greater_than_sign, less_than_sign, ampersand, Chars, by_test, split, Syntax, More, Char, Bad, answer_of, PlacedCharacter, byte_order_mark, line_feed, carriage_return, as_line_end, StartTag, Tag, Token, tag, has_references, is_text, start_tag_of, values, Item, is_literal, Line, inside_of, Utf8Step, Content, Fault, Kind, NotUtf8, PageTooLong, Unended, Limits, IsPageFront, Verdict, goes_on, whole, ended, refused, verdict, first_verdict, Spot, spot_of, Scanning, starts_at, Scanned, first_of, token_at, is_doctype, item_of_run, is_too_long, told_first, with_item, after_token, read_answer, read_byte, Progress, PageReading, steps_on, no_step, nested_items, page_byte_on, telling, page_on, page_read, no_progress, page_ended, page_may_end, fault_in, is_none_left, found_fault, page_append, IsKept, is_kept, read_size, item_first, item_last, token_of_item, take-append-le, ◌≡◌, ◌∙◌, ℕ, ◌+◌, ◌<◌, ◌≤◌, Bool, true, false, List, [], ◌∷◌, ◌++◌, map, refl, sym, ap, subst, length, length-append, append_assoc, append-nil, Option, Some, Result, Ok, Err, arith, take, inl, inr, ⊎_elim, faults_follow_fronts, Sign, begun, said, finished, Flags, Sight, is_hidden, see, sees, nothing_seen, Way, IsAtTag, IsAtOne, IsRefusal}
use Rattle.rx_nest.proofs.PageWalks.{AllOf, GoesOn, Held, Sound, Tagged, all_append, all_weaker, held_goes, page_sound, steps_hold, tagged}
use Rattle.rx_nest.proofs.TextSteps.{byte_goes}
use Rattle.rx_pages.specs.Nesting.{Event, begins, says, finishes, Step}
use Rattle.rx_pages.specs.PageReader as reader
use Rattle.rx_pages.proofs.EndedRuns.{ended_kept}

-- a start tag from this offset to that of the byte that completes it
pub record TagAt (n at : ℕ) (t : StartTag) : Type 0 where
  pub begins_at : t.token ≡ n
  pub ends_at : t.at ≡ at

-- the tags among the tokens are such
abbrev pub TagIs : (StartTag → Type 0) → Item → Type 0
TagIs Such item = (t : Tag) → item.token ≡ tag t → Such (start_tag_of item t)

abbrev pub AllTags : (StartTag → Type 0) → List Item → Type 0
AllTags Such items = AllOf (TagIs Such) items

abbrev pub IsOther : Item → Type 0
IsOther item = (t : Tag) → item.token ≡ tag t → ⊥

abbrev pub HasNoTag : List Item → Type 0
HasNoTag items = AllOf IsOther items

pub none_such : (Such : StartTag → Type 0) (items : List Item) → HasNoTag items → AllTags Such items
none_such Such = all_weaker (TagIs Such) IsOther (λ item h t e. absurd (h t e))

-- a byte completes no tag, or nothing is unfinished behind it
abbrev pub Where : Scanned → Type 0
Where r = HasNoTag r.items ⊎ ((r.next.run ≡ []) × (r.next.held ≡ []))

-- what is pending begins before the next byte
abbrev pub Fits : List PlacedCharacter → ℕ → Type 0
Fits [] at = Unit {0}
Fits (entry ∷ run) at = entry.first ≤ at

fits_more : (run : List PlacedCharacter) (at : ℕ) (entry : PlacedCharacter) → Fits run at → entry.first ≤ at + 1 → Fits (run ++ entry ∷ []) (at + 1)
fits_more [] at entry h l = l
fits_more (e ∷ run) at entry h l = omega (arith, h)

fits_on : (run : List PlacedCharacter) (at : ℕ) → Fits run at → Fits run (at + 1)
fits_on [] at h = tt
fits_on (e ∷ run) at h = omega (arith, h)

pub token_fits : (s : Scanning) → Fits s.run s.at → token_at s ≤ s.at
token_fits s h = by s.run h
  where
    by : (run : List PlacedCharacter) → Fits run s.at → first_of run (starts_at s) ≤ s.at
    by [] k = omega arith
    by (e ∷ run) k = k

pub record Completes (s : Scanning) (r : Scanned) : Type 0 where
  pub tags : AllTags (TagAt (token_at s) s.at) r.items
  pub fits : Fits s.run s.at → Fits r.next.run r.next.at
  pub settles : Where r

abbrev pub After : Scanning → Result Scanned Kind → Type 0
After s (Ok r) = Completes s r
After s (Err kind) = Unit {0}

pub kept_no_tag : (token : Token) (t : Tag) → IsKept token → token ≡ tag t → ⊥
kept_no_tag token t (is_kept text e) h = cc

-- one character is no tag
abbrev IsNoTag : Verdict → Type 0
IsNoTag (whole token) = (t : Tag) → token ≡ tag t → ⊥
IsNoTag other = Unit {0}

first_no_tag : (inside : Content) (c : ℕ) → IsNoTag (first_verdict inside c)
first_no_tag inside c =
    split IsNoTag (c == less_than_sign || (c == ampersand && has_references inside)) _ _ (λ e. tt)
    (λ e. split IsNoTag (is_text inside c) _ _ (λ d. λ t k. cc) (λ d. tt))

module _ (syntax : Syntax) (limits : Limits) (spot : Spot) (s : Scanning) where
  abbrev entered : ℕ → PlacedCharacter
  entered value = record { value = value; first = starts_at s; last = s.at }

  first_tags : (t : Scanning) (after_return : Bool) (value : ℕ) (v : Verdict) → t.at ≡ s.at → (Fits s.run s.at → Fits t.run t.at) → ((token : Token) → v ≡ whole token → (u : Tag) → token ≡ tag u → first_of t.run (starts_at s) ≡ token_at s)
      → After s (told_first syntax limits spot after_return (entered value) t v)
  first_tags t after_return value goes_on a f h = record { tags = tt; fits = λ k. fits_more t.run t.at (entered value) (f k) (omega (arith, a)); settles = inl tt }
  first_tags t after_return value (whole token) a f h =
      let item : Item = item_of_run spot.inside token (t.run ++ entered value ∷ []) in
      let at : ((u : Tag) → item.token ≡ tag u → TagAt (token_at s) s.at (start_tag_of item u)) =
      λ u e. record {
        begins_at = item_first spot.inside token t.run (entered value) ∙ h token refl u (sym (token_of_item spot.inside token (t.run ++ entered value ∷ [])) ∙ e);
        ends_at = item_last spot.inside token t.run (entered value);
      } in
      split (After s) (t.two && is_literal greater_than_sign item) _ _ (λ e. tt)
      (λ e. split (After s) (is_doctype item.token && not spot.leads) _ _ (λ d. tt) (λ d. record { tags = (at, tt); fits = λ k. tt; settles = inr (refl, refl) }))
  first_tags t after_return value (ended token) a f h = record { tags = tt; fits = λ k. omega (arith, a); settles = inl tt }
  first_tags t after_return value (refused kind) a f h = tt

  with_tags : (item : Item) (x : Result Scanned Kind) → IsKept item.token → After s x → After s (with_item syntax limits spot item x)
  with_tags item (Ok r) k h = record {
    tags = ((λ t e. absurd (kept_no_tag item.token t k e)), h.tags);
    fits = h.fits;
    settles = ⊎_elim (λ n. inl ((λ t e. kept_no_tag item.token t k e), n)) (λ q. inr q) h.settles;
  }
  with_tags item (Err kind) k h = tt

  told_tags : (after_return : Bool) (value : ℕ) (v : Verdict) → verdict syntax spot.inside (values s.run) value ≡ v → After s (reader.told syntax limits spot after_return (entered value) s v)
  told_tags after_return value (ended token) v =
      with_tags (item_of_run spot.inside token s.run) (told_first syntax limits spot after_return (entered value) (after_token syntax limits spot s) (verdict syntax spot.inside [] value))
      (subst IsKept (sym (token_of_item spot.inside token s.run)) (ended_kept syntax spot.inside (values s.run) value token v))
      (first_tags (after_token syntax limits spot s) after_return value (verdict syntax spot.inside [] value) refl (λ k. tt)
      (λ other k u w. absurd ((subst IsNoTag k (first_no_tag spot.inside value)) u w)))
  told_tags after_return value goes_on v = first_tags s after_return value goes_on refl (λ k. k) (λ token k u w. refl)
  told_tags after_return value (whole token) v = first_tags s after_return value (whole token) refl (λ k. k) (λ other k u w. refl)
  told_tags after_return value (refused kind) v = tt

  -- A byte has a fault, or tells nothing and leaves what is pending, or completes a character.
  pub byte_by : (byte : ℕ) (G : Result Scanned Kind → Type 0) → ((kind : Kind) → G (Err kind)) → ((next : Scanning) → next.run ≡ s.run → next.at ≡ s.at + 1 → G (Ok (record { next = next; items = [] })))
      → ((c : ℕ) → answer_of (s.held ++ byte ∷ []) ≡ Char c → G (reader.told syntax limits spot (c == carriage_return) (entered (as_line_end c)) s (verdict syntax spot.inside (values s.run) (as_line_end c)))) → G (read_byte syntax limits spot byte s)
  byte_by byte G fails keeps tells = split G (nat_le limits.page s.at) _ _ (λ k. fails _) (λ k. by (answer_of (s.held ++ byte ∷ [])) refl)
    where
      by : (step : Utf8Step) → answer_of (s.held ++ byte ∷ []) ≡ step → G (read_answer syntax limits spot (s.held ++ byte ∷ []) s step)
      by Bad k = fails _
      by More k = split G (is_too_long syntax limits spot s.run (token_at s) s.at) _ _ (λ m. fails _) (λ m. keeps _ refl refl)
      by (Char c) k =
          split G (c == 0) _ _ (λ m. fails _)
          (λ m. split G (is_too_long syntax limits spot s.run (token_at s) s.at) _ _ (λ o. fails _)
          (λ o. split G (not s.started && c == byte_order_mark || s.after_return && c == line_feed) _ _ (λ q. keeps _ refl refl)
          (λ q. split G (is_too_long syntax limits spot (s.run ++ entered (as_line_end c) ∷ []) (token_at s) s.at) _ _ (λ w. fails _) (λ w. tells c k))))

  pub byte_tags : (byte : ℕ) → After s (read_byte syntax limits spot byte s)
  byte_tags byte =
      byte_by byte (After s) (λ kind. tt) (λ next r a. record { tags = tt; fits = λ h. subst (Fits next.run) (sym a) (subst (λ run. Fits run (s.at + 1)) (sym r) (fits_on s.run s.at h)); settles = inl tt })
      (λ c k. told_tags (c == carriage_return) (as_line_end c) (verdict syntax spot.inside (values s.run) (as_line_end c)) refl)

-- the elements that events begin, and those that are shown to begin, are such
module _ (Such : StartTag → Type 0) where
  abbrev pub BeginIs : Event → Type 0
  BeginIs (begins t hidden) = Such t
  BeginIs _ = Unit {0}

  abbrev pub AllBegin : List Event → Type 0
  AllBegin events = AllOf BeginIs events

  pub begin_append : (xs ys : List Event) → AllBegin xs → AllBegin ys → AllBegin (xs ++ ys)
  begin_append = all_append BeginIs

  abbrev pub BegunIs : Sign → Type 0
  BegunIs (begun t) = Such t
  BegunIs _ = Unit {0}

  abbrev pub AllBegun : List Sign → Type 0
  AllBegun signs = AllOf BegunIs signs

  said_begun : (chars : Chars) → AllBegun (map said chars)
  said_begun [] = tt
  said_begun (c ∷ chars) = (tt, said_begun chars)

  -- what events add to what is seen
  pub record Adds (before now : List Sign) : Type 0 where
    pub signs : List Sign
    pub are : now ≡ before ++ signs
    pub begun_so : AllBegun signs

  one_adds : (event : Event) (flags : Flags) (signs : List Sign) → AllBegin (event ∷ []) → Adds signs (see event flags signs).signs
  one_adds (begins t hidden) flags signs b =
      split (λ (x : Sight). Adds signs x.signs) (is_hidden flags) _ _ (λ e. record { signs = []; are = sym (append-nil signs); begun_so = tt }) (λ e. record { signs = begun t ∷ []; are = refl; begun_so = (b.0, tt) })
  one_adds (says chars) flags signs b =
      split (Adds signs) (is_hidden flags) _ _ (λ e. record { signs = []; are = sym (append-nil signs); begun_so = tt }) (λ e. record { signs = map said chars; are = refl; begun_so = said_begun chars })
  one_adds finishes [] signs b = record { signs = []; are = sym (append-nil signs); begun_so = tt }
  one_adds finishes (flag ∷ flags) signs b = split (λ x. Adds signs (signs ++ x)) flag.0 _ _ (λ e. record { signs = finished ∷ []; are = refl; begun_so = (tt, tt) }) (λ e. record { signs = []; are = refl; begun_so = tt })

  pub all_add : (events : List Event) (sight : Sight) → AllBegin events → Adds sight.signs (sees sight events).signs
  all_add [] sight b = record { signs = []; are = sym (append-nil sight.signs); begun_so = tt }
  all_add (event ∷ events) sight b =
      let one = one_adds event sight.flags sight.signs (b.0, tt) in
      let more = all_add events (see event sight.flags sight.signs) b.1 in
      record { signs = one.signs ++ more.signs; are = more.are ∙ (ap (λ x. x ++ more.signs) one.are ∙ append_assoc sight.signs one.signs more.signs); begun_so = all_append BegunIs one.signs more.signs one.begun_so more.begun_so }

  -- a fault that lies at one of them
  pub one_such : (signs : List Sign) (fault : Fault) → AllBegun signs → IsAtOne fault signs → (t : StartTag) × Such t × IsAtTag fault t
  one_such [] fault h o = absurd o
  one_such (begun t ∷ signs) fault h o = ⊎_elim (λ i. (t, h.0, i)) (λ o. one_such signs fault h.1 o) o
  one_such (said c ∷ signs) fault h o = one_such signs fault h.1 o
  one_such (finished ∷ signs) fault h o = one_such signs fault h.1 o

  module _ (refused : List Sign → Option Fault) (law : IsRefusal refused) where
    pub refused_such : (events : List Event) (fault : Fault) → AllBegin events → refused (sees nothing_seen events).signs ≡ Some fault → (t : StartTag) × Such t × IsAtTag fault t
    refused_such events fault b e =
        let seen = all_add events nothing_seen b in
        one_such seen.signs fault seen.begun_so (law.lies [] seen.signs fault law.none (ap refused (sym seen.are) ∙ e))

pub begin_such : (A B : StartTag → Type 0) → ((t : StartTag) → A t → B t) → (xs : List Event) → AllBegin A xs → AllBegin B xs
begin_such A B f = all_weaker (BeginIs B) (BeginIs A) by
  where
    by : (event : Event) → BeginIs A event → BeginIs B event
    by (begins t hidden) h = f t h
    by _ h = tt

module _ (Such : StartTag → Type 0) (syntax : Syntax) (limits : Limits) where
  abbrev pub BeginsSuch : Bool → Line → List Event → Type 0
  BeginsSuch b line events = AllBegin Such events

  -- tags of which that holds tell elements of which it holds
  pub such_tagged : (item : Item) → TagIs Such item → Tagged syntax limits (Held syntax limits BeginsSuch) item
  such_tagged item such = tagged syntax limits BeginsSuch item (λ t e. record {
    finish = λ u line events h. begin_append Such events (finishes ∷ []) h (tt, tt);
    begin = λ b line events some none l h. begin_append Such events (begins (start_tag_of item t) (hides (inside_of syntax line) t) ∷ []) h (such t e, tt);
  })

  pub such_go : GoesOn syntax limits (Held syntax limits BeginsSuch)
  such_go = held_goes syntax limits BeginsSuch (λ u line events chars h. begin_append Such events (says chars ∷ []) h (tt, tt))

  -- and so do tokens in a row, from a place where elements and phase fit
  pub items_such : (n : Nesting) (items : List Item) (step : Step) → Sound n.phase n.line → AllTags Such items → steps_on syntax limits.depth (Ok (no_step n)) items ≡ Ok step → Held syntax limits BeginsSuch step.next step.events
  items_such n items step s tags e = steps_hold syntax limits (Held syntax limits BeginsSuch) such_go n [] items step e (all_weaker (Tagged syntax limits (Held syntax limits BeginsSuch)) (TagIs Such) such_tagged items tags) (record { sound = s; holds = tt })

module _ (syntax : Syntax) (limits : Limits) where
  -- the bytes up to an offset are the front of a page
  abbrev IsUpTo : List ℕ → ℕ → Type 0
  IsUpTo bytes n = (n ≤ length bytes) × IsPageFront syntax limits (take n bytes)

  -- and the offset is that of one of them
  abbrev pub IsBefore : List ℕ → ℕ → Type 0
  IsBefore bytes n = (n < length bytes) × IsPageFront syntax limits (take n bytes)

  before_more : (bytes more : List ℕ) (n : ℕ) → IsBefore bytes n → IsBefore (bytes ++ more) n
  before_more bytes more n h = (omega (arith, h.0, length-append bytes more), subst (IsPageFront syntax limits) (sym (take-append-le n bytes more (omega (arith, h.0)))) h.1)

  before_byte : (bytes : List ℕ) (byte n : ℕ) → IsUpTo bytes n → IsBefore (bytes ++ byte ∷ []) n
  before_byte bytes byte n h = (omega (arith, h.0, length-append bytes (byte ∷ [])), subst (IsPageFront syntax limits) (sym (take-append-le n bytes (byte ∷ []) h.0)) h.1)

  none_held : (r : PageReading) → page_may_end r ≡ true → r.scan.held ≡ []
  none_held r = by r.scan.held
    where
      by : (held : List ℕ) → (is_none_left held && is_none_left r.scan.run && reader.is_over r.nest.phase) ≡ true → held ≡ []
      by [] h = refl
      by (x ∷ held) h = absurd (cc)

  -- a byte that no character has
  fails_next : (p : Progress) → p.now.scan.held ≡ [] → (kind : Kind) × (page_byte_on syntax limits (Ok p) 255 ≡ Err (fault_in p.now.scan kind))
  fails_next p none = by_test (nat_le limits.page p.now.scan.at) (λ t. (PageTooLong, ap by t)) (λ t. (NotUtf8, ap by t ∙ ap answer none))
    where
      answer : List ℕ → Result Progress Fault
      answer held = telling p.told (nested_items syntax limits.depth p.now (read_answer syntax limits (spot_of syntax p.now.nest) (held ++ 255 ∷ []) p.now.scan (answer_of (held ++ 255 ∷ []))))

      by : Bool → Result Progress Fault
      by b =
          telling p.told (nested_items syntax limits.depth p.now
          (if b then Err PageTooLong else read_answer syntax limits (spot_of syntax p.now.nest) (p.now.scan.held ++ 255 ∷ []) p.now.scan (answer_of (p.now.scan.held ++ 255 ∷ []))))

  -- what was read before the next token is the front of a page: the next byte may have a fault, or the page may end
  front_at : (bytes : List ℕ) (p : Progress) → page_read syntax limits bytes ≡ Ok p → Fits p.now.scan.run p.now.scan.at → IsUpTo bytes (token_at p.now.scan)
  front_at bytes p r f = by_test (page_may_end p.now) over unended
    where
      small : token_at p.now.scan ≤ length bytes
      small = let l = token_fits p.now.scan f in omega (arith, l, (read_size syntax limits bytes p r).0)

      unended : page_may_end p.now ≡ false → IsUpTo bytes (token_at p.now.scan)
      unended e = (
        small,
        faults_follow_fronts syntax limits bytes (fault_in p.now.scan Unended)
            (found_fault syntax limits bytes (fault_in p.now.scan Unended) (ap page_ended r ∙ ap (λ b. if b then Ok p else Err (fault_in p.now.scan Unended)) e)),
      )

      over : page_may_end p.now ≡ true → IsUpTo bytes (token_at p.now.scan)
      over e =
          let fails = fails_next p (none_held p.now e) in
          let read : page_read syntax limits (bytes ++ 255 ∷ []) ≡ Err (fault_in p.now.scan fails.0) =
          page_append syntax limits (spot_of syntax p.now.nest) (Ok no_progress) bytes (255 ∷ []) ∙ (ap (λ x. page_byte_on syntax limits x 255) r ∙ fails.1) in
          let front = faults_follow_fronts syntax limits (bytes ++ 255 ∷ []) (fault_in p.now.scan fails.0) (found_fault syntax limits (bytes ++ 255 ∷ []) (fault_in p.now.scan fails.0) (ap page_ended read)) in
          (small, subst (IsPageFront syntax limits) (take-append-le (token_at p.now.scan) bytes (255 ∷ []) small) front)

  -- after some bytes each tag that was told stands behind the front of a page
  abbrev Behind : List ℕ → Result Progress Fault → Type 0
  Behind bytes (Ok p) = (page_read syntax limits bytes ≡ Ok p) × Fits p.now.scan.run p.now.scan.at × AllBegin (λ t. IsBefore bytes t.token) p.told
  Behind bytes (Err fault) = Unit {0}

  one_behind : (bytes : List ℕ) (byte : ℕ) (x : Result Progress Fault) → Behind bytes x → Behind (bytes ++ byte ∷ []) (page_byte_on syntax limits x byte)
  one_behind bytes byte (Err fault) h = tt
  one_behind bytes byte (Ok p) h =
      byte_goes syntax limits p byte (λ x. page_byte_on syntax limits (Ok p) byte ≡ x → Behind (bytes ++ byte ∷ []) x) (λ kind e. tt)
      (λ scanned step e k is.
      let after = subst (After p.now.scan) e (byte_tags syntax limits (spot_of syntax p.now.nest) p.now.scan byte) in
      let such = items_such (TagAt (token_at p.now.scan) p.now.scan.at) syntax limits p.now.nest scanned.items step (page_sound syntax limits bytes p h.0) after.tags k in (
        page_append syntax limits (spot_of syntax p.now.nest) (Ok no_progress) bytes (byte ∷ []) ∙ (ap (λ x. page_byte_on syntax limits x byte) h.0 ∙ is),
        after.fits h.1,
        begin_append (λ t. IsBefore (bytes ++ byte ∷ []) t.token) p.told step.events
            (begin_such (λ t. IsBefore bytes t.token) (λ t. IsBefore (bytes ++ byte ∷ []) t.token) (λ t. before_more bytes (byte ∷ []) t.token) p.told h.2)
            (begin_such (TagAt (token_at p.now.scan) p.now.scan.at) (λ t. IsBefore (bytes ++ byte ∷ []) t.token)
            (λ t b. subst (IsBefore (bytes ++ byte ∷ [])) (sym b.begins_at) (before_byte bytes byte (token_at p.now.scan) (front_at bytes p h.0 h.1))) step.events such.holds),
      )) refl

  all_behind : (more bytes : List ℕ) (x : Result Progress Fault) → Behind bytes x → Behind (bytes ++ more) (page_on syntax limits x more)
  all_behind [] bytes x h = subst (λ b. Behind b x) (sym (append-nil bytes)) h
  all_behind (byte ∷ more) bytes x h =
      subst (λ b. Behind b (page_on syntax limits (page_byte_on syntax limits x byte) more)) (append_assoc bytes (byte ∷ []) more)
      (all_behind more (bytes ++ byte ∷ []) (page_byte_on syntax limits x byte) (one_behind bytes byte x h))

  told_behind : (bytes : List ℕ) (p : Progress) → page_read syntax limits bytes ≡ Ok p → AllBegin (λ t. IsBefore bytes t.token) p.told
  told_behind bytes p r = (subst (Behind bytes) r (all_behind bytes [] (Ok no_progress) (refl, tt, tt))).2

module _ (way : Way) (law : IsRefusal way.refused) where
  pub token_before : (bytes : List ℕ) (p : Progress) (fault : Fault) → page_read way.syntax way.limits bytes ≡ Ok p → way.refused (sees nothing_seen p.told).signs ≡ Some fault → IsBefore way.syntax way.limits bytes fault.token
  token_before bytes p fault r e =
      let at = refused_such (λ t. IsBefore way.syntax way.limits bytes t.token) way.refused law p.told fault (told_behind way.syntax way.limits bytes p r) e in
      subst (IsBefore way.syntax way.limits bytes) (sym at.2.token) at.1

  pub refused_fronts : (bytes more : List ℕ) (p : Progress) (fault : Fault) → page_read way.syntax way.limits bytes ≡ Ok p → way.refused (sees nothing_seen p.told).signs ≡ Some fault
      → IsPageFront way.syntax way.limits (take fault.token (bytes ++ more))
  refused_fronts bytes more p fault r e = (before_more way.syntax way.limits bytes more fault.token (token_before bytes p fault r e)).1
