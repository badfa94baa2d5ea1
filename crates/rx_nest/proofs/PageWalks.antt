-- What holds before the first byte of a page, and goes on with each event, holds wherever a page's bytes lead.
use Rattle.rx_nest.proofs.Common.{◌≡◌, ◌≢◌, ◌∙◌, ℕ, ◌<◌, Bool, true, false, List, [], ◌∷◌, ◌++◌, refl, sym, subst, length, append_assoc, append-nil, Option, Some, None, Result, Ok, Err, arith, nat_tests, ◌&&◌, not, nat_le, if◌then◌else◌, Chars, by_test, Syntax, same, is_among, Tag, Token, tag, character, reference, kept, section, comment, doctype, is_alone, is_html, is_plaintext, is_self_closed, hides, StartTag, Item, is_line_feed, start_tag_of, enders, is_omissible, is_held, root_name, Line, inside_of, parent_of, Phase, before, within, first_row, tag_rows, start_rows, end_rows, under_start, after_start, after_end, is_innermost, has_ended, is_before_root, is_no_line, Kind, Limits, Progress, with_events, nest_step_on, steps_on, no_step, page_read, no_progress, Event, begins, says, finishes, Nesting, not_begun, Step, nest_step, step_by, unless_refused, tag_passes, begun_under, over, line_above, text_step, told, doctype_step, going_on, ended_by_start, ended_under, ended_by_end, Goes, stands, goes}
use Rattle.rx_nest.proofs.TextSteps.{bytes_go}

-- what holds of each
abbrev pub AllOf : {A : Type 0} → (A → Type 0) → List A → Type 0
AllOf Is [] = Unit {0}
AllOf Is (x ∷ xs) = Is x × AllOf Is xs

pub all_append : {A : Type 0} (Is : A → Type 0) (xs ys : List A) → AllOf Is xs → AllOf Is ys → AllOf Is (xs ++ ys)
all_append Is [] ys a b = b
all_append Is (x ∷ xs) ys a b = (a.0, all_append Is xs ys a.1 b)

pub all_weaker : {A : Type 0} (Is Was : A → Type 0) → ((x : A) → Was x → Is x) → (xs : List A) → AllOf Was xs → AllOf Is xs
all_weaker Is Was f [] h = tt
all_weaker Is Was f (x ∷ xs) h = (f x h.0, all_weaker Is Was f xs h.1)

all_are : {A : Type 0} (Is : A → Type 0) → ((x : A) → Is x) → (xs : List A) → AllOf Is xs
all_are Is f [] = tt
all_are Is f (x ∷ xs) = (f x, all_are Is f xs)

module _ (syntax : Syntax) (limits : Limits) (holds : Nesting → List Event → Type 0) where
  -- it goes on with a token that tells nothing, with text in an element and with the document type
  pub record GoesOn : Type 0 where
    pub quiet : (n : Nesting) (drops : Bool) (events : List Event) → holds n events → holds (record { line = n.line; phase = n.phase; drops = drops }) (events ++ [])
    pub saying : (n : Nesting) (events : List Event) (chars : Chars) → n.phase ≡ within → holds n events → holds (going_on n) (events ++ says chars ∷ [])
    pub standing : (n : Nesting) (events : List Event) → n.phase ≡ before false → holds n events → holds (record { line = []; phase = before true; drops = false }) (events ++ [])

  -- and with this token, if it is a tag
  abbrev pub Tagged : Item → Type 0
  Tagged item = (t : Tag) → item.token ≡ tag t → (n : Nesting) (events : List Event) → first_row (tag_rows syntax limits.depth n.line n.phase t) ≡ None → holds n events → holds (tag_passes syntax n.line item t).next (events ++ (tag_passes syntax n.line item t).events)

  abbrev pub Behind : List Event → Result Step Kind → Type 0
  Behind events (Ok step) = holds step.next (events ++ step.events)
  Behind events (Err kind) = Unit {0}

  module _ (on : GoesOn) where
    text_holds : (n : Nesting) (events : List Event) (is_dropped : Bool) (chars : Chars) → holds n events → Behind events (Ok (text_step n is_dropped chars))
    text_holds n events is_dropped chars h = by (n.drops && is_dropped) n.phase refl
      where
        by : (b : Bool) (p : Phase) → n.phase ≡ p → holds (going_on n) (events ++ (if b then [] else told p chars))
        by false within e = on.saying n events chars e h
        by _ _ e = on.quiet n false events h

    item_holds : (n : Nesting) (events : List Event) (item : Item) → Tagged item → holds n events → Behind events (nest_step syntax limits.depth n item)
    item_holds n events item tags h = by item.token refl
      where
        tagged : (t : Tag) → item.token ≡ tag t → (x : Option Kind) → first_row (tag_rows syntax limits.depth n.line n.phase t) ≡ x → Behind events (unless_refused x (tag_passes syntax n.line item t))
        tagged t k None e = tags t k n events e h
        tagged t k (Some kind) e = tt

        stood : (p : Phase) → n.phase ≡ p → Behind events (doctype_step p)
        stood (before false) e = on.standing n events e h
        stood _ e = tt

        by : (token : Token) → item.token ≡ token → Behind events (step_by syntax limits.depth n item token)
        by (tag t) e = tagged t e (first_row (tag_rows syntax limits.depth n.line n.phase t)) refl
        by (character c) e = text_holds n events (is_line_feed (character c)) (c ∷ []) h
        by (reference c) e = text_holds n events (is_line_feed (reference c)) (c ∷ []) h
        by (kept chars) e = text_holds n events false chars h
        by (section chars) e = text_holds n events false chars h
        by comment e = on.quiet n false events h
        by doctype e = stood n.phase refl

    pub items_hold : (events : List Event) (items : List Item) → AllOf Tagged items → (x : Result Step Kind) → Behind events x → Behind events (steps_on syntax limits.depth x items)
    items_hold events [] tags x h = h
    items_hold events (item ∷ items) tags (Err kind) h = items_hold events items tags.1 (Err kind) tt
    items_hold events (item ∷ items) tags (Ok step) h = items_hold events items tags.1 (nest_step_on syntax limits.depth (Ok step) item) (by (nest_step syntax limits.depth step.next item) (item_holds step.next (events ++ step.events) item tags.0 h))
      where
        by : (x : Result Step Kind) → Behind (events ++ step.events) x → Behind events (with_events step.events x)
        by (Ok next) k = subst (λ es. holds next.next es) (append_assoc events step.events next.events) k
        by (Err kind) k = tt

    pub steps_hold : (n : Nesting) (events : List Event) (items : List Item) (step : Step) → steps_on syntax limits.depth (Ok (no_step n)) items ≡ Ok step → AllOf Tagged items → holds n events → holds step.next (events ++ step.events)
    steps_hold n events items step e tags h = subst (Behind events) e (items_hold events items tags (Ok (no_step n)) (on.quiet n n.drops events h))

    -- over the tokens of a page
    pub goes_hold : (meant : Nesting → Type 0) {n : Nesting} {items : List Item} {more : List Event} → Goes syntax limits.depth meant n items more → (events : List Event) → AllOf Tagged items → holds n events → (m : Nesting) × holds m (events ++ more)
    goes_hold meant (stands n is) events tags h = (n, on.quiet n n.drops events h)
    goes_hold meant (goes {n = n} {events = more} item step c e g) events tags h =
        let rest = goes_hold meant g (events ++ step.events) tags.1 (subst (Behind events) e (item_holds n events item tags.0 h)) in
        (rest.0, subst (λ es. holds rest.0 es) (append_assoc events step.events more) rest.1)

    -- over its bytes
    module _ (tags : (item : Item) → Tagged item) where
      pub page_holds : (bytes : List ℕ) (q : Progress) → holds not_begun [] → page_read syntax limits bytes ≡ Ok q → holds q.now.nest q.told
      page_holds bytes q h e =
          bytes_go syntax limits (λ rest p. holds p.now.nest p.told) (λ byte rest p scanned step a b k. steps_hold p.now.nest p.told scanned.items step b (all_are Tagged tags scanned.items) k) bytes no_progress q e h

-- no element is open before the root and behind it, and one is within
abbrev pub Sound : Phase → Line → Type 0
Sound within line = line ≢ []
Sound _ line = line ≡ []

abbrev pub has_begun : Phase → Bool
has_begun (before stood) = false
has_begun _ = true

first_and_last : (a b d f g : Bool) (k l m n o : Kind) → first_row ((a, k) ∷ (b, l) ∷ (d, m) ∷ (f, n) ∷ (g, o) ∷ []) ≡ None → (a ≡ false) × (g ≡ false)
first_and_last false false false false false k l m n o e = (refl, refl)
first_and_last _ _ _ _ _ k l m n o e = absurd (cc)

last_passes : (a b : Bool) (k l : Kind) → first_row ((a, k) ∷ (not b, l) ∷ []) ≡ None → b ≡ true
last_passes false true k l e = refl
last_passes _ _ k l e = absurd (cc)

room : (n most : ℕ) → nat_le most n ≡ false → n < most
room n most e = grind (arith, nat_tests)

-- What is said of the open elements, and of whether the root has begun, goes on with an element that ends, with one that begins and with text.
module _ (syntax : Syntax) (limits : Limits) (P : Bool → Line → List Event → Type 0) where
  pub record Tagging (item : Item) (t : Tag) : Type 0 where
    pub finish : (u : StartTag) (line : Line) (events : List Event) → P true (u ∷ line) events → P true line (events ++ finishes ∷ [])
    pub begin : (b : Bool) (line : Line) (events : List Event) → (b ≡ true → line ≢ []) → (b ≡ false → line ≡ []) → length line < limits.depth → P b line events
        → P true (start_tag_of item t ∷ line) (events ++ begins (start_tag_of item t) (hides (inside_of syntax line) t) ∷ [])

  abbrev pub Saying : Type 0
  Saying = (u : StartTag) (line : Line) (events : List Event) (chars : Chars) → P true (u ∷ line) events → P true (u ∷ line) (events ++ says chars ∷ [])

  pub record Held (n : Nesting) (events : List Event) : Type 0 where
    pub sound : Sound n.phase n.line
    pub holds : P (has_begun n.phase) n.line events

  over_held : (line : Line) (events : List Event) → P true line events → Held (over line) events
  over_held [] events p = record { sound = refl; holds = p }
  over_held (u ∷ above) events p = record { sound = λ w. absurd (cc); holds = p }

  module _ (item : Item) (t : Tag) (on : Tagging item t) where
    start_walk : (line : Line) (events : List Event) → P true line events → P true (after_start syntax t.name line) (events ++ ended_by_start syntax t.name line)
    start_walk [] events p = subst (P true []) (sym (append-nil events)) p
    start_walk (u ∷ line) events p =
        by_test (is_among (enders (inside_of syntax line) u.name) t.name)
        (λ e. rw e (subst (P true (after_start syntax t.name line)) (append_assoc events (finishes ∷ []) (ended_by_start syntax t.name line)) (start_walk line (events ++ finishes ∷ []) (on.finish u line events p))))
        (λ e. rw e (subst (P true (u ∷ line)) (sym (append-nil events)) p))

    -- the root never ends by omission
    start_left : (u : StartTag) (line : Line) → after_start syntax t.name (u ∷ line) ≢ []
    start_left u [] = λ e. cc
    start_left u (v ∷ line) = by_test (is_among (enders (inside_of syntax (v ∷ line)) u.name) t.name) (λ k. rw k (start_left v line)) (λ k. rw k (λ e. cc))

    end_walk : (line : Line) (events : List Event) → P true line events → P true (after_end syntax t.name line) (events ++ ended_by_end syntax t.name line)
    end_walk [] events p = subst (P true []) (sym (append-nil events)) p
    end_walk (u ∷ line) events p =
        by_test (is_omissible (inside_of syntax line) u.name && not (same u.name t.name) && not (is_held (parent_of line) u.name))
        (λ e. rw e (subst (P true (after_end syntax t.name line)) (append_assoc events (finishes ∷ []) (ended_by_end syntax t.name line)) (end_walk line (events ++ finishes ∷ []) (on.finish u line events p))))
        (λ e. rw e (subst (P true (u ∷ line)) (sym (append-nil events)) p))

    module _ (n : Nesting) (events : List Event) (h : Held n events) where
      abbrev left : Line
      left = under_start syntax t.name n.line

      abbrev gone : List Event
      gone = ended_under syntax t.name n.line

      abbrev own : Event
      own = begins (start_tag_of item t) (hides (inside_of syntax left) t)

      abbrev Left : Bool → Line → List Event → Type 0
      Left b line es = P b line (events ++ es) × (b ≡ true → line ≢ []) × (b ≡ false → line ≡ [])

      -- before the element itself begins
      left_held : has_ended n.phase ≡ false → Left (has_begun n.phase) left gone
      left_held still = by n.phase n.line still h.sound h.holds
        where
          same_left : (b : Bool) (line : Line) → P b line events → (b ≡ true → line ≢ []) → (b ≡ false → line ≡ []) → Left b line []
          same_left b line p some none = (subst (P b line) (sym (append-nil events)) p, some, none)

          by : (phase : Phase) (line : Line) → has_ended phase ≡ false → Sound phase line → P (has_begun phase) line events → Left (has_begun phase) (under_start syntax t.name line) (ended_under syntax t.name line)
          by (before stood) [] e s p = same_left false [] p (λ z. absurd (cc)) (λ z. refl)
          by within (u ∷ line) e s p =
              by_test (is_html (inside_of syntax (u ∷ line)).content) (λ k. rw k (start_walk (u ∷ line) events p, λ z. start_left u line, λ z. absurd (cc)))
              (λ k. rw k (same_left true (u ∷ line) p (λ z. s) (λ z. absurd (cc))))
          by within [] e s p = absurd (s refl)
          by _ _ e s p = absurd (cc)

      begun_held : has_ended n.phase ≡ false → length left < limits.depth → Held (begun_under syntax item t left gone).next (events ++ (begun_under syntax item t left gone).events)
      begun_held still room =
          let l = left_held still in
          let b = on.begin (has_begun n.phase) left (events ++ gone) l.1 l.2 room l.0 in
          by_test (is_alone syntax (inside_of syntax left) t)
          (λ e. rw e (over_held left (events ++ (gone ++ own ∷ finishes ∷ []))
          (subst (P true left) (append_assoc (events ++ gone) (own ∷ []) (finishes ∷ []) ∙ append_assoc events gone (own ∷ finishes ∷ []))
          (on.finish (start_tag_of item t) left ((events ++ gone) ++ own ∷ []) b))))
          (λ e. rw e (record { sound = λ w. absurd (cc); holds = subst (P true (start_tag_of item t ∷ left)) (append_assoc events gone (own ∷ [])) b }))

      ended_held : is_innermost t.name (after_end syntax t.name n.line) ≡ true → Held (over (line_above (after_end syntax t.name n.line))) (events ++ (ended_by_end syntax t.name n.line ++ finishes ∷ []))
      ended_held named = by n.phase n.line h.sound named h.holds
        where
          on_ended : (x : Line) (es : List Event) → is_innermost t.name x ≡ true → P true x (events ++ es) → Held (over (line_above x)) (events ++ (es ++ finishes ∷ []))
          on_ended [] es i z = absurd (cc)
          on_ended (u ∷ x) es i z = over_held x (events ++ (es ++ finishes ∷ [])) (subst (P true x) (append_assoc events es (finishes ∷ [])) (on.finish u x (events ++ es) z))

          by : (phase : Phase) (line : Line) → Sound phase line → is_innermost t.name (after_end syntax t.name line) ≡ true → P (has_begun phase) line events
              → Held (over (line_above (after_end syntax t.name line))) (events ++ (ended_by_end syntax t.name line ++ finishes ∷ []))
          by phase [] s i p = absurd (cc)
          by within (u ∷ line) s i p = on_ended (after_end syntax t.name (u ∷ line)) (ended_by_end syntax t.name (u ∷ line)) i (end_walk (u ∷ line) events p)
          by _ (u ∷ line) s i p = absurd (cc)

      abbrev end_step : Step
      end_step = record { next = over (line_above (after_end syntax t.name n.line)); events = ended_by_end syntax t.name n.line ++ finishes ∷ [] }

      tag_held : first_row (tag_rows syntax limits.depth n.line n.phase t) ≡ None → Held (tag_passes syntax n.line item t).next (events ++ (tag_passes syntax n.line item t).events)
      tag_held e = by t.closing e
        where
          by : (b : Bool) → first_row (if b then end_rows syntax n.line t else start_rows syntax limits.depth n.line n.phase t) ≡ None
              → Held (if b then end_step else begun_under syntax item t left gone).next (events ++ (if b then end_step else begun_under syntax item t left gone).events)
          by true k = ended_held (last_passes (is_no_line n.line) (is_innermost t.name (after_end syntax t.name n.line)) Kind.NothingOpen Kind.Mismatch k)
          by false k =
              let f =
              first_and_last (has_ended n.phase) (is_before_root n.phase && not (same t.name root_name)) (is_plaintext syntax (inside_of syntax n.line) t) (is_self_closed syntax (inside_of syntax n.line) t) (nat_le limits.depth (length left))
              Kind.Outside Kind.RootNotHtml Kind.Plaintext Kind.SelfClosed Kind.TooDeep k in
              begun_held f.0 (room (length left) limits.depth f.1)

  pub tagged : (item : Item) → ((t : Tag) → item.token ≡ tag t → Tagging item t) → Tagged syntax limits Held item
  tagged item on t e n events none h = tag_held item t (on t e) n events h none

  pub held_goes : Saying → GoesOn syntax limits Held
  held_goes say = record {
    quiet = λ n drops events h. record { sound = h.sound; holds = subst (P (has_begun n.phase) n.line) (sym (append-nil events)) h.holds };
    saying = λ n events chars e h. record { sound = h.sound; holds = said n.phase n.line events chars e h.sound h.holds };
    standing = λ n events e h. record { sound = refl; holds = stood n.phase n.line events e h.sound h.holds };
  }
    where
      said : (phase : Phase) (line : Line) (events : List Event) (chars : Chars) → phase ≡ within → Sound phase line → P (has_begun phase) line events → P (has_begun phase) line (events ++ says chars ∷ [])
      said within (u ∷ line) events chars e s p = say u line events chars p
      said within [] events chars e s p = absurd (s refl)
      said _ _ events chars e s p = absurd (cc)

      stood : (phase : Phase) (line : Line) (events : List Event) → phase ≡ before false → Sound phase line → P (has_begun phase) line events → P false [] (events ++ [])
      stood (before b) [] events e s p = subst (P false []) (sym (append-nil events)) p
      stood _ _ events e s p = absurd (cc)

  pub page_held : Saying → ((item : Item) (t : Tag) → Tagging item t) → P false [] [] → (bytes : List ℕ) (q : Progress) → page_read syntax limits bytes ≡ Ok q → Held q.now.nest q.told
  page_held say tags start bytes q e = page_holds syntax limits Held (held_goes say) (λ item. tagged item (λ t k. tags item t)) bytes q (record { sound = refl; holds = start }) e

-- the open elements and how far the page has come fit each other
pub page_sound : (syntax : Syntax) (limits : Limits) (bytes : List ℕ) (q : Progress) → page_read syntax limits bytes ≡ Ok q → Sound q.now.nest.phase q.now.nest.line
page_sound syntax limits bytes q e = (page_held syntax limits (λ b line events. Unit {0}) (λ u line events chars p. tt) (λ item t. record { finish = λ u line events p. tt; begin = λ b line events some none l p. tt }) tt bytes q e).sound
