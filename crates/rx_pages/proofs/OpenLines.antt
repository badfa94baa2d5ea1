-- What holds wherever tokens lead: a page that is over has nothing open, and the open elements have the names of start tags.
use Rattle.rx_pages.proofs.Words.{◌≡◌, ◌∙◌, ◌⊎◌, ⊎_elim, inl, inr, ℕ, Bool, true, false, List, [], ◌∷◌, ◌++◌, Option, refl, ap, sym, subst, ◌&&◌, ◌==◌, not, Result, Ok, list_all, all_scalars, scalar, and_from, cond-true, cond-false, Chars, both, by_test, split, PlacedCharacter, carriage_return, as_line_end, placed, preprocessed, without_mark, Syntax, same, is_among, Tag, Token, tag, character, reference, kept, section, comment, doctype, is_alone, is_html, Spells, enders, is_omissible, is_held, Item, Spelled, no_more, one, values, next_of, is_line_feed, has_no_nul, Line, inside_of, parent_of, Phase, before, within, after, under_start, after_start, after_end, first_row, tag_rows, Kind, Event, Nesting, Step, over, begun_under, line_above, tag_passes, going_on, text_step, doctype_step, step_by, Goes, stands, goes}
use Rattle.rx_pages.proofs.Steps.{passes}
use Rattle.rx_pages.proofs.OpenNames.{is_fair, IsName, start_name}
use Rattle.rx_pages.proofs.Below.{is_tag, IsLast, LastIs, page_entered}

-- the characters of a page are fair
abbrev pub is_fair_entry : PlacedCharacter → Bool
is_fair_entry e = is_fair e.value

scalar_end : (c : ℕ) → scalar c ≡ true → scalar (as_line_end c) ≡ true
scalar_end c h = by_test {G = scalar (as_line_end c) ≡ true} (c == carriage_return) (λ t. ap scalar (cond-true _ _ _ t)) (λ t. ap scalar (cond-false _ _ _ t) ∙ h)

pub scalars_page : (cs : List ℕ) → all_scalars cs ≡ true → list_all (λ (e : PlacedCharacter). scalar e.value) (preprocessed false (without_mark (placed 0 cs))) ≡ true
scalars_page =
    page_entered (λ after_return start cs es. all_scalars cs ≡ true → list_all (λ (e : PlacedCharacter). scalar e.value) es ≡ true) (λ after_return start h. refl) (λ after_return start c cs es t all h. all (both (scalar c) (all_scalars cs) h).1)
    (λ after_return start c cs es t all h. let k = both (scalar c) (all_scalars cs) h in and_from (scalar (as_line_end c)) _ (scalar_end c k.0) (all k.1)) (λ cs es. all_scalars cs ≡ true → list_all (λ (e : PlacedCharacter). scalar e.value) es ≡ true)
    (λ c cs es t all h. all (both (scalar c) (all_scalars cs) h).1) (λ cs es u all. all)

pub both_fair : (es : List PlacedCharacter) → list_all (λ (e : PlacedCharacter). scalar e.value) es ≡ true → has_no_nul es ≡ true → list_all is_fair_entry es ≡ true
both_fair [] h k = refl
both_fair (e ∷ es) h k =
    let p = both (scalar e.value) _ h in
    let q = both (not (e.value == 0)) _ k in
    and_from (is_fair e.value) _ (and_from (scalar e.value) (not (e.value == 0)) p.0 q.0) (both_fair es p.1 q.1)

fair_parts : (a b : List PlacedCharacter) → list_all is_fair_entry (a ++ b) ≡ true → (list_all is_fair (values a) ≡ true) × (list_all is_fair_entry b ≡ true)
fair_parts [] b h = (refl, h)
fair_parts (e ∷ a) b h = let k = both (is_fair e.value) _ h in let p = fair_parts a b k.1 in (and_from (is_fair e.value) _ k.0 p.0, p.1)

module _ (syntax : Syntax) (depth : ℕ) where
  abbrev pub AllNamed : Line → Type 0
  AllNamed [] = Unit {0}
  AllNamed (t ∷ above) = IsName syntax t.name × AllNamed above

  pub record Sound (n : Nesting) : Type 0 where
    pub nothing_open : n.phase ≡ after → n.line ≡ []
    pub names : AllNamed n.line

  start_named : (name : Chars) (line : Line) → AllNamed line → AllNamed (after_start syntax name line)
  start_named name [] h = tt
  start_named name (t ∷ above) h = split AllNamed (is_among (enders (inside_of syntax above) t.name) name) _ _ (λ e. start_named name above h.1) (λ e. h)

  end_named : (name : Chars) (line : Line) → AllNamed line → AllNamed (after_end syntax name line)
  end_named name [] h = tt
  end_named name (t ∷ above) h = split AllNamed (is_omissible (inside_of syntax above) t.name && not (same t.name name) && not (is_held (parent_of above) t.name)) _ _ (λ e. end_named name above h.1) (λ e. h)

  above_named : (line : Line) → AllNamed line → AllNamed (line_above line)
  above_named [] h = tt
  above_named (t ∷ above) h = h.1

  over_sound : (line : Line) → AllNamed line → Sound (over line)
  over_sound [] h = record { nothing_open = λ e. refl; names = tt }
  over_sound (t ∷ above) h = record { nothing_open = λ e. absurd (let k : within ≡ after = e in cc); names = h }

  begun_sound : (item : Item) (t : Tag) (line : Line) (ended : List Event) → AllNamed line → IsName syntax t.name → Sound (begun_under syntax item t line ended).next
  begun_sound item t line ended h n =
      split (λ (s : Step). Sound s.next) (is_alone syntax (inside_of syntax line) t) _ _ (λ e. over_sound line h) (λ e. record { nothing_open = λ e. absurd (let k : within ≡ after = e in cc); names = (n, h) })

  tag_sound : (n : Nesting) (item : Item) (t : Tag) → Sound n → (t.closing ≡ false → IsName syntax t.name) → Sound (tag_passes syntax n.line item t).next
  tag_sound n item t s h =
      split (λ (s : Step). Sound s.next) t.closing _ _ (λ e. over_sound (line_above (after_end syntax t.name n.line)) (above_named (after_end syntax t.name n.line) (end_named t.name n.line s.names)))
      (λ e. begun_sound item t (under_start syntax t.name n.line) _ (split AllNamed (is_html (inside_of syntax n.line).content) _ _ (λ e. start_named t.name n.line s.names) (λ e. s.names)) (h e))

  -- behind a token, and the token after which a page is over
  abbrev Behind : Nesting → Token → Step → Type 0
  Behind n token step = Sound step.next × (step.next.phase ≡ after → (is_tag token ≡ true) ⊎ (n.line ≡ []))

  by_text : (n : Nesting) (token : Token) (a step : Step) → Sound n → a.next ≡ going_on n → ◌≡◌ {A = Result Step Kind} (Ok a) (Ok step) → Behind n token step
  by_text n token a step s g e =
      let same : a ≡ step = cc in
      let next : going_on n ≡ step.next = sym g ∙ ap (λ (x : Step). x.next) same in
      (subst Sound next (record { nothing_open = s.nothing_open; names = s.names }), λ h. inr (s.nothing_open (ap (λ (x : Nesting). x.phase) next ∙ h)))

  by_doctype : (n : Nesting) (p : Phase) (step : Step) → doctype_step p ≡ Ok step → Behind n doctype step
  by_doctype n (before false) step e =
      let same : record { next = record { line = []; phase = before true; drops = false }; events = [] } ≡ step = cc in
      subst (Behind n doctype) same (record { nothing_open = λ e. refl; names = tt }, λ h. absurd (let k : before true ≡ after = h in cc))
  by_doctype n _ step e = absurd (cc)

  step_behind : (n : Nesting) (item : Item) (token : Token) (step : Step) → Sound n → ((t : Tag) → token ≡ tag t → t.closing ≡ false → IsName syntax t.name) → step_by syntax depth n item token ≡ Ok step → Behind n token step
  step_behind n item (tag t) step s h e =
      let p = passes (first_row (tag_rows syntax depth n.line n.phase t)) (tag_passes syntax n.line item t) step e in (subst (λ (x : Step). Sound x.next) p.is (tag_sound n item t s (h t refl)), λ k. inl refl)
  step_behind n item (character c) step s h e = by_text n (character c) (text_step n (is_line_feed (character c)) (c ∷ [])) step s refl e
  step_behind n item (reference c) step s h e = by_text n (reference c) (text_step n (is_line_feed (reference c)) (c ∷ [])) step s refl e
  step_behind n item (kept chars) step s h e = by_text n (kept chars) (text_step n false chars) step s refl e
  step_behind n item (section chars) step s h e = by_text n (section chars) (text_step n false chars) step s refl e
  step_behind n item comment step s h e = by_text n comment (record { next = going_on n; events = [] }) step s refl e
  step_behind n item doctype step s h e = by_doctype n n.phase step e

  -- where tokens lead
  pub record Arrives (meant : Nesting → Type 0) (n : Nesting) (items : List Item) (events : List Event) : Type 0 where
    pub place : Nesting
    pub is_meant : meant place
    pub going : Goes syntax depth (λ m. m ≡ place) n items events
    pub sound : Sound place
    pub last : place.phase ≡ after → LastIs syntax items

  last_is : (item : Item) (place : Nesting) {n : Nesting} {items : List Item} {events : List Event} → Goes syntax depth (λ m. m ≡ place) n items events → (n.phase ≡ after → IsLast item.content item.token) → (place.phase ≡ after → LastIs syntax items) → place.phase ≡ after → LastIs syntax (item ∷ items)
  last_is item place (stands m p) now more h = now (ap (λ (x : Nesting). x.phase) p ∙ h)
  last_is item place (goes other step c e g) now more h = more h

  pub arrives : {meant : Nesting → Type 0} {n : Nesting} {entries : List PlacedCharacter} {next : Option ℕ} {items : List Item} {events : List Event} → Spelled syntax entries next items → Goes syntax depth meant n items events → list_all is_fair_entry entries ≡ true → Sound n → Arrives meant n items events
  arrives no_more (stands n m) f s = record { place = n; is_meant = m; going = stands n refl; sound = s; last = λ h. tt }
  arrives {n = n} {next = next} (one c run rest item sp k l more) (goes item2 step ci e g) f s =
      let p = fair_parts (c ∷ run) rest f in
      let b = step_behind n item item.token step s (λ t is closing. start_name syntax item.content (values (c ∷ run)) (next_of (values rest) next) t (subst (λ x. Spells syntax item.content (values (c ∷ run)) (next_of (values rest) next) x) is sp) closing p.0) e in
      let r = arrives more g p.1 b.0 in
      record {
        place = r.place;
        is_meant = r.is_meant;
        going = goes item step ci e r.going;
        sound = r.sound;
        last = last_is item r.place r.going (λ a. ⊎_elim (λ t. inl t) (λ none. inr (ci ∙ ap (λ x. (inside_of syntax x).content) none)) (b.1 a)) r.last;
      }
