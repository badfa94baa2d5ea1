-- Reading the entries of a page token by token.
use Rattle.rx_pages.proofs.Words.{◌≡◌, ◌∙◌, ℕ, ◌+◌, ◌<◌, Bool, true, false, List, [], ◌∷◌, ◌++◌, refl, sym, ap, subst, append_assoc, append-nil, Result, Ok, Err, nat_le, ◌&&◌, ◌||◌, ◌==◌, not, greater_than_sign, right_bracket, less_than_sign, ampersand, Chars, by_test, false_from_ne_true, Syntax, PlacedCharacter, Token, kept, doctype, has_references, is_text, values, Item, is_literal, Phase, before, is_known_tag, Content, Kind, Limits, Event, Nesting, Step, content_at, nest_step, step_by, going_on, doctype_step, text_step, Verdict, goes_on, whole, ended, first_verdict, verdict, CharactersGoOn, Spot, Scanning, Scanned, first_of, is_too_long, item_of_run, is_doctype, told_first, with_item, spot_of, may_lead, with_events, steps_on, no_step}
use Rattle.rx_pages.specs.PageReader.{told as told_by}
use Rattle.rx_pages.proofs.Tokens.{values_append}
use Rattle.rx_pages.proofs.KnownTags.{TagVerdict, on, known_snoc, known_verdict}
use Rattle.rx_pages.proofs.EntrySteps.{Stood, scanning_of, stood_by, nested_by, entry_step}
use Rattle.rx_pages.proofs.ByteSteps.{not_long}
use Rattle.rx_pages.proofs.CharWalk.{is_known, Fine}

abbrev pub stood : Nesting → List Event → Bool → Bool → List PlacedCharacter → Stood
stood n events two last run = record { run = run; two = two; last = last; nest = n; told = events }

with_both : (a b : List Event) (r : Result Step Kind) → with_events a (with_events b r) ≡ with_events (a ++ b) r
with_both a b (Ok step) = ap (λ x. Ok (record { next = step.next; events = x })) (sym (append_assoc a b step.events))
with_both a b (Err kind) = refl

module _ (syntax : Syntax) (depth : ℕ) where
  steps_of_fault : (kind : Kind) (items : List Item) → steps_on syntax depth (Err kind) items ≡ Err kind
  steps_of_fault kind [] = refl
  steps_of_fault kind (item ∷ items) = steps_of_fault kind items

  pub steps_from : (first : List Event) (r : Result Step Kind) (items : List Item) → steps_on syntax depth (with_events first r) items ≡ with_events first (steps_on syntax depth r items)
  steps_from first r [] = refl
  steps_from first (Ok step) (item ∷ items) =
      ap (λ x. steps_on syntax depth x items) (sym (with_both first step.events (nest_step syntax depth step.next item)))
      ∙ steps_from first (with_events step.events (nest_step syntax depth step.next item)) items
  steps_from first (Err kind) (item ∷ items) = steps_of_fault kind items ∙ ap (λ x. with_events first x) (sym (steps_of_fault kind items))

  pub stood_from : (s : Scanning) (events more : List Event) (r : Result Step Kind) → stood_by s events (with_events more r) ≡ stood_by s (events ++ more) r
  stood_from s events more (Ok step) = ap (λ x. Ok (record { run = s.run; two = s.two; last = s.last; nest = step.next; told = x })) (sym (append_assoc events more step.events))
  stood_from s events more (Err kind) = refl

-- a token that stays text because of what follows it
pub data IsKept (token : Token) : Type 0 where
  is_kept : (text : Chars) → token ≡ kept text → IsKept token

-- a document type that nests may come there
pub leads_there : (syntax : Syntax) (depth : ℕ) (n : Nesting) (item : Item) (step : Step) → nest_step syntax depth n item ≡ Ok step → (is_doctype item.token && not (may_lead n.phase)) ≡ false
leads_there syntax depth n item step h = by item.token h
  where
    by : (token : Token) → step_by syntax depth n item token ≡ Ok step → (is_doctype token && not (may_lead n.phase)) ≡ false
    by doctype k = at n.phase k
      where
        at : (phase : Phase) → doctype_step phase ≡ Ok step → (true && not (may_lead phase)) ≡ false
        at (before false) m = refl
        at _ m = absurd (cc)
    by _ k = refl

-- text leaves the elements as they are
pub kept_goes_on : (syntax : Syntax) (depth : ℕ) (n : Nesting) (item : Item) (step : Step) → nest_step syntax depth n item ≡ Ok step → IsKept item.token → step.next ≡ going_on n
kept_goes_on syntax depth n item step h (is_kept text e) =
    let same : Ok (text_step n false text) ≡ Ok step = sym (ap (λ token. step_by syntax depth n item token) e) ∙ h in let is : text_step n false text ≡ step = cc in sym (ap (λ (s : Step). s.next) is)

-- the first character of a whole token or of a run, behind some of its characters
pub first_behind : (unit a : List PlacedCharacter) (e : PlacedCharacter) (b : List PlacedCharacter) → unit ≡ a ++ e ∷ b → first_of a e.first ≡ first_of unit 0
first_behind unit [] e b h = ap (λ x. first_of x 0) (sym h)
first_behind unit (d ∷ a) e b h = ap (λ x. first_of x 0) (sym h)

module _ (syntax : Syntax) (limits : Limits) where
  -- entries that lead from one state to another
  abbrev pub Leads : Stood → List PlacedCharacter → Stood → Type 0
  Leads st [] mid = st ≡ mid
  Leads st (e ∷ es) mid =
      (is_known syntax limits st ≡ true → e.last < first_of st.run e.first + limits.tag)
      × (is_too_long syntax limits (spot_of syntax st.nest) (st.run ++ e ∷ []) (first_of st.run e.first) e.last ≡ false)
      × ((next : Stood) × ((entry_step syntax limits st e ≡ Ok next) × Leads next es mid))

  pub fine_append : (hi : ℕ) (st mid end : Stood) (xs ys : List PlacedCharacter) → Leads st xs mid → Fine syntax limits hi mid ys end → Fine syntax limits hi st (xs ++ ys) end
  fine_append hi st mid end [] ys l f = subst (λ x. Fine syntax limits hi x ys end) (sym l) f
  fine_append hi st mid end (e ∷ xs) ys l f = (l.0, l.1, (l.2.0, (l.2.1.0, fine_append hi l.2.0 mid end xs ys l.2.1.1 f)))

  -- in one content, where no tag is too long
  module _ (n : Nesting) (events : List Event) (two last : Bool) (unit : List PlacedCharacter) where
    abbrev pub inside : Content
    inside = content_at syntax n

    abbrev pub Bound : Type 0
    Bound = (a : List PlacedCharacter) (e : PlacedCharacter) (b : List PlacedCharacter) → unit ≡ a ++ e ∷ b → is_known_tag syntax inside (values (a ++ e ∷ [])) ≡ true → e.last < first_of unit 0 + limits.tag

    -- the limits at one entry
    pub limit_before : Bound → (a : List PlacedCharacter) (e : PlacedCharacter) (b : List PlacedCharacter) → unit ≡ a ++ e ∷ b → is_known_tag syntax inside (values a) ≡ true → e.last < first_of a e.first + limits.tag
    limit_before bound a e b h k = let m = bound a e b h (known_snoc syntax inside a e k) in subst (λ x. e.last < x + limits.tag) (sym (first_behind unit a e b h)) m

    pub limit_with : Bound → (a : List PlacedCharacter) (e : PlacedCharacter) (b : List PlacedCharacter) → unit ≡ a ++ e ∷ b → is_too_long syntax limits (spot_of syntax n) (a ++ e ∷ []) (first_of a e.first) e.last ≡ false
    limit_with bound a e b h =
        not_long (is_known_tag syntax inside (values (a ++ e ∷ []))) (first_of a e.first + limits.tag) e.last
        (λ k. let m = bound a e b h k in subst (λ x. e.last < x + limits.tag) (sym (first_behind unit a e b h)) m)

    go_step : (a : List PlacedCharacter) (e : PlacedCharacter) → verdict syntax inside (values a) e.value ≡ goes_on → entry_step syntax limits (stood n events two last a) e ≡ Ok (stood n events two last (a ++ e ∷ []))
    go_step a e v = rw (v, append-nil events) refl

    -- entries that go on
    pub go_all : Bound → (a es b : List PlacedCharacter) → unit ≡ a ++ (es ++ b) → CharactersGoOn syntax inside (values a) (values es) → Leads (stood n events two last a) es (stood n events two last (a ++ es))
    go_all bound a [] b h g = ap (λ x. stood n events two last x) (sym (append-nil a))
    go_all bound a (e ∷ es) b h g = (
      limit_before bound a e (es ++ b) h,
      limit_with bound a e (es ++ b) h,
      (
        stood n events two last (a ++ e ∷ []),
        (
          go_step a e g.0,
          subst (λ x. Leads (stood n events two last (a ++ e ∷ [])) es (stood n events two last x)) (append_assoc a (e ∷ []) es)
              (go_all bound (a ++ e ∷ []) es b (h ∙ sym (append_assoc a (e ∷ []) (es ++ b))) (subst (λ x. CharactersGoOn syntax inside x (values es)) (sym (values_append a (e ∷ []))) g.1)),
        ),
      ),
    )

    -- the entry that completes a token
    pub whole_step : (a : List PlacedCharacter) (e : PlacedCharacter) (item : Item) (step : Step) → verdict syntax inside (values a) e.value ≡ whole item.token → item_of_run inside item.token (a ++ e ∷ []) ≡ item
        → nest_step syntax limits.depth n item ≡ Ok step → (two && is_literal greater_than_sign item) ≡ false
        → entry_step syntax limits (stood n events two last a) e ≡ Ok (stood step.next (events ++ step.events) (last && is_literal right_bracket item) (is_literal right_bracket item) [])
    whole_step a e item step v i st sec = rw (v, i, sec, leads_there syntax limits.depth n item step st, st) refl

    -- the entry that tells that a run was text
    first_again : (spot : Spot) (e : PlacedCharacter) (sc : Scanning) → sc.run ≡ [] → told_by syntax limits spot false e sc (first_verdict spot.inside e.value) ≡ told_first syntax limits spot false e sc (first_verdict spot.inside e.value)
    first_again spot e sc h =
        by_test {G = told_by syntax limits spot false e sc (first_verdict spot.inside e.value) ≡ told_first syntax limits spot false e sc (first_verdict spot.inside e.value)} (e.value == less_than_sign || (e.value == ampersand && has_references spot.inside))
        (λ t. rw t refl)
        (λ t. rw t (by_test (is_text spot.inside e.value) (λ x. rw x refl) (λ x. rw x refl)))

    with_item_steps : (item : Item) (step : Step) (x : Result Scanned Kind) → nest_step syntax limits.depth n item ≡ Ok step
        → nested_by syntax limits.depth (stood n events two last unit) (with_item syntax limits (spot_of syntax n) item x) ≡ nested_by syntax limits.depth (stood step.next (events ++ step.events) false false []) x
    with_item_steps item step (Err kind) h = refl
    with_item_steps item step (Ok r) h =
        ap (λ y. stood_by r.next events (steps_on syntax limits.depth (with_events [] y) r.items)) h
        ∙ (ap (λ y. stood_by r.next events (steps_on syntax limits.depth (Ok (record { next = step.next; events = y })) r.items)) (sym (append-nil step.events))
        ∙ (ap (λ y. stood_by r.next events y) (steps_from syntax limits.depth step.events (Ok (no_step step.next)) r.items)
        ∙ stood_from syntax limits.depth r.next events step.events (steps_on syntax limits.depth (Ok (no_step step.next)) r.items)))

    pub kept_step : (e : PlacedCharacter) (item : Item) (step : Step) → verdict syntax inside (values unit) e.value ≡ ended item.token → item_of_run inside item.token unit ≡ item → nest_step syntax limits.depth n item ≡ Ok step → IsKept item.token
        → entry_step syntax limits (stood n events two last unit) e ≡ entry_step syntax limits (stood step.next (events ++ step.events) false false []) e
    kept_step e item step v i st k =
        let on : step.next ≡ going_on n = kept_goes_on syntax limits.depth n item step st k in
        ap (λ x. nested_by syntax limits.depth (stood n events two last unit) (told_by syntax limits (spot_of syntax n) false e (scanning_of (stood n events two last unit)) x)) v
        ∙ (ap (λ x. nested_by syntax limits.depth (stood n events two last unit) (with_item syntax limits (spot_of syntax n) x (told_first syntax limits (spot_of syntax n) false e nothing (first_verdict inside e.value)))) i
        ∙ (with_item_steps item step (told_first syntax limits (spot_of syntax n) false e nothing (first_verdict inside e.value)) st
        ∙ (ap (λ x. nested_by syntax limits.depth (stood step.next (events ++ step.events) false false []) x) (sym (first_again (spot_of syntax n) e nothing refl))
        ∙ ap (λ (m : Nesting). nested_by syntax limits.depth (stood step.next (events ++ step.events) false false []) (told_by syntax limits (spot_of syntax m) false e nothing (first_verdict (content_at syntax m) e.value))) (sym on))))
      where
        nothing : Scanning
        nothing = scanning_of (stood n events false false [])

    -- and no tag is known there
    pub kept_unknown : (e : PlacedCharacter) (token : Token) → verdict syntax inside (values unit) e.value ≡ ended token → is_known_tag syntax inside (values (unit ++ e ∷ [])) ≡ true → ⊥
    kept_unknown e token v k = by (verdict syntax inside (values unit) e.value) (known_verdict syntax inside (values unit) e.value (subst (λ x. is_known_tag syntax inside x ≡ true) (values_append unit (e ∷ [])) k)) v
      where
        by : (x : Verdict) → TagVerdict x → x ≡ ended token → ⊥
        by _ on h = cc
        by _ _ h = cc

    pub kept_fine : (hi : ℕ) (e : PlacedCharacter) (es : List PlacedCharacter) (end : Stood) (item : Item) (step : Step) → verdict syntax inside (values unit) e.value ≡ ended item.token → item_of_run inside item.token unit ≡ item → nest_step syntax limits.depth n item ≡ Ok step → IsKept item.token
        → Fine syntax limits hi (stood step.next (events ++ step.events) false false []) (e ∷ es) end → Fine syntax limits hi (stood n events two last unit) (e ∷ es) end
    kept_fine hi e es end item step v i st k f = (
      (λ w. absurd (kept_unknown e item.token v (known_snoc syntax inside unit e w))),
      ap (λ b. b && nat_le (first_of unit e.first + limits.tag) e.last) (false_from_ne_true (is_known_tag syntax inside (values (unit ++ e ∷ []))) (kept_unknown e item.token v)),
      (f.2.0, (kept_step e item step v i st k ∙ f.2.1.0, f.2.1.1)),
    )
