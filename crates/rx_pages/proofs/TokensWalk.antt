-- Reading all tokens of a front.
use Rattle.rx_pages.proofs.Words.{snoc_front, snoc_last, ◌≡◌, ◌∙◌, ℕ, ◌+◌, ◌≤◌, Bool, true, false, List, [], ◌∷◌, ◌++◌, refl, sym, ap, subst, append_assoc, append-nil, Option, Some, None, Ok, arith, ◌&&◌, if◌then◌else◌, greater_than_sign, right_bracket, Chars, and-false, Syntax, PlacedCharacter, Token, tag, kept, Spells, values, next_of, Item, last_from, Spelled, no_more, one, Fits, AllFit, is_literal, is_strict_literal, no_section_end, is_known_tag, Content, Limits, Event, Nesting, Step, content_at, nest_step, Goes, stands, goes, Verdict, whole, ended, verdict, CharactersGoOn, ReadAs, at_last, at_next, item_of_run, by_test, cond-true, cond-false}
use Rattle.rx_grammar.specs.declared.contents.Content.TheVariants as content
use Rattle.rx_pages.proofs.Spellings.{reads_each}
use Rattle.rx_pages.proofs.Tokens.{values_append}
use Rattle.rx_pages.proofs.KnownTags.{TagVerdict, on, a_tag, a_fault, known_snoc, known_front, known_verdict}
use Rattle.rx_pages.proofs.EntrySteps.{Stood}
use Rattle.rx_pages.proofs.Reading.{Last, no_last, a_last, last_of}
use Rattle.rx_pages.proofs.CharWalk.{Fine}
use Rattle.rx_pages.proofs.TokenWalk.{stood, IsKept, is_kept, Bound, limit_before, limit_with, go_all, whole_step, kept_unknown, fine_append, kept_fine}
use Rattle.rx_pages.proofs.EndedRuns.{ended_kept}

-- places rise
abbrev pub RisesFrom : ℕ → List PlacedCharacter → Type 0
RisesFrom last [] = Unit {0}
RisesFrom last (e ∷ es) = (last ≤ e.last) × RisesFrom e.last es

pub rises_last : (c : PlacedCharacter) (r a : List PlacedCharacter) (e : PlacedCharacter) (b : List PlacedCharacter) → RisesFrom c.last r → c ∷ r ≡ a ++ e ∷ b → e.last ≤ last_from c.last r
rises_last c r [] e b h k = let same : c ≡ e = cc in subst (λ (x : PlacedCharacter). x.last ≤ last_from c.last r) same (from c.last r h)
  where
    from : (last : ℕ) (r : List PlacedCharacter) → RisesFrom last r → last ≤ last_from last r
    from last [] h = omega arith
    from last (d ∷ r) h = let m = from d.last r h.1 in let n = h.0 in omega arith
rises_last c [] (d ∷ []) e b h k = absurd (cc)
rises_last c [] (d ∷ f ∷ a) e b h k = absurd (cc)
rises_last c (d ∷ r) (f ∷ a) e b h k = let same : d ∷ r ≡ a ++ e ∷ b = cc in rises_last d r a e b h.1 same

pub rises_behind : (last : ℕ) (a b : List PlacedCharacter) → RisesFrom last (a ++ b) → RisesFrom (last_from last a) b
rises_behind last [] b h = h
rises_behind last (e ∷ a) b h = rises_behind e.last a b h.1

pub rises_front : (last : ℕ) (a b : List PlacedCharacter) → RisesFrom last (a ++ b) → RisesFrom last a
rises_front last [] b h = tt
rises_front last (e ∷ a) b h = (h.0, rises_front e.last a b h.1)

abbrev pub Rises : List PlacedCharacter → Type 0
Rises [] = Unit {0}
Rises (e ∷ es) = RisesFrom e.last es

pub rises_rest : (last : ℕ) (es : List PlacedCharacter) → RisesFrom last es → Rises es
rises_rest last [] h = tt
rises_rest last (e ∷ es) h = h.1

pub two_lasts : (a b : Chars) (x y : ℕ) → a ++ x ∷ [] ≡ b ++ y ∷ [] → (a ≡ b) × (x ≡ y)
two_lasts a b x y e = (snoc_front a b x y e, snoc_last a b x y e)

pub kept_literal : (c : ℕ) (item : Item) → IsKept item.token → is_literal c item ≡ false
kept_literal c item (is_kept text e) = ap (λ token. is_strict_literal c item.content token) e ∙ by item.content
  where
    by : (i : Content) → is_strict_literal c i (kept text) ≡ false
    by (content.Raw name) = refl
    by _ = refl

pub item_is : (inside : Content) (item : Item) (c : PlacedCharacter) (r : List PlacedCharacter) → item.content ≡ inside → item.first ≡ c.first → item.last ≡ last_from c.last r → item_of_run inside item.token (c ∷ r) ≡ item
item_is inside item c r ci f l = λ i. record { token = item.token; content = sym ci i; first = sym f i; last = sym l i }

-- the two flags behind some tokens
abbrev pub flags_behind : List Item → Bool → Bool → Bool × Bool
flags_behind [] two last = (two, last)
flags_behind (item ∷ items) two last = flags_behind items (last && is_literal right_bracket item) (is_literal right_bracket item)

module _ (syntax : Syntax) (limits : Limits) (hi : ℕ) where
  abbrev G : Stood → Stood → List PlacedCharacter → Type 0
  G end st es = Fine syntax limits hi st es end

  -- one token
  module _ (n : Nesting) (events : List Event) (two last : Bool) (c : PlacedCharacter) (r : List PlacedCharacter) (item : Item) (step : Step) (ci : item.content ≡ content_at syntax n) (first : item.first ≡ c.first) (is_last : item.last ≡ last_from c.last r)
      (st : nest_step syntax limits.depth n item ≡ Ok step) (rises : RisesFrom c.last r) (fits : Fits limits.tag item item.token) where
    abbrev unit : List PlacedCharacter
    unit = c ∷ r

    abbrev inside : Content
    inside = content_at syntax n

    -- a tag fits
    tag_fits : (v : Verdict) → TagVerdict v → v ≡ whole item.token → item.last + 1 ≤ item.first + limits.tag
    tag_fits _ on h = absurd (cc)
    tag_fits _ (a_tag t) h = let same : tag t ≡ item.token = cc in subst (λ token. Fits limits.tag item token) (sym same) fits
    tag_fits _ (a_fault kind) h = absurd (cc)

    last_bound : (es : List PlacedCharacter) (e : PlacedCharacter) → unit ≡ es ++ e ∷ [] → verdict syntax inside (values es) e.value ≡ whole item.token → Bound syntax limits n events two last unit
    last_bound es e h v a d b k w =
        let known = known_front syntax inside unit a d b k w in
        let fit = tag_fits (verdict syntax inside (values es) e.value) (known_verdict syntax inside (values es) e.value (subst (λ x. is_known_tag syntax inside x ≡ true) (ap values h ∙ values_append es (e ∷ [])) known)) v in
        let below = rises_last c r a d b rises k in
        let f = first in
        let l = is_last in
        omega arith

    next_bound : (e : PlacedCharacter) → verdict syntax inside (values unit) e.value ≡ ended item.token → Bound syntax limits n events two last unit
    next_bound e v a d b k w =
        absurd (kept_unknown syntax limits n events two last unit e item.token v
        (known_snoc syntax inside unit e (known_front syntax inside unit a d b k w)))

    pub token_fine : (more : List PlacedCharacter) (end : Stood) (text : Chars) (next : Option ℕ) → ReadAs syntax inside text next item.token → text ≡ values unit → next ≡ next_of (values more) None
        → (two && is_literal greater_than_sign item) ≡ false
        → G end (stood step.next (events ++ step.events) (last && is_literal right_bracket item) (is_literal right_bracket item) []) more
        → G end (stood n events two last []) (unit ++ more)
    token_fine more end text next read te ne sec f = by text next item.token read te ne refl
      where
        by : (x : Chars) (m : Option ℕ) (token : Token) → ReadAs syntax inside x m token → x ≡ values unit → m ≡ next_of (values more) None → token ≡ item.token → G end (stood n events two last []) (unit ++ more)
        by _ _ _ (at_last front z token go v) e m k = at (last_of unit)
          where
            at : Last unit → G end (stood n events two last []) (unit ++ more)
            at (no_last h) = absurd (cc)
            at (a_last es d h) =
                let parts = two_lasts front (values es) z d.value (e ∙ (ap values h ∙ values_append es (d ∷ []))) in
                let v2 : verdict syntax inside (values es) d.value ≡ whole item.token = subst (λ x. verdict syntax inside (values es) x ≡ whole item.token) parts.1 (subst (λ x. verdict syntax inside x z ≡ whole item.token) parts.0 (v ∙ ap whole k)) in
                let go2 : CharactersGoOn syntax inside [] (values es) = subst (λ x. CharactersGoOn syntax inside [] x) parts.0 go in
                let bound : Bound syntax limits n events two last unit = last_bound es d h v2 in
                let it : item_of_run inside item.token (es ++ d ∷ []) ≡ item = ap (λ x. item_of_run inside item.token x) (sym h) ∙ item_is inside item c r ci first is_last in
                subst (λ x. G end (stood n events two last []) (x ++ more)) (sym h)
                (subst (λ x. G end (stood n events two last []) x) (sym (append_assoc es (d ∷ []) more))
                (fine_append syntax limits hi (stood n events two last []) (stood n events two last es) end es (d ∷ more) (go_all syntax limits n events two last unit bound [] es (d ∷ []) h go2)
                (fine_append syntax limits hi (stood n events two last es) (stood step.next (events ++ step.events) (last && is_literal right_bracket item) (is_literal right_bracket item) []) end (d ∷ []) more (
                  limit_before syntax limits n events two last unit bound es d [] h,
                  limit_with syntax limits n events two last unit bound es d [] h,
                  (stood step.next (events ++ step.events) (last && is_literal right_bracket item) (is_literal right_bracket item) [], (whole_step syntax limits n events two last unit es d item step v2 it st sec, refl)),
                )
                f)))
        by _ _ _ (at_next x d token go v) e m k = at more m f
          where
            kept_is : IsKept item.token
            kept_is = subst IsKept k (ended_kept syntax inside x d token v)

            at : (es : List PlacedCharacter) → Some d ≡ next_of (values es) None → G end (stood step.next (events ++ step.events) (last && is_literal right_bracket item) (is_literal right_bracket item) []) es → G end (stood n events two last []) (unit ++ es)
            at [] h g = absurd (cc)
            at (z ∷ es) h g =
                let same : d ≡ z.value = cc in
                let v2 : verdict syntax inside (values unit) z.value ≡ ended item.token = subst (λ y. verdict syntax inside (values unit) y ≡ ended item.token) same (subst (λ y. verdict syntax inside y d ≡ ended item.token) e (v ∙ ap ended k)) in
                let go2 : CharactersGoOn syntax inside [] (values unit) = subst (λ y. CharactersGoOn syntax inside [] y) e go in
                let it : item_of_run inside item.token unit ≡ item = item_is inside item c r ci first is_last in
                let l : is_literal right_bracket item ≡ false = kept_literal right_bracket item kept_is in
                let g2 : G end (stood step.next (events ++ step.events) false false []) (z ∷ es) =
                subst (λ b. G end (stood step.next (events ++ step.events) b false []) (z ∷ es)) (and-false last) (subst (λ b. G end (stood step.next (events ++ step.events) (last && b) b []) (z ∷ es)) l g) in
                fine_append syntax limits hi (stood n events two last []) (stood n events two last unit) end unit (z ∷ es)
                (go_all syntax limits n events two last unit (next_bound z v2) [] unit [] (sym (append-nil unit)) go2)
                (kept_fine syntax limits n events two last unit hi z es end item step v2 it st kept_is g2)

  -- what is had of a front and the run behind it
  pub record Walked (st : Stood) (front run : List PlacedCharacter) (meant : Nesting → Type 0) (events : List Event) (flags : Bool × Bool) : Type 0 where
    pub place : Nesting
    pub is_meant : meant place
    pub fine : G (stood place events flags.0 flags.1 run) st (front ++ run)

  abbrev pub Finish : List PlacedCharacter → (Nesting → Type 0) → Type 0
  Finish run meant = (m : Nesting) → meant m → (events : List Event) (two last : Bool) → G (stood m events two last run) (stood m events two last []) run

  sec_first : (two : Bool) (item : Item) (x : Bool) → (if two && is_literal greater_than_sign item then false else x) ≡ true → ((two && is_literal greater_than_sign item) ≡ false) × (x ≡ true)
  sec_first two item x h = by_test (two && is_literal greater_than_sign item) (λ t. absurd (let w : false ≡ true = sym (cond-true _ _ _ t) ∙ h in cc)) (λ t. (t, sym (cond-false _ _ _ t) ∙ h))

  next_same : (rest run : List PlacedCharacter) (next : Option ℕ) → next ≡ next_of (values run) None → next_of (values rest) next ≡ next_of (values (rest ++ run)) None
  next_same [] run next h = h
  next_same (e ∷ rest) run next h = refl

  pub tokens_walk : {n : Nesting} {front : List PlacedCharacter} {next : Option ℕ} {items : List Item} {events : List Event} (run : List PlacedCharacter) (meant : Nesting → Type 0) → Spelled syntax front next items → next ≡ next_of (values run) None → Goes syntax limits.depth meant n items events
      → AllFit limits.tag items → (two last : Bool) → no_section_end items two last ≡ true → Rises (front ++ run) → (told : List Event) → Finish run meant → Walked (stood n told two last []) front run meant (told ++ events) (flags_behind items two last)
  tokens_walk {n = n} run meant no_more h (stands n2 p) fit two last sec rises told finish =
      record { place = n; is_meant = p; fine = subst (λ x. G (stood n x two last run) (stood n told two last []) run) (sym (append-nil told)) (finish n p told two last) }
  tokens_walk {n = n} {next = next} run meant (one c r rest item {items = items} sp f l more) h (goes {events = events} item2 step ci st g) fit two last sec rises told finish =
      let parts = sec_first two item (no_section_end items (last && is_literal right_bracket item) (is_literal right_bracket item)) sec in
      let rises2 : RisesFrom c.last (r ++ (rest ++ run)) = subst (λ x. RisesFrom c.last x) (append_assoc r rest run) rises in
      let ih = tokens_walk run meant more h g fit.1 (last && is_literal right_bracket item) (is_literal right_bracket item) parts.1 (rises_rest (last_from c.last r) (rest ++ run) (rises_behind c.last r (rest ++ run) rises2)) (told ++ step.events) finish in
      let end : Stood = stood ih.place ((told ++ step.events) ++ events) (flags_behind items (last && is_literal right_bracket item) (is_literal right_bracket item)).0 (flags_behind items (last && is_literal right_bracket item) (is_literal right_bracket item)).1 run in
      let sp2 = subst (λ i. Spells syntax i (values (c ∷ r)) (next_of (values rest) next) item.token) ci sp in
      record {
        place = ih.place;
        is_meant = ih.is_meant;
        fine =
            subst (λ x. G (stood ih.place x (flags_behind items (last && is_literal right_bracket item) (is_literal right_bracket item)).0 (flags_behind items (last && is_literal right_bracket item) (is_literal right_bracket item)).1 run) (stood n told two last []) (((c ∷ r) ++ rest) ++ run)) (append_assoc told step.events events)
            (subst (λ x. G end (stood n told two last []) x) (sym (append_assoc (c ∷ r) rest run))
            (token_fine n told two last c r item step ci f l st (rises_front c.last r (rest ++ run) rises2) fit.0 (rest ++ run) end (values (c ∷ r)) (next_of (values rest) next)
            (reads_each syntax (content_at syntax n) (values (c ∷ r)) (next_of (values rest) next) item.token sp2) refl (next_same rest run next h) parts.0 ih.fine));
      }
