-- One more character, and one more token, behind those of a front.
use Rattle.rx_pages.proofs.Words.{◌≡◌, ◌∙◌, ℕ, Bool, true, false, List, [], ◌∷◌, ◌++◌, refl, sym, ap, subst, append_assoc, append-nil, Option, Some, Ok, ◌&&◌, cond-true, cond-false, right_bracket, greater_than_sign, by_test, Syntax, PlacedCharacter, Spells, values, next_of, Item, last_from, Spelled, no_more, one, Fits, AllFit, is_literal, no_section_end, Event, Nesting, Step, content_at, nest_step, Goes, stands, goes}
pub use Rattle.rx_pages.proofs.Entered.{entered_one, entered_snoc, page_snoc}
use Rattle.rx_pages.proofs.Below.{flags_behind}

-- a token behind others
pub values_next : (es : List PlacedCharacter) (c : PlacedCharacter) (r : List PlacedCharacter) (next : Option ℕ) → next_of (values (es ++ c ∷ r)) next ≡ next_of (values es) (Some c.value)
values_next [] c r next = refl
values_next (e ∷ es) c r next = refl

pub spelled_snoc : (syntax : Syntax) {es : List PlacedCharacter} {next : Option ℕ} {items : List Item} (c : PlacedCharacter) (r : List PlacedCharacter) (after : Option ℕ) (item : Item) → Spelled syntax es next items → next ≡ Some c.value
    → Spells syntax item.content (values (c ∷ r)) after item.token → item.first ≡ c.first → item.last ≡ last_from c.last r → Spelled syntax (es ++ c ∷ r) after (items ++ item ∷ [])
spelled_snoc syntax c r after item no_more h sp f l = subst (λ x. Spelled syntax x after (item ∷ [])) (append-nil (c ∷ r)) (one c r [] item sp f l no_more)
spelled_snoc syntax c r after item (one d run rest i {items = items} s a b more) h sp f l =
    subst (λ x. Spelled syntax x after (i ∷ (items ++ item ∷ []))) (sym (append_assoc (d ∷ run) rest (c ∷ r)))
    (one d run (rest ++ c ∷ r) i (subst (λ n. Spells syntax i.content (values (d ∷ run)) n i.token) (ap (λ n. next_of (values rest) n) h ∙ sym (values_next rest c r after)) s) a b (spelled_snoc syntax c r after item more h sp f l))

pub goes_snoc : (syntax : Syntax) (depth : ℕ) (place : Nesting) (item : Item) (step : Step) {n : Nesting} {items : List Item} {events : List Event} → Goes syntax depth (λ m. m ≡ place) n items events → item.content ≡ content_at syntax place
    → nest_step syntax depth place item ≡ Ok step → Goes syntax depth (λ m. m ≡ step.next) n (items ++ item ∷ []) (events ++ step.events)
goes_snoc syntax depth place item step (stands n p) c s =
    subst (λ es. Goes syntax depth (λ m. m ≡ step.next) n (item ∷ []) es) (append-nil step.events)
    (goes item step (c ∙ ap (λ m. content_at syntax m) (sym p)) (ap (λ m. nest_step syntax depth m item) p ∙ s) (stands step.next refl))
goes_snoc syntax depth place item step {n = n} (goes {items = items} {events = events} i st ci ns g) c s =
    subst (λ es. Goes syntax depth (λ m. m ≡ step.next) n (i ∷ (items ++ item ∷ [])) es) (sym (append_assoc st.events events step.events)) (goes i st ci ns (goes_snoc syntax depth place item step g c s))

pub sections_snoc : (items : List Item) (item : Item) (two last : Bool) → no_section_end items two last ≡ true → ((flags_behind items two last).0 && is_literal greater_than_sign item) ≡ false → no_section_end (items ++ item ∷ []) two last ≡ true
sections_snoc [] item two last h k = cond-false _ _ _ k
sections_snoc (i ∷ items) item two last h k =
    by_test {G = no_section_end ((i ∷ items) ++ item ∷ []) two last ≡ true} (two && is_literal greater_than_sign i)
    (λ t. absurd (let q : false ≡ true = sym (cond-true _ _ _ t) ∙ h in cc))
    (λ t. cond-false _ _ _ t ∙ sections_snoc items item (last && is_literal right_bracket i) (is_literal right_bracket i) (sym (cond-false _ _ _ t) ∙ h) k)

pub fit_snoc : (limit : ℕ) (items : List Item) (item : Item) → AllFit limit items → Fits limit item item.token → AllFit limit (items ++ item ∷ [])
fit_snoc limit [] item h f = (f, tt)
fit_snoc limit (i ∷ items) item h f = (h.0, fit_snoc limit items item h.1 f)
