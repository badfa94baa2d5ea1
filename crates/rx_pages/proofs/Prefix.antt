-- The tokens at the front of a page's characters are the first of the page's tokens.
use Rattle.rx_reader.proofs.Common.{◌≡◌, ◌∙◌, ℕ, Bool, true, List, [], ◌∷◌, ◌++◌, Option, Some, None, refl, ap, sym, subst, append_assoc, Chars, Ok, PlacedCharacter, Syntax, Token, Spells, a_tag, an_end_of_raw, a_character, a_less_than, a_raw_run, a_reference, a_kept_run, a_comment, a_bogus_comment, a_question, a_strict_comment, an_instruction, a_section, a_doctype, Item, Spelled, no_more, one, values, next_of, Content, kept, not, ampersand, less_than_sign, begins_markup, has_less_than, keeps_runs, raw_name, stops_end, stops_at, IsBefore}
use Rattle.rx_pages.specs.Nesting.{Event, Nesting, Step, nest_step, Goes, stands, goes}
use Rattle.rx_pages.proofs.Tokens.{same_item}

-- a token for which it counts what follows, and what it has to be
pub data Minds (i : Content) : Token → (ℕ → Bool) → Type 0 where
  a_mark : has_less_than i ≡ true → Minds i (kept (less_than_sign ∷ [])) (λ c. not (begins_markup c))
  an_end : (text name : Chars) → raw_name i ≡ Some name → Minds i (kept (less_than_sign ∷ text)) (stops_end name text)
  a_run : (run : Chars) → keeps_runs i ≡ true → Minds i (kept (ampersand ∷ run)) (stops_at run)

-- the others may stand before anything
pub other_next : (s : Syntax) (i : Content) (text : Chars) {next : Option ℕ} (other : Option ℕ) (token : Token) → ((test : ℕ → Bool) → Minds i token test → IsBefore test next → IsBefore test other) → Spells s i text next token → Spells s i text other token
other_next s i _ other _ k (a_tag text t m sp) = a_tag text t m sp
other_next s i _ other _ k (an_end_of_raw text name t r sp c n) = an_end_of_raw text name t r sp c n
other_next s i _ other _ k (a_character c h) = a_character c h
other_next s i _ other _ k (a_less_than e h b) = a_less_than e h (k _ (a_mark h) b)
other_next s i _ other _ k (a_raw_run text name r h b) = a_raw_run text name r h (k _ (an_end text name r) b)
other_next s i _ other _ k (a_reference body c r b m) = a_reference body c r b m
other_next s i _ other _ k (a_kept_run run l h b) = a_kept_run run l h (k _ (a_run run l) b)
other_next s i _ other _ k (a_comment text e m f) = a_comment text e m f
other_next s i _ other _ k (a_bogus_comment text e m n f) = a_bogus_comment text e m n f
other_next s i _ other _ k (a_question text e m f) = a_question text e m f
other_next s i _ other _ k (a_strict_comment text e m f) = a_strict_comment text e m f
other_next s i _ other _ k (an_instruction text e m f) = an_instruction text e m f
other_next s i _ other _ k (a_section text h f) = a_section text h f
other_next s i _ other _ k (a_doctype text m d) = a_doctype text m d

-- a token that nothing has to follow may stand before anything
pub any_next : (s : Syntax) (i : Content) (text : Chars) (token : Token) → Spells s i text None token → (next : Option ℕ) → Spells s i text next token
any_next s i text token sp next = other_next s i text next token (λ test m b. absurd b) sp

-- what follows the last of some tokens
pub spelled_before : (s : Syntax) (next other : Option ℕ) → ((i : Content) (text : Chars) (token : Token) → Spells s i text next token → Spells s i text other token) → {entries : List PlacedCharacter} {items : List Item} → Spelled s entries next items → Spelled s entries other items
spelled_before s next other k no_more = no_more
spelled_before s next other k (one c run rest item sp f l more) = one c run rest item (by rest sp) f l (spelled_before s next other k more)
  where
    by : (rest : List PlacedCharacter) → Spells s item.content (values (c ∷ run)) (next_of (values rest) next) item.token → Spells s item.content (values (c ∷ run)) (next_of (values rest) other) item.token
    by [] sp = k item.content (values (c ∷ run)) item.token sp
    by (e ∷ rest) sp = sp

next_more : (s : Syntax) (i : Content) (text : Chars) (token : Token) (a run rest : List PlacedCharacter) → Spells s i text (next_of (values a) (next_of (values run) None)) token → Spells s i text (next_of (values (a ++ (run ++ rest))) None) token
next_more s i text token [] [] rest h = any_next s i text token h (next_of (values rest) None)
next_more s i text token _ _ rest h = h

module _ (syntax : Syntax) (depth : ℕ) (meant expected : Nesting → Type 0) where
  -- what is left of the page behind its front
  pub record Behind (all some : List Item) (left : List PlacedCharacter) : Type 0 where
    pub items : List Item
    pub are : all ≡ some ++ items
    pub spelled : Spelled syntax left None items
    pub reached : Nesting
    pub is_meant : meant reached
    pub events : List Event
    pub going : Goes syntax depth expected reached items events

  pub first_tokens : (run rest : List PlacedCharacter) {n : Nesting} {front whole : List PlacedCharacter} {next : Option ℕ} {some all : List Item} {es fs : List Event} → Spelled syntax front next some → Spelled syntax whole None all → next ≡ next_of (values run) None → whole ≡ front ++ (run ++ rest)
      → Goes syntax depth meant n some es → Goes syntax depth expected n all fs → Behind all some (run ++ rest)
  first_tokens run rest {all = all} no_more h w e (stands n m) g = record { items = all; are = refl; spelled = subst (λ xs. Spelled syntax xs None all) e h; reached = n; is_meant = m; events = _; going = g }
  first_tokens run rest (one c r front a sp f l more) no_more w e g h = absurd (cc)
  first_tokens run rest {n = n} (one c r front a {items = items} sp f l more) (one d other others b {items = behind} sq k m most) w e (goes {events = es} a2 step ci st g) (goes {events = fs} b2 next di nt h) =
      let i = same_item syntax c d r other (front ++ (run ++ rest)) others a b (ci ∙ sym di) (sym (append_assoc (c ∷ r) front (run ++ rest)) ∙ sym e)
      (next_more syntax a.content _ a.token front run rest (subst (λ x. Spells syntax a.content (values (c ∷ r)) (next_of (values front) x) a.token) w sp)) sq f l k m in
      let same_ok : Ok step ≡ Ok next = sym st ∙ (ap (nest_step syntax depth n) i.item ∙ nt) in
      let same_step : step ≡ next = cc in
      let r = first_tokens run rest more most w (sym i.rest_is) g (subst (λ (x : Step). Goes syntax depth expected x.next behind fs) (sym same_step) h) in
      record {
        items = r.items;
        are = ap (λ x. b ∷ x) r.are ∙ ap (λ x. x ∷ (items ++ r.items)) (sym i.item);
        spelled = r.spelled;
        reached = r.reached;
        is_meant = r.is_meant;
        events = r.events;
        going = r.going;
      }
