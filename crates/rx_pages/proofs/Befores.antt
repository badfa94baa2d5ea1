-- A token that something follows stands before a `<` too; outside the root, and where it is a tag, also before nothing.
use Rattle.rx_reader.proofs.Common.{◌≡◌, ◌≢◌, ◌∙◌, ◌⊎◌, inl, inr, ℕ, Bool, true, false, List, [], ◌∷◌, ◌++◌, Option, Some, None, refl, ap, sym, eqb-true, ◌||◌, ◌&&◌, ◌==◌, not, list_all, ampersand, solidus, semicolon, number_sign, less_than_sign, lowered_char, is_letter, is_digit, is_letter_or_digit, Chars, lowered, begins_with, both, and-false, PlacedCharacter, Syntax, same, is_hexadecimal_digit, is_x, is_body, begins_number, is_begun, stops_at, Token, tag, ends_name, Spells, has_less_than, keeps_runs, raw_name, begins_end, Item, last_from, Spelled, no_more, one, values, next_of, Content, unless}
use Rattle.rx_grammar.specs.declared.contents.Content.TheVariants as content
use Rattle.rx_pages.proofs.Prefix.{Minds, a_mark, an_end, a_run, other_next, spelled_before}
use Rattle.rx_pages.proofs.TokenWalk.{IsKept, is_kept}
use Rattle.rx_pages.proofs.RawEnds.{is_raw_name}

none_less : (test : ℕ → Bool) → test 60 ≡ false → (text : Chars) → list_all test (text ++ 60 ∷ []) ≡ false
none_less test h [] = ap (λ b. b && true) h
none_less test h (c ∷ text) = ap (λ b. test c && b) (none_less test h text) ∙ and-false (test c)

neither_way : (a x b y : Bool) → x ≡ false → y ≡ false → (a && x || b && y) ≡ false
neither_way a x b y h k = rw (h, k, and-false a, and-false b) refl

-- no reference goes on with it
number_stops : (text : Chars) → begins_number (text ++ 60 ∷ []) ≡ false
number_stops [] = refl
number_stops (c ∷ text) = neither_way (is_digit c) (list_all is_digit (text ++ 60 ∷ [])) (is_x c) (list_all is_hexadecimal_digit (text ++ 60 ∷ [])) (none_less is_digit refl text) (none_less is_hexadecimal_digit refl text)

run_stops : (run : Chars) → is_begun (run ++ 60 ∷ []) ≡ false
run_stops [] = refl
run_stops (c ∷ text) = neither_way (is_letter c) (list_all is_letter_or_digit (text ++ 60 ∷ [])) (c == number_sign) (begins_number (text ++ 60 ∷ [])) (none_less is_letter_or_digit refl text) (number_stops text)

stops : (run : Chars) → stops_at run 60 ≡ true
stops run = ap (λ b. not b && not (60 == semicolon && is_body run)) (run_stops run)

-- nor the end tag of a raw element
no_front : (word name : Chars) → list_all is_letter name ≡ true → begins_with (lowered (word ++ 60 ∷ [])) name ≡ false
no_front [] [] h = refl
no_front (c ∷ word) [] h = refl
no_front [] (d ∷ name) h = ap (λ b. b && true) (unless is_letter d (60 == d) (both (is_letter d) _ h).0 (λ e. ap is_letter (sym (eqb-true 60 d e))))
no_front (c ∷ word) (d ∷ name) h = ap (λ b. lowered_char c == d && b) (no_front word name (both (is_letter d) _ h).1) ∙ and-false (lowered_char c == d)

no_end : (name text : Chars) → list_all is_letter name ≡ true → begins_end name (text ++ 60 ∷ []) ≡ false
no_end name [] h = refl
no_end name (c ∷ text) h = ap (λ b. lowered_char c == solidus && b) (no_front text name h) ∙ and-false (lowered_char c == solidus)

before_less : (s : Syntax) (i : Content) (text : Chars) (next : Option ℕ) (token : Token) → Spells s i text next token → Spells s i text (Some 60) token
before_less s i text next token sp = other_next s i text (Some 60) token (λ test m b. by test m) sp
  where
    by : {token : Token} (test : ℕ → Bool) → Minds i token test → test 60 ≡ true
    by _ (a_mark h) = refl
    by _ (an_end text name r) = ap (λ b. not b && not (same (lowered text) (solidus ∷ name) && ends_name 60)) (no_end name text (is_raw_name i name r).letters) ∙ ap not (and-false (same (lowered text) (solidus ∷ name)))
    by _ (a_run run h) = stops run

abbrev pub is_tag : Token → Bool
is_tag (tag t) = true
is_tag _ = false

-- nothing has to follow such a token
abbrev pub IsLast : Content → Token → Type 0
IsLast i token = (is_tag token ≡ true) ⊎ (i ≡ content.Outside)

-- What minds the next character is a run that is kept, and none is outside the root.
pub kept_inside : {i : Content} {token : Token} {test : ℕ → Bool} → Minds i token test → IsKept token × (i ≢ content.Outside)
kept_inside (a_mark h) = (is_kept (less_than_sign ∷ []) refl, λ o. (let w = sym (ap has_less_than o) ∙ h in cc))
kept_inside (an_end text name r) = (is_kept (less_than_sign ∷ text) refl, λ o. (let w = sym (ap raw_name o) ∙ r in cc))
kept_inside (a_run run k) = (is_kept (ampersand ∷ run) refl, λ o. (let w = sym (ap keeps_runs o) ∙ k in cc))

pub before_nothing : (s : Syntax) (i : Content) (text : Chars) (next : Option ℕ) (token : Token) → IsLast i token → Spells s i text next token → Spells s i text None token
before_nothing s i text next token l sp = other_next s i text None token (λ test m b. by (kept_inside m) l) sp
  where
    by : IsKept token × (i ≢ content.Outside) → IsLast i token → ⊥
    by (is_kept x k, n) (inl t) = absurd (let w = sym (ap is_tag k) ∙ t in cc)
    by (k, n) (inr e) = n e

module _ (syntax : Syntax) where
  pub spelled_less : {entries : List PlacedCharacter} {next : Option ℕ} {items : List Item} → Spelled syntax entries next items → Spelled syntax entries (Some 60) items
  spelled_less {next = next} h = spelled_before syntax next (Some 60) (λ i text token. before_less syntax i text next token) h

  -- the last of some tokens is such a one
  abbrev pub LastIs : List Item → Type 0
  LastIs [] = Unit {0}
  LastIs (item ∷ []) = IsLast item.content item.token
  LastIs (item ∷ other ∷ items) = LastIs (other ∷ items)

  last_by : (c : PlacedCharacter) (run : List PlacedCharacter) (item : Item) → item.first ≡ c.first → item.last ≡ last_from c.last run → {rest : List PlacedCharacter} {next : Option ℕ} {items : List Item} → Spelled syntax rest next items
      → Spells syntax item.content (values (c ∷ run)) (next_of (values rest) next) item.token → LastIs (item ∷ items) → (LastIs items → Spelled syntax rest None items) → Spelled syntax ((c ∷ run) ++ rest) None (item ∷ items)
  last_by c run item f l {next = next} no_more sp h again = one c run [] item (before_nothing syntax item.content (values (c ∷ run)) next item.token h sp) f l no_more
  last_by c run item f l (one d other others i sp2 f2 l2 more) sp h again = one c run ((d ∷ other) ++ others) item sp f l (again h)

  pub spelled_last : {entries : List PlacedCharacter} {next : Option ℕ} {items : List Item} → Spelled syntax entries next items → LastIs items → Spelled syntax entries None items
  spelled_last no_more h = no_more
  spelled_last (one c run rest item sp f l more) h = last_by c run item f l more sp h (λ k. spelled_last more k)
