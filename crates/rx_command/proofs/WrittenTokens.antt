-- Tokens of HTML that are written one after another, with characters of one byte each.
use Rattle.rx_reader.proofs.Common.{◌≡◌, ◌∙◌, ℕ, ◌+◌, ◌-◌, ◌≤◌, Bool, true, false, List, [], ◌∷◌, ◌++◌, length, refl, sym, ap, subst, arith, Option, None, ◌&&◌, ◌==◌, not, len_utf8, list_all, and_parts, and_from, ltb-true, nat_tests, list_all-append, is_ascii, less_than_sign, greater_than_sign, right_bracket, solidus, Chars, ascii-same, len_utf8_ascii, PlacedCharacter, IsRead, placed, without_mark, preprocessed, as_line_end, carriage_return, byte_order_mark, Html, Tag, Token, tag, character, SpellsTag, Spells, a_tag, a_character, has_markup, is_text, Tree, Item, Spelled, no_more, one, values, next_of, last_from, Fits, AllFit, is_strict_literal, no_section_end, Document, Page, has_no_nul, Content, Limits}
use Rattle.rx_grammar.specs.declared.contents.Content.TheVariants as content

-- a token, the content that it stands in, its first character and the others
pub record Written : Type 0 where
  pub token : Token
  pub content : Content
  pub first : ℕ
  pub run : Chars

abbrev pub chars_in : List Written → Chars
chars_in [] = []
chars_in (w ∷ ws) = (w.first ∷ w.run) ++ chars_in ws

-- the token that begins at a place
abbrev pub item_of : ℕ → Written → Item
item_of at w = record { token = w.token; content = w.content; first = at; last = at + length w.run }

-- the tokens, where the first begins at a place
abbrev pub items_at : ℕ → List Written → List Item
items_at at [] = []
items_at at (w ∷ ws) = item_of at w ∷ items_at (at + 1 + length w.run) ws

-- a literal character of HTML
abbrev pub letter : ℕ → Written
letter c = record { token = character c; content = content.Html; first = c; run = [] }

-- a text before other tokens
abbrev pub letters : Chars → List Written → List Written
letters [] ws = ws
letters (c ∷ chars) ws = letter c ∷ letters chars ws

-- a tag, of which these characters stand behind its `<`
abbrev pub tag_token : Content → Tag → Chars → Written
tag_token inside t run = record { token = tag t; content = inside; first = less_than_sign; run = run }

-- a start tag of HTML
abbrev pub start_token : Tag → Chars → Written
start_token t run = tag_token content.Html t run

-- the end tag of an element of HTML
abbrev pub end_tag : Chars → Tag
end_tag name = record { closing = true; name = name; attributes = []; slash = false }

abbrev pub end_run : Chars → Chars
end_run name = solidus ∷ (name ++ greater_than_sign ∷ [])

abbrev pub end_token : Chars → Written
end_token name = tag_token content.Html (end_tag name) (end_run name)

-- a character of one byte that is entered as it is
abbrev pub is_plain : ℕ → Bool
is_plain c = is_ascii c && (not (c == carriage_return) && not (c == 0))

-- The token is spelled so whatever follows, and is no longer than a tag may be.
pub record IsWritten (limit : ℕ) (w : Written) : Type 0 where
  pub spells : (next : Option ℕ) → Spells Html w.content (w.first ∷ w.run) next w.token
  pub short : length w.run + 1 ≤ limit
  pub plain : list_all is_plain (w.first ∷ w.run) ≡ true
  pub lenient : (c : ℕ) → is_strict_literal c w.content w.token ≡ false

abbrev pub AreWritten : ℕ → List Written → Type 0
AreWritten limit [] = Unit {0}
AreWritten limit (w ∷ ws) = IsWritten limit w × AreWritten limit ws

-- ---- characters of one byte each

abbrev bytes_at : ℕ → Chars → List PlacedCharacter
bytes_at at [] = []
bytes_at at (c ∷ chars) = record { value = c; first = at; last = at } ∷ bytes_at (at + 1) chars

record IsPlain (c : ℕ) : Type 0 where
  ascii : is_ascii c ≡ true
  no_return : (c == carriage_return) ≡ false
  no_nul : not (c == 0) ≡ true
  no_mark : (c == byte_order_mark) ≡ false

plain_is : (c : ℕ) → is_plain c ≡ true → IsPlain c
plain_is c e = record { ascii = grind (arith, nat_tests); no_return = grind (arith, nat_tests); no_nul = grind (arith, nat_tests); no_mark = grind (arith, nat_tests) }

plain_ascii : (chars : Chars) → list_all is_plain chars ≡ true → list_all is_ascii chars ≡ true
plain_ascii [] e = refl
plain_ascii (c ∷ chars) e = let p = and_parts _ _ e in and_from _ _ (plain_is c p.0).ascii (plain_ascii chars p.1)

entry_is : (c v at last : ℕ) → v ≡ c → last ≡ at → (some others : List PlacedCharacter) → some ≡ others → ◌≡◌ {A = List PlacedCharacter} (record { value = v; first = at; last = last } ∷ some) (record { value = c; first = at; last = at } ∷ others)
entry_is c v at last e l some others r = λ i. record { value = e i; first = at; last = l i } ∷ r i

entered_plain : (at : ℕ) (chars : Chars) → list_all is_plain chars ≡ true → preprocessed false (placed at chars) ≡ bytes_at at chars
entered_plain at [] e = refl
entered_plain at (c ∷ chars) e =
    let p = and_parts (is_plain c) (list_all is_plain chars) e in
    let q = plain_is c p.0 in
    let size : len_utf8 c ≡ 1 = len_utf8_ascii c (ltb-true c 128 q.ascii) in
    entry_is c (as_line_end c) at (at + len_utf8 c - 1) (rw q.no_return refl) (omega (arith, size)) (preprocessed (c == carriage_return) (placed (at + len_utf8 c) chars)) (bytes_at (at + 1) chars)
    (ap (λ b. preprocessed b (placed (at + len_utf8 c) chars)) q.no_return ∙ (ap (λ n. preprocessed false (placed (at + n) chars)) size ∙ entered_plain (at + 1) chars p.1))

unmarked : (chars : Chars) → list_all is_plain chars ≡ true → without_mark (placed 0 chars) ≡ placed 0 chars
unmarked [] e = refl
unmarked (c ∷ chars) e = let p = and_parts (is_plain c) (list_all is_plain chars) e in rw (plain_is c p.0).no_mark refl

read_plain : (chars : Chars) → list_all is_plain chars ≡ true → IsRead chars (bytes_at 0 chars)
read_plain chars e =
    let same = ascii-same chars (plain_ascii chars e) in
    record { characters = chars; scalars = same.1; forms = same.0; read = sym (ap (λ es. preprocessed false es) (unmarked chars e) ∙ entered_plain 0 chars e) }

values_are : (at : ℕ) (chars : Chars) → values (bytes_at at chars) ≡ chars
values_are at [] = refl
values_are at (c ∷ chars) = ap (λ cs. c ∷ cs) (values_are (at + 1) chars)

bytes_append : (at : ℕ) (xs ys : Chars) → bytes_at at (xs ++ ys) ≡ bytes_at at xs ++ bytes_at (at + length xs) ys
bytes_append at [] ys = ap (λ n. bytes_at n ys) (omega arith)
bytes_append at (x ∷ xs) ys =
    ap (λ es. record { value = x; first = at; last = at } ∷ es) (bytes_append (at + 1) xs ys ∙ ap (λ n. bytes_at (at + 1) xs ++ bytes_at n ys) (omega arith))

last_is : (at : ℕ) (run : Chars) → at + length run ≡ last_from at (bytes_at (at + 1) run)
last_is at [] = omega arith
last_is at (c ∷ run) = let r = last_is (at + 1) run in omega (arith, r)

no_nul_in : (at : ℕ) (chars : Chars) → list_all is_plain chars ≡ true → has_no_nul (bytes_at at chars) ≡ true
no_nul_in at [] e = refl
no_nul_in at (c ∷ chars) e = let p = and_parts (is_plain c) (list_all is_plain chars) e in and_from _ _ (plain_is c p.0).no_nul (no_nul_in (at + 1) chars p.1)

-- ---- their tokens

plain_in : (limit : ℕ) (ws : List Written) → AreWritten limit ws → list_all is_plain (chars_in ws) ≡ true
plain_in limit [] h = refl
plain_in limit (w ∷ ws) h = list_all-append is_plain (w.first ∷ w.run) (chars_in ws) ∙ and_from _ _ (h.0).plain (plain_in limit ws h.1)

spelled : (limit at : ℕ) (ws : List Written) → AreWritten limit ws → Spelled Html (bytes_at at (chars_in ws)) None (items_at at ws)
spelled limit at [] h = no_more
spelled limit at (w ∷ ws) h =
    let rest = bytes_at (at + 1 + length w.run) (chars_in ws) in
    subst (λ es. Spelled Html (record { value = w.first; first = at; last = at } ∷ es) None (items_at at (w ∷ ws))) (sym (bytes_append (at + 1) w.run (chars_in ws)))
    (one (record { value = w.first; first = at; last = at }) (bytes_at (at + 1) w.run) rest (item_of at w)
    (subst (λ cs. Spells Html w.content (w.first ∷ cs) (next_of (values rest) None) w.token) (sym (values_are (at + 1) w.run)) ((h.0).spells (next_of (values rest) None))) refl (last_is at w.run) (spelled limit (at + 1 + length w.run) ws h.1))

fits : (limit : ℕ) (item : Item) (t : Token) → item.last + 1 ≤ item.first + limit → Fits limit item t
fits limit item (tag t) l = l
fits limit item _ l = tt

all_fit : (limit at : ℕ) (ws : List Written) → AreWritten limit ws → AllFit limit (items_at at ws)
all_fit limit at [] h = tt
all_fit limit at (w ∷ ws) h = let short = (h.0).short in (fits limit (item_of at w) w.token (omega (arith, short)), all_fit limit (at + 1 + length w.run) ws h.1)

lenient : (limit at : ℕ) (ws : List Written) → AreWritten limit ws → no_section_end (items_at at ws) false false ≡ true
lenient limit at [] h = refl
lenient limit at (w ∷ ws) h = ap (λ b. no_section_end (items_at (at + 1 + length w.run) ws) false b) ((h.0).lenient right_bracket) ∙ lenient limit (at + 1 + length w.run) ws h.1

tag_lenient : (c : ℕ) (inside : Content) (t : Tag) → is_strict_literal c inside (tag t) ≡ false
tag_lenient c (content.Raw name) t = refl
tag_lenient c _ t = refl

pub tag_written : (limit : ℕ) (inside : Content) (t : Tag) (run : Chars) → has_markup inside ≡ true → SpellsTag Html run t → length run + 1 ≤ limit → list_all is_plain run ≡ true → IsWritten limit (tag_token inside t run)
tag_written limit inside t run m s short plain = record { spells = λ next. a_tag run t m s; short = short; plain = and_from (is_plain less_than_sign) (list_all is_plain run) refl plain; lenient = λ c. tag_lenient c inside t }

letter_written : (limit c : ℕ) → 1 ≤ limit → is_text content.Html c ≡ true → is_plain c ≡ true → IsWritten limit (letter c)
letter_written limit c l t p = record { spells = λ next. a_character c t; short = l; plain = and_from (is_plain c) true p refl; lenient = λ d. refl }

-- a character of HTML's text that is written so
abbrev pub is_text_char : ℕ → Bool
is_text_char c = is_text content.Html c && is_plain c

pub letters_written : (limit : ℕ) (chars : Chars) (ws : List Written) → 1 ≤ limit → list_all is_text_char chars ≡ true → AreWritten limit ws → AreWritten limit (letters chars ws)
letters_written limit [] ws l e h = h
letters_written limit (c ∷ chars) ws l e h =
    let p = and_parts (is_text_char c) (list_all is_text_char chars) e in
    let q = and_parts (is_text content.Html c) (is_plain c) p.0 in
    (letter_written limit c l q.0 q.1, letters_written limit chars ws l p.1 h)

-- Such tokens are a page, where they nest as one.
pub page_written : (limits : Limits) (ws : List Written) (tree : Tree) → AreWritten limits.tag ws → length (chars_in ws) ≤ limits.page → Document Html limits.depth (items_at 0 ws) tree → Page Html limits (chars_in ws) tree
page_written limits ws tree h size d =
    let plain = plain_in limits.tag ws h in
    record {
      entries = bytes_at 0 (chars_in ws);
      items = items_at 0 ws;
      size = size;
      read = read_plain (chars_in ws) plain;
      no_nul = no_nul_in 0 (chars_in ws) plain;
      spelled = spelled limits.tag 0 ws h;
      fit = all_fit limits.tag 0 ws h;
      sections = lenient limits.tag 0 ws h;
      document = d;
    }
