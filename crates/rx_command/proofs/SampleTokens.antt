-- The tokens of the sample page of every number: their characters are the page's, and each is spelled as it is written.
use Rattle.rx_grammar.proofs.Common.{list_all, and_parts, and_from, nat_tests, Chars, codes, is_ascii_digit, decimal, digits_decimal, length-decimal-le, Html, Attribute, Tag, character, doctype, a_character, a_doctype, has_markup, start_tag_of, outside, in_html}
use Rattle.rx_command.proofs.Common.{◌≡◌, ◌∙◌, ℕ, zero, suc, ◌+◌, ◌*◌, ◌≤◌, true, false, List, [], ◌∷◌, ◌++◌, length, refl, sym, ap, arith, append_assoc, length-append, standard_limits, most_items, head, item_before, item_behind, items_to, behind_items, sample_page, subst, Tree, end, element, Document, Page, nothing, no_more, passed, SamplesArePages, a_doctype as a_leading_doctype}
use Rattle.rx_terms.specs.Ascii.{line_feed, less_than_sign}
use Rattle.std.proofs.lemmas.Str.Parse.{numerals_by_value}
use Rattle.rx_reader.proofs.TagLaws.{spells_each}
use Rattle.rx_reader.specs.Laws.{ReadsTag}
use Rattle.rx_job.proofs.NumberLemmas.{tells}
use Rattle.rx_command.proofs.WrittenTokens.{Written, chars_in, letter, letters, tag_token, start_token, end_tag, end_run, end_token, is_text_char, IsWritten, AreWritten, is_plain, tag_written, letters_written, item_of, items_at, page_written}
use Rattle.rx_command.proofs.WrittenNodes.{Encloses, enclosed, Held, HeldAnywhere, held_none, held_letters, held_element, taken_all, element_taken}
use Rattle.rx_grammar.specs.declared.contents.Content.{Content}
use Rattle.rx_grammar.specs.declared.contents.Content.TheVariants as content
use Rattle.rx_rdfa.specs.Standard as names

-- ---- the tokens

abbrev a_start : Chars → List Attribute → Tag
a_start name attributes = record { closing = false; name = name; attributes = attributes; slash = false }

abbrev doctype_run : Chars
doctype_run = codes "!DOCTYPE html>"

abbrev pub html_run : Chars
html_run = codes "html vocab=\"http://schema.org/\">"

abbrev pub body_run : Chars
body_run = codes "body typeof=\"ItemList\">"

abbrev pub div_run : Chars
div_run = codes "div property=\"itemListElement\" typeof=\"Product\">"

abbrev pub span_run : Chars
span_run = codes "span property=\"name\">"

abbrev pub html_tag : Tag
html_tag = a_start (codes "html") ((codes "vocab", codes "http://schema.org/") ∷ [])

abbrev pub body_tag : Tag
body_tag = a_start (codes "body") ((codes "typeof", codes "ItemList") ∷ [])

abbrev pub div_tag : Tag
div_tag = a_start (codes "div") ((codes "property", codes "itemListElement") ∷ (codes "typeof", codes "Product") ∷ [])

abbrev pub span_tag : Tag
span_tag = a_start (codes "span") ((codes "property", codes "name") ∷ [])

-- before the root and after it
abbrev pub doctype_token : Written
doctype_token = record { token = doctype; content = content.Outside; first = less_than_sign; run = doctype_run }

abbrev pub line_end : Written
line_end = record { token = character line_feed; content = content.Outside; first = line_feed; run = [] }

abbrev pub html_token : Written
html_token = tag_token content.Outside html_tag html_run

-- an item and what follows it
abbrev pub name_behind : List Written → List Written
name_behind more = end_token (codes "span") ∷ end_token (codes "div") ∷ letter line_feed ∷ more

abbrev pub name_in : ℕ → List Written → List Written
name_in i more = letters (codes "Item ") (letters (decimal i) (name_behind more))

abbrev pub item_tokens : ℕ → List Written → List Written
item_tokens i more = start_token div_tag div_run ∷ start_token span_tag span_run ∷ name_in i more

-- so many items and what follows them
abbrev pub tokens_of : ℕ → List Written → List Written
tokens_of zero more = more
tokens_of (suc i) more = tokens_of i (item_tokens i more)

abbrev pub html_closed : List Written
html_closed = end_token (codes "html") ∷ line_end ∷ []

abbrev pub body_closed : List Written
body_closed = end_token (codes "body") ∷ letter line_feed ∷ html_closed

abbrev pub in_body : ℕ → List Written
in_body count = letter line_feed ∷ tokens_of count body_closed

abbrev pub in_root : ℕ → List Written
in_root count = letter line_feed ∷ start_token body_tag body_run ∷ in_body count

abbrev pub page_tokens : ℕ → List Written
page_tokens count = doctype_token ∷ line_end ∷ html_token ∷ in_root count

-- ---- their characters

letters_chars : (chars : Chars) (ws : List Written) → chars_in (letters chars ws) ≡ chars ++ chars_in ws
letters_chars [] ws = refl
letters_chars (c ∷ chars) ws = ap (λ cs. c ∷ cs) (letters_chars chars ws)

grouped : (a b c d : Chars) → a ++ (b ++ (c ++ d)) ≡ ((a ++ b) ++ c) ++ d
grouped a b c d = sym (append_assoc a b (c ++ d)) ∙ sym (append_assoc (a ++ b) c d)

abbrev item_start : Chars
item_start = codes "<div property=\"itemListElement\" typeof=\"Product\"><span property=\"name\">Item "

item_chars : (i : ℕ) (more : List Written) → chars_in (item_tokens i more) ≡ (item_before i ++ item_behind) ++ chars_in more
item_chars i more = ap (λ cs. item_start ++ cs) (letters_chars (decimal i) (name_behind more)) ∙ grouped item_start (decimal i) item_behind (chars_in more)

items_chars : (n : ℕ) (more : List Written) → head ++ chars_in (tokens_of n more) ≡ items_to n ++ chars_in more
items_chars zero more = refl
items_chars (suc n) more =
    items_chars n (item_tokens n more) ∙ (ap (λ cs. items_to n ++ cs) (item_chars n more) ∙ sym (append_assoc (items_to n) (item_before n ++ item_behind) (chars_in more)))

pub page_chars : (count : ℕ) → chars_in (page_tokens count) ≡ sample_page count
page_chars count = items_chars count body_closed

-- ---- how they are spelled

abbrev limit : ℕ
limit = standard_limits.tag

doctype_spelled : IsWritten limit doctype_token
doctype_spelled = record {
  spells = λ next. a_doctype (codes "DOCTYPE html>") refl (record { keyword = codes "DOCTYPE"; spaces = codes " "; name = codes "html"; rest = []; are = refl; keyword_is = refl; apart = refl; name_is = refl; passed = refl; after = λ c more e. absurd (cc) });
  short = omega arith;
  plain = refl;
  lenient = λ c. refl;
}

line_end_spelled : IsWritten limit line_end
line_end_spelled = record { spells = λ next. a_character line_feed refl; short = omega arith; plain = refl; lenient = λ c. refl }

digit_text : (c : ℕ) → is_ascii_digit c ≡ true → is_text_char c ≡ true
digit_text c e = grind (arith, nat_tests)

digits_text : (digits : Chars) → list_all is_ascii_digit digits ≡ true → list_all is_text_char digits ≡ true
digits_text [] e = refl
digits_text (c ∷ digits) e = let p = and_parts (is_ascii_digit c) (list_all is_ascii_digit digits) e in and_from _ _ (digit_text c p.0) (digits_text digits p.1)

gap_written : (ws : List Written) → AreWritten limit ws → AreWritten limit (letter line_feed ∷ ws)
gap_written ws h = letters_written limit (line_feed ∷ []) ws (omega arith) refl h

-- a tag that is read as it is written
tag_here : (inside : Content) (t : Tag) (run : Chars) → has_markup inside ≡ true → ReadsTag Html run t → length run + 1 ≤ limit → list_all is_plain run ≡ true → IsWritten limit (tag_token inside t run)
tag_here inside t run m r short plain = tag_written limit inside t run m (spells_each Html run t r) short plain

number_text : (n : ℕ) → n ≤ most_items → list_all is_text_char (decimal n) ≡ true
number_text n l = digits_text (decimal n) (digits_decimal (numerals_by_value (λ ds. list_all is_ascii_digit ds ≡ true) tells) n (omega (arith, l)))

item_spelled : (i : ℕ) (more : List Written) → i ≤ most_items → AreWritten limit more → AreWritten limit (item_tokens i more)
item_spelled i more l h = (
  tag_here content.Html div_tag div_run refl (record { last = _; run = refl; whole = refl; is_tag = refl }) (omega arith) refl,
  (
    tag_here content.Html span_tag span_run refl (record { last = _; run = refl; whole = refl; is_tag = refl }) (omega arith) refl,
    letters_written limit (codes "Item ") (letters (decimal i) (name_behind more)) (omega arith) refl
        (letters_written limit (decimal i) (name_behind more) (omega arith) (number_text i l) (tag_here content.Html (end_tag (codes "span")) (end_run (codes "span")) refl (record { last = _; run = refl; whole = refl; is_tag = refl }) (omega arith) refl, (tag_here content.Html (end_tag (codes "div")) (end_run (codes "div")) refl (record { last = _; run = refl; whole = refl; is_tag = refl }) (omega arith) refl, gap_written more h))),
  ),
)

items_spelled : (n : ℕ) (more : List Written) → n ≤ most_items → AreWritten limit more → AreWritten limit (tokens_of n more)
items_spelled zero more l h = h
items_spelled (suc n) more l h = items_spelled n (item_tokens n more) (omega (arith, l)) (item_spelled n more (omega (arith, l)) h)

pub page_spelled : (count : ℕ) → count ≤ most_items → AreWritten limit (page_tokens count)
page_spelled count l = (
  doctype_spelled,
  (
    line_end_spelled,
    (
      tag_here content.Outside html_tag html_run refl (record { last = _; run = refl; whole = refl; is_tag = refl }) (omega arith) refl,
      gap_written (start_token body_tag body_run ∷ in_body count) (
        tag_here content.Html body_tag body_run refl (record { last = _; run = refl; whole = refl; is_tag = refl }) (omega arith) refl,
        gap_written (tokens_of count body_closed)
            (items_spelled count body_closed l (tag_here content.Html (end_tag (codes "body")) (end_run (codes "body")) refl (record { last = _; run = refl; whole = refl; is_tag = refl }) (omega arith) refl, gap_written html_closed (tag_here content.Html (end_tag (codes "html")) (end_run (codes "html")) refl (record { last = _; run = refl; whole = refl; is_tag = refl }) (omega arith) refl, (line_end_spelled, tt)))),
      ),
    ),
  ),
)

-- ---- how large they are

items_size : (n : ℕ) → n ≤ most_items → length (items_to n) ≤ 77 + n * 106
items_size zero l = omega arith
items_size (suc n) l =
    let before = items_size n (omega (arith, l)) in
    let number : length (decimal n) ≤ 6 = length-decimal-le 6 n (omega arith) (omega (arith, l)) (omega (arith, l)) in
    let start : length (item_start ++ decimal n) ≡ 76 + length (decimal n) = length-append item_start (decimal n) in
    let whole : length (item_before n ++ item_behind) ≡ length (item_before n) + 14 = length-append (item_before n) item_behind in
    let all : length (items_to n ++ (item_before n ++ item_behind)) ≡ length (items_to n) + length (item_before n ++ item_behind) = length-append (items_to n) (item_before n ++ item_behind) in
    omega (arith, before, number, start, whole, all)

pub page_size : (count : ℕ) → count ≤ most_items → length (sample_page count) ≤ standard_limits.page
page_size count l =
    let items = items_size count l in
    let all : length (sample_page count) ≡ length (items_to count) + 16 = length-append (items_to count) behind_items in
    omega (arith, items, all, l)

-- ---- the tokens of the sample page of every number nest as a page, of which no start tag is refused

div_encloses : Encloses in_html div_tag
div_encloses = record { start = refl; allowed = refl; known = refl; several = refl; undropped = refl; inside = refl; seen = refl; closed = refl; taken = λ context line. refl }

span_encloses : Encloses in_html span_tag
span_encloses = record { start = refl; allowed = refl; known = refl; several = refl; undropped = refl; inside = refl; seen = refl; closed = refl; taken = λ context line. refl }

body_encloses : Encloses in_html body_tag
body_encloses = record { start = refl; allowed = refl; known = refl; several = refl; undropped = refl; inside = refl; seen = refl; closed = refl; taken = λ context line. refl }

html_encloses : Encloses outside html_tag
html_encloses = record { start = refl; allowed = refl; known = refl; several = refl; undropped = refl; inside = refl; seen = refl; closed = refl; taken = λ context line. refl }

name_held : (i : ℕ) (more : List Written) → HeldAnywhere 508 (codes "span") (name_in i more) (name_behind more)
name_held i more =
    held_letters 508 (codes "span") (codes "Item ") (letters (decimal i) (name_behind more)) (name_behind more)
    (held_letters 508 (codes "span") (decimal i) (name_behind more) (name_behind more) (held_none 508 (codes "span") (name_behind more)))

item_held : (i : ℕ) (more rest : List Written) → HeldAnywhere 510 (codes "body") more rest → HeldAnywhere 510 (codes "body") (item_tokens i more) rest
item_held i more rest h =
    held_element 509 (codes "body") div_tag div_run (start_token span_tag span_run ∷ name_in i more) (letter line_feed ∷ more) rest div_encloses
    (held_element 508 (codes "div") span_tag span_run (name_in i more) (end_token (codes "div") ∷ letter line_feed ∷ more) (end_token (codes "div") ∷ letter line_feed ∷ more) span_encloses
    (name_held i more) (held_none 509 (codes "div") (end_token (codes "div") ∷ letter line_feed ∷ more)))
    (held_letters 510 (codes "body") (line_feed ∷ []) more rest h)

items_held : (n : ℕ) (more rest : List Written) → HeldAnywhere 510 (codes "body") more rest → HeldAnywhere 510 (codes "body") (tokens_of n more) rest
items_held zero more rest h = h
items_held (suc n) more rest h = items_held n (item_tokens n more) rest (item_held n more rest h)

root_held : (count : ℕ) → HeldAnywhere 511 (codes "html") (in_root count) html_closed
root_held count =
    held_letters 511 (codes "html") (line_feed ∷ []) (start_token body_tag body_run ∷ in_body count) html_closed
    (held_element 510 (codes "html") body_tag body_run (in_body count) (letter line_feed ∷ html_closed) html_closed body_encloses
    (held_letters 510 (codes "body") (line_feed ∷ []) _ body_closed (items_held count body_closed _ (held_none 510 (codes "body") _)))
    (held_letters 511 (codes "html") (line_feed ∷ []) html_closed html_closed (held_none 511 (codes "html") html_closed)))

-- where the inside of the root begins
abbrev root_inside : ℕ
root_inside = 16 + 1 + length html_run

-- the tree of the root's inside
abbrev tree_of : Tree → Tree
tree_of inside = element (start_tag_of (item_of 16 html_token) html_tag) inside end

document : (count : ℕ) (h : Held 511 (codes "html") root_inside (in_root count) html_closed) → Document Html 512 (items_at 0 (page_tokens count)) (tree_of h.tree)
document count h = record {
  before = item_of 0 doctype_token ∷ item_of 15 line_end ∷ [];
  root = item_of 16 html_token;
  from = items_at root_inside (in_root count);
  after = items_at (h.to + 1 + 6) (line_end ∷ []);
  doctype_stands = true;
  t = html_tag;
  inside = h.tree;
  are = refl;
  lead = a_leading_doctype _ refl refl (passed _ refl refl no_more);
  opens = record { content = refl; token = refl; start = refl; allowed = refl; known = refl };
  named = refl;
  tree_is = refl;
  holds = enclosed 511 outside [] (item_of 16 html_token) (item_of h.to (end_token (codes "html"))) html_tag _ _ _ h.tree end html_encloses refl refl refl refl h.holds nothing;
  trail = passed _ refl refl no_more;
}

pub samples_are_pages : SamplesArePages
samples_are_pages count l =
    let h = root_held count root_inside in
    let page : Page Html standard_limits (chars_in (page_tokens count)) (tree_of h.tree) =
    page_written standard_limits (page_tokens count) (tree_of h.tree) (page_spelled count l) (subst (λ cs. length cs ≤ standard_limits.page) (sym (page_chars count)) (page_size count l)) (document count h) in (
      tree_of h.tree,
      record {
        page = subst (λ cs. Page Html standard_limits cs (tree_of h.tree)) (page_chars count) page;
        accepted = taken_all (tree_of h.tree) (element_taken (start_tag_of (item_of 16 html_token) html_tag) h.tree end html_encloses.taken h.taken (λ context line more. refl)) names.standard;
      },
    )
