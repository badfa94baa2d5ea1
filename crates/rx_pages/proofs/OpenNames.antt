-- The names of open elements: their end tags are spelled with them.
use Rattle.rx_reader.proofs.Common.{◌≡◌, ◌∙◌, inl, inr, ℕ, ◌+◌, ◌<◌, Bool, true, false, [], ◌∷◌, ◌++◌, Option, refl, ap, sym, subst, arith, ◌&&◌, ◌==◌, not, map, list_all, scalar, low_scalar, and_from, cond-true, cond-false, nat_tests, Chars, lowered, both, by_test, not_both_ways, Syntax, Html, Xhtml, Tag, tag, ends_name, begins_tag, is_tag_char, Shape, a_start, an_end, is_tag_name, is_strict_start, is_strict_char, cased, is_repeated, SpellsTag, Spells, a_tag, an_end_of_raw, place_inside, StartTag, Line, inside_of, Content, of_one, unless, kept_case}
use Rattle.rx_terms.specs.Ascii.{solidus, greater_than_sign, carriage_return, line_feed, lowered_char, is_letter, between}
use Rattle.rx_pages.proofs.Entered.{all_parts}
use Rattle.rx_pages.proofs.Judged.{IsEndable, endable}

-- a character of a page
abbrev pub is_fair : ℕ → Bool
is_fair c = scalar c && not (c == 0)

-- A name that a start tag has: its end tag is spelled with it, and its characters stand in pages.
pub record IsName (syntax : Syntax) (name : Chars) : Type 0 where
  pub whole : is_tag_name syntax name ≡ true
  pub low : cased syntax name ≡ name
  pub fair : list_all is_fair name ≡ true

low_again : (c : ℕ) → lowered_char (lowered_char c) ≡ lowered_char c
low_again c = grind (arith, nat_tests)

all_low : (text : Chars) → lowered (lowered text) ≡ lowered text
all_low [] = refl
all_low (c ∷ text) = ap (λ d. d ∷ lowered (lowered text)) (low_again c) ∙ ap (λ x. lowered_char c ∷ x) (all_low text)

low_letter : (c : ℕ) → is_letter c ≡ true → is_letter (lowered_char c) ≡ true
low_letter c h = grind (arith, nat_tests)

low_char : (c : ℕ) → not (ends_name c) ≡ true → not (ends_name (lowered_char c)) ≡ true
low_char c h = by_test {G = not (ends_name (lowered_char c)) ≡ true} (between 65 90 c) (λ t. ap (λ d. not (ends_name d)) (cond-true (between 65 90 c) (c + 32) c t) ∙ letter c t) (λ t. ap (λ d. not (ends_name d)) (cond-false (between 65 90 c) (c + 32) c t) ∙ h)
  where
    letter : (c : ℕ) → between 65 90 c ≡ true → not (ends_name (c + 32)) ≡ true
    letter c h = grind (arith, nat_tests)

small : (c : ℕ) → between 65 90 c ≡ true → c + 32 < 55296
small c h = grind (arith, nat_tests)

some : (c : ℕ) → not (c + 32 == 0) ≡ true
some c = grind (arith, nat_tests)

low_fair : (c : ℕ) → is_fair c ≡ true → is_fair (lowered_char c) ≡ true
low_fair c h =
    by_test {G = is_fair (lowered_char c) ≡ true} (between 65 90 c)
    (λ t. ap is_fair (cond-true (between 65 90 c) (c + 32) c t) ∙ and_from (scalar (c + 32)) (not (c + 32 == 0)) (low_scalar (c + 32) (small c t)) (some c))
    (λ t. ap is_fair (cond-false (between 65 90 c) (c + 32) c t) ∙ h)

-- what a test says of characters it says of others
all_as : (test other : ℕ → Bool) (f : ℕ → ℕ) → ((c : ℕ) → test c ≡ true → other (f c) ≡ true) → (text : Chars) → list_all test text ≡ true → list_all other (map f text) ≡ true
all_as test other f keeps [] h = refl
all_as test other f keeps (c ∷ text) h = let k = both (test c) _ h in and_from (other (f c)) _ (keeps c k.0) (all_as test other f keeps text k.1)

low_name : (name : Chars) → is_tag_name Html name ≡ true → is_tag_name Html (lowered name) ≡ true
low_name [] h = absurd (cc)
low_name (c ∷ name) h =
    let k = both (is_letter c) _ h in and_from (is_letter (lowered_char c)) _ (low_letter c k.0) (all_as (λ c. not (ends_name c)) (λ c. not (ends_name c)) lowered_char low_char name k.1)

is_name : (s : Syntax) (name : Chars) → is_tag_name s name ≡ true → list_all is_fair name ≡ true → IsName s (cased s name)
is_name Html name h f = record { whole = low_name name h; low = all_low name; fair = all_as is_fair is_fair lowered_char low_fair name f }
is_name Xhtml name h f = subst (λ x. IsName Xhtml x) (sym (kept_case name)) (record { whole = h; low = kept_case name; fair = f })

shape_name : (s : Syntax) (text : Chars) (t : Tag) → Shape s text t → t.closing ≡ false → list_all is_fair text ≡ true → IsName s (cased s t.name)
shape_name s _ _ (a_start name rest n b attributes) c f = is_name s name n (all_parts is_fair name rest f).0
shape_name s _ _ (an_end name spaces n w) c f = absurd (cc)

tag_name : (s : Syntax) (text : Chars) (t : Tag) → SpellsTag s text t → t.closing ≡ false → list_all is_fair text ≡ true → IsName s t.name
tag_name s text t sp c f =
    let closing : sp.reads.written.closing ≡ false = sym sp.reads.closing ∙ (sym (ap (λ (x : Tag). x.closing) sp.is_tag) ∙ c) in
    let name : t.name ≡ cased s sp.reads.written.name = ap (λ (x : Tag). x.name) sp.is_tag ∙ sp.reads.name in
    subst (λ x. IsName s x) (sym name) (shape_name s text sp.reads.written sp.reads.shape closing f)

-- the name of a start tag
pub start_name : (s : Syntax) (i : Content) (text : Chars) (next : Option ℕ) (t : Tag) → Spells s i text next (tag t) → t.closing ≡ false → list_all is_fair text ≡ true → IsName s t.name
start_name s i _ next _ (a_tag text t m sp) c f = tag_name s text t sp c (both (is_fair 60) _ f).1
start_name s i _ next _ (an_end_of_raw text name t r sp e n) c f = absurd (not_both_ways t.closing e c)

-- the end tag of a name
abbrev pub ending : Chars → Tag
ending name = record { closing = true; name = name; attributes = []; slash = false }

abbrev pub ending_text : Chars → Chars
ending_text name = solidus ∷ (name ++ greater_than_sign ∷ [])

spells_ending : (s : Syntax) (name : Chars) → IsName s name → SpellsTag s (ending_text name) (ending name)
spells_ending s name n =
    record {
      parts = ending name;
      reads = record { written = ending name; shape = an_end name [] n.whole refl; closing = refl; name = sym n.low; attributes = tt; slash = refl };
      unrepeated = none s;
      is_tag = refl;
    }
  where
    none : (s : Syntax) → is_repeated s [] ≡ false
    none Html = refl
    none Xhtml = refl

-- the end tag of the innermost element, whatever comes next
pub spells_end : (s : Syntax) (t : StartTag) (above : Line) → IsName s t.name → (next : Option ℕ) → Spells s (inside_of s (t ∷ above)).content (60 ∷ ending_text t.name) next (tag (ending t.name))
spells_end s t above n next = by (endable s (inside_of s above) t.name)
  where
    by : IsEndable t.name (place_inside s (inside_of s above) t.name) → Spells s (inside_of s (t ∷ above)).content (60 ∷ ending_text t.name) next (tag (ending t.name))
    by (inl m) = a_tag (ending_text t.name) (ending t.name) m (spells_ending s t.name n)
    by (inr r) = an_end_of_raw (ending_text t.name) t.name (ending t.name) r (spells_ending s t.name n) refl refl

-- a character that is entered as it is, whatever stands before it
abbrev pub is_steady : ℕ → Bool
is_steady c = not (c == carriage_return) && not (c == line_feed)

steady_by : (test : ℕ → Bool) (c : ℕ) → test c ≡ true → test 13 ≡ false → test 10 ≡ false → is_steady c ≡ true
steady_by test c h r f =
    let returned : (c == carriage_return) ≡ false = unless test c (c == carriage_return) h (λ e. of_one (λ x. test x ≡ false) c carriage_return e r) in
    let feed : (c == line_feed) ≡ false = unless test c (c == line_feed) h (λ e. of_one (λ x. test x ≡ false) c line_feed e f) in
    rw (returned, feed) refl

tag_char_steady : (s : Syntax) (c : ℕ) → is_tag_char s c ≡ true → is_steady c ≡ true
tag_char_steady Html c h = steady_by (λ x. not (ends_name x)) c h refl refl
tag_char_steady Xhtml c h = steady_by is_strict_char c h refl refl

begins_steady : (s : Syntax) (c : ℕ) → begins_tag s c ≡ true → is_steady c ≡ true
begins_steady Html c h = steady_by is_letter c h refl refl
begins_steady Xhtml c h = steady_by is_strict_start c h refl refl

all_steady : (s : Syntax) (text : Chars) → list_all (is_tag_char s) text ≡ true → list_all is_steady text ≡ true
all_steady s [] h = refl
all_steady s (c ∷ text) h = let k = both (is_tag_char s c) _ h in and_from (is_steady c) _ (tag_char_steady s c k.0) (all_steady s text k.1)

pub name_steady : (s : Syntax) (name : Chars) → IsName s name → list_all is_steady name ≡ true
name_steady s name n = by name n.whole
  where
    by : (name : Chars) → is_tag_name s name ≡ true → list_all is_steady name ≡ true
    by [] h = refl
    by (c ∷ name) h = let k = both (begins_tag s c) _ h in and_from (is_steady c) _ (begins_steady s c k.0) (all_steady s name k.1)
