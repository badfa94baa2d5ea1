-- A text spells at most one document.
use Rattle.rx_notation.proofs.Common.{◌≡◌, ◌∙◌, ℕ, ◌<◌, Bool, true, false, List, [], ◌∷◌, ◌++◌, codes, refl, sym, ap, ap₂, true≢false, arith, append_assoc, append-nil, bytes_eq, not, ◌==◌, ◌||◌, if◌then◌else◌, list_all, list_any, and_parts, and_from, nat_tests, is_letter, colon, line_feed, quotation_mark, less_than_sign, low_line, space, commercial_at, circumflex_accent, Chars, is_name_char, is_prefix_name, is_local_name, Reference, Full, Short, Subject, Named, Labelled, Suffix, Bare, Language, Datatype, Terminal, At_prefix, Small_a, Full_stop, Semicolon_sign, Comma_sign, Left_bracket, Right_bracket, Brackets, Left_parenthesis, Right_parenthesis, Parentheses, TurtleToken, terminal, declared, iri_or_label, quoted, document_tokens, terminal_text, SpellsReference, SpellsSubject, SpellsSuffix, SpellsQuoted, SpellsToken, is_separator, is_spacing, SpellsBehind, SpellsTokens, TurtleSpellsOne}
use Rattle.rx_model.proofs.Sets.{or_right, false_unless}
use Rattle.rx_nquads.specs.Spelling.{tagged}
use Rattle.rx_nquads.proofs.Cuts.{lacks, cut, lacks_where}
use Rattle.rx_nquads.proofs.OneMeaning.{space_marks, line_feed_marks, iri_lacks, label_lacks, kind_lacks, one_iri, one_label, one_string}
use Rattle.rx_notation.proofs.OneDocument.{one_document}

-- ---- lists cut where a test fails

is_same : (c d : ℕ) → (c == d) ≡ true → c ≡ d
is_same c d e = grind (arith, nat_tests, e)

-- a number that passes a test is none that fails it
other : (test : ℕ → Bool) (mark c : ℕ) → test mark ≡ false → test c ≡ true → (c == mark) ≡ false
other test mark c n h = false_unless (c == mark) (λ e. true≢false (sym h ∙ ap test (is_same c mark e) ∙ n))

-- the list begins with a number that fails the test
abbrev pub stops : (ℕ → Bool) → List ℕ → Bool
stops test [] = false
stops test (c ∷ list) = not (test c)

cut_where : (test : ℕ → Bool) (a b x y : List ℕ) → list_all test a ≡ true → list_all test b ≡ true → stops test x ≡ true → stops test y ≡ true → a ++ x ≡ b ++ y → (a ≡ b) × (x ≡ y)
cut_where test [] [] x y h k p q e = (refl, e)
cut_where test [] (c ∷ b) x y h k p q e =
    let passes : test c ≡ true = (and_parts _ _ k).0 in absurd (true≢false (sym p ∙ ap (stops test) e ∙ ap not passes))
cut_where test (c ∷ a) [] x y h k p q e =
    let passes : test c ≡ true = (and_parts _ _ h).0 in absurd (true≢false (sym q ∙ sym (ap (stops test) e) ∙ ap not passes))
cut_where test (c ∷ a) (d ∷ b) x y h k p q e =
    let same : c ≡ d = cc in
    let rest = cut_where test a b x y (and_parts _ _ h).1 (and_parts _ _ k).1 p q (cc) in
    (ap₂ ◌∷◌ same rest.0, rest.1)

-- ---- names

abbrev pub is_ink : ℕ → Bool
is_ink c = not (is_separator c)

abbrev pub inked : List ℕ → Bool
inked list = list_all is_ink list

inked_by : (list : List ℕ) → lacks space list ≡ true → lacks line_feed list ≡ true → inked list ≡ true
inked_by [] h k = refl
inked_by (c ∷ list) h k = and_from _ _ (both (c == space) (c == line_feed) (and_parts _ _ h).0 (and_parts _ _ k).0) (inked_by list (and_parts _ _ h).1 (and_parts _ _ k).1)
  where
    both : (a b : Bool) → not a ≡ true → not b ≡ true → not (a || b) ≡ true
    both true b p q = absurd (true≢false (sym p))
    both false b p q = q

letter_is_name_char : (c : ℕ) → is_letter c ≡ true → is_name_char c ≡ true
letter_is_name_char c h = grind (arith, nat_tests, h)

start_is_name_char : (c : ℕ) → (is_letter c || c == low_line) ≡ true → is_name_char c ≡ true
start_is_name_char c h = grind (arith, nat_tests, h)

name_is_ink : (c : ℕ) → is_name_char c ≡ true → is_ink c ≡ true
name_is_ink c h = grind (arith, nat_tests, h)

pub name_chars : (name : Chars) → is_prefix_name name ≡ true → list_all is_name_char name ≡ true
name_chars [] h = refl
name_chars (c ∷ name) h = and_from _ _ (letter_is_name_char c (and_parts _ _ h).0) (and_parts _ _ h).1

pub local_chars : (name : Chars) → is_local_name name ≡ true → list_all is_name_char name ≡ true
local_chars [] h = refl
local_chars (c ∷ name) h = and_from _ _ (start_is_name_char c (and_parts _ _ h).0) (and_parts _ _ h).1

named_inked : (name rest : Chars) → list_all is_name_char name ≡ true → inked rest ≡ true → inked (name ++ rest) ≡ true
named_inked [] rest h k = k
named_inked (c ∷ name) rest h k = and_from _ _ (name_is_ink c (and_parts _ _ h).0) (named_inked name rest (and_parts _ _ h).1 k)

-- a name begins with a letter
no_name : (name rest : Chars) (mark : ℕ) (x : Chars) → is_prefix_name name ≡ true → is_letter mark ≡ false → name ++ rest ≡ mark ∷ x → ⊥
no_name [] rest mark x h n e = true≢false (sym h)
no_name (c ∷ name) rest mark x h n e = let same : c ≡ mark = cc in true≢false (sym (and_parts _ _ h).0 ∙ ap is_letter same ∙ n)

-- ---- tokens without a gap inside

reference_inked : (spelling : Chars) (r : Reference) → SpellsReference spelling r → inked spelling ≡ true
reference_inked spelling (Full iri) h = inked_by spelling (iri_lacks space space_marks spelling iri h) (iri_lacks line_feed line_feed_marks spelling iri h)
reference_inked spelling (Short name local) h =
    let behind : inked local ≡ true = ap inked (sym (append-nil local)) ∙ named_inked local [] (local_chars local h.is_local) refl in
    ap inked h.spelled ∙ named_inked name (colon ∷ local) (name_chars name h.is_name) (and_from _ _ refl behind)

subject_inked : (spelling : Chars) (s : Subject) → SpellsSubject spelling s → inked spelling ≡ true
subject_inked spelling (Named r) h = reference_inked spelling r h
subject_inked spelling (Labelled number) h = inked_by spelling (label_lacks space space_marks spelling number h) (label_lacks line_feed line_feed_marks spelling number h)

suffix_inked : (spelling : Chars) (s : Suffix) → SpellsSuffix spelling s → inked spelling ≡ true
suffix_inked spelling Bare h = ap inked h
suffix_inked spelling (Language tag) h = ap inked h.1 ∙ inked_by (commercial_at ∷ tag) (kind_lacks space space_marks _ _ (tagged tag h.0)) (kind_lacks line_feed line_feed_marks _ _ (tagged tag h.0))
suffix_inked spelling (Datatype r) h = ap inked h.2 ∙ reference_inked h.0 r h.1

sign_inked : (s : Terminal) → inked (terminal_text s) ≡ true
sign_inked At_prefix = refl
sign_inked _ = refl

-- ---- what a token begins with tells its kind

has_colon : Chars → Bool
has_colon text = list_any (λ c. c == colon) text

-- 1 for an IRI in full, 2 for a label, 4 for a literal, 3 where there is a colon, 0 for a terminal
kind : Chars → ℕ
kind [] = 9
kind (c ∷ text) = if c == less_than_sign then 1 else if c == low_line then 2 else if c == quotation_mark then 4 else if has_colon (c ∷ text) then 3 else 0

token_kind : TurtleToken → ℕ
token_kind (terminal s) = 0
token_kind (declared name) = 3
token_kind (iri_or_label (Named (Full iri))) = 1
token_kind (iri_or_label (Named (Short name local))) = 3
token_kind (iri_or_label (Labelled number)) = 2
token_kind (quoted text suffix) = 4

sign_kind : (s : Terminal) → kind (terminal_text s) ≡ 0
unfolding kind has_colon
sign_kind At_prefix = refl
sign_kind _ = refl

colon_there : (name rest : Chars) → has_colon (name ++ colon ∷ rest) ≡ true
unfolding has_colon
colon_there [] rest = refl
colon_there (c ∷ name) rest = or_right (c == colon) _ (colon_there name rest)

by_colon : (name rest : Chars) → is_prefix_name name ≡ true → kind (name ++ colon ∷ rest) ≡ 3
unfolding kind
by_colon [] rest h = absurd (true≢false (sym h))
by_colon (c ∷ name) rest h =
    let letter : is_letter c ≡ true = (and_parts _ _ h).0 in
    rw (other is_letter less_than_sign c refl letter, other is_letter low_line c refl letter, other is_letter quotation_mark c refl letter, colon_there (c ∷ name) rest) refl

kind_spelled : (spelling : Chars) (t : TurtleToken) → SpellsToken spelling t → kind spelling ≡ token_kind t
unfolding kind token_kind
kind_spelled spelling (terminal s) h = ap kind h ∙ sign_kind s
kind_spelled spelling (declared name) h = ap kind h.spelled ∙ by_colon name [] h.is_name
kind_spelled spelling (iri_or_label (Named (Full iri))) h = ap kind h.spelled
kind_spelled spelling (iri_or_label (Named (Short name local))) h = ap kind h.spelled ∙ by_colon name local h.is_name
kind_spelled spelling _ h = ap kind h.spelled

-- ---- a spelling is of one token

sign_in : Chars → Terminal
sign_in text =
    if bytes_eq text (codes "@prefix") then At_prefix
    else if bytes_eq text (codes "a") then Small_a
    else if bytes_eq text (codes ".") then Full_stop
    else if bytes_eq text (codes ";") then Semicolon_sign
    else if bytes_eq text (codes ",") then Comma_sign
    else if bytes_eq text (codes "[") then Left_bracket
    else if bytes_eq text (codes "]") then Right_bracket
    else if bytes_eq text (codes "[]") then Brackets
    else if bytes_eq text (codes "(") then Left_parenthesis
    else if bytes_eq text (codes ")") then Right_parenthesis
    else Parentheses

read_back : (s : Terminal) → sign_in (terminal_text s) ≡ s
unfolding sign_in
read_back At_prefix = refl
read_back _ = refl

one_sign : (s r : Terminal) → terminal_text s ≡ terminal_text r → s ≡ r
one_sign s r e = sym (read_back s) ∙ ap sign_in e ∙ read_back r

-- names before a colon
before_colon : (a b x y : Chars) → is_prefix_name a ≡ true → is_prefix_name b ≡ true → a ++ colon ∷ x ≡ b ++ colon ∷ y → (a ≡ b) × (x ≡ y)
before_colon a b x y h k e = cut colon a b x y (lacks_where is_name_char colon refl a (name_chars a h)) (lacks_where is_name_char colon refl b (name_chars b k)) e

one_reference : (s r : Chars) (a b : Reference) → s ≡ r → SpellsReference s a → SpellsReference r b → a ≡ b
one_reference s r (Full a) (Full b) e h k = ap Full (one_iri s r a b e h k)
one_reference s r (Short a x) (Short b y) e h k =
    let parts = before_colon a b x y h.is_name k.is_name (sym h.spelled ∙ e ∙ k.spelled) in ap₂ Short parts.0 parts.1
one_reference s r (Full a) (Short b y) e h k = absurd (no_name b (colon ∷ y) less_than_sign _ k.is_name refl (sym k.spelled ∙ sym e ∙ h.spelled))
one_reference s r (Short a x) (Full b) e h k = absurd (no_name a (colon ∷ x) less_than_sign _ h.is_name refl (sym h.spelled ∙ e ∙ k.spelled))

one_suffix : (s r : Chars) (a b : Suffix) → s ≡ r → SpellsSuffix s a → SpellsSuffix r b → a ≡ b
one_suffix s r Bare Bare e h k = refl
one_suffix s r (Language a) (Language b) e h k =
    let both : commercial_at ∷ a ≡ commercial_at ∷ b = sym h.1 ∙ e ∙ k.1 in ap Language (cc)
one_suffix s r (Datatype a) (Datatype b) e h k =
    let both : circumflex_accent ∷ circumflex_accent ∷ h.0 ≡ circumflex_accent ∷ circumflex_accent ∷ k.0 = sym h.2 ∙ e ∙ k.2 in
    let names : h.0 ≡ k.0 = cc in
    ap Datatype (one_reference h.0 k.0 a b names h.1 k.1)
one_suffix s r Bare (Language b) e h k = let both : [] ≡ commercial_at ∷ b = sym h ∙ e ∙ k.1 in absurd (cc)
one_suffix s r (Language a) Bare e h k = let both : commercial_at ∷ a ≡ [] = sym h.1 ∙ e ∙ k in absurd (cc)
one_suffix s r Bare (Datatype b) e h k = let both : [] ≡ circumflex_accent ∷ circumflex_accent ∷ k.0 = sym h ∙ e ∙ k.2 in absurd (cc)
one_suffix s r (Datatype a) Bare e h k = let both : circumflex_accent ∷ circumflex_accent ∷ h.0 ≡ [] = sym h.2 ∙ e ∙ k in absurd (cc)
one_suffix s r (Language a) (Datatype b) e h k =
    let both : commercial_at ∷ a ≡ circumflex_accent ∷ circumflex_accent ∷ k.0 = sym h.1 ∙ e ∙ k.2 in
    let heads : commercial_at ≡ circumflex_accent = cc in absurd (omega (arith, heads))
one_suffix s r (Datatype a) (Language b) e h k =
    let both : circumflex_accent ∷ circumflex_accent ∷ h.0 ≡ commercial_at ∷ b = sym h.2 ∙ e ∙ k.1 in
    let heads : circumflex_accent ≡ commercial_at = cc in absurd (omega (arith, heads))

no_local : (local : Chars) → is_local_name local ≡ true → [] ≡ local → ⊥
no_local [] h e = true≢false (sym h)
no_local (c ∷ local) h e = cc

is_quoted : TurtleToken → Bool
is_quoted (quoted text suffix) = true
is_quoted _ = false

no_kind : (s r : Chars) (t u : TurtleToken) → s ≡ r → SpellsToken s t → SpellsToken r u → (token_kind t ≡ token_kind u → ⊥) → ⊥
no_kind s r t u e h k differ = differ (sym (kind_spelled s t h) ∙ ap kind e ∙ kind_spelled r u k)

one_token : (s r : Chars) (t u : TurtleToken) → s ≡ r → is_quoted t ≡ false → SpellsToken s t → SpellsToken r u → t ≡ u
unfolding token_kind is_quoted
one_token s r (terminal a) (terminal b) e n h k = ap terminal (one_sign a b (sym h ∙ e ∙ k))
one_token s r (declared a) (declared b) e n h k = ap declared (before_colon a b [] [] h.is_name k.is_name (sym h.spelled ∙ e ∙ k.spelled)).0
one_token s r (iri_or_label (Named (Full a))) (iri_or_label (Named (Full b))) e n h k = ap (λ z. iri_or_label (Named z)) (one_reference s r (Full a) (Full b) e h k)
one_token s r (iri_or_label (Named (Short a x))) (iri_or_label (Named (Short b y))) e n h k = ap (λ z. iri_or_label (Named z)) (one_reference s r (Short a x) (Short b y) e h k)
one_token s r (iri_or_label (Labelled a)) (iri_or_label (Labelled b)) e n h k = ap (λ z. iri_or_label (Labelled z)) (one_label s r a b e h k)
one_token s r (declared a) (iri_or_label (Named (Short b y))) e n h k = absurd (no_local y k.is_local (before_colon a b [] y h.is_name k.is_name (sym h.spelled ∙ e ∙ k.spelled)).1)
one_token s r (iri_or_label (Named (Short a x))) (declared b) e n h k = absurd (no_local x h.is_local (sym (before_colon a b x [] h.is_name k.is_name (sym h.spelled ∙ e ∙ k.spelled)).1))
one_token s r (quoted text suffix) _ e n h k = absurd (true≢false n)
one_token s r (terminal a) (iri_or_label (Labelled b)) e n h k = absurd (no_kind s r (terminal a) (iri_or_label (Labelled b)) e h k (λ z. omega (arith, z)))
one_token s r (terminal a) (iri_or_label (Named (Full b))) e n h k = absurd (no_kind s r (terminal a) (iri_or_label (Named (Full b))) e h k (λ z. omega (arith, z)))
one_token s r (terminal a) (iri_or_label (Named (Short b y))) e n h k = absurd (no_kind s r (terminal a) (iri_or_label (Named (Short b y))) e h k (λ z. omega (arith, z)))
one_token s r (iri_or_label (Labelled a)) (iri_or_label (Named (Full b))) e n h k = absurd (no_kind s r (iri_or_label (Labelled a)) (iri_or_label (Named (Full b))) e h k (λ z. omega (arith, z)))
one_token s r (iri_or_label (Labelled a)) (iri_or_label (Named (Short b y))) e n h k = absurd (no_kind s r (iri_or_label (Labelled a)) (iri_or_label (Named (Short b y))) e h k (λ z. omega (arith, z)))
one_token s r t u e n h k = absurd (no_kind s r t u e h k (λ z. omega (arith, z)))

-- ---- a token at the front of a text

plain_inked : (spelling : Chars) (t : TurtleToken) → is_quoted t ≡ false → SpellsToken spelling t → inked spelling ≡ true
unfolding is_quoted
plain_inked spelling (terminal s) n h = ap inked h ∙ sign_inked s
plain_inked spelling (declared name) n h = ap inked h.spelled ∙ named_inked name (colon ∷ []) (name_chars name h.is_name) refl
plain_inked spelling (iri_or_label subject) n h = subject_inked spelling subject h
plain_inked spelling (quoted text suffix) n h = absurd (true≢false n)

-- only a literal begins with a quotation mark
no_quote : (spelling x y : Chars) (n : ℕ) → kind spelling ≡ n → n < 4 → spelling ++ x ≡ quotation_mark ∷ y → ⊥
unfolding kind
no_quote [] x y n h small e = absurd (omega (arith, h, small))
no_quote (c ∷ spelling) x y n h small e =
    let same : c ≡ quotation_mark = cc in
    let four : 4 ≡ n = sym (ap (λ d. kind (d ∷ spelling)) same) ∙ h in
    absurd (omega (arith, four, small))

plain_small : (t : TurtleToken) → is_quoted t ≡ false → token_kind t < 4
unfolding is_quoted token_kind
plain_small (iri_or_label (Named (Full iri))) n = omega arith
plain_small (quoted text suffix) n = absurd (true≢false n)
plain_small _ n = omega arith

moved : (inside behind x : Chars) → (quotation_mark ∷ (inside ++ quotation_mark ∷ behind)) ++ x ≡ quotation_mark ∷ (inside ++ quotation_mark ∷ (behind ++ x))
moved inside behind x = ap (λ z. quotation_mark ∷ z) (append_assoc inside (quotation_mark ∷ behind) x)

quoted_front : (s r x y t u : Chars) (a b : Suffix) → SpellsQuoted s t a → SpellsQuoted r u b → stops is_ink x ≡ true → stops is_ink y ≡ true → s ++ x ≡ r ++ y → (◌≡◌ {A = TurtleToken} (quoted t a) (quoted u b)) × (x ≡ y)
quoted_front s r x y t u a b h k p q e =
    let both : quotation_mark ∷ (h.inside ++ quotation_mark ∷ (h.behind ++ x)) ≡ quotation_mark ∷ (k.inside ++ quotation_mark ∷ (k.behind ++ y)) =
    sym (ap (λ z. z ++ x) h.spelled ∙ moved h.inside h.behind x) ∙ e ∙ ap (λ z. z ++ y) k.spelled ∙ moved k.inside k.behind y in
    let strings = one_string h.inside k.inside t u (h.behind ++ x) (k.behind ++ y) h.string k.string (cc) in
    let parts = cut_where is_ink h.behind k.behind x y (suffix_inked h.behind a h.suffix_spelled) (suffix_inked k.behind b k.suffix_spelled) p q strings.1 in
    (ap₂ quoted strings.0 (one_suffix h.behind k.behind a b parts.0 h.suffix_spelled k.suffix_spelled), parts.1)

plain_front : (s r x y : Chars) (t u : TurtleToken) → is_quoted t ≡ false → is_quoted u ≡ false → SpellsToken s t → SpellsToken r u → stops is_ink x ≡ true → stops is_ink y ≡ true → s ++ x ≡ r ++ y → (t ≡ u) × (x ≡ y)
plain_front s r x y t u n m h k p q e =
    let parts = cut_where is_ink s r x y (plain_inked s t n h) (plain_inked r u m k) p q e in
    (one_token s r t u parts.0 n h k, parts.1)

-- a literal and another token
mixed_front : (s r x y text : Chars) (suffix : Suffix) (u : TurtleToken) → is_quoted u ≡ false → SpellsQuoted s text suffix → SpellsToken r u → s ++ x ≡ r ++ y → ⊥
mixed_front s r x y text suffix u n h k e =
    no_quote r y _ (token_kind u) (kind_spelled r u k) (plain_small u n) (sym e ∙ ap (λ z. z ++ x) h.spelled)

token_front : (s r x y : Chars) (t u : TurtleToken) → SpellsToken s t → SpellsToken r u → stops is_ink x ≡ true → stops is_ink y ≡ true → s ++ x ≡ r ++ y → (t ≡ u) × (x ≡ y)
unfolding is_quoted
token_front s r x y (quoted text suffix) (quoted text' suffix') h k p q e = quoted_front s r x y text text' suffix suffix' h k p q e
token_front s r x y (quoted text suffix) u h k p q e = absurd (mixed_front s r x y text suffix u refl h k e)
token_front s r x y t (quoted text suffix) h k p q e = absurd (mixed_front r s y x text suffix t refl k h (sym e))
token_front s r x y t u h k p q e = plain_front s r x y t u refl refl h k p q e

-- ---- texts

-- a token begins with no separator
sign_opens : (s : Terminal) (x : Chars) → stops is_separator (terminal_text s ++ x) ≡ true
sign_opens At_prefix x = refl
sign_opens _ x = refl

opens_by : (spelling x : Chars) (n : ℕ) → inked spelling ≡ true → kind spelling ≡ n → n < 4 → stops is_separator (spelling ++ x) ≡ true
unfolding kind
opens_by [] x n h k small = absurd (omega (arith, k, small))
opens_by (c ∷ spelling) x n h k small = (and_parts _ _ h).0

token_opens : (spelling x : Chars) (t : TurtleToken) → SpellsToken spelling t → stops is_separator (spelling ++ x) ≡ true
unfolding is_quoted
token_opens spelling x (quoted text suffix) h = ap (λ z. stops is_separator (z ++ x)) h.spelled
token_opens spelling x (terminal s) h = ap (λ z. stops is_separator (z ++ x)) h ∙ sign_opens s x
token_opens spelling x t h = opens_by spelling x (token_kind t) (plain_inked spelling t refl h) (kind_spelled spelling t h) (plain_small t refl)

-- what stands behind a token begins with a separator
gap_stops : (gap rest : Chars) → is_spacing gap ≡ true → stops is_ink (gap ++ rest) ≡ true
gap_stops [] rest h = absurd (true≢false (sym h))
gap_stops (c ∷ gap) rest h = ap (λ b. not (not b)) (and_parts _ _ h).0

behind_stops : (text : Chars) (ts : List TurtleToken) → SpellsBehind text ts → stops is_ink text ≡ true
behind_stops text [] h = ap (stops is_ink) h
behind_stops text (t ∷ ts) (gap, spelling, rest, g, s, b, e) = ap (stops is_ink) e ∙ gap_stops gap (spelling ++ rest) g

some_behind : (spelling rest : Chars) → stops is_ink rest ≡ true → [] ≡ spelling ++ rest → ⊥
some_behind [] rest h e = true≢false (sym h ∙ ap (stops is_ink) (sym e))
some_behind (c ∷ spelling) rest h e = cc

not_last : (gap spelling rest : Chars) → is_spacing gap ≡ true → stops is_ink rest ≡ true → line_feed ∷ [] ≡ gap ++ (spelling ++ rest) → ⊥
not_last [] spelling rest g h e = true≢false (sym g)
not_last (c ∷ gap) spelling rest g h e = some_after gap (cc)
  where
    some_after : (more : Chars) → [] ≡ more ++ (spelling ++ rest) → ⊥
    some_after [] q = some_behind spelling rest h q
    some_after (d ∷ more) q = cc

one_behind : (x y : Chars) (ts us : List TurtleToken) → x ≡ y → SpellsBehind x ts → SpellsBehind y us → ts ≡ us
one_behind x y [] [] e h k = refl
one_behind x y [] (u ∷ us) e h (gap, spelling, rest, g, s, b, q) = absurd (not_last gap spelling rest g (behind_stops rest us b) (sym h ∙ e ∙ q))
one_behind x y (t ∷ ts) [] e (gap, spelling, rest, g, s, b, q) k = absurd (not_last gap spelling rest g (behind_stops rest ts b) (sym k ∙ sym e ∙ q))
one_behind x y (t ∷ ts) (u ∷ us) e (gap, spelling, rest, g, s, b, q) (gap', spelling', rest', g', s', b', q') =
    let gaps = cut_where is_separator gap gap' (spelling ++ rest) (spelling' ++ rest') (and_parts _ _ g).1 (and_parts _ _ g').1 (token_opens spelling rest t s) (token_opens spelling' rest' u s') (sym q ∙ e ∙ q') in
    let front = token_front spelling spelling' rest rest' t u s s' (behind_stops rest ts b) (behind_stops rest' us b') gaps.1 in
    ap₂ ◌∷◌ front.0 (one_behind rest rest' ts us front.1 b b')

pub one_tokens : (text : Chars) (ts us : List TurtleToken) → SpellsTokens text ts → SpellsTokens text us → ts ≡ us
one_tokens text [] [] h k = refl
one_tokens text [] (u ∷ us) h (spelling, rest, s, b, q) = absurd (some_behind spelling rest (behind_stops rest us b) (sym h ∙ q))
one_tokens text (t ∷ ts) [] (spelling, rest, s, b, q) k = absurd (some_behind spelling rest (behind_stops rest ts b) (sym k ∙ q))
one_tokens text (t ∷ ts) (u ∷ us) (spelling, rest, s, b, q) (spelling', rest', s', b', q') =
    let front = token_front spelling spelling' rest rest' t u s s' (behind_stops rest ts b) (behind_stops rest' us b') (sym q ∙ q') in
    ap₂ ◌∷◌ front.0 (one_behind rest rest' ts us front.1 b b')

pub spells_one : TurtleSpellsOne
spells_one text a b h k = one_document a b (one_tokens text (document_tokens a) (document_tokens b) h.spelled k.spelled)
