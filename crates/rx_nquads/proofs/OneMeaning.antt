-- A line states at most one quad, and a text denotes at most one set of quads.
use Rattle.rx_model.proofs.Common.{◌≡◌, ℕ, Bool, true, false, ◌≢◌, List, [], ◌∷◌, ◌++◌, Option, Some, None, refl, sym, ap, ap₂, ◌∙◌, inl, inr, subst, true≢false, arith, append_assoc, nat_lt, ◌==◌, ◌||◌, list_all, append_cancel_left, nat_tests, line_feed, quotation_mark, reverse_solidus, less_than_sign, greater_than_sign, space, commercial_at, circumflex_accent, full_stop, hyphen, low_line, Chars, is_forbidden, by_test, digit_value, is_lang, is_subtag_char, Among, Kind, Node, Iri, Blank, Term, Resource, Literal}
use Rattle.std.proofs.lemmas.Bool.{and_from, or_left, or_right}
use Rattle.std.specs.Str.Parse.{AllDigits, digits_value}
use Rattle.rx_terms.proofs.LangLemmas.{is_left, left-start, left-hyphen, left-empty, left-char, left-other}
use Rattle.rx_nquads.specs.Quads.{literal_kind}
use Rattle.rx_nquads.specs.Spelling.{SpellsIri, SpellsLabel, SpellsNode, stands_for_itself, escape, SpellsString, nothing, itself, escaped, SpellsKind, plain, tagged, typed, SpellsLiteral, SpellsTerm}
use Rattle.rx_nquads.specs.Document.{SpellsGraph, StatesOne, DenotesOne, joined_lines, has_no_line_feed}
use Rattle.rx_nquads.proofs.Cuts.{lacks, differs, cut, lacks_append, differs_where, lacks_where, lacks_any}

-- ---- a mark that stands outside of all terms but strings

abbrev pub is_tag_char : ℕ → Bool
is_tag_char c = is_subtag_char false c || c == hyphen

pub record IsMark (mark : ℕ) : Type 0 where
  pub forbidden : is_forbidden mark ≡ true
  pub less : differs mark less_than_sign ≡ true
  pub greater : differs mark greater_than_sign ≡ true
  pub low : differs mark 95 ≡ true
  pub colon : differs mark 58 ≡ true
  pub b : differs mark 98 ≡ true
  pub at : differs mark commercial_at ≡ true
  pub circumflex : differs mark circumflex_accent ≡ true
  pub no_digit : digit_value mark ≡ 36
  pub no_tag : is_tag_char mark ≡ false

pub space_marks : IsMark space
space_marks = record { forbidden = refl; less = refl; greater = refl; low = refl; colon = refl; b = refl; at = refl; circumflex = refl; no_digit = refl; no_tag = refl }

pub line_feed_marks : IsMark line_feed
line_feed_marks = record { forbidden = refl; less = refl; greater = refl; low = refl; colon = refl; b = refl; at = refl; circumflex = refl; no_digit = refl; no_tag = refl }

-- ---- language tags have letters, digits and hyphens

any_part : (first : Bool) (c : ℕ) → is_subtag_char first c ≡ true → is_subtag_char false c ≡ true
any_part false c h = h
any_part true c h = grind (arith, nat_tests, h)

left_chars : (first empty : Bool) (text : Chars) → is_left first empty text ≡ true → list_all is_tag_char text ≡ true
left_chars first empty [] h = refl
left_chars first empty (c ∷ text) h = by_test (c == hyphen)
    (λ e. by_test empty (λ f. absurd (true≢false (sym h ∙ left-empty first empty text c e f)))
    (λ f. and_from _ _ (or_right (is_subtag_char false c) (c == hyphen) e) (left_chars false true text (sym (left-hyphen first empty text c e f) ∙ h))))
    (λ e. by_test (is_subtag_char first c) (λ f. and_from _ _ (or_left (is_subtag_char false c) (c == hyphen) (any_part first c f)) (left_chars first false text (sym (left-char first empty text c e f) ∙ h)))
    (λ f. absurd (true≢false (sym h ∙ left-other first empty text c e f))))

pub tag_chars : (tag : Chars) → is_lang tag ≡ true → list_all is_tag_char tag ≡ true
tag_chars tag h = left_chars true true tag (sym (left-start tag) ∙ h)

-- ---- what spellings lack

pub digits_lack : (mark : ℕ) → digit_value mark ≡ 36 → (digits : Chars) → AllDigits 10 digits → lacks mark digits ≡ true
digits_lack mark n [] h = refl
digits_lack mark n (c ∷ digits) h = and_from _ _ (differs_where (λ d. nat_lt (digit_value d) 10) mark c (rw n refl) (grind (arith, nat_tests, h.0))) (digits_lack mark n digits h.1)

module _ (mark : ℕ) (m : IsMark mark) where
  pub iri_lacks : (spelling iri : Chars) → SpellsIri spelling iri → lacks mark spelling ≡ true
  iri_lacks spelling iri s =
      ap (lacks mark) s.spelled ∙ and_from _ _ m.less (lacks_append mark iri (greater_than_sign ∷ []) (lacks_any is_forbidden mark m.forbidden iri s.is_iri.clean) (and_from _ _ m.greater refl))

  pub label_lacks : (spelling : Chars) (number : ℕ) → SpellsLabel spelling number → lacks mark spelling ≡ true
  label_lacks spelling number s =
      ap (lacks mark) s.spelled ∙ and_from _ _ m.low (and_from _ _ m.colon (and_from _ _ m.b (digits_lack mark m.no_digit s.digits s.numeral.1)))

  pub node_lacks : (spelling : Chars) (node : Node ℕ) → SpellsNode spelling node → lacks mark spelling ≡ true
  node_lacks spelling (Iri iri) s = iri_lacks spelling iri s
  node_lacks spelling (Blank number) s = label_lacks spelling number s

  pub kind_lacks : (spelling : Chars) (kind : Kind) → SpellsKind spelling kind → lacks mark spelling ≡ true
  kind_lacks _ _ plain = refl
  kind_lacks _ _ (tagged tag h) = and_from _ _ m.at (lacks_where is_tag_char mark m.no_tag tag (tag_chars tag h))
  kind_lacks _ _ (typed spelling datatype s e) = and_from _ _ m.circumflex (and_from _ _ m.circumflex (iri_lacks spelling datatype s))

-- ---- a spelling is of one term

pub one_iri : (s r : Chars) (a b : Chars) → s ≡ r → SpellsIri s a → SpellsIri r b → a ≡ b
one_iri s r a b e h k =
    let both : less_than_sign ∷ (a ++ greater_than_sign ∷ []) ≡ less_than_sign ∷ (b ++ greater_than_sign ∷ []) = sym h.spelled ∙ e ∙ k.spelled in
    (cut greater_than_sign a b [] [] (lacks_any is_forbidden greater_than_sign refl a h.is_iri.clean) (lacks_any is_forbidden greater_than_sign refl b k.is_iri.clean) (cc)).0

pub one_label : (s r : Chars) (a b : ℕ) → s ≡ r → SpellsLabel s a → SpellsLabel r b → a ≡ b
one_label s r a b e h k =
    let both : 95 ∷ 58 ∷ 98 ∷ h.digits ≡ 95 ∷ 58 ∷ 98 ∷ k.digits = sym h.spelled ∙ e ∙ k.spelled in
    let digits : h.digits ≡ k.digits = append_cancel_left (95 ∷ 58 ∷ 98 ∷ []) h.digits k.digits both in
    sym h.value ∙ ap (digits_value 10) digits ∙ k.value

pub one_node : (s r : Chars) (n m : Node ℕ) → s ≡ r → SpellsNode s n → SpellsNode r m → n ≡ m
one_node s r (Iri a) (Iri b) e h k = ap Iri (one_iri s r a b e h k)
one_node s r (Blank a) (Blank b) e h k = ap Blank (one_label s r a b e h k)
one_node s r (Iri a) (Blank b) e h k =
    let both : 60 ∷ (a ++ 62 ∷ []) ≡ 95 ∷ 58 ∷ 98 ∷ k.digits = sym h.spelled ∙ e ∙ k.spelled in
    let heads : less_than_sign ≡ low_line = cc in absurd (omega (arith, heads))
one_node s r (Blank a) (Iri b) e h k =
    let both : 95 ∷ 58 ∷ 98 ∷ h.digits ≡ 60 ∷ (b ++ 62 ∷ []) = sym h.spelled ∙ e ∙ k.spelled in
    let heads : low_line ≡ less_than_sign = cc in absurd (omega (arith, heads))

one_kind : (s : Chars) (k l : Kind) → SpellsKind s k → SpellsKind s l → k ≡ l
one_kind _ _ _ plain plain = refl
one_kind _ _ _ (tagged a h) (tagged _ k) = refl
one_kind _ _ _ (typed s a h p) (typed _ b k q) = p ∙ ap literal_kind (one_iri s s a b refl h k) ∙ sym q

-- ---- a term at the front of a text

pub one_string : (a b t u x y : Chars) → SpellsString a t → SpellsString b u → a ++ quotation_mark ∷ x ≡ b ++ quotation_mark ∷ y → (t ≡ u) × (x ≡ y)
one_string _ _ _ _ x y nothing nothing e = (refl, cc)
one_string _ _ _ _ x y nothing (itself c h s) e =
    let same : quotation_mark ≡ c = cc in absurd (true≢false (sym h ∙ ap stands_for_itself (sym same)))
one_string _ _ _ _ x y nothing (escaped mark c h s) e =
    let same : quotation_mark ≡ reverse_solidus = cc in absurd (omega (arith, same))
one_string _ _ _ _ x y (itself c h s) nothing e =
    let same : c ≡ quotation_mark = cc in absurd (true≢false (sym h ∙ ap stands_for_itself same))
one_string _ _ _ _ x y (escaped mark c h s) nothing e =
    let same : reverse_solidus ≡ quotation_mark = cc in absurd (omega (arith, same))
one_string _ _ _ _ x y (itself c {spelling = a} {text = t} h s) (itself d {spelling = b} {text = u} k r) e =
    let same : c ≡ d = cc in
    let rest = one_string a b t u x y s r (cc) in
    (λ i. same i ∷ rest.0 i, rest.1)
one_string _ _ _ _ x y (itself c h s) (escaped mark d k r) e =
    let same : c ≡ reverse_solidus = cc in absurd (true≢false (sym h ∙ ap stands_for_itself same))
one_string _ _ _ _ x y (escaped mark c h s) (itself d k r) e =
    let same : reverse_solidus ≡ d = cc in absurd (true≢false (sym k ∙ ap stands_for_itself (sym same)))
one_string _ _ _ _ x y (escaped mark c {spelling = a} {text = t} h s) (escaped mark' d {spelling = b} {text = u} k r) e =
    let same : mark ≡ mark' = cc in
    let both : Some c ≡ Some d = sym h ∙ ap escape same ∙ k in
    let chars : c ≡ d = cc in
    let rest = one_string a b t u x y s r (cc) in
    (λ i. chars i ∷ rest.0 i, rest.1)

-- a node begins with `<` or `_`
pub node_begins : (mark : ℕ) → mark ≢ 60 → mark ≢ 95 → (s : Chars) (n : Node ℕ) → SpellsNode s n → (x y : Chars) → s ++ x ≡ mark ∷ y → ⊥
node_begins mark p q s (Iri iri) h x y e =
    let both : 60 ∷ ((iri ++ 62 ∷ []) ++ x) ≡ mark ∷ y = sym (ap (λ z. z ++ x) h.spelled) ∙ e in p (cc)
node_begins mark p q s (Blank number) h x y e =
    let both : 95 ∷ 58 ∷ 98 ∷ (h.digits ++ x) ≡ mark ∷ y = sym (ap (λ z. z ++ x) h.spelled) ∙ e in q (cc)

pub node_front : (s r x y : Chars) (n m : Node ℕ) → SpellsNode s n → SpellsNode r m → s ++ space ∷ x ≡ r ++ space ∷ y → (n ≡ m) × (x ≡ y)
node_front s r x y n m h k e =
    let parts = cut space s r x y (node_lacks space space_marks s n h) (node_lacks space space_marks r m k) e in
    (one_node s r n m parts.0 h k, parts.1)

literal_moved : (inside behind x : Chars) → (quotation_mark ∷ (inside ++ quotation_mark ∷ behind)) ++ space ∷ x ≡ quotation_mark ∷ (inside ++ quotation_mark ∷ (behind ++ space ∷ x))
literal_moved inside behind x = ap (λ z. quotation_mark ∷ z) (append_assoc inside (quotation_mark ∷ behind) (space ∷ x))

literal_front : (s r x y : Chars) (t u : Chars) (k l : Kind) → SpellsLiteral s t k → SpellsLiteral r u l → s ++ space ∷ x ≡ r ++ space ∷ y → (◌≡◌ {A = Term ℕ} (Literal t k) (Literal u l)) × (x ≡ y)
literal_front s r x y t u k l h j e =
    let both : quotation_mark ∷ (h.inside ++ quotation_mark ∷ (h.behind ++ space ∷ x)) ≡ quotation_mark ∷ (j.inside ++ quotation_mark ∷ (j.behind ++ space ∷ y)) =
    sym (ap (λ z. z ++ space ∷ x) h.spelled ∙ literal_moved h.inside h.behind x) ∙ e ∙ ap (λ z. z ++ space ∷ y) j.spelled ∙ literal_moved j.inside j.behind y in
    let strings = one_string h.inside j.inside t u (h.behind ++ space ∷ x) (j.behind ++ space ∷ y) h.string j.string (cc) in
    let parts = cut space h.behind j.behind x y (kind_lacks space space_marks h.behind k h.kind_spelled) (kind_lacks space space_marks j.behind l j.kind_spelled) strings.1 in
    (ap₂ Literal strings.0 (one_kind h.behind k l h.kind_spelled (subst (λ (z : Chars). SpellsKind z l) (sym parts.0) j.kind_spelled)), parts.1)

pub term_front : (s r x y : Chars) (o p : Term ℕ) → SpellsTerm s o → SpellsTerm r p → s ++ space ∷ x ≡ r ++ space ∷ y → (o ≡ p) × (x ≡ y)
term_front s r x y (Resource n) (Resource m) h k e = let parts = node_front s r x y n m h k e in (ap Resource parts.0, parts.1)
term_front s r x y (Literal t k) (Literal u l) h j e = literal_front s r x y t u k l h j e
term_front s r x y (Resource n) (Literal u l) h j e =
    absurd (node_begins quotation_mark (λ q. omega (arith, q)) (λ q. omega (arith, q)) s n h (space ∷ x) _ (e ∙ ap (λ z. z ++ space ∷ y) j.spelled))
term_front s r x y (Literal t k) (Resource m) h j e =
    absurd (node_begins quotation_mark (λ q. omega (arith, q)) (λ q. omega (arith, q)) r m j (space ∷ y) _ (sym e ∙ ap (λ z. z ++ space ∷ x) h.spelled))

one_graph : (x y : Chars) (g h : Option (Node ℕ)) → x ≡ y → SpellsGraph x g → SpellsGraph y h → g ≡ h
one_graph x y None None e s r = refl
one_graph x y (Some n) (Some m) e s r = ap Some (node_front s.0 r.0 (full_stop ∷ []) (full_stop ∷ []) n m s.1 r.1 (sym s.2 ∙ e ∙ r.2)).0
one_graph x y None (Some m) e s r = absurd (node_begins full_stop (λ q. omega (arith, q)) (λ q. omega (arith, q)) r.0 m r.1 (space ∷ full_stop ∷ []) [] (sym r.2 ∙ sym e ∙ s))
one_graph x y (Some n) None e s r = absurd (node_begins full_stop (λ q. omega (arith, q)) (λ q. omega (arith, q)) s.0 n s.1 (space ∷ full_stop ∷ []) [] (sym s.2 ∙ e ∙ r))

-- ---- the laws

pub states_one : StatesOne
states_one line q r h k =
    let first = node_front h.subject k.subject _ _ q.triple.subject r.triple.subject h.subject_spelled k.subject_spelled (sym h.spelled ∙ k.spelled) in
    let second = node_front h.predicate k.predicate _ _ (Iri q.triple.predicate) (Iri r.triple.predicate) h.predicate_spelled k.predicate_spelled first.1 in
    let third = term_front h.object k.object h.rest k.rest q.triple.object r.triple.object h.object_spelled k.object_spelled second.1 in
    let graph = one_graph h.rest k.rest q.graph r.graph third.1 h.graph_spelled k.graph_spelled in
    let predicate : q.triple.predicate ≡ r.triple.predicate = cc in
    λ i. record { triple = record { subject = first.0 i; predicate = predicate i; object = third.0 i }; graph = graph i }

line_moved : (line : Chars) (rest : Chars) → (line ++ line_feed ∷ []) ++ rest ≡ line ++ line_feed ∷ rest
line_moved line rest = append_assoc line (line_feed ∷ []) rest

no_end : (line rest : Chars) → [] ≡ line ++ line_feed ∷ rest → ⊥
no_end [] rest e = cc
no_end (c ∷ line) rest e = cc

one_line_list : (xs ys : List Chars) → ((line : Chars) → Among xs line → has_no_line_feed line ≡ true) → ((line : Chars) → Among ys line → has_no_line_feed line ≡ true)
    → joined_lines xs ≡ joined_lines ys → xs ≡ ys
one_line_list [] [] h k e = refl
one_line_list [] (y ∷ ys) h k e = absurd (no_end y (joined_lines ys) (e ∙ line_moved y (joined_lines ys)))
one_line_list (x ∷ xs) [] h k e = absurd (no_end x (joined_lines xs) (sym e ∙ line_moved x (joined_lines xs)))
one_line_list (x ∷ xs) (y ∷ ys) h k e =
    let parts = cut line_feed x y (joined_lines xs) (joined_lines ys) (h x (inl refl)) (k y (inl refl)) (sym (line_moved x (joined_lines xs)) ∙ e ∙ line_moved y (joined_lines ys)) in
    let rest = one_line_list xs ys (λ line m. h line (inr m)) (λ line m. k line (inr m)) parts.1 in
    λ i. parts.0 i ∷ rest i

pub denotes_one : DenotesOne
denotes_one text xs ys h k q =
    let lines = one_line_list h.lines k.lines h.unbroken k.unbroken (sym h.ended ∙ k.ended) in (
      λ m. let s = (h.stated q).0 m in (k.stated q).1 (s.0, subst (λ (l : List Chars). Among l s.0) lines s.1, s.2),
      λ m. let s = (k.stated q).0 m in (h.stated q).1 (s.0, subst (λ (l : List Chars). Among l s.0) (sym lines) s.1, s.2),
    )
