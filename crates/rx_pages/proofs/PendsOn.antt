-- Characters that go on begin a token; what is read spells one; what is refused is faulty.
use Rattle.rx_pages.proofs.Words.{◌≡◌, ◌∙◌, ℕ, Bool, true, false, [], ◌∷◌, ◌++◌, Option, Some, None, refl, ap, sym, subst, append-nil, append_assoc, eqb-true, ◌&&◌, ◌==◌, ◌||◌, codes, map-append, length-map, lowered_char, solidus, Chars, lowered, begins_with, both, not_both_ways, by_test, or_from, or_parts, or_left, or_right, Syntax, Html, Xhtml, Tag, Token, tag, section, comment, doctype, SpellsTag, Spells, IsFirst, has_sections, begins_declaration, ends_with, ends_comment, raw_name, begins_end, Unfinished, token_begun, tag_begun, run_begun, opening_begun, Content, Kind, ReadsOn, spells_each, begins_from, snoc_last, whole, refused, verdict, CharactersGoOn, ReadAs, at_last, at_next}
use Rattle.rx_grammar.specs.Spelling as spelling
use Rattle.rx_pages.proofs.Pends.{occurs, Pends, nothing, in_reference, at_less_than, in_end, in_raw_tag, in_a_tag, in_question, in_instruction, in_bogus, in_html_comment, in_strict, in_a_doctype, in_a_section, in_an_opening, FaultyBy, Out, from_nothing, from_reference, from_tag, raw_html, from_raw_tag, from_end}
use Rattle.rx_pages.proofs.PendsMarks.{as_verdict, from_question, from_instruction, from_html_comment, from_strict, from_section, same_word, begins_doctype, from_doctype}
use Rattle.rx_pages.proofs.PendsOpenings.{from_less_than, from_bogus, from_opening}
use Rattle.rx_pages.proofs.Below.{raw_is, first_here, FirstMore, first_more, whole_first, all_none, begins_exactly, ends_so, ends_append, is_known_by, in_markup', in_raw', is_known, IsRawName, is_raw_name, spells_end}

on_syntax : (s t : Syntax) (i : Content) (run : Chars) (c : ℕ) → s ≡ t → Out t i run c (verdict t i run c) → Out s i run c (verdict s i run c)
on_syntax s t i run c z h = subst (λ x. Out x i run c (verdict x i run c)) (sym z) h

-- what the next character makes of characters that go on
pub step : (s : Syntax) (i : Content) → occurs s i ≡ true → (c : ℕ) {run : Chars} → Pends s i run → Out s i run c (verdict s i run c)
step s i o c nothing = from_nothing s i c
step s i o c (in_reference run r b) = from_reference s i run r b c o
step s i o c (at_less_than m) = from_less_than s i c m o
step s i o c (in_end name text r b) = on_syntax s Html i (60 ∷ text) c (raw_html s i name o r) (as_verdict Html i (60 ∷ text) c _ (raw_is Html i text name c r) (from_end i name r text c b))
step s i o c (in_raw_tag name text r k d) =
    on_syntax s Html i (60 ∷ text) c (raw_html s i name o r) (as_verdict Html i (60 ∷ text) c _ (raw_is Html i text name c r) (from_raw_tag i name r text c k (subst (λ x. ReadsOn x text) (raw_html s i name o r) d)))
step s i o c (in_a_tag text m h r) = from_tag s i text c m h r
step s i o c (in_question text z m n) = on_syntax s Html i (60 ∷ 63 ∷ text) c z (from_question i m text c n)
step s i o c (in_instruction text z m n) = on_syntax s Xhtml i (60 ∷ 63 ∷ text) c z (from_instruction i m text c n)
step s i o c (in_bogus text z m d n) = on_syntax s Html i (60 ∷ 33 ∷ text) c z (from_bogus i m text c d n)
step s i o c (in_html_comment text z m n) = on_syntax s Html i (60 ∷ 33 ∷ 45 ∷ 45 ∷ text) c z (from_html_comment i m text c n)
step s i o c (in_strict text z m n) = on_syntax s Xhtml i (60 ∷ 33 ∷ 45 ∷ 45 ∷ text) c z (from_strict i m text c n)
step s i o c (in_a_doctype word text p m w e n) = from_doctype s i m word w text c p e n
step s i o c (in_a_section text h n) = from_section s i h text c n
step s i o c (in_an_opening text z m b) = on_syntax s Xhtml i (60 ∷ 33 ∷ text) c z (from_opening i m (subst (λ x. occurs x i ≡ true) z o) text c b)

module _ (s : Syntax) (i : Content) (o : occurs s i ≡ true) where
  pends_on : (text before : Chars) → Pends s i before → CharactersGoOn s i before text → Pends s i (before ++ text)
  pends_on [] before p g = subst (Pends s i) (sym (append-nil before)) p
  pends_on (c ∷ text) before p g = subst (Pends s i) (append_assoc before (c ∷ []) text) (pends_on text (before ++ c ∷ []) (subst (Out s i before c) g.0 (step s i o c p)) g.1)

  pub pends : (text : Chars) → CharactersGoOn s i [] text → Pends s i text
  pends text g = pends_on text [] nothing g

  pub spells_read : (text : Chars) (next : Option ℕ) (token : Token) → ReadAs s i text next token → Spells s i text next token
  spells_read _ next _ (at_last run c token g h) = by_whole (subst (Out s i run c) h (step s i o c (pends run g))) next
    where
      by_whole : Out s i run c (whole token) → (next : Option ℕ) → Spells s i (run ++ c ∷ []) next token
      by_whole f next = f next
  spells_read _ _ _ (at_next text c token g h) = subst (Out s i text c) h (step s i o c (pends text g))

  pub faulty_read : (run : Chars) (c : ℕ) (found : Kind) → CharactersGoOn s i [] run → verdict s i run c ≡ refused found → FaultyBy s i found (run ++ c ∷ [])
  faulty_read run c found g h = subst (Out s i run c) h (step s i o c (pends run g))

-- what completes them
letter_tag : Tag
letter_tag = record { closing = false; name = 97 ∷ []; attributes = []; slash = false }

spells_letter : (s : Syntax) → SpellsTag s (97 ∷ 62 ∷ []) letter_tag
unfolding letter_tag
spells_letter Html = spells_each Html (97 ∷ 62 ∷ []) letter_tag (record { last = _; run = refl; whole = refl; is_tag = refl })
spells_letter Xhtml = spells_each Xhtml (97 ∷ 62 ∷ []) letter_tag (record { last = _; run = refl; whole = refl; is_tag = refl })

record Split (p q : Chars) : Type 0 where
  rest : Chars
  is : q ≡ p ++ rest

begins_split : (p q : Chars) → begins_with p q ≡ true → Split p q
begins_split [] q h = record { rest = q; is = refl }
begins_split (c ∷ p) [] h = absurd (cc)
begins_split (c ∷ p) (d ∷ q) h = let k = both (c == d) _ h in let r = begins_split p q k.1 in record { rest = r.rest; is = ap (λ x. x ∷ q) (sym (eqb-true c d k.0)) ∙ ap (λ x. c ∷ x) r.is }

-- what has no `>` at its end isn't begun by one
not_by_greater : (init text : Chars) (l : ℕ) → (62 == l) ≡ false → begins_with (init ++ l ∷ []) text ≡ false → begins_with (init ++ l ∷ []) (text ++ 62 ∷ []) ≡ false
not_by_greater init text l n h =
    by_test (begins_with (init ++ l ∷ []) (text ++ 62 ∷ []))
    (λ t. absurd (not_both_ways (62 == l) (subst (λ x. (62 == x) ≡ true) (snoc_last text init 62 l (begins_exactly (init ++ l ∷ []) text 62 h t)) refl) n)) (λ t. t)

and_of : (a b c : Bool) → (a && b) ≡ false → (b ≡ false → c ≡ false) → (a && c) ≡ false
and_of true b c h f = f h
and_of false b c h f = refl

no_declaration : (i : Content) (text : Chars) → begins_declaration i text ≡ false → begins_declaration i (text ++ 62 ∷ []) ≡ false
no_declaration i text h =
    let a = or_parts (begins_with (codes "--") text || begins_with (codes "doctype") (lowered text)) _ h in
    let b = or_parts (begins_with (codes "--") text) _ a.0 in
    let low : lowered (text ++ 62 ∷ []) ≡ lowered text ++ 62 ∷ [] = map-append lowered_char text (62 ∷ []) in
    or_from (begins_with (codes "--") (text ++ 62 ∷ []) || begins_with (codes "doctype") (lowered (text ++ 62 ∷ []))) (has_sections i && begins_with (codes "[CDATA[") (text ++ 62 ∷ []))
    (or_from (begins_with (codes "--") (text ++ 62 ∷ [])) (begins_with (codes "doctype") (lowered (text ++ 62 ∷ [])))
    (not_by_greater (45 ∷ []) text 45 refl b.0)
    (ap (begins_with (codes "doctype")) low ∙ not_by_greater (codes "doctyp") (lowered text) 101 refl b.1))
    (and_of (has_sections i) (begins_with (codes "[CDATA[") text) (begins_with (codes "[CDATA[") (text ++ 62 ∷ [])) a.1 (not_by_greater (codes "[CDATA") text 91 refl))

module _ (s : Syntax) (i : Content) (o : occurs s i ≡ true) where
  by_token : (c : ℕ) (run : Chars) (d : ℕ) (rest : Chars) (token : Token) → Spells s i (c ∷ (run ++ d ∷ rest)) None token → Unfinished s i (c ∷ run)
  by_token c run d rest token sp = token_begun c d run rest token sp

  end_begun : (name text : Chars) → raw_name i ≡ Some name → begins_end name text ≡ true → s ≡ Html → Unfinished s i (60 ∷ text)
  end_begun name text r b z =
      let raw : IsRawName name = is_raw_name i name r in
      let d = begins_split (lowered text) (solidus ∷ name) b in
      let low : lowered (lowered text) ++ lowered d.rest ≡ lowered text ++ d.rest = sym (map-append lowered_char (lowered text) d.rest) ∙ (ap lowered (sym d.is) ∙ (ap (λ x. 47 ∷ x) raw.low ∙ d.is)) in
      let rest_low : lowered d.rest ≡ d.rest = let w = same_word (lowered (lowered text)) (lowered text) (lowered d.rest) d.rest low (length-map (lowered text) lowered_char) in w.1 in
      let word : lowered (text ++ d.rest) ≡ solidus ∷ name = map-append lowered_char text d.rest ∙ (ap (λ x. lowered text ++ x) rest_low ∙ sym d.is) in
      let sp : Spells s i (60 ∷ ((text ++ d.rest) ++ 62 ∷ [])) None (tag (record { closing = true; name = name; attributes = []; slash = false })) =
      subst (λ x. Spells x i (60 ∷ ((text ++ d.rest) ++ 62 ∷ [])) None (tag (record { closing = true; name = name; attributes = []; slash = false }))) (sym z) (spelling.an_end_of_raw ((text ++ d.rest) ++ 62 ∷ []) name _ r (spells_end name raw (text ++ d.rest) word) refl refl) in
      by_rest d.rest sp
    where
      by_rest : (rest : Chars) → Spells s i (60 ∷ ((text ++ rest) ++ 62 ∷ [])) None (tag (record { closing = true; name = name; attributes = []; slash = false })) → Unfinished s i (60 ∷ text)
      by_rest [] sp = by_token 60 text 62 [] _ (subst (λ x. Spells s i (60 ∷ x) None (tag (record { closing = true; name = name; attributes = []; slash = false }))) (append_assoc text [] (62 ∷ [])) sp)
      by_rest (x ∷ rest) sp = by_token 60 text x (rest ++ 62 ∷ []) _ (subst (λ y. Spells s i (60 ∷ y) None (tag (record { closing = true; name = name; attributes = []; slash = false }))) (append_assoc text (x ∷ rest) (62 ∷ [])) sp)

  section_begun : (text : Chars) → has_sections i ≡ true → FirstMore (ends_with (codes "]]>")) text → Unfinished s i (60 ∷ 33 ∷ (codes "[CDATA[" ++ text))
  section_begun text h f =
      let e = ends_so (codes "]]>") (text ++ f.d ∷ f.rest) f.first.whole in
      by_token 60 (33 ∷ (codes "[CDATA[" ++ text)) f.d f.rest (section e.front)
      (subst (λ x. Spells s i (60 ∷ 33 ∷ (codes "[CDATA[" ++ x)) None (section e.front)) (sym e.are) (spelling.a_section e.front h (subst (IsFirst (ends_with (codes "]]>"))) e.are f.first)))

  -- what goes on begins a token
  pub unfinished : {run : Chars} → Pends s i run → (run ≡ [] → ⊥) → Unfinished s i run
  unfinished nothing n = absurd (n refl)
  unfinished (in_reference run r b) n = run_begun run r b
  unfinished (at_less_than m) n = by_token 60 [] 97 (62 ∷ []) (tag letter_tag) (spelling.a_tag (97 ∷ 62 ∷ []) letter_tag m (spells_letter s))
  unfinished (in_end name text r b) n = end_begun name text r b (raw_html s i name o r)
  unfinished (in_raw_tag name text r k d) n = tag_begun text (is_known s i text (in_raw' name r (is_known_by name text k))) (begins_from s text d)
  unfinished (in_a_tag text m h r) n = tag_begun text (is_known s i text (in_markup' m h)) (begins_from s text r)
  unfinished (in_question text z m f) n = by_token 60 (63 ∷ text) 62 [] comment (spelling.a_question (text ++ 62 ∷ []) z m (first_here (ends_with (codes ">")) text 62 f (ends_append text (codes ">"))))
  unfinished (in_instruction text z m f) n = let k = first_more (ends_with (codes "?>")) text (codes "?>") f (ends_append text (codes "?>")) in by_token 60 (63 ∷ text) k.d k.rest comment (spelling.an_instruction (text ++ k.d ∷ k.rest) z m k.first)
  unfinished (in_bogus text z m d f) n = by_token 60 (33 ∷ text) 62 [] comment (spelling.a_bogus_comment (text ++ 62 ∷ []) z m (no_declaration i text d) (first_here (ends_with (codes ">")) text 62 f (ends_append text (codes ">"))))
  unfinished (in_html_comment text z m f) n =
      let k = first_more ends_comment text (codes "-->") f (or_left _ _ (or_right _ _ (ends_append text (codes "-->")))) in
      by_token 60 (33 ∷ 45 ∷ 45 ∷ text) k.d k.rest comment (spelling.a_comment (text ++ k.d ∷ k.rest) z m k.first)
  unfinished (in_strict text z m f) n =
      by_test (ends_with (codes "--") text)
      (λ t. by_token 60 (33 ∷ 45 ∷ 45 ∷ text) 62 [] comment (spelling.a_strict_comment text z m (whole_first (ends_with (codes "--")) text f t)))
      (λ t.
      let k = first_more (ends_with (codes "--")) text (codes "--") (all_none (ends_with (codes "--")) text f t) (ends_append text (codes "--")) in
      by_token 60 (33 ∷ 45 ∷ 45 ∷ text) k.d (k.rest ++ 62 ∷ []) comment
      (subst (λ x. Spells s i (60 ∷ 33 ∷ 45 ∷ 45 ∷ x) None comment) (append_assoc text (k.d ∷ k.rest) (62 ∷ [])) (spelling.a_strict_comment (text ++ k.d ∷ k.rest) z m k.first)))
  unfinished (in_a_doctype word text p m w e q) n = let b = begins_doctype s i m word w text p e q in by_token 60 (33 ∷ (word ++ text)) b.c b.rest doctype (spelling.a_doctype ((word ++ text) ++ b.c ∷ b.rest) m b.is_doctype)
  unfinished (in_a_section text h f) n = section_begun text h (first_more (ends_with (codes "]]>")) text (codes "]]>") f (ends_append text (codes "]]>")))
  unfinished (in_an_opening text z m b) n = opening_begun (33 ∷ text) z m b
