-- The document type is read as it is spelled.
use Rattle.rx_pages.proofs.Words.{◌≡◌, ◌≢◌, ◌∙◌, ℕ, suc, ◌+◌, ◌<◌, length, Bool, true, false, [], ◌∷◌, ◌++◌, Option, Some, None, refl, ap, sym, subst, append_assoc, arith, eqb-true, ◌&&◌, ◌||◌, ◌==◌, not, codes, drop, list_all, list_any, cond-true, cond-false, or_from, or_parts, map-append, length-map, length-append, lowered_char, greater_than_sign, is_white_space, left_bracket, Chars, begins_with, lowered, both, not_both_ways, by_test, untrue, and-false, Syntax, Html, Xhtml, one_or_more, doctype, comment, cased, cased_char, has_markup, has_sections, ends_with, begins_declaration, doctype_word, IsDoctype, Content, drop-append_seam, of_one, of_white, equal, begins_append, has_end, kept_case, goes_on, DoctypePhase, keyword, spaces, naming, passed, closed, doctype_move, doctype_move_on, doctype_on, told_of_doctype, in_doctype, after_mark, in_markup, verdict, CharactersGoOn, ReadAs, false_from_ne_true}
use Rattle.rx_pages.proofs.Reading.{all_go, reads_through, markup_is}
use Rattle.rx_pages.proofs.Comments.{none_if, bogus_at}

pub on_none : (s : Syntax) (text : Chars) → doctype_on s None text ≡ None
on_none s [] = refl
on_none s (c ∷ text) = on_none s text

pub on_append : (s : Syntax) (o : Option DoctypePhase) (a b : Chars) → doctype_on s o (a ++ b) ≡ doctype_on s (doctype_on s o a) b
on_append s o [] b = refl
on_append s o (c ∷ a) b = on_append s (doctype_move_on s o c) a b

before_close : (s : Syntax) (o : Option DoctypePhase) (more : Chars) → doctype_on s o more ≡ Some closed → more ≢ [] → told_of_doctype o ≡ goes_on
before_close s o [] h n = absurd (n refl)
before_close s None (c ∷ more) h n = absurd (let k = on_none s more in cc)
before_close s (Some closed) (c ∷ more) h n = absurd (let k = on_none s more in cc)
before_close s (Some p) (c ∷ more) h n = refl

-- one character
move_by : (s : Syntax) (p : DoctypePhase) (c : ℕ) (text : Chars) {o : Option DoctypePhase} → doctype_move s p c ≡ o → doctype_on s (Some p) (c ∷ text) ≡ doctype_on s o text
move_by s p c text h = ap (λ o. doctype_on s o text) h

over_spaces : (s : Syntax) (white text : Chars) → list_all is_white_space white ≡ true → doctype_on s (Some spaces) (white ++ text) ≡ doctype_on s (Some spaces) text
over_spaces s [] text h = refl
over_spaces s (c ∷ white) text h = let k = both (is_white_space c) _ h in move_by s spaces c (white ++ text) (cond-true _ _ _ k.0) ∙ over_spaces s white text k.1

over_name : (s : Syntax) (name left text : Chars) → cased s name ≡ left → doctype_on s (Some (naming left)) (name ++ text) ≡ doctype_on s (Some (naming [])) text
over_name s [] [] text h = refl
over_name s [] (d ∷ left) text h = absurd (cc)
over_name s (c ∷ name) [] text h = absurd (cc)
over_name s (c ∷ name) (d ∷ left) text h =
    let q : cased_char s c ≡ d = cc in
    move_by s (naming (d ∷ left)) c (name ++ text) (cond-true _ _ _ (ap (λ x. x == d) q ∙ equal d)) ∙ over_name s name left text (cc)

-- the name's first character isn't white space
first_of_name : (s : Syntax) (name text : Chars) → cased s name ≡ codes "html" → doctype_on s (Some spaces) (name ++ text) ≡ doctype_on s (Some (naming (codes "html"))) (name ++ text)
first_of_name s [] text h = absurd (cc)
first_of_name s (c ∷ name) text h =
    let q : cased_char s c ≡ 104 = cc in
    move_by s spaces c (name ++ text) (cond-false _ _ _ (by_test {G = is_white_space c ≡ false} (is_white_space c) (λ w. absurd (no_white s c w (ap (λ x. x == 104) q ∙ equal 104))) (λ w. w)))
  where
    no_white : (s : Syntax) (c : ℕ) → is_white_space c ≡ true → (cased_char s c == 104) ≡ true → ⊥
    no_white Html c w h = not_both_ways (cased_char Html c == 104) h (of_white (λ x. (cased_char Html x == 104) ≡ false) c w refl refl refl refl refl)
    no_white Xhtml c w h = not_both_ways (cased_char Xhtml c == 104) h (of_white (λ x. (cased_char Xhtml x == 104) ≡ false) c w refl refl refl refl refl)

over_rest : (s : Syntax) (rest : Chars) → list_all (λ c. not (c == greater_than_sign || c == left_bracket)) rest ≡ true → doctype_on s (Some passed) (rest ++ 62 ∷ []) ≡ Some closed
over_rest s [] h = refl
over_rest s (c ∷ rest) h =
    let k = both (not (c == greater_than_sign || c == left_bracket)) _ h in
    let n = or_parts (c == greater_than_sign) (c == left_bracket) (untrue _ k.0) in
    move_by s passed c (rest ++ 62 ∷ []) (cond-false _ _ _ n.0 ∙ cond-false _ _ _ n.1) ∙ over_rest s rest k.1

after_name : (s : Syntax) (rest : Chars) → list_all (λ c. not (c == greater_than_sign || c == left_bracket)) rest ≡ true → ((c : ℕ) (more : Chars) → rest ≡ c ∷ more → is_white_space c ≡ true) → doctype_on s (Some (naming [])) (rest ++ 62 ∷ []) ≡ Some closed
after_name s [] h w = refl
after_name s (c ∷ rest) h w = let k = both (not (c == greater_than_sign || c == left_bracket)) _ h in move_by s (naming []) c (rest ++ 62 ∷ []) (cond-true _ _ _ (w c rest refl)) ∙ over_rest s rest k.1

over_white : (s : Syntax) (white text : Chars) → one_or_more is_white_space white ≡ true → doctype_on s (Some keyword) (white ++ text) ≡ doctype_on s (Some spaces) text
over_white s [] text h = absurd (cc)
over_white s (c ∷ white) text h = let k = both (is_white_space c) _ h in move_by s keyword c (white ++ text) (cond-true _ _ _ k.0) ∙ over_spaces s white text k.1

-- what follows the first word, to its end
pub behind_word : (s : Syntax) (text : Chars) (d : IsDoctype s text) → doctype_on s (Some keyword) (d.spaces ++ (d.name ++ (d.rest ++ 62 ∷ []))) ≡ Some closed
behind_word s text d =
    over_white s d.spaces (d.name ++ (d.rest ++ 62 ∷ [])) d.apart
    ∙ (first_of_name s d.name (d.rest ++ 62 ∷ []) d.name_is ∙ (over_name s d.name (codes "html") (d.rest ++ 62 ∷ []) d.name_is ∙ after_name s d.rest d.passed d.after))

-- a character other than the one that a letter of the word is read as
not_char : (c d k : ℕ) → lowered_char c ≡ d → (lowered_char k == d) ≡ false → (k == c) ≡ false
not_char c d k e n = by_test {G = (k == c) ≡ false} (k == c) (λ h. absurd (not_both_ways (lowered_char k == d) (ap (λ x. lowered_char x == d) (eqb-true k c h) ∙ (ap (λ x. x == d) e ∙ equal d)) n)) (λ h. h)

pub no_end : (word read : Chars) → lowered word ≡ read → list_all (λ d. not (d == 62)) read ≡ true → list_any (λ c. c == 62) word ≡ false
no_end [] read e h = refl
no_end (c ∷ word) [] e h = absurd (cc)
no_end (c ∷ word) (d ∷ read) e h =
    let k = both (not (d == 62)) _ h in
    let q : lowered_char c ≡ d = cc in
    or_from (c == 62) _ (by_test {G = (c == 62) ≡ false} (c == 62) (λ w. absurd (not_both_ways (d == 62) (ap (λ x. x == 62) (sym q) ∙ of_one (λ x. (lowered_char x == 62) ≡ true) c 62 w refl) (untrue _ k.0))) (λ w. w)) (no_end word read (cc) k.1)

any_front : (test : ℕ → Bool) (a b : Chars) → list_any test (a ++ b) ≡ false → list_any test a ≡ false
any_front test [] b h = refl
any_front test (c ∷ a) b h = let k = or_parts (test c) _ h in or_from (test c) _ k.0 (any_front test a b k.1)

too_short : (p q : Chars) → length q < length p → begins_with p q ≡ false
too_short [] q h = absurd (omega arith)
too_short (c ∷ p) [] h = refl
too_short (c ∷ p) (d ∷ q) h = rw (too_short p q (omega arith)) (and-false (c == d))

-- nothing, or what begins with a d
abbrev Heads : Chars → Type 0
Heads [] = Unit {0}
Heads (x ∷ text) = lowered_char x ≡ 100

heads_front : (f more : Chars) → lowered (f ++ more) ≡ codes "doctype" → Heads f
heads_front [] more e = tt
heads_front (x ∷ f) more e = cc

heads_append : (word f : Chars) → lowered word ≡ codes "doctype" → Heads (word ++ f)
heads_append [] f e = absurd (cc)
heads_append (x ∷ word) f e = cc

begins_no : (k : ℕ) (p text : Chars) → (lowered_char k == 100) ≡ false → Heads text → begins_with (k ∷ p) text ≡ false
begins_no k p [] n h = refl
begins_no k p (x ∷ text) n h = ap (λ b. b && begins_with p text) (not_char x 100 k h n)

module _ (i : Content) (next : Option ℕ) (markup : has_markup i ≡ true) where
  -- the word, in any case
  module _ (word : Chars) (is_word : lowered word ≡ codes "doctype") where
    length_is : length word ≡ 7
    length_is = sym (length-map word lowered_char) ∙ ap length is_word

    length_front : (f : Chars) (d : ℕ) (more : Chars) → word ≡ f ++ d ∷ more → length (lowered f) < 7
    length_front f d more e = shorter (length (lowered f)) (length f) (length more) (length-map f lowered_char) (sym (ap length e ∙ length-append f (d ∷ more)) ∙ length_is)
      where
        shorter : (a b c : ℕ) → a ≡ b → b + suc c ≡ 7 → a < 7
        shorter a b c p q = omega arith

    undeclared : (f : Chars) (d : ℕ) (more : Chars) → word ≡ f ++ d ∷ more → begins_declaration i f ≡ false
    undeclared f d more e =
        let h = heads_front f (d ∷ more) (sym (ap lowered e) ∙ is_word) in
        or_from (begins_with (codes "--") f || begins_with (codes "doctype") (lowered f)) _ (or_from (begins_with (codes "--") f) _ (begins_no 45 (45 ∷ []) f refl h) (too_short (codes "doctype") (lowered f) (length_front f d more e)))
        (ap (λ b. has_sections i && b) (begins_no 91 (codes "CDATA[") f refl h) ∙ and-false (has_sections i))

    html_word : CharactersGoOn Html i (codes "<!") word
    html_word = all_go Html i (codes "<!") word (λ f d more e. markup_is Html i (33 ∷ f) d markup ∙ (bogus_at i f d (undeclared f d more e) ∙ none_if _ comment (false_from_ne_true (ends_with (codes ">") (f ++ d ∷ [])) (λ h. not_both_ways (list_any (λ c. c == 62) (f ++ d ∷ [])) (has_end (f ++ d ∷ []) h) (any_front (λ c. c == 62) (f ++ d ∷ []) more (sym (ap (list_any (λ c. c == 62)) (e ∙ sym (append_assoc f (d ∷ []) more))) ∙ no_end word (codes "doctype") is_word refl))))))

    html_behind : (f : Chars) (d : ℕ) → after_mark Html i (word ++ f) d ≡ in_doctype Html f d
    html_behind f d =
        cond-false _ _ _ (begins_no 45 (45 ∷ []) (word ++ f) refl (heads_append word f is_word))
        ∙ (cond-true _ _ _ (ap (begins_with (codes "doctype")) (map-append lowered_char word f ∙ ap (λ x. x ++ lowered f) is_word) ∙ begins_append (codes "doctype") (lowered f))
        ∙ ap (λ x. in_doctype Html x d) (ap (λ n. drop n (word ++ f)) (sym length_is) ∙ drop-append_seam word f))

  xhtml_word : CharactersGoOn Xhtml i (codes "<!") (codes "DOCTYPE")
  xhtml_word = (at (codes "!") 68, (at (codes "!D") 79, (at (codes "!DO") 67, (at (codes "!DOC") 84, (at (codes "!DOCT") 89, (at (codes "!DOCTY") 80, (at (codes "!DOCTYP") 69, tt)))))))
    where
      at : (text : Chars) (c : ℕ) → verdict Xhtml i (60 ∷ text) c ≡ in_markup Xhtml i text c
      at text c = markup_is Xhtml i text c markup

  word_goes : (s : Syntax) (word : Chars) → cased s word ≡ doctype_word s → CharactersGoOn s i (codes "<!") word
  word_goes Html word e = html_word word e
  word_goes Xhtml word e = subst (λ w. CharactersGoOn Xhtml i (codes "<!") w) (sym (sym (kept_case word) ∙ e)) xhtml_word

  pub behind : (s : Syntax) (word : Chars) → cased s word ≡ doctype_word s → (f : Chars) (d : ℕ) → after_mark s i (word ++ f) d ≡ in_doctype s f d
  behind Html word e f d = html_behind word e f d
  behind Xhtml word e f d = subst (λ w. after_mark Xhtml i (w ++ f) d ≡ in_doctype Xhtml f d) (sym (sym (kept_case word) ∙ e)) refl

  pub reads_doctype : (s : Syntax) (text : Chars) → IsDoctype s text → ReadAs s i (60 ∷ 33 ∷ text) next doctype
  reads_doctype s text d =
      subst (λ x. ReadAs s i (60 ∷ 33 ∷ x) next doctype) (sym d.are)
      (reads_through s i (codes "<!" ++ d.keyword) after next doctype (no_space d.spaces d.apart) (refl, (markup_is s i [] 33 markup, word_goes s d.keyword d.keyword_is))
      (λ a x more e n. within a x ∙ before_close s (doctype_on s (Some keyword) (a ++ x ∷ [])) more (sym (on_append s (Some keyword) (a ++ x ∷ []) more) ∙ (ap (doctype_on s (Some keyword)) (append_assoc a (x ∷ []) more ∙ sym e) ∙ behind_word s text d)) n)
      (λ f c e. within f c ∙ ap told_of_doctype (ap (doctype_on s (Some keyword)) (sym e) ∙ behind_word s text d)))
    where
      after : Chars
      after = d.spaces ++ (d.name ++ (d.rest ++ 62 ∷ []))

      no_space : (x : Chars) → one_or_more is_white_space x ≡ true → x ++ (d.name ++ (d.rest ++ 62 ∷ [])) ≡ [] → ⊥
      no_space [] h e = absurd (cc)
      no_space (c ∷ x) h e = cc

      within : (a : Chars) (x : ℕ) → verdict s i (60 ∷ 33 ∷ (d.keyword ++ a)) x ≡ in_doctype s a x
      within a x = markup_is s i (33 ∷ (d.keyword ++ a)) x markup ∙ behind s d.keyword d.keyword_is a x
