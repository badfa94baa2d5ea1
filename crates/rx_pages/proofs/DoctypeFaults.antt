-- What is read as a document type is one, and where none goes on a character is refused.
use Rattle.rx_pages.proofs.Words.{◌≡◌, ◌∙◌, ℕ, true, cond, [], ◌∷◌, ◌++◌, Option, Some, None, refl, ap, sym, subst, append_assoc, eqb-true, ◌||◌, ◌==◌, not, codes, list_all, greater_than_sign, is_white_space, left_bracket, Chars, split, Syntax, Html, Xhtml, doctype, cased, cased_char, has_markup, doctype_word, IsDoctype, a_doctype, Content, BadDoctype, BeginsDoctype, BeginsNoDoctype, of_white, DoctypePhase, keyword, spaces, naming, passed, closed, in_name, doctype_move, doctype_on, refused, told_of_doctype}
use Rattle.rx_pages.proofs.Below.{on_none, on_append, behind, begun_goes, markup_is, IsRefused}

-- what stands behind the name
pub record Rest (text : Chars) : Type 0 where
  pub rest : Chars
  pub are : text ≡ rest ++ 62 ∷ []
  pub inner : list_all (λ c. not (c == greater_than_sign || c == left_bracket)) rest ≡ true

module _ (s : Syntax) where
  abbrev Ends : Option DoctypePhase → Chars → Type 0
  Ends o text = doctype_on s o text ≡ Some closed

  at_end : (text : Chars) → Ends (Some closed) text → text ≡ []
  at_end [] h = refl
  at_end (c ∷ text) h = absurd (let k = on_none s text in cc)

  pub no_way : (text : Chars) (G : Type 0) → Ends None text → G
  no_way text G h = absurd (let k = on_none s text in cc)

  ends_by : (c : ℕ) (text : Chars) → (c == 62) ≡ true → Ends (Some closed) text → c ∷ text ≡ 62 ∷ []
  ends_by c text e h = ap (λ x. x ∷ text) (eqb-true c 62 e) ∙ ap (λ x. 62 ∷ x) (at_end text h)

  rest_read : (text : Chars) → Ends (Some passed) text → Rest text
  rest_read [] h = absurd (cc)
  rest_read (c ∷ text) h =
      split (λ o. Ends o text → Rest (c ∷ text)) (c == greater_than_sign) (Some closed) (cond (c == left_bracket) None (Some passed))
      (λ e k. record { rest = []; are = ends_by c text e k; inner = refl })
      (λ e. split (λ o. Ends o text → Rest (c ∷ text)) (c == left_bracket) None (Some passed) (λ f k. no_way text _ k)
      (λ f k. let r = rest_read text k in record { rest = c ∷ r.rest; are = ap (λ x. c ∷ x) r.are; inner = rw (e, f, r.inner) refl })) h

  -- the rest, which white space begins where there is any
  record Behind (text : Chars) : Type 0 where
    pub rest : Rest text
    pub white : (c : ℕ) (more : Chars) → rest.rest ≡ c ∷ more → is_white_space c ≡ true

  behind_read : (text : Chars) → Ends (Some (naming [])) text → Behind text
  behind_read [] h = absurd (cc)
  behind_read (c ∷ text) h =
      split (λ o. Ends o text → Behind (c ∷ text)) (is_white_space c) (Some passed) (cond (c == greater_than_sign) (Some closed) None)
      (λ e k. let r = rest_read text k in record {
        rest = record { rest = c ∷ r.rest; are = ap (λ x. c ∷ x) r.are; inner = rw (of_white (λ x. not (x == greater_than_sign || x == left_bracket) ≡ true) c e refl refl refl refl refl, r.inner) refl };
        white = λ d more q. let p : c ≡ d = cc in subst (λ x. is_white_space x ≡ true) p e;
      })
      (λ e. split (λ o. Ends o text → Behind (c ∷ text)) (c == greater_than_sign) (Some closed) None
      (λ f k. record { rest = record { rest = []; are = ends_by c text f k; inner = refl }; white = λ d more q. absurd (cc) }) (λ f k. no_way text _ k)) h

  record Named (left text : Chars) : Type 0 where
    pub name : Chars
    pub more : Chars
    pub are : text ≡ name ++ more
    pub is_name : cased s name ≡ left
    pub behind : Behind more

  name_read : (left text : Chars) → Ends (Some (naming left)) text → Named left text
  name_read [] text h = record { name = []; more = text; are = refl; is_name = refl; behind = behind_read text h }
  name_read (d ∷ left) [] h = absurd (cc)
  name_read (d ∷ left) (c ∷ text) h =
      split (λ o. Ends o text → Named (d ∷ left) (c ∷ text)) (cased_char s c == d) (Some (naming left)) None
      (λ e k. let r = name_read left text k in record {
        name = c ∷ r.name;
        more = r.more;
        are = ap (λ x. c ∷ x) r.are;
        is_name = ap (λ x. x ∷ cased s r.name) (eqb-true (cased_char s c) d e) ∙ ap (λ x. d ∷ x) r.is_name;
        behind = r.behind;
      })
      (λ e k. no_way text _ k) h

  record Spaced (text : Chars) : Type 0 where
    pub white : Chars
    pub more : Chars
    pub are : text ≡ white ++ more
    pub all_white : list_all is_white_space white ≡ true
    pub named : Named (codes "html") more

  spaces_read : (text : Chars) → Ends (Some spaces) text → Spaced text
  spaces_read [] h = absurd (cc)
  spaces_read (c ∷ text) h =
      split (λ o. Ends o text → Spaced (c ∷ text)) (is_white_space c) (Some spaces) (in_name s (codes "html") c)
      (λ e k. let r = spaces_read text k in record { white = c ∷ r.white; more = r.more; are = ap (λ x. c ∷ x) r.are; all_white = rw (e, r.all_white) refl; named = r.named })
      (λ e k. record { white = []; more = c ∷ text; are = refl; all_white = refl; named = name_read (codes "html") (c ∷ text) k }) h

  -- what is read to its end, behind the first word, is a document type
  pub is_doctype : (word text : Chars) → cased s word ≡ doctype_word s → Ends (Some keyword) text → IsDoctype s (word ++ text)
  is_doctype word [] w h = absurd (cc)
  is_doctype word (c ∷ text) w h =
      split (λ o. Ends o text → IsDoctype s (word ++ c ∷ text)) (is_white_space c) (Some spaces) None
      (λ e k.
      let r = spaces_read text k in
      let b = r.named.behind in
      record {
        keyword = word;
        spaces = c ∷ r.white;
        name = r.named.name;
        rest = b.rest.rest;
        are = ap (λ x. word ++ c ∷ x) (r.are ∙ ap (λ x. r.white ++ x) (r.named.are ∙ ap (λ x. r.named.name ++ x) b.rest.are));
        keyword_is = w;
        apart = rw (e, r.all_white) refl;
        name_is = r.named.is_name;
        passed = b.rest.inner;
        after = b.white;
      })
      (λ e k. no_way text _ k) h

-- what completes a document type
abbrev pub completion : DoctypePhase → Chars
completion keyword = codes " html>"
completion spaces = codes "html>"
completion (naming left) = left ++ 62 ∷ []
completion passed = codes ">"
completion closed = []

abbrev pub Closable : Syntax → DoctypePhase → Type 0
Closable s p = doctype_on s (Some p) (completion p) ≡ Some closed

spaces_close : (s : Syntax) → Closable s spaces
spaces_close Html = refl
spaces_close Xhtml = refl

name_closes : (s : Syntax) → Closable s (naming (codes "tml"))
name_closes Html = refl
name_closes Xhtml = refl

pub keyword_closes : (s : Syntax) → Closable s keyword
keyword_closes Html = refl
keyword_closes Xhtml = refl

-- where the next phase is one, it can be completed as well
abbrev pub Next : Syntax → Option DoctypePhase → Type 0
Next s None = Unit {0}
Next s (Some q) = Closable s q

next_closes : (s : Syntax) (p : DoctypePhase) (c : ℕ) → Closable s p → Next s (doctype_move s p c)
next_closes s keyword c h = split (Next s) (is_white_space c) (Some spaces) None (λ e. spaces_close s) (λ e. tt)
next_closes s spaces c h = split (Next s) (is_white_space c) (Some spaces) (in_name s (codes "html") c) (λ e. spaces_close s) (λ e. split (Next s) (cased_char s c == 104) (Some (naming (codes "tml"))) None (λ f. name_closes s) (λ f. tt))
next_closes s (naming []) c h = split (Next s) (is_white_space c) (Some passed) (cond (c == greater_than_sign) (Some closed) None) (λ e. refl) (λ e. split (Next s) (c == greater_than_sign) (Some closed) None (λ f. refl) (λ f. tt))
next_closes s (naming (d ∷ left)) c h =
    split (Next s) (cased_char s c == d) (Some (naming left)) None
    (λ e. split (λ o. doctype_on s o (left ++ 62 ∷ []) ≡ Some closed → Closable s (naming left)) (cased_char s d == d) (Some (naming left)) None (λ f k. k) (λ f k. no_way s (left ++ 62 ∷ []) _ k) h)
    (λ e. tt)
next_closes s passed c h = split (Next s) (c == greater_than_sign) (Some closed) (cond (c == left_bracket) None (Some passed)) (λ e. refl) (λ e. split (Next s) (c == left_bracket) None (Some passed) (λ f. tt) (λ f. refl))
next_closes s closed c h = tt

pub closes_on : (s : Syntax) (o : Option DoctypePhase) (text : Chars) → Next s o → Next s (doctype_on s o text)
closes_on s o [] h = h
closes_on s None (c ∷ text) h = closes_on s None text tt
closes_on s (Some p) (c ∷ text) h = closes_on s (doctype_move s p c) text (next_closes s p c h)

-- the character with which no document type goes on
pub refuses_doctype : (s : Syntax) (i : Content) → has_markup i ≡ true → (word text : Chars) (c : ℕ) → cased s word ≡ doctype_word s → BeginsDoctype s (word ++ text) → BeginsNoDoctype s (word ++ (text ++ c ∷ []))
    → IsRefused s i BadDoctype (60 ∷ 33 ∷ (word ++ (text ++ c ∷ [])))
refuses_doctype s i markup word text c w b n =
    record {
      front = 60 ∷ 33 ∷ (word ++ text);
      c = c;
      are = ap (λ x. 60 ∷ 33 ∷ x) (sym (append_assoc word text (c ∷ [])));
      go = begun_goes s i (60 ∷ 33 ∷ (word ++ text)) b.c b.rest None doctype (a_doctype ((word ++ text) ++ b.c ∷ b.rest) markup b.is_doctype);
      refuses = markup_is s i (33 ∷ (word ++ text)) c markup ∙ (behind i None markup s word w text c ∙ refused_at (doctype_on s (Some keyword) (text ++ c ∷ [])) refl);
    }
  where
    refused_at : (o : Option DoctypePhase) → doctype_on s (Some keyword) (text ++ c ∷ []) ≡ o → told_of_doctype o ≡ refused BadDoctype
    refused_at None e = refl
    refused_at (Some q) e =
        let k : Closable s q = subst (Next s) e (closes_on s (Some keyword) (text ++ c ∷ []) (keyword_closes s)) in
        let d = is_doctype s word ((text ++ c ∷ []) ++ completion q) w (on_append s (Some keyword) (text ++ c ∷ []) (completion q) ∙ (ap (λ o. doctype_on s o (completion q)) e ∙ k)) in
        absurd (n (completion q) (subst (IsDoctype s) (sym (append_assoc word (text ++ c ∷ []) (completion q))) d))
