-- The characters of a whole tag are known to be one.
use Rattle.rx_reader.proofs.Common.{◌≡◌, ◌∙◌, ℕ, true, [], ◌∷◌, ◌++◌, refl, sym, ap, subst, Option, cond-true, list_all, solidus, greater_than_sign, is_white_space, Chars, both, Syntax, Html, Tag, Token, tag, Shape, a_start, an_end, SpellsTag, cased, Spells, is_known_tag, Content}
use Rattle.rx_grammar.specs.Spelling as spelling
use Rattle.rx_pages.proofs.Pends.{raw_html, occurs}
use Rattle.rx_pages.proofs.Below.{KnownEnd, is_known_by, is_known, in_raw', first_is}

-- an end tag of HTML with its name
end_known : (name text : Chars) (w : Tag) → Shape Html text w → w.closing ≡ true → cased Html w.name ≡ name → KnownEnd name text
end_known name _ _ (a_start n rest t b k) c e = absurd (cc)
end_known name _ _ (an_end n spaces t b) c e = by spaces b
  where
    by : (spaces : Chars) → list_all is_white_space spaces ≡ true → KnownEnd name (solidus ∷ (n ++ (spaces ++ greater_than_sign ∷ [])))
    by [] h = record { word = solidus ∷ n; e = greater_than_sign; rest = []; are = refl; is = ap (λ x. solidus ∷ x) e; ends = refl }
    by (d ∷ spaces) h = record { word = solidus ∷ n; e = d; rest = spaces ++ greater_than_sign ∷ []; are = refl; is = ap (λ x. solidus ∷ x) e; ends = rw (both (is_white_space d) (list_all is_white_space spaces) h).0 refl }

pub spelled_known : (s : Syntax) (i : Content) (chars : Chars) (next : Option ℕ) (token : Token) (t : Tag) → occurs s i ≡ true → Spells s i chars next token → token ≡ tag t → is_known_tag s i chars ≡ true
spelled_known s i _ next _ t o (spelling.a_tag text u m sp) e =
    cond-true _ _ _ m ∙ first_is s text u sp
spelled_known s i _ next _ t o (spelling.an_end_of_raw text name u r sp c n) e =
    let h : s ≡ Html = raw_html s i name o r in
    let sp2 : SpellsTag Html text u = subst (λ (x : Syntax). SpellsTag x text u) h sp in
    let closing : sp2.reads.written.closing ≡ true = sym (ap (λ (x : Tag). x.closing) sp2.is_tag ∙ sp2.reads.closing) ∙ c in
    let named : cased Html sp2.reads.written.name ≡ name = sym (ap (λ (x : Tag). x.name) sp2.is_tag ∙ sp2.reads.name) ∙ n in
    is_known s i text (in_raw' name r (is_known_by name text (end_known name text sp2.reads.written sp2.reads.shape closing named)))
spelled_known s i _ next _ t o _ e = absurd (cc)
