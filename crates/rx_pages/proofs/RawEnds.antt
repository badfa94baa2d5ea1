-- The end tags of raw elements, in HTML.
use Rattle.rx_pages.proofs.Words.{◌≡◌, ◌∙◌, ℕ, ◌+◌, true, false, [], ◌∷◌, ◌++◌, Some, refl, ap, sym, subst, arith, ◌==◌, not, list_all, cond-false, and_from, nat_tests, lowered_char, is_letter, is_white_space, solidus, greater_than_sign, between, Chars, lowered, both, not_both_ways, by_test, untrue, Html, name_of_raw, Tag, ends_name, Shape, a_start, an_end, is_tag_name, cased, SpellsTag, raw_name, Content, RawName, ReadsOn, of_white, of_one, unless, reads_each, Script}
use Rattle.rx_grammar.specs.declared.contents.Content.TheVariants as content
use Rattle.rx_pages.proofs.TagRuns.{KnownEnd, front_of}

-- their names are letters in lower case
pub record IsRawName (name : Chars) : Type 0 where
  pub letters : list_all is_letter name ≡ true
  pub low : lowered name ≡ name
  pub some : name ≡ [] → ⊥

of_raw : (r : RawName) → IsRawName (name_of_raw r)
of_raw Script = record { letters = refl; low = refl; some = λ e. cc }
of_raw _ = record { letters = refl; low = refl; some = λ e. cc }

pub is_raw_name : (i : Content) (name : Chars) → raw_name i ≡ Some name → IsRawName name
is_raw_name (content.Raw r) name h = let e : name_of_raw r ≡ name = cc in subst IsRawName e (of_raw r)
is_raw_name (content.Rcdata r) name h = let e : name_of_raw r ≡ name = cc in subst IsRawName e (of_raw r)
is_raw_name _ name h = absurd (cc)

letter_of : (c : ℕ) → is_letter (lowered_char c) ≡ true → is_letter c ≡ true
letter_of c h = by_test (between 65 90 c) (λ t. rw t refl) (λ f. ap is_letter (sym (cond-false (between 65 90 c) (c + 32) c f)) ∙ h)

all_letters : (word name : Chars) → lowered word ≡ name → list_all is_letter name ≡ true → list_all is_letter word ≡ true
all_letters [] name e h = refl
all_letters (c ∷ word) [] e h = absurd (cc)
all_letters (c ∷ word) (d ∷ name) e h =
    let k = both (is_letter d) _ h in
    let q : lowered_char c ≡ d = cc in
    and_from (is_letter c) _ (letter_of c (ap is_letter q ∙ k.0)) (all_letters word name (cc) k.1)

letter_names : (c : ℕ) → is_letter c ≡ true → not (ends_name c) ≡ true
letter_names c h =
    let white : is_white_space c ≡ false = unless is_letter c (is_white_space c) h (λ e. of_white (λ x. is_letter x ≡ false) c e refl refl refl refl refl) in
    let slash : (c == solidus) ≡ false = unless is_letter c (c == solidus) h (λ e. of_one (λ x. is_letter x ≡ false) c solidus e refl) in
    let greater : (c == greater_than_sign) ≡ false = unless is_letter c (c == greater_than_sign) h (λ e. of_one (λ x. is_letter x ≡ false) c greater_than_sign e refl) in
    rw (white, slash, greater) refl

all_name : (word : Chars) → list_all is_letter word ≡ true → list_all (λ c. not (ends_name c)) word ≡ true
all_name [] h = refl
all_name (c ∷ word) h = let k = both (is_letter c) _ h in and_from (not (ends_name c)) _ (letter_names c k.0) (all_name word k.1)

names : (word : Chars) → (word ≡ [] → ⊥) → list_all is_letter word ≡ true → is_tag_name Html word ≡ true
names [] n h = absurd (n refl)
names (c ∷ word) n h = let k = both (is_letter c) _ h in and_from (is_letter c) _ k.0 (all_name word k.1)

pub solidus_of : (x : ℕ) → lowered_char x ≡ 47 → x ≡ 47
solidus_of x h = grind (arith, nat_tests)

-- the end tag with nothing behind its name
abbrev pub end_tag : Chars → Tag
end_tag name = record { closing = true; name = name; attributes = []; slash = false }

-- the solidus, and the name in any case
record Word (name word : Chars) : Type 0 where
  written : Chars
  is : word ≡ solidus ∷ written
  low : lowered written ≡ name

word_of : (name word : Chars) → lowered word ≡ solidus ∷ name → Word name word
word_of name [] e = absurd (cc)
word_of name (x ∷ word) e = let q : lowered_char x ≡ 47 = cc in record { written = word; is = ap (λ y. y ∷ word) (solidus_of x q); low = cc }

module _ (name : Chars) (raw : IsRawName name) where
  not_nothing : (word : Chars) → lowered word ≡ name → word ≡ [] → ⊥
  not_nothing word e n = raw.some (sym e ∙ ap lowered n)

  pub spells_end : (word : Chars) → lowered word ≡ solidus ∷ name → SpellsTag Html (word ++ 62 ∷ []) (end_tag name)
  spells_end word e =
      let w = word_of name word e in
      subst (λ x. SpellsTag Html (x ++ 62 ∷ []) (end_tag name)) (sym w.is) (record {
        parts = end_tag name;
        reads = record {
          written = end_tag w.written;
          shape = an_end w.written [] (names w.written (not_nothing w.written w.low) (all_letters w.written name w.low raw.letters)) refl;
          closing = refl;
          name = sym w.low;
          attributes = tt;
          slash = refl;
        };
        unrepeated = refl;
        is_tag = refl;
      })

-- its front is read
pub end_reads : (name word : Chars) → IsRawName name → lowered word ≡ solidus ∷ name → ReadsOn Html word
end_reads name word raw e = let r = reads_each Html (word ++ 62 ∷ []) (end_tag name) (spells_end name raw word e) in front_of Html word 62 [] r.last r.run

-- two names that stand before what ends one
cut_same : (a b : Chars) (x y : ℕ) (xs ys : Chars) → a ++ x ∷ xs ≡ b ++ y ∷ ys → list_all (λ c. not (ends_name c)) a ≡ true → list_all (λ c. not (ends_name c)) b ≡ true → ends_name x ≡ true → ends_name y ≡ true → a ≡ b
cut_same [] [] x y xs ys e h k p q = refl
cut_same [] (d ∷ b) x y xs ys e h k p q = let n = both (not (ends_name d)) _ k in let m : x ≡ d = cc in absurd (not_both_ways (ends_name d) (ap ends_name (sym m) ∙ p) (untrue (ends_name d) n.0))
cut_same (c ∷ a) [] x y xs ys e h k p q = let n = both (not (ends_name c)) _ h in let m : c ≡ y = cc in absurd (not_both_ways (ends_name c) (ap ends_name m ∙ q) (untrue (ends_name c) n.0))
cut_same (c ∷ a) (d ∷ b) x y xs ys e h k p q =
    let n = both (not (ends_name c)) _ h in
    let l = both (not (ends_name d)) _ k in
    let m : c ≡ d = cc in
    ap (λ z. z ∷ a) m ∙ ap (λ zs. d ∷ zs) (cut_same a b x y xs ys (cc) n.1 l.1 p q)

-- what is spelled behind the whole name of a raw element is its end tag
pub record IsEnd (name : Chars) (t : Tag) : Type 0 where
  pub closing : t.closing ≡ true
  pub named : t.name ≡ name

tag_chars : (name : Chars) → is_tag_name Html name ≡ true → list_all (λ c. not (ends_name c)) name ≡ true
tag_chars [] h = refl
tag_chars (c ∷ name) h = let k = both (is_letter c) _ h in and_from (not (ends_name c)) _ (letter_names c k.0) k.1

-- what ends the name of a tag
record NameEnds (spaces : Chars) : Type 0 where
  x : ℕ
  xs : Chars
  is : spaces ++ greater_than_sign ∷ [] ≡ x ∷ xs
  ends : ends_name x ≡ true

name_ends : (spaces : Chars) → list_all is_white_space spaces ≡ true → NameEnds spaces
name_ends [] h = record { x = 62; xs = []; is = refl; ends = refl }
name_ends (c ∷ spaces) h = let k = both (is_white_space c) _ h in record { x = c; xs = spaces ++ 62 ∷ []; is = refl; ends = rw k.0 refl }

pub ends_raw : (name text : Chars) (t : Tag) → IsRawName name → KnownEnd name text → SpellsTag Html text t → IsEnd name t
ends_raw name text t raw k sp = by_shape text sp.reads.written sp.reads.shape refl (sp.reads.closing) (sp.reads.name)
  where
    by_shape : (chars : Chars) (written : Tag) → Shape Html chars written → chars ≡ text → sp.parts.closing ≡ written.closing → sp.parts.name ≡ cased Html written.name → IsEnd name t
    by_shape _ _ (a_start [] rest n b a) e c m = absurd (cc)
    by_shape _ _ (a_start (x ∷ n') rest n b a) e c m =
        let w = word_of name k.word k.is in
        let all : x ∷ (n' ++ rest) ≡ 47 ∷ (w.written ++ k.e ∷ k.rest) = e ∙ (k.are ∙ ap (λ y. y ++ k.e ∷ k.rest) w.is) in
        let q : x ≡ 47 = cc in
        absurd (not_both_ways (is_letter x) (both (is_letter x) _ n).0 (ap is_letter q))
    by_shape _ _ (an_end n spaces h b) e c m =
        let w = word_of name k.word k.is in
        let z = name_ends spaces b in
        let all : 47 ∷ (n ++ z.x ∷ z.xs) ≡ 47 ∷ (w.written ++ k.e ∷ k.rest) = ap (λ y. 47 ∷ (n ++ y)) (sym z.is) ∙ (e ∙ (k.are ∙ ap (λ y. y ++ k.e ∷ k.rest) w.is)) in
        let same : n ≡ w.written = cut_same n w.written z.x k.e z.xs k.rest (cc) (tag_chars n h) (all_name w.written (all_letters w.written name w.low raw.letters)) z.ends k.ends in
        record { closing = ap (λ (x : Tag). x.closing) sp.is_tag ∙ c; named = ap (λ (x : Tag). x.name) sp.is_tag ∙ (m ∙ (ap lowered same ∙ w.low)) }
