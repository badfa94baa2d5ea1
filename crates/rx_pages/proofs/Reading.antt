-- What leads from character to character to a verdict.
use Rattle.rx_pages.proofs.Words.{◌≡◌, ◌∙◌, ℕ, Bool, true, false, List, [], ◌∷◌, ◌++◌, Option, Some, None, refl, ap, sym, subst, append-nil, append_assoc, Chars, not_both_ways, Syntax, Token, IsFirst, has_markup, raw_name, Content, no_end, goes_on, whole, after_less_than, in_markup, verdict, CharactersGoOn, ReadAs, at_last, ◌≢◌}
use Rattle.rx_grammar.specs.declared.contents.Content.TheVariants as content

-- a list by its last element
pub data Last {A : Type 0} (text : List A) : Type 0 where
  no_last : text ≡ [] → Last text
  a_last : (front : List A) (c : A) → text ≡ front ++ c ∷ [] → Last text

pub last_of : {A : Type 0} (text : List A) → Last text
last_of [] = no_last refl
last_of (c ∷ text) = by (last_of text)
  where
    by : Last text → Last (c ∷ text)
    by (no_last e) = a_last [] c (ap (λ x. c ∷ x) e)
    by (a_last front d e) = a_last (c ∷ front) d (ap (λ x. c ∷ x) e)

module _ (s : Syntax) (i : Content) where
  pub all_go : (before text : Chars) → ((f : Chars) (d : ℕ) (more : Chars) → text ≡ f ++ d ∷ more → verdict s i (before ++ f) d ≡ goes_on) → CharactersGoOn s i before text
  all_go before [] h = tt
  all_go before (c ∷ text) h = (
    subst (λ x. verdict s i x c ≡ goes_on) (append-nil before) (h [] c text refl),
    all_go (before ++ c ∷ []) text (λ f d more e. subst (λ x. verdict s i x d ≡ goes_on) (sym (append_assoc before (c ∷ []) f)) (h (c ∷ f) d more (ap (λ x. c ∷ x) e))),
  )

  pub go_append : (before a b : Chars) → CharactersGoOn s i before a → CharactersGoOn s i (before ++ a) b → CharactersGoOn s i before (a ++ b)
  go_append before [] b g h = subst (λ x. CharactersGoOn s i x b) (append-nil before) h
  go_append before (c ∷ a) b g h = (g.0, go_append (before ++ c ∷ []) a b g.1 (subst (λ x. CharactersGoOn s i x b) (sym (append_assoc before (c ∷ []) a)) h))

  -- read to a last character
  pub read_to : (front : Chars) (c : ℕ) (next : Option ℕ) (token : Token) {text : Chars} → text ≡ front ++ c ∷ [] → CharactersGoOn s i [] front → verdict s i front c ≡ whole token → ReadAs s i text next token
  read_to front c next token e g h = subst (λ x. ReadAs s i x next token) (sym e) (at_last front c token g h)

  -- what is read to its last character, behind an opening
  pub reads_through : (opening x : Chars) (next : Option ℕ) (token : Token) → x ≢ [] → CharactersGoOn s i [] opening → ((f : Chars) (d : ℕ) (more : Chars) → x ≡ f ++ d ∷ more → more ≢ [] → verdict s i (opening ++ f) d ≡ goes_on)
      → ((f : Chars) (d : ℕ) → x ≡ f ++ d ∷ [] → verdict s i (opening ++ f) d ≡ whole token) → ReadAs s i (opening ++ x) next token
  reads_through opening x next token some g on off = by (last_of x)
    where
      by : Last x → ReadAs s i (opening ++ x) next token
      by (no_last e) = absurd (some e)
      by (a_last f c e) =
          read_to (opening ++ f) c next token (ap (λ y. opening ++ y) e ∙ sym (append_assoc opening f (c ∷ [])))
          (go_append [] opening f g (all_go opening f (λ a d more k. on a d (more ++ c ∷ []) (e ∙ (ap (λ y. y ++ c ∷ []) k ∙ append_assoc a (d ∷ more) (c ∷ []))) (λ h. no_end more c (sym h))))) (off f c e)

  -- what ends at the first front that meets a test
  pub reads_first : (opening x : Chars) (test : Chars → Bool) (next : Option ℕ) (token : Token) → IsFirst test x → test [] ≡ false → CharactersGoOn s i [] opening
      → ((f : Chars) (d : ℕ) (more : Chars) → x ≡ f ++ d ∷ more → test (f ++ d ∷ []) ≡ false → verdict s i (opening ++ f) d ≡ goes_on)
      → ((f : Chars) (d : ℕ) → x ≡ f ++ d ∷ [] → test (f ++ d ∷ []) ≡ true → verdict s i (opening ++ f) d ≡ whole token) → ReadAs s i (opening ++ x) next token
  reads_first opening x test next token first none g on off =
      reads_through opening x next token (λ e. not_both_ways (test []) (ap test (sym e) ∙ first.whole) none) g
      (λ f d more e n. on f d more e (first.first (f ++ d ∷ []) more (e ∙ sym (append_assoc f (d ∷ []) more)) n)) (λ f d e. off f d e (ap test (sym e) ∙ first.whole))

pub markup_raw : (i : Content) → has_markup i ≡ true → raw_name i ≡ None
markup_raw (content.Raw name) h = absurd (cc)
markup_raw (content.Rcdata name) h = absurd (cc)
markup_raw _ h = refl

pub markup_is : (s : Syntax) (i : Content) (text : Chars) (c : ℕ) → has_markup i ≡ true → verdict s i (60 ∷ text) c ≡ in_markup s i text c
markup_is s i text c h = ap (λ o. after_less_than s i o text c) (markup_raw i h)

pub raw_is : (s : Syntax) (i : Content) (text name : Chars) (c : ℕ) → raw_name i ≡ Some name → verdict s i (60 ∷ text) c ≡ after_less_than s i (Some name) text c
raw_is s i text name c h = ap (λ o. after_less_than s i o text c) h
