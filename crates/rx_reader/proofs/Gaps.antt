-- What stands before an attribute or before the end of a tag, one character at a time.
use Rattle.rx_grammar.proofs.Common.{◌≡◌, ℕ, Bool, true, false, [], ◌∷◌, ◌++◌, refl, ◌∙◌, ◌==◌, list_all, list_all-append, is_white_space, solidus, Chars, both, or_left, and_from, Syntax, Html, Xhtml, one_or_more, first_then, is_gap, is_last_gap, is_strict_end, ends_in_solidus}
use Rattle.rx_reader.proofs.Classes.{of_white}
use Rattle.rx_reader.proofs.Complete.{is_between}

-- white space at the end of what stands between attributes
abbrev pub InGap : Syntax → Chars → Type 0
InGap Html gap = (list_all is_between gap ≡ true) × (ends_in_solidus gap ≡ false)
InGap Xhtml gap = one_or_more is_white_space gap ≡ true

-- it may end the tag, with a `/` or not
abbrev pub Ends : Syntax → Chars → Bool → Type 0
Ends s gap slash = (is_last_gap s gap ≡ true) × (ends_in_solidus gap ≡ slash)

pub all_snoc : (test : ℕ → Bool) (text : Chars) (c : ℕ) → list_all test text ≡ true → test c ≡ true → list_all test (text ++ c ∷ []) ≡ true
all_snoc test text c h k = rw (list_all-append test text (c ∷ []), h, k) refl

pub then_snoc : (first then : ℕ → Bool) (text : Chars) (c : ℕ) → first_then first then text ≡ true → then c ≡ true → first_then first then (text ++ c ∷ []) ≡ true
then_snoc first then [] c h k = absurd (cc)
then_snoc first then (d ∷ text) c h k = let b = both (first d) _ h in and_from (first d) _ b.0 (all_snoc then text c b.1 k)

pub some_snoc : (test : ℕ → Bool) (text : Chars) (c : ℕ) → list_all test text ≡ true → test c ≡ true → one_or_more test (text ++ c ∷ []) ≡ true
some_snoc test [] c h k = rw k refl
some_snoc test (d ∷ text) c h k = let b = both (test d) _ h in and_from (test d) _ b.0 (all_snoc test text c b.1 k)

pub solidus_snoc : (gap : Chars) (c : ℕ) → ends_in_solidus (gap ++ c ∷ []) ≡ (c == solidus)
solidus_snoc [] c = refl
solidus_snoc (d ∷ []) c = refl
solidus_snoc (d ∷ e ∷ gap) c = solidus_snoc (e ∷ gap) c

white_solidus : (c : ℕ) → is_white_space c ≡ true → (c == solidus) ≡ false
white_solidus c h = of_white (λ x. (x == solidus) ≡ false) c h refl refl refl refl refl

white_between : (c : ℕ) → is_white_space c ≡ true → is_between c ≡ true
white_between c h = rw h refl

pub whites_between : (gap : Chars) → list_all is_white_space gap ≡ true → list_all is_between gap ≡ true
whites_between [] h = refl
whites_between (c ∷ gap) h = let b = both (is_white_space c) _ h in and_from (is_between c) _ (white_between c b.0) (whites_between gap b.1)

pub whites_end : (gap : Chars) → list_all is_white_space gap ≡ true → ends_in_solidus gap ≡ false
whites_end [] h = refl
whites_end (c ∷ []) h = white_solidus c (both (is_white_space c) _ h).0
whites_end (c ∷ d ∷ gap) h = whites_end (d ∷ gap) (both (is_white_space c) _ h).1

pub strict_snoc : (gap : Chars) (c : ℕ) → list_all is_white_space gap ≡ true → is_between c ≡ true → is_strict_end (gap ++ c ∷ []) ≡ true
strict_snoc [] c h k = k
strict_snoc (d ∷ []) c h k = and_from (is_white_space d) _ (both (is_white_space d) _ h).0 k
strict_snoc (d ∷ e ∷ gap) c h k = let b = both (is_white_space d) _ h in and_from (is_white_space d) _ b.0 (strict_snoc (e ∷ gap) c b.1 k)

pub whites_strict : (gap : Chars) → list_all is_white_space gap ≡ true → is_strict_end gap ≡ true
whites_strict [] h = refl
whites_strict (c ∷ []) h = or_left (is_white_space c) _ (both (is_white_space c) _ h).0
whites_strict (c ∷ d ∷ gap) h = let b = both (is_white_space c) _ h in and_from (is_white_space c) _ b.0 (whites_strict (d ∷ gap) b.1)

pub all_of_some : (test : ℕ → Bool) (text : Chars) → one_or_more test text ≡ true → list_all test text ≡ true
all_of_some test [] h = absurd (cc)
all_of_some test (c ∷ text) h = h

pub gap_is_gap : (s : Syntax) (gap : Chars) → InGap s gap → is_gap s gap ≡ true
gap_is_gap Html gap h = h.0
gap_is_gap Xhtml gap h = h

pub gap_ends : (s : Syntax) (gap : Chars) → InGap s gap → Ends s gap false
gap_ends Html gap h = h
gap_ends Xhtml gap h = let a = all_of_some is_white_space gap h in (whites_strict gap a, whites_end gap a)

pub gap_white : (s : Syntax) (gap : Chars) (c : ℕ) → InGap s gap → is_white_space c ≡ true → InGap s (gap ++ c ∷ [])
gap_white Html gap c h k = (all_snoc is_between gap c h.0 (white_between c k), solidus_snoc gap c ∙ white_solidus c k)
gap_white Xhtml gap c h k = some_snoc is_white_space gap c (all_of_some is_white_space gap h) k

pub gap_slash : (s : Syntax) (gap : Chars) → InGap s gap → Ends s (gap ++ solidus ∷ []) true
gap_slash Html gap h = (all_snoc is_between gap solidus h.0 refl, solidus_snoc gap solidus)
gap_slash Xhtml gap h = (strict_snoc gap solidus (all_of_some is_white_space gap h) refl, solidus_snoc gap solidus)

-- directly after a value, or a tag's name
pub first_white : (s : Syntax) (c : ℕ) → is_white_space c ≡ true → InGap s (c ∷ [])
first_white Html c k = (all_snoc is_between [] c refl (white_between c k), white_solidus c k)
first_white Xhtml c k = some_snoc is_white_space [] c refl k

pub first_slash : (s : Syntax) → Ends s (solidus ∷ []) true
first_slash Html = (refl, refl)
first_slash Xhtml = (refl, refl)

pub first_end : (s : Syntax) → Ends s [] false
first_end Html = (refl, refl)
first_end Xhtml = (refl, refl)

-- HTML reads on after a `/`
pub slash_white : (s : Syntax) → s ≡ Html → (gap : Chars) (c : ℕ) → Ends s gap true → is_white_space c ≡ true → InGap s (gap ++ c ∷ [])
slash_white Html z gap c h k = (all_snoc is_between gap c h.0 (white_between c k), solidus_snoc gap c ∙ white_solidus c k)
slash_white Xhtml z gap c h k = absurd (cc)

pub slash_slash : (s : Syntax) → s ≡ Html → (gap : Chars) → Ends s gap true → Ends s (gap ++ solidus ∷ []) true
slash_slash Html z gap h = (all_snoc is_between gap solidus h.0 refl, solidus_snoc gap solidus)
slash_slash Xhtml z gap h = absurd (cc)

-- a `>` after a `/` is the end, so what else is read there isn't one
pub slash_gap : (s : Syntax) → s ≡ Html → (gap : Chars) → Ends s gap true → is_gap s gap ≡ true
slash_gap Html z gap h = h.0
slash_gap Xhtml z gap h = absurd (cc)

pub no_gap : (s : Syntax) → s ≡ Html → is_gap s [] ≡ true
no_gap Html z = refl
no_gap Xhtml z = absurd (cc)

-- white space after a name without a value
pub whites_gap : (s : Syntax) → s ≡ Html → (gap : Chars) → list_all is_white_space gap ≡ true → InGap s gap
whites_gap Html z gap h = (whites_between gap h, whites_end gap h)
whites_gap Xhtml z gap h = absurd (cc)
