-- A run that is known to be a tag is read as one.
use Rattle.rx_pages.proofs.Words.{suc, ◌≡◌, ◌≢◌, ◌∙◌, ℕ, ◌+◌, ◌≤◌, length, take, Bool, true, false, [], ◌∷◌, ◌++◌, Some, None, Ok, Err, refl, ap, sym, subst, append-nil, append_assoc, inl, inr, ◌⊎◌, arith, ◌&&◌, ◌==◌, not, drop, and_parts, cond-true, cond-false, and_right, length-map, take-append-drop, length-append, lowered_char, solidus, less_than_sign, Chars, begins_with, lowered, both, by_test, and-false, take-append_seam, drop-append_seam, Syntax, same, name_of_raw, meaning, ends_name, begins, TagFault, has_markup, raw_name, begins_end, stops_end, is_known_tag, is_known_end, is_known_raw, Content, Kind, BadTag, is_last, TagState, fresh, moved, checked, tag_step, tag_step_on, tag_on, ReadsOn, two_fronts, begins_append, last_none, on_err, tag_on-append, parts, is_refused, same_self, goes_on, told_of_tag, in_tag, in_raw, verdict, CharactersGoOn}
use Rattle.rx_grammar.specs.declared.contents.Content.TheVariants as content
use Rattle.rx_pages.proofs.Reading.{all_go, markup_is, markup_raw, raw_is}
use Rattle.rx_pages.proofs.RawText.{begins_end_front}
use Rattle.rx_pages.proofs.Contents.{same_is}
use Rattle.rx_pages.proofs.Refusals.{IsRefused}
use Rattle.rx_pages.proofs.Markup.{is_first, markup_tag}

-- The fronts of what is read as a tag are read so.
pub after_last : (s : Syntax) (st : TagState) (c : ℕ) (text : Chars) (last : TagState) → is_last st.phase ≡ true → tag_on s (meaning s) (Ok st) (c ∷ text) ≡ Ok last → ⊥
after_last s st c text last w h =
    let e : tag_step s (meaning s) st c ≡ Err BadTag = ap (λ m. checked s (moved s (meaning s) st c m)) (last_none s st.phase c w) in
    let k : tag_on s (meaning s) (Err BadTag) text ≡ Ok last = ap (λ o. tag_on s (meaning s) o text) (sym e) ∙ h in
    let m = on_err s (meaning s) BadTag text in
    cc

pub front_of : (s : Syntax) (a : Chars) (c : ℕ) (b : Chars) (last : TagState) → tag_on s (meaning s) (Ok fresh) (a ++ c ∷ b) ≡ Ok last → ReadsOn s a
front_of s a c b last h =
    let p = parts s a (c ∷ b) last h in
    record { reached = p.between; run = p.first; unfinished = by_test (is_last p.between.phase) (λ w. absurd (after_last s p.between c b last w p.second)) (λ w. w) }

front_reads : (s : Syntax) (a b : Chars) → ReadsOn s (a ++ b) → ReadsOn s a
front_reads s a [] r = subst (ReadsOn s) (append-nil a) r
front_reads s a (c ∷ b) r = front_of s a c b r.reached r.run

-- In raw text the whole name and a character that ends it do.
pub record KnownEnd (name text : Chars) : Type 0 where
  pub word : Chars
  pub e : ℕ
  pub rest : Chars
  pub are : text ≡ word ++ e ∷ rest
  pub is : lowered word ≡ solidus ∷ name
  pub ends : ends_name e ≡ true

-- a list that begins with a character that meets a test
record Heads (test : ℕ → Bool) (text : Chars) : Type 0 where
  c : ℕ
  more : Chars
  is : text ≡ c ∷ more
  meets : test c ≡ true

heads : (test : ℕ → Bool) (text : Chars) → begins test text ≡ true → Heads test text
heads test [] h = absurd (cc)
heads test (c ∷ text) h = record { c = c; more = text; is = refl; meets = h }

pub known_end : (name text : Chars) → is_known_end name text ≡ true → KnownEnd name text
known_end name text h =
    let k = both (same (lowered (take (length name + 1) text)) (solidus ∷ name)) _ h in
    let d = heads ends_name (drop (length name + 1) text) k.1 in
    record {
      word = take (length name + 1) text;
      e = d.c;
      rest = d.more;
      are = sym (take-append-drop (length name + 1) text) ∙ ap (λ x. take (length name + 1) text ++ x) d.is;
      is = same_is (lowered (take (length name + 1) text)) (solidus ∷ name) k.0;
      ends = d.meets;
    }

pub is_known_by : (name text : Chars) → KnownEnd name text → is_known_end name text ≡ true
is_known_by name text k =
    let n : length name + 1 ≡ length k.word = count (length name) (length (lowered k.word)) (length k.word) (ap length k.is) (length-map k.word lowered_char) in
    ap (is_known_end name) k.are ∙ (ap (λ m. same (lowered (take m (k.word ++ k.e ∷ k.rest))) (solidus ∷ name) && begins ends_name (drop m (k.word ++ k.e ∷ k.rest))) n
    ∙ rw (take-append_seam k.word (k.e ∷ k.rest), drop-append_seam k.word (k.e ∷ k.rest), k.is, same_self (solidus ∷ name), k.ends) refl)
  where
    count : (a b c : ℕ) → b ≡ suc a → b ≡ c → a + 1 ≡ c
    count a b c e f = omega arith

pub end_more : (name text more : Chars) → KnownEnd name text → KnownEnd name (text ++ more)
end_more name text more k = record { word = k.word; e = k.e; rest = k.rest ++ more; are = ap (λ x. x ++ more) k.are ∙ append_assoc k.word (k.e ∷ k.rest) more; is = k.is; ends = k.ends }

front_length : (a b : Chars) → begins_with a b ≡ true → length a ≤ length b
front_length [] b h = omega arith
front_length (c ∷ a) [] h = absurd (cc)
front_length (c ∷ a) (d ∷ b) h = let r = front_length a b (and_parts (c == d) (begins_with a b) h).1 in omega arith

-- more than the whole name begins no end tag's front
pub past_name : (name word z : Chars) (c : ℕ) → lowered word ≡ solidus ∷ name → begins_end name (word ++ c ∷ z) ≡ false
past_name name word z c e = by_test (begins_end name (word ++ c ∷ z)) (λ h. absurd (too_long (front_length (lowered (word ++ c ∷ z)) (solidus ∷ name) h))) (λ h. h)
  where
    too_long : length (lowered (word ++ c ∷ z)) ≤ length (solidus ∷ name) → ⊥
    too_long l =
        let a = length-map (word ++ c ∷ z) lowered_char in
        let b = length-append word (c ∷ z) in
        let d = length-map word lowered_char in
        let f : length (lowered word) ≡ length (solidus ∷ name) = ap length e in
        omega (arith, l, a, b, d, f)

pub whole_begins : (name word : Chars) → lowered word ≡ solidus ∷ name → begins_end name word ≡ true
whole_begins name word e = ap (λ x. begins_with x (solidus ∷ name)) e ∙ (ap (begins_with (solidus ∷ name)) (sym (append-nil (solidus ∷ name))) ∙ begins_append (solidus ∷ name) [])

-- the name is whole, and the character ends it
no_stop : (name word : Chars) (e : ℕ) → lowered word ≡ solidus ∷ name → ends_name e ≡ true → stops_end name word e ≡ false
no_stop name word e i h =
    let k : (same (lowered word) (solidus ∷ name) && ends_name e) ≡ true = rw (i, same_self (solidus ∷ name), h) refl in
    let f : not (same (lowered word) (solidus ∷ name) && ends_name e) ≡ false = ap not k in
    and_right (not (begins_end name (word ++ e ∷ []))) _ f

module _ (s : Syntax) (name text : Chars) (k : KnownEnd name text) (f : Chars) (d : ℕ) (more : Chars) (e : text ≡ f ++ d ∷ more) where
  behind_name : (z : Chars) → f ≡ k.word ++ z → k.e ∷ k.rest ≡ z ++ d ∷ more → in_raw s name f d ≡ in_tag s f d
  behind_name z q r =
      cond-false _ _ _ (past z q) ∙ cond-false _ _ _ (stopped z q r)
    where
      past : (z : Chars) → f ≡ k.word ++ z → begins_end name (f ++ d ∷ []) ≡ false
      past [] q = ap (λ x. begins_end name (x ++ d ∷ [])) (q ∙ append-nil k.word) ∙ past_name name k.word [] d k.is
      past (x ∷ z) q = ap (λ y. begins_end name (y ++ d ∷ [])) q ∙ (ap (begins_end name) (append_assoc k.word (x ∷ z) (d ∷ [])) ∙ past_name name k.word (z ++ d ∷ []) x k.is)

      stopped : (z : Chars) → f ≡ k.word ++ z → k.e ∷ k.rest ≡ z ++ d ∷ more → (begins_end name f && stops_end name f d) ≡ false
      stopped [] q r =
          let c : k.e ≡ d = cc in
          let w : f ≡ k.word = q ∙ append-nil k.word in
          let n : stops_end name f d ≡ false = ap (λ x. stops_end name x d) w ∙ (ap (stops_end name k.word) (sym c) ∙ no_stop name k.word k.e k.is k.ends) in
          ap (λ b. begins_end name f && b) n ∙ and-false (begins_end name f)
      stopped (x ∷ z) q r = ap (λ b. b && stops_end name f d) (ap (begins_end name) q ∙ past_name name k.word z x k.is)

  -- each character of it is one of the name or one of the tag
  pub known_at : (in_raw s name f d ≡ in_tag s f d) ⊎ ((in_raw s name f d ≡ goes_on) × (more ≢ []))
  known_at = elim (two_fronts k.word f (k.e ∷ k.rest) (d ∷ more) (sym k.are ∙ e)) [
    | inl l ↦ inl (behind_name l.z l.is l.rest)
    | inr l ↦ within l.z l.is l.rest
  ]
    where
      within : (z : Chars) → k.word ≡ f ++ z → d ∷ more ≡ z ++ k.e ∷ k.rest → (in_raw s name f d ≡ in_tag s f d) ⊎ ((in_raw s name f d ≡ goes_on) × (more ≢ []))
      within [] q r = inl (behind_name [] (sym (q ∙ append-nil f) ∙ sym (append-nil k.word)) (sym r))
      within (x ∷ z) q r =
          let c : d ≡ x = cc in
          let m : more ≡ z ++ k.e ∷ k.rest = cc in
          let b : begins_end name (f ++ d ∷ []) ≡ true = begins_end_front name (f ++ d ∷ []) z (ap (begins_end name) (append_assoc f (d ∷ []) z ∙ (ap (λ y. f ++ y ∷ z) c ∙ sym q)) ∙ whole_begins name k.word k.is) in
          inr (cond-true _ _ _ b, λ n. not_nothing z (sym m ∙ n))
        where
          not_nothing : (z : Chars) → z ++ k.e ∷ k.rest ≡ [] → ⊥
          not_nothing [] h = cc
          not_nothing (y ∷ z) h = cc

-- what is known to be a tag, in each content
pub data Known (s : Syntax) (i : Content) (text : Chars) : Type 0 where
  in_markup' : has_markup i ≡ true → begins (is_first s) text ≡ true → Known s i text
  in_raw' : (name : Chars) → raw_name i ≡ Some name → is_known_end name text ≡ true → Known s i text

pub known : (s : Syntax) (i : Content) (text : Chars) → is_known_tag s i (less_than_sign ∷ text) ≡ true → Known s i text
known s (content.Raw name) text h = in_raw' (name_of_raw name) refl h
known s (content.Rcdata name) text h = in_raw' (name_of_raw name) refl h
known s _ text h = in_markup' refl h

pub is_known : (s : Syntax) (i : Content) (text : Chars) → Known s i text → is_known_tag s i (less_than_sign ∷ text) ≡ true
is_known s i text (in_markup' m h) = cond-true _ _ _ m ∙ h
is_known s i text (in_raw' name r h) = by_test {G = is_known_tag s i (less_than_sign ∷ text) ≡ true} (has_markup i) (λ m. absurd (let w : None ≡ Some name = sym (markup_raw i m) ∙ r in cc)) (λ m. cond-false _ _ _ m ∙ (ap (λ o. is_known_raw o text) r ∙ h))

pub begins_more : (test : ℕ → Bool) (text more : Chars) → begins test text ≡ true → begins test (text ++ more) ≡ true
begins_more test [] more h = absurd (cc)
begins_more test (c ∷ text) more h = h

module _ (s : Syntax) (i : Content) (text : Chars) where
  pub verdict_at : Known s i text → (f : Chars) (d : ℕ) (more : Chars) → text ≡ f ++ d ∷ more → (verdict s i (60 ∷ f) d ≡ in_tag s f d) ⊎ ((verdict s i (60 ∷ f) d ≡ goes_on) × (more ≢ []))
  verdict_at (in_markup' m h) f d more e = inl (markup_is s i f d m ∙ markup_tag s i text f d more h e)
  verdict_at (in_raw' name r h) f d more e = elim (known_at s name text (known_end name text h) f d more e) [
    | inl k ↦ inl (raw_is s i f name d r ∙ k)
    | inr k ↦ inr (raw_is s i f name d r ∙ k.0, k.1)
  ]

  -- each character of the front of a tag goes on
  pub front_goes : Known s i text → (front more : Chars) → text ≡ front ++ more → ReadsOn s front → CharactersGoOn s i [] (60 ∷ front)
  front_goes k front more t r = (
    refl,
    all_go s i (60 ∷ []) front (λ f d rest e.
        elim (verdict_at k f d (rest ++ more) (t ∙ (ap (λ x. x ++ more) e ∙ append_assoc f (d ∷ rest) more))) [
          | inl q ↦ let u = front_reads s (f ++ d ∷ []) rest (subst (ReadsOn s) (e ∙ sym (append_assoc f (d ∷ []) rest)) r) in q ∙ (ap told_of_tag u.run ∙ cond-false _ _ _ u.unfinished)
          | inr q ↦ q.0
        ]),
  )

  -- and the one that decides a fault is refused
  pub tag_refused : (kind : Kind) → is_known_tag s i (less_than_sign ∷ text) ≡ true → TagFault s kind text → IsRefused s i kind (60 ∷ text)
  tag_refused kind h f =
      let r = is_refused f in
      let k = known s i text h in
      record {
        front = 60 ∷ r.front;
        c = r.c;
        are = ap (λ x. 60 ∷ x) r.are;
        go = front_goes k r.front (r.c ∷ []) r.are r.before;
        refuses = elim (verdict_at k r.front r.c [] r.are) [ inl q ↦ q ∙ ap told_of_tag (tag_on-append s (meaning s) (Ok fresh) r.front (r.c ∷ []) ∙ (ap (λ o. tag_step_on s (meaning s) o r.c) r.before.run ∙ r.refused)) | inr q ↦ absurd (q.1 refl) ];
      }
