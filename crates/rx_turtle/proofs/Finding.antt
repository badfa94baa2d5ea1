-- The place that is found by the end of an IRI is that of the prefix of its short form.
use Rattle.rx_turtle.proofs.Common.{◌≡◌, ◌∙◌, ℕ, zero, suc, ◌+◌, ◌-◌, ◌<◌, ◌≤◌, Bool, true, false, cond, nat_lt, nat_eq, List, [], ◌∷◌, ◌++◌, filter, length, take, drop, drop_of_length-le, get_or, slice_get, Option, Some, None, inl, inr, refl, sym, ap, ap₂, subst, true≢false, arith, ◌&&◌, ◌==◌, find, if◌then◌else◌, option_or, list_all, and_parts, and_from, and_right, nat_tests, slice_get-get_or, encodes-append, encodes_same, is_ascii, Chars, begins_with, ascii-same, Among, Among_of_filter, false_unless, exact_texts, Prefix, Prefixes, is_byte_less, is_name_char, is_prefix_name, is_local_name, local_name, shortens, preferred, best, prefix_of, names_rise, best_among, front_and_rest, before_all, not_after, passes, begins_local, stands_for, place_from, place_at, place_below, prefix_place, IsPlace}
use Rattle.std.proofs.lemmas.List.{take-append-drop, get_or-drop, length-take-le, take_at, drop_at, length-append}
use Rattle.rx_terms.proofs.Bools.{same_truth, by_test}
use Rattle.std.specs.Str.{encode_utf8_all}
use Rattle.rx_notation.proofs.OneText.{local_chars}
use Rattle.rx_turtle.proofs.GroupLemmas.{front_at}

-- ---- lists

module _ {A : Type 0} where
  found_holds : (test : A → Bool) (list : List A) (a : A) → find test list ≡ Some a → test a ≡ true
  found_holds test [] a h = absurd (cc)
  found_holds test (x ∷ list) a h = by_test (test x) (λ e. let same : x ≡ a = cc (rw e at h) in ap test (sym same) ∙ e) (λ e. found_holds test list a (rw e at h))

  find_same : (f g : A → Bool) (list : List A) → ((a : A) → f a ≡ g a) → find f list ≡ find g list
  find_same f g [] h = refl
  find_same f g (x ∷ list) h = ap₂ (λ (b : Bool) (o : Option A). cond b (Some x) o) (h x) (find_same f g list h)

  find_none : (list : List A) → find (λ (a : A). false) list ≡ None
  find_none [] = refl
  find_none (x ∷ list) = find_none list

  pub filter_same : (f g : A → Bool) (list : List A) → ((a : A) → Among list a → f a ≡ g a) → filter f list ≡ filter g list
  filter_same f g [] h = refl
  filter_same f g (x ∷ list) h = ap₂ (λ (b : Bool) (z : List A). cond b (x ∷ z) z) (h x (inl refl)) (filter_same f g list (λ a m. h a (inr m)))

  filter_none : (f : A → Bool) (list : List A) → ((a : A) → f a ≡ false) → filter f list ≡ []
  filter_none f [] h = refl
  filter_none f (x ∷ list) h = rw (h x) (filter_none f list h)

-- ---- the longest of those that are longer and longer

module _ (fits : Prefix → Bool) (size : Prefix → ℕ) where
  abbrev below : ℕ → Prefix → Bool
  below n p = fits p && nat_lt (size p) n

  abbrev at_size : ℕ → Prefix → Bool
  at_size n p = fits p && nat_eq (size p) n

  -- sizes are in the order of lengths
  abbrev SizesTell : Type 0
  SizesTell = (p q : Prefix) → fits p ≡ true → fits q ≡ true → nat_lt (length p.1) (length q.1) ≡ nat_lt (size p) (size q)

  -- the first of those that are as long as any is taken
  stays_first : SizesTell → (n : ℕ) (p : Prefix) (more : Prefixes) → fits p ≡ true → size p ≡ n → before_all p more ≡ true
      → (o : Option Prefix) → best (filter (below (suc n)) more) ≡ o → preferred p o ≡ p
  stays_first longer n p more f s rise None e = refl
  stays_first longer n p more f s rise (Some q) e =
      let found = Among_of_filter (below (suc n)) more q (best_among (filter (below (suc n)) more) q e) in
      let parts = and_parts (fits q) (nat_lt (size q) (suc n)) found.1 in
      let test : nat_lt (size q) (suc n) ≡ true = parts.1 in
      let less : nat_lt (size p) (size q) ≡ false = grind (arith, nat_tests, test, s) in
      let first : nat_lt (length p.1) (length q.1) ≡ false = longer p q f parts.0 ∙ less in
      let second : is_byte_less q.0 p.0 ≡ false = not_after p.0 q.0 (passes p q more rise found.0) in
      rw (first, second, and_right (length q.1 == length p.1) false refl) refl

  -- a longer one is taken
  gives_way : SizesTell → (n : ℕ) (p : Prefix) (more : Prefixes) → fits p ≡ true → nat_lt (size p) n ≡ true
      → (o x : Option Prefix) → find (at_size n) more ≡ o → Some (preferred p (option_or o x)) ≡ option_or o (Some (preferred p x))
  gives_way longer n p more f less None x e = refl
  gives_way longer n p more f less (Some r) x e =
      let parts = and_parts (fits r) (nat_eq (size r) n) (found_holds (at_size n) more r e) in
      let test : nat_eq (size r) n ≡ true = parts.1 in
      let more_than : nat_lt (size p) (size r) ≡ true = grind (arith, nat_tests, test, less) in
      let first : nat_lt (length p.1) (length r.1) ≡ true = longer p r f parts.0 ∙ more_than in
      rw first refl

  -- the best of those up to a size: the first of that size, or the best of those below it
  one_up : SizesTell → (n : ℕ) (ps : Prefixes) → names_rise ps ≡ true → best (filter (below (suc n)) ps) ≡ option_or (find (at_size n) ps) (best (filter (below n) ps))
  one_up longer n [] rise = refl
  one_up longer n (p ∷ more) rise =
      let rest = one_up longer n more (and_parts _ _ rise).1 in
      by_test (fits p) (λ e. by_test (nat_lt (size p) n)
      (λ f.
      let up : nat_lt (size p) (suc n) ≡ true = grind (arith, nat_tests, f) in
      let apart : nat_eq (size p) n ≡ false = grind (arith, nat_tests, f) in
      rw (e, up, apart, f) (ap (λ o. Some (preferred p o)) rest ∙ gives_way longer n p more e f (find (at_size n) more) (best (filter (below n) more)) refl))
      (λ f. by_test (nat_eq (size p) n)
      (λ g.
      let up : nat_lt (size p) (suc n) ≡ true = grind (arith, nat_tests, g) in
      let same : size p ≡ n = grind (arith, nat_tests, g) in
      rw (e, up, g) (ap Some (stays_first longer n p more e same (and_parts _ _ rise).0 (best (filter (below (suc n)) more)) refl)))
      (λ g. let past : nat_lt (size p) (suc n) ≡ false = grind (arith, nat_tests, f, g) in rw (e, past, g, f) rest)))
      (λ e. rw e rest)

-- ---- names

name_is_ascii : (c : ℕ) → is_name_char c ≡ true → is_ascii c ≡ true
name_is_ascii c h = grind (arith, nat_tests, h)

names_are_ascii : (text : Chars) → list_all is_name_char text ≡ true → list_all is_ascii text ≡ true
names_are_ascii [] h = refl
names_are_ascii (c ∷ text) h = let parts = and_parts _ _ h in and_from _ _ (name_is_ascii c parts.0) (names_are_ascii text parts.1)

one_or_more : (text : Chars) → is_local_name text ≡ true → 0 < length text
one_or_more [] h = absurd (true≢false (sym h))
one_or_more (c ∷ text) h = omega arith

begins_front : (front rest : Chars) → begins_with front (front ++ rest) ≡ true
begins_front [] rest = refl
begins_front (c ∷ front) rest = let same : (c == c) ≡ true = grind (arith, nat_tests) in and_from _ _ same (begins_front front rest)

all_get : (test : ℕ → Bool) (list : List ℕ) (i : ℕ) → list_all test list ≡ true → i < length list → test (get_or list i 0) ≡ true
all_get test [] i h less = absurd (omega (arith, less))
all_get test (x ∷ list) zero h less = (and_parts _ _ h).0
all_get test (x ∷ list) (suc i) h less = all_get test list i (and_parts _ _ h).1 (omega (arith, less))

drop_here : (list : List ℕ) (n : ℕ) → n < length list → drop n list ≡ get_or list n 0 ∷ drop (suc n) list
drop_here list n h = front_at list n (get_or list n 0) (slice_get-get_or list n 0 h)

-- ---- the bytes of an IRI

-- where the prefix's IRI ends in this one
abbrev end_of : Prefix → ℕ
end_of p = length (encode_utf8_all p.1)

record Cut (iri : Chars) (p : Prefix) : Type 0 where
  is_name : is_prefix_name p.0 ≡ true
  front : encode_utf8_all p.1 ≡ take (end_of p) (encode_utf8_all iri)
  rest : local_name p iri ≡ drop (end_of p) (encode_utf8_all iri)
  is_local : is_local_name (local_name p iri) ≡ true
  chars : length p.1 + length (local_name p iri) ≡ length iri
  bytes : end_of p + length (local_name p iri) ≡ length (encode_utf8_all iri)

cut_of : (iri : Chars) (p : Prefix) → shortens iri p ≡ true → Cut iri p
cut_of iri p h =
    let parts = and_parts (is_prefix_name p.0) _ h in
    let more = and_parts (begins_with p.1 iri) _ parts.1 in
    let local : Chars = local_name p iri in
    let whole : p.1 ++ local ≡ iri = front_and_rest p.1 iri more.0 in
    let plain : encode_utf8_all local ≡ local = (ascii-same local (names_are_ascii local (local_chars local more.1))).0 in
    let spelled : encode_utf8_all iri ≡ encode_utf8_all p.1 ++ local = ap encode_utf8_all (sym whole) ∙ encodes-append p.1 local ∙ ap (λ z. encode_utf8_all p.1 ++ z) plain in
    record {
      is_name = parts.0;
      front = sym (ap (take (end_of p)) spelled ∙ take_at (encode_utf8_all p.1) local (end_of p) refl);
      rest = sym (ap (drop (end_of p)) spelled ∙ drop_at (encode_utf8_all p.1) local (end_of p) refl);
      is_local = more.1;
      chars = sym (length-append p.1 local) ∙ ap length whole;
      bytes = sym (length-append (encode_utf8_all p.1) local) ∙ ap length (sym spelled);
    }

cut_shortens : (iri : Chars) (p : Prefix) (n : ℕ) → is_prefix_name p.0 ≡ true → encode_utf8_all p.1 ≡ take n (encode_utf8_all iri) → is_local_name (drop n (encode_utf8_all iri)) ≡ true → shortens iri p ≡ true
cut_shortens iri p n name front local =
    let rest : Chars = drop n (encode_utf8_all iri) in
    let plain : encode_utf8_all rest ≡ rest = (ascii-same rest (names_are_ascii rest (local_chars rest local))).0 in
    let spelled : encode_utf8_all (p.1 ++ rest) ≡ encode_utf8_all iri =
    encodes-append p.1 rest ∙ ap₂ ◌++◌ front plain ∙ take-append-drop n (encode_utf8_all iri) in
    let whole : p.1 ++ rest ≡ iri = encodes_same (p.1 ++ rest) iri spelled in
    let begins : begins_with p.1 iri ≡ true = ap (begins_with p.1) (sym whole) ∙ begins_front p.1 rest in
    let behind : local_name p iri ≡ rest = ap (drop (length p.1)) (sym whole) ∙ drop_at p.1 rest (length p.1) refl in
    and_from _ _ name (and_from _ _ begins (ap is_local_name behind ∙ local))

-- the longer prefix has the later end
ends_tell : (iri : Chars) → SizesTell (shortens iri) end_of
ends_tell iri p q f g = go (cut_of iri p f) (cut_of iri q g)
  where
    go : Cut iri p → Cut iri q → nat_lt (length p.1) (length q.1) ≡ nat_lt (end_of p) (end_of q)
    go a b = same_truth (nat_lt (length p.1) (length q.1)) (nat_lt (end_of p) (end_of q))
        (λ h. let less : length p.1 < length q.1 = grind (arith, nat_tests, h) in
        let other : end_of p < end_of q = omega (arith, less, a.chars, a.bytes, b.chars, b.bytes) in
        grind (arith, nat_tests, other))
        (λ h. let less : end_of p < end_of q = grind (arith, nat_tests, h) in
        let other : length p.1 < length q.1 = omega (arith, less, a.chars, a.bytes, b.chars, b.bytes) in
        grind (arith, nat_tests, other))

-- ---- the first that stands for some bytes

-- what is found from a place on
abbrev Found : ℕ → Prefixes → List ℕ → Option ℕ → Type 0
Found j context bytes None = find (stands_for bytes) context ≡ None
Found j context bytes (Some i) = (k : ℕ) × (i ≡ j + k) × ((p : Prefix) × (slice_get context k ≡ Some p) × (find (stands_for bytes) context ≡ Some p))

found_from : (context : Prefixes) (bytes : List ℕ) (j : ℕ) → Found j context bytes (place_from j context bytes)
found_from [] bytes j = refl
found_from (p ∷ more) bytes j = go (stands_for bytes p) refl (place_from (suc j) more bytes) (found_from more bytes (suc j))
  where
    go : (b : Bool) → stands_for bytes p ≡ b → (o : Option ℕ) → Found (suc j) more bytes o → Found j (p ∷ more) bytes (cond b (Some j) o)
    go true e o ih = (0, omega arith, (p, refl, rw e refl))
    go false e None ih = rw e ih
    go false e (Some i) ih = (suc ih.0, omega (arith, ih.1), (ih.2.0, ih.2.1, rw e ih.2.2))

-- ---- from the end to the front

module _ (context : Prefixes) (rise : names_rise context ≡ true) (iri : Chars) where
  abbrev text : List ℕ
  text = encode_utf8_all iri

  abbrev best_below : ℕ → Option Prefix
  best_below n = best (filter (below (shortens iri) end_of n) context)

  -- those that end at a place where a local name begins
  at_is : (n : ℕ) → n < length text → list_all is_name_char (drop (suc n) text) ≡ true → (p : Prefix)
      → at_size (shortens iri) end_of n p ≡ (begins_local (get_or text n 0) && stands_for (take n text) p)
  at_is n less tail p = same_truth (at_size (shortens iri) end_of n p) (begins_local (get_or text n 0) && stands_for (take n text) p) there back
    where
      rest : drop n text ≡ get_or text n 0 ∷ drop (suc n) text
      rest = drop_here text n less

      there : at_size (shortens iri) end_of n p ≡ true → (begins_local (get_or text n 0) && stands_for (take n text) p) ≡ true
      there h =
          let parts = and_parts (shortens iri p) (nat_eq (end_of p) n) h in
          let cut = cut_of iri p parts.0 in
          let test : nat_eq (end_of p) n ≡ true = parts.1 in
          let same : end_of p ≡ n = grind (arith, nat_tests, test) in
          let local : is_local_name (drop n text) ≡ true = ap is_local_name (sym (cut.rest ∙ ap (λ k. drop k text) same)) ∙ cut.is_local in
          let first : is_local_name (get_or text n 0 ∷ drop (suc n) text) ≡ true = ap is_local_name (sym rest) ∙ local in
          and_from _ _ (and_parts _ _ first).0 (and_from _ _ cut.is_name ((exact_texts (encode_utf8_all p.1) (take n text)).1 (cut.front ∙ ap (λ k. take k text) same)))

      back : (begins_local (get_or text n 0) && stands_for (take n text) p) ≡ true → at_size (shortens iri) end_of n p ≡ true
      back h =
          let parts = and_parts (begins_local (get_or text n 0)) (stands_for (take n text) p) h in
          let stands = and_parts (is_prefix_name p.0) _ parts.1 in
          let front : encode_utf8_all p.1 ≡ take n text = (exact_texts (encode_utf8_all p.1) (take n text)).0 stands.1 in
          let local : is_local_name (drop n text) ≡ true = ap is_local_name rest ∙ and_from _ _ parts.0 tail in
          let size : end_of p ≡ n = ap length front ∙ length-take-le n text (omega (arith, less)) in
          let test : nat_eq (end_of p) n ≡ true = grind (arith, nat_tests, size) in
          and_from _ _ (cut_shortens iri p n stands.0 front local) test

  -- where no name can go on, no prefix ends before
  none_before : (n : ℕ) → n < length text → is_name_char (get_or text n 0) ≡ false → (p : Prefix) → below (shortens iri) end_of (suc n) p ≡ false
  none_before n less stop p = false_unless (below (shortens iri) end_of (suc n) p) (λ h.
      let parts = and_parts (shortens iri p) (nat_lt (end_of p) (suc n)) h in
      let cut = cut_of iri p parts.0 in
      let test : nat_lt (end_of p) (suc n) ≡ true = parts.1 in
      let before : end_of p < suc n = grind (arith, nat_tests, test) in
      let at : end_of p + (n - end_of p) ≡ n = omega (arith, before) in
      let all : list_all is_name_char (drop (end_of p) text) ≡ true = ap (list_all is_name_char) (sym cut.rest) ∙ local_chars (local_name p iri) cut.is_local in
      let inside : n - end_of p < length (drop (end_of p) text) = omega (arith, before, less, cut.bytes, ap length cut.rest) in
      let name : is_name_char (get_or text n 0) ≡ true =
      ap (λ k. is_name_char (get_or text k 0)) (sym at) ∙ ap is_name_char (sym (get_or-drop (end_of p) text (n - end_of p) 0)) ∙ all_get is_name_char (drop (end_of p) text) (n - end_of p) all inside in
      true≢false (sym name ∙ stop))

  -- the place of the first that stands for some bytes, where there is a reason to look
  place_finds : (b : Bool) (bytes : List ℕ) → IsPlace context (if b then find (stands_for bytes) context else None) (if b then place_from 0 context bytes else None)
  place_finds true bytes = go (place_from 0 context bytes) (found_from context bytes 0)
    where
      go : (o : Option ℕ) → Found 0 context bytes o → IsPlace context (find (stands_for bytes) context) o
      go None h = h
      go (Some i) h = let same : h.0 ≡ i = omega (arith, h.1) in (h.2.0, ap (slice_get context) (sym same) ∙ h.2.1, h.2.2)
  place_finds false bytes = refl

  one_or_other : (f b : Option Prefix) (o p : Option ℕ) → IsPlace context f o → IsPlace context b p → IsPlace context (option_or f b) (option_or o p)
  one_or_other f b None p h k = subst (λ (z : Option Prefix). IsPlace context (option_or z b) p) (sym h) k
  one_or_other f b (Some i) p (q, at, e) k = (q, at, ap (λ (z : Option Prefix). option_or z b) e)

  guarded : (b : Bool) (bytes : List ℕ) → find (λ (p : Prefix). b && stands_for bytes p) context ≡ (if b then find (stands_for bytes) context else None)
  guarded true bytes = refl
  guarded false bytes = find_none context

  place_within : (n : ℕ) → n ≤ length text → list_all is_name_char (drop n text) ≡ true → IsPlace context (best_below n) (place_below context text n)
  place_within zero within tail = ap best (filter_none (below (shortens iri) end_of 0) context (λ p. and_right (shortens iri p) (nat_lt (end_of p) 0) (nothing_less (end_of p))))
    where
      nothing_less : (m : ℕ) → nat_lt m 0 ≡ false
      nothing_less m = grind (arith, nat_tests)
  place_within (suc n) within tail =
      let less : n < length text = omega (arith, within) in
      let rest = place_within n (omega (arith, within)) in
      by_test (is_name_char (get_or text n 0))
      (λ e.
      let all : list_all is_name_char (drop n text) ≡ true = ap (list_all is_name_char) (drop_here text n less) ∙ and_from _ _ e tail in
      let first : find (at_size (shortens iri) end_of n) context ≡ find (λ (p : Prefix). begins_local (get_or text n 0) && stands_for (take n text) p) context =
      find_same (at_size (shortens iri) end_of n) (λ (p : Prefix). begins_local (get_or text n 0) && stands_for (take n text) p) context (at_is n less tail) in
      rw e (subst (λ (z : Option Prefix). IsPlace context z (option_or (place_at context text n) (place_below context text n)))
      (sym (one_up (shortens iri) end_of (ends_tell iri) n context rise ∙ ap (λ (z : Option Prefix). option_or z (best_below n)) (first ∙ guarded (begins_local (get_or text n 0)) (take n text))))
      (one_or_other _ (best_below n) (place_at context text n) (place_below context text n) (place_finds (begins_local (get_or text n 0)) (take n text)) (rest all))))
      (λ e. rw e (ap best (filter_none (below (shortens iri) end_of (suc n)) context (none_before n less e))))

pub place_is : (context : Prefixes) (iri : Chars) → names_rise context ≡ true → IsPlace context (prefix_of context iri) (prefix_place context iri)
place_is context iri rise =
    let bytes : List ℕ = encode_utf8_all iri in
    let size : ℕ = length bytes in
    let end : drop size bytes ≡ [] = drop_of_length-le bytes (omega arith) in
    subst (λ (z : Option Prefix). IsPlace context z (prefix_place context iri))
    (ap best (filter_same (below (shortens iri) end_of size) (shortens iri) context (λ p m. inside p)))
    (place_within context rise iri size (omega arith) (ap (list_all is_name_char) end))
  where
    some_left : (p : Prefix) → Cut iri p → nat_lt (end_of p) (length (encode_utf8_all iri)) ≡ true
    some_left p cut =
        let some : 0 < length (local_name p iri) = one_or_more (local_name p iri) cut.is_local in
        let less : end_of p < length (encode_utf8_all iri) = omega (arith, some, cut.bytes) in
        grind (arith, nat_tests, less)

    inside : (p : Prefix) → below (shortens iri) end_of (length (encode_utf8_all iri)) p ≡ shortens iri p
    inside p = same_truth (below (shortens iri) end_of (length (encode_utf8_all iri)) p) (shortens iri p) (λ h. (and_parts (shortens iri p) _ h).0) (λ h. and_from _ _ h (some_left p (cut_of iri p h)))
