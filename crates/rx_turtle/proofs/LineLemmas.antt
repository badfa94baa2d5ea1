-- Prefixes and statements, one after another.
use Rattle.rx_turtle.proofs.Common.{◌≡◌, ◌∙◌, ℕ, zero, suc, ◌+◌, Bool, true, false, List, [], ◌∷◌, ◌++◌, map, flat_map, length, take, drop, slice_get, Some, refl, sym, ap, ap₂, arith, append_assoc, append-nil, codes, true≢false, ◌==◌, if◌then◌else◌, take-append-drop, chars, list_all, list_any, nat_tests, is_ascii, Chars, ascii-chars, one_more, Prefix, Prefixes, separated, prefix_text, prefixes_text, Delivery, Adds, adds_then, adds_by, adds_failed, iri_before, chosen}
use Rattle.std.proofs.lemmas.Grind.{flat_map-append}
use Rattle.rx_turtle.proofs.GroupLemmas.{mapped_more}

-- ---- a list with one more

pub flat_map_last : {A B : Type 0} (f : A → List B) (list : List A) (a : A) → flat_map f (list ++ a ∷ []) ≡ flat_map f list ++ f a
flat_map_last f list a = flat_map-append f list (a ∷ []) ∙ ap (λ z. flat_map f list ++ z) (append-nil (f a))

-- ---- with another text between neighbours

-- what stands before a text behind these
abbrev gap : Chars → List Chars → Chars
gap between [] = []
gap between (text ∷ texts) = between

separated_more : (between : Chars) (texts : List Chars) (text : Chars) → separated between (texts ++ text ∷ []) ≡ separated between texts ++ (gap between texts ++ text)
separated_more between [] text = append-nil text
separated_more between (first ∷ texts) text =
    ap (λ z. first ++ z) (flat_map_last (λ next. between ++ next) texts text) ∙ sym (append_assoc first (flat_map (λ next. between ++ next) texts) (between ++ text))

module _ {A : Type 0} (f : A → Chars) (between : Chars) (plain : list_all is_ascii between ≡ true) where
  gap_at : (list : List A) (i : ℕ) (a : A) → slice_get list i ≡ Some a → gap between (map f (take i list)) ≡ (if i == 0 then [] else between)
  gap_at [] i a at = absurd (cc)
  gap_at (x ∷ list) zero a at = refl
  gap_at (x ∷ list) (suc i) a at = let some : (suc i == 0) ≡ false = grind (arith, nat_tests) in rw some refl

  pub listed : {start now mid next : Delivery} (list : List A) (i : ℕ) (a : A) → slice_get list i ≡ Some a → Adds start now (separated between (map f (take i list)))
      → Adds now mid (if i == 0 then [] else chars between) → Adds mid next (f a) → Adds start next (separated between (map f (take (i + 1) list)))
  listed list i a at so_far first last =
      adds_by (sym (ap (separated between) (mapped_more f list i a at) ∙ separated_more between (map f (take i list)) (f a)))
      (adds_then so_far (adds_then (adds_by (ap (λ z. if i == 0 then [] else z) (ascii-chars between plain) ∙ sym (gap_at list i a at)) first) last))

-- ---- one behind another

module _ {A : Type 0} (f : A → Chars) where
  pub joined : {start now next : Delivery} (list : List A) (i : ℕ) (a : A) → slice_get list i ≡ Some a → Adds start now (flat_map f (take i list)) → Adds now next (f a) → Adds start next (flat_map f (take (i + 1) list))
  joined list i a at so_far last =
      adds_by (sym (ap (flat_map f) (one_more list i a at) ∙ flat_map_last f (take i list) a)) (adds_then so_far last)

  -- the sink failed, and no more is written
  pub joined_failed : {start now : Delivery} (list : List A) (i : ℕ) → now.underway.failed ≡ true → Adds start now (flat_map f (take i list)) → Adds start now (flat_map f list)
  joined_failed list i failed h = adds_by (sym (flat_map-append f (take i list) (drop i list)) ∙ ap (flat_map f) (take-append-drop i list)) (adds_failed (flat_map f (drop i list)) failed h)

-- ---- prefixes

abbrev one_chosen : Bool → Prefix → Prefixes
one_chosen mark row = if mark then row ∷ [] else []

chosen_more : (marks : List Bool) (context : Prefixes) (i : ℕ) (mark : Bool) (row : Prefix) → slice_get marks i ≡ Some mark → slice_get context i ≡ Some row
    → chosen (take (i + 1) marks) (take (i + 1) context) ≡ chosen (take i marks) (take i context) ++ one_chosen mark row
chosen_more (true ∷ marks) (p ∷ context) (suc i) mark row at there =
    let up : suc i + 1 ≡ suc (i + 1) = omega arith in
    ap (λ n. chosen (take n (true ∷ marks)) (take n (p ∷ context))) up ∙ ap (λ z. p ∷ z) (chosen_more marks context i mark row at there)
chosen_more (false ∷ marks) (p ∷ context) (suc i) mark row at there =
    let up : suc i + 1 ≡ suc (i + 1) = omega arith in
    ap (λ n. chosen (take n (false ∷ marks)) (take n (p ∷ context))) up ∙ chosen_more marks context i mark row at there
chosen_more (m ∷ marks) (p ∷ context) zero mark row at there = let same : m ≡ mark = cc in let is : p ≡ row = cc in ap₂ one_chosen same is
chosen_more _ _ i mark row at there = absurd (cc)

pub prefix_turn : {start now next : Delivery} (marks : List Bool) (context : Prefixes) (i : ℕ) (mark : Bool) (row : Prefix) → slice_get marks i ≡ Some mark → slice_get context i ≡ Some row
    → Adds start now (flat_map prefix_text (chosen (take i marks) (take i context))) → Adds now next (if mark then prefix_text row else [])
    → Adds start next (flat_map prefix_text (chosen (take (i + 1) marks) (take (i + 1) context)))
prefix_turn marks context i mark row at there so_far last =
    adds_by (sym (ap (flat_map prefix_text) (chosen_more marks context i mark row at there) ∙ flat_map-append prefix_text (chosen (take i marks) (take i context)) (one_chosen mark row) ∙ ap (λ z. flat_map prefix_text (chosen (take i marks) (take i context)) ++ z) (line mark)))
    (adds_then so_far last)
  where
    line : (b : Bool) → flat_map prefix_text (one_chosen b row) ≡ (if b then prefix_text row else [])
    line true = append-nil (prefix_text row)
    line false = refl

pub none_chosen : (marks : List Bool) (context : Prefixes) → list_any (λ mark. mark) marks ≡ false → chosen marks context ≡ []
none_chosen [] context h = refl
none_chosen (true ∷ marks) context h = absurd (true≢false h)
none_chosen (false ∷ marks) [] h = refl
none_chosen (false ∷ marks) (p ∷ context) h = none_chosen marks context h

some_ended : (marks : List Bool) (context : Prefixes) → length marks ≡ length context → list_any (λ mark. mark) marks ≡ true → prefixes_text (chosen marks context) ≡ flat_map prefix_text (chosen marks context) ++ codes "\n"
some_ended [] context same h = absurd (true≢false (sym h))
some_ended (mark ∷ marks) [] same h = absurd (omega (arith, same))
some_ended (true ∷ marks) (p ∷ context) same h = refl
some_ended (false ∷ marks) (p ∷ context) same h = some_ended marks context (omega (arith, same)) h

pub lines_ended : {start now next : Delivery} (marks : List Bool) (context : Prefixes) → length marks ≡ length context → list_any (λ mark. mark) marks ≡ true
    → Adds start now (flat_map prefix_text (chosen marks context)) → Adds now next (codes "\n") → Adds start next (prefixes_text (chosen marks context))
lines_ended marks context same some h k = adds_by (sym (some_ended marks context same some)) (adds_then h k)

pub no_lines : {start now : Delivery} (marks : List Bool) (context : Prefixes) → list_any (λ mark. mark) marks ≡ false → Adds start now (flat_map prefix_text (chosen marks context)) → Adds start now (prefixes_text (chosen marks context))
no_lines marks context none h = adds_by (ap (flat_map prefix_text) (none_chosen marks context none) ∙ ap prefixes_text (sym (none_chosen marks context none))) h

pub prefix_spelled : (name iri : Chars) → codes "@prefix " ++ (name ++ (codes ": <" ++ (iri ++ codes "> .\n"))) ≡ prefix_text (name, iri)
prefix_spelled name iri = ap (λ z. codes "@prefix " ++ (name ++ (codes ": " ++ z))) (iri_before iri (codes " .\n"))
