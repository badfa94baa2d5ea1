-- Tokens that are read one after another.
use Rattle.rx_rdfa.proofs.Common.{◌≡◌, ◌∙◌, Bool, true, false, List, [], ◌∷◌, ◌++◌, filter, append_assoc, Option, Some, None, sym, ap, refl, Chars, option_to_list, ElementTag, Context, predicate, stays_beside_property, present_unless_none}
use Rattle.std.specs.List.{filter_map}

-- one token more, of which `p` makes a value or none
module _ {A B : Type 0} (p : A → Option B) where
  filter_map-cons : (x : A) (xs : List A) → filter_map p (x ∷ xs) ≡ option_to_list (p x) ++ filter_map p xs
  filter_map-cons x xs = go (p x) refl where
    go : (o : Option B) → p x ≡ o → filter_map p (x ∷ xs) ≡ option_to_list (p x) ++ filter_map p xs
    go None e = rw e refl
    go (Some y) e = rw e refl

  pub token-step : (old new whole : List B) (words more : List A) (token : A) → old ++ filter_map p words ≡ whole → words ≡ token ∷ more → new ≡ old ++ option_to_list (p token) → new ++ filter_map p more ≡ whole
  token-step old new whole words more token e is f =
      ap (λ (x : List B). x ++ filter_map p more) f ∙ append_assoc old (option_to_list (p token)) (filter_map p more)
      ∙ ap (λ (x : List B). old ++ x) (sym (ap (filter_map p) is ∙ filter_map-cons token more)) ∙ e

-- the predicates so far, of the tokens that are kept beside `property`, and the tokens that are still to be read
abbrev pub so_far : Context → List ElementTag → Bool → List Chars → List Chars → Option (List Chars)
so_far context line true iris words = Some (iris ++ filter_map (predicate context line) (filter (stays_beside_property context line) words))
so_far context line false iris words = present_unless_none context line (filter (stays_beside_property context line) words)

pub is-kept : (context : Context) (line : List ElementTag) (present : Bool) (old new : List Chars) (words more : List Chars) (token : Chars) (whole : Option (List Chars))
    → so_far context line present old words ≡ whole → (present ≡ false → old ≡ []) → words ≡ token ∷ more → stays_beside_property context line token ≡ true
    → new ≡ old ++ option_to_list (predicate context line token) → so_far context line true new more ≡ whole
is-kept context line present old new words more token whole e none is stays f =
    let keep : filter (stays_beside_property context line) words ≡ token ∷ filter (stays_beside_property context line) more = ap (filter (stays_beside_property context line)) is ∙ rw stays refl in
    go present e none keep where
      step : new ++ filter_map (predicate context line) (filter (stays_beside_property context line) more) ≡ old ++ filter_map (predicate context line) (token ∷ filter (stays_beside_property context line) more)
      step = token-step (predicate context line) old new (old ++ filter_map (predicate context line) (token ∷ filter (stays_beside_property context line) more)) (token ∷ filter (stays_beside_property context line) more)
          (filter (stays_beside_property context line) more) token refl refl f

      go : (present : Bool) → so_far context line present old words ≡ whole → (present ≡ false → old ≡ []) → filter (stays_beside_property context line) words ≡ token ∷ filter (stays_beside_property context line) more
          → so_far context line true new more ≡ whole
      go true e none keep = ap Some step ∙ sym (ap (λ (x : List Chars). Some (old ++ filter_map (predicate context line) x)) keep) ∙ e
      go false e none keep =
          ap Some (step ∙ ap (λ (x : List Chars). x ++ filter_map (predicate context line) (token ∷ filter (stays_beside_property context line) more)) (none refl))
          ∙ sym (ap (present_unless_none context line) keep) ∙ e
