-- The tokens of a page are determined by its characters: two lists of tokens that are spelled by the same characters, and both nest, tell the same.
use Rattle.rx_reader.proofs.Common.{◌≡◌, ◌∙◌, List, [], ◌∷◌, ◌++◌, None, refl, ap, sym, subst, map-append, PlacedCharacter, Syntax, Spells, Item, values, next_of, last_from}
use Rattle.rx_pages.proofs.OneToken.{one_token}

-- two lists of entries with equal characters in front are equal, and so is what follows
pub record SameFront (xs ys m n : List PlacedCharacter) : Type 0 where
  pub front : xs ≡ ys
  pub rest : m ≡ n

pub same_front : (xs ys m n : List PlacedCharacter) → xs ++ m ≡ ys ++ n → values xs ≡ values ys → SameFront xs ys m n
same_front [] [] m n e v = record { front = refl; rest = e }
same_front [] (y ∷ ys) m n e v = absurd (cc)
same_front (x ∷ xs) [] m n e v = absurd (cc)
same_front (x ∷ xs) (y ∷ ys) m n e v =
    let r = same_front xs ys m n (cc) (cc) in
    let h : x ≡ y = cc in
    record { front = ap (λ z. z ∷ xs) h ∙ ap (λ zs. y ∷ zs) r.front; rest = r.rest }

pub values_append : (xs ys : List PlacedCharacter) → values (xs ++ ys) ≡ values xs ++ values ys
values_append xs ys = map-append (λ (entry : PlacedCharacter). entry.value) xs ys

-- what is equal where two tokens are spelled at one place
pub record SameItem (a b : Item) (rest others : List PlacedCharacter) : Type 0 where
  pub item : a ≡ b
  pub rest_is : rest ≡ others

pub same_item : (syntax : Syntax) (c d : PlacedCharacter) (run other rest others : List PlacedCharacter) (a b : Item) → a.content ≡ b.content → (c ∷ run) ++ rest ≡ (d ∷ other) ++ others
    → Spells syntax a.content (values (c ∷ run)) (next_of (values rest) None) a.token → Spells syntax b.content (values (d ∷ other)) (next_of (values others) None) b.token
    → a.first ≡ c.first → a.last ≡ last_from c.last run → b.first ≡ d.first → b.last ≡ last_from d.last other → SameItem a b rest others
same_item syntax c d run other rest others a b ci e h k af al bf bl =
    let chars = sym (values_append (c ∷ run) rest) ∙ (ap values e ∙ values_append (d ∷ other) others) in
    let s = one_token syntax b.content (values (c ∷ run)) (values rest) (values (d ∷ other)) (values others) a.token b.token chars (subst (λ x. Spells syntax x (values (c ∷ run)) (next_of (values rest) None) a.token) ci h) k in
    let f = same_front (c ∷ run) (d ∷ other) rest others e s.front_is in
    let same_c : c ≡ d = (let q = f.front in cc) in
    let same_run : run ≡ other = (let q = f.front in cc) in
    let firsts : a.first ≡ b.first = af ∙ (ap (λ x. x.first) same_c ∙ sym bf) in
    let lasts : a.last ≡ b.last = al ∙ (ap (λ x. last_from x.last run) same_c ∙ (ap (λ x. last_from d.last x) same_run ∙ sym bl)) in
    record {
      item = λ i. record { token = s.token_is i; content = ci i; first = firsts i; last = lasts i };
      rest_is = f.rest;
    }
