-- Lists that grow by one after another of another list.
use Rattle.rx_eval.proofs.Common.{ToCome}
use Rattle.rx_terms.proofs.Common.{◌≡◌, ◌∙◌, ℕ, suc, ◌+◌, List, [], ◌∷◌, ◌++◌, map, drop, Some, slice_get, refl, sym, ap, append_assoc, add-one, map-append}
use Rattle.rx_eval.proofs.DrawLemmas.{drop_at}

pub one_came : {A : Type 0} (out more whole left rest : List A) (t : A) → left ≡ t ∷ rest → more ≡ out ++ t ∷ [] → ToCome out left whole → ToCome more rest whole
one_came out more whole left rest t e m w = record { path = ap (λ (l : List _). l ++ rest) m ∙ append_assoc out (t ∷ []) rest ∙ ap (λ (l : List _). out ++ l) (sym e) ∙ w.path }

pub one_grown : {A B : Type 0} (f : B → A) (xs : List B) (i : ℕ) (x : B) (now more whole : List A) (y : A) → slice_get xs i ≡ Some x → y ≡ f x → more ≡ now ++ y ∷ []
    → ToCome now (map f (drop i xs)) whole → ToCome more (map f (drop (i + 1) xs)) whole
one_grown f xs i x now more whole y g e m w =
    one_came now more whole _ _ y (rw add-one (ap (map f) (drop_at xs i x g) ∙ ap (λ (z : _). z ∷ map f (drop (suc i) xs)) (sym e))) m w

pub one_copied : {A : Type 0} (xs : List A) (i : ℕ) (x : A) (now more whole : List A) (y : A) → slice_get xs i ≡ Some x → y ≡ x → more ≡ now ++ y ∷ []
    → ToCome now (drop i xs) whole → ToCome more (drop (i + 1) xs) whole
one_copied xs i x now more whole y g e m w = one_came now more whole _ _ y (rw add-one (drop_at xs i x g ∙ ap (λ (z : _). z ∷ drop (suc i) xs) (sym e))) m w

pub mapped_more : {A B : Type 0} (f : A → B) (xs ys : List A) (x : A) → ys ≡ xs ++ x ∷ [] → map f ys ≡ map f xs ++ f x ∷ []
mapped_more f xs ys x e = ap (map f) e ∙ map-append f xs (x ∷ [])

-- one more was handed over and added
pub one_yielded : {A B : Type 0} (f : A → B) (start : List B) (yielded out more : List A) (x : A) → map f out ≡ start ++ map f yielded → more ≡ out ++ x ∷ []
    → map f more ≡ start ++ map f (yielded ++ x ∷ [])
one_yielded f start yielded out more x w m =
    mapped_more f out more x m ∙ ap (λ (l : List _). l ++ f x ∷ []) w ∙ append_assoc start (map f yielded) (f x ∷ [])
    ∙ ap (λ (l : List _). start ++ l) (sym (mapped_more f yielded (yielded ++ x ∷ []) x refl))
