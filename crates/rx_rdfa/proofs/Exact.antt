-- The tests of the model's names are exact.
use Rattle.rx_rdfa.specs.Common.{First, Of, Below, Author, Made, Cell, same_owner, same_bnode}
use Rattle.rx_model.proofs.Common.{◌≡◌, refl, ap, bytes_eq, ◌&&◌, ◌==◌, Decides-eqb, and_from, IsExact, and_left, and_right, exact_texts}

pub exact_owners : IsExact same_owner
exact_owners First First = (λ h. refl, λ e. refl)
exact_owners (Of a) (Of b) = (λ h. ap Of ((exact_texts a b).0 h), λ e. (exact_texts a b).1 (cc))
exact_owners (Below a) (Below b) = (λ h. ap Below ((exact_texts a b).0 h), λ e. (exact_texts a b).1 (cc))
exact_owners _ _ = (λ h. cc, λ e. cc)

pub exact_bnodes : IsExact same_bnode
exact_bnodes (Author a) (Author b) = (λ h. ap Author ((exact_texts a b).0 h), λ e. (exact_texts a b).1 (cc))
exact_bnodes (Made a) (Made b) = (λ h. ap Made ((exact_texts a b).0 h), λ e. (exact_texts a b).1 (cc))
exact_bnodes (Cell o p i) (Cell q r j) = (
  λ h. let a : o ≡ q = (exact_owners o q).0 (and_left (same_owner o q) (bytes_eq p r) (and_left (same_owner o q && bytes_eq p r) (i == j) h)) in
      let b : p ≡ r = (exact_texts p r).0 (and_right (same_owner o q) (bytes_eq p r) (and_left (same_owner o q && bytes_eq p r) (i == j) h)) in
      let c : i ≡ j = (Decides-eqb i j).0 (and_right (same_owner o q && bytes_eq p r) (i == j) h) in
      λ k. Cell (a k) (b k) (c k),
  λ e. and_from (same_owner o q && bytes_eq p r) (i == j) (and_from (same_owner o q) (bytes_eq p r) ((exact_owners o q).1 (cc)) ((exact_texts p r).1 (cc))) ((Decides-eqb i j).1 (cc)),
)
exact_bnodes _ _ = (λ h. cc, λ e. cc)
