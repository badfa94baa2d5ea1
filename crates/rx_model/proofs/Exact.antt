-- The tests of equality are exact.
use Rattle.rx_terms.proofs.Common.{◌≡◌, Bool, nat_eq, refl, ap, ap₂, bytes_eq, ◌&&◌, bytes_decides, Decides-eqb, and_from}
use Rattle.rx_model.specs.Sets.{IsExact}
use Rattle.rx_model.specs.Terms.{Plain, Tagged, Typed, Iri, Blank, Resource, Literal, Triple, same_kind, same_node, same_term, same_triple}
use Rattle.rx_model.proofs.Sets.{and_left, and_right}

pub exact_texts : IsExact bytes_eq
exact_texts a b = ((bytes_decides a b).0, (bytes_decides a b).1)

pub exact_kinds : IsExact same_kind
exact_kinds Plain Plain = (λ h. refl, λ e. refl)
exact_kinds (Tagged a) (Tagged b) = (λ h. ap Tagged ((exact_texts a b).0 h), λ e. (exact_texts a b).1 (cc))
exact_kinds (Typed a) (Typed b) = (λ h. ap Typed ((exact_texts a b).0 h), λ e. (exact_texts a b).1 (cc))
exact_kinds _ _ = (λ h. cc, λ e. cc)

module _ {B : Type 0} (same : B → B → Bool) (exact : IsExact same) where
  pub exact_nodes : IsExact (same_node same)
  exact_nodes (Iri a) (Iri b) = (λ h. ap Iri ((exact_texts a b).0 h), λ e. (exact_texts a b).1 (cc))
  exact_nodes (Blank a) (Blank b) = (λ h. ap Blank ((exact a b).0 h), λ e. (exact a b).1 (cc))
  exact_nodes _ _ = (λ h. cc, λ e. cc)

  pub exact_terms : IsExact (same_term same)
  exact_terms (Resource a) (Resource b) = (λ h. ap Resource ((exact_nodes a b).0 h), λ e. (exact_nodes a b).1 (cc))
  exact_terms (Literal a k) (Literal b l) = (
    λ h. ap₂ Literal ((exact_texts a b).0 (and_left (bytes_eq a b) (same_kind k l) h)) ((exact_kinds k l).0 (and_right (bytes_eq a b) (same_kind k l) h)),
    λ e. and_from (bytes_eq a b) (same_kind k l) ((exact_texts a b).1 (cc)) ((exact_kinds k l).1 (cc)),
  )
  exact_terms _ _ = (λ h. cc, λ e. cc)

  triple_path : (t u : Triple B) → t.subject ≡ u.subject → t.predicate ≡ u.predicate → t.object ≡ u.object → t ≡ u
  triple_path t u p q r = λ i. record { subject = p i; predicate = q i; object = r i }

  pub exact_triples : IsExact (same_triple same)
  exact_triples t u =
      let s : Bool = same_node same t.subject u.subject in
      let p : Bool = bytes_eq t.predicate u.predicate in
      let o : Bool = same_term same t.object u.object in (
        λ h. triple_path t u ((exact_nodes t.subject u.subject).0 (and_left s p (and_left (s && p) o h))) ((exact_texts t.predicate u.predicate).0 (and_right s p (and_left (s && p) o h))) ((exact_terms t.object u.object).0 (and_right (s && p) o h)),
        λ e. and_from (s && p) o (and_from s p ((exact_nodes t.subject u.subject).1 (ap (λ (x : Triple B). x.subject) e)) ((exact_texts t.predicate u.predicate).1 (ap (λ (x : Triple B). x.predicate) e))) ((exact_terms t.object u.object).1 (ap (λ (x : Triple B). x.object) e)),
      )

pub exact_numbers : IsExact nat_eq
exact_numbers a b = ((Decides-eqb a b).0, (Decides-eqb a b).1)
