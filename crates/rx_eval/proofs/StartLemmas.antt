-- The triples of an element's start: what its parts come to is what the rules say.
use Rattle.rx_eval.proofs.ElementLemmas.{starts, starts_are}
use Rattle.rx_eval.proofs.Common.{◌≡◌, ◌∙◌, ℕ, List, [], ◌∷◌, ◌++◌, map, filter_map, Option, Some, None, option_map, option_to_list, refl, sym, ap, ap₂, append_assoc, is_some, if◌then◌else◌, Chars, by_test, Node, Iri, Term, Triple, Naming, Standing, Resources, resources, only, rule, value_now, waiting_seen, completed_by, to_node, types_by, links_by, properties_by, completed, vocabulary_by, typed_by, linked_by, values_of, found_by, start_by}
use Rattle.rx_rdfa.specs.Iris.{uses_vocabulary}
use Rattle.rx_rdfa.specs.Element.{start_of}
use Rattle.rx_eval.specs.declared.contexts.IncompleteTriple.{IncompleteTriple}
use Rattle.rx_eval.specs.declared.contexts.IncompleteTriple.TheVariants as code

module _ (N : Naming ℕ ℕ) (base : Chars) (S : Standing ℕ ℕ) where
  voc : (v : Option Chars) → vocabulary_by base v ≡ option_to_list (option_map (λ vocab. to_node (Iri base) uses_vocabulary (Iri vocab)) v)
  voc None = refl
  voc (Some v) = refl

  types : (t : Option (Node ℕ)) → typed_by N base S.facts t ≡ types_by N base S t
  types None = refl
  types (Some t) = refl

  module _ (H : Resources ℕ) where
    links : (o : Option (Node ℕ)) → linked_by S.facts H.subject o ≡ links_by N base S H o
    links None = refl
    links (Some o) = refl

    values : (v : Option (Term ℕ)) → values_of S.facts H.subject v ≡ properties_by N base S H v
    values None = by_test S.facts.inlist (λ t. rw t refl) (λ f. rw f refl)
    values (Some v) = refl

    -- without property a value says nothing
    quiet : (p : Option (List Chars)) → S.facts.property ≡ p → (w : Option (Term ℕ)) → properties_by N base S H (only (is_some p) w) ≡ properties_by N base S H w
    quiet None e (Some w) = by_test S.facts.inlist (λ t. rw t refl) (λ f. rw (f, e) refl)
    quiet _ e _ = refl

    completes : (ws : List IncompleteTriple) → filter_map (completed_by S.around.subject H.subject) ws ≡ filter_map (completed N base S H) (map waiting_seen ws)
    completes [] = refl
    completes (code.Forward p ∷ ws) = ap (λ (l : List (Triple ℕ)). to_node S.around.subject p H.subject ∷ l) (completes ws)
    completes (code.Reverse p ∷ ws) = ap (λ (l : List (Triple ℕ)). to_node H.subject p S.around.subject ∷ l) (completes ws)
    completes (code.InList o p ∷ ws) = completes ws

  pub start_is : (H : Resources ℕ) (v : Option (Term ℕ)) (ws : List IncompleteTriple) → H ≡ resources N base S → v ≡ only (is_some S.facts.property) (value_now (rule N base S.facts H) S.facts) → map waiting_seen ws ≡ S.around.hanging
      → start_by N base S.facts H v S.around.subject ws ≡ start_of N base S
  start_is H v ws r e w =
      ap₂ (λ (a b : List (Triple ℕ)). a ++ (if H.skipped then [] else b)) (voc S.facts.vocab) parts ∙ ap (starts N base S) r ∙ sym (starts_are N base S)
    where
      C : List (Triple ℕ)
      C = filter_map (completed N base S H) S.around.hanging

      rest : values_of S.facts H.subject v ++ filter_map (completed_by S.around.subject H.subject) ws ≡ properties_by N base S H (value_now (rule N base S.facts H) S.facts) ++ C
      rest = ap₂ (λ (a b : List (Triple ℕ)). a ++ b) (values H v ∙ ap (properties_by N base S H) e ∙ quiet H S.facts.property refl (value_now (rule N base S.facts H) S.facts)) (completes H ws ∙ ap (filter_map (completed N base S H)) w)

      parts : found_by N base S.facts H ++ (values_of S.facts H.subject v ++ filter_map (completed_by S.around.subject H.subject) ws)
          ≡ types_by N base S H.typed ++ links_by N base S H H.object ++ properties_by N base S H (value_now (rule N base S.facts H) S.facts) ++ C
      parts =
          ap₂ (λ (a b : List (Triple ℕ)). a ++ b) (ap₂ (λ (a b : List (Triple ℕ)). a ++ b) (types H.typed) (links H H.object)) rest
          ∙ sym (append_assoc (types_by N base S H.typed ++ links_by N base S H H.object) (properties_by N base S H (value_now (rule N base S.facts H) S.facts)) C)
