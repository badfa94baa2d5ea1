-- A set that is made of a list from its last triple on.
use Rattle.rx_model.proofs.Common.{◌≡◌, ◌∙◌, List, [], ◌∷◌, ◌++◌, reverse, sym, ap, ap₂, nat_eq, reverse-append, reverse-reverse, distinct, with_one, with_all, same_triple, triple_seen, triples_seen, exact_numbers, exact_triples}
use Rattle.rx_terms.specs.declared.triples.Triple.{Triple as CodeTriple}
use Rattle.rx_graph.proofs.Growing.{all_distinct}

-- what is there and what is left, the last of it first, come to the graph of the list
abbrev pub Rest : List CodeTriple → List CodeTriple → List CodeTriple → Type 0
Rest list set rest = with_all (same_triple nat_eq) (triples_seen set) (triples_seen (reverse rest)) ≡ distinct (same_triple nat_eq) (triples_seen list)

pub rest_start : (list set rest : List CodeTriple) → set ≡ [] → rest ≡ reverse list → Rest list set rest
rest_start list set rest none turned =
    ap₂ (λ (s r : List CodeTriple). with_all (same_triple nat_eq) (triples_seen s) (triples_seen r)) none (ap reverse turned ∙ reverse-reverse list) ∙ all_distinct (same_triple nat_eq) (exact_triples nat_eq exact_numbers) [] (triples_seen list)

pub rest_turn : (list set more rest less : List CodeTriple) (t : CodeTriple) → rest ≡ less ++ t ∷ [] → triples_seen more ≡ with_one (same_triple nat_eq) (triples_seen set) (triple_seen t) → Rest list set rest → Rest list more less
rest_turn list set more rest less t is grows h =
    ap (λ z. with_all (same_triple nat_eq) z (triples_seen (reverse less))) grows
    ∙ sym (ap (λ (z : List CodeTriple). with_all (same_triple nat_eq) (triples_seen set) (triples_seen z)) (ap reverse is ∙ reverse-append less (t ∷ [])))
    ∙ h

pub rest_end : (list set rest : List CodeTriple) → rest ≡ [] → Rest list set rest → triples_seen set ≡ distinct (same_triple nat_eq) (triples_seen list)
rest_end list set rest none h = sym (ap (λ (z : List CodeTriple). with_all (same_triple nat_eq) (triples_seen set) (triples_seen (reverse z))) none) ∙ h
