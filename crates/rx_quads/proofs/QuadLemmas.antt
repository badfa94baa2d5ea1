-- A quad of a list that is shown.
use Rattle.rx_model.proofs.Common.{◌≡◌, ◌∙◌, ℕ, List, map, slice_get, ap, Option, Some, Chars, option_map, slice_get-map, triple_seen, triples_seen}
use Rattle.rx_terms.specs.declared.triples.Triple.{Triple as CodeTriple}
use Rattle.rx_nquads.specs.Quads.{Quad, quad_of, quads}
use Rattle.rx_quads.specs.Listed.{ShowsOne}
use Rattle.rx_quads.specs.Shown.{quad_bytes, shown_quad}
use Rattle.rx_quads.specs.declared.terms.ShownQuad.{ShownQuad}

pub shows_one : (graph : List CodeTriple) (name lent : Option Chars) (number : ℕ) (t : CodeTriple) (list : List Quad) (now : ShownQuad) → list ≡ quads (triples_seen graph) name → lent ≡ name
    → slice_get graph number ≡ Some t → shown_quad now ≡ quad_bytes (quad_of lent (triple_seen t)) → ShowsOne list number now
shows_one graph name lent number t list now is same at shown = record {
  quad = quad_of name (triple_seen t);
  at =
      ap (λ l. slice_get l number) is
      ∙ (slice_get-map (quad_of name) (map triple_seen graph) number ∙ ap (option_map (quad_of name)) (slice_get-map triple_seen graph number ∙ ap (option_map triple_seen) at));
  shown = shown ∙ ap (λ n. quad_bytes (quad_of n (triple_seen t))) same;
}
