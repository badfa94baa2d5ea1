-- A text denotes at most one graph.
use Rattle.rx_notation.proofs.Common.{ℕ, List, sym, subst, Among, Triple, set_of, Renamed, TurtleDocument, all_triples, TurtleBlank, Label, Place, TurtleDenotesOne, NestedDenotesOne}
use Rattle.rx_notation.proofs.OneText.{spells_one}
use Rattle.rx_model.proofs.Renamings.{renamed_across}

abbrev flat_triples : TurtleDocument → List (Triple ℕ)
flat_triples d = all_triples d.prefixes (λ number. number) (λ n. n) d.statements 0

abbrev nested_triples : TurtleDocument → List (Triple TurtleBlank)
nested_triples d = all_triples d.prefixes Label Place d.statements 0

pub denotes_one : TurtleDenotesOne
denotes_one text xs ys h k t =
    let same = spells_one text h.document k.document h.spells k.spells in (
      λ m. (k.stated t).1 (subst (λ (d : TurtleDocument). Among (flat_triples d) t) same ((h.stated t).0 m)),
      λ m. (h.stated t).1 (subst (λ (d : TurtleDocument). Among (flat_triples d) t) (sym same) ((k.stated t).0 m)),
    )

pub nested_denotes_one : NestedDenotesOne
nested_denotes_one text xs ys h k =
    let same = spells_one text h.document k.document h.spells k.spells in
    let moved : Renamed (set_of (nested_triples h.document)) (set_of ys) = subst (λ (d : TurtleDocument). Renamed (set_of (nested_triples d)) (set_of ys)) (sym same) k.renamed in
    renamed_across (nested_triples h.document) xs ys h.renamed moved
