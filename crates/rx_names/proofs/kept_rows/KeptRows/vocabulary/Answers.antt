use Rattle.rx_names.proofs.Common.{◌∙◌, ap, sym, rules, List, seen_slice, slice_get_within, last_of, vocabulary_in, flattened, nearer}
use Rattle.rx_names.specs.declared.rows.Declaration.{Declaration}
use Rattle.rx_names.proofs.RowLemmas.{told-at-first, told-there, told-before, row-within, other-vocabulary}
use Rattle.rx_names.proofs.kept_rows.KeptRows.vocabulary.Goals as goal

pub loop-next-init : goal.loop-next-init
loop-next-init c = told-at-first (vocabulary_in) (0) (other-vocabulary) c.self.inside.rows.items c.self.inside.places c.last-next.result c.self.invariant c.last-next.ensures

pub index-requires : goal.index-requires
index-requires c =
    let within = row-within c.self.inside.rows.items c.self.inside.places c.in-Some.place (0) c.self.invariant (c.loop-next.invariant.there c.in-Some.place c.in-Some.is) in
    search (rules, within)

pub returns-in-Some-vocabulary : goal.returns-in-Some-vocabulary
returns-in-Some-vocabulary c = record {
  last = sym (ap flattened (told-there (vocabulary_in) (0) (other-vocabulary) c.self.inside.rows.items c.self.inside.places c.loop-next.next c.in-Some.place c.index.result.now (seen_slice c.in-Some-vocabulary.vocabulary)
      c.self.invariant c.loop-next.invariant c.in-Some.is c.index.ensures (sym c.in-Some-vocabulary.ensures.value)))
      ∙ ap (λ (rows : List Declaration). flattened (last_of vocabulary_in rows)) c.self.view_is;
}

pub earlier-next-requires : goal.earlier-next-requires
earlier-next-requires c = slice_get_within c.self.inside.places c.in-Some.place (0) (c.loop-next.invariant.there c.in-Some.place c.in-Some.is)

pub loop-next-smaller : goal.loop-next-smaller
loop-next-smaller c = nearer c.self.inside.places c.loop-next.next c.earlier-next.result c.in-Some.place _ c.in-Some.is c.earlier-next.ensures

pub loop-next-preserved : goal.loop-next-preserved
loop-next-preserved c =
    told-before (vocabulary_in) (0) (other-vocabulary) c.self.inside.rows.items c.self.inside.places c.loop-next.next c.earlier-next.result c.in-Some.place c.index.result.now
    c.self.invariant c.loop-next.invariant c.in-Some.is c.index.ensures (sym c.in_default-vocabulary.ensures.value) c.earlier-next.ensures
