use Rattle.rx_names.proofs.Common.{sym, rules, slice_cmp, chars, encodes-chars, encode_utf8_all, always_returns_same, nat_cmp}
use Rattle.rx_names.specs.declared.tables.Mapping.{Mapping}
use Rattle.rx_names.proofs.PutLemmas.{no_gap, the_gap, gap_within}
use Rattle.rx_names.proofs.tables.Table.gap.Goals as goal

pub returns-in-Ok : goal.returns-in-Ok
returns-in-Ok c =
    let found = c.in-Ok.ensures.position (λ (row : Mapping). slice_cmp nat_cmp (encode_utf8_all row.name) c.args.name.now) (always_returns_same _ _ _ (λ a r f called. search rules)) in
    λ iri. no_gap c.self.inside.rows.items c.deref.result.now c.args.self.now c.args.name.now (chars c.args.name.now) c.deref.ensures.value (sym c.self.view_is)
    (encodes-chars c.args.name.now c.utf8.name) c.self.invariant c.in-Ok._at iri c.in-Ok.ensures.bound found

pub returns-in-Err : goal.returns-in-Err
returns-in-Err c =
    let gap = c.in-Err.ensures.position (λ (row : Mapping). slice_cmp nat_cmp (encode_utf8_all row.name) c.args.name.now) (always_returns_same _ _ _ (λ a r f called. search rules)) in (
      gap_within c.self.inside.rows.items c.deref.result.now c.args.self.now c.args.name.now (chars c.args.name.now) c.deref.ensures.value (sym c.self.view_is)
          (encodes-chars c.args.name.now c.utf8.name) c.self.invariant c.in-Err.gap c.in-Err.ensures.bound,
      λ iri. the_gap c.self.inside.rows.items c.deref.result.now c.args.self.now c.args.name.now (chars c.args.name.now) c.deref.ensures.value (sym c.self.view_is)
          (encodes-chars c.args.name.now c.utf8.name) c.self.invariant c.in-Err.gap iri c.in-Err.ensures.bound gap,
    )
