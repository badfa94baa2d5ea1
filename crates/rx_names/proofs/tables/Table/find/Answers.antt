use Rattle.rx_names.proofs.Common.{sym, rules, slice_cmp, chars, encodes-chars, encode_utf8_all, always_returns_same, nat_cmp}
use Rattle.rx_names.specs.declared.tables.Mapping.{Mapping}
use Rattle.rx_names.proofs.TableLemmas.{found_row, found_no_row}
use Rattle.rx_names.proofs.tables.Table.find.Goals as goal

pub returns-in-Ok-clause-value : goal.returns-in-Ok-clause-value
returns-in-Ok-clause-value c =
    let found = c.in-Ok.ensures.position (λ (row : Mapping). slice_cmp nat_cmp (encode_utf8_all row.name) c.args.name.now) (always_returns_same _ _ _ (λ a r f called. search rules)) in
    found_row c.self.inside.rows.items c.deref.result.now c.args.self.now c.args.name.now (chars c.args.name.now) c.deref.ensures.value (sym c.self.view_is)
    (encodes-chars c.args.name.now c.utf8.name) c.self.invariant c.in-Ok.at c.index.result.now (chars c.as_str.result.now) c.in-Ok.ensures.bound c.index.ensures
    (found c.index.result.now) c.as_str.ensures.characters

pub returns-in-Err-clause-value : goal.returns-in-Err-clause-value
returns-in-Err-clause-value c =
    let gap = c.in-Err.ensures.position (λ (row : Mapping). slice_cmp nat_cmp (encode_utf8_all row.name) c.args.name.now) (always_returns_same _ _ _ (λ a r f called. search rules)) in
    found_no_row c.self.inside.rows.items c.deref.result.now c.args.self.now c.args.name.now (chars c.args.name.now) c.deref.ensures.value (sym c.self.view_is)
    (encodes-chars c.args.name.now c.utf8.name) c.self.invariant c.in-Err._gap gap
