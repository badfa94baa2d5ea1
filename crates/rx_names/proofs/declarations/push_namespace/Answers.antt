use Rattle.rx_names.proofs.Common.{◌∙◌, ap, sym, List, ◌++◌, chars, append-nil}
use Rattle.rx_names.specs.declared.rows.Declaration.{Declaration}
use Rattle.rx_names.proofs.DeclarationLemmas.{becomes, one-namespace, no-namespace}
use Rattle.rx_names.proofs.declarations.push_namespace.Goals as goal

pub returns-in-Some : goal.returns-in-Some
returns-in-Some c =
    let same = one-namespace (chars c.args.name.now) (chars c.args.value.now) (chars c.in-Some.name.now) (chars c.trim.result.now) c.in-Some.ensures c.trim.ensures in
    record { ok = becomes c.push_mapping.result c.push_mapping.new.rows _ _ (ap (λ (x : List Declaration). c.args.rows.now ++ x) same) c.push_mapping.ensures.ok }

pub returns-in-None : goal.returns-in-None
returns-in-None c = record { ok = sym (ap (λ (x : List Declaration). c.args.rows.now ++ x) (no-namespace (chars c.args.name.now) (chars c.args.value.now) c.in-None.ensures) ∙ append-nil c.args.rows.now) }
