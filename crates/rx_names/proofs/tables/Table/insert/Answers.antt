use Rattle.rx_names.proofs.Common.{◌∙◌, sym, ap, Option, unwrap_or, chars, Table, rise}
use Rattle.rx_names.proofs.TableLemmas.{mappings}
use Rattle.rx_names.proofs.PutLemmas.{put-code, rise-put}
use Rattle.rx_names.proofs.tables.Table.insert.Goals as goal

pub invariant_of-self-2 : goal.invariant_of-self-2
invariant_of-self-2 c =
    let put_is = put-code c.insert.result c.self.inside.rows.items c.insert.new.self.items c.args.self.now c.in-Some.gap c.args.name c.args.iri (chars c.as_str.result.now)
    c.insert.ensures.items c.if-is_err.ensures.value c.self.view_is c.as_str.ensures.characters (c.in-Some.ensures.1 c.args.iri) in
    rise-put (c.args.name, c.args.iri) c.args.self.now (mappings c.insert.new.self.items) (ap rise (sym c.self.view_is) ∙ c.self.invariant) put_is

pub returns-clause-ok : goal.returns-clause-ok
returns-clause-ok c =
    let put_is = put-code c.insert.result c.self.inside.rows.items c.insert.new.self.items c.args.self.now c.in-Some.gap c.args.name c.args.iri (chars c.as_str.result.now)
    c.insert.ensures.items c.if-is_err.ensures.value c.self.view_is c.as_str.ensures.characters (c.in-Some.ensures.1 c.args.iri) in
    sym (ap (λ (o : Option Table). unwrap_or o c.args.self.now) put_is)
