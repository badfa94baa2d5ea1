use Rattle.std.proofs.Common.{◌∙◌, ◌<◌, ap, sym, rules, length, position}
use Rattle.rx_unique.proofs.SearchLemmas.{alone}
use Rattle.rx_unique.proofs.unique.Unique.is_at.Goals as goal

pub returns-clause-yes : goal.returns-clause-yes
returns-clause-yes g c = λ is.
    let inside : c.args.place < length c.self.inside.keys.items = search rules in
    ap (position (g.Q.Equivalent.equivalent c.args.key)) (sym c.self.view_is)
    ∙ alone g.K.PartialEq.eq (g.Q.Equivalent.equivalent c.args.key) (λ x y t. g.met.Q.Equivalent.respects_eq c.args.key x y t) c.self.inside.keys.items c.self.invariant.once
    c.args.place c.index.result.now inside c.index.ensures (sym c.equivalent.ensures ∙ is)
