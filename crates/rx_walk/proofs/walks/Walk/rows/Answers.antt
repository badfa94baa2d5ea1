use Rattle.rx_walk.proofs.Common.{◌∙◌, ◌≤◌, List, [], ap, subst, sym, ElementTag, declared_along, line_of, Walked}
use Rattle.rx_walk.specs.declared.courses.RdfaListener.{RdfaListener}
use Rattle.rx_walk.proofs.Wholes.{open_is}
use Rattle.rx_names.specs.Lines as names
use Rattle.rx_walk.proofs.walks.Walk.rows.Goals as goal

pub returns-clause-bound : goal.returns-clause-bound
returns-clause-bound c setting address bytes s line phase run part u =
    let same = ap (λ (x : RdfaListener). x.names) c.listener.ensures ∙ ap (λ (w : Walked). w.listener.names) c.self.view_is in
    subst (λ (l : List ElementTag). c.rows.result ≤ declared_along l) (open_is setting address c.args.self.now bytes s line phase run part u)
    (c.rows.ensures.bound (line_of [] s.goes.signs) (subst (λ (k : names.KeptNames). names.NamesStand k (line_of [] s.goes.signs)) (sym same) s.goes.known.names_are))
