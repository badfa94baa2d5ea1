use Rattle.rx_walk.proofs.Common.{◌∙◌, ap, Walked}
use Rattle.rx_walk.specs.declared.courses.RdfaListener.{RdfaListener}
use Rattle.rx_walk.proofs.Wholes.{depth_line}
use Rattle.rx_walk.proofs.walks.Walk.depth.Goals as goal

pub returns-clause-line : goal.returns-clause-line
returns-clause-line c setting address bytes s line phase run part u =
    let d = depth_line setting address c.args.self.now bytes s line phase run part u in
    (ap (λ (x : RdfaListener). x.count) c.listener.ensures ∙ (ap (λ (w : Walked). w.listener.count) c.self.view_is ∙ d.0), d.1)
