use Rattle.std.proofs.Common.{ap, sym, ◌∙◌}
use Rattle.rx_quads.specs.Listed.{ListedGraph, quads_of}
use Rattle.rx_quads.specs.Shown.{shown_quad}
use Rattle.rx_quads.proofs.QuadLemmas.{shows_one}
use Rattle.rx_quads.proofs.quads.Quads.show.Goals as goal

pub returns-clause-shows : goal.returns-clause-shows
returns-clause-shows c =
    shows_one c.self.inside.graph c.self.inside.name _ c.args.number _ (quads_of c.args.self.now) c.swap.new.x (ap (λ (l : ListedGraph). quads_of l) (sym c.self.view_is)) c.as_ref.ensures.value c.at.ensures
    (ap shown_quad c.swap.ensures.x_after ∙ c.in_ok-put.ensures)
