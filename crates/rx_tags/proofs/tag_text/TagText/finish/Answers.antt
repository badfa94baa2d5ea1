use Rattle.std.proofs.Common.{◌∙◌, sym}
use Rattle.rx_tags.proofs.EndLemmas.{finishes}
use Rattle.rx_tags.proofs.tag_text.TagText.finish.Goals as goal

pub returns-else-refuses-clause-gives : goal.returns-else-refuses-clause-gives
returns-else-refuses-clause-gives c =
    rw (← c.self.view_is)
    (finishes c.self.inside.syntax c.args.action c.self.inside.phase c.args.phase c.self.inside.name c.self.inside.pairs c.end_pairs.new.pairs c.in-Ok.repeated c.in-Ok.ensures.gives (sym c.refuses.ensures ∙ c.if-refuses.false) c.requires.0)
