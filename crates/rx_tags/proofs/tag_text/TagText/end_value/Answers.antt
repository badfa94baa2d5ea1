use Rattle.std.proofs.Common.{◌∙◌, sym, arith}
use Rattle.rx_tags.proofs.OnLemmas.{ended, given_ok}
use Rattle.rx_tags.proofs.tag_text.TagText.end_value.Goals as goal

pub returns-clause-takes : goal.returns-clause-takes
returns-clause-takes c =
    rw (← c.self.view_is)
    (ended c.self.inside.syntax c.self.inside.phase c.self.inside.name c.self.inside.pairs c.add.new.self c.args.bytes.now c.args.taken (omega (arith, c.requires, c.if-taken-bytes.false))
    (sym c.ends_value.ensures ∙ c.if-not-ends_value.false) (given_ok _ _ _ _ c.if-is_err.ensures.value c.add.ensures.gives))
