use Rattle.rx_terms.proofs.Common.{sym, ◌∙◌, chars}
use Rattle.rx_tags.specs.Seen.{tag_seen}
use Rattle.rx_tags.proofs.ValueLemmas.{found, passed}
use Rattle.rx_tags.proofs.tags.Tag.attr.Goals as goal

pub returns-then-is_same : goal.returns-then-is_same
returns-then-is_same c =
    sym c.loop-i.invariant ∙ found (tag_seen c.args.self.now).attributes c.loop-i.i (chars c.attr_at.result.0.now) _ (chars c.args.name.now) c.attr_at.ensures (sym c.is_same.ensures ∙ c.if-is_same.true)

pub loop-i-preserved : goal.loop-i-preserved
loop-i-preserved c =
    sym (passed (tag_seen c.args.self.now).attributes c.loop-i.i (chars c.attr_at.result.0.now) (chars c.attr_at.result.1.now) (chars c.args.name.now) c.attr_at.ensures (sym c.is_same.ensures ∙ c.if-is_same.false)) ∙ c.loop-i.invariant
