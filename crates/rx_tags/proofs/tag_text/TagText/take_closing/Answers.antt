use Rattle.rx_tags.proofs.OnLemmas.{from_none, turn}
use Rattle.rx_tags.proofs.tag_text.TagText.take_closing.Goals as goal

pub returns-then-not-is_naming-clause-takes : goal.returns-then-not-is_naming-clause-takes
returns-then-not-is_naming-clause-takes c =
    from_none c.args.self.now.syntax c.args.self.now.state c.skip_on-taken.new.self.state c.args.bytes.now c.skip_on-taken.result c.skip_on-taken.ensures.takes

pub returns-clause-takes : goal.returns-clause-takes
returns-clause-takes c =
    turn c.args.self.now.syntax c.skip_on-taken.new.self.syntax c.args.self.now.state c.skip_on-taken.new.self.state c.take_letters.new.self.state c.args.bytes.now c.skip_on-taken.result c.take_letters.result c.skip_on-taken.ensures.fits
    (from_none c.args.self.now.syntax c.args.self.now.state c.skip_on-taken.new.self.state c.args.bytes.now c.skip_on-taken.result c.skip_on-taken.ensures.takes) c.skip_on-taken.ensures.syntax c.take_letters.ensures.takes
