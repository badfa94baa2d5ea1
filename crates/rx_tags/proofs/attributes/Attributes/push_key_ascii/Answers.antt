use Rattle.std.proofs.Common.{ap, ◌∙◌, arith, take}
use Rattle.rx_tags.proofs.Pieces.{key_pushed_ascii}
use Rattle.rx_tags.proofs.attributes.Attributes.push_key_ascii.Goals as goal

pub invariant_of-self-2 : goal.invariant_of-self-2
invariant_of-self-2 c = (key_pushed_ascii _ c.push_front.new.text.items _ _ _ _ c.len-self-inside.result (take c.args.count c.args.bytes.now) c.self.invariant c.requires.ascii c.in_ok-push_front.ensures.ok (omega (arith, c.len-self-inside.ensures, c.push_front.new.text.ok.0)) (ap (λ r. r.known) c.self.view_is ∙ c.requires.known) (ap (λ r. r.pending) c.self.view_is ∙ c.requires.pending)).0

pub returns-clause-ok : goal.returns-clause-ok
returns-clause-ok c = rw (← c.self.view_is) (key_pushed_ascii _ c.push_front.new.text.items _ _ _ _ c.len-self-inside.result (take c.args.count c.args.bytes.now) c.self.invariant c.requires.ascii c.in_ok-push_front.ensures.ok (omega (arith, c.len-self-inside.ensures, c.push_front.new.text.ok.0)) (ap (λ r. r.known) c.self.view_is ∙ c.requires.known) (ap (λ r. r.pending) c.self.view_is ∙ c.requires.pending)).1
