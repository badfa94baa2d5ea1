use Rattle.std.proofs.Common.{◌∙◌, ap, arith, take}
use Rattle.rx_tags.proofs.PairLemmas.{on_ok}
use Rattle.rx_tags.proofs.Pieces.{whole_pushed}
use Rattle.rx_tags.proofs.attributes.Attributes.add_ascii.Goals as goal

pub invariant_of-self-2 : goal.invariant_of-self-2
invariant_of-self-2 c =
    (whole_pushed c.self.inside.text.items c.push_front.new.text.items c.push_front-2.new.text.items c.self.inside.rows.items c.push.new.self.items _ _ _ c.len-middle.result c.len-end.result
    (take c.args.letters c.args.name.now) (take c.args.count c.args.value.now) c.self.invariant c.requires.name c.requires.value c.in_ok-push_front.ensures.ok (omega (arith, c.len-middle.ensures, c.push_front.new.text.ok.0))
    (on_ok _ c.if-is_err.ensures.value c.push_front-2.ensures.ok) (omega (arith, c.len-end.ensures, c.push_front-2.new.text.ok.0)) (rw c.if-is_err-2.ensures.negation at c.push.ensures.items)
    (ap (λ r. r.known) c.self.view_is ∙ c.requires.known) (ap (λ r. r.pending) c.self.view_is ∙ c.requires.pending)).0

pub returns-clause-ok : goal.returns-clause-ok
returns-clause-ok c =
    rw (← c.self.view_is)
    (whole_pushed c.self.inside.text.items c.push_front.new.text.items c.push_front-2.new.text.items c.self.inside.rows.items c.push.new.self.items _ _ _ c.len-middle.result c.len-end.result
    (take c.args.letters c.args.name.now) (take c.args.count c.args.value.now) c.self.invariant c.requires.name c.requires.value c.in_ok-push_front.ensures.ok (omega (arith, c.len-middle.ensures, c.push_front.new.text.ok.0))
    (on_ok _ c.if-is_err.ensures.value c.push_front-2.ensures.ok) (omega (arith, c.len-end.ensures, c.push_front-2.new.text.ok.0)) (rw c.if-is_err-2.ensures.negation at c.push.ensures.items)
    (ap (λ r. r.known) c.self.view_is ∙ c.requires.known) (ap (λ r. r.pending) c.self.view_is ∙ c.requires.pending)).1
