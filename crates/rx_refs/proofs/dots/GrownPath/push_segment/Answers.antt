use Rattle.rx_refs.proofs.Common.{refl, ap, sym, ◌∙◌, chars, Chars, codes, true, Grown, after_segment}
use Rattle.rx_refs.proofs.BufferLemmas.{grown_of, chars-is, chars-is-not, segment-other}
use Rattle.rx_refs.proofs.dots.GrownPath.push_segment.Goals as goal

pub returns-in-text : goal.returns-in-text
returns-in-text c = sym (ap (after_segment c.args.self.now) (chars-is (codes ".") c.args.segment.now refl c.in-text.is))

pub returns-in-text-2 : goal.returns-in-text-2
returns-in-text-2 c = c.cut_back.ensures ∙ sym (ap (after_segment c.args.self.now) (chars-is (codes "..") c.args.segment.now refl c.in-text-2.is))

pub returns-in_ok-push-in_default : goal.returns-in_ok-push-in_default
returns-in_ok-push-in_default c =
    let text : Chars = chars c.args.segment.now in
    let one = chars-is-not (codes ".") c.args.segment.now refl c.utf8.segment c.in_default.not-text in
    let two = chars-is-not (codes "..") c.args.segment.now refl c.utf8.segment c.in_default.not-text-2 in
    ap (λ (g : Grown). grown_of g.front g.path true) (c.self.view_is ∙ c.in_ok-push-in_default.ensures) ∙ segment-other c.args.self.now text one two
