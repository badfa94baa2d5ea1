use Rattle.rx_refs.proofs.Common.{◌∙◌, ◌++◌, sym, ap, chars, Chars, Grown, segment_pushed}
use Rattle.rx_refs.proofs.BufferLemmas.{grown_of, becomes, pushed-slash, pushed-bare}
use Rattle.rx_refs.proofs.dots.GrownPath.push.Goals as goal
use Rattle.rx_refs.proofs.dots.GrownPath.push.Goals.{then-self+in_ok-push_text, else-self}

pub returns : goal.returns
returns c =
    let text : Chars = chars c.args.segment.now in
    let extended : Grown → Grown = λ g. grown_of g.front (g.path ++ text) g.slash in
    elim c.if-self.branch [
      | then-self+in_ok-push_text w ↦
          becomes c.push_text-2.result c.push_text-2.new.self (extended c.if-self.self) (segment_pushed c.args.self.now text)
          (ap extended (w.self-is ∙ w.in_ok-push_text.ensures) ∙ pushed-slash c.args.self.now text (ap (λ (g : Grown). g.slash) (sym c.self.view_is) ∙ w.if-self.true))
          c.push_text-2.ensures
      | else-self w ↦
          becomes c.push_text-2.result c.push_text-2.new.self (extended c.if-self.self) (segment_pushed c.args.self.now text)
          (ap extended w.self-is ∙ pushed-bare c.args.self.now text (ap (λ (g : Grown). g.slash) (sym c.self.view_is) ∙ w.if-self.false))
          c.push_text-2.ensures
    ]
