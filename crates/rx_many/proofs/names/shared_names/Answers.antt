use Rattle.rx_many.proofs.Common.{Some, sym, ap, ◌∙◌, subst, arith, slice_get-get_or, Chars, Notes, name_of}
use Rattle.rx_many.proofs.NameLemmas.{names_more, names_end}
use Rattle.rx_many.proofs.names.shared_names.Goals as goal

pub loop-i-preserved : goal.loop-i-preserved
loop-i-preserved c =
    names_more c.loop-i.names.seen c.loop-i.names.shared c.add.new.self.seen c.add.new.self.shared c.args.pages.now c.loop-i.i c.index-pages-i.result c.loop-i.invariant
    (slice_get-get_or c.args.pages.now c.loop-i.i c.index-pages-i.result c.loop-i-test.true ∙ ap Some (sym c.index-pages-i.is))
    (subst (λ (z : Chars). Notes c.loop-i.names.seen c.loop-i.names.shared z c.add.new.self.seen c.add.new.self.shared) (c.in_ok-name.ensures.text ∙ ap name_of (sym c.index-pages-i.is)) c.in_ok-add.ensures)

pub returns : goal.returns
returns c = names_end c.loop-i.names.seen c.loop-i.names.shared c.args.pages.now c.loop-i.i c.loop-i.invariant (omega (arith, c.loop-i-test.false))
