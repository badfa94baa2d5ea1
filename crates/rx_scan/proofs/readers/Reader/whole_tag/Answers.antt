use Rattle.rx_scan.proofs.Common.{◌∙◌, ◌-◌, ◌<◌, ap, sym, arith, fed, Reading}
use Rattle.rx_scan.proofs.WholeTagLemmas.{none_held, whole_taken}
use Rattle.rx_scan.proofs.readers.Reader.whole_tag.Goals as goal

pub returns-clause-takes : goal.returns-clause-takes
returns-clause-takes c =
    let l : Reading = record { setting = c.self.inside.setting; place = c.self.inside.place; held = c.self.inside.utf8; pending = c.self.inside.pending; text = c.self.inside.text; end = c.self.inside.end } in
    let limit = rw (← c.self.view_is) at c.whole_limit-limit.ensures in
    let within = limit.page (omega (arith, c.if-limit-eq0.false)) in
    let tag = c.take_whole-count.ensures in
    let some : 0 < c.take_whole-count.result = omega (arith, c.if-count-eq0.false) in
    rw (← c.self.view_is)
    (λ _. whole_taken l (rw (← c.self.view_is) at c.requires.between) (none_held c.self.inside.utf8 (sym c.is_whole.ensures ∙ c.if-not-is_whole.false)) (omega (arith, within, c.if-limit-eq0.false)) (sym c.has_markup.ensures ∙ c.if-not-has_markup.false)
    c.args.bytes.now c.whole_limit-limit.result c.take_whole-count.result c.requires.first c.if-limit-eq0.false limit.fits within limit.tag (omega (arith, c.if-self.false)) (c.opens_tag.ensures c.if-not-opens_tag.false)
    c.take_whole-count.new.self (tag.takes some) (tag.kept some) c.fed-self-inside.result (c.fed-self-inside.ensures ∙ ap (fed (c.take_whole-count.result - 1)) c.begun.ensures) c.end_tag.new.self c.end_tag.ensures)
