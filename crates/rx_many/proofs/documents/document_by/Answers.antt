use Rattle.rx_many.proofs.Common.{List, map, take, subst, ap, sym, Some, ◌∙◌, slice_get-get_or, QuadLine, PageBlank, lines_from, page_seen, DocumentStands}
use Rattle.rx_many.proofs.LineLemmas.{pages_more}
use Rattle.rx_many.proofs.PageLemmas.{page_is_new, pages_before}
use Rattle.rx_many.proofs.documents.document_by.Goals as goal

pub loop-i-preserved : goal.loop-i-preserved
loop-i-preserved c =
    let at = slice_get-get_or c.args.pages.now c.loop-i.i c.index-pages-i.result c.loop-i-test.true ∙ ap Some (sym c.index-pages-i.is) in
    subst (λ (z : List (QuadLine PageBlank)). DocumentStands c.args.shared.now c.put_page.new.self z)
    (pages_more c.args.pages.now c.loop-i.i c.index-pages-i.result at)
    (c.in-Ok.ensures c.loop-i.i (lines_from 0 (map page_seen (take c.loop-i.i c.args.pages.now))) c.loop-i.invariant
    (pages_before c.args.pages.now c.loop-i.i) (page_is_new c.args.shared.now c.args.pages.now c.requires c.loop-i.i c.index-pages-i.result at))
