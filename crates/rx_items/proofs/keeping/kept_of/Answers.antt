use Rattle.rx_items.proofs.Common.{List, sym, subst, length, rows_of, ShowsRows, FirstRowsFit}
use Rattle.rx_items.specs.declared.rows.Row.{Row}
use Rattle.rx_items.proofs.NestLemmas.{numbered}
use Rattle.rx_items.proofs.keeping.kept_of.Goals as goal

pub returns : goal.returns
returns c tree shows =
    let page = c.args.page in
    let rows = subst (λ (rows : List Row). ShowsRows page.words page.text page.times.items rows (rows_of tree)) (sym c.as_slice.ensures.value) shows in
    let fit = c.in_ok-parts.ensures page.text page.times.items tree rows in
    record {
      shown = shows;
      base_is = c.of.ensures;
      numbered = numbered tree;
      extras = subst (λ (rows : List Row). FirstRowsFit page.words (rows_of tree) c.in_ok-parts.parts.members.items rows (length rows) c.in_ok-parts.parts.extras.items) c.as_slice.ensures.value fit;
    }
