use Rattle.rx_names.proofs.Common.{◌≡◌, ap, sym, ◌∙◌, take, map, rules, take_at, row_number}
use Rattle.rx_names.proofs.kept_rows.push_numbers.Goals as goal

pub returns-then-is_err-clause-err : goal.returns-then-is_err-clause-err
returns-then-is_err-clause-err c =
    let stays : c.push.new.self ≡ c.loop-row.places = search rules in
    c.truncate.ensures.front ∙ ap (take c.len-count.result) (stays ∙ c.loop-row.invariant)
    ∙ take_at c.args.places.now (map row_number (take c.loop-row.row-index c.args.rows.now)) c.len-count.result (sym c.len-count.ensures.length)
