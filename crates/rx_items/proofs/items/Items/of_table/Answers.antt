use Rattle.rx_items.proofs.items.Items.of_table.Goals as goal

pub returns : goal.returns
returns c tree shows =
    c.in_ok-kept.ensures tree (rw (c.into_rows.ensures.rows, c.into_rows.ensures.words, c.into_rows.ensures.text, c.into_rows.ensures.times) shows)
