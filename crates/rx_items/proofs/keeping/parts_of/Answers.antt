use Rattle.rx_items.proofs.Common.{subst, ◌≤◌, ℕ, rows_of, Sorted}
use Rattle.rx_items.proofs.AroundLemmas.{lies}
use Rattle.rx_items.proofs.NestLemmas.{numbered}
use Rattle.rx_items.proofs.keeping.parts_of.Goals as goal
use Rattle.rx_items.proofs.ShowLemmas.{shows_length}

pub returns : goal.returns
returns c text times tree shows =
    let ps = rows_of tree in
    let sorted : Sorted c.args.words.now text times c.args.rows.now ps c.in_ok-members.members.items = record {
      shows = shows;
      same = c.in_ok-members.ensures.same (lies c.args.words.now text times c.args.rows.now tree shows);
      small = subst (λ (n : ℕ). n ≤ 18446744073709551615) (shows_length c.args.words.now text times c.args.rows.now ps shows) c.in_ok-members.ensures.small;
    } in
    let extras = rw c.as_slice.ensures.value at c.in_ok-extras.ensures in
    extras text times tree sorted c.in_ok-members.ensures.rises (c.in_ok-ids.ensures text times ps shows (numbered tree))
