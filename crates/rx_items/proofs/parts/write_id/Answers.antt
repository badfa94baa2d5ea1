use Rattle.rx_items.proofs.Common.{Some, None, on_ok_weaker, Chars, Option, OnOk, Grows, members_events, no_members, with_id, ShowsWord}
use Rattle.rx_items.proofs.WritingLemmas.{id_told}
use Rattle.rx_items.proofs.parts.write_id.Goals as goal

pub returns : goal.returns
returns g c word shows = by word (rw c.in-Some.is at shows)
  where
    by : (word : Option Chars) → ShowsWord c.args.kept.now.words (Some c.in-Some.span) word
        → OnOk c.write_reference.result (Grows (g.S.Serializer.written c.args.out.now) (g.S.Serializer.written c.write_reference.new.out) (members_events (with_id c.args.kept.now.base word no_members)))
    by None shown = absurd shown
    by (Some token) shown =
        on_ok_weaker c.write_reference.result (λ wrote. id_told c.args.kept.now.base _ token (c.text_of-reference.ensures shown.front token shown.rest shown.is_run) c.in_ok-key.ensures wrote) c.write_reference.ensures
