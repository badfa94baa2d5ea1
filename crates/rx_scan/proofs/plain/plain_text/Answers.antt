use Rattle.rx_scan.proofs.Common.{◌≡◌, ℕ, List, true, take, subst, sym, list_all, is_plain_char}
use Rattle.rx_scan.proofs.PlainLemmas.{ascii_plain, ascii_text}
use Rattle.rx_scan.proofs.plain.plain_text.Goals as goal

pub from_utf8_unchecked-requires : goal.from_utf8_unchecked-requires
from_utf8_unchecked-requires c = ascii_text (take c.ascii_length-count.result c.args.bytes.now) c.ascii_length-count.ensures.plain

pub returns-then-is_stop-clause-plain : goal.returns-then-is_stop-clause-plain
returns-then-is_stop-clause-plain c =
    subst (λ (x : List ℕ). list_all is_plain_char x ≡ true) (sym c.from_utf8_unchecked.ensures)
    (ascii_plain (take c.ascii_length-count.result c.args.bytes.now) c.ascii_length-count.ensures.plain)
