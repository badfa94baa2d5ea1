use Rattle.rx_grammar.proofs.Common.{◌≡◌, ℕ, List, take, firsts}
use Rattle.rx_tags.specs.Reading.{rows_read, RowsFit}
use Rattle.rx_tags.specs.Repeats.{has_text, row_has_name}
use Rattle.rx_tags.proofs.repeats.first_rows.Given as goal

abbrev pub invariant-loop-row : goal.invariant-loop-row
invariant-loop-row l = record {
  read : rows_read l.text l.kept.items ≡ firsts (rows_read l.text (take l.row-index l.rows));
  fit : (limit : ℕ) → RowsFit l.text limit l.rows → RowsFit l.text limit l.kept.items;
  names : (name : List ℕ) → has_text l.names name ≡ row_has_name l.text (take l.row-index l.rows) name;
}
