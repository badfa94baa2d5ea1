use Rattle.rx_many.proofs.Common.{map, take, lines_from, page_seen, DocumentStands}
use Rattle.rx_many.proofs.documents.document_by.Given as goal

abbrev pub invariant-loop-i : goal.invariant-loop-i
invariant-loop-i l = DocumentStands l.shared l.document (lines_from 0 (map page_seen (take l.i l.pages)))
