use Rattle.rx_many.proofs.Common.{ℕ, List, ◌++◌, map, take, Chars, triples_seen, QuadLine, PageBlank, statement_at, AreNew, PageStands, TellsShared}
use Rattle.rx_many.proofs.documents.Document.put_triples.Given as goal

abbrev pub invariant-loop-i : goal.invariant-loop-i
invariant-loop-i l = (shared : List Chars) (place : ℕ) (lines : List (QuadLine PageBlank)) → PageStands shared place l.fn.self lines → TellsShared l.is_shared shared l.name → AreNew shared lines (map (statement_at place l.name) (triples_seen l.graph))
    → PageStands shared place l.self (lines ++ map (statement_at place l.name) (triples_seen (take l.i l.graph)))
