-- What is written denotes the graph.
use Rattle.rx_rdfa.specs.Common.{same_bnode, model, graph_of, written, WrittenDenotes}
use Rattle.rx_model.proofs.Common.{Triple, Graph, set_of, copied, Closed, held, copied_from, patterned, Renamed, copies_patterns, numbers_one_to_one}
use Rattle.rx_rdfa.specs.Made.{raw, made}
use Rattle.rx_rdfa.proofs.Made.{made_is_raw}
use Rattle.rx_rdfa.proofs.Exact.{exact_bnodes}

closed_more : {B : Type 0} (g h : Graph B) → ((t : Triple B) → g t → h t) → {t : Triple B} → Closed g t → Closed h t
closed_more g h f (held k) = held (f _ k)
closed_more g h f (copied_from a b c n) = copied_from (closed_more g h f a) (closed_more g h f b) (closed_more g h f c) n

patterned_more : {B : Type 0} (g h : Graph B) → ((t : Triple B) → g t → h t) → ((t : Triple B) → h t → g t) → (t : Triple B) → patterned g t → patterned h t
patterned_more g h f b t (c, r, l) = (closed_more g h f c, (λ q. r (q.0, closed_more h g b q.1, closed_more h g b q.2)), (λ q. l (q.0, q.1, q.2, closed_more h g b q.3)))

renamed_from : {A B : Type 0} (g h : Graph A) (k : Graph B) → ((t : Triple A) → g t → h t) → ((t : Triple A) → h t → g t) → Renamed h k → Renamed g k
renamed_from g h k f b r = record {
  to = r.to;
  one_to_one = λ x y p q. r.one_to_one x y (p.0, f p.0 p.1, p.2) (q.0, f q.0 q.1, q.2);
  forth = λ t m. r.forth t (f t m);
  back = λ u m. (let s = r.back u m in (s.0, b s.0 s.1, s.2));
}

pub written_denotes : WrittenDenotes
written_denotes base tree =
    let list = made model base tree in
    let by_copying = copies_patterns same_bnode exact_bnodes list in
    renamed_from (graph_of base tree) (set_of (copied same_bnode list)) (set_of (written base tree))
    (λ t m. (by_copying t).1 (patterned_more (raw model base tree) (set_of list) (λ u. (made_is_raw base tree u).1) (λ u. (made_is_raw base tree u).0) t m))
    (λ t m. patterned_more (set_of list) (raw model base tree) (λ u. (made_is_raw base tree u).0) (λ u. (made_is_raw base tree u).1) t ((by_copying t).0 m))
    (numbers_one_to_one same_bnode exact_bnodes (copied same_bnode list))
