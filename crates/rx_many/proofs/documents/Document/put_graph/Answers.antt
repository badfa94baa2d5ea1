use Rattle.rx_many.proofs.Common.{map, refl, sym, subst, on_ok_weaker, Chars, triples_seen, statement_at, AreNew}
use Rattle.rx_many.proofs.PageLemmas.{turned, in_graph}
use Rattle.rx_many.proofs.documents.Document.put_graph.Goals as goal

pub returns : goal.returns
returns c place lines s before new =
    on_ok_weaker c.put_triples.result
    (λ p. in_graph c.args.shared.now place _ lines c.args.address.now _ (triples_seen c.args.graph.now) c.in_ok-name.ensures.text p)
    (c.put_triples.ensures c.args.shared.now place lines
    (turned c.args.shared.now place c.args.self.now _ lines s before c.in_ok-turn.ensures.before c.in_ok-turn.ensures.here refl refl)
    (record { yes = c.is_shared-is_shared.ensures.yes; no = c.is_shared-is_shared.ensures.no })
    (subst (λ (n : Chars). AreNew c.args.shared.now lines (map (statement_at place n) (triples_seen c.args.graph.now))) (sym c.in_ok-name.ensures.text) new))
