use Rattle.rx_notation.proofs.Common.{OnOk, IsErrOf, map, ℕ, List, subst, chars, WhereKnown, GrowsBy, GrowsByPart, proper_triple, NestedTurtle}
use Rattle.rx_pieces.specs.declared.errors.WriteError.TheVariants as error
use Rattle.rx_page.specs.Shaped.{Shaped}
use Rattle.rx_page.specs.Written.{nested_text}
use Rattle.rx_page.proofs.shaped.Shaped.write.Goals as goal

pub returns-clause-ok : goal.returns-clause-ok
returns-clause-ok g c =
    subst (λ (s : Shaped). OnOk c.write_nested.result (WhereKnown {A = List ℕ} (GrowsBy (nested_text c.args.context.now s)) (g.O.Sink.held c.args.out.now) (g.O.Sink.held c.write_nested.new.sink)))
    c.self.view_is c.write_nested.ensures.ok

pub returns-clause-denoted : goal.returns-clause-denoted
returns-clause-denoted g c =
    subst (λ (s : Shaped). OnOk c.write_nested.result (NestedTurtle (chars (nested_text c.args.context.now s)) (map proper_triple s.triples))) c.self.view_is c.write_nested.ensures.denotes

pub returns-clause-partly : goal.returns-clause-partly
returns-clause-partly g c =
    subst (λ (s : Shaped). IsErrOf c.write_nested.result error.Failed → WhereKnown {A = List ℕ} (GrowsByPart (nested_text c.args.context.now s)) (g.O.Sink.held c.args.out.now) (g.O.Sink.held c.write_nested.new.sink))
    c.self.view_is c.write_nested.ensures.partly
