use Rattle.std.proofs.Common.{IsErrOf}
use Rattle.rx_jsonld.proofs.Common.{OnOk, ℕ, List, subst, sym, rules, WhereKnown, GrowsBy, GrowsByPart}
use Rattle.rx_pieces.specs.declared.errors.WriteError.TheVariants as error
use Rattle.rx_page.specs.Written.{output_text, Denoted}
use Rattle.rx_page.specs.declared.outcomes.Outcome.{Outcome}
use Rattle.rx_page.proofs.outcomes.Outcome.write.Goals as goal

pub returns-in-Quads-clause-ok : goal.returns-in-Quads-clause-ok
returns-in-Quads-clause-ok g c =
    subst (λ (bytes : List ℕ). OnOk c.write.result (WhereKnown {A = List ℕ} (GrowsBy bytes) (g.O.Sink.held c.args.out.now) (g.O.Sink.held c.write.new.sink)))
    (search rules) c.write.ensures.ok

pub returns-in-Quads-clause-partly : goal.returns-in-Quads-clause-partly
returns-in-Quads-clause-partly g c =
    subst (λ (bytes : List ℕ). IsErrOf c.write.result error.Failed → WhereKnown {A = List ℕ} (GrowsByPart bytes) (g.O.Sink.held c.args.out.now) (g.O.Sink.held c.write.new.sink))
    (search rules) c.write.ensures.partly

pub returns-in-Turtle-clause-ok : goal.returns-in-Turtle-clause-ok
returns-in-Turtle-clause-ok g c =
    subst (λ (o : Outcome). OnOk c.write-in-Turtle.result (WhereKnown {A = List ℕ} (GrowsBy (output_text o)) (g.O.Sink.held c.args.out.now) (g.O.Sink.held c.write-in-Turtle.new.sink)))
    (sym c.in-Turtle.is) c.write-in-Turtle.ensures.ok

pub returns-in-Turtle-clause-denoted : goal.returns-in-Turtle-clause-denoted
returns-in-Turtle-clause-denoted g c = subst (λ (o : Outcome). OnOk c.write-in-Turtle.result (Denoted o)) (sym c.in-Turtle.is) c.write-in-Turtle.ensures.denotes

pub returns-in-Turtle-clause-partly : goal.returns-in-Turtle-clause-partly
returns-in-Turtle-clause-partly g c =
    subst (λ (o : Outcome). IsErrOf c.write-in-Turtle.result error.Failed → WhereKnown {A = List ℕ} (GrowsByPart (output_text o)) (g.O.Sink.held c.args.out.now) (g.O.Sink.held c.write-in-Turtle.new.sink))
    (sym c.in-Turtle.is) c.write-in-Turtle.ensures.partly

pub returns-in-Nested-clause-ok : goal.returns-in-Nested-clause-ok
returns-in-Nested-clause-ok g c =
    subst (λ (o : Outcome). OnOk c.write-in-Nested.result (WhereKnown {A = List ℕ} (GrowsBy (output_text o)) (g.O.Sink.held c.args.out.now) (g.O.Sink.held c.write-in-Nested.new.out)))
    (sym c.in-Nested.is) c.write-in-Nested.ensures.ok

pub returns-in-Nested-clause-denoted : goal.returns-in-Nested-clause-denoted
returns-in-Nested-clause-denoted g c = subst (λ (o : Outcome). OnOk c.write-in-Nested.result (Denoted o)) (sym c.in-Nested.is) c.write-in-Nested.ensures.denoted

pub returns-in-Nested-clause-partly : goal.returns-in-Nested-clause-partly
returns-in-Nested-clause-partly g c =
    subst (λ (o : Outcome). IsErrOf c.write-in-Nested.result error.Failed → WhereKnown {A = List ℕ} (GrowsByPart (output_text o)) (g.O.Sink.held c.args.out.now) (g.O.Sink.held c.write-in-Nested.new.out))
    (sym c.in-Nested.is) c.write-in-Nested.ensures.partly
