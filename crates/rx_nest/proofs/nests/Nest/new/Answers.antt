use Rattle.rx_nest.proofs.Common.{ap, refl, [], Latched}
use Rattle.rx_nest.proofs.Advancing.{new_at}
use Rattle.rx_nest.proofs.nests.Nest.new.Goals as goal

pub invariant_of-result : goal.invariant_of-result
invariant_of-result c unfailed unspent = (
  record {
    syntax = c.args.syntax;
    limits = c.args.limits;
    bytes = [];
    told = [];
    at = new_at c.args.syntax c.args.limits c.in_ok-scan.scan c.in_ok-line.line c.in_ok-scan.ensures.setting c.in_ok-scan.ensures.stands c.in_ok-line.ensures;
  },
  λ h. absurd (cc),
)

pub returns-clause-stands : goal.returns-clause-stands
returns-clause-stands c =
    let at = new_at c.args.syntax c.args.limits c.in_ok-scan.scan c.in_ok-line.line c.in_ok-scan.ensures.setting c.in_ok-scan.ensures.stands c.in_ok-line.ensures in
    record {
      told = [];
      at = at;
      sight = rw c.in_ok-line.ensures refl;
      lends = λ h. absurd (cc);
      unfailed = ap (λ (l : Latched). l.failed) c.new-3.ensures;
      unspent = ap (λ (l : Latched). l.out_of_memory) c.new-3.ensures;
    }
