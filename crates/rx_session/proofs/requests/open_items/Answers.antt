use Rattle.std.proofs.Common.{◌∙◌, sym, refl}
use Rattle.rx_rdfa.specs.Standard.{standard}
use Rattle.rx_job.specs.Words.{itemizes}
use Rattle.rx_session.specs.Wants.{plain}
use Rattle.rx_session.proofs.WorkLemmas.{items_asked}
use Rattle.rx_session.proofs.requests.open_items.Goals as goal

pub returns : goal.returns
returns c = record {
  want = plain (itemizes (record { syntax = c.in-Some.syntax; address = c.in-Ok.address }));
  context = standard;
  is = items_asked c.args.syntax c.args.address.now c.in-Some.syntax c.in-Ok.address (sym c.syntax_of.ensures ∙ c.in-Some.is) c.in-Ok.ensures;
  holds = refl;
  fed = c.in_ok-items.ensures standard;
}
