use Rattle.std.proofs.Common.{◌∙◌, sym, take}
use Rattle.rx_tags.proofs.TakeLemmas.{plain_ascii, gains_value, stays_pending}
use Rattle.rx_tags.proofs.PairLemmas.{on_ok}
use Rattle.rx_tags.proofs.pairs.Pairs.take_plain.Goals as goal

pub push_ascii-requires : goal.push_ascii-requires
push_ascii-requires c =
    record { fits = c.plain_length-count.ensures.fits; ascii = plain_ascii (take c.plain_length-count.result c.args.bytes.now) c.plain_length-count.ensures.plain }

pub invariant_of-self-2 : goal.invariant_of-self-2
invariant_of-self-2 c =
    stays_pending c.self.inside.run c.self.inside.attributes c.push_ascii.new.self (take c.plain_length-count.result c.args.bytes.now) (sym c.is_run.ensures ∙ c.if-is_run.false)
    (on_ok _ c.if-is_err.ensures.value c.push_ascii.ensures.ok)

pub returns-clause-gains : goal.returns-clause-gains
returns-clause-gains c =
    rw (← c.self.view_is)
    (gains_value c.self.inside.run c.self.inside.attributes c.push_ascii.new.self (take c.plain_length-count.result c.args.bytes.now) c.plain_length-count.result _ c.if-count-eq0.false (sym c.is_run.ensures ∙ c.if-is_run.false)
    c.self.invariant c.plain_length-count.ensures.plain (on_ok _ c.if-is_err.ensures.value c.push_ascii.ensures.ok))
