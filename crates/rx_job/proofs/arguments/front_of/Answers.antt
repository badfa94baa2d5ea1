use Rattle.rx_terms.proofs.Common.{◌∙◌, sym, ap, option_map}
use Rattle.rx_job.specs.Jobs.{options_seen}
use Rattle.rx_job.proofs.WordLemmas.{reads_all, puts, puts_none, all_read, all_behind}
use Rattle.rx_job.proofs.arguments.front_of.Goals as goal

pub loop-name-init : goal.loop-name-init
loop-name-init c = reads_all c.args.words.now

pub returns-in_default-put : goal.returns-in_default-put
returns-in_default-put c =
    puts_none c.args.words.now c.loop-name.left.now c.in-Some.rest.now _ c.in-Some.name c.in-Some.value.now c.loop-name.invariant c.in-Some.ensures
    (sym c.put.ensures ∙ ap (λ o. option_map options_seen o) c.in_default-put.is)

pub loop-name-preserved : goal.loop-name-preserved
loop-name-preserved c =
    puts c.args.words.now c.loop-name.left.now c.in-Some.rest.now _ _ c.in-Some.name c.in-Some.value.now c.loop-name.invariant c.in-Some.ensures
    (sym c.put.ensures ∙ ap (λ o. option_map options_seen o) c.in-Some-put.is)

pub returns : goal.returns
returns c =
    record {
      gives = all_read c.args.words.now c.loop-name.left.now _ c.loop-name.invariant c.in_default.ensures;
      leaves = all_behind c.args.words.now c.loop-name.left.now _ c.loop-name.invariant c.in_default.ensures;
    }
