use Rattle.rx_names.proofs.Common.{Option, sym, subst, view, Context}
use Rattle.rx_names.specs.FileErrors.{FileGives}
use Rattle.rx_names.proofs.FileLemmas.{read-context, no-context, not-so}
use Rattle.rx_names.proofs.contexts.Context.of_json.Goals as goal

pub returns-in-Ok : goal.returns-in-Ok
returns-in-Ok c =
    let P : Option Context → Type 0 = λ asked. FileGives c.of_value.result asked in
    subst P (sym (read-context c.args.bytes.now (view c.in-Ok.value) c.in-Ok.ensures.ok.0 c.in-Ok.ensures.ok.1)) c.of_value.ensures

pub returns-else-is_memory : goal.returns-else-is_memory
returns-else-is_memory c = no-context c.args.bytes.now (c.in-Err.ensures.err (not-so c.is_memory.result c.is_memory.ensures c.if-is_memory.false))
