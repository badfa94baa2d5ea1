use Rattle.rx_names.proofs.Common.{◌∙◌, ap, Option, option_or, chars, Chars, lowered, Context, table_value, term}
use Rattle.rx_names.proofs.PutLemmas.{folded-value, first_lowered}
use Rattle.rx_names.proofs.file_tables.FileTables.term.Goals as goal

pub returns-in-None-clause-value : goal.returns-in-None-clause-value
returns-in-None-clause-value c =
    let name = chars c.args.name.now in
    let found = c.find_lowered.ensures.value ∙ ap (table_value (lowered name)) c.self.invariant ∙ folded-value c.self.inside.terms (lowered name) in
    found ∙ ap (λ (o : Option Chars). option_or o (first_lowered (lowered name) c.self.inside.terms)) c.in-None.ensures.value
    ∙ ap (λ (tables : Context). term tables name) c.self.view_is
