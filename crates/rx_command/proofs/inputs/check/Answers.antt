use Rattle.rx_command.proofs.Common.{◌≡◌, refl, encode_utf8_all, moves_weaker, checks, rdfa_way, PageText, PageRefused}
use Rattle.rx_command.specs.declared.errors.InputError.TheVariants as error
use Rattle.rx_page.specs.declared.outcomes.Outcome.TheVariants.{Right}
use Rattle.rx_command.proofs.InputLemmas.{page_right, page_found, fails_refused, fails_clean, fails_no_context}
use Rattle.rx_command.proofs.inputs.check.Goals as goal

pub returns-in-Ok-clause-ok : goal.returns-in-Ok-clause-ok
returns-in-Ok-clause-ok g c =
    moves_weaker (PageText (checks c.args.syntax) c.args.context (encode_utf8_all c.args.page.now) Right) (λ x y r. page_right c.args.syntax c.args.context _ _ c.in-Ok.field-0 c.as_str.ensures.bytes x y r) c.in-Ok.ensures.gives

pub returns-in-Err-clause-refused : goal.returns-in-Err-clause-refused
returns-in-Err-clause-refused g c fault is =
    let same : c.in-Err.error ≡ error.Refused fault = (cc) in
    moves_weaker (PageRefused (checks c.args.syntax) c.args.context (encode_utf8_all c.args.page.now) fault)
    (λ x y f. page_found (checks c.args.syntax) (rdfa_way c.args.syntax c.args.context) c.args.context _ _ fault (c.as_str.ensures.bytes) refl x y f)
    (fails_refused (rdfa_way c.args.syntax c.args.context) _ _ c.in-Err.error fault _ _ (λ i. c.as_str.result.now) c.in-Err.ensures.gives same)

pub returns-in-Err-clause-cleanly : goal.returns-in-Err-clause-cleanly
returns-in-Err-clause-cleanly g c is = fails_clean (rdfa_way c.args.syntax c.args.context) _ _ c.in-Err.error _ _ c.as_str.ensures.bytes c.in-Err.ensures.gives (cc)

pub returns-in-Err-clause-no_context : goal.returns-in-Err-clause-no_context
returns-in-Err-clause-no_context g c is = fails_no_context (rdfa_way c.args.syntax c.args.context) _ c.in-Err.error _ _ c.in-Err.ensures.gives (cc)
