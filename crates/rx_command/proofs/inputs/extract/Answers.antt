use Rattle.rx_command.proofs.Common.{◌≡◌, refl, encode_utf8_all, moves_weaker, extracts, approach_way, extraction_of, PageText, PageRefused}
use Rattle.rx_command.specs.declared.errors.InputError.TheVariants as error
use Rattle.rx_command.proofs.InputLemmas.{page_text, page_found, fails_refused, fails_clean, fails_no_context}
use Rattle.rx_command.proofs.inputs.extract.Goals as goal

pub returns-clause-ok : goal.returns-clause-ok
returns-clause-ok g c =
    let e = extraction_of c.args.approach c.args.format c.args.graph in
    moves_weaker (PageText (extracts e) c.args.approach.context (encode_utf8_all c.args.page.now) c.in_ok-of.field-0)
    (λ x y r. page_text e c.args.approach.context _ _ c.in-Ok.form c.in_ok-of.field-0 c.in-Ok-read_page.list c.as_str.ensures.bytes c.in-Ok.ensures c.in_ok-of.ensures.spelled c.in_ok-of.ensures.denoted x y r)
    c.in-Ok-read_page.ensures.gives

pub returns-in-Err-clause-refused : goal.returns-in-Err-clause-refused
returns-in-Err-clause-refused g c fault is =
    let same : c.in-Err.error ≡ error.Refused fault = (cc) in
    moves_weaker (PageRefused (extracts (extraction_of c.args.approach c.args.format c.args.graph)) c.args.approach.context (encode_utf8_all c.args.page.now) fault)
    (λ x y f. page_found (extracts (extraction_of c.args.approach c.args.format c.args.graph)) (approach_way c.args.approach) c.args.approach.context _ _ fault (c.as_str.ensures.bytes) refl x y f)
    (fails_refused (approach_way c.args.approach) _ _ c.in-Err.error fault _ _ (λ i. c.as_str.result.now) c.in-Err.ensures.gives same)

pub returns-in-Err-clause-cleanly : goal.returns-in-Err-clause-cleanly
returns-in-Err-clause-cleanly g c is = fails_clean (approach_way c.args.approach) _ _ c.in-Err.error _ _ c.as_str.ensures.bytes c.in-Err.ensures.gives (cc)

pub returns-in-Err-clause-context : goal.returns-in-Err-clause-context
returns-in-Err-clause-context g c is = fails_no_context (approach_way c.args.approach) _ c.in-Err.error _ _ c.in-Err.ensures.gives (cc)
