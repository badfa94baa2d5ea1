use Rattle.rx_command.proofs.Common.{◌≡◌, refl, subst, encode_utf8_all, Fault, WhereKnown, moves_weaker, Itemization, itemizes, item_way, PageText, PageRefused}
use Rattle.rx_command.specs.declared.errors.InputError.TheVariants as error
use Rattle.rx_page.specs.declared.outcomes.Outcome.TheVariants.{Json}
use Rattle.rx_command.proofs.InputLemmas.{page_found, fails_refused, fails_clean, fails_no_context, page_items, page_item_fault}
use Rattle.rx_command.proofs.inputs.itemize.Goals as goal

pub returns-in-Ok-text_of_items-clause-ok : goal.returns-in-Ok-text_of_items-clause-ok
returns-in-Ok-text_of_items-clause-ok g c context =
    let i : Itemization = record { syntax = c.args.syntax; address = c.args.address } in
    moves_weaker (PageText (itemizes i) context (encode_utf8_all c.args.page.now) (Json c.in-Ok-text_of_items.text))
    (λ x y r. page_items i context _ _ c.in-Ok.found (Json c.in-Ok-text_of_items.text) c.as_str.ensures.bytes c.in-Ok-text_of_items.ensures x y r) c.in-Ok.ensures.gives

pub returns-in-Err-Fault-clause-refused : goal.returns-in-Err-Fault-clause-refused
returns-in-Err-Fault-clause-refused g c context fault is =
    let i : Itemization = record { syntax = c.args.syntax; address = c.args.address } in
    let same : c.in-Err-Fault.fault ≡ fault = (cc) in
    let faulty = rw c.in-Err-Fault.field-0-is at c.in-Err-Fault.ensures in
    subst (λ (f : Fault). WhereKnown (PageRefused (itemizes i) context (encode_utf8_all c.args.page.now) f) (g.F.Shelf.told c.args.shelf.now) (g.F.Shelf.told c.read_items.new.shelf)) same
    (moves_weaker (PageRefused (itemizes i) context (encode_utf8_all c.args.page.now) c.in-Err-Fault.fault)
    (λ x y r. page_item_fault i context _ _ c.in-Ok.found c.in-Err-Fault.fault c.as_str.ensures.bytes faulty x y r) c.in-Ok.ensures.gives)

pub returns-in-Err-clause-refused : goal.returns-in-Err-clause-refused
returns-in-Err-clause-refused g c context fault is =
    let i : Itemization = record { syntax = c.args.syntax; address = c.args.address } in
    let same : c.in-Err.error ≡ error.Refused fault = (cc) in
    moves_weaker (PageRefused (itemizes i) context (encode_utf8_all c.args.page.now) fault)
    (λ x y f. page_found (itemizes i) (item_way c.args.syntax) context _ _ fault (c.as_str.ensures.bytes) refl x y f)
    (fails_refused (item_way c.args.syntax) _ _ c.in-Err.error fault _ _ (λ i. c.as_str.result.now) c.in-Err.ensures.gives same)

pub returns-in-Err-clause-cleanly : goal.returns-in-Err-clause-cleanly
returns-in-Err-clause-cleanly g c is = fails_clean (item_way c.args.syntax) _ _ c.in-Err.error _ _ c.as_str.ensures.bytes c.in-Err.ensures.gives (cc)

pub returns-in-Err-clause-no_context : goal.returns-in-Err-clause-no_context
returns-in-Err-clause-no_context g c is = fails_no_context (item_way c.args.syntax) _ c.in-Err.error _ _ c.in-Err.ensures.gives (cc)
