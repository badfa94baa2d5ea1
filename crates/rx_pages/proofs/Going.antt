-- A page goes on from each of its fronts.
use Rattle.rx_pages.proofs.Common.{◌∙◌, [], ◌++◌, refl, append_assoc, after, IsAt, PagesGoOn}
use Rattle.rx_pages.proofs.ReadOn.{read_on}
use Rattle.rx_pages.proofs.Below.{document_tells, fronts_lead, first_tokens}

pub pages_go_on : PagesGoOn
pages_go_on syntax limits whole rest items line phase run tree r page =
    let b = read_on whole rest (r.front ++ run) page.entries r.read page.read in
    let l = fronts_lead syntax limits.depth items line phase r.stands in
    let d = document_tells syntax limits.depth (IsAt [] after) (λ k h. record { line_is = h.line_is; phase_is = h.phase_is }) (record { line_is = refl; phase_is = refl }) page.items tree page.document in
    let f = first_tokens syntax limits.depth (IsAt line phase) (IsAt [] after) run b.more r.spelled page.spelled refl (b.are ∙ append_assoc r.front run b.more) l.going d.going in
    record { items = f.items; entries = b.more; are = f.are; spelled = f.spelled; place = f.reached; is_at = f.is_meant; events = f.events; going = f.going }
