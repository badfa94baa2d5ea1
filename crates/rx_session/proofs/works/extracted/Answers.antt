use Rattle.rx_job.specs.Words.{extracts}
use Rattle.rx_page.specs.Settings.{setting_for}
use Rattle.rx_session.proofs.WorkLemmas.{walk_ends, stops}
use Rattle.rx_session.proofs.works.extracted.Goals as goal

pub returns-in-Err : goal.returns-in-Err
returns-in-Err c e singly context bytes at plan =
    stops (extracts e) c.args.first singly context bytes c.in-Err.stop (c.in-Err.ensures (setting_for e.syntax context, e.address) bytes at)

pub returns : goal.returns
returns c e singly context bytes at plan =
    walk_ends e context bytes c.in-Ok.list (c.in-Ok.ensures (setting_for e.syntax context, e.address) bytes at)
    c.args.first singly c.args.plan c.in_ok-given_of.field-0 plan c.in_ok-given_of.ensures
