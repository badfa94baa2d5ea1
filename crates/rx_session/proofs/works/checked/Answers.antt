use Rattle.rx_job.specs.Words.{checks}
use Rattle.rx_page.specs.Settings.{setting_for}
use Rattle.rx_session.proofs.WorkLemmas.{stops, check_ends}
use Rattle.rx_session.proofs.works.checked.Goals as goal

pub returns-in-Err : goal.returns-in-Err
returns-in-Err c syntax first singly context bytes at =
    stops (checks syntax) first singly context bytes c.in-Err.stop (c.in-Err.ensures (setting_for syntax context) bytes at)

pub returns : goal.returns
returns c syntax first singly context bytes at =
    check_ends syntax first singly context bytes c.in_ok-text.text (c.in-Ok.ensures (setting_for syntax context) bytes at) c.in_ok-text.ensures
