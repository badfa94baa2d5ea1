use Rattle.std.proofs.Common.{◌∙◌, sym}
use Rattle.rx_job.specs.Jobs.{options_seen}
use Rattle.rx_job.proofs.ListingLemmas.{no_file}
use Rattle.rx_job.proofs.jobs.Job.gathering.Goals as goal

pub returns-then-not-is_file_if_any : goal.returns-then-not-is_file_if_any
returns-then-not-is_file_if_any c = no_file c.args.words.now (options_seen c.in-Some.front.options) c.in-Some.ensures.gives (sym c.is_file_if_any.ensures ∙ c.if-not-is_file_if_any.true)
