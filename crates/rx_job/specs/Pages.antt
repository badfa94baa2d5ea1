-- Pages of a job, as contracts see them.
use Rattle.rx_job.specs.Words.{Listed}
use Rattle.rx_job.specs.declared.pages.Page.{Page}

abbrev pub listed_seen : Page → Listed
listed_seen page = record { address = page.address; page = page.name }
