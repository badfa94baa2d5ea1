use Rattle.rx_command.proofs.SampleTokens.{samples_are_pages}
use Rattle.rx_command.proofs.samples_are_pages.Goals as goal

pub returns : goal.returns
returns c = samples_are_pages
