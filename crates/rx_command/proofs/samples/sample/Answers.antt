use Rattle.rx_command.specs.Samples.{sample_page, sample_setting, sample_address}
use Rattle.rx_command.proofs.SampleLemmas.{no_fault_at_end, if_sample}
use Rattle.rx_command.proofs.samples.sample.Goals as goal

pub unreachable-requires : goal.unreachable-requires
unreachable-requires c =
    let ends = rw c.in-Err-Fault.field-0-is at c.in-Err-Fault.ensures.gives in
    no_fault_at_end c.args.count c.in-Err-Fault._fault c.requires (ends sample_setting sample_address (sample_page c.args.count) c.in-Ok.ensures.fed.stands).0

pub returns : goal.returns
returns c =
    if_sample (λ line. line.items) c.args.count c.feed.new.self.size c.feed.new.self.depth c.in-Ok-finish.list c.line_of.result c.in-Ok.ensures.fed.size c.in-Ok.ensures.depth
    (c.in-Ok-finish.ensures.gives sample_setting sample_address (sample_page c.args.count) c.in-Ok.ensures.fed.stands) c.line_of.ensures
