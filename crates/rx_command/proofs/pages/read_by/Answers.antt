use Rattle.rx_command.proofs.ReadLemmas.{fed_ends}
use Rattle.rx_command.proofs.pages.read_by.Goals as goal

pub returns-in-Ok-clause-gives : goal.returns-in-Ok-clause-gives
returns-in-Ok-clause-gives g c setting s =
    let fed = c.in-Ok.ensures.gives setting s in
    fed_ends (g.R.PageReader.way setting) (g.R.PageReader.stands setting) (g.R.PageReader.gives setting) c.args.name.now c.feed_file.new.reader _ _ fed c.end_of.result (c.end_of.ensures.gives setting fed.bytes fed.at)

pub returns-in-Err-clause-gives : goal.returns-in-Err-clause-gives
returns-in-Err-clause-gives g c setting s = c.in-Err.ensures.gives setting s

pub returns-in-Ok-clause-to_first : goal.returns-in-Ok-clause-to_first
returns-in-Ok-clause-to_first g c setting s = c.in-Ok.ensures.to_first setting s

pub returns-in-Err-clause-to_first : goal.returns-in-Err-clause-to_first
returns-in-Err-clause-to_first g c setting s = c.in-Err.ensures.to_first setting s
