-- What is looked for, and what was found, as a machine's state.
use Rattle.rx_terms.specs.Text.{seen_slice}
use Rattle.rx_base.specs.declared.seeking.Sought.{Sought}
use Rattle.rx_base.specs.declared.seeking.Sought.TheVariants as looks
use Rattle.rx_base.specs.declared.seeking.BaseSearchStep.{BaseSearchStep}
use Rattle.rx_base.specs.declared.seeking.BaseSearchStep.TheVariants as clue
use Rattle.rx_base.specs.Seekings.{Seeking, first_child, base_child, known}

abbrev pub sought_seen : Sought → Seeking
sought_seen looks.FirstChild = first_child
sought_seen looks.BaseChild = base_child

abbrev pub clue_seen : BaseSearchStep → Seeking
clue_seen (clue.Seeks sought) = sought_seen sought
clue_seen (clue.Known href) = known (seen_slice href)
