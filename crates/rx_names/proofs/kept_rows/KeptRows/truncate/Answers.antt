use Rattle.rx_names.proofs.Common.{ap, sym, ◌∙◌, take, map, take-map, list_all, is_sound, row_number}
use Rattle.rx_names.proofs.RowLemmas.{sound-front}
use Rattle.rx_names.proofs.kept_rows.KeptRows.truncate.Goals as goal

pub invariant_of-self : goal.invariant_of-self
invariant_of-self c = record {
  sound = ap (list_all is_sound) c.truncate.ensures.items ∙ sound-front c.args.count c.self.inside.rows.items c.self.invariant.sound;
  are =
      c.truncate-2.ensures.front ∙ ap (take c.args.count) c.self.invariant.are ∙ take-map row_number c.args.count c.self.inside.rows.items
      ∙ ap (map row_number) (sym c.truncate.ensures.items);
}
