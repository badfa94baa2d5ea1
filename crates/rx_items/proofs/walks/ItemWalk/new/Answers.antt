use Rattle.rx_items.proofs.Common.{MicrodataSetting, refl}
use Rattle.rx_items.proofs.walks.ItemWalk.new.Goals as goal

pub new-requires : goal.new-requires
new-requires c = record {
  setting = record { syntax = c.args.syntax; limits = c.args.limits; address = c.args.address };
  syntax_is = refl;
  limits_are = refl;
  known = c.new-collector.ensures (record { syntax = c.args.syntax; limits = c.args.limits; address = c.args.address }) refl;
}

pub returns : goal.returns
returns c =
    let setting : MicrodataSetting = record { syntax = c.args.syntax; limits = c.args.limits; address = c.args.address } in
    c.in_ok-reading.ensures setting refl refl (c.new-collector.ensures setting refl)
