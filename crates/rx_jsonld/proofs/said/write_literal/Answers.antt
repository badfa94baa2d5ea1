use Rattle.rx_jsonld.proofs.Common.{refl, on_ok_weaker, kind_seen, object_made, literal_members}
use Rattle.rx_jsonld.proofs.said.write_literal.Goals as goal

pub returns : goal.returns
returns g c =
    on_ok_weaker c.end_map.result
    (λ ended. object_made _ (literal_members c.args.literal.now.lexical (kind_seen c.args.literal.now.kind)) refl c.in_ok-begin_map.ensures c.in_ok-write_members.ensures ended) c.end_map.ensures
