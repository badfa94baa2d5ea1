use Rattle.rx_model.proofs.Common.{ap, on_ok_weaker, kind_seen}
use Rattle.rx_jsonld.proofs.EventLemmas.{tagged_told, typed_told}
use Rattle.rx_jsonld.proofs.said.write_members.Goals as goal

pub returns-in_ok-write_text-in-Tagged : goal.returns-in_ok-write_text-in-Tagged
returns-in_ok-write_text-in-Tagged g c =
    on_ok_weaker c.write_text-in-Tagged-2.result
    (λ wrote. tagged_told c.args.literal.now.lexical _ (kind_seen c.args.literal.now.kind) _ _ (ap kind_seen c.in-Tagged.is) c.as_str-in-Tagged.ensures.bytes c.as_str-in-Tagged-2.ensures.bytes
    c.in_ok-write_text-in-Tagged.ensures wrote)
    c.write_text-in-Tagged-2.ensures

pub returns-in_ok-write_text-in-Typed : goal.returns-in_ok-write_text-in-Typed
returns-in_ok-write_text-in-Typed g c =
    on_ok_weaker c.write_text-in-Typed-2.result
    (λ wrote. typed_told c.args.literal.now.lexical _ (kind_seen c.args.literal.now.kind) _ _ (ap kind_seen c.in-Typed.is) c.as_str-in-Typed.ensures.bytes c.as_str-in-Typed-2.ensures.bytes
    c.in_ok-write_text-in-Typed.ensures wrote)
    c.write_text-in-Typed-2.ensures
