use Rattle.rx_refs.proofs.Common.{string_bytes, IsUtf8-string_bytes}
use Rattle.rx_refs.proofs.EscapeLemmas.{escaped-chars}
use Rattle.rx_refs.proofs.escapes.push_escaped.Goals as goal

pub returns-clause-ok : goal.returns-clause-ok
returns-clause-ok c =
    escaped-chars (string_bytes c.args.out.now) (string_bytes c.push.new.self) (string_bytes c.push-2.new.self) (string_bytes c.push-3.new.self) c.args.c c.requires
    (IsUtf8-string_bytes c.args.out.now) c.in_ok-push.ensures.bytes c.in_ok-push-2.ensures.bytes c.in_ok-push-3.ensures.bytes
