use Rattle.std.specs.String.{string_bytes}
use Rattle.rx_scan.proofs.BufferLemmas.{chars-none}
use Rattle.rx_scan.proofs.buffers.Buffer.with_room.Goals as goal

pub returns-clause-text : goal.returns-clause-text
returns-clause-text c = chars-none (string_bytes c.in_ok-text.text) c.in_ok-text.ensures.bytes
