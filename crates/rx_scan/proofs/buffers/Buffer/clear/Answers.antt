use Rattle.std.specs.String.{string_bytes}
use Rattle.rx_scan.proofs.BufferLemmas.{chars-none}
use Rattle.rx_scan.proofs.buffers.Buffer.clear.Goals as goal

pub returns-clause-text : goal.returns-clause-text
returns-clause-text c = chars-none (string_bytes c.clear.new.self) c.clear.ensures.bytes
