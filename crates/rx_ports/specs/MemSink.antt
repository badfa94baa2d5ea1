-- A sink in memory, as its contracts see it.
use Rattle.std.specs.Prelude.{ℕ, ◌-◌, ◌==◌, ◌&&◌, ◌||◌, not, min, List, [], ◌++◌, length, take, Bool, if◌then◌else◌, Result, Ok, Err}
use Rattle.std.specs.List.{list_any}
use Rattle.rx_ports.specs.Counts.{count_raised}
use Rattle.rx_ports.specs.declared.shelf.Failed.{Failed}

pub record MemorySink : Type 0 where
  pub held : List ℕ
  pub room : ℕ
  pub chunk : ℕ
  pub failing : List ℕ
  pub calls : ℕ
  pub faults : ℕ

abbrev pub new_sink : ℕ → ℕ → List ℕ → MemorySink
new_sink room chunk failing = record { held = []; room = room; chunk = chunk; failing = failing; calls = 0; faults = 0 }

-- whether the next write fails: its number is listed, or there is no room for a byte of it
abbrev pub write_fails : MemorySink → List ℕ → Bool
write_fails sink piece = list_any (λ number. number == count_raised sink.calls) sink.failing || (sink.room == 0 && not (length piece == 0))

abbrev pub write_count : MemorySink → List ℕ → ℕ
write_count sink piece = min (min (length piece) sink.chunk) sink.room

abbrev pub write_gives : MemorySink → List ℕ → Result ℕ Failed
write_gives sink piece = if write_fails sink piece then Err (record {}) else Ok (write_count sink piece)

abbrev pub after_write : MemorySink → List ℕ → MemorySink
after_write sink piece =
    if write_fails sink piece
    then record sink { calls = count_raised sink.calls; faults = count_raised sink.faults }
    else record sink { calls = count_raised sink.calls; held = sink.held ++ take (write_count sink piece) piece; room = sink.room - write_count sink piece }
