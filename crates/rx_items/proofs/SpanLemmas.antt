-- Where a text is cut, in bytes and in characters.
use Rattle.rx_items.proofs.Common.{◌-◌, ◌≡◌, ℕ, List, ◌++◌, length, ap, length-append, encodes-append, arith, IsRun, byte_count}
use Rattle.std.specs.Str.{encode_utf8_all}
use Rattle.rx_values.specs.Marks.{CutAt}
use Rattle.rx_items.specs.declared.spans.Span.{Span}

-- a run begins behind its front
pub run_begins : (whole : List ℕ) (span : Span) (front text rest : List ℕ) → IsRun whole span front text rest → CutAt whole span.from front (text ++ rest)
run_begins whole span front text rest run = record { whole = run.is_whole; size = run.from }

-- and is the front of what stands there
pub run_ends : (whole after : List ℕ) (span : Span) (front text rest : List ℕ) → IsRun whole span front text rest → after ≡ text ++ rest
    → CutAt after (span.to - span.from) text rest
run_ends whole after span front text rest run e =
    let b : byte_count (front ++ text) ≡ length (encode_utf8_all front ++ encode_utf8_all text) = ap (λ (x : List ℕ). length x) (encodes-append front text) in
    record { whole = e; size = omega (arith, length-append (encode_utf8_all front) (encode_utf8_all text), b, run.from, run.to) }
