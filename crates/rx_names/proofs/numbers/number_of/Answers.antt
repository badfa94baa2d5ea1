use Rattle.rx_terms.proofs.Common.{◌∙◌, map, to_ascii_lowercase}
use Rattle.std.specs.Hash.DefaultHasher as sip
use Rattle.rx_names.proofs.NumberLemmas.{next-byte, no-byte, all-bytes}
use Rattle.rx_names.proofs.numbers.number_of.Goals as goal

pub loop-byte-preserved : goal.loop-byte-preserved
loop-byte-preserved c =
    next-byte sip.initial c.loop-byte.hasher c.write_u8.new.self c.as_bytes-byte-items.result.now c.loop-byte.byte-index c.to_ascii_lowercase.result _ (map to_ascii_lowercase c.args.name.now)
    c.loop-byte-test.true c.to_ascii_lowercase.ensures.value c.write_u8.ensures c.loop-byte.invariant

pub returns : goal.returns
returns c =
    let whole = no-byte sip.initial c.loop-byte.hasher c.as_bytes-byte-items.result.now c.loop-byte.byte-index (map to_ascii_lowercase c.args.name.now) c.loop-byte-test.false c.loop-byte.invariant in
    c.finish.ensures ∙ all-bytes c.args.name.now c.loop-byte.hasher c.utf8.name whole
