use Rattle.rx_items.proofs.Common.{drop, map, each_events, Left, string_of}
use Rattle.rx_items.proofs.parts.write_texts.Given as goal

abbrev pub invariant-loop-text : goal.invariant-loop-text
invariant-loop-text g l =
    Left (g.S.Serializer.written l.fn.out) (g.S.Serializer.written l.out) (each_events (map string_of (drop l.text-index l.texts))) (each_events (map string_of l.texts))
