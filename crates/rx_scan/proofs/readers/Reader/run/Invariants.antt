use Rattle.rx_scan.proofs.Common.{◌≡◌, ◌⊎◌, ◌+◌, ◌-◌, ◌≤◌, ◌<◌, [], true, take, length, Scanning, MayStep, ReadsAs, is_quiet}
use Rattle.rx_scan.specs.declared.marks.TokenState.TheVariants as mark
use Rattle.rx_scan.proofs.RunLemmas.{ReadsOn}
use Rattle.rx_scan.proofs.readers.Reader.run.Given as goal

abbrev pub invariant-loop-taken : goal.invariant-loop-taken
invariant-loop-taken l = record {
  within : l.taken ≤ length l.piece;
  may_step : MayStep l.self.pending.tag;
  room : 4096 ≤ l.self.text.room;
  fits : l.self.text.size + 4 ≤ 4096;
  apart : (l.self.text.text ≡ []) ⊎ (l.self.pending.mark ≡ mark.Nothing);
  so_far : (s : Scanning) → ReadsAs l.fn.self s → ReadsOn l.fn.self s (take l.taken l.piece) l.self;
  later : (l.self.text.text ≡ [] → ⊥) → 0 < l.taken;
  quiet : l.fn.self.pending.mark ≡ mark.Nothing → is_quiet l.piece ≡ true → l.self.pending.mark ≡ mark.Nothing;
}

abbrev pub decreases-loop-taken : goal.decreases-loop-taken
decreases-loop-taken l = length l.piece - l.taken
