use Rattle.rx_scan.proofs.Common.{◌≡◌, ◌+◌, ◌-◌, ◌≤◌, length, take, ◌==◌, MatchBool, TellsText}
use Rattle.rx_scan.specs.declared.marks.TokenState.TheVariants as mark
use Rattle.rx_scan.proofs.readers.Reader.say_more.Given as goal

abbrev pub invariant-loop-taken : goal.invariant-loop-taken
invariant-loop-taken l = record {
  within : l.taken ≤ length l.bytes;
  between : l.self.pending.mark ≡ mark.Nothing;
  size : l.self.text.size + 4 ≤ 4096;
  room : 4096 ≤ l.self.text.room;
  says : MatchBool (l.taken == 0) (l.self ≡ l.fn.self) (TellsText l.fn.self (take l.taken l.bytes) l.self);
}

abbrev pub decreases-loop-taken : goal.decreases-loop-taken
decreases-loop-taken l = length l.bytes - l.taken
