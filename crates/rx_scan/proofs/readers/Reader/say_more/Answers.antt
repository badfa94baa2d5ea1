use Rattle.rx_scan.proofs.Common.{◌∙◌, ◌-◌, ap, length, take, drop, Pending}
use Rattle.rx_scan.proofs.FrontLemmas.{front_within, one_kept, one_text, text_sum}
use Rattle.rx_scan.proofs.readers.Reader.say_more.Goals as goal

pub loop-taken-preserved : goal.loop-taken-preserved
loop-taken-preserved c =
    let old = c.args.self.now in
    let l = c.loop-taken in
    let new = c.say_one-count.new.self in
    let bytes = c.args.bytes.now in
    let n = c.say_one-count.result in
    let told = c.say_one-count.ensures in
    let rest = take (length bytes - l.taken) (drop l.taken bytes) in
    record {
      within = front_within bytes l.taken n l.invariant.within told.fits;
      between = ap (λ (x : Pending). x.mark) (one_kept l.self new (take n rest) n told.says) ∙ l.invariant.between;
      size = told.size;
      room = told.room;
      says = text_sum old l.self new bytes l.taken n l.invariant.says (one_text l.self new rest n told.fits told.says);
    }
