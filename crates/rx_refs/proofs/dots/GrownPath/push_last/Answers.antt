use Rattle.rx_refs.proofs.Common.{refl, chars, codes}
use Rattle.rx_refs.proofs.BufferLemmas.{chars-is, chars-is-not, becomes, last-one, last-two, last-other}
use Rattle.rx_refs.proofs.dots.GrownPath.push_last.Goals as goal

pub returns-in-text : goal.returns-in-text
returns-in-text c =
    becomes c.push.result c.push.new.self _ _ (last-one c.args.self.now (chars c.args.segment.now) (chars-is (codes ".") c.args.segment.now refl c.in-text.is)) c.push.ensures

pub returns-in-text-2 : goal.returns-in-text-2
returns-in-text-2 c =
    becomes c.push-in-text-2.result c.push-in-text-2.new.self _ _ (last-two c.args.self.now (chars c.args.segment.now) (chars-is (codes "..") c.args.segment.now refl c.in-text-2.is))
    (rw c.cut_back.ensures at c.push-in-text-2.ensures)

pub returns-in_default : goal.returns-in_default
returns-in_default c =
    let one = chars-is-not (codes ".") c.args.segment.now refl c.utf8.segment c.in_default.not-text in
    let two = chars-is-not (codes "..") c.args.segment.now refl c.utf8.segment c.in_default.not-text-2 in
    becomes c.push-in_default.result c.push-in_default.new.self _ _ (last-other c.args.self.now (chars c.args.segment.now) one two) c.push-in_default.ensures
