use Rattle.rx_command.proofs.Common.{arith, ◌≡◌, ◌<◌, ◌++◌, length, take, moves_weaker}
use Rattle.rx_command.proofs.FileLemmas.{reads_on, reads_some}
use Rattle.rx_command.proofs.files.read_on.Goals as goal

pub returns-clause-told : goal.returns-clause-told
returns-clause-told g c =
    let room : 0 < length c.read.new.buf = omega (arith, c.read.auto.buf, c.requires) in
    let items : c.extend_from_slice.new.self.items ≡ c.args.bytes.now.items ++ take c.in-Ok.count c.read.new.buf = c.in-Ok-extend_from_slice.ensures.items in
    moves_weaker _ (λ x y r. reads_on _ _ _ _ x y r room c.in-Ok.ensures.bound items) c.in-Ok.ensures.told

pub returns-clause-takes : goal.returns-clause-takes
returns-clause-takes g c =
    let same : length c.read.new.buf ≡ length c.args.part.now = c.read.auto.buf in
    moves_weaker _ (λ x y r. rw (← same) (reads_some _ _ x y r c.in-Ok.ensures.bound)) c.in-Ok.ensures.told

pub returns-in_default-extend_from_slice-clause-takes : goal.returns-in_default-extend_from_slice-clause-takes
returns-in_default-extend_from_slice-clause-takes g c =
    let same : length c.read.new.buf ≡ length c.args.part.now = c.read.auto.buf in
    moves_weaker _ (λ x y r. rw (← same) (reads_some _ _ x y r c.in-Ok.ensures.bound)) c.in-Ok.ensures.told
