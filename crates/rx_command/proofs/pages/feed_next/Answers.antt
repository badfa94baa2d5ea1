use Rattle.rx_command.proofs.Common.{arith, ◌≡◌, ◌<◌, ◌≤◌, List, ℕ, length, take, length-take, moves_weaker, largest_piece, AddsRead}
use Rattle.rx_command.proofs.FileLemmas.{reads_some}
use Rattle.rx_command.proofs.ReadLemmas.{read_adds, piece_refused}
use Rattle.rx_command.proofs.pages.feed_next.Goals as goal

pub returns-in-Ok-feed-clause-gives : goal.returns-in-Ok-feed-clause-gives
returns-in-Ok-feed-clause-gives g c setting bytes s small =
    let room : 0 < length c.read.new.buf = omega (arith, c.read.auto.buf, c.requires) in
    let more : List ℕ = take c.in-Ok.count c.read.new.buf in
    let size : length more ≡ c.in-Ok.count = omega (arith, length-take c.in-Ok.count c.read.new.buf, c.in-Ok.ensures.bound) in
    (more, size, c.in-Ok-feed.ensures setting bytes s, moves_weaker (AddsRead more) (λ x y m. read_adds c.read.new.buf c.in-Ok.count x y m room c.in-Ok.ensures.bound) c.in-Ok.ensures.told)

pub returns-in-Ok-feed-clause-takes : goal.returns-in-Ok-feed-clause-takes
returns-in-Ok-feed-clause-takes g c =
    let same : length c.read.new.buf ≡ length c.args.piece.now = c.read.auto.buf in
    moves_weaker _ (λ x y r. rw (← same) (reads_some _ _ x y r c.in-Ok.ensures.bound)) c.in-Ok.ensures.told

pub returns-in-Err-Fault-clause-gives : goal.returns-in-Err-Fault-clause-gives
returns-in-Err-Fault-clause-gives g c setting bytes s small =
    let room : 0 < length c.read.new.buf = omega (arith, c.read.auto.buf, c.requires) in
    let more : List ℕ = take c.in-Ok.count c.read.new.buf in
    let size : length more ≤ largest_piece = omega (arith, length-take c.in-Ok.count c.read.new.buf, c.in-Ok.ensures.bound, c.read.auto.buf, small) in
    let stops = rw c.in-Err-Fault.field-0-is at c.in-Err-Fault.ensures in
    let shown = g.met.R.PageReader.shows setting c.args.reader.now bytes s in (
      more,
      size,
      piece_refused (g.R.PageReader.way setting) (g.met.R.PageReader.refuses setting) bytes more c.in-Err-Fault.fault shown (stops setting bytes s),
      moves_weaker (AddsRead more) (λ x y m. read_adds c.read.new.buf c.in-Ok.count x y m room c.in-Ok.ensures.bound) c.in-Ok.ensures.told,
    )

pub returns-in-Err-Fault-clause-takes : goal.returns-in-Err-Fault-clause-takes
returns-in-Err-Fault-clause-takes g c =
    let same : length c.read.new.buf ≡ length c.args.piece.now = c.read.auto.buf in
    moves_weaker _ (λ x y r. rw (← same) (reads_some _ _ x y r c.in-Ok.ensures.bound)) c.in-Ok.ensures.told

pub returns-in-Err-NoMemory-clause-takes : goal.returns-in-Err-NoMemory-clause-takes
returns-in-Err-NoMemory-clause-takes g c =
    let same : length c.read.new.buf ≡ length c.args.piece.now = c.read.auto.buf in
    moves_weaker _ (λ x y r. rw (← same) (reads_some _ _ x y r c.in-Ok.ensures.bound)) c.in-Ok.ensures.told
