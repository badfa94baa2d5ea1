use Rattle.rx_command.proofs.Common.{arith, ap, subst, inl, ◌≡◌, ◌≤◌, ◌+◌, [], length, refl, Err, ◌∙◌, moves_weaker, moves_then, Limits, HasRead, TakesOf, largest_piece, page_limit, ReadsClean, TakesToFirst, standard_limits, not_longer}
use Rattle.rx_command.specs.declared.errors.InputError.TheVariants.{Failed}
use Rattle.rx_command.proofs.FileLemmas.{read_start, takes_none, takes_more}
use Rattle.rx_command.proofs.InputLemmas.{rose_before}
use Rattle.rx_command.proofs.ReadLemmas.{more_so_far, next_found, file_fed, unread_clean, unread_first, to_first}
use Rattle.rx_command.proofs.pages.feed_file.Goals as goal

pub returns-in_default-clause-takes : goal.returns-in_default-clause-takes
returns-in_default-clause-takes g c = moves_weaker _ (λ x y s. takes_none _ _ _ x y s) c.in_default.ensures.told

pub returns-in_default-clause-gives : goal.returns-in_default-clause-gives
returns-in_default-clause-gives g c setting s =
    let way = g.R.PageReader.way setting in
    moves_weaker (ReadsClean way c.args.name.now) (λ x y t. unread_clean way (g.met.R.PageReader.refuses setting) c.args.name.now x y (omega (arith, t.taken))) c.in_default.ensures.told

pub loop-taken-init : goal.loop-taken-init
loop-taken-init g c = record {
  piece = c.requires.room;
  most = omega arith;
  so_far = λ setting s. record {
    bytes = [];
    size = refl;
    at = s;
    read = moves_weaker (HasRead c.args.name.now []) (λ x y t. read_start c.args.name.now [] x y refl t) c.in-Ok.ensures.told;
  };
  later = c.in-Ok.ensures.later;
  same = c.in-Ok.ensures.steady;
}

pub returns-in-Ok-eq0-clause-gives : goal.returns-in-Ok-eq0-clause-gives
returns-in-Ok-eq0-clause-gives g c setting first =
    let s = c.loop-taken.invariant.so_far setting first in
    let small : length c.deref_mut.result.now ≤ largest_piece = omega (arith, c.deref_mut.ensures.len, c.loop-taken.invariant.piece.1) in
    file_fed (g.R.PageReader.way setting) (g.R.PageReader.stands setting) c.args.name.now c.loop-taken.reader c.feed_next.new.reader c.loop-taken.taken c.in-Ok-eq0.field-0 _ _ _ s
    (c.in-Ok-eq0.ensures.gives setting s.bytes s.at small) c.in-Ok-eq0.field-0-test

pub returns-in-Ok-eq0-clause-takes : goal.returns-in-Ok-eq0-clause-takes
returns-in-Ok-eq0-clause-takes g c =
    let s = c.loop-taken.invariant.so_far c.requires.starts.setting c.requires.starts.at in
    let within : length s.bytes + length c.deref_mut.result.now ≤ page_limit = omega (arith, s.size, c.loop-taken-test.true, c.deref_mut.ensures.len, c.loop-taken.invariant.piece.1) in
    moves_then (TakesOf c.args.name.now page_limit) (λ x y z h t. takes_more c.args.name.now s.bytes page_limit (length c.deref_mut.result.now) x y z h t within) s.read c.in-Ok-eq0.ensures.takes

pub loop-taken-preserved : goal.loop-taken-preserved
loop-taken-preserved g c =
    let small : length c.deref_mut.result.now ≤ largest_piece = omega (arith, c.deref_mut.ensures.len, c.loop-taken.invariant.piece.1) in
    record {
      piece = c.widen.ensures;
      most = omega (arith, c.loop-taken-test.true, c.in-Ok-feed_next.ensures.bound, c.feed_next.auto.piece, c.deref_mut.ensures.len, c.loop-taken.invariant.piece.1);
      so_far = λ setting first.
          let s = c.loop-taken.invariant.so_far setting first in
          more_so_far (g.R.PageReader.way setting) (g.R.PageReader.stands setting) c.args.name.now c.loop-taken.reader c.feed_next.new.reader c.loop-taken.taken c.in-Ok-feed_next.count _ _ _ s
          (c.in-Ok-feed_next.ensures.gives setting s.bytes s.at small);
      later = omega (arith, c.loop-taken.invariant.later, c.in-Ok-feed_next.ensures.later);
      same = c.in-Ok-feed_next.ensures.steady ∙ c.loop-taken.invariant.same;
    }

pub returns-in-Err-clause-gives : goal.returns-in-Err-clause-gives
returns-in-Err-clause-gives g c setting first =
    let s = c.loop-taken.invariant.so_far setting first in
    let small : length c.deref_mut.result.now ≤ largest_piece = omega (arith, c.deref_mut.ensures.len, c.loop-taken.invariant.piece.1) in
    next_found (g.R.PageReader.way setting) (g.R.PageReader.stands setting) c.args.name.now (g.met.R.PageReader.refuses setting) c.loop-taken.reader c.feed_next.new.reader c.loop-taken.taken c.in-Err.error _ _ _ s
    (g.met.R.PageReader.shows setting c.loop-taken.reader s.bytes s.at) (c.in-Err.ensures.gives setting s.bytes s.at small)

pub returns-in-Err-clause-takes : goal.returns-in-Err-clause-takes
returns-in-Err-clause-takes g c =
    let s = c.loop-taken.invariant.so_far c.requires.starts.setting c.requires.starts.at in
    let within : length s.bytes + length c.deref_mut.result.now ≤ page_limit = omega (arith, s.size, c.loop-taken-test.true, c.deref_mut.ensures.len, c.loop-taken.invariant.piece.1) in
    moves_then (TakesOf c.args.name.now page_limit) (λ x y z h t. takes_more c.args.name.now s.bytes page_limit (length c.deref_mut.result.now) x y z h t within) s.read c.in-Err.ensures.takes

pub unreachable-requires : goal.unreachable-requires
unreachable-requires g c =
    let start = c.requires.starts in
    let s = c.loop-taken.invariant.so_far start.setting start.at in
    let most : length s.bytes ≤ standard_limits.page =
    subst (λ (l : Limits). length s.bytes ≤ l.page) start.limits
    (not_longer (g.R.PageReader.way start.setting) s.bytes (g.met.R.PageReader.shows start.setting c.loop-taken.reader s.bytes s.at)) in
    omega (arith, most, s.size, c.loop-taken-test.false)

pub returns-in-Err-clause-failed : goal.returns-in-Err-clause-failed
returns-in-Err-clause-failed g c is = let e : c.in-Err.error ≡ Failed = (cc) in inl (rose_before _ _ _ c.loop-taken.invariant.later (c.in-Err.ensures.failed (ap Err e)))

pub returns-in_default-clause-to_first : goal.returns-in_default-clause-to_first
returns-in_default-clause-to_first g c setting first =
    let way = g.R.PageReader.way setting in
    moves_weaker (TakesToFirst way c.args.name.now) (λ x y s. unread_first way c.args.name.now x y (omega (arith, s.taken))) c.in_default.ensures.told

pub returns-in-Ok-eq0-clause-to_first : goal.returns-in-Ok-eq0-clause-to_first
returns-in-Ok-eq0-clause-to_first g c setting first =
    let way = g.R.PageReader.way setting in
    let s = c.loop-taken.invariant.so_far setting first in
    let shown = g.met.R.PageReader.shows setting c.loop-taken.reader s.bytes s.at in
    let small : length c.deref_mut.result.now ≤ largest_piece = omega (arith, c.deref_mut.ensures.len, c.loop-taken.invariant.piece.1) in
    moves_then (TakesToFirst way c.args.name.now)
    (λ x y z h t. to_first way (g.met.R.PageReader.refuses setting) c.args.name.now s.bytes (length c.deref_mut.result.now) x y z shown h t small) s.read c.in-Ok-eq0.ensures.takes

pub returns-in-Err-clause-to_first : goal.returns-in-Err-clause-to_first
returns-in-Err-clause-to_first g c setting first =
    let way = g.R.PageReader.way setting in
    let s = c.loop-taken.invariant.so_far setting first in
    let shown = g.met.R.PageReader.shows setting c.loop-taken.reader s.bytes s.at in
    let small : length c.deref_mut.result.now ≤ largest_piece = omega (arith, c.deref_mut.ensures.len, c.loop-taken.invariant.piece.1) in
    moves_then (TakesToFirst way c.args.name.now)
    (λ x y z h t. to_first way (g.met.R.PageReader.refuses setting) c.args.name.now s.bytes (length c.deref_mut.result.now) x y z shown h t small) s.read c.in-Err.ensures.takes
