use Rattle.rx_refs.proofs.Common.{arith, take, length, ap, length-take, ups}
use Rattle.rx_refs.proofs.UpLemmas.{up-next}
use Rattle.rx_refs.proofs.plain.up_place.Goals as goal

pub loop-more-preserved : goal.loop-more-preserved
loop-more-preserved c =
    record {
      fits = omega (arith, c.last_slash-here.ensures.fits, ap length c.front.ensures, length-take c.loop-more.here c.args.path.now);
      same = up-next c.args.path.now c.front.result.now c.loop-more.here c.last_slash-here.result c.loop-more.more c.args.count (ups c.args.count (take c.args.place c.args.path.now)) c.loop-more-test.true
          c.loop-more.invariant.fits c.front.ensures c.last_slash-here.ensures.exact c.last_slash-here.ensures.fits c.loop-more.invariant.same;
    }
