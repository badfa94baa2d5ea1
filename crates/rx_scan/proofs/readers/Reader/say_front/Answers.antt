use Rattle.rx_scan.proofs.Common.{length, subst, sym, ◌+◌, ◌<◌, ◌^◌, Reading, some_count}
use Rattle.rx_scan.proofs.readers.Reader.say_front.Goals as goal

pub said-self-inside-requires : goal.said-self-inside-requires
said-self-inside-requires c =
    let n = length c.front-text.result.now in
    subst (λ (v : Reading). v.place.at + n < 2 ^ 64) (sym c.self.view_is) (c.front-text.ensures.place (some_count n c.if-count-eq0.false))
