use Rattle.rx_scan.proofs.Common.{◌∙◌, ap, take, ◌==◌, Pending}
use Rattle.rx_scan.proofs.FrontLemmas.{front_within, one_kept, one_text, plain_one, text_sum}
use Rattle.rx_scan.proofs.readers.Reader.say_text.Goals as goal

pub say_more-more-requires-clause-between : goal.say_more-more-requires-clause-between
say_more-more-requires-clause-between c =
    let l = c.say_front-count.new.self in
    let n = c.say_front-count.result in
    let front = take n c.args.bytes.now in
    ap (λ (x : Pending). x.mark) (one_kept c.args.self.now l front n (plain_one (n == 0) c.args.self.now l front c.say_front-count.ensures.says)) ∙ c.requires.between

pub returns-then-not-may_go_on-clause-says : goal.returns-then-not-may_go_on-clause-says
returns-then-not-may_go_on-clause-says c =
    let l = c.say_front-count.new.self in
    let n = c.say_front-count.result in
    let bytes = c.args.bytes.now in
    one_text c.args.self.now l bytes n c.say_front-count.ensures.fits (plain_one (n == 0) c.args.self.now l (take n bytes) c.say_front-count.ensures.says)

pub returns-clause-fits : goal.returns-clause-fits
returns-clause-fits c = front_within c.args.bytes.now c.say_front-count.result c.say_more-more.result c.say_front-count.ensures.fits c.say_more-more.ensures.fits

pub returns-clause-says : goal.returns-clause-says
returns-clause-says c =
    let old = c.args.self.now in
    let l = c.say_front-count.new.self in
    let n = c.say_front-count.result in
    let bytes = c.args.bytes.now in
    text_sum old l c.say_more-more.new.self bytes n c.say_more-more.result
    (one_text old l bytes n c.say_front-count.ensures.fits (plain_one (n == 0) old l (take n bytes) c.say_front-count.ensures.says)) c.say_more-more.ensures.says
