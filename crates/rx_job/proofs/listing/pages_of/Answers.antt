use Rattle.std.proofs.Common.{◌∙◌, sym, subst, List}
use Rattle.rx_job.specs.Words.{Listed}
use Rattle.rx_job.proofs.ListingLemmas.{Lists, none_yet, one_more, fails, all_listed, one_left}
use Rattle.rx_job.proofs.listing.pages_of.Goals as goal

pub loop-address-init : goal.loop-address-init
loop-address-init c = subst (λ (pages : List Listed). Lists c.args.words.now c.args.words.now pages) (sym c.new-pages.ensures) (none_yet c.args.words.now)

pub returns-in-Err : goal.returns-in-Err
returns-in-Err c = fails c.args.words.now c.loop-address.left.now c.in-Some.rest.now c.loop-address.pages c.in-Some.address.now c.in-Some.page.now c.loop-address.invariant c.in-Some.ensures c.in-Err.error c.in-Err.ensures

pub loop-address-preserved : goal.loop-address-preserved
loop-address-preserved c =
    subst (λ (pages : List Listed). Lists c.args.words.now c.in-Some.rest.now pages) (sym c.in-Ok.ensures.1)
    (one_more c.args.words.now c.loop-address.left.now c.in-Some.rest.now c.loop-address.pages c.in-Some.address.now c.in-Some.page.now c.loop-address.invariant c.in-Some.ensures c.in-Ok.ensures.0)

pub returns-then-not-is_empty : goal.returns-then-not-is_empty
returns-then-not-is_empty c = one_left c.args.words.now c.loop-address.left.now c.loop-address.pages c.loop-address.invariant c.in_default.ensures (sym c.is_empty.ensures ∙ c.if-not-is_empty.true)

pub returns : goal.returns
returns c = all_listed c.args.words.now c.loop-address.left.now c.loop-address.pages c.loop-address.invariant (sym c.is_empty.ensures ∙ c.if-not-is_empty.false)
