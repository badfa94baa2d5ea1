use Rattle.rx_refs.proofs.ByteLemmas.{site-is}
use Rattle.rx_refs.proofs.plain.site_of.Goals as goal

pub returns-clause-site : goal.returns-clause-site
returns-clause-site c =
    site-is c.args.base.now c.behind-rest.result.now c.behind-host.result.now c.scheme_length-colon.result c.authority_length-count.result c.behind-rest.ensures c.behind-host.ensures
    c.scheme_length-colon.ensures.fits c.scheme_length-colon.ensures.front c.if-rest-lt4.false c.if-rest-ne58.false c.if-rest-ne47.false c.if-rest-ne47-2.false c.authority_length-count.ensures.front
    c.if-count-host.false c.if-host-count-ne47.false
