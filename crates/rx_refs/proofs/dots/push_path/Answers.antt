use Rattle.rx_refs.proofs.Common.{◌∙◌, string_bytes, chars, through_last_slash}
use Rattle.rx_refs.proofs.DotLemmas.{written}
use Rattle.rx_refs.proofs.dots.push_path.Goals as goal

pub returns : goal.returns
returns c =
    c.into_text.ensures
    ∙ written (chars (string_bytes c.args.text)) c.behind-grown.result c.push_closed.new.self c.push_last.new.self (chars c.args.path.now) (through_last_slash (chars c.args.path.now)) (chars c.in_ok-last.last.now)
    c.behind-grown.ensures c.in_ok-last.ensures.takes c.in_ok-last.ensures.rest c.in_ok-last.ensures.last c.in_ok-push_last.ensures
