use Rattle.rx_refs.proofs.Common.{◌≡◌, ◌∙◌, ◌++◌, sym, ap, string_bytes, chars, Chars, append_assoc, through_last_slash}
use Rattle.rx_refs.proofs.DotLemmas.{written, takes-both}
use Rattle.rx_refs.proofs.dots.push_merged_path.Goals as goal

pub returns : goal.returns
returns c =
    let base : Chars = through_last_slash (chars c.args.base.now) in
    let path : Chars = through_last_slash (chars c.args.path.now) in
    let last : Chars = chars c.in_ok-last.last.now in
    let whole : base ++ chars c.args.path.now ≡ (base ++ path) ++ last = ap (λ (x : Chars). base ++ x) c.in_ok-last.ensures.rest ∙ sym (append_assoc base path last) in
    c.into_text.ensures
    ∙ written (chars (string_bytes c.args.text)) c.behind-grown.result c.push_closed-2.new.self c.push_last.new.self (base ++ chars c.args.path.now) (base ++ path) last
    c.behind-grown.ensures (takes-both c.behind-grown.result c.push_closed.new.self c.push_closed-2.new.self base path c.in_ok-_left_out.ensures.takes c.in_ok-last.ensures.takes)
    whole c.in_ok-last.ensures.last c.in_ok-push_last.ensures
