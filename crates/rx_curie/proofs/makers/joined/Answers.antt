use Rattle.rx_rdfa.proofs.Common.{◌≡◌, ◌∙◌, ◌++◌, ap, string_bytes, chars, chars-nil, ok_is, cleaned}
use Rattle.rx_curie.proofs.MadeLemmas.{text-iri, two-pieces, scheme-more}
use Rattle.rx_curie.proofs.makers.joined.Goals as goal
use Rattle.rx_curie.proofs.makers.joined.Goals.{In_ok-push_clean-2}

whole : (c : In_ok-push_clean-2) → chars (string_bytes c.push_clean-2.new.out) ≡ cleaned (chars c.args.iri.now ++ chars c.args.more.now)
whole c =
    two-pieces (chars (string_bytes c.in_ok-text.text)) (chars (string_bytes c.push_clean.new.out)) (chars (string_bytes c.push_clean-2.new.out)) (chars c.args.iri.now) (chars c.args.more.now)
    (ap chars c.in_ok-text.ensures.bytes ∙ chars-nil) c.in_ok-push_clean.ensures.ok c.in_ok-push_clean-2.ensures.ok

pub of_string-requires : goal.of_string-requires
of_string-requires c =
    let iri = chars c.args.iri.now in
    let more = chars c.args.more.now in
    text-iri (iri ++ more) (chars (string_bytes c.push_clean-2.new.out)) (scheme-more iri more c.requires) (whole c)

pub returns : goal.returns
returns c = ok_is c.of_string.result (whole (goal.at.returns c).In_ok-push_clean-2) c.of_string.ensures
