use Rattle.rx_refs.proofs.Common.{◌∙◌, sym, ap, chars, Chars, has_scheme, scheme_of, behind_scheme}
use Rattle.rx_refs.proofs.SchemeLemmas.{has_scheme-cut, has_scheme-uncut, scheme-cut, scheme-none}
use Rattle.rx_refs.proofs.parts.split_scheme.Goals as goal

pub returns-in_default-clause-scheme : goal.returns-in_default-clause-scheme
returns-in_default-clause-scheme c = let text : Chars = chars c.args.text.now in sym (scheme-none text (has_scheme-uncut text c.in_default.ensures)).0

pub returns-in_default-clause-rest : goal.returns-in_default-clause-rest
returns-in_default-clause-rest c = let text : Chars = chars c.args.text.now in sym (scheme-none text (has_scheme-uncut text c.in_default.ensures)).1

pub returns-then-not-is_scheme-clause-scheme : goal.returns-then-not-is_scheme-clause-scheme
returns-then-not-is_scheme-clause-scheme c =
    let none = ap has_scheme c.in-Some.ensures.0 ∙ has_scheme-cut (chars c.in-Some.front.now) (chars c.in-Some.rest.now) c.in-Some.ensures.1 ∙ sym c.if-not-is_scheme.ensures in
    sym (scheme-none (chars c.args.text.now) none).0

pub returns-then-not-is_scheme-clause-rest : goal.returns-then-not-is_scheme-clause-rest
returns-then-not-is_scheme-clause-rest c =
    let none = ap has_scheme c.in-Some.ensures.0 ∙ has_scheme-cut (chars c.in-Some.front.now) (chars c.in-Some.rest.now) c.in-Some.ensures.1 ∙ sym c.if-not-is_scheme.ensures in
    sym (scheme-none (chars c.args.text.now) none).1

pub returns-clause-scheme : goal.returns-clause-scheme
returns-clause-scheme c =
    sym (ap scheme_of c.in-Some.ensures.0 ∙ (scheme-cut (chars c.in-Some.front.now) (chars c.in-Some.rest.now) c.in-Some.ensures.1 (sym c.if-not-is_scheme.ensures)).0)

pub returns-clause-rest : goal.returns-clause-rest
returns-clause-rest c =
    sym (ap behind_scheme c.in-Some.ensures.0 ∙ (scheme-cut (chars c.in-Some.front.now) (chars c.in-Some.rest.now) c.in-Some.ensures.1 (sym c.if-not-is_scheme.ensures)).1)
