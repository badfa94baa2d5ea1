use Rattle.rx_refs.proofs.Common.{◌∙◌, ◌++◌, sym, ap, string_bytes, chars, chars-append, IsUtf8-string_bytes, Chars}
use Rattle.rx_refs.proofs.SchemeLemmas.{uncleaned}
use Rattle.rx_refs.proofs.escapes.push_clean.Goals as goal

pub returns-clause-ok : goal.returns-clause-ok
returns-clause-ok c =
    let out = string_bytes c.args.out.now in
    let none = sym (sym c.if-has_forbidden.false ∙ c.has_forbidden.ensures) in
    ap chars c.in_ok-push_str.ensures.bytes ∙ chars-append out c.args.text.now (IsUtf8-string_bytes c.args.out.now)
    ∙ ap (λ (x : Chars). chars out ++ x) (sym (uncleaned (chars c.args.text.now) none))
