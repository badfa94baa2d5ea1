use Rattle.rx_terms.proofs.Common.{◌≡◌, ◌∙◌, sym, ap, refl, Err, true, false, codes, chars, has_scheme, has_forbidden, ascii-chars}
use Rattle.rx_command.specs.Samples.{sample_address}
use Rattle.rx_command.proofs.samples.localhost.Goals as goal

same : chars (codes "http://localhost/") ≡ sample_address
same = ascii-chars (codes "http://localhost/") refl

pub unreachable-requires : goal.unreachable-requires
unreachable-requires c = let none : true ≡ false = sym (ap has_scheme same) ∙ (c.in-Err-NoScheme.ensures.no_scheme).0 (ap Err c.in-Err-NoScheme.field-0-is) in absurd (cc)

pub unreachable-requires-in-Err-Forbidden : goal.unreachable-requires-in-Err-Forbidden
unreachable-requires-in-Err-Forbidden c = let none : false ≡ true = sym (ap has_forbidden same) ∙ ((c.in-Err-Forbidden.ensures.forbidden).0 (ap Err c.in-Err-Forbidden.field-0-is)).1 in absurd (cc)

pub returns-in-Ok : goal.returns-in-Ok
returns-in-Ok c = (c.in-Ok.ensures.ok).0 ∙ same
