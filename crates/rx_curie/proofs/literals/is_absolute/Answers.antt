use Rattle.rx_terms.proofs.Common.{◌∙◌, ◌++◌, codes, ap, refl, has_scheme, ascii-chars}
use Rattle.rx_refs.proofs.SchemeLemmas.{has_scheme-cut}
use Rattle.rx_curie.proofs.literals.is_absolute.Goals as goal

pub begins_with-requires : goal.begins_with-requires
begins_with-requires c = λ rest. ap (λ s. has_scheme (s ++ rest)) (ascii-chars (codes "https:") refl) ∙ has_scheme-cut (codes "https") rest refl

pub begins_with-requires-else-begins_with : goal.begins_with-requires-else-begins_with
begins_with-requires-else-begins_with c = λ rest. ap (λ s. has_scheme (s ++ rest)) (ascii-chars (codes "http:") refl) ∙ has_scheme-cut (codes "http") rest refl
