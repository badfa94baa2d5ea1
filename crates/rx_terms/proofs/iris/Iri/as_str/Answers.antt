use Rattle.rx_terms.proofs.Common.{◌∙◌, sym, ap, string_bytes, encodes-chars}
use Rattle.std.specs.Str.{chars, encode_utf8_all}
use Rattle.rx_terms.proofs.iris.Iri.as_str.Goals as goal

pub returns-clause-bytes : goal.returns-clause-bytes
returns-clause-bytes c =
    sym (encodes-chars c.as_str.result.now c.as_str.utf8) ∙ ap encode_utf8_all (ap chars c.as_str.ensures.value ∙ ap (λ kept. chars (string_bytes kept.text)) c.as_ref.ensures ∙ c.self.view_is)
