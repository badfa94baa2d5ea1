-- The number of a text.
use Rattle.std.proofs.Common.{◌≡◌, ◌∙◌, ℕ, List, ap, sym, IsUtf8}
use Rattle.rx_terms.proofs.Common.{chars, encodes-chars}
use Rattle.std.specs.Hash.DefaultHasher as sip
use Rattle.std.specs.declared.hash.DefaultHasher.{DefaultHasher}
use Rattle.rx_terms.specs.Iri.{number_of}

-- all bytes were written at once
pub all-bytes : (text : List ℕ) (s : DefaultHasher) → IsUtf8 text → s ≡ sip.write sip.initial text → sip.finish s ≡ number_of (chars text)
unfolding number_of
all-bytes text s u e = ap sip.finish (e ∙ ap (sip.write sip.initial) (sym (encodes-chars text u)))
