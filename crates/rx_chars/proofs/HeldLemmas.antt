-- What no more bytes can follow, and what a decoder that has met a bad byte answers.
use Rattle.std.proofs.Common.{◌≡◌, ℕ, true, [], ◌∷◌, ◌++◌, sym, ap, ◌∙◌}
use Rattle.std.proofs.lemmas.Bool.{false≢true}
use Rattle.rx_chars.specs.Utf8.{begins_sequence, answer_of}
use Rattle.rx_chars.specs.Held.{held_bytes}
use Rattle.rx_chars.specs.declared.utf8.Held.{Held}
use Rattle.rx_chars.specs.declared.utf8.Held.TheVariants.{Three, Broken}
use Rattle.rx_chars.specs.declared.utf8.Utf8Step.TheVariants.{Bad}
use Rattle.rx_chars.proofs.Utf8Rows.{begun_more}

pub no_fourth : (held : Held) (a b c byte : ℕ) → held ≡ Three a b c → begins_sequence (held_bytes held ++ byte ∷ []) ≡ true → ⊥
no_fourth held a b c byte is begun =
    false≢true (sym (begun_more a b c byte []) ∙ (sym (ap (λ h. begins_sequence (held_bytes h ++ byte ∷ [])) is) ∙ begun))

pub none_broken : (held : Held) (byte : ℕ) → held ≡ Broken → begins_sequence (held_bytes held ++ byte ∷ []) ≡ true → ⊥
none_broken held byte is begun = false≢true (sym (ap (λ h. begins_sequence (held_bytes h ++ byte ∷ [])) is) ∙ begun)

pub answer-broken : (held : Held) (byte : ℕ) → held ≡ Broken → Bad ≡ answer_of (held_bytes held ++ byte ∷ [])
answer-broken held byte is = sym (ap (λ h. answer_of (held_bytes h ++ byte ∷ [])) is)
