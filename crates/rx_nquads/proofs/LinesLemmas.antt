-- Lines in memory: what is kept, and what waits.
use Rattle.std.proofs.Common.{◌≡◌, ◌∙◌, ℕ, Bool, false, List, [], ◌++◌, Some, refl, sym, ap, subst, append_assoc, append-nil, arith}
use Rattle.rx_pieces.specs.Underway.{Underway, delivery, SentBut, IsHandedOver, AddsBytes}
use Rattle.rx_nquads.specs.Lines.{WrittenLines, written_lines}

-- lines of these bytes, whose sink did or did not fail
abbrev lines_now : List ℕ → Bool → WrittenLines
lines_now bytes failed = record { bytes = bytes; out_of_memory = failed }

module _ (u v : Underway) (held kept : List ℕ) (f g : ℕ) (bytes : List ℕ) where
  begun : u.failed ≡ false → IsHandedOver (Some held) f u.waiting (delivery u (Some held) f)
  begun fine = record {
    told = record { same = refl; taken = λ before after e d. let is : after ≡ before = cc in subst (λ (b : Bool). SentBut b u.waiting u.waiting before after) (sym fine) ([], is ∙ sym (append-nil before), refl) };
    later = omega arith;
    steady = λ still. refl;
    cause = λ failed. absurd (cc);
  }

  joined : SentBut false v.waiting (u.waiting ++ bytes) held kept → kept ++ v.waiting ≡ (held ++ u.waiting) ++ bytes
  joined (sent, e, d) = ap (λ z. z ++ v.waiting) e ∙ append_assoc held sent v.waiting ∙ ap (λ z. held ++ z) (sym d) ∙ sym (append_assoc held u.waiting bytes)

  -- bytes more, where the memory lasted
  pub grown : u.failed ≡ false → v.failed ≡ false → AddsBytes (delivery u (Some held) f) (delivery v (Some kept) g) bytes → kept ++ v.waiting ≡ (held ++ u.waiting) ++ bytes
  grown fine still h =
      let end : IsHandedOver (Some held) f (u.waiting ++ bytes) (delivery v (Some kept) g) = h.stands (Some held) f u.waiting (begun fine) in
      joined (subst (λ (b : Bool). SentBut b v.waiting (u.waiting ++ bytes) held kept) still (end.told.taken held kept refl refl))

  -- the same of the lines, as their contracts see them
  pub lines_grown : u.failed ≡ false → v.failed ≡ false → AddsBytes (delivery u (Some held) f) (delivery v (Some kept) g) bytes
      → lines_now (kept ++ v.waiting) v.failed ≡ written_lines ((held ++ u.waiting) ++ bytes)
  lines_grown fine still h = rw (grown fine still h, still) refl
