-- What slots tell.
use Rattle.rx_model.proofs.Common.{◌≡◌, ◌∙◌, ℕ, ◌-◌, ◌<◌, Bool, true, false, nat_eq, List, length, get_or, slice_set, Option, Some, None, refl, sym, ap, ap₂, subst, true≢false, arith, bit_and, if◌then◌else◌, pointwise, nat_tests, get_or-set_other, length-set, get_or-set_same, get_or_default, by_test, exact_texts, false_unless, Bor, Chars}
use Rattle.rx_turtle.specs.declared.slots.Slot.{Slot}
use Rattle.rx_turtle.specs.declared.slots.Slot.TheVariants.{Free, One, Many}
use Rattle.rx_turtle.specs.Slots.{iri_hash, text_slot, told_by, told_place, with_iri, IsSo, SlotsTell}
use Rattle.rx_turtle.specs.declared.known.Entry.{Entry}
use Rattle.rx_turtle.specs.declared.known.Entry.TheVariants.{Empty, Kept}
use Rattle.rx_turtle.specs.Known.{place_kept, IsEntry, AreEntries}
use Rattle.rx_turtle.proofs.Common.{replicate, is_name_char}
use Rattle.rx_shapes.proofs.ReachedLemmas.{none_start}

pub so_also : (told_place : Option (Option ℕ)) (a b : Option ℕ) → a ≡ b → IsSo told_place a → IsSo told_place b
so_also None a b e h = h
so_also (Some x) a b e h = h ∙ e

-- what a slot tells of the bytes with the IRI in it
told_with : (slot : Slot) (iri : Bor (List ℕ)) (place : ℕ) (bytes : List ℕ) (o : Option ℕ) → IsSo (told_by slot bytes) o
    → IsSo (told_by (with_iri slot iri place) bytes) (if pointwise nat_eq iri.now bytes then Some place else o)
told_with Free iri place bytes o h = ap (λ (z : Option ℕ). if pointwise nat_eq iri.now bytes then Some place else z) h
told_with (One other first) iri place bytes o h = by_test (pointwise nat_eq other.now iri.now)
    (λ e.
    let same : other.now ≡ iri.now = (exact_texts other.now iri.now).0 e in
    rw e (by_test (pointwise nat_eq iri.now bytes) (λ f. rw f refl) (λ f. rw f (sym (ap (λ (b : Bool). if b then Some first else None) (ap (λ z. pointwise nat_eq z bytes) same ∙ f)) ∙ h))))
    (λ e. rw e tt)
told_with Many iri place bytes o h = tt

pub nat_is : (a b : ℕ) → nat_eq a b ≡ true → a ≡ b
nat_is a b h = grind (arith, nat_tests)

pub nat_is_not : (a b : ℕ) → nat_eq a b ≡ false → a ≡ b → ⊥
nat_is_not a b h e = let same : nat_eq a b ≡ true = grind (arith, nat_tests, e) in true≢false (sym same ∙ h)

pub tells_put : (old new : List Slot) (at : ℕ) (slot : Slot) (iri : Bor (List ℕ)) (place : ℕ) → at ≡ text_slot old iri.now → at < length old → slot ≡ get_or old at slot → new ≡ slice_set old at (with_iri slot iri place)
    → (found : List ℕ → Option ℕ) → SlotsTell old found → SlotsTell new (λ bytes. if pointwise nat_eq iri.now bytes then Some place else found bytes)
tells_put old new at slot iri place is within read e found h = record { each = λ bytes. go bytes (nat_eq (text_slot old bytes) at) refl }
  where
    after : List ℕ → Option ℕ
    after bytes = if pointwise nat_eq iri.now bytes then Some place else found bytes

    at_new : (bytes : List ℕ) → told_place new bytes ≡ told_by (get_or (slice_set old at (with_iri slot iri place)) (text_slot old bytes) Many) bytes
    at_new bytes = ap₂ (λ (z : List Slot) (n : ℕ). told_by (get_or z (bit_and (iri_hash bytes) (n - 1)) Many) bytes) e (ap length e ∙ length-set old at (with_iri slot iri place))

    there : (bytes : List ℕ) → text_slot old bytes ≡ at → told_place old bytes ≡ told_by slot bytes
    there bytes k = ap (λ (s : Slot). told_by s bytes) (ap (λ n. get_or old n Many) k ∙ get_or_default old at Many slot within ∙ sym read)

    other : (bytes : List ℕ) → (text_slot old bytes ≡ at → ⊥) → pointwise nat_eq iri.now bytes ≡ false
    other bytes apart = false_unless (pointwise nat_eq iri.now bytes) (λ k. apart (ap (text_slot old) (sym ((exact_texts iri.now bytes).0 k)) ∙ sym is))

    go : (bytes : List ℕ) (b : Bool) → nat_eq (text_slot old bytes) at ≡ b → IsSo (told_place new bytes) (after bytes)
    go bytes true k =
        let here : text_slot old bytes ≡ at = nat_is (text_slot old bytes) at k in
        subst (λ (z : Option (Option ℕ)). IsSo z (after bytes))
        (sym (at_new bytes ∙ ap (λ (s : Slot). told_by s bytes) (ap (λ n. get_or (slice_set old at (with_iri slot iri place)) n Many) here ∙ get_or-set_same old at (with_iri slot iri place) Many within)))
        (told_with slot iri place bytes (found bytes) (subst (λ (z : Option (Option ℕ)). IsSo z (found bytes)) (there bytes here) (h.each bytes)))
    go bytes false k =
        let apart : text_slot old bytes ≡ at → ⊥ = nat_is_not (text_slot old bytes) at k in
        subst (λ (z : Option (Option ℕ)). IsSo z (after bytes))
        (sym (at_new bytes ∙ ap (λ (s : Slot). told_by s bytes) (get_or-set_other old at (text_slot old bytes) (with_iri slot iri place) Many apart)))
        (so_also (told_place old bytes) (found bytes) (after bytes) (sym (ap (λ (b : Bool). if b then Some place else found bytes) (other bytes apart))) (h.each bytes))

-- ---- what is known of the IRIs of a text

entry_so : (found : Chars → Option ℕ) (entry : Entry) (iri : Chars) → IsEntry found entry → IsSo (place_kept entry iri) (found iri)
entry_so found Empty iri h = tt
entry_so found (Kept hash kept place) iri h = by_test (pointwise nat_eq kept.now iri) (λ e. rw e (h ∙ ap found ((exact_texts kept.now iri).0 e))) (λ e. rw e tt)

-- an entry that is read
pub entry_at : (found : Chars → Option ℕ) (entries : List Entry) (at : ℕ) (entry : Entry) → at < length entries → entry ≡ get_or entries at entry → AreEntries found entries → IsEntry found entry
entry_at found entries at entry within read h = subst (IsEntry found) (get_or_default entries at Empty entry within ∙ sym read) (h.each at)

pub told_so : (found : Chars → Option ℕ) (entries : List Entry) (at : ℕ) (entry : Entry) (iri : Chars) (told_place : Option (Option ℕ)) → at < length entries → entry ≡ get_or entries at entry → told_place ≡ place_kept entry iri
    → AreEntries found entries → IsSo told_place (found iri)
told_so found entries at entry iri told_place within read is h = subst (λ (z : Option (Option ℕ)). IsSo z (found iri)) (sym is) (entry_so found entry iri (entry_at found entries at entry within read h))

-- one more is put in
pub entries_put : (found : Chars → Option ℕ) (old new : List Entry) (at : ℕ) (entry : Entry) → at < length old → new ≡ slice_set old at entry → IsEntry found entry → AreEntries found old → AreEntries found new
entries_put found old new at entry within e is h = record {
  each = λ i. subst (λ (z : List Entry). IsEntry found (get_or z i Empty)) (sym e)
      (by_test (nat_eq i at)
      (λ k. subst (IsEntry found) (sym (ap (λ n. get_or (slice_set old at entry) n Empty) (nat_is i at k) ∙ get_or-set_same old at entry Empty within)) is)
      (λ k. subst (IsEntry found) (sym (get_or-set_other old at i entry Empty (nat_is_not i at k))) (h.each i)));
}

-- marks of bytes
pub no_names : (n : ℕ) (byte : ℕ) → get_or (replicate n false) byte false ≡ true → is_name_char byte ≡ true
no_names n byte h = absurd (true≢false (sym h ∙ none_start n byte))
