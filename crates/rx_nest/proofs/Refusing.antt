-- Where a fault lies that is one of a start tag, and which signs leave a page accepted.
use Rattle.rx_nest.proofs.Common.{◌≡◌, ◌∙◌, append_assoc, append-nil, ap, sym, ℕ, ◌≤◌, List, [], ◌∷◌, ◌++◌, refl, Option, Some, None, ⊎_elim, arith, Fault, Event, Sign, begun, said, finished, Sight, sees, Lie, IsAtTag, IsAtOne, IsRefusal, inl, inr, ◌⊎◌, length, nothing_seen, ShowsMore, Syntax, Limits, Progress}
use Rattle.rx_nest.proofs.TokenPlacing.{AllBegin, AllBegun, all_add}

pub at_from : (from to : ℕ) (signs : List Sign) (fault : Fault) → Lie from to signs → IsAtOne fault signs → from ≤ fault.at
at_from from to [] fault h o = absurd o
at_from from to (begun t ∷ signs) fault h o = ⊎_elim (λ (i : IsAtTag fault t). omega (arith, i.at, h.0)) (λ (o : IsAtOne fault signs). at_from from to signs fault h.2 o) o
at_from from to (said c ∷ signs) fault h o = at_from from to signs fault h o
at_from from to (finished ∷ signs) fault h o = at_from from to signs fault h o

module _ (refused : List Sign → Option Fault) (law : IsRefusal refused) where
  -- signs without start tags
  none_more : (signs more : List Sign) → ((fault : Fault) → IsAtOne fault more → ⊥) → refused signs ≡ None → refused (signs ++ more) ≡ None
  none_more signs more none h = by (refused (signs ++ more)) refl
    where
      by : (x : Option Fault) → refused (signs ++ more) ≡ x → x ≡ None
      by None k = refl
      by (Some fault) k = absurd (none fault (law.lies signs more fault h k))

  pub bare_more : (signs more : List Sign) → AllBegun (λ t. t.attributes ≡ []) more → refused signs ≡ None → refused (signs ++ more) ≡ None
  bare_more signs [] b h = ap refused (append-nil signs) ∙ h
  bare_more signs (begun t ∷ more) b h = ap refused (sym (append_assoc signs (begun t ∷ []) more)) ∙ bare_more (signs ++ begun t ∷ []) more b.1 (law.bare signs t b.0 h)
  bare_more signs (said c ∷ more) b h = ap refused (sym (append_assoc signs (said c ∷ []) more)) ∙ bare_more (signs ++ said c ∷ []) more b.1 (none_more signs (said c ∷ []) (λ fault o. o) h)
  bare_more signs (finished ∷ more) b h = ap refused (sym (append_assoc signs (finished ∷ []) more)) ∙ bare_more (signs ++ finished ∷ []) more b.1 (none_more signs (finished ∷ []) (λ fault o. o) h)

  -- elements without attributes aren't refused
  pub bare_accepted : (events : List Event) (sight : Sight) → AllBegin (λ t. t.attributes ≡ []) events → refused sight.signs ≡ None → refused (sees sight events).signs ≡ None
  bare_accepted events sight b h =
      let seen = all_add (λ t. t.attributes ≡ []) events sight b in
      ap refused seen.are ∙ bare_more sight.signs seen.signs seen.begun_so h

-- a fault that is shown of more bytes was shown before, or lies behind these
pub refused_where : {syntax : Syntax} {limits : Limits} {bytes more : List ℕ} {was now : Progress} (refused : List Sign → Option Fault) (law : IsRefusal refused) (s : ShowsMore syntax limits bytes more was now) (fault : Fault) → refused (sees nothing_seen now.told).signs ≡ Some fault
    → (refused (sees nothing_seen was.told).signs ≡ Some fault) ⊎ ((refused (sees nothing_seen was.told).signs ≡ None) × (length bytes ≤ fault.at))
refused_where {bytes = bytes} {more = more} {was = was} refused law s fault e = by (refused (sees nothing_seen was.told).signs) refl (ap refused (sym s.are) ∙ e)
  where
    by : (x : Option Fault) → refused (sees nothing_seen was.told).signs ≡ x → refused ((sees nothing_seen was.told).signs ++ s.signs) ≡ Some fault
        → (refused (sees nothing_seen was.told).signs ≡ Some fault) ⊎ ((refused (sees nothing_seen was.told).signs ≡ None) × (length bytes ≤ fault.at))
    by (Some other) k w = inl (k ∙ (sym (law.stays (sees nothing_seen was.told).signs s.signs other k) ∙ w))
    by None k w = inr (k, at_from (length bytes) (length (bytes ++ more)) s.signs fault s.lie (law.lies (sees nothing_seen was.told).signs s.signs fault k w))
