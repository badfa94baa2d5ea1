-- The reader of bytes reads pages alone to their ends, and finds faults of the grammar alone.
use Rattle.rx_pages.proofs.Words.{◌≡◌, ◌∙◌, ⊎_elim, ℕ, ◌+◌, List, ◌++◌, sym, ap, subst, length, Ok, Err, take, Syntax, FaultAt, Fault, Limits, told_trees, take-append_seam, Progress, page_read, page_ended, IsPageRead, ReadsOnlyPages, FindsOnlyFaults, FaultsStay}
use Rattle.rx_pages.proofs.PageRead.{page_is_read}
use Rattle.rx_pages.proofs.FaultsRead.{fault_is_read}
use Rattle.rx_pages.proofs.OneOf.{ok_is, error_is, neither, not_both, one_fault}
use Rattle.rx_pages.proofs.BytesOn.{Reads, through, up_to, reads, page_ends, each_bytes}

module _ (syntax : Syntax) (limits : Limits) (bytes : List ℕ) where
  pub read_page : (final : Progress) → page_ended (page_read syntax limits bytes) ≡ Ok final → IsPageRead syntax limits bytes final
  read_page final h =
      ⊎_elim (λ p. let r = page_is_read syntax limits bytes p.0 p.1 in record { tree = p.0; page = p.1; trees = ap (λ (x : Progress). told_trees x.told) (ok_is final r.final _ h r.is_read) ∙ r.trees })
      (λ f. absurd (neither final f.0 _ h (fault_is_read syntax limits bytes f.0 f.1))) (each_bytes syntax limits bytes)

  pub found_fault : (fault : Fault) → page_ended (page_read syntax limits bytes) ≡ Err fault → FaultAt syntax limits bytes fault
  found_fault fault h =
      ⊎_elim (λ p. let r = page_is_read syntax limits bytes p.0 p.1 in absurd (neither r.final fault _ r.is_read h))
      (λ f. subst (λ x. FaultAt syntax limits bytes x) (error_is f.0 fault _ (fault_is_read syntax limits bytes f.0 f.1) h) f.1) (each_bytes syntax limits bytes)

pub reads_only_pages : ReadsOnlyPages
reads_only_pages syntax limits bytes final h = read_page syntax limits bytes final h

pub finds_only_faults : FindsOnlyFaults
finds_only_faults syntax limits bytes fault h = found_fault syntax limits bytes fault h

-- a fault that no end of the page decides stays, whatever follows its byte
pub faults_stay : FaultsStay
faults_stay syntax limits bytes fault f n rest = by (reads syntax limits bytes)
  where
    by : Reads syntax limits bytes → FaultAt syntax limits (take (fault.at + 1) bytes ++ rest) fault
    by (through b) = ⊎_elim (λ p. absurd (not_both syntax limits bytes p.0 fault p.1 f)) (λ u. absurd (n (ap (λ (x : Fault). x.kind) (one_fault syntax limits bytes fault u.fault f u.is) ∙ u.is_unended))) (page_ends syntax limits bytes b)
    by (up_to front more e g) =
        let at : FaultAt syntax limits bytes g.fault = subst (λ x. FaultAt syntax limits x g.fault) (sym e) (g.stays more) in
        let same : g.fault ≡ fault = one_fault syntax limits bytes g.fault fault at f in
        let last : fault.at + 1 ≡ length front = ap (λ (x : Fault). x.at + 1) (sym same) ∙ g.at_last in
        let is : front ≡ take (fault.at + 1) bytes = sym (ap (λ x. take (fault.at + 1) x) e ∙ (ap (λ n. take n (front ++ more)) last ∙ take-append_seam front more)) in
        subst (λ x. FaultAt syntax limits (x ++ rest) fault) is (subst (λ x. FaultAt syntax limits (front ++ rest) x) same (g.stays rest))
