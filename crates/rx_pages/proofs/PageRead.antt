-- The reader of bytes reads each page.
use Rattle.rx_pages.proofs.Words.{◌≡◌, ◌∙◌, ℕ, List, [], ◌++◌, refl, sym, ap, subst, length, append-nil, Ok, Err, true, false, if◌then◌else◌, Syntax, IsRead, Tree, Item, Page, has_no_nul, Phase, after, Unended, Limits, IsAt, told_trees, Progress, no_progress, page_on, page_read, page_ended, is_over, fault_in, PageIsRead}
use Rattle.rx_pages.proofs.FrontRead.{front_is_read}
use Rattle.rx_pages.proofs.Below.{TellsTree, document_tells, progress_at, stood, flags_behind}

-- A page is read to its end, and what its tokens tell on the way is told.
pub record PageTold (syntax : Syntax) (limits : Limits) (bytes : List ℕ) (items : List Item) (tree : Tree) : Type 0 where
  pub tells : TellsTree syntax limits.depth (IsAt [] after) items tree
  pub final : Progress
  pub is_read : page_ended (page_read syntax limits bytes) ≡ Ok final
  pub told_is : final.told ≡ tells.events

pub page_is_told : (syntax : Syntax) (limits : Limits) (bytes : List ℕ) (tree : Tree) (page : Page syntax limits bytes tree) → PageTold syntax limits bytes page.items tree
page_is_told syntax limits bytes tree page =
    let d = document_tells syntax limits.depth (IsAt [] after) (λ k h. record { line_is = h.line_is; phase_is = h.phase_is }) (record { line_is = refl; phase_is = refl }) page.items tree page.document in
    let all : page.entries ++ [] ≡ page.entries = append-nil page.entries in
    let r =
    front_is_read syntax limits bytes (IsAt [] after) page.entries [] page.items d.events (subst (λ es. IsRead bytes es) (sym all) page.read) (subst (λ es. has_no_nul es ≡ true) (sym all) page.no_nul)
    page.spelled page.fit page.sections d.going page.size (λ m p. tt) (λ m p k. absurd (cc)) in
    let final : Progress = progress_at (length bytes) [] r.started r.after_return (stood r.place d.events (flags_behind page.items false false).0 (flags_behind page.items false false).1 []) in
    let read : page_read syntax limits bytes ≡ Ok final = ap (λ b. page_on syntax limits (Ok no_progress) b) (sym (append-nil bytes)) ∙ r.is_read [] in
    record {
      tells = d;
      final = final;
      is_read = ap page_ended read ∙ ap (λ (p : Phase). if is_over p then Ok final else Err (fault_in final.now.scan Unended)) r.is_meant.phase_is;
      told_is = refl;
    }

pub page_is_read : (syntax : Syntax) (limits : Limits) (bytes : List ℕ) (tree : Tree) → Page syntax limits bytes tree → PageIsRead syntax limits bytes tree
page_is_read syntax limits bytes tree page =
    let p = page_is_told syntax limits bytes tree page in
    record { final = p.final; is_read = p.is_read; trees = ap told_trees p.told_is ∙ p.tells.tree_is }
