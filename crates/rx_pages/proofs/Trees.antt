-- A byte list has at most one tree, since the reader is a function.
use Rattle.rx_pages.proofs.Words.{◌≡◌, ◌∙◌, [], ◌∷◌, ap, sym, Ok, OneTree, told_trees, Progress}
use Rattle.rx_pages.proofs.PageRead.{page_is_read}

pub one_tree : OneTree
one_tree syntax limits bytes a b p q =
    let r = page_is_read syntax limits bytes a p in
    let s = page_is_read syntax limits bytes b q in
    let read : Ok r.final ≡ Ok s.final = sym r.is_read ∙ s.is_read in
    let same : r.final ≡ s.final = cc in
    let trees : a ∷ [] ≡ b ∷ [] = sym r.trees ∙ (ap (λ (now : Progress). told_trees now.told) same ∙ s.trees) in
    cc
