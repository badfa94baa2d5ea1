use Rattle.rx_many.proofs.Common.{ℕ, List, map, subst, sym, chars, DenotesPages, page_seen}
use Rattle.rx_many.specs.declared.pages.Page.{Page}
use Rattle.rx_many.proofs.DatasetLemmas.{denotes_pages}
use Rattle.rx_many.proofs.many.Many.text.Goals as goal

pub returns-clause-denotes : goal.returns-clause-denotes
returns-clause-denotes c =
    rw (← c.self.view_is)
    (subst (λ (z : List ℕ). DenotesPages (chars z) (map page_seen c.self.inside.pages.items)) (sym c.in_ok-bytes.ensures.bytes)
    (subst (λ (z : List Page). DenotesPages (chars c.in_ok-text.field-0.text.bytes) (map page_seen z)) c.as_slice.ensures.value
    (denotes_pages (map page_seen c.as_slice.result.now) c.in_ok-text.field-0.text.bytes c.in_ok-text.ensures)))
