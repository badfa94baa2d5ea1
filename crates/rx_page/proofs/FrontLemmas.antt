-- Bytes that were read without a fault.
use Rattle.rx_items.proofs.Common.{◌≡◌, ◌∙◌, ℕ, ◌≤◌, List, [], length, ap, refl, None, Ok, Fault, Unended, Limits, FaultAt, no_page, for_form, Way, IsRefusal, none_refuses, Context}
use Rattle.rx_pages.proofs.Sizes.{read_size}
use Rattle.rx_walk.specs.RefusalLaws.{refusal_laws}
use Rattle.rx_job.specs.Words.{Task, extracts, itemizes, checks}
use Rattle.rx_page.specs.Readers.{IsReadPage}
use Rattle.rx_page.specs.Settings.{standard_limits, HasFirst}
use Rattle.rx_page.specs.Tasks.{way_in}
use Rattle.rx_page.proofs.FaultLemmas.{no_meaning_in, only_unended}

pub limits_are : (l : Limits) → l.depth ≡ 512 → l.tag ≡ 1048576 → l.page ≡ 1073741824 → l ≡ standard_limits
limits_are l d t p = ap (λ x. record { depth = x; tag = l.tag; page = l.page }) d ∙ (ap (λ x. record { depth = 512; tag = x; page = l.page }) t ∙ ap (λ x. record { depth = 512; tag = 1048576; page = x }) p)

-- what refuses start tags does so one after another
pub refuses_so : (task : Task) (context : Context) → IsRefusal (way_in task context).refused
refuses_so (extracts e) context = refusal_laws context
refuses_so (itemizes i) context = none_refuses
refuses_so (checks syntax) context = refusal_laws context

module _ (way : Way) (law : IsRefusal way.refused) where
  pub no_bytes_read : IsReadPage way []
  no_bytes_read = record { now = record { now = no_page; told = [] }; read = refl; accepted = law.none }

  -- that bytes end too early is their first fault
  pub end_first : (bytes : List ℕ) (fault : Fault) → IsReadPage way bytes → FaultAt way.syntax way.limits bytes fault → HasFirst way bytes fault
  end_first bytes fault i f = for_form f (λ other m. no_meaning_in way law bytes i.now i.read i.accepted other m)

  -- and they have no other
  pub clean_of : (bytes : List ℕ) → IsReadPage way bytes → (fault : Fault) → HasFirst way bytes fault → fault.kind ≡ Unended
  clean_of bytes i fault f = only_unended way law bytes i.now i.read i.accepted fault f

-- a page isn't longer than the largest
pub not_longer : (way : Way) (bytes : List ℕ) → IsReadPage way bytes → length bytes ≤ way.limits.page
not_longer way bytes i = (read_size way.syntax way.limits bytes i.now i.read).1
