-- A byte list has a tree or a fault, and one of them alone.
use Rattle.rx_pages.proofs.Words.{◌≡◌, ◌∙◌, sym, Result, Ok, Err, NotBoth, OneFault, Fault, Progress}
use Rattle.rx_pages.proofs.PageRead.{page_is_read}
use Rattle.rx_pages.proofs.FaultsRead.{fault_is_read}

pub ok_is : (a b : Progress) (r : Result Progress Fault) → r ≡ Ok a → r ≡ Ok b → a ≡ b
ok_is a b r h k = let e : Ok a ≡ Ok b = sym h ∙ k in cc

pub error_is : (a b : Fault) (r : Result Progress Fault) → r ≡ Err a → r ≡ Err b → a ≡ b
error_is a b r h k = let e : Err a ≡ Err b = sym h ∙ k in cc

pub neither : (a : Progress) (f : Fault) (r : Result Progress Fault) → r ≡ Ok a → r ≡ Err f → ⊥
neither a f r h k = let e : Ok a ≡ Err f = sym h ∙ k in cc

pub not_both : NotBoth
not_both syntax limits bytes tree fault page f = let p = page_is_read syntax limits bytes tree page in neither p.final fault _ p.is_read (fault_is_read syntax limits bytes fault f)

pub one_fault : OneFault
one_fault syntax limits bytes a b p q = error_is a b _ (fault_is_read syntax limits bytes a p) (fault_is_read syntax limits bytes b q)
