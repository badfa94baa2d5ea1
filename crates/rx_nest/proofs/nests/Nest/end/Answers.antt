use Rattle.rx_nest.proofs.Common.{sym, subst, Nested, NestStands, NestEnded, owed_signs, last_tag}
use Rattle.rx_nest.proofs.Endings.{fault_ends, page_ends}
use Rattle.rx_nest.proofs.nests.Nest.end.Goals as goal

pub returns-in-Some-clause-ends : goal.returns-in-Some-clause-ends
returns-in-Some-clause-ends c syntax limits bytes signs st =
    let was = subst (λ v. NestStands syntax limits v bytes signs) (sym c.self.view_is) st in
    fault_ends syntax limits _ bytes signs was c.in-Some.fault (c.in-Some.ensures.ends syntax limits bytes was.told was.at)

pub returns-clause-ends : goal.returns-clause-ends
returns-clause-ends c syntax limits bytes signs st =
    let was = subst (λ v. NestStands syntax limits v bytes signs) (sym c.self.view_is) st in
    subst (λ (v : Nested). NestEnded syntax limits bytes signs (owed_signs v.owed (last_tag v.scan))) c.self.view_is
    (page_ends syntax limits _ bytes signs was (c.in_default.ensures.ends syntax limits bytes was.told was.at))
