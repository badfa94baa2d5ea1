use Rattle.rx_names.proofs.Common.{◌≡◌, ◌∷◌, List, OnOk, subst, ElementTag, NamesStand, tag_pushed}
use Rattle.rx_names.proofs.names.Names.push.Goals as goal

pub returns-clause-ok : goal.returns-clause-ok
returns-clause-ok c = subst (λ (t : ElementTag). OnOk c.push_of.result (c.push_of.new.self ≡ tag_pushed c.args.self.now t)) c.of.ensures c.push_of.ensures.ok

pub returns-clause-line : goal.returns-clause-line
returns-clause-line c =
    subst (λ (t : ElementTag). OnOk c.push_of.result ((line : List ElementTag) → NamesStand c.args.self.now line → NamesStand c.push_of.new.self (t ∷ line))) c.of.ensures c.push_of.ensures.line
