use Rattle.rx_walk.proofs.Common.{◌∙◌, ◌∷◌, [], sym, ap, subst, ElementTag, KeptNames, NamesStand, tag_seen, token_tag, tag_shown, begun, line_of}
use Rattle.rx_walk.proofs.Accepted.{accepts_more, refused_next, accepted_next}
use Rattle.rx_walk.proofs.Coursing.{from_absolute, absolute_next}
use Rattle.rx_walk.proofs.scopes.CheckingListener.begin.Goals as goal

pub returns-in-Some : goal.returns-in-Some
returns-in-Some c setting signs r =
    let line = line_of [] signs in
    let tag = token_tag (tag_seen c.args.tag.now) in
    let stands = subst (λ (x : ElementTag). NamesStand c.push_of.new.self (x ∷ line)) c.of-attributes.ensures (c.in_ok-push_of.ensures.line line r.names_are) in
    refused_next setting.context c.args.self.now.names signs r c.push_of.new.self (tag_shown c.args.tag.now) c.in-Some.fault (ap (λ (k : KeptNames). k.context) c.in_ok-push_of.ensures.ok)
    (sym c.in-Some.is ∙ c.fault_of.ensures.line line stands (from_absolute tag line r.absolute))

pub returns-in-None : goal.returns-in-None
returns-in-None c setting signs r =
    let line = line_of [] signs in
    let tag = token_tag (tag_seen c.args.tag.now) in
    let stands = subst (λ (x : ElementTag). NamesStand c.push_of.new.self (x ∷ line)) c.of-attributes.ensures (c.in_ok-push_of.ensures.line line r.names_are) in
    let same = ap (λ (k : KeptNames). k.context) c.in_ok-push_of.ensures.ok in
    accepts_more setting.context c.args.self.now.names signs r c.push_of.new.self (begun (tag_shown c.args.tag.now)) stands same
    (absolute_next tag line r.absolute (c.fault_of.ensures.own c.in-None.is))
    (accepted_next setting.context c.args.self.now.names signs r c.push_of.new.self (tag_shown c.args.tag.now) same
    (sym c.in-None.is ∙ c.fault_of.ensures.line line stands (from_absolute tag line r.absolute)))
