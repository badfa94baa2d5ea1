use Rattle.rx_walk.proofs.Common.{◌≡◌, ◌∙◌, ◌≤◌, ◌+◌, [], ◌∷◌, false, length, refl, sym, ap, subst, arith, Enter, is_relative, ElementTag, own_vocabulary, KeptNames, NamesStand, tag_seen, token_tag, tag_shown, begun, line_of, seek_begun, AreFacts, MayTake, Tells}
use Rattle.rx_walk.proofs.Coursing.{accepts_of, from_absolute, absolute_next, absolute_kept, takes_one, runs_more, begin_facts, count_room}
use Rattle.rx_walk.proofs.Accepted.{refused_next, accepted_next, accepts_more}
use Rattle.rx_walk.proofs.courses.RdfaListener.begin.Goals as goal

pub returns-in-Some : goal.returns-in-Some
returns-in-Some c context address levels signs r f =
    let line = line_of [] signs in
    let tag = token_tag (tag_seen c.args.tag.now) in
    let stands = subst (λ (x : ElementTag). NamesStand c.push_of.new.self (x ∷ line)) c.of-attributes.ensures (c.in_ok-push_of.ensures.line line r.names_are) in
    refused_next context c.args.self.now.names signs (accepts_of r) c.push_of.new.self (tag_shown c.args.tag.now) c.in-Some.fault (ap (λ (k : KeptNames). k.context) c.in_ok-push_of.ensures.ok)
    (sym c.in-Some.is ∙ c.fault_of.ensures.line line stands (from_absolute tag line r.absolute))

pub read_facts-requires-clause-own : goal.read_facts-requires-clause-own
read_facts-requires-clause-own c = subst (λ (x : ElementTag). is_relative (own_vocabulary x) ≡ false) (sym c.of-attributes.ensures) (c.fault_of.ensures.own c.in_default.is)

pub read_facts-requires-clause-vocabulary : goal.read_facts-requires-clause-vocabulary
read_facts-requires-clause-vocabulary c =
    let q = c.requires in
    let line = line_of [] q.signs in
    let tag = token_tag (tag_seen c.args.tag.now) in
    let stands = subst (λ (x : ElementTag). NamesStand c.push_of.new.self (x ∷ line)) c.of-attributes.ensures (c.in_ok-push_of.ensures.line line q.known.names_are) in
    absolute_kept c.push_of.new.self line tag (absolute_next tag line q.known.absolute (c.fault_of.ensures.own c.in_default.is)) stands

pub begin-requires : goal.begin-requires
begin-requires c =
    let q = c.requires in
    let line = line_of [] q.signs in
    let tag = token_tag (tag_seen c.args.tag.now) in
    let stands = subst (λ (x : ElementTag). NamesStand c.push_of.new.self (x ∷ line)) c.of-attributes.ensures (c.in_ok-push_of.ensures.line line q.known.names_are) in
    let g = begin_facts q.setting.0.context q.setting.1 q.setting.0.limits.depth c.args.self.now c.args.self.now q.signs q.known c.push_of.new.self (tag_shown c.args.tag.now) c.read_facts.new.facts
    (ap (λ (k : KeptNames). k.context) c.in_ok-push_of.ensures.ok) stands (subst (λ (x : ElementTag). AreFacts c.push_of.new.self x c.read_facts.new.facts) c.of-attributes.ensures c.in_ok-read_facts.ensures) in
    subst (λ x. MayTake c.args.self.now.origin.levels (Enter x ∷ []) c.args.self.now.stage) (sym g)
    (takes_one c.args.self.now q.setting.0.context q.setting.1 q.setting.0.limits.depth q.signs (begun (tag_shown c.args.tag.now)) q.known q.front)

pub one_more-self-requires : goal.one_more-self-requires
one_more-self-requires c =
    let q = c.requires in
    let room : c.args.self.now.count + 1 ≤ c.args.self.now.origin.levels = count_room q.setting.0.context q.setting.1 q.setting.0.limits.depth c.args.self.now c.args.self.now q.signs q.known (tag_shown c.args.tag.now) q.front in
    omega (arith, room)

pub returns : goal.returns
returns c context address levels signs r f =
    let line = line_of [] signs in
    let tag = token_tag (tag_seen c.args.tag.now) in
    let stands = subst (λ (x : ElementTag). NamesStand c.push_of.new.self (x ∷ line)) c.of-attributes.ensures (c.in_ok-push_of.ensures.line line r.names_are) in
    let same = ap (λ (k : KeptNames). k.context) c.in_ok-push_of.ensures.ok in
    let g = begin_facts context address levels c.args.self.now c.args.self.now signs r c.push_of.new.self (tag_shown c.args.tag.now) c.read_facts.new.facts same stands
    (subst (λ (x : ElementTag). AreFacts c.push_of.new.self x c.read_facts.new.facts) c.of-attributes.ensures c.in_ok-read_facts.ensures) in
    let taken = accepted_next context c.args.self.now.names signs (accepts_of r) c.push_of.new.self (tag_shown c.args.tag.now) same
    (sym c.in_default.is ∙ c.fault_of.ensures.line line stands (from_absolute tag line r.absolute)) in
    let size : c.one_more-self.result ≡ length line + 1 = omega (arith, c.one_more-self.ensures, r.count_is) in
    runs_more context address levels c.args.self.now (record { origin = c.args.self.now.origin; names = c.push_of.new.self; maker = c.read_facts.new.maker; facts = c.begin.new.facts; count = c.one_more-self.result; stage = c.begin.new.self }) signs r (begun (tag_shown c.args.tag.now)) f
    (accepts_more context c.args.self.now.names signs (accepts_of r) c.push_of.new.self (begun (tag_shown c.args.tag.now)) stands same (absolute_next tag line r.absolute (c.fault_of.ensures.own c.in_default.is)) taken) refl (omega (arith, size))
    (subst (λ x. Tells c.args.self.now.origin (λ s. seek_begun c.args.self.now.count s tag) (Enter x ∷ []) c.args.self.now.stage c.begin.new.self) g c.in_ok-begin.ensures)
