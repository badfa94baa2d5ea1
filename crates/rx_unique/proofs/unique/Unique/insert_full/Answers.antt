use Rattle.std.proofs.Common.{◌∙◌, ap, sym, not}
use Rattle.rx_unique.proofs.SearchLemmas.{has-place, has-none, stored-old, stored-now, kept-old, kept-new}
use Rattle.rx_unique.proofs.unique.Unique.insert_full.Goals as goal

pub returns-in-Some-clause-keys : goal.returns-in-Some-clause-keys
returns-in-Some-clause-keys g c = kept-old (g.K.PartialEq.eq) c.args.key c.args.self.now _ (sym c.in-Some.ensures)

pub returns-in-Some-clause-index : goal.returns-in-Some-clause-index
returns-in-Some-clause-index g c = sym (has-place (g.K.PartialEq.eq c.args.key) c.args.self.now _ (sym c.in-Some.ensures)).at

pub returns-in-Some-clause-added : goal.returns-in-Some-clause-added
returns-in-Some-clause-added g c = ap not (sym (has-place (g.K.PartialEq.eq c.args.key) c.args.self.now _ (sym c.in-Some.ensures)).any)

pub returns-in-Some-clause-stored : goal.returns-in-Some-clause-stored
returns-in-Some-clause-stored g c = stored-old (g.K.PartialEq.eq c.args.key) c.args.self.now c.in-Some.place c.args.key (has-place (g.K.PartialEq.eq c.args.key) c.args.self.now _ (sym c.in-Some.ensures))

pub returns-clause-keys : goal.returns-clause-keys
returns-clause-keys g c = kept-new (g.K.PartialEq.eq) c.args.key c.args.self.now _ (sym c.in_default.ensures) c.in_ok-push.ensures.ok

pub returns-clause-index : goal.returns-clause-index
returns-clause-index g c = c.len-place.ensures.len ∙ sym (has-none (g.K.PartialEq.eq c.args.key) c.args.self.now (sym c.in_default.ensures)).at

pub returns-clause-added : goal.returns-clause-added
returns-clause-added g c = ap not (sym (has-none (g.K.PartialEq.eq c.args.key) c.args.self.now (sym c.in_default.ensures)).any)

pub returns-clause-stored : goal.returns-clause-stored
returns-clause-stored g c =
    stored-now (g.K.PartialEq.eq) (g.met.K.Eq.laws.refl c.args.key) c.args.self.now _ _ c.len-place.ensures.len c.in_ok-push.ensures.ok
