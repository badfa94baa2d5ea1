use Rattle.rx_many.proofs.Common.{◌∙◌, sym, refl, inl, rename, triple_seen, has_blank, at_place}
use Rattle.rx_many.proofs.PageLemmas.{repeats, repeats_not, same_blanks}
use Rattle.rx_many.proofs.documents.Document.put_triple.Goals as goal

pub returns-then-may_repeat : goal.returns-then-may_repeat
returns-then-may_repeat c shared place lines s tells new =
    let may = repeats c.args.is_shared (has_blank (triple_seen c.args.triple.now)) (sym c.may_repeat.ensures ∙ c.if-may_repeat.true) in
    c.put_once.ensures shared place lines s (tells.yes may.0) may.1

pub returns-else-may_repeat : goal.returns-else-may_repeat
returns-else-may_repeat c shared place lines s tells new =
    let own = repeats_not c.args.is_shared (triple_seen c.args.triple.now) shared c.args.name.now tells (sym c.may_repeat.ensures ∙ c.if-may_repeat.false) in
    c.put_new.ensures shared place lines s own
    (new c.args.name.now (rename (at_place place) (triple_seen c.args.triple.now)) (λ m n. own m (sym (same_blanks (at_place place) (triple_seen c.args.triple.now)) ∙ n)) (inl refl))
