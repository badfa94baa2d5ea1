use Rattle.rx_many.proofs.Common.{◌∙◌, ◌++◌, ◌∷◌, [], refl, sym, ap, if◌then◌else◌, on_ok_weaker, rename, triple_seen, statement, number_at}
use Rattle.rx_many.proofs.PageLemmas.{old_statement, new_statement}
use Rattle.rx_many.proofs.documents.Document.put_once.Goals as goal

pub returns-in-Some : goal.returns-in-Some
returns-in-Some c shared place lines s m n =
    let added = rw c.in-Some.is at c.in_ok-place.ensures.place in
    on_ok_weaker c.write.result
    (λ w. new_statement shared place c.args.self.now _ lines s c.args.name.now c.in_ok-name.name c.in_ok-name.ensures m (triple_seen c.args.triple.now) (triple_seen c.in_ok-triple.triple) n
    (ap (λ z. z.before) w.blanks ∙ c.in_ok-triple.ensures.before) (ap (λ z. z.here) w.blanks ∙ c.in_ok-triple.ensures.known)
    (c.in_ok-triple.ensures.renamed ∙ ap (λ z. rename (number_at z) (triple_seen c.args.triple.now)) (sym w.blanks))
    added.lacks (ap (λ lines. lines.bytes) w.text) (w.statements ∙ c.in_ok-place.ensures.list) w.writable)
    (c.write.ensures (statement c.in_ok-name.name (triple_seen c.in_ok-triple.triple)) added.at)

pub returns-in-None : goal.returns-in-None
returns-in-None c shared place lines s m n =
    let there = rw c.in-None.is at c.in_ok-place.ensures.place in
    old_statement shared place c.args.self.now _ lines s c.args.name.now c.in_ok-name.name c.in_ok-name.ensures m (triple_seen c.args.triple.now) (triple_seen c.in_ok-triple.triple) n
    c.in_ok-triple.ensures.before c.in_ok-triple.ensures.known c.in_ok-triple.ensures.renamed there refl
    (c.in_ok-place.ensures.list ∙ ap (λ b. if b then c.args.self.now.statements else c.args.self.now.statements ++ statement c.in_ok-name.name (triple_seen c.in_ok-triple.triple) ∷ []) there)
