use Rattle.rx_turtle.proofs.Common.{◌∙◌, ◌≡◌, ◌<◌, ◌++◌, ℕ, List, ap, ap₂, map, length, arith, append-nil, sym, take-map, drop-map, Triple, keys_by, all_in, like_first}
use Rattle.rx_turtle.specs.declared.keys.By.TheVariants as by
use Rattle.rx_turtle.proofs.GroupLemmas.{lent_seen, rows_by}
use Rattle.rx_turtle.proofs.ArrangedLemmas.{like_turn, whole_end, element_at, seen_length}
use Rattle.rx_turtle.proofs.arranging.push_few.Goals as goal

pub loop-i-init : goal.loop-i-init
loop-i-init c = sym (append-nil (map lent_seen c.args.list.now.items))

pub loop-i-preserved : goal.loop-i-preserved
loop-i-preserved c =
    let size : length (map lent_seen c.args.triples.now) ≡ length c.args.triples.now = seen_length c.args.triples.now in
    let less : c.loop-i.i < length (map lent_seen c.args.triples.now) = omega (arith, size, c.loop-i-test.true) in
    let t = element_at (map lent_seen c.args.triples.now) c.loop-i.i less in
    like_turn by.Predicate (map lent_seen c.args.triples.now) c.loop-i.i t.0 (map lent_seen c.args.list.now.items) (map lent_seen c.loop-i.list.items) (map lent_seen c.push_like_first.new.list.items) t.1
    (c.in_ok-push_like_first.ensures
    ∙ ap₂ (λ b f. map lent_seen c.loop-i.list.items ++ like_first by.Predicate b f)
    (ap (map lent_seen) c.split_at.ensures.front ∙ sym (take-map lent_seen c.loop-i.i c.args.triples.now)) (ap (map lent_seen) c.split_at.ensures.back ∙ sym (drop-map lent_seen c.loop-i.i c.args.triples.now)))
    c.loop-i.invariant

pub returns : goal.returns
returns c =
    let size : length (map lent_seen c.args.triples.now) ≡ length c.args.triples.now = seen_length c.args.triples.now in
    whole_end (λ (some : List (Triple ℕ)). all_in (rows_by by.Predicate (map lent_seen c.args.triples.now) (keys_by by.Predicate some))) (map lent_seen c.args.triples.now) c.loop-i.i (map lent_seen c.args.list.now.items) (map lent_seen c.loop-i.list.items) (omega (arith, c.loop-i-test.false, size)) c.loop-i.invariant
