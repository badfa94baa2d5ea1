use Rattle.rx_items.proofs.Common.{rules, ◌∙◌, sym, ap, ◌∷◌, ◌++◌, List, chars, IsUtf8, Chars, tokens, distinct_tokens, without_repeats_of}
use Rattle.rx_items.proofs.DistinctLemmas.{Sees, sees_new, new_turn}
use Rattle.rx_terms.proofs.Bools.{untrue}
use Rattle.rx_items.proofs.distinct.distinct.Goals as goal
use Rattle.rx_tags.specs.Repeats.{has_text}

pub loop-token-preserved : goal.loop-token-preserved
loop-token-preserved c =
    let l = c.loop-token in
    let token = c.in-Some.token.now in
    let utf8 : IsUtf8 token = search rules in
    let sees : Sees (has_text l.seen) l.invariant.so_far = record { at = l.invariant.sees } in
    let absent = sym (l.invariant.sees token utf8) ∙ untrue (has_text l.seen token) (sym c.in_ok-see.ensures.is_new ∙ c.if-not-branch.false) in
    let next = sees_new (has_text l.seen) (has_text c.see.new.seen) l.invariant.so_far token utf8 sees c.in_ok-see.ensures.added in
    record {
      utf8 = search rules;
      so_far = chars token ∷ l.invariant.so_far;
      sees = next.at;
      whole =
          ap (λ (list : List Chars). list ++ without_repeats_of (chars token ∷ l.invariant.so_far) (tokens (chars c.in-Some.behind.now))) c.in_ok-push_text.ensures
          ∙ new_turn l.list.items (distinct_tokens (chars c.args.text.now)) l.invariant.so_far (tokens (chars l.rest.now)) (tokens (chars c.in-Some.behind.now)) (chars token) l.invariant.whole c.in-Some.ensures.token absent;
    }
