use Rattle.rx_terms.proofs.Common.{rules, ◌∙◌, chars, IsUtf8, tokens, filter_map}
use Rattle.rx_items.proofs.ReferenceLemmas.{token_turn}
use Rattle.rx_items.proofs.references.found_in.Goals as goal

pub loop-token-preserved : goal.loop-token-preserved
loop-token-preserved c =
    let l = c.loop-token in
    let utf8 : IsUtf8 c.in-Some.token.now = search rules in
    record {
      utf8 = search rules;
      found = λ look looks. token_turn look l.list.items c.add_found.new.list.items (filter_map look (tokens (chars c.args.text.now))) (tokens (chars l.rest.now)) (tokens (chars c.in-Some.behind.now))
          (chars c.in-Some.token.now) c.place_under.result (l.invariant.found look looks) c.in-Some.ensures.token c.in_ok-add_found.ensures (c.place_under.ensures ∙ looks c.in-Some.token.now utf8);
    }
