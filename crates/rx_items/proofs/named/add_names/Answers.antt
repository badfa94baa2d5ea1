use Rattle.rx_items.proofs.Common.{◌≡◌, on_ok_weaker, names_of, ShowsTokens}
use Rattle.rx_items.specs.declared.kept.Tokens.TheVariants as tokens
use Rattle.rx_items.proofs.HoldLemmas.{place_is}
use Rattle.rx_items.proofs.NameLemmas.{no_keys, one_key, several_keys}
use Rattle.rx_items.proofs.named.add_names.Goals as goal

pub returns-in_default : goal.returns-in_default
returns-in_default c rows base holds = no_keys rows c.args.place c.args.list.now.items (c.in_default.ensures rows base holds)

pub returns-in-One : goal.returns-in-One
returns-in-One c rows base holds =
    let at = c.in-Some.ensures rows base holds in
    let one : ShowsTokens c.args.kept.now.words (tokens.One c.in-One.span) (names_of at.0) = rw c.in-One.is at at.2 in
    on_ok_weaker c.add_name.result
    (λ added. one_key rows at.0 c.args.place one.0 c.token_at.result.now c.args.list.now.items c.add_name.new.list.items at.1 (place_is rows c.args.place at.0 holds.numbered at.1) one.1 (c.token_at.ensures one.0 one.2) added) c.add_name.ensures

pub returns-in-Many : goal.returns-in-Many
returns-in-Many c rows base holds =
    let at = c.in-Some.ensures rows base holds in
    let many : c.in-Many.names.now ≡ names_of at.0 = rw c.in-Many.is at at.2 in
    on_ok_weaker c.add_each.result
    (λ added. several_keys rows at.0 c.args.place c.in-Many.names.now c.args.list.now.items c.add_each.new.list.items at.1 (place_is rows c.args.place at.0 holds.numbered at.1) many added) c.add_each.ensures
