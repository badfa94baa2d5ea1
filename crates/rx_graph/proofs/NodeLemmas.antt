-- Borrowed nodes and their list.
use Rattle.rx_model.proofs.Common.{nat_tests, by_test, contains, with_one, same_node}
use Rattle.std.proofs.Common.{◌≡◌, suc, ◌+◌, Bool, true, false, nat_lt, nat_eq, List, [], ◌∷◌, map, length, position, Some, option_map, refl, sym, ap, ◌∙◌, arith, if◌then◌else◌}
use Rattle.std.specs.List.{AllByRecursion, position_or_len, IsDistinct}
use Rattle.rx_graph.specs.declared.resources.Resource.{Resource}
use Rattle.rx_graph.specs.Resources.{resource_seen, number_in, AreDistinct}
use Rattle.rx_unique.specs.Unique.{insert_key}
use Rattle.rx_graph.proofs.CodeEq.{resource_eq, resources_agree_back}
use Rattle.rx_graph.proofs.SetLemmas.{insert_seen}

pub node_added_seen : (list : List Resource) (r : Resource) → map resource_seen (insert_key resource_eq list r) ≡ with_one (same_node nat_eq) (map resource_seen list) (resource_seen r)
node_added_seen list r = insert_seen resource_seen resource_eq (same_node nat_eq) resources_agree_back list r

none_alike : (x : Resource) (list : List Resource) → AllByRecursion (λ y. resource_eq x y ≡ false) list → contains (same_node nat_eq) (map resource_seen list) (resource_seen x) ≡ false
none_alike x [] h = refl
none_alike x (y ∷ list) h = rw (sym (resources_agree_back x y) ∙ h.0) (none_alike x list h.1)

pub nodes_once : (list : List Resource) → IsDistinct resource_eq list → AreDistinct (map resource_seen list)
unfolding IsDistinct
nodes_once [] h = tt
nodes_once (x ∷ list) h = (none_alike x list h.0, nodes_once list h.1)

position_more : (p : Resource → Bool) (x : Resource) (list : List Resource) → position p (x ∷ list) ≡ (if p x then Some 0 else option_map suc (position p list))
position_more p x list =
    let some : nat_lt 0 (suc (length list)) ≡ true = grind (arith, nat_tests) in
    let next : 1 + position_or_len p list ≡ suc (position_or_len p list) = omega arith in
    by_test (p x) (λ e. rw (e, some) refl) (λ e. by_test (nat_lt (position_or_len p list) (length list))
    (λ f. let more : nat_lt (1 + position_or_len p list) (suc (length list)) ≡ true = grind (arith, nat_tests, f) in rw (e, f, more) (ap Some next))
    (λ f. let more : nat_lt (1 + position_or_len p list) (suc (length list)) ≡ false = grind (arith, nat_tests, f) in rw (e, f, more) refl))

pub number_seen : (list : List Resource) (r : Resource) → position (resource_eq r) list ≡ number_in (map resource_seen list) (resource_seen r)
number_seen [] r = refl
number_seen (x ∷ list) r = position_more (resource_eq r) x list ∙ rw (resources_agree_back r x, number_seen list r) refl
