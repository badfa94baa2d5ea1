-- Names that rise, and values without numbers.
use Rattle.rx_terms.proofs.Common.{◌≡◌, ◌∙◌, ℕ, false, List, refl, ap, Ordering, Less, Equal, Greater, nat_cmp, suc, ap₂, max, match_ordering, ordering_reverse, slice_cmp, or_from, nat_list_cmp_total}
use Rattle.json.specs.Tree as tree
use Rattle.serde_json.specs.Data.{Data, Items, Members, null, boolean, number, string, array, object, no_items, item, no_members, member, depth, items_depth, members_depth}
use Rattle.serde_json.specs.Written.{has_float, items_have_float, members_have_float, outline, items_outline, members_outline}
use Rattle.rx_json.specs.Plain.{PrecedesMembers, IsPlain, ArePlain, MembersArePlain}

pub turned : (a b : List ℕ) (o : Ordering) → slice_cmp nat_cmp a b ≡ o → slice_cmp nat_cmp b a ≡ ordering_reverse o
turned a b o e = nat_list_cmp_total.antisymm b a ∙ ap ordering_reverse e

pub leads_one : (name : List ℕ) (o : Ordering) (x y z : Members) → PrecedesMembers name x → PrecedesMembers name y → PrecedesMembers name z → PrecedesMembers name (match_ordering o x y z)
leads_one name Less x y z p q r = p
leads_one name Equal x y z p q r = q
leads_one name Greater x y z p q r = r

pub leads_through : (before name : List ℕ) (members : Members) → slice_cmp nat_cmp before name ≡ Less → PrecedesMembers name members → PrecedesMembers before members
leads_through before name no_members c l = tt
leads_through before name (member other value more) c l = (nat_list_cmp_total.trans before name other c l.0, leads_through before name more c l.1)

-- a plain value has no float, its tree has no numbers, and it nests as deep
mutual
  pub outlined : (d : Data) → IsPlain d → (has_float d ≡ false) × tree.HasNumbers (outline d) × (tree.depth (outline d) ≡ depth d)
  outlined (number n) p = absurd p
  outlined (array ds) p = let r = items_outlined ds p in (r.0, r.1, ap suc r.2)
  outlined (object ms) p = let r = members_outlined ms p in (r.0, r.1, ap suc r.2)
  outlined _ p = (refl, tt, refl)

  items_outlined : (ds : Items) → ArePlain ds → (items_have_float ds ≡ false) × tree.ItemsHaveNumbers (items_outline ds) × (tree.items_depth (items_outline ds) ≡ items_depth ds)
  items_outlined no_items p = (refl, tt, refl)
  items_outlined (item d ds) p =
      let first = outlined d p.0 in
      let rest = items_outlined ds p.1 in
      (or_from (has_float d) (items_have_float ds) first.0 rest.0, (first.1, rest.1), ap₂ max first.2 rest.2)

  members_outlined : (ms : Members) → MembersArePlain ms → (members_have_float ms ≡ false) × tree.MembersHaveNumbers (members_outline ms) × (tree.members_depth (members_outline ms) ≡ members_depth ms)
  members_outlined no_members p = (refl, tt, refl)
  members_outlined (member name d ms) p =
      let first = outlined d p.0 in
      let rest = members_outlined ms p.2 in
      (or_from (has_float d) (members_have_float ms) first.0 rest.0, (first.1, rest.1), ap₂ max first.2 rest.2)

pub no_float : (d : Data) → IsPlain d → has_float d ≡ false
no_float d p = (outlined d p).0
