-- Renaming goes through reading with frames.
use Rattle.rx_rdfa.proofs.Common.{◌≡◌, suc, Bool, true, false, cond, List, [], ◌∷◌, ◌++◌, map, Option, Some, None, option_map, refl, sym, ap, ap₂, ◌∙◌, bytes_eq, map-append, Chars, Term, Triple, rename_term, rename, Path, Naming, model, Nodes, Facts, Inherited, Standing, Resources, resources, up, Rule, value_now, value, rule, start_of, end_of, ListEntry, entry, entries_by, lists_below, lists_of, page_lists, Slot, Full, Waiting, Machine, inherit, slot_of, rule_at, fill_slot, fill, settled, settle, entered, enter, read, number, left, leave_with, leave, machine_begun, finished, rename_entry, rename_slot, rename_inherited, rename_standing, rename_resources, rename_rule, rename_machine, AgreeAt, Agree, MadeRenames}
use Rattle.rx_grammar.specs.Trees.{end, element, text}
use Rattle.rx_rdfa.specs.Machine.{value_at, reserved, run}
use Rattle.rx_rdfa.proofs.RenamedResources.{resources_rename, below_rename}
use Rattle.rx_rdfa.proofs.RenamedElement.{rule_rename, value_now_rename, value_rename, start_rename, end_rename}
use Rattle.rx_rdfa.proofs.Sent.{map_found}
use Rattle.rx_rdfa.proofs.RenamedLists.{entries_by_rename}
use Rattle.rx_rdfa.proofs.RenamedMade.{agree_at, page_rename, lists_below_rename, lists_of_rename, page_lists_rename, made_rename}
use Rattle.rx_rdfa.proofs.Machine.{reading_makes}

-- ---- slots

module _ {B O C P : Type 0} (f : B → C) (g : O → P) where
  filled_is : (r : Path) (v : Term B) (s : Slot B) → rename_slot f (fill_slot r v s) ≡ fill_slot r (rename_term f v) (rename_slot f s)
  filled_is r v (Full w) = refl
  filled_is r v (Waiting p) = go (bytes_eq p r)
    where
      go : (b : Bool) → rename_slot f (cond b (Full v) (Waiting p)) ≡ cond b (Full (rename_term f v)) (Waiting p)
      go true = refl
      go false = refl

  filled_option : (r : Path) (v : Term B) (o : Option (Slot B)) → option_map (rename_slot f) (option_map (fill_slot r v) o) ≡ option_map (fill_slot r (rename_term f v)) (option_map (rename_slot f) o)
  filled_option r v None = refl
  filled_option r v (Some s) = ap Some (filled_is r v s)

  pub fill_rename : (r : Path) (v : Term B) (slots : List (ListEntry O (Slot B))) → map (rename_entry g (rename_slot f)) (fill r v slots) ≡ fill r (rename_term f v) (map (rename_entry g (rename_slot f)) slots)
  fill_rename r v [] = refl
  fill_rename r v (e ∷ slots) = ap₂ ◌∷◌ (λ i. entry (g e.owner) (filled_option r v e.item i) e.predicate) (fill_rename r v slots)

  pub settle_rename : (slots : List (ListEntry O (Slot B))) → map (rename_entry g (rename_term f)) (settle slots) ≡ settle (map (rename_entry g (rename_slot f)) slots)
  settle_rename slots = map_found (rename_entry g (rename_term f)) settled settled (rename_entry g (rename_slot f)) (λ e. by e.owner e.predicate e.item) slots
    where
      by : (o : O) (p : Chars) (item : Option (Slot B)) → option_map (rename_entry g (rename_term f)) (settled (entry o item p)) ≡ settled (entry (g o) (option_map (rename_slot f) item) p)
      by o p (Some (Full w)) = refl
      by o p (Some (Waiting r)) = refl
      by o p None = refl

  slot_of_is : (path : Path) (o : Option (Term B)) → rename_slot f (slot_of path o) ≡ slot_of path (option_map (rename_term f) o)
  slot_of_is path None = refl
  slot_of_is path (Some v) = refl

-- ---- one element, where the two ways of naming agree at it

module _ {B O C P : Type 0} (f : B → C) (g : O → P) (n : Naming B O) (m : Naming C P) (base : Chars) (at : Standing B O) (k : AgreeAt f g n m at.facts at.path) where
  rule_at_rename : rename_rule f (rule_at n base at) ≡ rule_at m base (rename_standing f g at)
  rule_at_rename = rule_rename f g n m base at k (resources n base at) ∙ ap (rule m base at.facts) (resources_rename f g n m base at k)

  pub value_at_rename : (s : Chars) → rename_term f (value_at n base at s) ≡ value_at m base (rename_standing f g at) s
  unfolding value_at
  value_at_rename s = value_rename f (rule_at n base at) at.facts s ∙ ap (λ (z : Rule C). value z at.facts s) rule_at_rename

  pub reserved_rename : map (rename_entry g (rename_slot f)) (reserved n base at) ≡ reserved m base (rename_standing f g at)
  unfolding reserved
  reserved_rename =
      let here : Resources B = resources n base at in
      let there : Standing C P = rename_standing f g at in
      entries_by_rename f g n m (rename_slot f) Full Full (λ x. refl) (slot_of at.path (value_now (rule_at n base at) at.facts)) at k here
      ∙ ap (λ (z : Slot C). entries_by m Full z there (rename_resources f here))
      (slot_of_is f g at.path (value_now (rule_at n base at) at.facts)
      ∙ ap (slot_of at.path) (value_now_rename f (rule_at n base at) at.facts ∙ ap (λ (z : Rule C). value_now z at.facts) rule_at_rename))
      ∙ ap (λ (z : Resources C). entries_by m Full (slot_of at.path (value_now (rule_at m base there) at.facts)) there z) (resources_rename f g n m base at k)

  pub entered_rename : (x : Machine B O) → rename_machine f g (entered n base at x) ≡ entered m base (rename_standing f g at) (rename_machine f g x)
  entered_rename x = λ i. record {
    standings = map (rename_standing f g) (at ∷ x.standings);
    path = at.path;
    next = 0;
    texts = [] ∷ x.texts;
    slots = (map-append (rename_entry g (rename_slot f)) x.slots (reserved n base at) ∙ ap (λ z. map (rename_entry g (rename_slot f)) x.slots ++ z) reserved_rename) i;
    out = (map-append (rename f) x.out (start_of n base at) ∙ ap (λ z. map (rename f) x.out ++ z) (start_rename f g n m base at k)) i;
  }

-- ---- all of a tree

module _ {B O C P : Type 0} (f : B → C) (g : O → P) (n : Naming B O) (m : Naming C P) (k : Agree f g n m) (base : Chars) where
  inherit_is : (standings : List (Standing B O)) → rename_inherited f g (inherit n base standings) ≡ inherit m base (map (rename_standing f g) standings)
  inherit_is [] = page_rename f g n m k base
  inherit_is (at ∷ standings) = below_rename f g n m base at (agree_at f g n m k base at.facts at.path)

  pub enter_rename : (facts : Facts) (x : Machine B O) → rename_machine f g (enter n base facts x) ≡ enter m base facts (rename_machine f g x)
  enter_rename facts x =
      let at : Standing B O = record { facts = facts; path = x.next ∷ x.path; around = inherit n base x.standings } in
      entered_rename f g n m base at (agree_at f g n m k base facts (x.next ∷ x.path)) x
      ∙ ap (λ (z : Inherited C P). entered m base (record { facts = facts; path = x.next ∷ x.path; around = z }) (rename_machine f g x)) (inherit_is x.standings)

  left_is : (at : Standing B O) (more : List (Standing B O)) (s : Chars) (texts : List Chars) (slots : List (ListEntry O (Slot B))) (out : List (Triple B))
      → rename_machine f g (left n base at more s texts slots out)
      ≡ left m base (rename_standing f g at) (map (rename_standing f g) more) s texts (map (rename_entry g (rename_slot f)) slots) (map (rename f) out)
  left_is at more s texts slots out =
      let a = agree_at f g n m k base at.facts at.path in
      let there : Standing C P = rename_standing f g at in
      let filled : List (ListEntry O (Slot B)) = fill at.path (value_at n base at s) slots in
      let after : List (ListEntry P (Slot C)) = fill at.path (value_at m base there s) (map (rename_entry g (rename_slot f)) slots) in
      let slots_are : map (rename_entry g (rename_slot f)) filled ≡ after =
      fill_rename f g at.path (value_at n base at s) slots
      ∙ ap (λ z. fill at.path z (map (rename_entry g (rename_slot f)) slots)) (value_at_rename f g n m base at a s)
      in
      let settled_are : map (rename_entry g (rename_term f)) (settle filled) ≡ settle after = settle_rename f g filled ∙ ap settle slots_are in
      λ i. record {
        standings = map (rename_standing f g) more;
        path = up at.path;
        next = suc (number at.path);
        texts = texts;
        slots = slots_are i;
        out = (map-append (rename f) out (end_of n base at s ++ (lists_below n base (settle filled) at ++ lists_of n base (settle filled) at))
            ∙ ap (λ z. map (rename f) out ++ z)
            (map-append (rename f) (end_of n base at s) (lists_below n base (settle filled) at ++ lists_of n base (settle filled) at)
            ∙ ap₂ ◌++◌ (end_rename f g n m base at a s)
            (map-append (rename f) (lists_below n base (settle filled) at) (lists_of n base (settle filled) at)
            ∙ ap₂ ◌++◌ (lists_below_rename f g n m k base (settle filled) at) (lists_of_rename f g n m k base (settle filled) at)
            ∙ ap (λ z. lists_below m base z there ++ lists_of m base z there) settled_are))) i;
      }

  leave_with_is : (x : Machine B O) (standings : List (Standing B O)) (texts : List Chars)
      → rename_machine f g (leave_with n base x standings texts) ≡ leave_with m base (rename_machine f g x) (map (rename_standing f g) standings) texts
  leave_with_is x (at ∷ more) (s ∷ texts) = left_is at more s texts x.slots x.out
  leave_with_is x _ _ = refl

  pub leave_rename : (x : Machine B O) → rename_machine f g (leave n base x) ≡ leave m base (rename_machine f g x)
  leave_rename x = leave_with_is x x.standings x.texts

  pub run_rename : (nodes : Nodes Facts) (x : Machine B O) → rename_machine f g (run n base nodes x) ≡ run m base nodes (rename_machine f g x)
  unfolding run
  run_rename end x = refl
  run_rename (text s rest) x = run_rename rest (read s x)
  run_rename (element facts inside rest) x =
      run_rename rest (leave n base (run n base inside (enter n base facts x)))
      ∙ ap (run m base rest) (leave_rename (run n base inside (enter n base facts x))
      ∙ ap (leave m base) (run_rename inside (enter n base facts x) ∙ ap (run m base inside) (enter_rename facts x)))

  pub finished_rename : (x : Machine B O) → map (rename f) (finished n base x) ≡ finished m base (rename_machine f g x)
  finished_rename x = map-append (rename f) x.out (page_lists n base (settle x.slots))
      ∙ ap (λ z. map (rename f) x.out ++ z) (page_lists_rename f g n m k base (settle x.slots) ∙ ap (page_lists m base) (settle_rename f g x.slots))

pub made_renames : MadeRenames
made_renames to to_owner naming k base tree = record {
  list = sym (made_rename to to_owner model naming k base tree);
  reading =
      ap (finished naming base) (sym (run_rename to to_owner model naming k base tree machine_begun))
      ∙ sym (finished_rename to to_owner model naming k base (run model base tree machine_begun))
      ∙ ap (map (rename to)) (reading_makes base tree);
}
