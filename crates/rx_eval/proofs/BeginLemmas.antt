-- The start of an element.
use Rattle.rx_eval.proofs.EnterLemmas.{below_as}
use Rattle.rx_eval.proofs.Common.{IfSome, is_some, if◌then◌else◌, encode_utf8_all, map-append, filter-append, Chars, by_test, IfSome_then, Among, Term, Triple, same_node, rename_node, rename_term, rename, spo, Among_left, Among_right, Among_map, Path, Naming, Bnode, Author, Made, Cell, Owner, First, Of, Below, same_owner, same_bnode, model, Facts, Inherited, Standing, Resources, resources, listed, handed, own_owner, object_below, rule, value_now, value_of_text, start_of, end_of, text_value, properties_by, ListEntry, map_entry, entry, linked, touched, awaited, entries_by, of_owner, rename_slot, rename_inherited, labels, exact_bnodes, ◌≡◌, ◌∙◌, ℕ, suc, ◌+◌, ◌≤◌, ◌^◌, ◌⊎◌, inl, inr, Bool, true, false, List, [], ◌∷◌, ◌++◌, map, filter_map, length, Option, Some, None, is_none, nat_eq, refl, sym, ap, ap₂, subst, subst₂, arith, append-nil, length-append, not, ◌&&◌, unwrap_or, Slot, Full, fill, fill_slot, slot_of, rule_at, value_at, inherit, Machine, enter, SlotId, Numbered, label_number, moment, level_at, standing_by, text_literal, Owning, put_entries, places_for, fill_all, Text, Frame, State, Gathers, next_number, owner_begun, places_at, drawn_after, handed_on, Opens, said_triples, Numbering, Name, Number, name_by, numbered_name, KeepsNumbers, with_number, Numbers, OwnedSlots, OpenOwners, owner_place, is_awaited, HasPlaces, Waiter, FillsAtEnd, FillUp, OwnersDiffer, Within, WithinPlaces, WithinOption, Layer, frames_in, path_in, paths_in, own_in, under_in, open_in, text_places, waiter_of, text_triples, KeptAt, LayerStands, LayersStand, Coming, OwnerPending, owner_depth, WaitsFor, RunsBy, page_context, AllItems, ItemWaits}
use Rattle.rx_rdfa.specs.Machine.{reserved}
use Rattle.rx_eval.proofs.DrawLemmas.{draw_most}
use Rattle.rx_eval.proofs.NameLemmas.{grown_same, grown_then, triples_later, slots_later, inherited_later, same_names}
use Rattle.rx_eval.proofs.NumberLemmas.{raised, at_new, at_other, grown_with, numbers_with, Drew, drew}
use Rattle.rx_eval.proofs.OtherLemmas.{makes_new}
use Rattle.rx_eval.proofs.ElementLemmas.{Meets, ends_are, resources_meet, below_meets, start_meets, end_meets, value_meets, gathers_meet, entries_meet}
use Rattle.rx_eval.proofs.ListLemmas.{Puts, Match, Merged, merged}
use Rattle.rx_eval.proofs.FillLemmas.{waits_weaker, none_waiting, filled_wait, renamed_wait, waits_both, fill_quiet, NoneWaits, put_fill_up, within_more}
use Rattle.rx_eval.proofs.ComingLemmas.{next_coming, inside_coming, inside_not}
use Rattle.rx_eval.proofs.LayerLemmas.{place_front, grown_open, place_back, place_none, none_before, apart_begun, begun_none, begun_place, deeper_none, placed_depth, apart_open, all_within, frames_length, handed_now, layers_later}
use Rattle.rx_eval.proofs.OwnersLemmas.{tables_now, owners_length}
use Rattle.rx_eval.proofs.EndLemmas.{shorter}
use Rattle.rx_eval.proofs.ItemLemmas.{all_append, Only, Filled, only_of, match_quiet, match_bound, match_waits, match_none, match_valued, valued_entry, valued_parts, front_all, awaited_all, entries_all, places_had, places_filled_in, places_within}
use Rattle.rx_eval.proofs.UsedLemmas.{new_drawn, drawn_least, handed_new, with_owner, begun_now, lists_as, with_fill_up, with_length, own_number_is, under_number_is}

-- ---- small facts

numbers_raised : (to : Numbering) (labels : Numbered) (drawn more cells : ℕ) → Numbers to labels drawn cells → drawn ≤ more → more ≤ 2 ^ 61 → Numbers to labels more cells
numbers_raised to labels drawn more cells h a b = record { label = h.label; bounded = λ x n e. raised n drawn more cells cells a (omega arith) (h.bounded x n e); one_to_one = h.one_to_one; low = b; high = h.high }

path_length : (to : Numbering) (base kept : Chars) (layers : List Layer) → LayersStand to base kept layers → length (path_in layers) ≡ length layers
path_length to base kept [] h = refl
path_length to base kept (l ∷ lower) h = h.0.deep

none_waits : (path : Path) (ls : List Layer) (ys : OwnedSlots) → ((q : Path) → Among (paths_in ls) q → ¬ (q ≡ path)) → Only path ys → NoneWaits (map waiter_of ls) ys
none_waits path [] ys n h = tt
none_waits path (l ∷ ls) ys n h =
    (none_waiting l.at.path ys (waits_weaker (λ o q. q ≡ path) (λ o q. ¬ (q ≡ l.at.path)) (λ o q e k. n l.at.path (inl refl) (sym k ∙ e)) ys h), none_waits path ls ys (λ q a. n q (inr a)) h)

none_of : (o : Owner) (ys : OwnedSlots) → ((y : ListEntry Owner (Slot ℕ)) → Among ys y → same_owner y.owner o ≡ false) → of_owner same_owner o ys ≡ []
none_of o [] h = refl
none_of o (y ∷ ys) h = rw (h y (inl refl)) (none_of o ys (λ z a. h z (inr a)))

entries_parts : (M : Naming ℕ ℕ) (at : Standing ℕ ℕ) (here : Resources ℕ) (v : Option (Term ℕ)) → here.skipped ≡ false → at.facts.inlist ≡ true → v ≡ None
    → entries_by M Some v at here
    ≡ ((linked M Some None at here here.object ++ touched M Some None at here) ++ map (entry (own_owner M at here) (Some None)) (listed at.facts.property)) ++ filter_map (awaited M Some None at here) at.around.hanging
entries_parts M at here v s b e = ap (λ (x : Option (Term ℕ)). entries_by M Some x at here) e ∙ rw (s, b) refl

-- an element that doesn't gather its text puts no empty item
filled_by : (s : Bool) (property : Option (List Chars)) (v : Option (Term ℕ)) → false ≡ (not s && (is_some property && is_none v)) → s ≡ false → (p : Chars) → Among (listed property) p → Filled (Some v)
filled_by s None v g e p a = absurd a
filled_by s (Some ps) (Some t) g e p a = tt
filled_by _ (Some ps) None g e p a = absurd (cc)

-- one that does isn't skipped, and has no other value
gathering : (s : Bool) (property : Option (List Chars)) (v : Option (Term ℕ)) → true ≡ (not s && (is_some property && is_none v)) → (s ≡ false) × (v ≡ None)
gathering false (Some ps) None g = (refl, refl)
gathering _ _ _ g = absurd (cc)

-- ---- the numbers

record NumbersNow (old : Numbering) (labels : Numbered) (drawn cells fresh : ℕ) (path : Path) (makes : Bool) : Type 0 where
  now : Numbering
  grown : KeepsNumbers old now
  numbers : Numbers now labels drawn cells
  new : makes ≡ true → now (Made path) ≡ Some fresh
  made : (q : Path) → ¬ (q ≡ path) → now (Made q) ≡ old (Made q)
  cell : (o : Owner) (p : Chars) (i : ℕ) → now (Cell o p i) ≡ old (Cell o p i)

numbers_now : (old : Numbering) (labels : Numbered) (drawn cells fresh : ℕ) (path : Path) (makes : Bool) → Numbers old labels fresh cells → old (Made path) ≡ None
    → (makes ≡ true → drawn ≡ fresh + 1) → fresh ≤ drawn → drawn ≤ fresh + 1 → fresh + 1 ≤ 2 ^ 61 → NumbersNow old labels drawn cells fresh path makes
numbers_now old labels drawn cells fresh path true h free e a b room = record {
  now = with_number old (Made path) fresh;
  grown = grown_with old (Made path) fresh free;
  numbers = subst (λ (d : ℕ). Numbers (with_number old (Made path) fresh) labels d cells) (sym (e refl))
      (numbers_with old (Made path) fresh labels labels fresh cells (fresh + 1) h (omega arith) (omega arith) room h.label);
  new = λ t. at_new old (Made path) fresh;
  made = λ q n. at_other old (Made path) fresh (Made q) (λ p. n (cc p));
  cell = λ o p i. refl;
}
numbers_now old labels drawn cells fresh path false h free e a b room = record {
  now = old;
  grown = grown_same old;
  numbers = numbers_raised old labels fresh drawn cells h a (omega (arith, b, room));
  new = λ t. absurd (cc t);
  made = λ q n. refl;
  cell = λ o p i. refl;
}

-- ---- the element

module _ (to : Numbering) (m : Machine Bnode Owner) (state : State) (facts : Facts) (new : State) (layers : List Layer) (slots : OwnedSlots) (r : RunsBy to m state layers slots) (o : Opens state facts new)
    (page : state.page ≡ page_context state.base) (room : state.drawn + 1 + length (labels facts) ≤ 2 ^ 61) where
  abbrev base : Chars
  base = state.base

  abbrev depth : ℕ
  depth = length state.frames

  abbrev path : Path
  path = m.next ∷ m.path

  abbrev around : Inherited Bnode Owner
  around = inherit model state.base m.standings

  abbrev seen : Inherited ℕ ℕ
  seen = handed_on state.page state.frames

  abbrev n : ℕ
  n = length state.owners

  abbrev at : Standing Bnode Owner
  at = record { facts = facts; path = path; around = around }

  abbrev at_n : Standing ℕ ℕ
  at_n = standing_by (level_at depth) seen facts

  abbrev here : Resources ℕ
  here = resources (moment new.labels o.fresh 0 0) base at_n

  abbrev moments : Naming ℕ ℕ
  moments = moment new.labels o.fresh n (next_number at_n here n)

  abbrev layer : Layer
  layer = record { at = at; text = []; frame = o.frame }

  abbrev before : OpenOwners
  before = open_in base layers

  abbrev opened : OpenOwners
  opened = open_in base (layer ∷ layers)

  depth_is : depth ≡ length layers
  depth_is = ap length r.frames ∙ frames_length layers

  path_is : length path ≡ suc (length layers)
  path_is = ap suc (ap length r.path ∙ path_length to base state.kept layers r.each)

  path_deep : length path ≡ suc depth
  path_deep = path_is ∙ ap suc (sym depth_is)

  owners_count : n ≡ length before
  owners_count = ap length (tables_now before (map waiter_of layers) state.owners slots r.tables) ∙ owners_length slots before

  other_path : (q : Path) → Among (paths_in layers) q → ¬ (q ≡ path)
  other_path q a e = let k = shorter to base state.kept layers r.each q a in let l = ap length e in omega (arith, k, l, path_is)

  deep_none : (w : Owner) → owner_depth w ≡ length path → owner_place before w ≡ None
  deep_none w e = deeper_none base to state.kept layers r.each w (omega (arith, e, path_is))

  -- ---- numbers

  drawn_labels : Drew to state.labels state.drawn state.cells (labels facts)
  drawn_labels = drew (labels facts) to state.labels state.drawn state.cells r.numbers (omega (arith, room))

  fresh_most : o.fresh ≤ state.drawn + length (labels facts)
  fresh_most = subst (λ (p : Numbered × ℕ). p.1 ≤ state.drawn + length (labels facts)) o.drawing (draw_most state.labels state.drawn (labels facts))

  labelled : Numbers drawn_labels.now new.labels o.fresh state.cells
  labelled = subst (λ (p : Numbered × ℕ). Numbers drawn_labels.now p.0 p.1 state.cells) o.drawing drawn_labels.numbers

  numbering : NumbersNow drawn_labels.now new.labels new.drawn state.cells o.fresh path (makes_new facts path here)
  numbering =
      let least = drawn_least o.frame.context o.fresh in
      let count = o.counted in
      numbers_now drawn_labels.now new.labels new.drawn state.cells o.fresh path (makes_new facts path here) labelled
      (drawn_labels.made path ∙ r.unmade path (next_coming m.path m.next))
      (λ t. o.counted ∙ ap (λ (x : Inherited ℕ ℕ). drawn_after x o.fresh) o.context ∙ new_drawn facts base depth path new.labels o.fresh n seen path_deep t)
      (subst (λ (k : ℕ). o.fresh ≤ k) (sym count) least.0) (subst (λ (k : ℕ). k ≤ o.fresh + 1) (sym count) least.1) (omega (arith, fresh_most, room))

  abbrev now : Numbering
  now = numbering.now

  grown_now : KeepsNumbers to now
  grown_now = grown_then to drawn_labels.now now drawn_labels.grown numbering.grown

  -- ---- owners

  own_count : IfSome o.frame.own (λ k. k ≡ length before)
  own_count = IfSome_then o.frame.own (own_number_is here.skipped (same_node nat_eq here.subject seen.object) n o.frame.own o.own) (λ k e. e ∙ owners_count)

  under_count : IfSome o.frame.below (λ k. k ≡ length (before ++ own_in layer))
  under_count = under_number_is here.skipped (same_node nat_eq here.subject seen.object) n before (Of path) o.frame.context.subject here.subject o.frame.own o.frame.below
      (object_below (moment new.labels o.fresh 0 0) at_n here) owners_count o.own o.below_own

  own_before : owner_place (before ++ own_in layer) (Of path) ≡ o.frame.own
  own_before = place_back before (own_in layer) (Of path) (deep_none (Of path) refl) ∙ begun_place o.frame.own (Of path) o.frame.context.subject (length before) own_count

  own_placed : owner_place opened (Of path) ≡ o.frame.own
  own_placed = go o.frame.own own_before
    where
      go : (p : Option ℕ) → owner_place (before ++ own_in layer) (Of path) ≡ p → owner_place opened (Of path) ≡ p
      go None e = place_none (before ++ own_in layer) (under_in layer) (Of path) e (begun_none o.frame.below (Below path) (Of path) o.frame.context.object (λ q. absurd (cc q)))
      go (Some k) e = place_front (before ++ own_in layer) (under_in layer) (Of path) k e

  under_none_before : owner_place (before ++ own_in layer) (Below path) ≡ None
  under_none_before = place_none before (own_in layer) (Below path) (deep_none (Below path) refl) (begun_none o.frame.own (Of path) (Below path) o.frame.context.subject (λ q. absurd (cc q)))

  under_placed : owner_place opened (Below path) ≡ o.frame.below
  under_placed = place_back (before ++ own_in layer) (under_in layer) (Below path) under_none_before ∙ begun_place o.frame.below (Below path) o.frame.context.object (length (before ++ own_in layer)) under_count

  apart_now : OwnersDiffer opened
  apart_now = apart_begun (before ++ own_in layer) o.frame.below (Below path) o.frame.context.object
      (apart_begun before o.frame.own (Of path) o.frame.context.subject (apart_open base to state.kept layers r.each) (deep_none (Of path) refl)) under_none_before

  grown_owners : KeepsNumbers (owner_place before) (owner_place opened)
  grown_owners = grown_then (owner_place before) (owner_place (before ++ own_in layer)) (owner_place opened) (grown_open before (own_in layer)) (grown_open (before ++ own_in layer) (under_in layer))

  -- ---- the element by names and by numbers

  author_is : (l : Chars) → Among (labels facts) l → numbered_name now (Author l) ≡ Number (unwrap_or (label_number new.labels l) 0)
  author_is l a =
      let k = drawn_labels.has l a in
      let e = numbering.grown.keeps (Author l) k.0 k.1 in
      ap (name_by (Author l)) e ∙ ap (λ (x : Option ℕ). Number (unwrap_or x 0)) (sym (sym (numbering.numbers.label l) ∙ e))

  seen_is : rename_inherited Number Number seen ≡ rename_inherited (numbered_name now) (numbered_name (owner_place opened)) around
  seen_is = inherited_later to now grown_now (owner_place before) (owner_place opened) grown_owners seen around
      (ap₂ (λ (p : Inherited ℕ ℕ) (f : List Frame). rename_inherited Number Number (handed_on p f)) page r.frames ∙ handed_now to base state.kept layers r.each
      ∙ ap (λ (s : List (Standing Bnode Owner)). rename_inherited (numbered_name to) (numbered_name (owner_place before)) (inherit model base s)) (sym r.standings))

  meets : Meets facts base depth path now (owner_place opened) new.labels o.fresh n around seen
  meets = record {
    deep = path_deep;
    same = same_names same_bnode exact_bnodes now numbering.numbers.one_to_one;
    authors = author_is;
    alike = seen_is;
    made = numbering.new;
    begun = own_placed ∙ o.own;
    begun_below = under_placed ∙ o.below_own;
  }

  -- ---- lists

  abbrev v : Option (Term ℕ)
  v = value_now (rule (moment new.labels o.fresh 0 0) base facts here) facts

  abbrev xs : Puts
  xs = entries_by moments Some v at_n here

  merged_now : Merged (owner_place opened) (numbered_name now) xs (reserved model base at)
  merged_now = merged (owner_place opened) (numbered_name now) xs (reserved model base at) (entries_meet facts base depth path now (owner_place opened) new.labels o.fresh n around seen meets)

  abbrev ys : OwnedSlots
  ys = merged_now.slots

  only_names : Only path (reserved model base at)
  unfolding reserved
  only_names = entries_all model Full (slot_of path (value_now (rule_at model base at) facts)) at (resources model base at) (ItemWaits (λ r. r ≡ path)) tt (λ t. tt) (λ s b p a. only_of path (value_now (rule_at model base at) facts))

  only_ys : Only path ys
  only_ys = renamed_wait Number (numbered_name now) (λ r. r ≡ path) ys (reserved model base at) merged_now.renamed only_names

  abbrev owners2 : List (Option Owning)
  owners2 = with_owner o.frame.below o.frame.context.object (with_owner o.frame.own o.frame.context.subject state.owners)

  context_is : o.frame.context ≡ handed moments at_n here
  context_is = o.context ∙ below_as new.labels o.fresh base at_n here n

  lists_are : new.owners ≡ put_entries xs owners2
  lists_are = o.lists ∙ lists_as moments at_n here n (next_number at_n here n) state.owners o.frame.own o.frame.below o.frame.context o.own o.below_own context_is v

  abbrev waiters : List Waiter
  waiters = map waiter_of layers

  within_now : (k : ℕ) → length before ≤ k → Within k waiters
  within_now k e = within_more (length before) k waiters e (all_within base to state.kept layers r.each)

  begun_tables : FillUp opened waiters owners2 slots
  begun_tables =
      let e = with_length before o.frame.own (Of path) o.frame.context.subject o.frame.context.subject state.owners owners_count in
      let f = length-append before (own_in layer) in
      with_fill_up (before ++ own_in layer) o.frame.below (Below path) o.frame.context.object waiters (with_owner o.frame.own o.frame.context.subject state.owners) slots
      (r.unbegun (Below path) (inl (next_coming m.path m.next)) (deep_none (Below path) refl))
      (within_now (length (with_owner o.frame.own o.frame.context.subject state.owners)) (omega (arith, e, f)))
      (with_fill_up before o.frame.own (Of path) o.frame.context.subject waiters state.owners slots (r.unbegun (Of path) (inl (next_coming m.path m.next)) (deep_none (Of path) refl))
      (within_now n (omega (arith, owners_count))) r.tables)

  tables_after : (puts : Puts) (more : OwnedSlots) → Match (owner_place opened) puts more → Only path more → FillUp opened waiters (put_entries puts owners2) (slots ++ more)
  tables_after puts more k h = put_fill_up opened apart_now puts more k waiters (none_waits path layers more other_path h) owners2 slots begun_tables

  quiet : is_awaited path slots ≡ false
  quiet = none_waiting path slots (waits_weaker (WaitsFor (paths_in layers)) (λ o q. ¬ (q ≡ path)) (λ o q h. other_path q h.0) slots r.waiting)

  -- ---- the places of its text

  abbrev Told : Text → Type 0
  Told = Gathers facts here (places_at new.labels o.fresh base (level_at depth) seen facts state.owners) (length (encode_utf8_all state.kept))

  abbrev owner_here : ℕ
  owner_here = own_owner moments at_n here

  abbrev front : Puts
  front = linked moments Some None at_n here here.object ++ touched moments Some None at_n here

  abbrev back : Puts
  back = filter_map (awaited moments Some None at_n here) seen.hanging

  abbrev gathered : Bool
  gathered = not here.skipped && (is_some facts.property && is_none v)

  abbrev here_places : List SlotId
  here_places = places_for owner_here (listed facts.property) (put_entries front owners2)

  places_are : here.skipped ≡ false → places_at new.labels o.fresh base (level_at depth) seen facts state.owners ≡ (if facts.inlist then here_places else [])
  places_are s = ap (λ (os : List (Option Owning)). if facts.inlist then places_for owner_here (listed facts.property) (put_entries front os) else [])
      (begun_now moments at_n here n (next_number at_n here n) state.owners o.frame.own o.frame.below o.frame.context o.own o.below_own context_is s)

  abbrev Fill : Option Text → Type 0
  Fill t = FillsAtEnd path (text_places t) (λ os ss. FillUp opened waiters os ss) (put_entries xs owners2) (slots ++ ys) × WithinOption (length opened) (text_places t)

  no_value : (facts.inlist ≡ true → (p : Chars) → Among (listed facts.property) p → here.skipped ≡ false → Filled (Some v)) → is_awaited path (slots ++ ys) ≡ false
  no_value k = waits_both path slots ys quiet (match_quiet (owner_place opened) path xs ys merged_now.match (entries_all moments Some v at_n here Filled tt (λ t. tt) (λ s b p a. k b p a s)))

  filled_front : AllItems (λ o. Filled) front
  filled_front = front_all moments Some None at_n here Filled tt (λ t. tt)

  filled_back : AllItems (λ o. Filled) back
  filled_back = awaited_all moments Some None at_n here Filled tt (λ t. tt) seen.hanging

  -- with inlist
  fill_listed : (t : Text) → here.skipped ≡ false → facts.inlist ≡ true → v ≡ None → t.slots ≡ here_places → Fill (Some t)
  fill_listed t s b e q =
      let parts = entries_parts moments at_n here v s b e in
      let R : Puts = map (entry owner_here (Some None)) (listed facts.property) in (
        (
          subst₂ (λ (p : List SlotId) (l : Puts). HasPlaces p (put_entries l owners2)) (sym q) (sym parts) (places_had owner_here (listed facts.property) front back owners2),
          λ u.
              let filled : fill_all t.slots u (put_entries xs owners2) ≡ put_entries (map (valued_entry u) xs) owners2 =
              ap₂ (λ (p : List SlotId) (l : Puts). fill_all p u (put_entries l owners2)) q parts ∙ places_filled_in owner_here (listed facts.property) front back owners2 u
              ∙ ap (λ (l : Puts). put_entries l owners2) (sym (valued_parts u owner_here (listed facts.property) front back filled_front filled_back) ∙ ap (map (valued_entry u)) (sym parts)) in
              subst₂ (λ (os : List (Option Owning)) (ss : OwnedSlots). FillUp opened waiters os ss) (sym filled)
              (sym (map-append (map_entry (fill_slot path u)) slots ys ∙ ap (λ (l : OwnedSlots). l ++ fill path u ys) (fill_quiet path u slots quiet)))
              (tables_after (map (valued_entry u) xs) (fill path u ys) (match_valued (owner_place opened) path u xs ys merged_now.match only_ys) (waits_weaker (λ o q. (q ≡ path) × ¬ (q ≡ path)) (λ o q. q ≡ path) (λ o q h. h.0) (fill path u ys) (filled_wait (λ o q. q ≡ path) path u ys only_ys))),
        ),
        subst (WithinPlaces (length opened)) (sym q) (places_within (length opened) owner_here (listed facts.property) (put_entries front owners2)
            (λ p a. match_bound opened xs ys merged_now.match (entry owner_here (Some None) p)
            (subst (λ (l : Puts). Among l (entry owner_here (Some None) p)) (sym parts)
            (Among_left (front ++ R) back (entry owner_here (Some None) p) (Among_right front R (entry owner_here (Some None) p) (Among_map (entry owner_here (Some None)) (listed facts.property) p a)))))),
      )

  fill_said : (t : Text) → facts.inlist ≡ false → t.slots ≡ [] → Fill (Some t)
  fill_said t b q =
      let still = no_value (λ c. absurd (cc (b, c))) in (
        (
          subst (λ (p : List SlotId). HasPlaces p (put_entries xs owners2)) (sym q) tt,
          λ u. subst₂ (λ (os : List (Option Owning)) (ss : OwnedSlots). FillUp opened waiters os ss) (sym (ap (λ (p : List SlotId). fill_all p u (put_entries xs owners2)) q)) (sym (fill_quiet path u (slots ++ ys) still)) (tables_after xs ys merged_now.match only_ys),
        ),
        subst (WithinPlaces (length opened)) (sym q) tt,
      )

  fill_text : (t : Option Text) → is_some t ≡ gathered → IfSome t Told → Fill t
  fill_text None e g = ((no_value (λ b p a s. filled_by here.skipped facts.property v e s p a), tables_after xs ys merged_now.match only_ys), tt)
  fill_text (Some t) e g =
      let k = gathering here.skipped facts.property v e in
      let q = g.slots ∙ places_are k.0 in
      by_test facts.inlist (λ b. fill_listed t k.0 b k.1 (q ∙ ap (λ (c : Bool). if c then here_places else []) b)) (λ b. fill_said t b (q ∙ ap (λ (c : Bool). if c then here_places else []) b))

  filled_now : Fill o.frame.text
  filled_now = fill_text o.frame.text o.gathers o.text

  -- ---- the triples and the value that its text is

  said_none : (s : Bool) (property : Option (List Chars)) (w : Option (Term ℕ)) (chars : Chars) → facts.property ≡ property → false ≡ (not s && (is_some property && is_none w))
      → [] ≡ (if s then [] else properties_by moments base at_n here (text_value w (value_of_text (rule moments base facts here) facts chars)))
  said_none true property w chars p g = refl
  said_none false property (Some t) chars p g = refl
  said_none false None None chars p g = by_test facts.inlist (λ t. rw t refl) (λ f. rw (f, p) refl)
  said_none false (Some ps) None chars p g = absurd (cc)

  said_some : (t : Text) (chars : Chars) → here.skipped ≡ false → v ≡ None → Told t
      → said_triples t.said t.subject (text_literal t.by chars) ≡ (if here.skipped then [] else properties_by moments base at_n here (text_value v (value_of_text (rule moments base facts here) facts chars)))
  said_some t chars s e g =
      (λ i. said_triples (g.said i) (g.subject i) (g.rule.literal moments base here e chars i))
      ∙ listed_or
      ∙ sym (ap₂ (λ (b : Bool) (w : Option (Term ℕ)). if b then [] else properties_by moments base at_n here (text_value w (value_of_text (rule moments base facts here) facts chars))) s e)
    where
      listed_or : said_triples (if facts.inlist then None else Some (listed facts.property)) here.subject (value_of_text (rule moments base facts here) facts chars)
          ≡ (if facts.inlist then [] else map (λ p. spo here.subject p (value_of_text (rule moments base facts here) facts chars)) (listed facts.property))
      listed_or = by_test facts.inlist (λ t. rw t refl) (λ f. rw f refl)

  said_by : (t : Option Text) (chars : Chars) → is_some t ≡ gathered → IfSome t Told
      → text_triples t chars ≡ (if here.skipped then [] else properties_by moments base at_n here (text_value v (value_of_text (rule moments base facts here) facts chars)))
  said_by None chars e g = said_none here.skipped facts.property v chars refl e
  said_by (Some t) chars e g = let k = gathering here.skipped facts.property v e in said_some t chars k.0 k.1 g

  said_now : (chars : Chars) → map (rename Number) (text_triples o.frame.text chars) ≡ map (rename (numbered_name now)) (end_of model base at chars)
  said_now chars =
      ap (map (rename Number)) (said_by o.frame.text chars o.gathers o.text ∙ sym (ends_are (moment new.labels o.fresh 0 0) base at_n chars))
      ∙ sym (end_meets facts base depth path now (owner_place opened) new.labels o.fresh n around seen meets chars)

  value_by : (t : Option Text) → is_some t ≡ gathered → IfSome t Told → IfSome t (λ t. (chars : Chars) → rename_term Number (text_literal t.by chars) ≡ rename_term (numbered_name now) (value_at model base at chars))
  value_by None e g = tt
  value_by (Some t) e g =
      let k = gathering here.skipped facts.property v e in
      λ chars. ap (rename_term Number) (g.rule.literal (moment new.labels o.fresh 0 0) base here k.1 chars
      ∙ ap (λ (w : Option (Term ℕ)). unwrap_or w (value_of_text (rule (moment new.labels o.fresh 0 0) base facts here) facts chars)) (sym k.1))
      ∙ sym (value_meets facts base depth path now (owner_place opened) new.labels o.fresh n around seen meets chars)

  mark_by : (t : Option Text) → IfSome t Told → IfSome t (λ t. KeptAt state.kept t.mark [])
  mark_by None g = tt
  mark_by (Some t) g = record { front = state.kept; cut = record { whole = sym (append-nil state.kept); size = g.begins } }

  -- ---- the layer

  subject_by : (s : Bool) → here.skipped ≡ s → (own : Option ℕ) → own ≡ (if s then None else owner_begun here.subject seen.object n) → IfSome own (λ k. rename_node Number o.frame.context.subject ≡ rename_node (numbered_name now) (resources model base at).subject)
  subject_by true e None q = tt
  subject_by true e (Some k) q = absurd (cc q)
  subject_by false e None q = tt
  subject_by false e (Some k) q =
      ap (λ (x : Inherited ℕ ℕ). rename_node Number x.subject) context_is ∙ ap (rename_node Number) (handed_new moments [] at_n here e).0
      ∙ sym (ap (λ (x : Resources (Name Bnode)). x.subject) (resources_meet facts base depth path now (owner_place opened) new.labels o.fresh n around seen meets))

  layer_stands : LayerStands now base state.kept layer layers
  layer_stands = record {
    deep = path_is;
    inside = r.path;
    context = ap (rename_inherited Number Number) o.context ∙ sym (below_meets facts base depth path now (owner_place opened) new.labels o.fresh n around seen meets);
    own = own_count;
    subject = subject_by here.skipped refl o.frame.own o.own;
    under = under_count;
    gathers = o.gathers ∙ sym (gathers_meet facts base depth path now (owner_place opened) new.labels o.fresh n around seen meets);
    said = said_now;
    value = value_by o.frame.text o.gathers o.text;
    marked = mark_by o.frame.text o.text;
    places = filled_now.1;
  }

  layers_stand : LayersStand now base state.kept (layer ∷ layers)
  layers_stand = (layer_stands, layers_later to now grown_now base state.kept state.kept layers (inr (λ m t k. k)) r.each)

  -- ---- what is still to come

  unmade_now : (q : Path) → Coming path 0 q → now (Made q) ≡ None
  unmade_now q c = numbering.made q (inside_not m.path m.next q c) ∙ drawn_labels.made q ∙ r.unmade q (inside_coming m.path m.next q c)

  pending_at : (q : Path) → Coming path 0 q ⊎ Among (paths_in (layer ∷ layers)) q → Coming m.path m.next q ⊎ Among (paths_in layers) q
  pending_at q (inl c) = inl (inside_coming m.path m.next q c)
  pending_at q (inr (inl e)) = inl (subst (Coming m.path m.next) e (next_coming m.path m.next))
  pending_at q (inr (inr a)) = inr a

  pending_before : (w : Owner) → OwnerPending (layer ∷ layers) path 0 w → OwnerPending layers m.path m.next w
  pending_before First h = tt
  pending_before (Of q) h = pending_at q h
  pending_before (Below q) h = pending_at q h

  unbegun_now : (w : Owner) → OwnerPending (layer ∷ layers) path 0 w → owner_place opened w ≡ None → of_owner same_owner w (slots ++ ys) ≡ []
  unbegun_now w h e =
      filter-append (λ (x : ListEntry Owner (Slot ℕ)). same_owner x.owner w) slots ys
      ∙ ap₂ ◌++◌ (r.unbegun w (pending_before w h) (none_before before (own_in layer) w (none_before (before ++ own_in layer) (under_in layer) w e)))
      (none_of w ys (match_none opened w e xs ys merged_now.match))

  -- ---- the state after it

  abbrev started : List (Triple ℕ)
  started = start_of (moment new.labels o.fresh 0 0) base at_n

  abbrev state_now : State
  state_now = record new { base = base; frames = frames_in layers ++ o.frame ∷ []; cells = state.cells; owners = put_entries xs owners2; kept = state.kept; out = state.out ++ started }

  state_is : state_now ≡ new
  state_is = λ i. record new {
    base = sym o.rest.0 i;
    frames = sym (o.pushed ∙ ap (λ (f : List Frame). f ++ o.frame ∷ []) r.frames) i;
    cells = sym o.rest.3 i;
    owners = sym lists_are i;
    kept = sym o.rest.4 i;
    out = sym o.start i;
  }

  started_is : map (rename Number) (state.out ++ started) ≡ map (rename (numbered_name now)) (m.out ++ start_of model base at)
  started_is =
      map-append (rename Number) state.out started
      ∙ ap₂ ◌++◌ (triples_later to now grown_now state.out m.out r.out) (sym (start_meets facts base depth path now (owner_place opened) new.labels o.fresh n around seen meets))
      ∙ sym (map-append (rename (numbered_name now)) m.out (start_of model base at))

  slots_are : map (map_entry (rename_slot Number)) (slots ++ ys) ≡ map (map_entry (rename_slot (numbered_name now))) (m.slots ++ reserved model base at)
  slots_are =
      map-append (map_entry (rename_slot Number)) slots ys ∙ ap₂ ◌++◌ (slots_later to now grown_now slots m.slots r.by_names) merged_now.renamed
      ∙ sym (map-append (map_entry (rename_slot (numbered_name now))) m.slots (reserved model base at))

  runs_now : RunsBy now (enter model base facts m) state_now (layer ∷ layers) (slots ++ ys)
  runs_now = record {
    numbers = numbering.numbers;
    frames = refl;
    standings = ap (λ (s : List (Standing Bnode Owner)). at ∷ s) r.standings;
    texts = ap (λ (s : List Chars). [] ∷ s) r.texts;
    path = refl;
    each = layers_stand;
    by_names = slots_are;
    tables = (tables_now opened waiters (put_entries xs owners2) (slots ++ ys) (tables_after xs ys merged_now.match only_ys), filled_now.0);
    waiting = all_append (λ o. ItemWaits (WaitsFor (path ∷ paths_in layers) o)) slots ys (waits_weaker (WaitsFor (paths_in layers)) (WaitsFor (path ∷ paths_in layers)) (λ o q h. (inr h.0, h.1)) slots r.waiting) (match_waits opened path (paths_in layers)
        (λ w k e. let d = placed_depth base now state.kept (layer ∷ layers) layers_stand w k e in omega (arith, d, path_is)) xs ys merged_now.match only_ys);
    unmade = unmade_now;
    uncelled = λ w h p i. numbering.cell w p i ∙ drawn_labels.cell w p i ∙ r.uncelled w (pending_before w h) p i;
    unbegun = unbegun_now;
    out = started_is;
    rootless = λ e. absurd (cc e);
  }

  -- the state after the start tag is the machine's, under the numbering that has grown
  pub record Entered : Type 0 where
    pub numbers : Numbering
    pub grown : KeepsNumbers to numbers
    pub layers_after : List Layer
    pub slots_after : OwnedSlots
    pub runs : RunsBy numbers (enter model state.base facts m) new layers_after slots_after

  pub entered_runs : Entered
  entered_runs = record {
    numbers = now;
    grown = grown_now;
    layers_after = layer ∷ layers;
    slots_after = slots ++ ys;
    runs = subst (λ (s : State). RunsBy now (enter model base facts m) s (layer ∷ layers) (slots ++ ys)) state_is runs_now;
  }
