-- One element by the rules' names and by numbers.
use Rattle.rx_eval.proofs.Common.{and_from, if◌then◌else◌, option_or, Chars, then_some, Among, Node, Blank, Term, Triple, same_node, rename_node, rename_term, rename, Path, Naming, Bnode, Author, Made, Owner, Of, Below, same_bnode, model, Facts, Rule, rule, value_now, value_of_text, value, entries_by, rename_entry, rename_resources, rename_rule, rename_inherited, rename_standing, labels, AgreeAt, ◌≡◌, ◌∙◌, ℕ, suc, Bool, true, false, List, [], ◌++◌, map, filter_map, length, Option, Some, None, option_map, is_none, nat_eq, refl, sym, ap, ap₂, not, ◌&&◌, is_some, unwrap_or, or_left, or_right, Inherited, Standing, Resources, hangs, object_below, handed, of_vocabulary, types_by, links_by, properties_by, completed, text_value, Slot, Full, Waiting, slot_of, rule_at, Numbered, label_number, moment, level_at, path_at, standing_by, Numbering, Name, Number, name_by, numbered_name, same_name, next_number, owner_begun, owner_for}
use Rattle.rx_rdfa.specs.Resources.{resources}
use Rattle.rx_rdfa.specs.Inherited.{below}
use Rattle.rx_rdfa.specs.Element.{start_of, end_of}
use Rattle.rx_rdfa.specs.Machine.{value_at, reserved}
use Rattle.rx_rdfa.proofs.Sent.{map_or, map_then}
use Rattle.rx_rdfa.proofs.RenamedResources.{same_nodes, resources_rename, below_rename, hangs_is}
use Rattle.rx_rdfa.proofs.RenamedElement.{rule_rename, value_now_rename, value_rename, start_rename, end_rename}
use Rattle.rx_rdfa.proofs.RenamedLists.{entries_by_rename}
use Rattle.rx_eval.specs.Standing.{gathers_text}
use Rattle.rx_eval.proofs.OtherLemmas.{level_is, makes_resource, makes_new, other, resources_other, handed_other, entries_other}

-- the value that is in a slot
abbrev pub slot_value : {B C : Type 0} → (B → C) → Slot B → Option (Term C)
slot_value f (Full v) = Some (rename_term f v)
slot_value f (Waiting r) = None

slot_of_value : {B C : Type 0} (f : B → C) (path : Path) (w : Option (Term B)) → slot_value f (slot_of path w) ≡ option_map (rename_term f) w
slot_of_value f path None = refl
slot_of_value f path (Some v) = refl

none_mapped : {A B : Type 0} (f : A → B) (o : Option A) → is_none (option_map f o) ≡ is_none o
none_mapped f None = refl
none_mapped f (Some a) = refl

-- ---- parts by the resources at hand

module _ {B O : Type 0} (n : Naming B O) (base : Chars) (at : Standing B O) where
  abbrev pub starts : Resources B → List (Triple B)
  starts here =
      of_vocabulary n base at
      ++ (if here.skipped then []
      else types_by n base at here.typed ++ links_by n base at here here.object
      ++ properties_by n base at here (value_now (rule n base at.facts here) at.facts)
      ++ filter_map (completed n base at here) at.around.hanging)

  abbrev pub ends : Chars → Resources B → List (Triple B)
  ends chars here =
      if here.skipped then []
      else properties_by n base at here (text_value (value_now (rule n base at.facts here) at.facts) (value_of_text (rule n base at.facts here) at.facts chars))

  pub starts_are : start_of n base at ≡ starts (resources n base at)
  unfolding start_of
  starts_are = refl

  pub ends_are : (chars : Chars) → end_of n base at chars ≡ ends chars (resources n base at)
  unfolding end_of
  ends_are chars = refl

  pub below_is : below n base at ≡ handed n at (resources n base at)
  unfolding below
  below_is = refl

  value_is : (chars : Chars) → value_at n base at chars ≡ value (rule n base at.facts (resources n base at)) at.facts chars
  unfolding value_at
  value_is chars = refl

module _ (facts : Facts) (base : Chars) (depth : ℕ) (path : Path) (to : Numbering) (own : Owner → Option ℕ) (list : Numbered) (fresh n : ℕ) (around : Inherited Bnode Owner) (seen : Inherited ℕ ℕ) where
  -- the element by the rules' names
  abbrev pub by_names : Standing Bnode Owner
  by_names = record { facts = facts; path = path; around = around }

  -- by numbers
  abbrev pub by_numbers : Standing ℕ ℕ
  by_numbers = standing_by (level_at depth) seen facts

  abbrev pub here_by : Resources ℕ
  here_by = resources (moment list fresh 0 0) base by_numbers

  abbrev pub naming_now : Naming ℕ ℕ
  naming_now = moment list fresh n (next_number by_numbers here_by n)

  -- the element's names have these numbers, as far as it asks for them
  pub record Meets : Type 0 where
    pub deep : length path ≡ suc depth
    pub same : (a b : Bnode) → same_bnode a b ≡ same_name same_bnode (numbered_name to a) (numbered_name to b)
    pub authors : (l : Chars) → Among (labels facts) l → numbered_name to (Author l) ≡ Number (unwrap_or (label_number list l) 0)
    pub alike : rename_inherited Number Number seen ≡ rename_inherited (numbered_name to) (numbered_name own) around
    pub made : makes_new facts path here_by ≡ true → to (Made path) ≡ Some fresh
    pub begun : own (Of path) ≡ (if here_by.skipped then None else owner_begun here_by.subject seen.object n)
    pub begun_below :
        own (Below path) ≡ (if here_by.skipped then None else owner_for (object_below (moment list fresh 0 0) by_numbers here_by) here_by.subject (next_number by_numbers here_by n))

  module _ (meets : Meets) where
    abbrev N : Type 0
    N = Name Bnode

    abbrev W : Type 0
    W = Name Owner

    abbrev f : Bnode → N
    f = numbered_name to

    abbrev g : Owner → W
    g = numbered_name own

    abbrev Q : Naming N W
    Q = record {
      author = λ l. f (Author l);
      made = λ r. Number fresh;
      cell = λ o p i. Number 0;
      of = λ r. Number n;
      below = λ r. Number (next_number by_numbers here_by n);
      first = Number 0;
      same = same_name same_bnode;
      same_owner = λ a b. false;
    }

    abbrev P : Naming N W
    P = other Q (f (Made path)) (g (Of path)) (g (Below path))

    agree_names : AgreeAt f g model P facts path
    agree_names = record { author = λ l a. refl; made = refl; of = refl; below = refl; same = meets.same }

    agree_numbers : AgreeAt Number Number naming_now Q facts (path_at (level_at depth))
    agree_numbers = record { author = λ l a. sym (meets.authors l a); made = refl; of = refl; below = refl; same = λ a b. refl }

    abbrev at : Standing N W
    at = record { facts = facts; path = path; around = rename_inherited Number Number seen }

    abbrev there : Standing N W
    there = rename_standing Number Number by_numbers

    abbrev here : Resources N
    here = rename_resources Number here_by

    at_level : resources Q base at ≡ resources Q base there
    unfolding resources
    at_level = let l = level_is depth path meets.deep in rw (l.0, l.1) (refl {a = resources Q base there})

    here_now : rename_resources Number here_by ≡ resources Q base there
    unfolding resources
    here_now = resources_rename Number Number naming_now Q base by_numbers agree_numbers

    moves : {X : Type 0} (k : Standing N W → X) → k (rename_standing f g by_names) ≡ k at
    moves k = ap (λ (x : Inherited N W). k (record { facts = facts; path = path; around = x })) (sym meets.alike)

    new_name : makes_new facts path here_by ≡ true → f (Made path) ≡ Number fresh
    new_name h = ap (name_by (Made path)) (meets.made h)

    -- the resources
    here_named : resources P base at ≡ here
    here_named =
        resources_other Q base at (f (Made path)) (g (Of path)) (g (Below path)) (λ h. ap Blank (new_name (or_left _ _ h)))
        ∙ at_level ∙ sym here_now

    here_model : rename_resources f (resources model base by_names) ≡ here
    here_model = resources_rename f g model P base by_names agree_names ∙ moves (resources P base) ∙ here_named

    -- ---- what the element hands on, and the entries of lists, where other names aren't asked for

    same_node_is : (x y : Node ℕ) → same_node nat_eq x y ≡ same_node (same_name same_bnode) (rename_node Number x) (rename_node Number y)
    same_node_is = same_nodes Number nat_eq (same_name same_bnode) (λ a b. refl)

    hangs_here : hangs facts here_by ≡ hangs facts here
    hangs_here = hangs_is Number Number naming_now Q by_numbers agree_numbers here_by

    other_new : here_by.skipped ≡ false → hangs facts here ≡ true → f (Made path) ≡ Number fresh
    other_new s h = new_name (or_right (makes_resource facts path) (not here_by.skipped && hangs facts here_by) (and_from _ _ (ap not s) (hangs_here ∙ h)))

    begun_by : (s t : Bool) (w : Owner) (x : ℕ) → own w ≡ (if s then None else (if t then None else Some x)) → s ≡ false → t ≡ false → name_by w (own w) ≡ Number x
    begun_by s t w x e p q = rw (e, p, q) refl

    other_own : here_by.skipped ≡ false → same_node (same_name same_bnode) here.subject (rename_node Number seen.object) ≡ false → g (Of path) ≡ Number n
    other_own s t = begun_by here_by.skipped (same_node nat_eq here_by.subject seen.object) (Of path) n meets.begun s (same_node_is here_by.subject seen.object ∙ t)

    below_named : object_below Q at here ≡ option_map (rename_node Number) (object_below (moment list fresh 0 0) by_numbers here_by)
    below_named =
        sym (map_or (rename_node Number) here_by.object (then_some (hangs facts here_by) (Blank fresh))
        ∙ ap (option_or (option_map (rename_node Number) here_by.object)) (map_then (rename_node Number) (hangs facts here_by) (Blank fresh) ∙ ap (λ (b : Bool). then_some b (Blank (Number fresh))) hangs_here))

    other_below : here_by.skipped ≡ false → (object : Node N) → object_below Q at here ≡ Some object → same_node (same_name same_bnode) object here.subject ≡ false → g (Below path) ≡ Number (next_number by_numbers here_by n)
    other_below s object e t = under (object_below (moment list fresh 0 0) by_numbers here_by) (sym below_named ∙ e) meets.begun_below
      where
        under : (o : Option (Node ℕ)) → option_map (rename_node Number) o ≡ Some object
            → own (Below path) ≡ (if here_by.skipped then None else owner_for o here_by.subject (next_number by_numbers here_by n)) → g (Below path) ≡ Number (next_number by_numbers here_by n)
        under None q b = absurd (cc)
        under (Some x) q b =
            let z : rename_node Number x ≡ object = cc in
            begun_by here_by.skipped (same_node nat_eq x here_by.subject) (Below path) (next_number by_numbers here_by n) b s
            (same_node_is x here_by.subject ∙ ap (λ (y : Node N). same_node (same_name same_bnode) y here.subject) z ∙ t)

    handed_named : handed P at here ≡ handed Q at here
    handed_named = handed_other Q base at (f (Made path)) (g (Of path)) (g (Below path)) here (λ s h. ap Blank (other_new s h)) other_own other_below

    entries_named : {T : Type 0} (full : Term N → T) (v : T) → entries_by P full v at here ≡ entries_by Q full v at here
    entries_named full v = entries_other Q base at (f (Made path)) (g (Of path)) (g (Below path)) here (λ s h. ap Blank (other_new s h)) other_own other_below full v

    -- ---- the element by its names is the element by its numbers

    pub resources_meet : rename_resources f (resources model base by_names) ≡ rename_resources Number here_by
    resources_meet = here_model

    pub below_meets : rename_inherited f g (below model base by_names) ≡ rename_inherited Number Number (below naming_now base by_numbers)
    below_meets =
        below_rename f g model P base by_names agree_names ∙ moves (below P base) ∙ below_is P base at ∙ ap (handed P at) here_named ∙ handed_named
        ∙ ap (handed Q there) here_now ∙ sym (below_is Q base there) ∙ sym (below_rename Number Number naming_now Q base by_numbers agree_numbers)

    -- owners' names aren't asked for at the start
    start_naming : start_of naming_now base by_numbers ≡ start_of (moment list fresh 0 0) base by_numbers
    unfolding start_of resources
    start_naming = refl

    end_naming : (chars : Chars) → end_of naming_now base by_numbers chars ≡ end_of (moment list fresh 0 0) base by_numbers chars
    unfolding end_of resources
    end_naming chars = refl

    pub start_meets : map (rename f) (start_of model base by_names) ≡ map (rename Number) (start_of (moment list fresh 0 0) base by_numbers)
    start_meets =
        start_rename f g model P base by_names agree_names ∙ moves (start_of P base) ∙ starts_are P base at ∙ ap (starts P base at) here_named
        ∙ ap (starts Q base there) here_now ∙ sym (starts_are Q base there) ∙ sym (start_rename Number Number naming_now Q base by_numbers agree_numbers)
        ∙ ap (map (rename Number)) start_naming

    pub end_meets : (chars : Chars) → map (rename f) (end_of model base by_names chars) ≡ map (rename Number) (end_of (moment list fresh 0 0) base by_numbers chars)
    end_meets chars =
        end_rename f g model P base by_names agree_names chars ∙ moves (λ (x : Standing N W). end_of P base x chars) ∙ ends_are P base at chars ∙ ap (ends P base at chars) here_named
        ∙ ap (ends Q base there chars) here_now ∙ sym (ends_are Q base there chars) ∙ sym (end_rename Number Number naming_now Q base by_numbers agree_numbers chars)
        ∙ ap (map (rename Number)) (end_naming chars)

    abbrev rule_here : Rule ℕ
    rule_here = rule (moment list fresh 0 0) base facts here_by

    -- the rule by which its property has its value
    rule_named : rename_rule f (rule_at model base by_names) ≡ rename_rule Number rule_here
    rule_named =
        rule_rename f g model P base by_names agree_names (resources model base by_names) ∙ ap (rule P base facts) here_model
        ∙ sym (rule_rename Number Number naming_now Q base by_numbers agree_numbers here_by)

    pub value_meets : (chars : Chars) → rename_term f (value_at model base by_names chars) ≡ rename_term Number (value rule_here facts chars)
    value_meets chars =
        ap (rename_term f) (value_is model base by_names chars) ∙ value_rename f (rule_at model base by_names) facts chars
        ∙ ap (λ (r : Rule N). value r facts chars) rule_named ∙ sym (value_rename Number rule_here facts chars)

    -- whether its value is its text
    none_named : is_none (value_now (rule_at model base by_names) facts) ≡ is_none (value_now rule_here facts)
    none_named =
        sym (none_mapped (rename_term f) (value_now (rule_at model base by_names) facts))
        ∙ ap is_none (value_now_rename f (rule_at model base by_names) facts ∙ ap (λ (r : Rule N). value_now r facts) rule_named ∙ sym (value_now_rename Number rule_here facts))
        ∙ none_mapped (rename_term Number) (value_now rule_here facts)

    pub gathers_meet : gathers_text model base by_names ≡ (not here_by.skipped && (is_some facts.property && is_none (value_now rule_here facts)))
    unfolding gathers_text
    gathers_meet = ap₂ (λ (s n : Bool). not s && (is_some facts.property && n)) (ap (λ (x : Resources N). x.skipped) resources_meet) none_named

    pub entries_meet :
        map (rename_entry Number (option_map (rename_term Number))) (entries_by naming_now Some (value_now rule_here facts) by_numbers here_by)
        ≡ map (rename_entry g (slot_value f)) (reserved model base by_names)
    unfolding reserved
    entries_meet =
        let w : Option (Term Bnode) = value_now (rule_at model base by_names) facts in
        let u : Option (Term ℕ) = value_now rule_here facts in
        let same_value : option_map (rename_term Number) u ≡ slot_value f (slot_of path w) =
        value_now_rename Number rule_here facts ∙ ap (λ (r : Rule N). value_now r facts) (sym rule_named) ∙ sym (value_now_rename f (rule_at model base by_names) facts) ∙ sym (slot_of_value f path w) in
        entries_by_rename Number Number naming_now Q (option_map (rename_term Number)) Some Some (λ x. refl) u by_numbers agree_numbers here_by
        ∙ ap (λ (v : Option (Term N)). entries_by Q Some v at here) same_value
        ∙ sym (entries_named Some (slot_value f (slot_of path w)))
        ∙ ap (entries_by P Some (slot_value f (slot_of path w)) at) (sym here_model)
        ∙ sym (moves (λ (x : Standing N W). entries_by P Some (slot_value f (slot_of path w)) x (rename_resources f (resources model base by_names))))
        ∙ sym (entries_by_rename f g model P (slot_value f) Full Some (λ x. refl) (slot_of path w) by_names agree_names (resources model base by_names))
