-- Two ways of naming blank nodes and owners: what the rules give with the one is what they give with the other, renamed.
use Rattle.std.specs.Prelude.{◌≡◌, ℕ, List, [], ◌∷◌, ◌++◌, map, flat_map, Option, Some, None, option_map}
use Rattle.rx_model.specs.Common.{Chars, Among, rename_node, rename_term, rename}
use Rattle.rx_rdfa.specs.Naming.{Path, Naming}
use Rattle.rx_rdfa.specs.Blanks.{Bnode, Owner, model}
use Rattle.rx_grammar.specs.Trees.{Nodes}
use Rattle.rx_rdfa.specs.Facts.{Facts, Ref, IriRef, LabelRef, RelativeRef}
use Rattle.rx_rdfa.specs.Resources.{Hanging, Forward, Reverse, InList, Inherited, Standing, Resources}
use Rattle.rx_rdfa.specs.Inherited.{listed}
use Rattle.rx_rdfa.specs.Value.{Rule, ByDatatype, ByContent, ByDatetime, ByTimeText, ByResource, ByTyped, ByText}
use Rattle.rx_rdfa.specs.Lists.{ListEntry}
use Rattle.rx_rdfa.specs.Machine.{Slot, Full, Waiting, Machine, run, machine_begun, finished}
use Rattle.rx_rdfa.specs.Made.{made}

-- ---- the renaming of what the rules speak of

-- an entry with its owner and its item renamed
abbrev pub rename_entry : {O P T U : Type 0} → (O → P) → (T → U) → ListEntry O T → ListEntry P U
rename_entry to_owner to_item e = record { owner = to_owner e.owner; predicate = e.predicate; item = option_map to_item e.item }

abbrev pub rename_slot : {B C : Type 0} → (B → C) → Slot B → Slot C
rename_slot to (Full term) = Full (rename_term to term)
rename_slot to (Waiting path) = Waiting path

abbrev pub rename_resources : {B C : Type 0} → (B → C) → Resources B → Resources C
rename_resources to x =
    record {
      subject = rename_node to x.subject;
      typed = option_map (rename_node to) x.typed;
      object = option_map (rename_node to) x.object;
      skipped = x.skipped;
    }

abbrev pub rename_rule : {B C : Type 0} → (B → C) → Rule B → Rule C
rename_rule to (ByDatatype datatype) = ByDatatype datatype
rename_rule to (ByContent content) = ByContent content
rename_rule to (ByDatetime datetime) = ByDatetime datetime
rename_rule to ByTimeText = ByTimeText
rename_rule to (ByResource node) = ByResource (rename_node to node)
rename_rule to (ByTyped node) = ByTyped (rename_node to node)
rename_rule to ByText = ByText

abbrev pub rename_hanging : {O P : Type 0} → (O → P) → Hanging O → Hanging P
rename_hanging to_owner (Forward p) = Forward p
rename_hanging to_owner (Reverse p) = Reverse p
rename_hanging to_owner (InList owner p) = InList (to_owner owner) p

module _ {B O C P : Type 0} (to : B → C) (to_owner : O → P) where
  abbrev pub rename_inherited : Inherited B O → Inherited C P
  rename_inherited x =
      record {
        subject = rename_node to x.subject;
        object = rename_node to x.object;
        hanging = map (rename_hanging to_owner) x.hanging;
        owner = to_owner x.owner;
      }

  abbrev pub rename_standing : Standing B O → Standing C P
  rename_standing at = record { facts = at.facts; path = at.path; around = rename_inherited at.around }

  abbrev pub rename_machine : Machine B O → Machine C P
  rename_machine m =
      record {
        standings = map rename_standing m.standings;
        path = m.path;
        next = m.next;
        texts = m.texts;
        slots = map (rename_entry to_owner (rename_slot to)) m.slots;
        out = map (rename to) m.out;
      }

-- ---- two ways of naming that agree

abbrev pub label_of : Ref → List Chars
label_of (IriRef iri) = []
label_of (LabelRef label) = label ∷ []
label_of (RelativeRef reference) = []

abbrev pub label_of_option : Option Ref → List Chars
label_of_option None = []
label_of_option (Some ref) = label_of ref

-- the labels of an element's attributes
abbrev pub labels : Facts → List Chars
labels facts =
    label_of_option facts.about
    ++ (label_of_option facts.resource
    ++ (label_of_option facts.href
    ++ (label_of_option facts.src ++ flat_map label_of (listed facts.types))))

module _ {B O C P : Type 0} (to : B → C) (to_owner : O → P) where
  -- at one element: on its labels and its place, and on which names are one
  pub record AgreeAt (n : Naming B O) (m : Naming C P) (facts : Facts) (path : Path) : Type 0 where
    pub author : (label : Chars) → Among (labels facts) label → to (n.author label) ≡ m.author label
    pub made : to (n.made path) ≡ m.made path
    pub of : to_owner (n.of path) ≡ m.of path
    pub below : to_owner (n.below path) ≡ m.below path
    pub same : (a b : B) → n.same a b ≡ m.same (to a) (to b)

  -- everywhere
  pub record Agree (n : Naming B O) (m : Naming C P) : Type 0 where
    pub author : (label : Chars) → to (n.author label) ≡ m.author label
    pub made : (path : Path) → to (n.made path) ≡ m.made path
    pub cell : (owner : O) (predicate : Chars) (i : ℕ) → to (n.cell owner predicate i) ≡ m.cell (to_owner owner) predicate i
    pub of : (path : Path) → to_owner (n.of path) ≡ m.of path
    pub below : (path : Path) → to_owner (n.below path) ≡ m.below path
    pub first : to_owner n.first ≡ m.first
    pub same : (a b : B) → n.same a b ≡ m.same (to a) (to b)
    pub same_owner : (a b : O) → n.same_owner a b ≡ m.same_owner (to_owner a) (to_owner b)

-- law: with numbers that are drawn one to one for the model's names, the list of a tree, and what its reading makes, are
-- the model's list renamed
pub record NumbersMake (to : Bnode → ℕ) (to_owner : Owner → ℕ) (naming : Naming ℕ ℕ) (base : Chars) (tree : Nodes Facts) : Type 0 where
  pub list : made naming base tree ≡ map (rename to) (made model base tree)
  pub reading : finished naming base (run naming base tree machine_begun) ≡ map (rename to) (made model base tree)

abbrev pub MadeRenames : Type 0
MadeRenames = (to : Bnode → ℕ) (to_owner : Owner → ℕ) (naming : Naming ℕ ℕ) → Agree to to_owner model naming
    → (base : Chars) (tree : Nodes Facts) → NumbersMake to to_owner naming base tree
