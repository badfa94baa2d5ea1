-- The resources of one element: RDFa Core 1.1, 7.5, steps 5.1, 5.2 and 6, and HTML+RDFa 1.1, 3.1.
use Rattle.std.specs.Prelude.{Bool, true, false, not, ◌&&◌, ◌||◌, List, [], ◌∷◌, Option, None, option_map, is_some, is_none, unwrap_or, if◌then◌else◌}
use Rattle.rx_model.specs.Common.{option_or, Chars, Node, Iri, Blank}
use Rattle.std.specs.Bool.{then_some}
use Rattle.rx_refs.specs.Resolve.{resolved}
use Rattle.rx_rdfa.specs.Naming.{Path, Naming}
use Rattle.rx_rdfa.specs.Facts.{Facts, Ref, IriRef, LabelRef, RelativeRef, ElementKind, Head, Body, Time, Other}

-- 7.5, step 10, incomplete triples: a hanging triple waits for the subject of an element further down
pub data Hanging (O : Type 0) : Type 0 where
  Forward : Chars → Hanging O
  Reverse : Chars → Hanging O
  InList : O → Chars → Hanging O

-- 7.5, the evaluation context: parent subject, parent object, incomplete triples, list mapping
pub record Inherited (B O : Type 0) : Type 0 where
  pub subject : Node B
  pub object : Node B
  pub hanging : List (Hanging O)
  pub owner : O

-- an element with its place and what it inherits
pub record Standing (B O : Type 0) : Type 0 where
  pub facts : Facts
  pub path : Path
  pub around : Inherited B O

-- new subject, typed resource, and current object resource before step 10; a skipped element has them for nothing
pub record Resources (B : Type 0) : Type 0 where
  pub subject : Node B
  pub typed : Option (Node B)
  pub object : Option (Node B)
  pub skipped : Bool

abbrev pub is_root : Path → Bool
is_root (i ∷ []) = true
is_root _ = false

abbrev pub is_root_child : Path → Bool
is_root_child (i ∷ j ∷ []) = true
is_root_child _ = false

abbrev pub is_head_or_body : ElementKind → Bool
is_head_or_body Head = true
is_head_or_body Body = true
is_head_or_body Time = false
is_head_or_body Other = false

abbrev pub has_link : Facts → Bool
has_link facts = is_some facts.rel || is_some facts.rev

-- step 5.1: property, and neither content nor datatype. Own rule: datetime has no part in it.
abbrev pub is_plain_property : Facts → Bool
is_plain_property facts = is_some facts.property && is_none facts.content && is_none facts.datatype

-- the value, where the test holds
abbrev pub only : {A : Type 0} → Bool → Option A → Option A
only test value = if test then value else None

-- an element makes at most one blank node
abbrev pub new_blank : {B O : Type 0} → Naming B O → Standing B O → Node B
new_blank naming at = Blank (naming.made at.path)

module _ {B O : Type 0} (naming : Naming B O) (base : Chars) where
  -- what a reading names: references are resolved against the base
  abbrev pub resource_named : Ref → Node B
  resource_named (IriRef iri) = Iri iri
  resource_named (LabelRef label) = Blank (naming.author label)
  resource_named (RelativeRef reference) = Iri (resolved base reference)

  -- 5.1 and 5.2: the first present of resource, href and src
  abbrev pub resource_attribute : Facts → Option (Node B)
  resource_attribute facts = option_map resource_named (option_or facts.resource (option_or facts.href facts.src))

  module _ (at : Standing B O) where
    abbrev pub about : Option (Node B)
    about = option_map resource_named at.facts.about

    abbrev pub linked_resource : Option (Node B)
    linked_resource = resource_attribute at.facts

    abbrev pub base_at_root : Option (Node B)
    base_at_root = then_some (is_root at.path) (Iri base)

    -- HTML+RDFa 1.1, 3.1: head and body. Own rule: as children of the root alone.
    abbrev pub parent_for_head_and_body : Option (Node B)
    parent_for_head_and_body = then_some (is_root_child at.path && is_head_or_body at.facts.kind) at.around.object

    abbrev pub has_typeof : Bool
    has_typeof = is_some at.facts.types

    -- 5.1 and 6: the new subject where the resource attributes don't name it
    abbrev pub default_subject : Node B
    default_subject = unwrap_or (option_or about base_at_root) at.around.object

    -- step 5.1. Own rule: head and body with typeof stand for the parent object here too.
    abbrev pub of_property : Resources B
    of_property =
        let typed =
        then_some has_typeof
        (unwrap_or (option_or about (option_or base_at_root (option_or linked_resource parent_for_head_and_body))) (new_blank naming at))
        in
        record { subject = default_subject; typed = typed; object = typed; skipped = false }

    -- step 5.2. An element is skipped where its subject comes from above and no property speaks of it; so are head and
    -- body that say nothing (own rule).
    abbrev pub of_no_link : Resources B
    of_no_link =
        let subject =
        unwrap_or
        (option_or about (option_or linked_resource (option_or base_at_root (option_or parent_for_head_and_body (then_some has_typeof (new_blank naming at))))))
        at.around.object
        in
        record {
          subject = subject;
          typed = then_some has_typeof subject;
          object = None;
          skipped = is_none at.facts.property && is_none about && is_none linked_resource && is_none base_at_root && not has_typeof;
        }

    -- step 6
    abbrev pub of_link : Resources B
    of_link =
        let object = option_or linked_resource (then_some (has_typeof && is_none about) (new_blank naming at)) in
        record { subject = default_subject; typed = only has_typeof (option_or about object); object = object; skipped = false }

-- steps 5 and 6
unfoldable pub resources : {B O : Type 0} → Naming B O → Chars → Standing B O → Resources B
resources naming base at =
    if has_link at.facts then of_link naming base at
    else if is_plain_property at.facts then of_property naming base at
    else of_no_link naming base at
