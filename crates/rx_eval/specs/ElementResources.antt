-- What the code finds of an element, as the resources of the rules.
use Rattle.std.specs.Prelude.{ℕ, Bool, ◌&&◌, Option, option_map, is_none, unwrap_or}
use Rattle.rx_rdfa.specs.Common.{option_or, Chars, Node, Iri, Blank, node_seen, Naming, Facts, Ref, Standing, Resources, about, base_at_root, linked_resource, parent_for_head_and_body, new_blank}
use Rattle.rx_eval.specs.declared.resources.ElementResources.{ElementResources}
use Rattle.rx_eval.specs.declared.places.Surroundings.{Surroundings}

-- the first present of resource, href and src
abbrev pub linked_ref : Facts → Option Ref
linked_ref facts = option_or facts.resource (option_or facts.href facts.src)

-- no attribute names a resource
abbrev pub names_nothing : Facts → Bool
names_nothing facts = is_none facts.about && (is_none facts.resource && (is_none facts.href && is_none facts.src))

-- no attribute has predicates, types or a vocabulary
abbrev pub claims_nothing : Facts → Bool
claims_nothing facts = is_none facts.rel && (is_none facts.rev && (is_none facts.property && (is_none facts.types && is_none facts.vocab)))

-- of an element with these facts nothing is said
abbrev pub says_nothing : Facts → Bool
says_nothing facts = claims_nothing facts && names_nothing facts

-- the new node of the element
abbrev pub fresh_node : Surroundings → Node ℕ
fresh_node at = Blank at.fresh

abbrev pub page_node : Chars → Node ℕ
page_node base = Iri base

abbrev pub found_seen : ElementResources → Resources ℕ
found_seen found = record {
  subject = node_seen found.subject;
  typed = option_map node_seen found.typed;
  object = option_map node_seen found.object;
  skipped = found.skipped;
}

-- the typed resource of an element with property
abbrev pub property_type : Naming ℕ ℕ → Chars → Standing ℕ ℕ → Node ℕ
property_type naming base at =
    unwrap_or
    (option_or (about naming base at)
    (option_or (base_at_root naming base at) (option_or (linked_resource naming base at) (parent_for_head_and_body naming base at))))
    (new_blank naming at)
