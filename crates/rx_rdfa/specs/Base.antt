-- The base of a page: HTML's base element. Own rule: it is looked for in the root's first element child alone, where
-- that is named head.
use Rattle.std.specs.Prelude.{Option, Some, None, codes, bytes_eq, if◌then◌else◌}
use Rattle.rx_terms.specs.Common.{option_or, Chars}
use Rattle.rx_refs.specs.Resolve.{resolved, without_fragment}
use Rattle.rx_grammar.specs.Trees.{Nodes, end, element, text}
use Rattle.rx_rdfa.specs.Tree.{ElementTag, attribute}

-- the href of the first base element that has one
abbrev pub first_href : Nodes ElementTag → Option Chars
first_href end = None
first_href (element tag inside rest) =
    option_or (if bytes_eq tag.name (codes "base") then attribute tag (codes "href") else None) (first_href rest)
first_href (text s rest) = first_href rest

-- the same among the children of the first element, where that is named head
abbrev pub head_href : Nodes ElementTag → Option Chars
head_href end = None
head_href (element tag inside rest) = if bytes_eq tag.name (codes "head") then first_href inside else None
head_href (text s rest) = head_href rest

abbrev pub root_href : Nodes ElementTag → Option Chars
root_href end = None
root_href (element tag inside rest) = head_href inside
root_href (text s rest) = root_href rest

abbrev pub base_by : Option Chars → Chars → Chars
base_by None address = without_fragment address
base_by (Some href) address = without_fragment (resolved address href)

-- the base of a tree that was read from an address
abbrev pub base_of : Nodes ElementTag → Chars → Chars
base_of tree address = base_by (root_href tree) address
