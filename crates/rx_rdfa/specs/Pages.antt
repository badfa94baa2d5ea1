-- A page's tree as the rules read it: without places.
use Rattle.rx_grammar.specs.Tokens as tokens
use Rattle.rx_grammar.specs.Trees.{StartTag, Tree, Nodes, end, element, text}
use Rattle.rx_rdfa.specs.Tree.{ElementTag}

-- an element's name and its attributes
abbrev pub read_tag : StartTag → ElementTag
read_tag t = record { name = t.name; attributes = t.attributes }

-- what a start tag alone tells of it
abbrev pub token_tag : tokens.Tag → ElementTag
token_tag tag = record { name = tag.name; attributes = tag.attributes }

-- the page's tree
abbrev pub tags_of : Tree → Nodes ElementTag
tags_of end = end
tags_of (element t inside rest) = element (read_tag t) (tags_of inside) (tags_of rest)
tags_of (text chars rest) = text chars (tags_of rest)
