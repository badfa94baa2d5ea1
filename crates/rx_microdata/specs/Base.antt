-- The base of a page, which is RDFa's and Microdata's alike: HTML, 4.2.3.
use Rattle.rx_rdfa.specs.Common.{Chars, Tree, base_of, tags_of}

-- the base of a tree that was read from an address
abbrev pub base_in : Chars → Tree → Chars
base_in address tree = base_of (tags_of tree) address
