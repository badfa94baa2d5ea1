-- The elements that are open after some signs.
use Rattle.std.specs.Prelude.{List, [], ◌∷◌}
use Rattle.rx_rdfa.specs.Common.{ElementTag, read_tag}
use Rattle.rx_nest.specs.Signs.{Sign, begun, said, finished}

-- the elements around the innermost one
abbrev pub around : List ElementTag → List ElementTag
around [] = []
around (t ∷ line) = line

-- the open elements after a sign, the innermost first
abbrev pub line_on : List ElementTag → Sign → List ElementTag
line_on line (begun t) = read_tag t ∷ line
line_on line (said c) = line
line_on line finished = around line

abbrev pub line_of : List ElementTag → List Sign → List ElementTag
line_of line [] = line
line_of line (sign ∷ signs) = line_of (line_on line sign) signs
