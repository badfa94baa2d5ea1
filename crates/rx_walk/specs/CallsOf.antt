-- What an evaluator is told of a page.
use Rattle.std.specs.Prelude.{◌≡◌, List, [], ◌∷◌, ◌++◌, map}
use Rattle.rx_rdfa.specs.Common.{Chars, Tree, Bnode, Owner, model, Call, Enter, Read, Leave, calls, after, facts, with_facts, Machine, Context, ElementTag, read_tag, tags_of}
use Rattle.rx_nest.specs.Signs.{Sign, begun, said, finished, signs_of}
use Rattle.rx_base.specs.Lines.{line_on}

-- the call for a sign: a start tag with its facts below a line, a character, an end
abbrev pub call_of : Context → List ElementTag → Sign → Call
call_of context line (begun t) = Enter (facts context line (read_tag t))
call_of context line (said c) = Read (c ∷ [])
call_of context line finished = Leave

abbrev pub calls_of : Context → List ElementTag → List Sign → List Call
calls_of context line [] = []
calls_of context line (sign ∷ signs) = call_of context line sign ∷ calls_of context (line_on line sign) signs

-- a text in single characters
abbrev pub singles : Chars → List Call
singles chars = map (λ c. Read (c ∷ [])) chars

-- the calls with each text in single characters
abbrev pub singly : List Call → List Call
singly [] = []
singly (Enter facts ∷ list) = Enter facts ∷ singly list
singly (Read chars ∷ list) = singles chars ++ singly list
singly (Leave ∷ list) = Leave ∷ singly list

-- law: what is told of a tree's signs are the calls for the tree that carries facts, with each text in single characters
abbrev pub CallsOfTree : Type 0
CallsOfTree = (context : Context) (line : List ElementTag) (tree : Tree)
    → calls_of context line (signs_of tree) ≡ singly (calls (with_facts context line (tags_of tree)))

-- law: it makes no difference in which pieces text is told
abbrev pub PiecesAreAlike : Type 0
PiecesAreAlike = (base : Chars) (list : List Call) (m : Machine Bnode Owner) → after model base (singly list) m ≡ after model base list m
