-- The elements that are open after some signs, and what is sought then.
use Rattle.rx_rdfa.proofs.Common.{◌≡◌, ◌∙◌, List, [], ◌∷◌, ◌++◌, map, refl, ap, Chars, Line, Tree, end, element, text, ElementTag, read_tag}
use Rattle.rx_nest.specs.Signs.{Sign, begun, said, finished, signs_of}
use Rattle.rx_nest.specs.ShownLines.{open_after}
use Rattle.rx_base.specs.Lines.{line_on, line_of}
use Rattle.rx_base.specs.Seekings.{Seeking, seek, seeks}

pub line_append : (line : List ElementTag) (xs ys : List Sign) → line_of line (xs ++ ys) ≡ line_of (line_of line xs) ys
line_append line [] ys = refl
line_append line (x ∷ xs) ys = line_append (line_on line x) xs ys

pub seeks_append : (line : List ElementTag) (s : Seeking) (xs ys : List Sign) → seeks line s (xs ++ ys) ≡ seeks (line_of line xs) (seeks line s xs) ys
seeks_append line s [] ys = refl
seeks_append line s (x ∷ xs) ys = seeks_append (line_on line x) (seek _ s x) xs ys

pub said_line : (line : List ElementTag) (chars : Chars) → line_of line (map said chars) ≡ line
said_line line [] = refl
said_line line (c ∷ chars) = said_line line chars

pub said_seeks : (line : List ElementTag) (s : Seeking) (chars : Chars) → seeks line s (map said chars) ≡ s
said_seeks line s [] = refl
said_seeks line s (c ∷ chars) = said_seeks line s chars

pub tree_line : (line : List ElementTag) (tree : Tree) → line_of line (signs_of tree) ≡ line
tree_line line end = refl
tree_line line (text chars rest) =
    line_append line (map said chars) (signs_of rest) ∙ ap (λ l. line_of l (signs_of rest)) (said_line line chars) ∙ tree_line line rest
tree_line line (element t inside rest) =
    line_append (read_tag t ∷ line) (signs_of inside) (finished ∷ signs_of rest)
    ∙ ap (λ l. line_of l (finished ∷ signs_of rest)) (tree_line (read_tag t ∷ line) inside)
    ∙ tree_line line rest

-- RDFa reads the tags of the elements that are open after the signs
pub line_is : (line : Line) (signs : List Sign) → line_of (map read_tag line) signs ≡ map read_tag (open_after line signs)
line_is line [] = refl
line_is line (begun t ∷ signs) = line_is (t ∷ line) signs
line_is line (said c ∷ signs) = line_is line signs
line_is [] (finished ∷ signs) = line_is [] signs
line_is (t ∷ line) (finished ∷ signs) = line_is line signs
