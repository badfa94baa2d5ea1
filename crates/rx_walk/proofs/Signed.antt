-- Signs one after another, and those of a tree.
use Rattle.rx_walk.proofs.Common.{◌≡◌, ◌∙◌, List, [], ◌∷◌, ◌++◌, map, refl, sym, ap, append_assoc, Option, None, Chars, Call, Enter, Read, Leave, calls, facts, with_facts, Context, ElementTag, read_tag, tags_of, Fault, Tree, end, element, text, Sign, said, finished, signs_of, line_on, line_of, call_of, calls_of, singles, singly, said_line, tree_line, refused_in}
pub use Rattle.rx_walk.specs.RefusalLaws.{refused_append}

pub calls_append : (context : Context) (line : List ElementTag) (xs ys : List Sign) → calls_of context line (xs ++ ys) ≡ calls_of context line xs ++ calls_of context (line_of line xs) ys
calls_append context line [] ys = refl
calls_append context line (x ∷ xs) ys = ap (λ l. call_of context line x ∷ l) (calls_append context (line_on line x) xs ys)

-- text

pub said_calls : (context : Context) (line : List ElementTag) (chars : Chars) → calls_of context line (map said chars) ≡ singles chars
said_calls context line [] = refl
said_calls context line (c ∷ chars) = ap (λ l. Read (c ∷ []) ∷ l) (said_calls context line chars)

pub said_refused : (context : Context) (line : List ElementTag) (chars : Chars) → ◌≡◌ {A = Option Fault} (refused_in context line (map said chars)) None
said_refused context line [] = refl
said_refused context line (c ∷ chars) = said_refused context line chars

-- trees

singly_append : (xs ys : List Call) → singly (xs ++ ys) ≡ singly xs ++ singly ys
singly_append [] ys = refl
singly_append (Enter facts ∷ xs) ys = ap (λ l. Enter facts ∷ l) (singly_append xs ys)
singly_append (Read chars ∷ xs) ys = ap (λ l. singles chars ++ l) (singly_append xs ys) ∙ sym (append_assoc (singles chars) (singly xs) (singly ys))
singly_append (Leave ∷ xs) ys = ap (λ l. Leave ∷ l) (singly_append xs ys)

pub calls_tree : (context : Context) (line : List ElementTag) (tree : Tree) → calls_of context line (signs_of tree) ≡ singly (calls (with_facts context line (tags_of tree)))
calls_tree context line end = refl
calls_tree context line (text chars rest) =
    calls_append context line (map said chars) (signs_of rest)
    ∙ ap (λ l. l ++ calls_of context (line_of line (map said chars)) (signs_of rest)) (said_calls context line chars)
    ∙ ap (λ l. singles chars ++ calls_of context l (signs_of rest)) (said_line line chars)
    ∙ ap (λ l. singles chars ++ l) (calls_tree context line rest)
calls_tree context line (element t inside rest) =
    ap (λ l. Enter (facts context line (read_tag t)) ∷ l)
    (calls_append context (read_tag t ∷ line) (signs_of inside) (finished ∷ signs_of rest)
    ∙ ap (λ l. calls_of context (read_tag t ∷ line) (signs_of inside) ++ calls_of context l (finished ∷ signs_of rest)) (tree_line (read_tag t ∷ line) inside)
    ∙ ap (λ l. l ++ (Leave ∷ calls_of context line (signs_of rest))) (calls_tree context (read_tag t ∷ line) inside)
    ∙ ap (λ l. singly (calls (with_facts context (read_tag t ∷ line) (tags_of inside))) ++ (Leave ∷ l)) (calls_tree context line rest)
    ∙ sym (singly_append (calls (with_facts context (read_tag t ∷ line) (tags_of inside))) (Leave ∷ calls (with_facts context line (tags_of rest)))))
