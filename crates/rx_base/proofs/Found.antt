-- The base that is found by the signs of a page.
use Rattle.rx_rdfa.proofs.Common.{◌≡◌, ◌∙◌, ℕ, suc, Bool, true, false, List, [], ◌∷◌, ◌++◌, map, length, refl, ap, Option, Some, None, codes, bytes_eq, arith, nat_tests, ◌==◌, if◌then◌else◌, option_or, Chars, StartTag, Tree, end, element, text, first_href, head_href, ElementTag, read_tag, tags_of}
use Rattle.rx_nest.specs.Signs.{Sign, begun, said, finished, signs_of}
use Rattle.rx_base.specs.Seekings.{Seeking, first_child, base_child, known, base_href, known_by, seek, seeks, BaseIsFound}
use Rattle.rx_base.proofs.Lines.{seeks_append, said_line, said_seeks, tree_line}

pub known_stays : (line : List ElementTag) (href : Option Chars) (signs : List Sign) → seeks line (known href) signs ≡ known href
known_stays line href [] = refl
known_stays line href (begun t ∷ signs) = known_stays (read_tag t ∷ line) href signs
known_stays line href (said c ∷ signs) = known_stays line href signs
known_stays [] href (finished ∷ signs) = known_stays [] href signs
known_stays (t ∷ line) href (finished ∷ signs) = known_stays line href signs

-- nodes, and what follows them
pub seeks_nodes : (line : List ElementTag) (s : Seeking) (nodes : Tree) (signs : List Sign) → seeks line s (signs_of nodes ++ signs) ≡ seeks line (seeks line s (signs_of nodes)) signs
seeks_nodes line s nodes signs = seeks_append line s (signs_of nodes) signs ∙ ap (λ l. seeks l (seeks line s (signs_of nodes)) signs) (tree_line line nodes)

-- an element, and what follows it
seeks_element : (line : List ElementTag) (s : Seeking) (t : StartTag) (inside rest : Tree)
    → seeks line s (signs_of (element t inside rest)) ≡ seeks line (seek (suc (length line)) (seeks (read_tag t ∷ line) (seek (length line) s (begun t)) (signs_of inside)) finished) (signs_of rest)
seeks_element line s t inside rest = seeks_nodes (read_tag t ∷ line) (seek (length line) s (begun t)) inside (finished ∷ signs_of rest)

seeks_text : (line : List ElementTag) (s : Seeking) (chars : Chars) (rest : Tree) → seeks line s (signs_of (text chars rest)) ≡ seeks line s (signs_of rest)
seeks_text line s chars rest =
    seeks_append line s (map said chars) (signs_of rest) ∙ ap (λ l. seeks l (seeks line s (map said chars)) (signs_of rest)) (said_line line chars)
    ∙ ap (λ x. seeks line x (signs_of rest)) (said_seeks line s chars)

-- deeper than the head's children nothing is looked at
pub not_two : (n : ℕ) → (suc (suc (suc n)) == 2) ≡ false
not_two n = grind (arith, nat_tests)

pub deep_begun : (n : ℕ) (t : StartTag) → seek (suc (suc (suc n))) base_child (begun t) ≡ base_child
deep_begun n t = ap (λ b. if b then known_by (base_href (read_tag t)) else base_child) (not_two n)

pub deep_finished : (n : ℕ) → seek (suc (suc (suc n))) base_child finished ≡ base_child
deep_finished n = ap (λ b. if b then known None else base_child) (not_two n)

pub deep : (a b c : ElementTag) (line : List ElementTag) (nodes : Tree) → seeks (a ∷ b ∷ c ∷ line) base_child (signs_of nodes) ≡ base_child
deep a b c line end = refl
deep a b c line (text chars rest) = seeks_text (a ∷ b ∷ c ∷ line) base_child chars rest ∙ deep a b c line rest
deep a b c line (element t inside rest) =
    seeks_element (a ∷ b ∷ c ∷ line) base_child t inside rest
    ∙ ap (λ x. seeks (a ∷ b ∷ c ∷ line) (seek (suc (length (a ∷ b ∷ c ∷ line))) (seeks (read_tag t ∷ a ∷ b ∷ c ∷ line) x (signs_of inside)) finished) (signs_of rest)) (deep_begun (length line) t)
    ∙ ap (λ x. seeks (a ∷ b ∷ c ∷ line) (seek (suc (length (a ∷ b ∷ c ∷ line))) x finished) (signs_of rest)) (deep (read_tag t) a b (c ∷ line) inside)
    ∙ ap (λ x. seeks (a ∷ b ∷ c ∷ line) x (signs_of rest)) (deep_finished (suc (length line)))
    ∙ deep a b c line rest

-- the children of the head
pub in_head : (a b : ElementTag) (nodes : Tree) → seeks (a ∷ b ∷ []) base_child (signs_of nodes) ≡ known_by (first_href (tags_of nodes))
in_head a b end = refl
in_head a b (text chars rest) = seeks_text (a ∷ b ∷ []) base_child chars rest ∙ in_head a b rest
in_head a b (element t inside rest) = seeks_element (a ∷ b ∷ []) base_child t inside rest ∙ by (base_href (read_tag t)) (in_head a b rest)
  where
    by : (href : Option Chars) → seeks (a ∷ b ∷ []) base_child (signs_of rest) ≡ known_by (first_href (tags_of rest))
        → seeks (a ∷ b ∷ []) (seek 3 (seeks (read_tag t ∷ a ∷ b ∷ []) (known_by href) (signs_of inside)) finished) (signs_of rest) ≡ known_by (option_or href (first_href (tags_of rest)))
    by None h = ap (λ x. seeks (a ∷ b ∷ []) (seek 3 x finished) (signs_of rest)) (deep (read_tag t) a b [] inside) ∙ h
    by (Some href) h =
        ap (λ x. seeks (a ∷ b ∷ []) (seek 3 x finished) (signs_of rest)) (known_stays (read_tag t ∷ a ∷ b ∷ []) (Some href) (signs_of inside))
        ∙ known_stays (a ∷ b ∷ []) (Some href) (signs_of rest)

-- at the head's end
pub head_ends : (href : Option Chars) → seek 2 (known_by href) finished ≡ known href
head_ends None = refl
head_ends (Some href) = refl

-- the children of the root, and its end
in_root : (root : ElementTag) (nodes : Tree) → seek 1 (seeks (root ∷ []) first_child (signs_of nodes)) finished ≡ known (head_href (tags_of nodes))
in_root root end = refl
in_root root (text chars rest) = ap (λ x. seek 1 x finished) (seeks_text (root ∷ []) first_child chars rest) ∙ in_root root rest
in_root root (element t inside rest) = ap (λ x. seek 1 x finished) (seeks_element (root ∷ []) first_child t inside rest) ∙ by (bytes_eq t.name (codes "head"))
  where
    by : (b : Bool)
        → seek 1 (seeks (root ∷ []) (seek 2 (seeks (read_tag t ∷ root ∷ []) (if b then base_child else known None) (signs_of inside)) finished) (signs_of rest)) finished
        ≡ known (if b then first_href (tags_of inside) else None)
    by true =
        ap (λ x. seek 1 (seeks (root ∷ []) (seek 2 x finished) (signs_of rest)) finished) (in_head (read_tag t) root inside)
        ∙ ap (λ x. seek 1 (seeks (root ∷ []) x (signs_of rest)) finished) (head_ends (first_href (tags_of inside)))
        ∙ ap (λ x. seek 1 x finished) (known_stays (root ∷ []) (first_href (tags_of inside)) (signs_of rest))
    by false =
        ap (λ x. seek 1 (seeks (root ∷ []) (seek 2 x finished) (signs_of rest)) finished) (known_stays (read_tag t ∷ root ∷ []) None (signs_of inside))
        ∙ ap (λ x. seek 1 x finished) (known_stays (root ∷ []) None (signs_of rest))

pub base_found : BaseIsFound
base_found t inside = seeks_element [] first_child t inside end ∙ in_root (read_tag t) inside
