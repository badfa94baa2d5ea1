-- What is sought where the signs of a page's tree are cut.
use Rattle.rx_rdfa.proofs.Common.{◌≡◌, ◌∙◌, ℕ, suc, ◌≤◌, ◌<◌, Bool, true, false, List, [], ◌∷◌, ◌++◌, map, length, refl, sym, ap, subst, append-nil, inl, inr, ◌⊎◌, ⊎_elim, Option, Some, None, arith, nat_lt, nat_le, nat_tests, not, ◌&&◌, ◌||◌, is_some, if◌then◌else◌, option_or, Chars, or_right, StartTag, Tree, end, element, text, first_href, head_href, root_href, ElementTag, read_tag, tags_of}
use Rattle.std.proofs.Math.Bool.{or-false}
use Rattle.rx_nest.specs.Signs.{Sign, begun, said, finished, signs_of}
use Rattle.rx_nest.specs.Fronts.{Lie}
use Rattle.rx_base.specs.Lines.{line_of}
use Rattle.rx_base.specs.Seekings.{Seeking, first_child, base_child, known, base_href, known_by, seek, seeks, sought}
use Rattle.rx_base.specs.KnownBases.{is_head, has_begun, has_base, child_decides, is_decided}
use Rattle.rx_base.proofs.Lines.{line_append, seeks_append, said_line, said_seeks, tree_line}
use Rattle.rx_base.proofs.Found.{known_stays, seeks_nodes, deep_begun, deep_finished, deep, in_head, head_ends, base_found}

-- two splits of a list
data Cuts (a b c d : List Sign) : Type 0 where
  longer : (mid : List Sign) → a ≡ c ++ mid → d ≡ mid ++ b → Cuts a b c d
  shorter : (mid : List Sign) → c ≡ a ++ mid → b ≡ mid ++ d → Cuts a b c d

cut : (a b c d : List Sign) → a ++ b ≡ c ++ d → Cuts a b c d
cut [] b c d e = shorter c refl e
cut (x ∷ a) b [] d e = longer (x ∷ a) refl (sym e)
cut (x ∷ a) b (y ∷ c) d e = by (cut a b c d (cc))
  where
    by : Cuts a b c d → Cuts (x ∷ a) b (y ∷ c) d
    by (longer mid k l) = longer mid (let h : x ≡ y = cc in ap (λ z. z ∷ a) h ∙ ap (λ zs. y ∷ zs) k) l
    by (shorter mid k l) = shorter mid (let h : y ≡ x = cc in ap (λ z. z ∷ c) h ∙ ap (λ zs. x ∷ zs) k) l

lie_front : (from to : ℕ) (xs ys : List Sign) → Lie from to (xs ++ ys) → Lie from to xs
lie_front from to [] ys h = tt
lie_front from to (begun t ∷ xs) ys h = (h.0, h.1, lie_front from to xs ys h.2)
lie_front from to (said c ∷ xs) ys h = lie_front from to xs ys h
lie_front from to (finished ∷ xs) ys h = lie_front from to xs ys h

lie_rest : (from to : ℕ) (xs ys : List Sign) → Lie from to (xs ++ ys) → Lie from to ys
lie_rest from to [] ys h = h
lie_rest from to (begun t ∷ xs) ys h = lie_rest from to xs ys h.2
lie_rest from to (said c ∷ xs) ys h = lie_rest from to xs ys h
lie_rest from to (finished ∷ xs) ys h = lie_rest from to xs ys h

is_below : (a b : ℕ) → a < b → nat_lt a b ≡ true
is_below a b h = grind (arith, nat_tests)

isnt_below : (a b : ℕ) → b ≤ a → nat_lt a b ≡ false
isnt_below a b h = grind (arith, nat_tests)

isnt_most : (a b : ℕ) → a < b → nat_le b a ≡ false
isnt_most a b h = grind (arith, nat_tests)

-- elements of which nothing was shown haven't begun
unbegun : (size to : ℕ) (nodes : Tree) → Lie size to (signs_of nodes) → has_begun size nodes ≡ false
unbegun size to end h = refl
unbegun size to (text chars rest) h = unbegun size to rest (lie_rest size to (map said chars) (signs_of rest) h)
unbegun size to (element t inside rest) h =
    ap (λ b. b || has_begun size rest) (isnt_below t.at size h.0) ∙ unbegun size to rest (lie_rest size to (signs_of inside) (finished ∷ signs_of rest) h.2)

-- The signs are the first ones of these nodes, and what they don't show hasn't begun.
pub data Pre (size : ℕ) : Tree → List Sign → Type 0 where
  none : (nodes : Tree) → has_begun size nodes ≡ false → Pre size nodes []
  in_text : (chars : Chars) (rest : Tree) (cs : Chars) → has_begun size rest ≡ false → Pre size (text chars rest) (map said cs)
  past_text : (chars : Chars) (rest : Tree) (zs : List Sign) → Pre size rest zs → Pre size (text chars rest) (map said chars ++ zs)
  in_element : (t : StartTag) (inside rest : Tree) (zs : List Sign) → t.at < size → has_begun size rest ≡ false → Pre size inside zs → Pre size (element t inside rest) (begun t ∷ zs)
  past_element : (t : StartTag) (inside rest : Tree) (zs : List Sign) → t.at < size → Pre size rest zs → Pre size (element t inside rest) (begun t ∷ (signs_of inside ++ finished ∷ zs))

-- a list that is all text
all_said : (chars : Chars) (zs mid : List Sign) → map said chars ≡ zs ++ mid → (cs : Chars) × (zs ≡ map said cs)
all_said chars [] mid e = ([], refl)
all_said [] (z ∷ zs) mid e = absurd (cc)
all_said (c ∷ chars) (z ∷ zs) mid e =
    let r = all_said chars zs mid (cc) in
    let h : z ≡ said c = cc in
    (c ∷ r.0, ap (λ x. x ∷ zs) h ∙ ap (λ xs. said c ∷ xs) r.1)

pub prefix : (size to : ℕ) (nodes : Tree) (zs us : List Sign) → zs ++ us ≡ signs_of nodes → Lie 0 size zs → Lie size to us → Pre size nodes zs
prefix size to nodes [] us e l m = none nodes (unbegun size to nodes (subst (λ x. Lie size to x) e m))
prefix size to end (z ∷ zs) us e l m = absurd (cc)
prefix size to (text chars rest) (z ∷ zs) us e l m = by (λ mid a b c. prefix size to rest mid us a b c) (cut (z ∷ zs) us (map said chars) (signs_of rest) e)
  where
    by : ((mid : List Sign) → mid ++ us ≡ signs_of rest → Lie 0 size mid → Lie size to us → Pre size rest mid) → Cuts (z ∷ zs) us (map said chars) (signs_of rest) → Pre size (text chars rest) (z ∷ zs)
    by ih (longer mid k d) =
        subst (λ x. Pre size (text chars rest) x) (sym k) (past_text chars rest mid (ih mid (sym d) (lie_rest 0 size (map said chars) mid (subst (λ x. Lie 0 size x) k l)) m))
    by ih (shorter mid k d) =
        let s = all_said chars (z ∷ zs) mid k in
        subst (λ x. Pre size (text chars rest) x) (sym s.1) (in_text chars rest s.0 (unbegun size to rest (lie_rest size to mid (signs_of rest) (subst (λ x. Lie size to x) d m))))
prefix size to (element t inside rest) (z ∷ zs) us e l m =
    let h : z ≡ begun t = cc in
    subst (λ x. Pre size (element t inside rest) (x ∷ zs)) (sym h)
    (by (λ a b c d f. prefix size to inside a b c d f) (λ a b c d f. prefix size to rest a b c d f) (subst (λ x. Lie 0 size (x ∷ zs)) h l) (cut zs us (signs_of inside) (finished ∷ signs_of rest) (cc)))
  where
    by : ((a b : List Sign) → a ++ b ≡ signs_of inside → Lie 0 size a → Lie size to b → Pre size inside a) → ((a b : List Sign) → a ++ b ≡ signs_of rest → Lie 0 size a → Lie size to b → Pre size rest a)
        → Lie 0 size (begun t ∷ zs) → Cuts zs us (signs_of inside) (finished ∷ signs_of rest) → Pre size (element t inside rest) (begun t ∷ zs)
    by inner outer w (shorter mid k d) =
        let lies = subst (λ x. Lie size to x) d m in
        in_element t inside rest zs w.1 (unbegun size to rest (lie_rest size to mid (finished ∷ signs_of rest) lies)) (inner zs mid (sym k) w.2 (lie_front size to mid (finished ∷ signs_of rest) lies))
    by inner outer w (longer [] k d) =
        let same : zs ≡ signs_of inside = k ∙ append-nil (signs_of inside) in
        in_element t inside rest zs w.1 (unbegun size to rest (subst (λ x. Lie size to x) (sym d) m)) (inner zs [] (append-nil zs ∙ same) w.2 tt)
    by inner outer w (longer (s ∷ ws) k d) =
        let f : s ≡ finished = cc in
        let r : signs_of rest ≡ ws ++ us = cc in
        let is : zs ≡ signs_of inside ++ finished ∷ ws = k ∙ ap (λ x. signs_of inside ++ x ∷ ws) f in
        let lies = lie_rest 0 size (signs_of inside) (finished ∷ ws) (subst (λ x. Lie 0 size x) is w.2) in
        subst (λ x. Pre size (element t inside rest) (begun t ∷ x)) (sym is) (past_element t inside rest ws w.1 (outer ws us (sym r) lies m))

-- text and what follows it
said_on : (line : List ElementTag) (s : Seeking) (chars : Chars) (zs : List Sign) → seeks line s (map said chars ++ zs) ≡ seeks line s zs
said_on line s chars zs =
    seeks_append line s (map said chars) zs ∙ (ap (λ l. seeks l (seeks line s (map said chars)) zs) (said_line line chars) ∙ ap (λ x. seeks line x zs) (said_seeks line s chars))

said_open : (line : List ElementTag) (chars : Chars) (zs : List Sign) → line_of line (map said chars ++ zs) ≡ line_of line zs
said_open line chars zs = line_append line (map said chars) zs ∙ ap (λ l. line_of l zs) (said_line line chars)

-- a whole element and what follows it
past_open : (line : List ElementTag) (t : StartTag) (inside : Tree) (zs : List Sign) → line_of line (begun t ∷ (signs_of inside ++ finished ∷ zs)) ≡ line_of line zs
past_open line t inside zs = line_append (read_tag t ∷ line) (signs_of inside) (finished ∷ zs) ∙ ap (λ l. line_of l (finished ∷ zs)) (tree_line (read_tag t ∷ line) inside)

past_seeks : (line : List ElementTag) (s : Seeking) (t : StartTag) (inside : Tree) (zs : List Sign)
    → seeks line s (begun t ∷ (signs_of inside ++ finished ∷ zs)) ≡ seeks line (seek (suc (length line)) (seeks (read_tag t ∷ line) (seek (length line) s (begun t)) (signs_of inside)) finished) zs
past_seeks line s t inside zs = seeks_nodes (read_tag t ∷ line) (seek (length line) s (begun t)) inside (finished ∷ zs)

-- what was open stays open
stays_open : {size : ℕ} {nodes : Tree} {zs : List Sign} (line : List ElementTag) → Pre size nodes zs → length line ≤ length (line_of line zs)
stays_open line (none nodes u) = omega arith
stays_open line (in_text chars rest cs u) = let e = ap length (said_line line cs) in omega (arith, e)
stays_open line (past_text chars rest zs p) = let h = stays_open line p in let e = ap length (said_open line chars zs) in omega (arith, e, h)
stays_open line (in_element t inside rest zs a u p) = let h = stays_open (read_tag t ∷ line) p in omega (arith, h)
stays_open line (past_element t inside rest zs a p) = let h = stays_open line p in let e = ap length (past_open line t inside zs) in omega (arith, e, h)

-- either nothing more is open, or one of the nodes has begun
open_or_begun : {size : ℕ} {nodes : Tree} {zs : List Sign} (line : List ElementTag) → Pre size nodes zs → (line_of line zs ≡ line) ⊎ (has_begun size nodes ≡ true)
open_or_begun line (none nodes u) = inl refl
open_or_begun line (in_text chars rest cs u) = inl (said_line line cs)
open_or_begun line (past_text chars rest zs p) = ⊎_elim (λ e. inl (said_open line chars zs ∙ e)) (λ b. inr b) (open_or_begun line p)
open_or_begun {size = size} line (in_element t inside rest zs a u p) = inr (ap (λ b. b || has_begun size rest) (is_below t.at size a))
open_or_begun {size = size} line (past_element t inside rest zs a p) = inr (ap (λ b. b || has_begun size rest) (is_below t.at size a))

-- below the children of a head nothing is looked at
seeks_deep : {size : ℕ} {nodes : Tree} {zs : List Sign} (a b c : ElementTag) (line : List ElementTag) → Pre size nodes zs → seeks (a ∷ b ∷ c ∷ line) base_child zs ≡ base_child
seeks_deep a b c line (none nodes u) = refl
seeks_deep a b c line (in_text chars rest cs u) = said_seeks (a ∷ b ∷ c ∷ line) base_child cs
seeks_deep a b c line (past_text chars rest zs p) = said_on (a ∷ b ∷ c ∷ line) base_child chars zs ∙ seeks_deep a b c line p
seeks_deep a b c line (in_element t inside rest zs k u p) =
    ap (λ x. seeks (read_tag t ∷ a ∷ b ∷ c ∷ line) x zs) (deep_begun (length line) t) ∙ seeks_deep (read_tag t) a b (c ∷ line) p
seeks_deep a b c line (past_element t inside rest zs k p) =
    past_seeks (a ∷ b ∷ c ∷ line) base_child t inside zs
    ∙ (ap (λ x. seeks (a ∷ b ∷ c ∷ line) (seek (suc (length (a ∷ b ∷ c ∷ line))) (seeks (read_tag t ∷ a ∷ b ∷ c ∷ line) x (signs_of inside)) finished) zs) (deep_begun (length line) t)
    ∙ (ap (λ x. seeks (a ∷ b ∷ c ∷ line) (seek (suc (length (a ∷ b ∷ c ∷ line))) x finished) zs) (deep (read_tag t) a b (c ∷ line) inside)
    ∙ (ap (λ x. seeks (a ∷ b ∷ c ∷ line) x zs) (deep_finished (suc (length line))) ∙ seeks_deep a b c line p)))

no_base : (size : ℕ) (nodes : Tree) → has_begun size nodes ≡ false → has_base size nodes ≡ false
no_base size end e = refl
no_base size (text chars rest) e = no_base size rest e
no_base size (element t inside rest) e = by (no_base size rest) (nat_lt t.at size) e
  where
    by : (has_begun size rest ≡ false → has_base size rest ≡ false) → (b : Bool) → (b || has_begun size rest) ≡ false → (b && is_some (base_href (read_tag t)) || has_base size rest) ≡ false
    by ih true k = absurd (cc)
    by ih false k = ih k

no_child : (size n : ℕ) (nodes : Tree) → has_begun size nodes ≡ false → child_decides size n nodes ≡ false
no_child size n end e = refl
no_child size n (text chars rest) e = no_child size n rest e
no_child size n (element t inside rest) e = by (nat_lt t.at size) e
  where
    by : (b : Bool) → (b || has_begun size rest) ≡ false → (b && (not (is_head t) || (has_base size inside || (nat_le n 1 || has_begun size rest)))) ≡ false
    by true k = absurd (cc)
    by false k = refl

abbrev in_head_at : ℕ → Tree → Seeking
in_head_at size nodes = if has_base size nodes then known (first_href (tags_of nodes)) else base_child

-- the children of a head
seeks_head : {size : ℕ} {nodes : Tree} {zs : List Sign} (a b : ElementTag) → Pre size nodes zs → seeks (a ∷ b ∷ []) base_child zs ≡ in_head_at size nodes
seeks_head {size = size} a b (none nodes u) = ap (λ (x : Bool). if x then known (first_href (tags_of nodes)) else base_child) (sym (no_base size nodes u))
seeks_head {size = size} a b (in_text chars rest cs u) = said_seeks (a ∷ b ∷ []) base_child cs ∙ ap (λ (x : Bool). if x then known (first_href (tags_of rest)) else base_child) (sym (no_base size rest u))
seeks_head a b (past_text chars rest zs p) = said_on (a ∷ b ∷ []) base_child chars zs ∙ seeks_head a b p
seeks_head {size = size} a b (in_element t inside rest zs k u p) = by (base_href (read_tag t))
  where
    by : (o : Option Chars)
        → seeks (read_tag t ∷ a ∷ b ∷ []) (known_by o) zs ≡ (if nat_lt t.at size && is_some o || has_base size rest then known (option_or o (first_href (tags_of rest))) else base_child)
    by None =
        seeks_deep (read_tag t) a b [] p
        ∙ ap (λ (x : Bool). if x then known (first_href (tags_of rest)) else base_child) (sym (ap (λ x. x && false || has_base size rest) (is_below t.at size k) ∙ no_base size rest u))
    by (Some href) =
        known_stays (read_tag t ∷ a ∷ b ∷ []) (Some href) zs
        ∙ ap (λ (x : Bool). if x && true || has_base size rest then known (Some href) else base_child) (sym (is_below t.at size k))
seeks_head {size = size} a b (past_element t inside rest zs k p) = past_seeks (a ∷ b ∷ []) base_child t inside zs ∙ by (base_href (read_tag t)) (seeks_head a b p)
  where
    by : (o : Option Chars) → seeks (a ∷ b ∷ []) base_child zs ≡ in_head_at size rest
        → seeks (a ∷ b ∷ []) (seek 3 (seeks (read_tag t ∷ a ∷ b ∷ []) (known_by o) (signs_of inside)) finished) zs
        ≡ (if nat_lt t.at size && is_some o || has_base size rest then known (option_or o (first_href (tags_of rest))) else base_child)
    by None h =
        ap (λ x. seeks (a ∷ b ∷ []) (seek 3 x finished) zs) (deep (read_tag t) a b [] inside)
        ∙ (h ∙ ap (λ (x : Bool). if x && false || has_base size rest then known (first_href (tags_of rest)) else base_child) (sym (is_below t.at size k)))
    by (Some href) h =
        ap (λ x. seeks (a ∷ b ∷ []) (seek 3 x finished) zs) (known_stays (read_tag t ∷ a ∷ b ∷ []) (Some href) (signs_of inside))
        ∙ (known_stays (a ∷ b ∷ []) (Some href) zs
        ∙ ap (λ (x : Bool). if x && true || has_base size rest then known (Some href) else base_child) (sym (is_below t.at size k)))

-- the base is known by this href exactly where the test holds
abbrev pub Gives : Bool → Option Chars → Seeking → Type 0
Gives true href s = s ≡ known href
Gives false href s = (other : Option Chars) → s ≡ known other → ⊥

unknown : (s : Seeking) (href : Option Chars) (b : Bool) → s ≡ (if b then known href else base_child) → Gives b href s
unknown s href true e = e
unknown s href false e = λ other k. (let w : base_child ≡ known other = sym e ∙ k in cc)

-- the children of the root
abbrev Decides : ℕ → ElementTag → Tree → List Sign → Type 0
Decides size root nodes zs = Gives (child_decides size (length (line_of (root ∷ []) zs)) nodes) (head_href (tags_of nodes)) (seeks (root ∷ []) first_child zs)

first_unknown : (size n : ℕ) (nodes : Tree) (href : Option Chars) (s : Seeking) → has_begun size nodes ≡ false → s ≡ first_child → Gives (child_decides size n nodes) href s
first_unknown size n nodes href s u e =
    subst (λ b. Gives b href s) (sym (no_child size n nodes u)) (λ other k. (let w : first_child ≡ known other = sym e ∙ k in cc))

seeks_root : {size : ℕ} {nodes : Tree} {zs : List Sign} (root : ElementTag) → Pre size nodes zs → Decides size root nodes zs
seeks_root {size = size} root (none nodes u) = first_unknown size 1 nodes (head_href (tags_of nodes)) first_child u refl
seeks_root {size = size} root (in_text chars rest cs u) =
    first_unknown size (length (line_of (root ∷ []) (map said cs))) rest (head_href (tags_of rest)) (seeks (root ∷ []) first_child (map said cs)) u (said_seeks (root ∷ []) first_child cs)
seeks_root {size = size} root (past_text chars rest zs p) =
    subst (λ s. Gives (child_decides size (length (line_of (root ∷ []) (map said chars ++ zs))) rest) (head_href (tags_of rest)) s) (sym (said_on (root ∷ []) first_child chars zs))
    (subst (λ (l : List ElementTag). Gives (child_decides size (length l) rest) (head_href (tags_of rest)) (seeks (root ∷ []) first_child zs)) (sym (said_open (root ∷ []) chars zs)) (seeks_root root p))
seeks_root {size = size} root (in_element t inside rest zs k u p) = by (is_head t)
  where
    by : (b : Bool)
        → Gives (nat_lt t.at size && (not b || (has_base size inside || (nat_le (length (line_of (read_tag t ∷ root ∷ []) zs)) 1 || has_begun size rest)))) (if b then first_href (tags_of inside) else None)
        (seeks (read_tag t ∷ root ∷ []) (if b then base_child else known None) zs)
    by false = subst (λ x. Gives (x && true) None (seeks (read_tag t ∷ root ∷ []) (known None) zs)) (sym (is_below t.at size k)) (known_stays (read_tag t ∷ root ∷ []) None zs)
    by true =
        let n = length (line_of (read_tag t ∷ root ∷ []) zs) in
        let h = stays_open (read_tag t ∷ root ∷ []) p in
        let test : (nat_lt t.at size && (has_base size inside || (nat_le (length (line_of (read_tag t ∷ root ∷ []) zs)) 1 || has_begun size rest))) ≡ has_base size inside =
        ap (λ x. x && (has_base size inside || (nat_le (length (line_of (read_tag t ∷ root ∷ []) zs)) 1 || has_begun size rest))) (is_below t.at size k)
        ∙ (ap (λ x. has_base size inside || (x || has_begun size rest)) (isnt_most 1 (length (line_of (read_tag t ∷ root ∷ []) zs)) h)
        ∙ (ap (λ x. has_base size inside || x) u ∙ or-false (has_base size inside))) in
        subst (λ x. Gives x (first_href (tags_of inside)) (seeks (read_tag t ∷ root ∷ []) base_child zs)) (sym test)
        (unknown (seeks (read_tag t ∷ root ∷ []) base_child zs) (first_href (tags_of inside)) (has_base size inside) (seeks_head (read_tag t) root p))
seeks_root {size = size} root (past_element t inside rest zs k p) =
    subst (λ s. Gives (child_decides size (length (line_of (root ∷ []) (begun t ∷ (signs_of inside ++ finished ∷ zs)))) (element t inside rest)) (head_href (tags_of (element t inside rest))) s) (sym (past_seeks (root ∷ []) first_child t inside zs))
    (subst (λ (l : List ElementTag). Gives (child_decides size (length l) (element t inside rest)) (head_href (tags_of (element t inside rest))) (seeks (root ∷ []) (seek 2 (seeks (read_tag t ∷ root ∷ []) (seek 1 first_child (begun t)) (signs_of inside)) finished) zs))
    (sym (past_open (root ∷ []) t inside zs)) (by (is_head t)))
  where
    over : (nat_le (length (line_of (root ∷ []) zs)) 1 || has_begun size rest) ≡ true
    over = ⊎_elim (λ e. ap (λ (l : List ElementTag). nat_le (length l) 1 || has_begun size rest) e) (λ e. or_right (nat_le (length (line_of (root ∷ []) zs)) 1) (has_begun size rest) e) (open_or_begun (root ∷ []) p)

    by : (b : Bool)
        → Gives (nat_lt t.at size && (not b || (has_base size inside || (nat_le (length (line_of (root ∷ []) zs)) 1 || has_begun size rest)))) (if b then first_href (tags_of inside) else None)
        (seeks (root ∷ []) (seek 2 (seeks (read_tag t ∷ root ∷ []) (if b then base_child else known None) (signs_of inside)) finished) zs)
    by false =
        subst (λ x. Gives (x && true) None (seeks (root ∷ []) (seek 2 (seeks (read_tag t ∷ root ∷ []) (known None) (signs_of inside)) finished) zs)) (sym (is_below t.at size k))
        (ap (λ x. seeks (root ∷ []) (seek 2 x finished) zs) (known_stays (read_tag t ∷ root ∷ []) None (signs_of inside)) ∙ known_stays (root ∷ []) None zs)
    by true =
        let test : (nat_lt t.at size && (has_base size inside || (nat_le (length (line_of (root ∷ []) zs)) 1 || has_begun size rest))) ≡ true =
        ap (λ x. x && (has_base size inside || (nat_le (length (line_of (root ∷ []) zs)) 1 || has_begun size rest))) (is_below t.at size k)
        ∙ or_right (has_base size inside) (nat_le (length (line_of (root ∷ []) zs)) 1 || has_begun size rest) over in
        subst (λ x. Gives x (first_href (tags_of inside)) (seeks (root ∷ []) (seek 2 (seeks (read_tag t ∷ root ∷ []) base_child (signs_of inside)) finished) zs)) (sym test)
        (ap (λ x. seeks (root ∷ []) (seek 2 x finished) zs) (in_head (read_tag t) root inside)
        ∙ (ap (λ x. seeks (root ∷ []) x zs) (head_ends (first_href (tags_of inside))) ∙ known_stays (root ∷ []) (first_href (tags_of inside)) zs))

-- a page's tree that is cut there
pub sought_cut : (size : ℕ) (root : StartTag) (inside : Tree) (signs : List Sign) → Pre size (element root inside end) signs
    → Gives (is_decided size (length (line_of [] signs)) (element root inside end)) (root_href (tags_of (element root inside end))) (sought signs)
sought_cut size root inside _ (none nodes u) =
    subst (λ b. Gives b (head_href (tags_of inside)) first_child) (sym (by (nat_lt root.at size) u)) (λ other k. cc)
  where
    by : (b : Bool) → (b || false) ≡ false → (b && (nat_le 0 0 || child_decides size 0 inside)) ≡ false
    by true e = absurd (cc)
    by false e = refl
sought_cut size root inside _ (in_element t _ rest zs k u p) =
    let h = stays_open (read_tag root ∷ []) p in
    let test : (nat_lt root.at size && (nat_le (length (line_of (read_tag root ∷ []) zs)) 0 || child_decides size (length (line_of (read_tag root ∷ []) zs)) inside)) ≡ child_decides size (length (line_of (read_tag root ∷ []) zs)) inside =
    ap (λ x. x && (nat_le (length (line_of (read_tag root ∷ []) zs)) 0 || child_decides size (length (line_of (read_tag root ∷ []) zs)) inside)) (is_below root.at size k)
    ∙ ap (λ x. x || child_decides size (length (line_of (read_tag root ∷ []) zs)) inside) (isnt_most 0 (length (line_of (read_tag root ∷ []) zs)) h) in
    subst (λ b. Gives b (head_href (tags_of inside)) (seeks (read_tag root ∷ []) first_child zs)) (sym test) (seeks_root (read_tag root) p)
sought_cut size root inside _ (past_element t _ rest zs k (none nodes u)) =
    let n = ap length (past_open [] root inside []) in
    let test : is_decided size (length (line_of [] (begun root ∷ (signs_of inside ++ finished ∷ [])))) (element root inside end) ≡ true =
    ap (λ x. x && (nat_le (length (line_of [] (begun root ∷ (signs_of inside ++ finished ∷ [])))) 0 || child_decides size (length (line_of [] (begun root ∷ (signs_of inside ++ finished ∷ [])))) inside)) (is_below root.at size k)
    ∙ ap (λ x. nat_le x 0 || child_decides size x inside) n in
    subst (λ b. Gives b (head_href (tags_of inside)) (sought (begun root ∷ (signs_of inside ++ finished ∷ [])))) (sym test) (base_found root inside)
