-- What the events of a page show is what its tree shows.
use Rattle.rx_nest.proofs.Common.{◌≡◌, ◌∙◌, ℕ, zero, suc, Bool, true, false, List, [], ◌∷◌, ◌++◌, refl, sym, ap, subst, length, append_assoc, append-nil, if◌then◌else◌, map, map-append, Chars, by_test, StartTag, Tree, end, element, text, after_text, shown, Event, begins, says, finishes, told_trees, with_element, with_text, Sign, begun, said, finished, Flags, is_hidden, Sight, see, sees, nothing_seen, signs_of}

-- what an element's end shows
abbrev finish_of : Bool → List Sign
finish_of is_shown = if is_shown then finished ∷ [] else []

-- what is still to come at these open elements shows
abbrev left_signs : Flags → List Tree → List Sign
left_signs flags [] = []
left_signs [] (nodes ∷ more) = signs_of nodes
left_signs (flag ∷ flags) (nodes ∷ more) = (if flag.1 then [] else signs_of nodes) ++ (finish_of flag.0 ++ left_signs flags more)

text_signs : (chars : Chars) (nodes : Tree) → signs_of (after_text chars nodes) ≡ map said chars ++ signs_of nodes
text_signs (c ∷ chars) end = refl
text_signs (c ∷ chars) (text more nodes) = ap (λ x. said c ∷ x) (ap (λ x. x ++ signs_of nodes) (map-append said chars more) ∙ append_assoc (map said chars) (map said more) (signs_of nodes))
text_signs _ _ = refl

abbrev Sees : Flags → List Sign → List Event → Type 0
Sees flags signs events = sees (record { flags = flags; signs = signs }) events ≡ record { flags = []; signs = signs ++ left_signs flags (told_trees events) }

abbrev Fits : Flags → List Tree → Type 0
Fits flags trees = length trees ≡ suc (length flags)

-- text
says_left : (chars : Chars) (flags : Flags) (signs : List Sign) (trees : List Tree) → Fits flags (with_text chars trees) → (if is_hidden flags then signs else signs ++ map said chars) ++ left_signs flags trees ≡ signs ++ left_signs flags (with_text chars trees)
says_left chars flags signs [] fits = absurd (cc)
says_left chars [] signs (nodes ∷ more) fits = append_assoc signs (map said chars) (signs_of nodes) ∙ ap (λ x. signs ++ x) (sym (text_signs chars nodes))
says_left chars (flag ∷ flags) signs (nodes ∷ more) fits = by flag.1
  where
    rest : List Sign
    rest = finish_of flag.0 ++ left_signs flags more

    by : (hidden : Bool) → (if hidden then signs else signs ++ map said chars) ++ ((if hidden then [] else signs_of nodes) ++ rest) ≡ signs ++ ((if hidden then [] else signs_of (after_text chars nodes)) ++ rest)
    by true = refl
    by false =
        append_assoc signs (map said chars) (signs_of nodes ++ rest)
        ∙ ap (λ x. signs ++ x) (sym (append_assoc (map said chars) (signs_of nodes) rest) ∙ ap (λ x. x ++ rest) (sym (text_signs chars nodes)))

-- an element that begins where elements are shown
module _ (t : StartTag) (hidden : Bool) (signs : List Sign) (inside nodes : Tree) where
  inside_signs : (if hidden then [] else signs_of inside) ≡ signs_of (shown hidden inside)
  inside_signs = by hidden
    where
      by : (h : Bool) → (if h then [] else signs_of inside) ≡ signs_of (shown h inside)
      by true = refl
      by false = refl

  begun_signs : (rest : List Sign) → (signs ++ begun t ∷ []) ++ ((if hidden then [] else signs_of inside) ++ (finished ∷ (signs_of nodes ++ rest))) ≡ signs ++ (signs_of (element t (shown hidden inside) nodes) ++ rest)
  begun_signs rest =
      append_assoc signs (begun t ∷ []) ((if hidden then [] else signs_of inside) ++ (finished ∷ (signs_of nodes ++ rest)))
      ∙ ap (λ x. signs ++ (begun t ∷ x)) (ap (λ x. x ++ (finished ∷ (signs_of nodes ++ rest))) inside_signs ∙ sym (append_assoc (signs_of (shown hidden inside)) (finished ∷ signs_of nodes) rest))

module _ (t : StartTag) (hidden : Bool) (flag : Bool × Bool) (flags : Flags) (signs : List Sign) (inside nodes : Tree) (more : List Tree) where
  abbrev rest : List Sign
  rest = finish_of flag.0 ++ left_signs flags more

  abbrev next : Bool → Sight
  next h = if h then record { flags = (false, true) ∷ flag ∷ flags; signs = signs } else record { flags = (true, hidden) ∷ flag ∷ flags; signs = signs ++ begun t ∷ [] }

  abbrev Begun : Bool → Type 0
  Begun h = (next h).signs ++ left_signs (next h).flags (inside ∷ nodes ∷ more) ≡ signs ++ ((if h then [] else signs_of (element t (shown hidden inside) nodes)) ++ rest)

  begun_left : (h : Bool) → flag.1 ≡ h → Begun flag.1
  begun_left true e = subst Begun (sym e) (ap (λ x. signs ++ ((if x then [] else signs_of nodes) ++ rest)) e)
  begun_left false e = subst Begun (sym e) (ap (λ x. (signs ++ begun t ∷ []) ++ ((if hidden then [] else signs_of inside) ++ (finished ∷ ((if x then [] else signs_of nodes) ++ rest)))) e ∙ begun_signs t hidden signs inside nodes rest)

begins_left : (t : StartTag) (hidden : Bool) (flags : Flags) (signs : List Sign) (trees : List Tree) → Fits flags (with_element t hidden trees)
    → (see (begins t hidden) flags signs).signs ++ left_signs (see (begins t hidden) flags signs).flags trees ≡ signs ++ left_signs flags (with_element t hidden trees)
begins_left t hidden flags signs [] fits = absurd (let z : 0 ≡ suc (length flags) = fits in cc)
begins_left t hidden flags signs (inside ∷ []) fits = absurd (let z : 0 ≡ suc (length flags) = fits in cc)
begins_left t hidden [] signs (inside ∷ nodes ∷ more) fits =
    ap (λ x. (signs ++ begun t ∷ []) ++ ((if hidden then [] else signs_of inside) ++ (finished ∷ x))) (sym (append-nil (signs_of nodes))) ∙ (begun_signs t hidden signs inside nodes [] ∙ ap (λ x. signs ++ x) (append-nil (signs_of (element t (shown hidden inside) nodes))))
begins_left t hidden (flag ∷ flags) signs (inside ∷ nodes ∷ more) fits = begun_left t hidden flag flags signs inside nodes more flag.1 refl

-- an element that ends
ends_left : (flag : Bool × Bool) (flags : Flags) (signs : List Sign) (trees : List Tree) → (signs ++ finish_of flag.0) ++ left_signs flags trees ≡ signs ++ left_signs (flag ∷ flags) (end ∷ trees)
ends_left flag flags signs trees = by flag.1
  where
    by : (h : Bool) → (signs ++ finish_of flag.0) ++ left_signs flags trees ≡ signs ++ ((if h then [] else []) ++ (finish_of flag.0 ++ left_signs flags trees))
    by true = append_assoc signs (finish_of flag.0) (left_signs flags trees)
    by false = append_assoc signs (finish_of flag.0) (left_signs flags trees)

-- with so many elements open, the events end each of them, and none besides
abbrev pub Ends : ℕ → List Event → Type 0
Ends k [] = k ≡ 0
Ends k (begins t hidden ∷ events) = Ends (suc k) events
Ends k (says chars ∷ events) = Ends k events
Ends zero (finishes ∷ events) = ⊥
Ends (suc k) (finishes ∷ events) = Ends k events

trees_fit : (events : List Event) (k : ℕ) → Ends k events → length (told_trees events) ≡ suc k
trees_fit [] k h = ap suc (sym h)
trees_fit (begins t hidden ∷ events) k h = by (told_trees events) (trees_fit events (suc k) h)
  where
    by : (trees : List Tree) → length trees ≡ suc (suc k) → length (with_element t hidden trees) ≡ suc k
    by [] e = absurd (cc)
    by (inside ∷ []) e = absurd (cc)
    by (inside ∷ nodes ∷ more) e = cc
trees_fit (says chars ∷ events) k h = by (told_trees events) (trees_fit events k h)
  where
    by : (trees : List Tree) → length trees ≡ suc k → length (with_text chars trees) ≡ suc k
    by [] e = absurd (cc)
    by (nodes ∷ more) e = e
trees_fit (finishes ∷ events) zero h = elim h [ ]
trees_fit (finishes ∷ events) (suc k) h = ap suc (trees_fit events k h)

begun_length : (t : StartTag) (hidden : Bool) (flags : Flags) (signs : List Sign) → suc (length flags) ≡ length (see (begins t hidden) flags signs).flags
begun_length t hidden flags signs = by_test (is_hidden flags) (λ e. rw e refl) (λ e. rw e refl)

sees_trees : (events : List Event) (flags : Flags) (signs : List Sign) → Ends (length flags) events → Sees flags signs events
sees_trees [] [] signs ends = ap (λ x. record { flags = []; signs = x }) (sym (append-nil signs))
sees_trees [] (flag ∷ flags) signs ends = absurd (cc)
sees_trees (says chars ∷ events) flags signs ends =
    sees_trees events flags (if is_hidden flags then signs else signs ++ map said chars) ends
    ∙ ap (λ x. record { flags = []; signs = x }) (says_left chars flags signs (told_trees events) (trees_fit (says chars ∷ events) (length flags) ends))
sees_trees (begins t hidden ∷ events) flags signs ends =
    let b = begins_left t hidden flags signs (told_trees events) (trees_fit (begins t hidden ∷ events) (length flags) ends) in
    sees_trees events (see (begins t hidden) flags signs).flags (see (begins t hidden) flags signs).signs (subst (λ k. Ends k events) (begun_length t hidden flags signs) ends) ∙ ap (λ x. record { flags = []; signs = x }) b
sees_trees (finishes ∷ events) [] signs ends = elim ends [ ]
sees_trees (finishes ∷ events) (flag ∷ flags) signs ends =
    sees_trees events flags (signs ++ finish_of flag.0) ends ∙ ap (λ x. record { flags = []; signs = x }) (ends_left flag flags signs (told_trees events))

-- a page's events show its tree
pub tree_is_seen : (events : List Event) (tree : Tree) → Ends 0 events → told_trees events ≡ tree ∷ [] → sees nothing_seen events ≡ record { flags = []; signs = signs_of tree }
tree_is_seen events tree ends h = sees_trees events [] [] ends ∙ ap (λ x. record { flags = []; signs = left_signs [] x }) h
