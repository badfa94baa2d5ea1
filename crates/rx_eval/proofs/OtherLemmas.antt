-- An element by two namings that differ only in names for which it isn't asked: that of a new node which it doesn't make,
-- and those of owners which it doesn't begin.
use Rattle.rx_eval.proofs.Common.{option_or, Chars, and_left, Node, Iri, Blank, Term, Resource, same_node, then_some, Path, Naming, Facts, listed, hangs, object_below, own_owner, hanging_of, owner_below, handed, ListEntry, entry, linked, awaited, entries_by, ◌≡◌, ◌∙◌, ◌⊎◌, inl, inr, ℕ, zero, suc, length, arith, Bool, true, false, cond, List, [], ◌∷◌, ◌++◌, map, filter_map, Option, Some, None, option_map, is_none, refl, ap, ap₂, not, ◌&&◌, ◌||◌, is_some, unwrap_or, Hanging, Forward, Reverse, InList, Standing, Resources, resource_named, has_link, is_plain_property, is_root, is_root_child, is_head_or_body, only, about, linked_resource, base_at_root, default_subject, new_blank, of_property, of_no_link, of_link, level_at, path_at}
use Rattle.rx_rdfa.specs.Resources.{resources}

-- ---- options of which the last isn't asked, or is what is had

or_then : {X : Type 0} (o : Option X) (t : Bool) (x y : X) → (t ≡ true → x ≡ y) → option_or o (then_some t x) ≡ option_or o (then_some t y)
or_then None true x y h = ap Some (h refl)
or_then _ _ x y h = refl

module _ {R X : Type 0} (f : R → X) where
  -- a link's object: the resource attribute, or with typeof and without about a new node
  abbrev link_names : Option R → Option R → Bool → X → Option X
  link_names res a types x = option_or (option_map f res) (then_some (types && is_none (option_map f a)) x)

  -- with one new node or the other it is the same, and where nothing else names it, it is that node
  link_new : (res a : Option R) (types : Bool) (x y : X) → ((is_none res && (types && is_none a)) ≡ true → x ≡ y)
      → (link_names res a types x ≡ link_names res a types y) × ((is_none res && (types && is_none a)) ≡ true → link_names res a types y ≡ Some y)
  link_new None (Some b) true x y h = (refl, λ t. absurd (cc t))
  link_new None None true x y h = (ap Some (h refl), λ t. refl)
  link_new _ _ _ x y h = (refl, λ t. absurd (cc t))

  abbrev plain_names : Bool → Option R → Bool → X → Option R → Bool → X → X → Option X
  plain_names t a root b res parent o x = then_some t (unwrap_or (option_or (option_map f a) (option_or (then_some root b) (option_or (option_map f res) (then_some parent o)))) x)

  plain_new : (t : Bool) (a : Option R) (root : Bool) (b : X) (res : Option R) (parent : Bool) (o x y : X) → ((t && (is_none a && (not root && (is_none res && not parent)))) ≡ true → x ≡ y)
      → (plain_names t a root b res parent o x ≡ plain_names t a root b res parent o y)
      × ((t && (is_none a && (not root && (is_none res && not parent)))) ≡ true → plain_names t a root b res parent o y ≡ Some y)
  plain_new true None false b None false o x y h = (ap Some (h refl), λ k. refl)
  plain_new _ _ _ b _ _ o x y h = (refl, λ k. absurd (cc k))

  abbrev subject_names : Bool → Option R → Bool → X → Option R → Bool → X → X → X → X
  subject_names t a root b res parent o x z = unwrap_or (option_or (option_map f a) (option_or (option_map f res) (option_or (then_some root b) (option_or (then_some parent o) (then_some t x))))) z

  subject_new : (t : Bool) (a : Option R) (root : Bool) (b : X) (res : Option R) (parent : Bool) (o x y z : X) → ((t && (is_none a && (not root && (is_none res && not parent)))) ≡ true → x ≡ y)
      → (subject_names t a root b res parent o x z ≡ subject_names t a root b res parent o y z)
      × ((t && (is_none a && (not root && (is_none res && not parent)))) ≡ true → subject_names t a root b res parent o y z ≡ y)
  subject_new true None false b None false o x y z h = (h refl, λ k. refl)
  subject_new _ _ _ b _ _ o x y z h = (refl, λ k. absurd (cc k))

-- ---- whether an element makes a node

-- typeof, and nothing else that names the resource
abbrev pub names_none : Facts → Path → Bool
names_none facts path =
    is_some facts.types
    && (is_none facts.about && (not (is_root path) && (is_none (option_or facts.resource (option_or facts.href facts.src)) && not (is_root_child path && is_head_or_body facts.kind))))

abbrev pub links_none : Facts → Bool
links_none facts = is_none (option_or facts.resource (option_or facts.href facts.src)) && (is_some facts.types && is_none facts.about)

-- for its resources
abbrev pub makes_resource : Facts → Path → Bool
makes_resource facts path = cond (has_link facts) (links_none facts) (names_none facts path)

-- or for its children's
abbrev pub makes_new : {B : Type 0} → Facts → Path → Resources B → Bool
makes_new facts path here = makes_resource facts path || (not here.skipped && hangs facts here)

chosen : {X G : Type 0} (b p a c : Bool) (x x' y y' z z' : X) → (cond b a c ≡ true → G) → ((a ≡ true → G) → x ≡ x') → ((c ≡ true → G) → y ≡ y') → ((c ≡ true → G) → z ≡ z')
    → cond b x (cond p y z) ≡ cond b x' (cond p y' z')
chosen true p a c x x' y y' z z' k f g h = f k
chosen false true a c x x' y y' z z' k f g h = g k
chosen false false a c x x' y y' z z' k f g h = h k

chosen_is : {X : Type 0} (W : X → Type 0) (b p a c : Bool) (x y z : X) → cond b a c ≡ true → (a ≡ true → W x) → (c ≡ true → W y) → (c ≡ true → W z) → W (cond b x (cond p y z))
chosen_is W true p a c x y z k f g h = f k
chosen_is W false true a c x y z k f g h = g k
chosen_is W false false a c x y z k f g h = h k

never_both : (x t : Bool) → t ≡ true → (x && not t) ≡ false
never_both true t e = rw e refl
never_both false t e = refl

-- a path's level tells whether it is the root's, or a child's of the root
pub level_is : (d : ℕ) (path : Path) → length path ≡ suc d → (is_root path ≡ is_root (path_at (level_at d))) × (is_root_child path ≡ is_root_child (path_at (level_at d)))
level_is zero (i ∷ []) e = (refl, refl)
level_is (suc zero) (i ∷ j ∷ []) e = (refl, refl)
level_is (suc (suc d)) (i ∷ j ∷ k ∷ r) e = (refl, refl)
level_is _ _ e = absurd (omega (arith, e))

-- the naming with other names for the element's new node and its owners
abbrev pub other : {B O : Type 0} → Naming B O → B → O → O → Naming B O
other n c o p = record { author = n.author; made = λ path. c; cell = n.cell; of = λ path. o; below = λ path. p; first = n.first; same = n.same; same_owner = n.same_owner }

module _ {B O : Type 0} (n : Naming B O) (base : Chars) (at : Standing B O) where
  -- the new node is the subject or the object
  pub record MadeIn (here : Resources B) : Type 0 where
    pub speaks : here.skipped ≡ false
    pub is : (here.subject ≡ new_blank n at) ⊎ (here.object ≡ Some (new_blank n at))

  pub made_in : makes_resource at.facts at.path ≡ true → MadeIn (resources n base at)
  unfolding resources
  made_in k =
      chosen_is MadeIn (has_link at.facts) (is_plain_property at.facts) (links_none at.facts) (names_none at.facts at.path) (of_link n base at) (of_property n base at) (of_no_link n base at) k
      (λ h. record { speaks = refl; is = inr ((link_new (resource_named n base) (option_or at.facts.resource (option_or at.facts.href at.facts.src)) at.facts.about (is_some at.facts.types) (new_blank n at) (new_blank n at) (λ t. refl)).1 h) })
      (λ h. record { speaks = refl; is = inr ((plain_new (resource_named n base) (is_some at.facts.types) at.facts.about (is_root at.path) (Iri base) (option_or at.facts.resource (option_or at.facts.href at.facts.src)) (is_root_child at.path && is_head_or_body at.facts.kind) at.around.object (new_blank n at) (new_blank n at) (λ t. refl)).1 h) })
      (λ h. record {
        speaks = never_both _ (is_some at.facts.types) (and_left (is_some at.facts.types) _ h);
        is = inl ((subject_new (resource_named n base) (is_some at.facts.types) at.facts.about (is_root at.path) (Iri base) (option_or at.facts.resource (option_or at.facts.href at.facts.src)) (is_root_child at.path && is_head_or_body at.facts.kind) at.around.object (new_blank n at) (new_blank n at) at.around.object (λ t. refl)).1 h);
      })

  module _ (c : B) (o p : O) where
    pub resources_other : (makes_resource at.facts at.path ≡ true → Blank c ≡ new_blank n at) → resources (other n c o p) base at ≡ resources n base at
    unfolding resources
    resources_other k =
        chosen {G = Blank c ≡ new_blank n at} (has_link at.facts) (is_plain_property at.facts) (links_none at.facts) (names_none at.facts at.path)
        (of_link (other n c o p) base at) (of_link n base at) (of_property (other n c o p) base at) (of_property n base at) (of_no_link (other n c o p) base at) (of_no_link n base at)
        k
        (λ h.
        let e = (link_new (resource_named n base) (option_or at.facts.resource (option_or at.facts.href at.facts.src)) at.facts.about (is_some at.facts.types) (Blank c) (new_blank n at) h).0 in
        λ i. record { subject = default_subject n base at; typed = only (is_some at.facts.types) (option_or (about n base at) (e i)); object = e i; skipped = false })
        (λ h.
        let e = (plain_new (resource_named n base) (is_some at.facts.types) at.facts.about (is_root at.path) (Iri base) (option_or at.facts.resource (option_or at.facts.href at.facts.src)) (is_root_child at.path && is_head_or_body at.facts.kind) at.around.object (Blank c) (new_blank n at) h).0 in
        λ i. record { subject = default_subject n base at; typed = e i; object = e i; skipped = false })
        (λ h.
        let e = (subject_new (resource_named n base) (is_some at.facts.types) at.facts.about (is_root at.path) (Iri base) (option_or at.facts.resource (option_or at.facts.href at.facts.src)) (is_root_child at.path && is_head_or_body at.facts.kind) at.around.object (Blank c) (new_blank n at) at.around.object h).0 in
        λ i. record {
          subject = e i;
          typed = then_some (is_some at.facts.types) (e i);
          object = None;
          skipped = is_none at.facts.property && is_none (about n base at) && is_none (linked_resource n base at) && is_none (base_at_root n base at) && not (is_some at.facts.types);
        })

    -- with the resources at hand
    module _ (here : Resources B) (new : here.skipped ≡ false → hangs at.facts here ≡ true → Blank c ≡ new_blank n at)
        (own : here.skipped ≡ false → same_node n.same here.subject at.around.object ≡ false → o ≡ n.of at.path)
        (under : here.skipped ≡ false → (object : Node B) → object_below n at here ≡ Some object → same_node n.same object here.subject ≡ false → p ≡ n.below at.path) where
      cond_other : {X : Type 0} (t : Bool) (x y z : X) → (t ≡ false → y ≡ z) → cond t x y ≡ cond t x z
      cond_other true x y z h = refl
      cond_other false x y z h = h refl

      object_same : here.skipped ≡ false → object_below (other n c o p) at here ≡ object_below n at here
      object_same s = or_then here.object (hangs at.facts here) (Blank c) (new_blank n at) (new s)

      pub owner_same : here.skipped ≡ false → own_owner (other n c o p) at here ≡ own_owner n at here
      owner_same s = cond_other (same_node n.same here.subject at.around.object) at.around.owner o (n.of at.path) (own s)

      under_same : here.skipped ≡ false → (object : Option (Node B)) → object_below n at here ≡ object → (w : O) → owner_below (other n c o p) at here object w ≡ owner_below n at here object w
      under_same s None e w = refl
      under_same s (Some object) e w = cond_other (same_node n.same object here.subject) w p (n.below at.path) (under s object e)

      handed_if : (b : Bool) → here.skipped ≡ b → handed (other n c o p) at here ≡ handed n at here
      handed_if true e = rw e refl
      handed_if false e =
          let ob = object_same e in
          let ow = owner_same e in
          rw e (λ i. record {
            subject = here.subject;
            object = unwrap_or (ob i) here.subject;
            hanging = cond (hangs at.facts here) (hanging_of n at here (ow i)) [];
            owner = (ap₂ (owner_below (other n c o p) at here) ob ow ∙ under_same e (object_below n at here) refl (own_owner n at here)) i;
          })

      pub handed_other : handed (other n c o p) at here ≡ handed n at here
      handed_other = handed_if here.skipped refl

      module _ {T : Type 0} (full : Term B → T) (v : T) where
        linked_same : here.skipped ≡ false → (object : Option (Node B)) → linked (other n c o p) full v at here object ≡ linked n full v at here object
        linked_same s None = refl
        linked_same s (Some object) = ap (λ (w : O). map (entry w (Some (full (Resource object)))) (listed at.facts.rel)) (owner_same s)

        awaited_same : (hanging : List (Hanging O)) → filter_map (awaited (other n c o p) full v at here) hanging ≡ filter_map (awaited n full v at here) hanging
        awaited_same [] = refl
        awaited_same (Forward q ∷ hanging) = awaited_same hanging
        awaited_same (Reverse q ∷ hanging) = awaited_same hanging
        awaited_same (InList w q ∷ hanging) = ap (λ (l : List (ListEntry O T)). entry w (Some (full (Resource here.subject))) q ∷ l) (awaited_same hanging)

        entries_if : (b : Bool) → here.skipped ≡ b → entries_by (other n c o p) full v at here ≡ entries_by n full v at here
        entries_if true e = rw e refl
        entries_if false e =
            let l = linked_same e here.object in
            let t = ap (λ (w : O). cond (hangs at.facts here) (map (entry {T = T} w None) (listed at.facts.rel)) []) (owner_same e) in
            let u = ap (λ (w : O). map (entry w (Some v)) (listed at.facts.property)) (owner_same e) in
            rw e (λ i. cond at.facts.inlist (l i ++ t i ++ u i) [] ++ awaited_same at.around.hanging i)

        pub entries_other : entries_by (other n c o p) full v at here ≡ entries_by n full v at here
        entries_other = entries_if here.skipped refl
