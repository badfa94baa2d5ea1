-- Renaming goes through the resources of an element, and what its children inherit.
use Rattle.rx_rdfa.proofs.Common.{map-append, option_or, Chars, Among, Node, Iri, Blank, same_node, rename_node, Among_left, Among_right, ◌≡◌, Bool, true, false, cond, List, [], ◌∷◌, ◌++◌, map, flat_map, Option, Some, None, option_map, is_none, refl, ap, ap₂, ◌∙◌, inl, not, ◌&&◌, ◌||◌, unwrap_or, then_some, Naming, Facts, Ref, LabelRef, Forward, Reverse, InList, Standing, Resources, resource_named, about, linked_resource, base_at_root, parent_for_head_and_body, has_typeof, has_link, is_plain_property, is_root, is_root_child, is_head_or_body, new_blank, default_subject, of_property, of_no_link, of_link, only, listed, holds_some, hangs, object_below, own_owner, hanging_of, owner_below, handed, rename_hanging, rename_inherited, rename_standing, rename_resources, label_of, label_of_option, labels, AgreeAt}
use Rattle.rx_rdfa.specs.Resources.{resources}
use Rattle.rx_rdfa.specs.Inherited.{below}
use Rattle.rx_rdfa.proofs.Sent.{Sent, SentOption, map_or, map_then, map_unwrap, none_map, map_cond, or_is, then_is, only_is, unwrap_is, none_is, cond_is}

pub same_nodes : {B C : Type 0} (to : B → C) (same : B → B → Bool) (same' : C → C → Bool) → ((a b : B) → same a b ≡ same' (to a) (to b))
    → (a b : Node B) → same_node same a b ≡ same_node same' (rename_node to a) (rename_node to b)
same_nodes to same same' k (Iri a) (Iri b) = refl
same_nodes to same same' k (Blank a) (Blank b) = k a b
same_nodes to same same' k _ _ = refl

module _ {O P : Type 0} (g : O → P) where
  rel_is : (b : Bool) (owner : O) (ps : List Chars) → map (rename_hanging g) (map (cond b (InList owner) Forward) ps) ≡ map (cond b (InList (g owner)) Forward) ps
  rel_is true owner (p ∷ ps) = ap (λ z. InList (g owner) p ∷ z) (rel_is true owner ps)
  rel_is false owner (p ∷ ps) = ap (λ z. Forward p ∷ z) (rel_is false owner ps)
  rel_is _ owner [] = refl

  rev_is : (ps : List Chars) → map (rename_hanging g) (map Reverse ps) ≡ map Reverse ps
  rev_is [] = refl
  rev_is (p ∷ ps) = ap (λ z. Reverse p ∷ z) (rev_is ps)

-- the two ways of naming name the labels alike
abbrev pub Alike : {B O C P : Type 0} → (B → C) → Naming B O → Naming C P → List Chars → Type 0
Alike f n m list = (label : Chars) → Among list label → f (n.author label) ≡ m.author label

module _ {B O C P : Type 0} (f : B → C) (n : Naming B O) (m : Naming C P) where
  pub alike_left : (xs ys : List Chars) → Alike f n m (xs ++ ys) → Alike f n m xs
  alike_left xs ys k label h = k label (Among_left xs ys label h)

  pub alike_right : (xs ys : List Chars) → Alike f n m (xs ++ ys) → Alike f n m ys
  alike_right xs ys k label h = k label (Among_right xs ys label h)

  pub alike_or : (r s : Option Ref) → Alike f n m (label_of_option r) → Alike f n m (label_of_option s) → Alike f n m (label_of_option (option_or r s))
  alike_or None s k l = l
  alike_or (Some r) s k l = k

  -- the names of an element's attributes
  pub record AlikeAt (facts : Facts) : Type 0 where
    pub about_labels : Alike f n m (label_of_option facts.about)
    pub resource_labels : Alike f n m (label_of_option (option_or facts.resource (option_or facts.href facts.src)))
    pub type_labels : Alike f n m (flat_map label_of (listed facts.types))

  pub alike_at : (facts : Facts) → Alike f n m (labels facts) → AlikeAt facts
  alike_at facts k =
      let a = label_of_option facts.about in
      let r = label_of_option facts.resource in
      let h = label_of_option facts.href in
      let s = label_of_option facts.src in
      let t = flat_map label_of (listed facts.types) in
      let k₁ = alike_right a (r ++ (h ++ (s ++ t))) k in
      let k₂ = alike_right r (h ++ (s ++ t)) k₁ in
      let k₃ = alike_right h (s ++ t) k₂ in
      record {
        about_labels = alike_left a (r ++ (h ++ (s ++ t))) k;
        resource_labels =
            alike_or facts.resource (option_or facts.href facts.src) (alike_left r (h ++ (s ++ t)) k₁)
            (alike_or facts.href facts.src (alike_left h (s ++ t) k₂) (alike_left s t k₃));
        type_labels = alike_right s t k₃;
      }

  module _ (base : Chars) where
    pub named : (r : Ref) → Alike f n m (label_of r) → rename_node f (resource_named n base r) ≡ resource_named m base r
    named (LabelRef label) k = ap Blank (k label (inl refl))
    named _ k = refl

    pub named_option : (r : Option Ref) → Alike f n m (label_of_option r)
        → SentOption (rename_node f) (option_map (resource_named n base) r) (option_map (resource_named m base) r)
    named_option None k = record { path = refl }
    named_option (Some r) k = record { path = ap Some (named r k) }

module _ {B O C P : Type 0} (f : B → C) (g : O → P) (n : Naming B O) (m : Naming C P) (base : Chars) (at : Standing B O) (k : AgreeAt f g n m at.facts at.path) where
  abbrev r : Node B → Node C
  r = rename_node f

  abbrev there : Standing C P
  there = rename_standing f g at

  about_is : SentOption r (about n base at) (about m base there)
  about_is = named_option f n m base at.facts.about (alike_at f n m at.facts k.author).about_labels

  linked_is : SentOption r (linked_resource n base at) (linked_resource m base there)
  linked_is = named_option f n m base (option_or at.facts.resource (option_or at.facts.href at.facts.src)) (alike_at f n m at.facts k.author).resource_labels

  base_is : Sent r (Iri base) (Iri base)
  base_is = record { path = refl }

  root_is : SentOption r (base_at_root n base at) (base_at_root m base there)
  root_is = then_is (is_root at.path) base_is

  object_is : Sent r at.around.object there.around.object
  object_is = record { path = refl }

  parent_is : SentOption r (parent_for_head_and_body n base at) (parent_for_head_and_body m base there)
  parent_is = then_is (is_root_child at.path && is_head_or_body at.facts.kind) object_is

  blank_is : Sent r (new_blank n at) (new_blank m there)
  blank_is = record { path = ap Blank k.made }

  default_is : Sent r (default_subject n base at) (default_subject m base there)
  default_is = unwrap_is (or_is about_is root_is) object_is

  property_is : Sent (rename_resources f) (of_property n base at) (of_property m base there)
  property_is =
      let typed = then_is (has_typeof n base at) (unwrap_is (or_is about_is (or_is root_is (or_is linked_is parent_is))) blank_is) in
      record { path = λ i. record { subject = default_is.path i; typed = typed.path i; object = typed.path i; skipped = false } }

  no_link_is : Sent (rename_resources f) (of_no_link n base at) (of_no_link m base there)
  no_link_is =
      let subject = unwrap_is (or_is about_is (or_is linked_is (or_is root_is (or_is parent_is (then_is (has_typeof n base at) blank_is))))) object_is in
      let typed = then_is (has_typeof n base at) subject in
      record {
        path = λ i. record {
          subject = subject.path i;
          typed = typed.path i;
          object = None;
          skipped = is_none at.facts.property && none_is about_is i && none_is linked_is i && none_is root_is i && not (has_typeof n base at);
        };
      }

  link_is : Sent (rename_resources f) (of_link n base at) (of_link m base there)
  link_is =
      let object = or_is linked_is (then_is (has_typeof n base at && is_none (about n base at)) blank_is) in
      let typed = only_is (has_typeof n base at) (or_is about_is object) in
      record {
        path = (λ i. record { subject = default_is.path i; typed = typed.path i; object = object.path i; skipped = false })
            ∙ ap (λ t. record {
              subject = default_subject m base there;
              typed = only (has_typeof n base at) (option_or (about m base there) (option_or (linked_resource m base there) (then_some (has_typeof n base at && t) (new_blank m there))));
              object = option_or (linked_resource m base there) (then_some (has_typeof n base at && t) (new_blank m there));
              skipped = false;
            }) (none_is about_is);
      }

  pub resources_rename : rename_resources f (resources n base at) ≡ resources m base (rename_standing f g at)
  unfolding resources
  resources_rename = (cond_is {h = rename_resources f} (has_link at.facts) link_is (cond_is (is_plain_property at.facts) property_is no_link_is)).path

module _ {B O C P : Type 0} (f : B → C) (g : O → P) (n : Naming B O) (m : Naming C P) (at : Standing B O) (k : AgreeAt f g n m at.facts at.path) (here : Resources B) where
  abbrev r' : Node B → Node C
  r' = rename_node f

  abbrev there' : Standing C P
  there' = rename_standing f g at

  abbrev here' : Resources C
  here' = rename_resources f here

  pub owner_is : g (own_owner n at here) ≡ own_owner m (rename_standing f g at) (rename_resources f here)
  owner_is = map_cond g (same_node n.same here.subject at.around.object) at.around.owner (n.of at.path)
      ∙ ap₂ (λ t o. cond t (g at.around.owner) o) (same_nodes f n.same m.same k.same here.subject at.around.object) k.of

  below_owner_is : (o : Option (Node B)) (owner : O) → g (owner_below n at here o owner) ≡ owner_below m there' here' (option_map r' o) (g owner)
  below_owner_is None owner = refl
  below_owner_is (Some object) owner = map_cond g (same_node n.same object here.subject) owner (n.below at.path)
      ∙ ap₂ (λ t o. cond t (g owner) o) (same_nodes f n.same m.same k.same object here.subject) k.below

  pub hangs_is : hangs at.facts here ≡ hangs at.facts (rename_resources f here)
  hangs_is = ap (λ t. t && (holds_some (listed at.facts.rel) || holds_some (listed at.facts.rev))) (none_map (rename_node f) here.object)

  object_below_is : option_map r' (object_below n at here) ≡ object_below m there' here'
  object_below_is = map_or (rename_node f) here.object (then_some (hangs at.facts here) (new_blank n at))
      ∙ ap (option_or (option_map (rename_node f) here.object)) (map_then (rename_node f) (hangs at.facts here) (new_blank n at) ∙ ap₂ then_some hangs_is (ap Blank k.made))

  hanging_is : (owner : O) → map (rename_hanging g) (hanging_of n at here owner) ≡ hanging_of m there' here' (g owner)
  hanging_is owner = map-append (rename_hanging g) (map (cond at.facts.inlist (InList owner) Forward) (listed at.facts.rel)) (map Reverse (listed at.facts.rev))
      ∙ ap₂ ◌++◌ (rel_is g at.facts.inlist owner (listed at.facts.rel)) (rev_is g (listed at.facts.rev))

  pub handed_rename : rename_inherited f g (handed n at here) ≡ handed m (rename_standing f g at) (rename_resources f here)
  handed_rename =
      map_cond (rename_inherited f g) here.skipped at.around (record {
        subject = here.subject;
        object = unwrap_or (object_below n at here) here.subject;
        hanging = cond (hangs at.facts here) (hanging_of n at here (own_owner n at here)) [];
        owner = owner_below n at here (object_below n at here) (own_owner n at here);
      })
      ∙ ap (cond here.skipped (rename_inherited f g at.around)) (λ i. record {
        subject = rename_node f here.subject;
        object = (map_unwrap (rename_node f) (object_below n at here) here.subject ∙ ap (λ o. unwrap_or o (rename_node f here.subject)) object_below_is) i;
        hanging = (map_cond (map (rename_hanging g)) (hangs at.facts here) (hanging_of n at here (own_owner n at here)) []
            ∙ ap₂ (λ t h. cond t h []) hangs_is (hanging_is (own_owner n at here) ∙ ap (hanging_of m there' here') owner_is)) i;
        owner = (below_owner_is (object_below n at here) (own_owner n at here) ∙ ap₂ (owner_below m there' here') object_below_is owner_is) i;
      })

pub below_rename : {B O C P : Type 0} (f : B → C) (g : O → P) (n : Naming B O) (m : Naming C P) (base : Chars) (at : Standing B O) → AgreeAt f g n m at.facts at.path
    → rename_inherited f g (below n base at) ≡ below m base (rename_standing f g at)
unfolding below
below_rename f g n m base at k = handed_rename f g n m at k (resources n base at)
    ∙ ap (handed m (rename_standing f g at)) (resources_rename f g n m base at k)
