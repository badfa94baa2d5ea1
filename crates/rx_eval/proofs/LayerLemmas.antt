-- The frames of the open elements, and the owners that are open.
use Rattle.std.proofs.lemmas.List.Folds.{list_any-append}
use Rattle.rx_eval.proofs.Common.{◌≡◌, ◌∙◌, ℕ, suc, ◌+◌, ◌<◌, ◌≤◌, ⊎_elim, false, List, [], ◌∷◌, ◌++◌, map, length, Option, Some, None, option_map, refl, sym, ap, subst, arith, append-nil, length-append, IfSome, cases_lt, Chars, by_test, IfSome_then, Node, false_unless, Owner, First, Of, Below, same_owner, model, Inherited, resources, below, end_of, value_at, inherit, rename_inherited, exact_owners, text_literal, Frame, handed_on, Numbering, Number, numbered_name, KeepsNumbers, OpenOwners, owner_place, OwnersDiffer, Within, Layer, frames_in, begun_by, own_in, under_in, open_in, waiter_of, text_triples, LayerStands, LayersStand, owner_depth, page_context, ◌⊎◌, inl, inr, or_parts, is_some, ◌||◌, gathers_some, KeptAt, path_in, WithinOption, text_places, Text}
use Rattle.rx_eval.proofs.NameLemmas.{grown_same, node_later, term_later, triples_later, inherited_later}
use Rattle.rx_eval.proofs.FillLemmas.{within_more}
use Rattle.rx_eval.proofs.ListLemmas.{owner_turned, no_suc, suc_is}

-- ---- owners and their numbers

pub place_front : (xs ys : OpenOwners) (o : Owner) (n : ℕ) → owner_place xs o ≡ Some n → owner_place (xs ++ ys) o ≡ Some n
place_front [] ys o n h = absurd (cc)
place_front (x ∷ xs) ys o n h =
    by_test (same_owner x.0 o) (λ t. rw t (rw t at h))
    (λ f. rw f (let m = suc_is (owner_place xs o) n (rw f at h) in ap (option_map suc) (place_front xs ys o m.0 m.1) ∙ ap Some (sym m.2)))

pub grown_open : (xs ys : OpenOwners) → KeepsNumbers (owner_place xs) (owner_place (xs ++ ys))
grown_open xs ys = record { keeps = place_front xs ys }

pub place_back : (xs ys : OpenOwners) (o : Owner) → owner_place xs o ≡ None → owner_place (xs ++ ys) o ≡ option_map (λ n. length xs + n) (owner_place ys o)
place_back [] ys o h = shifted (owner_place ys o)
  where
    shifted : (p : Option ℕ) → p ≡ option_map (λ n. 0 + n) p
    shifted None = refl
    shifted (Some n) = let e : n ≡ 0 + n = omega arith in ap Some e
place_back (x ∷ xs) ys o h =
    by_test (same_owner x.0 o) (λ t. absurd (cc (rw t at h)))
    (λ f. rw f (ap (option_map suc) (place_back xs ys o (no_suc (owner_place xs o) (rw f at h))) ∙ shifted (owner_place ys o)))
  where
    shifted : (p : Option ℕ) → option_map suc (option_map (λ n. length xs + n) p) ≡ option_map (λ n. suc (length xs) + n) p
    shifted None = refl
    shifted (Some n) = let e : suc (length xs + n) ≡ suc (length xs) + n = omega arith in ap Some e

pub place_none : (xs ys : OpenOwners) (o : Owner) → owner_place xs o ≡ None → owner_place ys o ≡ None → owner_place (xs ++ ys) o ≡ None
place_none xs ys o h k = place_back xs ys o h ∙ ap (option_map (λ n. length xs + n)) k

pub none_before : (xs ys : OpenOwners) (o : Owner) → owner_place (xs ++ ys) o ≡ None → owner_place xs o ≡ None
none_before xs ys o h = go (owner_place xs o) refl
  where
    go : (p : Option ℕ) → owner_place xs o ≡ p → owner_place xs o ≡ None
    go None e = e
    go (Some n) e = absurd (cc (place_front xs ys o n e, h))

apart_more : (xs : OpenOwners) (o : Owner) (s : Node ℕ) → OwnersDiffer xs → owner_place xs o ≡ None → OwnersDiffer (xs ++ (o, s) ∷ [])
apart_more [] o s a h = (refl, tt)
apart_more (x ∷ xs) o s a h =
    by_test (same_owner x.0 o) (λ t. absurd (cc (rw t at h)))
    (λ f. (place_none xs ((o, s) ∷ []) x.0 a.0 (rw (owner_turned o x.0 ∙ f) refl), apart_more xs o s a.1 (no_suc (owner_place xs o) (rw f at h))))

pub apart_begun : (xs : OpenOwners) (own : Option ℕ) (o : Owner) (s : Node ℕ) → OwnersDiffer xs → owner_place xs o ≡ None → OwnersDiffer (xs ++ begun_by own o s)
apart_begun xs None o s a h = subst OwnersDiffer (sym (append-nil xs)) a
apart_begun xs (Some n) o s a h = apart_more xs o s a h

-- an owner of an element has no place among those of elements around it
not_same : (a b : Owner) → ¬ (a ≡ b) → same_owner a b ≡ false
not_same a b h = false_unless (same_owner a b) (λ t. h ((exact_owners a b).0 t))

pub begun_none : (own : Option ℕ) (w o : Owner) (s : Node ℕ) → ¬ (w ≡ o) → owner_place (begun_by own w s) o ≡ None
begun_none None w o s h = refl
begun_none (Some n) w o s h = rw (not_same w o h) refl

pub begun_place : (own : Option ℕ) (o : Owner) (s : Node ℕ) (k : ℕ) → IfSome own (λ n. n ≡ k) → option_map (λ n. k + n) (owner_place (begun_by own o s) o) ≡ own
begun_place None o s k h = refl
begun_place (Some n) o s k h = rw ((exact_owners o o).1 refl) (let e : k + 0 ≡ n = omega (arith, h) in ap Some e)

module _ (base : Chars) where
  -- owners that are deeper than all layers have no place
  pub deeper_none : (to : Numbering) (kept : Chars) (layers : List Layer) → LayersStand to base kept layers → (o : Owner) → length layers < owner_depth o → owner_place (open_in base layers) o ≡ None
  deeper_none to kept [] h o d = rw (not_same First o (λ e. let q = ap owner_depth e in omega (arith, q, d))) refl
  deeper_none to kept (l ∷ lower) h o d =
      let k = h.0.deep in
      place_none (open_in base lower ++ own_in l) (under_in l) o
      (place_none (open_in base lower) (own_in l) o (deeper_none to kept lower h.1 o (omega (arith, d)))
      (begun_none l.frame.own (Of l.at.path) o l.frame.context.subject (λ e. let q = ap owner_depth e in omega (arith, q, d, k))))
      (begun_none l.frame.below (Below l.at.path) o l.frame.context.object (λ e. let q = ap owner_depth e in omega (arith, q, d, k)))

  pub placed_depth : (to : Numbering) (kept : Chars) (layers : List Layer) → LayersStand to base kept layers → (o : Owner) (n : ℕ) → owner_place (open_in base layers) o ≡ Some n → owner_depth o ≤ length layers
  placed_depth to kept layers h o n e = ⊎_elim (λ d. absurd (cc (e, deeper_none to kept layers h o d))) (λ d. omega (arith, d)) (cases_lt (length layers) (owner_depth o))

  pub apart_open : (to : Numbering) (kept : Chars) (layers : List Layer) → LayersStand to base kept layers → OwnersDiffer (open_in base layers)
  apart_open to kept [] h = (refl, tt)
  apart_open to kept (l ∷ lower) h =
      let k = h.0.deep in
      let none = deeper_none to kept lower h.1 in
      apart_begun (open_in base lower ++ own_in l) l.frame.below (Below l.at.path) l.frame.context.object
      (apart_begun (open_in base lower) l.frame.own (Of l.at.path) l.frame.context.subject (apart_open to kept lower h.1) (none (Of l.at.path) (omega (arith, k))))
      (place_none (open_in base lower) (own_in l) (Below l.at.path) (none (Below l.at.path) (omega (arith, k))) (begun_none l.frame.own (Of l.at.path) (Below l.at.path) l.frame.context.subject (λ e. absurd (cc e))))

  -- the places of all layers are within the open owners
  pub all_within : (to : Numbering) (kept : Chars) (layers : List Layer) → LayersStand to base kept layers → Within (length (open_in base layers)) (map waiter_of layers)
  all_within to kept [] h = tt
  all_within to kept (l ∷ lower) h = (
    h.0.places,
    within_more (length (open_in base lower)) (length (open_in base (l ∷ lower))) (map waiter_of lower)
        (let a = length-append (open_in base lower) (own_in l) in let b = length-append (open_in base lower ++ own_in l) (under_in l) in omega (arith, a, b))
        (all_within to kept lower h.1),
  )

-- ---- frames

pub handed_last : (page : Inherited ℕ ℕ) (frames : List Frame) (frame : Frame) → handed_on page (frames ++ frame ∷ []) ≡ frame.context
handed_last page [] frame = refl
handed_last page (f ∷ frames) frame = handed_last f.context frames frame

pub frames_length : (layers : List Layer) → length (frames_in layers) ≡ length layers
frames_length [] = refl
frames_length (l ∷ lower) = let a = length-append (frames_in lower) (l.frame ∷ []) in let b = frames_length lower in omega (arith, a, b)

-- what a child of the innermost element inherits
pub handed_now : (to : Numbering) (base kept : Chars) (layers : List Layer) → LayersStand to base kept layers
    → rename_inherited Number Number (handed_on (page_context base) (frames_in layers))
    ≡ rename_inherited (numbered_name to) (numbered_name (owner_place (open_in base layers))) (inherit model base (map (λ l. l.at) layers))
handed_now to base kept [] h = refl
handed_now to base kept (l ∷ lower) h = ap (rename_inherited Number Number) (handed_last (page_context base) (frames_in lower) l.frame) ∙ h.0.context

-- ---- layers when more have numbers, and when other text is kept

-- what is kept has each mark's text still, or no frame gathers any
abbrev pub Marked : Chars → Chars → (Chars → Chars) → List Frame → Type 0
Marked kept more g frames = (gathers_some frames ≡ false) ⊎ ((mark : ℕ) (text : Chars) → KeptAt kept mark text → KeptAt more mark (g text))

pub marked : (kept more : Chars) (g : Chars → Chars) (l : Layer) (frames : List Frame) → Marked kept more g (frames ++ l.frame ∷ []) → IfSome l.frame.text (λ t. KeptAt kept t.mark l.text)
    → IfSome l.frame.text (λ t. KeptAt more t.mark (g l.text)) × Marked kept more g frames
marked kept more g l frames (inl q) h =
    let both = or_parts (gathers_some frames) (is_some l.frame.text || false) (sym (list_any-append (λ f. is_some f.text) frames (l.frame ∷ [])) ∙ q) in
    (none l.frame.text (or_parts (is_some l.frame.text) false both.1).0, inl both.0)
  where
    none : (o : Option Text) → is_some o ≡ false → IfSome o (λ t. KeptAt more t.mark (g l.text))
    none None e = tt
    none (Some t) e = absurd (cc)
marked kept more g l frames (inr k) h = (IfSome_then l.frame.text h (λ t. k t.mark l.text), inr k)

module _ (old new : Numbering) (grown : KeepsNumbers old new) (base kept more : Chars) where
  -- an element with another text, inside the same ones
  pub layer_later : (l : Layer) (text : Chars) (xs ys : List Layer) → length xs ≡ length ys → path_in xs ≡ path_in ys → open_in base xs ≡ open_in base ys → IfSome l.frame.text (λ t. KeptAt more t.mark text)
      → LayerStands old base kept l xs → LayerStands new base more (record { at = l.at; text = text; frame = l.frame }) ys
  layer_later l text xs ys n p o k h = record {
    deep = h.deep ∙ ap suc n;
    inside = h.inside ∙ p;
    context = subst (λ (x : OpenOwners). rename_inherited Number Number l.frame.context ≡ rename_inherited (numbered_name new) (numbered_name (owner_place ((x ++ own_in l) ++ under_in l))) (below model base l.at)) o
        (inherited_later old new grown (owner_place (open_in base (l ∷ xs))) (owner_place (open_in base (l ∷ xs))) (grown_same (owner_place (open_in base (l ∷ xs)))) l.frame.context (below model base l.at) h.context);
    own = subst (λ (x : OpenOwners). IfSome l.frame.own (λ n. n ≡ length x)) o h.own;
    subject = IfSome_then l.frame.own h.subject (λ n e. node_later old new grown l.frame.context.subject (resources model base l.at).subject e);
    under = subst (λ (x : OpenOwners). IfSome l.frame.below (λ n. n ≡ length (x ++ own_in l))) o h.under;
    gathers = h.gathers;
    said = λ chars. triples_later old new grown (text_triples l.frame.text chars) (end_of model base l.at chars) (h.said chars);
    value = IfSome_then l.frame.text h.value (λ t e chars. term_later old new grown (text_literal t.by chars) (value_at model base l.at chars) (e chars));
    marked = k;
    places = subst (λ (x : OpenOwners). WithinOption (length ((x ++ own_in l) ++ under_in l)) (text_places l.frame.text)) o h.places;
  }

  pub layers_later : (layers : List Layer) → Marked kept more (λ t. t) (frames_in layers) → LayersStand old base kept layers → LayersStand new base more layers
  layers_later [] k h = tt
  layers_later (l ∷ lower) k h =
      let m = marked kept more (λ t. t) l (frames_in lower) k h.0.marked in
      (layer_later l l.text lower lower refl refl refl m.0 h.0, layers_later lower m.1 h.1)
