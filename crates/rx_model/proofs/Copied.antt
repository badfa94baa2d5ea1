-- The law of copying.
use Rattle.rx_terms.proofs.Common.{◌≡◌, ◌≢◌, ◌⊎◌, Bool, true, false, cond, List, [], ◌∷◌, flat_map, filter_map, Option, Some, None, option_map, is_none, refl, sym, ap, ◌∙◌, subst, inl, inr, true≢false, bytes_eq, not, ◌&&◌, Chars, and_from, untrue, cond_some}
use Rattle.rx_model.specs.Sets.{Among, IsExact}
use Rattle.rx_model.specs.Terms.{Node, Iri, Term, Resource, Literal, Triple, same_node, same_term, same_triple}
use Rattle.rx_model.specs.Copied.{rdfa_copy, rdfa_pattern, spo, type_pattern, copy, SaysPattern, Closed, held, copied_from, Referenced, SaysLive, patterned, is_pattern, pattern_object, live, edge, edges, leads, says_pattern, is_referenced, given, replaced, treated, copied, CopiesPatterns}
use Rattle.rx_model.specs.Vocabulary.{rdf_type}
use Rattle.rx_model.proofs.Sets.{or_cases, or_left, or_right, and_left, and_right, false_unless, Among-contains, Among_by_contains, Among_of_distinct, Among_distinct, Among_flat_map, Among_of_flat_map, Among_filter_map, Among_of_filter_map}
use Rattle.rx_model.proofs.Leads.{leads_self, leads_on, leads_pair, leads_keep}
use Rattle.rx_model.proofs.Exact.{exact_texts, exact_nodes, exact_terms, exact_triples}

copy_is_no_type : rdfa_copy ≢ rdf_type
copy_is_no_type e = true≢false (sym ((exact_texts rdfa_copy rdf_type).1 e))

pub of_none : {A : Type 0} (o : Option A) → is_none o ≡ true → o ≡ None
of_none None h = refl
of_none (Some a) h = absurd (true≢false (sym h))

module _ {B : Type 0} (same : B → B → Bool) (exact : IsExact same) where
  referenced_by : (es : List (Node B × Node B)) (e : Node B × Node B) → Among es e → is_referenced same es e.1 ≡ true
  referenced_by [] e h = absurd h
  referenced_by (f ∷ es) e (inl q) = or_left (same_node same f.1 e.1) (is_referenced same es e.1) ((exact_nodes same exact f.1 e.1).1 (ap (λ (x : Node B × Node B). x.1) q))
  referenced_by (f ∷ es) e (inr h) = or_right (same_node same f.1 e.1) (is_referenced same es e.1) (referenced_by es e h)

  of_referenced : (es : List (Node B × Node B)) (t : Node B) → is_referenced same es t ≡ true → (s : Node B) × Among es (s, t)
  of_referenced [] t h = absurd (true≢false (sym h))
  of_referenced (f ∷ es) t h = elim (or_cases (same_node same f.1 t) (is_referenced same es t) h) [
    | inl e ↦ (f.0, inl (λ i. (f.0, (exact_nodes same exact f.1 t).0 e i)))
    | inr k ↦ (let r = of_referenced es t k in (r.0, inr r.1))
  ]

  module _ (list : List (Triple B)) where
    -- ---- the tests of the list
    pub pattern_true : (t : Node B) → Among list (type_pattern t) → is_pattern same list t ≡ true
    pattern_true t h = Among-contains (same_triple same) (exact_triples same exact) list (type_pattern t) h

    pub of_pattern : (t : Node B) → is_pattern same list t ≡ true → Among list (type_pattern t)
    of_pattern t h = Among_by_contains (same_triple same) (exact_triples same exact) list (type_pattern t) h

    live_some : (t : Node B) → Among list (type_pattern t) → live same list rdfa_copy (Resource t) ≡ Some t
    live_some t h = rw (pattern_true t h) refl

    of_pattern_object : (o : Term B) (t : Node B) → pattern_object same list o ≡ Some t → (o ≡ Resource t) × Among list (type_pattern t)
    of_pattern_object (Resource x) t h = go (is_pattern same list x) refl h
      where
        go : (b : Bool) → is_pattern same list x ≡ b → cond b (Some x) None ≡ Some t → (Resource x ≡ Resource t) × Among list (type_pattern t)
        go true e q = let p : x ≡ t = cc in (ap Resource p, subst (λ z. Among list (type_pattern z)) p (of_pattern x e))
        go false e q = cc
    of_pattern_object (Literal lexical kind) t h = cc

    of_live : (p : Chars) (o : Term B) (t : Node B) → live same list p o ≡ Some t → (p ≡ rdfa_copy) × (o ≡ Resource t) × Among list (type_pattern t)
    of_live p o t h = go (bytes_eq p rdfa_copy) refl h
      where
        go : (b : Bool) → bytes_eq p rdfa_copy ≡ b → cond b (pattern_object same list o) None ≡ Some t → (p ≡ rdfa_copy) × (o ≡ Resource t) × Among list (type_pattern t)
        go true e q = let r = of_pattern_object o t q in ((exact_texts p rdfa_copy).0 e, r.0, r.1)
        go false e q = cc

    pair_in : (s t : Node B) → Among list (copy s t) → Among list (type_pattern t) → Among (edges same list) (s, t)
    pair_in s t h k = Among_filter_map (edge same list) list (copy s t) (s, t) h (ap (option_map (λ (to : Node B). (s, to))) (live_some t k))

    pub of_pair : (e : Node B × Node B) → Among (edges same list) e → Among list (copy e.0 e.1) × Among list (type_pattern e.1)
    of_pair e h = let r = Among_of_filter_map (edge same list) list e h in go r.0 r.1 (live same list r.0.predicate r.0.object) refl r.2
      where
        go : (u : Triple B) → Among list u → (o : Option (Node B)) → live same list u.predicate u.object ≡ o → option_map (λ (to : Node B). (u.subject, to)) o ≡ Some e → Among list (copy e.0 e.1) × Among list (type_pattern e.1)
        go u m None q r = cc
        go u m (Some t) q r =
            let l = of_live u.predicate u.object t q in
            let p : (u.subject, t) ≡ e = cc in
            let c : u ≡ copy e.0 e.1 = λ i. record { subject = (p i).0; predicate = l.0 i; object = (l.1 ∙ ap (λ (x : Node B × Node B). Resource x.1) p) i } in
            (subst (Among list) c m, subst (λ z. Among list (type_pattern z)) (ap (λ (x : Node B × Node B). x.1) p) l.2)

    pattern_held : {u : Triple B} → Closed (Among list) u → SaysPattern u.predicate u.object → Among list u
    pattern_held (held h) s = h
    pattern_held (copied_from a b c n) s = absurd (n s)

    no_copy_says : (o : Term B) → ¬ (SaysPattern rdfa_copy o)
    no_copy_says o s = copy_is_no_type s.0

    -- t is where a live copy triple of s leads
    record Reaches (s t : Node B) : Type 0 where
      by : Node B
      copies : Among list (copy s by)
      says : Among list (type_pattern by)
      way : leads (same_node same) (edges same list) by t ≡ true

    -- u is copied from the list: from the triple (v, p, o) of a pattern v to which a live copy triple of the subject leads
    record Gets (u : Triple B) : Type 0 where
      v : Node B
      reaches : Reaches u.subject v
      has : Among list (spo v u.predicate u.object)
      new : ¬ (SaysPattern u.predicate u.object)

    reaches_on : (s t v : Node B) → leads (same_node same) (edges same list) t v ≡ true → Reaches s t → Reaches s v
    reaches_on s t v w r = record { by = r.by; copies = r.copies; says = r.says; way = leads_on (same_node same) (exact_nodes same exact) (edges same list) r.by t v r.way w }

    -- a copy triple of a pattern leads to it
    reaches_pair : (s t v : Node B) → Among list (copy t v) → Among list (type_pattern v) → Reaches s t → Reaches s v
    reaches_pair s t v h p r = reaches_on s t v (leads_pair (same_node same) (exact_nodes same exact) (edges same list) t v (pair_in t v h p)) r

    reached : (s t : Node B) → Among list (type_pattern t) → Among list (copy s t) ⊎ Gets (copy s t) → Reaches s t
    reached s t p (inl h) = record { by = t; copies = h; says = p; way = leads_self (same_node same) (exact_nodes same exact) (edges same list) t }
    reached s t p (inr k) = reaches_pair s k.v t k.has p k.reaches

    got_by : (s t : Node B) (p : Chars) (o : Term B) → ¬ (SaysPattern p o) → Reaches s t → Among list (spo t p o) ⊎ Gets (spo t p o) → Gets (spo s p o)
    got_by s t p o n r (inl h) = record { v = t; reaches = r; has = h; new = n }
    got_by s t p o n r (inr k) = let q = k.reaches in record { v = k.v; reaches = reaches_on s q.by k.v q.way (reaches_pair s t q.by q.copies q.says r); has = k.has; new = n }

    -- what is in the closed set is in the list or is got from it
    got : {u : Triple B} → Closed (Among list) u → Among list u ⊎ Gets u
    got (held h) = inl h
    got (copied_from {s} {t} {p} {o} a b c n) = inr (got_by s t p o n (reached s t (pattern_held b (refl, refl)) (got a)) (got c))

    -- what is reached is copied, and is a pattern
    Copies : Node B → Node B → Type 0
    Copies s v = Closed (Among list) (copy s v) × Among list (type_pattern v)

    copies_on : (s : Node B) (e : Node B × Node B) → Among (edges same list) e → Copies s e.0 → Copies s e.1
    unfolding Copies
    copies_on s e m c = let p = of_pair e m in (copied_from c.0 (held c.1) (held p.0) (no_copy_says (Resource e.1)), p.1)

    is_closed : (u : Triple B) → Gets u → Closed (Among list) u
    unfolding Copies
    is_closed u k =
        let r = k.reaches in
        let c = leads_keep (same_node same) (exact_nodes same exact) (Copies u.subject) (edges same list) (copies_on u.subject) r.by k.v r.way (held r.copies, r.says) in
        copied_from c.0 (held c.1) (held k.has) k.new

    -- ---- the two conditions, by the list
    referenced_from : (s t : Node B) → Among list (type_pattern t) → Among list (copy s t) ⊎ Gets (copy s t) → is_referenced same (edges same list) t ≡ true
    referenced_from s t p (inl h) = referenced_by (edges same list) (s, t) (pair_in s t h p)
    referenced_from s t p (inr k) = referenced_by (edges same list) (k.v, t) (pair_in k.v t k.has p)

    referenced_true : (t : Node B) → Referenced (Closed (Among list)) t → is_referenced same (edges same list) t ≡ true
    referenced_true t (s, c, p) = referenced_from s t (pattern_held p (refl, refl)) (got c)

    of_referenced_true : (t : Node B) → is_referenced same (edges same list) t ≡ true → Referenced (Closed (Among list)) t
    of_referenced_true t h = let r = of_referenced (edges same list) t h in let p = of_pair (r.0, t) r.1 in (r.0, held p.0, held p.1)

    not_live : (p : Chars) (o : Term B) → ¬ (SaysLive (Closed (Among list)) p o) → live same list p o ≡ None
    not_live p o n = go (live same list p o) refl
      where
        go : (l : Option (Node B)) → live same list p o ≡ l → live same list p o ≡ None
        go None e = e
        go (Some t) e = let r = of_live p o t e in absurd (n (t, r.0, r.1, held r.2))

    says_live : (p : Chars) (o : Term B) → SaysLive (Closed (Among list)) p o → (t : Node B) × (live same list p o ≡ Some t)
    says_live p o (t, e, f, c) = (t, rw (e, f) (live_some t (pattern_held c (refl, refl))))

    not_says : (p : Chars) (o : Term B) → ¬ (SaysPattern p o) → says_pattern same p o ≡ false
    not_says p o n = false_unless (says_pattern same p o) (λ h. n ((exact_texts p rdf_type).0 (and_left (bytes_eq p rdf_type) (same_term same o (Resource (Iri rdfa_pattern))) h), (exact_terms same exact o (Resource (Iri rdfa_pattern))).0 (and_right (bytes_eq p rdf_type) (same_term same o (Resource (Iri rdfa_pattern))) h)))

    says_true : (p : Chars) (o : Term B) → SaysPattern p o → says_pattern same p o ≡ true
    says_true p o s = and_from (bytes_eq p rdf_type) (same_term same o (Resource (Iri rdfa_pattern))) ((exact_texts p rdf_type).1 s.0) ((exact_terms same exact o (Resource (Iri rdfa_pattern))).1 s.1)

    -- ---- everything patterned is in the copied list
    treats_kept : (u : Triple B) → is_referenced same (edges same list) u.subject ≡ false → live same list u.predicate u.object ≡ None → treated same list (edges same list) u ≡ u ∷ []
    treats_kept u h k = rw (h, k) refl

    treats_live : (u : Triple B) (t : Node B) → is_referenced same (edges same list) u.subject ≡ false → live same list u.predicate u.object ≡ Some t → treated same list (edges same list) u ≡ filter_map (given same list (edges same list) u.subject t) list
    treats_live u t h k = rw (h, k) refl

    gives : (s t v : Node B) (p : Chars) (o : Term B) → leads (same_node same) (edges same list) t v ≡ true → says_pattern same p o ≡ false → live same list p o ≡ None → given same list (edges same list) s t (spo v p o) ≡ Some (spo s p o)
    gives s t v p o a b c = rw (a, b, c) refl

    treated_at : (u : Triple B) → is_referenced same (edges same list) u.subject ≡ false → live same list u.predicate u.object ≡ None → Among list u ⊎ Gets u → Among (flat_map (treated same list (edges same list)) list) u
    treated_at u r l (inl h) = Among_flat_map (treated same list (edges same list)) list u u h (rw (treats_kept u r l) (inl refl))
    treated_at u r l (inr k) = let t = k.reaches.by in Among_flat_map (treated same list (edges same list)) list (copy u.subject t) u k.reaches.copies
        (rw (treats_live (copy u.subject t) t r (live_some t k.reaches.says))
        (Among_filter_map (given same list (edges same list) u.subject t) list (spo k.v u.predicate u.object) u k.has (gives u.subject t k.v u.predicate u.object k.reaches.way (not_says u.predicate u.object k.new) l)))

    all_in : (u : Triple B) → patterned (Among list) u → Among (copied same list) u
    all_in u (c, r, l) = Among_distinct (same_triple same) (exact_triples same exact) (flat_map (treated same list (edges same list)) list) u
        (treated_at u (false_unless (is_referenced same (edges same list) u.subject) (λ h. r (of_referenced_true u.subject h))) (not_live u.predicate u.object l) (got c))

    -- ---- nothing else is
    no_reference : (t : Node B) → is_referenced same (edges same list) t ≡ false → ¬ (Referenced (Closed (Among list)) t)
    no_reference t e h = true≢false (sym (referenced_true t h) ∙ e)

    no_live : (p : Chars) (o : Term B) → live same list p o ≡ None → ¬ (SaysLive (Closed (Among list)) p o)
    no_live p o e h = let r = says_live p o h in let bad : None ≡ Some r.0 = sym e ∙ r.1 in cc

    of_given : (s t : Node B) (w u : Triple B) → given same list (edges same list) s t w ≡ Some u → (leads (same_node same) (edges same list) t w.subject ≡ true) × (says_pattern same w.predicate w.object ≡ false) × (live same list w.predicate w.object ≡ None) × (u ≡ spo s w.predicate w.object)
    of_given s t w u e =
        let a : Bool = leads (same_node same) (edges same list) t w.subject in
        let b : Bool = not (says_pattern same w.predicate w.object) in
        let c : Bool = is_none (live same list w.predicate w.object) in
        let r = cond_some (a && b && c) (spo s w.predicate w.object) u e in
        (and_left a b (and_left (a && b) c r.0), untrue (says_pattern same w.predicate w.object) (and_right a b (and_left (a && b) c r.0)), of_none (live same list w.predicate w.object) (and_right (a && b) c r.0), sym r.1)

    from_gets : (u : Triple B) → is_referenced same (edges same list) u.subject ≡ false → live same list u.predicate u.object ≡ None → Closed (Among list) u → patterned (Among list) u
    from_gets u r l c = (c, no_reference u.subject r, no_live u.predicate u.object l)

    of_given_all : (s t : Node B) → Among list (copy s t) → Among list (type_pattern t) → is_referenced same (edges same list) s ≡ false → (u w : Triple B) → Among list w → given same list (edges same list) s t w ≡ Some u → patterned (Among list) u
    of_given_all s t c k r u w m e = let d = of_given s t w u e in
        subst (patterned (Among list)) (sym d.3)
        (from_gets (spo s w.predicate w.object) r d.2
        (is_closed (spo s w.predicate w.object) (record { v = w.subject; reaches = record { by = t; copies = c; says = k; way = d.0 }; has = m; new = λ h. true≢false (sym (says_true w.predicate w.object h) ∙ d.1) })))

    of_treated : (c u : Triple B) → Among list c → (r : Bool) → is_referenced same (edges same list) c.subject ≡ r → (l : Option (Node B)) → live same list c.predicate c.object ≡ l → Among (cond r [] (replaced same list (edges same list) c l)) u → patterned (Among list) u
    of_treated c u m true e l f h = absurd h
    of_treated c u m false e None f (inl q) = subst (patterned (Among list)) q (from_gets c e f (held m))
    of_treated c u m false e None f (inr q) = absurd q
    of_treated c u m false e (Some t) f h =
        let d = of_live c.predicate c.object t f in
        let k = Among_of_filter_map (given same list (edges same list) c.subject t) list u h in
        of_given_all c.subject t (subst (Among list) (λ i. record { subject = c.subject; predicate = d.0 i; object = d.1 i }) m) d.2 e u k.0 k.1 k.2

    only_those : (u : Triple B) → Among (copied same list) u → patterned (Among list) u
    only_those u h =
        let k = Among_of_flat_map (treated same list (edges same list)) list u (Among_of_distinct (same_triple same) (flat_map (treated same list (edges same list)) list) u h) in
        of_treated k.0 u k.1 (is_referenced same (edges same list) k.0.subject) refl (live same list k.0.predicate k.0.object) refl k.2

pub copies_patterns : {B : Type 0} (same : B → B → Bool) → IsExact same → CopiesPatterns same
copies_patterns same exact list t = (only_those same exact list t, all_in same exact list t)
