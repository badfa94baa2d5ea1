-- What is copied from patterns, by their numbers.
use Rattle.rx_model.proofs.Common.{◌≡◌, ◌⊎◌, ℕ, ◌+◌, ◌<◌, Bool, true, false, nat_eq, nat_lt, List, [], ◌∷◌, ◌++◌, flat_map, length, take, get_or, slice_get, slice_set, Option, Some, None, option_map, is_none, refl, sym, ap, ap₂, subst, ◌∙◌, inl, inr, true≢false, arith, append-nil, not, ◌&&◌, ◌||◌, ◌==◌, if◌then◌else◌, cons_option, and_from, nat_tests, Decides-eqb, same_truth, IsPermutation, IsNonDecreasing, Among, Node, Triple, same_node, edges, live, says_pattern, PairsLead, here, onward, leads, triple_seen, triples_seen, exact_numbers, exact_nodes, Among_left, Among_right, Among_cases, or_cases, and_left, and_right, of_pair, pattern_true}
use Rattle.rx_terms.specs.declared.triples.Triple.{Triple as CodeTriple}
use Rattle.rx_model.proofs.Leads.{leads_along}
use Rattle.rx_graph.specs.Rows.{empty_rows}
use Rattle.rx_graph.specs.Resources.{number_in, live_by}
use Rattle.rx_graph.specs.Patterns.{triple_places, edges_by, ArePatterns, AreReferenced}
use Rattle.rx_graph.specs.Ways.{mark_at, LeadsAtOnce, LeadsTo, stays, goes_on, all_led, LedByMarks, led_here, led_on, EachOnce, IsWalk}
use Rattle.rx_graph.specs.Copying.{with_link, number_if_some, copy_linked, AreLinks, gives_by, own_key, place_pushed, is_key, is_owned, AreOwn, gives, contents, IsIndex, IsContent, AreContents}
use Rattle.rx_graph.proofs.SetLemmas.{seen_more}
use Rattle.rx_graph.proofs.PatternLemmas.{edges_more, edges_are, live_is, places_more, length_so_far, number_same, number_small, number_there}
use Rattle.rx_graph.proofs.PlaceLemmas.{place_for, any_of, any_has, any_by, sorted_places, same_places}
use Rattle.rx_graph.proofs.WayLemmas.{goes_trans, goes_by, step_within, pushed_new, pushed_length, pushed_row, Put, put_none, put_one, set_each, empty_none, empty_row, empty_length}

-- ---- the links

pub links_start : (nodes : List (Node ℕ)) (rows : List (List ℕ)) (n : ℕ) → n ≡ length nodes → rows ≡ empty_rows n → AreLinks [] nodes rows
links_start nodes rows n size e = record {
  size = ap length e ∙ empty_length n ∙ size;
  sound = λ a b s. absurd (empty_none rows n e a b s);
  complete = λ s t a b m. absurd m;
}

same_number : (o : Option ℕ) (a b : ℕ) → o ≡ Some a → o ≡ Some b → a ≡ b
same_number o a b h k = cc

-- a pair more
module _ (pairs : List (Node ℕ × Node ℕ)) (nodes : List (Node ℕ)) (old : List (List ℕ)) (h : AreLinks pairs nodes old) (s t : Node ℕ) where
  abbrev more : List (Node ℕ × Node ℕ)
  more = pairs ++ (s, t) ∷ []

  abbrev Linked : ℕ → ℕ → Type 0
  Linked a b = (x y : Node ℕ) × (number_in nodes x ≡ Some a) × (number_in nodes y ≡ Some b) × Among more (x, y)

  link_put : (to from : Option ℕ) → number_in nodes t ≡ to → number_in nodes s ≡ from → Put Linked old (with_link old to from)
  link_put (Some to) (Some from) p q = put_one Linked old from to (s, t, q, p, Among_right pairs ((s, t) ∷ []) (s, t) (inl refl))
  link_put (Some to) None p q = put_none Linked old
  link_put None from p q = put_none Linked old

  link_step : (to from : Option ℕ) → number_in nodes t ≡ to → number_in nodes s ≡ from → (a b : ℕ) → number_in nodes s ≡ Some a → number_in nodes t ≡ Some b → LeadsAtOnce (with_link old to from) a b
  link_step (Some to) (Some from) p q a b m n =
      let first : a ≡ from = same_number (number_in nodes s) a from m q in
      let second : b ≡ to = same_number (number_in nodes t) b to n p in
      rw (first, second) (pushed_new old from to (omega (arith, h.size, number_small nodes s from q)))
  link_step to from p q a b m n = absurd (cc)

  links_found : (to from : Option ℕ) → number_in nodes t ≡ to → number_in nodes s ≡ from → AreLinks more nodes (with_link old to from)
  links_found to from p q =
      let put = link_put to from p q in
      record {
        size = put.size ∙ h.size;
        sound = put.each (λ a b k. let r = h.sound a b k in (r.0, r.1, r.2, r.3, Among_left pairs ((s, t) ∷ []) (r.0, r.1) r.4));
        complete = λ x y a b m na nb. elim (Among_cases pairs ((s, t) ∷ []) (x, y) m) [
          | inl k ↦ put.kept a b (h.complete x y a b k na nb)
          | inr k ↦ elim k [
            | inl e ↦ link_step to from p q a b (ap (λ (z : Node ℕ × Node ℕ). number_in nodes z.0) e ∙ na) (ap (λ (z : Node ℕ × Node ℕ). number_in nodes z.1) e ∙ nb)
            | inr none ↦ absurd none
          ]
        ];
      }

-- one triple more
pub links_turn : (list : List CodeTriple) (i : ℕ) (u : CodeTriple) (nodes : List (Node ℕ)) (old new : List (List ℕ)) → slice_get list i ≡ Some u → new ≡ copy_linked nodes old (triple_seen u)
    → AreLinks (edges_by nodes (triples_seen (take i list))) nodes old → AreLinks (edges_by nodes (triples_seen (take (i + 1) list))) nodes new
links_turn list i u nodes old new at turn h = rw (edges_more nodes list i u at, turn) (go (live_by nodes (triple_seen u)))
  where
    go : (o : Option (Node ℕ)) → AreLinks (edges_by nodes (triples_seen (take i list)) ++ cons_option (option_map {U = Node ℕ × Node ℕ} (λ (to : Node ℕ). ((triple_seen u).subject, to)) o) []) nodes (with_link old (number_if_some nodes o) (number_in nodes (triple_seen u).subject))
    go None = subst (λ (z : List (Node ℕ × Node ℕ)). AreLinks z nodes old) (sym (append-nil (edges_by nodes (triples_seen (take i list))))) h
    go (Some t) = links_found (edges_by nodes (triples_seen (take i list))) nodes old h (triple_seen u).subject t (number_in nodes t) (number_in nodes (triple_seen u).subject) refl refl

-- ---- the places of what is given

put_row : (rows : List (List ℕ)) (o : Option ℕ) (place a : ℕ) → a < length rows → get_or (place_pushed rows o place) a [] ≡ get_or rows a [] ++ (if is_key a o then place ∷ [] else [])
put_row rows None place a l = sym (append-nil (get_or rows a []))
put_row rows (Some b) place a l = pushed_row rows b place a l

put_length : (rows : List (List ℕ)) (o : Option ℕ) (place : ℕ) → length (place_pushed rows o place) ≡ length rows
put_length rows None place = refl
put_length rows (Some b) place = pushed_length rows b place

pub own_start : (nodes : List (Node ℕ)) (roots : List ℕ) (rows : List (List ℕ)) (n : ℕ) → n ≡ length roots → rows ≡ empty_rows n → AreOwn [] nodes roots rows
own_start nodes roots rows n size e = record { size = ap length e ∙ empty_length n ∙ size; each = λ a l. ap (λ (z : List (List ℕ)). get_or z a []) e ∙ empty_row n a }

pub own_turn : (list : List CodeTriple) (i : ℕ) (u : CodeTriple) (nodes : List (Node ℕ)) (roots : List ℕ) (old new : List (List ℕ)) → slice_get list i ≡ Some u
    → new ≡ place_pushed old (own_key nodes roots (triple_seen u)) i → AreOwn (triples_seen (take i list)) nodes roots old → AreOwn (triples_seen (take (i + 1) list)) nodes roots new
own_turn list i u nodes roots old new at turn h = subst (AreOwn (triples_seen (take (i + 1) list)) nodes roots) (sym turn) (record {
  size = put_length old (own_key nodes roots (triple_seen u)) i ∙ h.size;
  each = λ a l.
      let inside : a < length old = subst (λ (z : ℕ). a < z) (put_length old (own_key nodes roots (triple_seen u)) i) l in
      put_row old (own_key nodes roots (triple_seen u)) i a inside
      ∙ ap (λ z. z ++ (if is_owned nodes roots a (triple_seen u) then i ∷ [] else [])) (h.each a inside)
      ∙ ap (λ (n : ℕ). triple_places (is_owned nodes roots a) 0 (triples_seen (take i list)) ++ (if is_owned nodes roots a (triple_seen u) then n ∷ [] else [])) (sym (length_so_far list i u at))
      ∙ sym (places_more (is_owned nodes roots a) 0 (triples_seen (take i list)) (triple_seen u))
      ∙ ap (triple_places (is_owned nodes roots a) 0) (sym (seen_more list i u at));
})

-- ---- ways by numbers are ways by pairs

going_leads : (pairs : List (Node ℕ × Node ℕ)) (nodes : List (Node ℕ)) (rows : List (List ℕ)) → AreLinks pairs nodes rows → (t : Node ℕ) (k v : ℕ) → number_in nodes t ≡ Some k → LeadsTo rows k v
    → (u : Node ℕ) × (number_in nodes u ≡ Some v) × PairsLead pairs t u
going_leads pairs nodes rows h t k _ e stays = (t, e, here)
going_leads pairs nodes rows h t k _ e (goes_on b c g s) =
    let i = going_leads pairs nodes rows h t k b e g in
    let l = h.sound b c s in
    let same : l.0 ≡ i.0 = number_same nodes l.0 i.0 b l.2 i.1 in
    (l.1, l.3, onward i.0 l.1 i.2 (subst (λ (z : Node ℕ). Among pairs (z, l.1)) same l.4))

leads_going : (pairs : List (Node ℕ × Node ℕ)) (nodes : List (Node ℕ)) (rows : List (List ℕ)) → AreLinks pairs nodes rows → ((x y : Node ℕ) → Among pairs (x, y) → (n : ℕ) × (number_in nodes y ≡ Some n))
    → (t u : Node ℕ) (k : ℕ) → number_in nodes t ≡ Some k → PairsLead pairs t u → (v : ℕ) × (number_in nodes u ≡ Some v) × LeadsTo rows k v
leads_going pairs nodes rows h known t _ k e here = (k, e, stays)
leads_going pairs nodes rows h known t _ k e (onward b c l m) =
    let i = leads_going pairs nodes rows h known t b k e l in
    let n = known b c m in
    (n.0, n.1, goes_on i.0 n.0 i.2 (h.complete b c i.0 n.0 m i.1 n.1))

-- ---- what an index leads to

module _ (list : List (Triple ℕ)) (nodes : List (Node ℕ)) (roots lead : List ℕ) (nexts own : List (List ℕ)) (x : IsIndex list nodes roots lead nexts own) where
  pairs_are : edges_by nodes list ≡ edges nat_eq list
  pairs_are = edges_are list list nodes x.patterns

  -- what a pair leads to is a pattern
  known : (s t : Node ℕ) → Among (edges_by nodes list) (s, t) → (n : ℕ) × (number_in nodes t ≡ Some n)
  known s t m = number_there nodes t (x.patterns.each t ∙ pattern_true nat_eq exact_numbers list t (of_pair nat_eq exact_numbers list (s, t) (subst (λ (z : List (Node ℕ × Node ℕ)). Among z (s, t)) pairs_are m)).1)

  -- the root stands for itself, or gives nothing and leads to nothing but to what stands for it
  led_cases : (a : ℕ) → a < length nexts → (mark_at lead a ≡ a) ⊎ ((length (get_or own a []) ≡ 0) × (all_led lead (mark_at lead a) (get_or nexts a []) ≡ true))
  led_cases a l = elim (or_cases (nat_eq (mark_at lead a) a) (nat_eq (length (get_or own a [])) 0 && all_led lead (mark_at lead a) (get_or nexts a [])) (x.led.each a l)) [
    | inl e ↦ inl ((Decides-eqb (mark_at lead a) a).0 e)
    | inr e ↦ inr ((Decides-eqb (length (get_or own a [])) 0).0 (and_left (nat_eq (length (get_or own a [])) 0) (all_led lead (mark_at lead a) (get_or nexts a [])) e), and_right (nat_eq (length (get_or own a [])) 0) (all_led lead (mark_at lead a) (get_or nexts a [])) e)
  ]

  all_cases : (to : ℕ) (row : List ℕ) (b : ℕ) → all_led lead to row ≡ true → Among row b → mark_at lead b < length lead → mark_at lead b ≡ to
  all_cases to [] b h m l = absurd m
  all_cases to (c ∷ row) b h (inr m) l = all_cases to row b (and_right (not (nat_lt (mark_at lead c) (length lead)) || nat_eq (mark_at lead c) to) (all_led lead to row) h) m l
  all_cases to (c ∷ row) b h (inl e) l = elim (or_cases (not (nat_lt (mark_at lead c) (length lead))) (nat_eq (mark_at lead c) to) (and_left (not (nat_lt (mark_at lead c) (length lead)) || nat_eq (mark_at lead c) to) (all_led lead to row) h)) [
    | inl q ↦ absurd (true≢false (sym q ∙ ap not (let less : nat_lt (mark_at lead c) (length lead) ≡ true = (let l2 : mark_at lead c < length lead = subst (λ (z : ℕ). mark_at lead z < length lead) (sym e) l in grind (arith, nat_tests, l2)) in less)))
    | inr q ↦ ap (mark_at lead) (sym e) ∙ (Decides-eqb (mark_at lead c) to).0 q
  ]

  module _ (t : Node ℕ) (k from : ℕ) (reached : List ℕ) (number : number_in nodes t ≡ Some k) (is : mark_at lead (mark_at roots k) ≡ from) (w : IsWalk nexts lead from reached) where
    to_from : from < length lead → LeadsTo x.links k from
    to_from l = subst (LeadsTo x.links k) is (goes_trans x.links k (mark_at roots k) (mark_at lead (mark_at roots k)) (x.joined.up k)
        (goes_by x.links nexts (mark_at roots k) (mark_at lead (mark_at roots k)) x.nexts_are.sound (x.leads_on.each (mark_at roots k) (subst (λ (z : ℕ). z < length nexts) (sym is) (subst (λ (z : ℕ). from < z) x.leads_on.size l)))))

    led_goes : (a : ℕ) → LedByMarks nexts lead from a → LeadsTo x.links k a
    led_goes _ (led_here l) = to_from l
    led_goes _ (led_on a b c h s e l) = goes_trans x.links k a c (led_goes a h) (goes_trans x.links a b c (x.nexts_are.sound a b s)
        (subst (LeadsTo x.links b) e (goes_by x.links nexts b (mark_at lead b) x.nexts_are.sound (x.leads_on.each b (subst (λ (z : ℕ). z < length nexts) (sym e) (subst (λ (z : ℕ). c < z) x.leads_on.size l))))))

    -- what stands for the root of what k leads to is reached
    led_reached : (v : ℕ) → LeadsTo x.links k v → mark_at lead (mark_at roots v) < length lead → Among reached (mark_at lead (mark_at roots v))
    led_reached _ stays l = subst (Among reached) (sym is) (w.start (subst (λ (z : ℕ). z < length lead) is l))
    led_reached _ (goes_on b c g s) l = elim (x.nexts_are.complete b c s) [
      | inl e ↦ subst (λ (z : ℕ). Among reached (mark_at lead z)) e (led_reached b g (subst (λ (z : ℕ). mark_at lead z < length lead) (sym e) l))
      | inr st ↦ (
          let room : mark_at roots b < length nexts = step_within nexts (mark_at roots b) (mark_at roots c) st in
          elim (led_cases (mark_at roots b) room) [
            | inl e ↦ (
                let own_is : Among reached (mark_at roots b) = subst (Among reached) e (led_reached b g (subst (λ (z : ℕ). z < length lead) (sym e) (subst (λ (z : ℕ). mark_at roots b < z) (sym x.leads_on.size) room))) in
                w.closed (mark_at roots b) (mark_at roots c) own_is st l
                )
            | inr h ↦ (
                let same : mark_at lead (mark_at roots c) ≡ mark_at lead (mark_at roots b) = all_cases (mark_at lead (mark_at roots b)) (get_or nexts (mark_at roots b) []) (mark_at roots c) h.1 st l in
                subst (Among reached) (sym same) (led_reached b g (subst (λ (z : ℕ). z < length lead) same l))
                )
          ]
          )
    ]

    gives_is : (u : Triple ℕ) → gives_by nodes u ≡ (not (says_pattern nat_eq u.predicate u.object) && is_none (live nat_eq list u.predicate u.object))
    gives_is u = ap (λ o. not (says_pattern nat_eq u.predicate u.object) && is_none o) (live_is list nodes x.patterns u)

    leads_is : (u : Node ℕ) → PairsLead (edges_by nodes list) t u → leads (same_node nat_eq) (edges nat_eq list) t u ≡ true
    leads_is u l = (leads_along (same_node nat_eq) (exact_nodes nat_eq exact_numbers) (edges nat_eq list) t u).1 (subst (λ (z : List (Node ℕ × Node ℕ)). PairsLead z t u) pairs_are l)

    is_leads : (u : Node ℕ) → leads (same_node nat_eq) (edges nat_eq list) t u ≡ true → PairsLead (edges_by nodes list) t u
    is_leads u h = subst (λ (z : List (Node ℕ × Node ℕ)). PairsLead z t u) (sym pairs_are) ((leads_along (same_node nat_eq) (exact_nodes nat_eq exact_numbers) (edges nat_eq list) t u).0 h)

    -- what is owned by a number is given, and the number is the root of its subject
    owned_parts : (a : ℕ) (u : Triple ℕ) → is_owned nodes roots a u ≡ true → (m : ℕ) × (number_in nodes u.subject ≡ Some m) × (a ≡ mark_at roots m) × (gives_by nodes u ≡ true)
    owned_parts a u h = go (gives_by nodes u) refl (number_in nodes u.subject) refl h
      where
        go : (g : Bool) → gives_by nodes u ≡ g → (o : Option ℕ) → number_in nodes u.subject ≡ o → is_key a (if g then option_map (mark_at roots) o else None) ≡ true
            → (m : ℕ) × (number_in nodes u.subject ≡ Some m) × (a ≡ mark_at roots m) × (gives_by nodes u ≡ true)
        go true p (Some m) q k = (m, q, (Decides-eqb a (mark_at roots m)).0 k, p)
        go _ p _ q k = absurd (true≢false (sym k))

    owned_by : (u : Triple ℕ) (m : ℕ) → number_in nodes u.subject ≡ Some m → gives_by nodes u ≡ true → is_owned nodes roots (mark_at roots m) u ≡ true
    owned_by u m p q = ap₂ (λ (g : Bool) (o : Option ℕ). is_key (mark_at roots m) (if g then option_map (mark_at roots) o else None)) q p ∙ (Decides-eqb (mark_at roots m) (mark_at roots m)).1 refl

    reached_given : (u : Triple ℕ) → any_of (is_owned nodes roots) reached u ≡ true → gives list t u ≡ true
    reached_given u h =
        let r = any_has (is_owned nodes roots) reached u h in
        let p = owned_parts r.0 u r.2 in
        let way : LeadsTo x.links k p.0 = goes_trans x.links k (mark_at roots p.0) p.0 (subst (LeadsTo x.links k) p.2 (led_goes r.0 (w.sound r.0 r.1))) (x.joined.down p.0) in
        let l = going_leads (edges_by nodes list) nodes x.links x.links_are t k p.0 number way in
        let same : l.0 ≡ u.subject = number_same nodes l.0 u.subject p.0 l.1 p.1 in
        and_from (leads (same_node nat_eq) (edges nat_eq list) t u.subject) (not (says_pattern nat_eq u.predicate u.object) && is_none (live nat_eq list u.predicate u.object))
        (leads_is u.subject (subst (PairsLead (edges_by nodes list) t) same l.2)) (sym (gives_is u) ∙ p.3)

    given_reached : (u : Triple ℕ) → Among list u → gives list t u ≡ true → any_of (is_owned nodes roots) reached u ≡ true
    given_reached u m h =
        let way = leads_going (edges_by nodes list) nodes x.links x.links_are known t u.subject k number
        (is_leads u.subject (and_left (leads (same_node nat_eq) (edges nat_eq list) t u.subject) (not (says_pattern nat_eq u.predicate u.object) && is_none (live nat_eq list u.predicate u.object)) h)) in
        let root : ℕ = mark_at roots way.0 in
        let owns : is_owned nodes roots (mark_at roots way.0) u ≡ true = owned_by u way.0 way.1 (gives_is u ∙ and_right (leads (same_node nat_eq) (edges nat_eq list) t u.subject) (not (says_pattern nat_eq u.predicate u.object) && is_none (live nat_eq list u.predicate u.object)) h) in
        let inside : mark_at roots way.0 < length x.links = x.joined.within way.0 (subst (λ (z : ℕ). way.0 < z) (sym x.links_are.size) (number_small nodes u.subject way.0 way.1)) in
        let room : mark_at roots way.0 < length own = subst (λ (z : ℕ). mark_at roots way.0 < z) (sym (x.own_are.size ∙ x.joined.size)) inside in
        let stands : mark_at lead (mark_at roots way.0) ≡ mark_at roots way.0 = elim (led_cases (mark_at roots way.0) (subst (λ (z : ℕ). mark_at roots way.0 < z) (sym x.nexts_are.size) inside)) [
          | inl e ↦ e
          | inr e ↦ absurd (place_for (is_owned nodes roots (mark_at roots way.0)) 0 list u m owns (ap length (sym (x.own_are.each (mark_at roots way.0) room)) ∙ e.0))
        ] in
        let small : mark_at lead (mark_at roots way.0) < length lead = subst (λ (z : ℕ). z < length lead) (sym stands) (subst (λ (z : ℕ). mark_at roots way.0 < z) (sym (x.leads_on.size ∙ x.nexts_are.size)) inside) in
        any_by (is_owned nodes roots) reached u (mark_at roots way.0) (subst (Among reached) stands (led_reached way.0 way.2 small)) owns

    same_test : (u : Triple ℕ) → Among list u → any_of (is_owned nodes roots) reached u ≡ gives list t u
    same_test u m = same_truth (any_of (is_owned nodes roots) reached u) (gives list t u) (reached_given u) (given_reached u m)

    tells : (a b : ℕ) (u : Triple ℕ) → is_owned nodes roots a u ≡ true → is_owned nodes roots b u ≡ true → a ≡ b
    tells a b u h k =
        let p = owned_parts a u h in
        let q = owned_parts b u k in
        p.2 ∙ ap (mark_at roots) (same_number (number_in nodes u.subject) p.0 q.0 p.1 q.1) ∙ sym q.2

    own_row : (a : ℕ) → Among reached a → get_or own a [] ≡ triple_places (is_owned nodes roots a) 0 list
    own_row a m = x.own_are.each a (subst (λ (z : ℕ). a < z) (x.leads_on.size ∙ x.nexts_are.size ∙ sym (x.own_are.size ∙ x.joined.size)) (w.small a m))

    pub found_are : (found : List ℕ) → EachOnce reached → IsPermutation (flat_map (λ (a : ℕ). get_or own a []) reached) found → IsNonDecreasing found → found ≡ contents list t
    found_are found once p rises = sorted_places own (is_owned nodes roots) tells list reached found once own_row p rises ∙ same_places (any_of (is_owned nodes roots) reached) (gives list t) 0 list same_test

-- what is gathered from what is reached is what is given
pub content_found : (nodes : List (Node ℕ)) (roots lead : List ℕ) (nexts own : List (List ℕ)) (from : ℕ) (reached found : List ℕ) → IsWalk nexts lead from reached → EachOnce reached
    → IsPermutation (flat_map (λ (a : ℕ). get_or own a []) reached) found → IsNonDecreasing found → IsContent nodes roots lead nexts own from found
content_found nodes roots lead nexts own from reached found w once p rises = record {
  each = λ list t k x number is. found_are list nodes roots lead nexts own x t k from reached number is w found once p rises;
}

-- ---- the rows of what is given

module _ (nodes : List (Node ℕ)) (roots lead : List ℕ) (nexts own : List (List ℕ)) where
  pub contents_start : (rows : List (List ℕ)) (n : ℕ) → rows ≡ empty_rows n → AreContents nodes roots lead nexts own rows
  contents_start rows n e = record { each = λ a. inl (ap (λ (z : List (List ℕ)). get_or z a []) e ∙ empty_row n a) }

  pub contents_turn : (old new : List (List ℕ)) (a : ℕ) (found : List ℕ) → IsContent nodes roots lead nexts own a found → new ≡ slice_set old a found → AreContents nodes roots lead nexts own old → AreContents nodes roots lead nexts own new
  contents_turn old new a found c turn h = rw turn (record { each = set_each (λ b row. (row ≡ []) ⊎ IsContent nodes roots lead nexts own b row) (λ b. []) old a found (inr c) h.each })

  -- a row that isn't empty is what is given
  pub contents_at : (rows : List (List ℕ)) (a : ℕ) (row : List ℕ) → row ≡ get_or rows a [] → AreContents nodes roots lead nexts own rows → ¬ (row ≡ []) → IsContent nodes roots lead nexts own a row
  contents_at rows a row e h some = elim (h.each a) [ inl q ↦ absurd (some (e ∙ q)) | inr q ↦ subst (IsContent nodes roots lead nexts own a) (sym e) q ]

-- ---- what the code asks

pub no_lead : (f : ℕ → ℕ) (o r : Option ℕ) → r ≡ option_map f o → r ≡ None → o ≡ None
no_lead f None r e h = refl
no_lead f (Some k) r e h = absurd (cc)

some_lead : (f : ℕ → ℕ) (o r : Option ℕ) (a : ℕ) → r ≡ option_map f o → r ≡ Some a → (k : ℕ) × (o ≡ Some k) × (f k ≡ a)
some_lead f None r a e h = absurd (cc)
some_lead f (Some k) r a e h = (k, refl, cc)

pub content_of : (list : List (Triple ℕ)) (nodes : List (Node ℕ)) (roots lead : List ℕ) (nexts own : List (List ℕ)) (t : Node ℕ) (from : ℕ) (found : List ℕ) (r : Option ℕ) → IsIndex list nodes roots lead nexts own
    → IsContent nodes roots lead nexts own from found → r ≡ option_map (λ (k : ℕ). mark_at lead (mark_at roots k)) (number_in nodes t) → r ≡ Some from → found ≡ contents list t
content_of list nodes roots lead nexts own t from found r x content e h =
    let k = some_lead (λ (k : ℕ). mark_at lead (mark_at roots k)) (number_in nodes t) r from e h in
    content.each list t k.0 x k.1 k.2

pub not_nil : (xs : List ℕ) (b : Bool) → b ≡ (length xs == 0) → b ≡ false → ¬ (xs ≡ [])
not_nil xs b e h nil = true≢false (sym ((Decides-eqb (length xs) 0).1 (ap length nil)) ∙ sym e ∙ h)

-- the pairs are the same by any list of the patterns
pub same_references : (list : List (Triple ℕ)) (nodes others referenced : List (Node ℕ)) → ArePatterns list nodes → ArePatterns list others → AreReferenced (edges_by nodes list) referenced → AreReferenced (edges_by others list) referenced
same_references list nodes others referenced h k r = subst (λ (z : List (Node ℕ × Node ℕ)). AreReferenced z referenced) (edges_are list list nodes h ∙ sym (edges_are list list others k)) r
