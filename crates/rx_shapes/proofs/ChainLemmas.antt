-- Chains that end.
use Rattle.rx_shapes.proofs.Common.{◌≡◌, ℕ, suc, ◌+◌, ◌<◌, ◌≤◌, true, nat_lt, List, [], ◌++◌, length, get_or, slice_get, Some, refl, sym, ap, subst, ◌∙◌, inl, inr, arith, length-append, nat_tests, slice_get_within, by_test, Among, Among_left, Among_cases, table, is_row_key, filed, Reach, unreached, reach_all, ChainEnds, ending, linked, Settled, source_row}
use Rattle.rx_shapes.specs.declared.chains.Link.{Link}
use Rattle.rx_shapes.specs.declared.chains.Link.TheVariants as link
use Rattle.rx_shapes.proofs.RowLemmas.{is_number_true, true_number, got_or, at_position, position_of, among_get, get_among, get_front, same_some}
use Rattle.rx_shapes.proofs.ReachedLemmas.{IsReach, is_reach_start, Grown, grown_all, marked_within}

-- ---- the rows of sources

row_below : (size a : ℕ) (l : Link) → a < size → source_row size l ≡ Some a → l ≡ link.To a
row_below size a link.Ends less h = let e : size ≡ a = cc in absurd (omega (arith, e, less))
row_below size a link.Breaks less h = absurd (cc)
row_below size a (link.To b) less h = by_test (nat_lt b size) (λ t. let e : b ≡ a = cc (rw t at h) in ap link.To e) (λ t. absurd (cc (rw t at h)))

row_last : (size : ℕ) (l : Link) → source_row size l ≡ Some size → l ≡ link.Ends
row_last size link.Ends h = refl
row_last size link.Breaks h = absurd (cc)
row_last size (link.To b) h = by_test (nat_lt b size)
    (λ t. let same : b ≡ size = cc (rw t at h) in let less : b < size = grind (arith, nat_tests, t) in absurd (omega (arith, same, less)))
    (λ t. absurd (cc (rw t at h)))

row_of : (size a : ℕ) → a < size → source_row size (link.To a) ≡ Some a
row_of size a less = let test : nat_lt a size ≡ true = grind (arith, nat_tests, less) in rw test refl

module _ (links : List Link) where
  abbrev sources_of : ℕ → List ℕ
  sources_of a = filed (source_row (length links)) links a

  -- what is in the row of a number leads to it
  source_leads : (a b : ℕ) → a < length links → Among (sources_of a) b → slice_get links b ≡ Some (link.To a)
  source_leads a b less m =
      let r = at_position (λ (l : Link). is_row_key a (source_row (length links) l)) links b m in
      r.1 ∙ ap Some (row_below (length links) a r.0 less (is_number_true a (source_row (length links) r.0) r.2))

  source_ends : (b : ℕ) → Among (sources_of (length links)) b → slice_get links b ≡ Some link.Ends
  source_ends b m =
      let r = at_position (λ (l : Link). is_row_key (length links) (source_row (length links) l)) links b m in
      r.1 ∙ ap Some (row_last (length links) r.0 (is_number_true (length links) (source_row (length links) r.0) r.2))

  leads_source : (a b : ℕ) → a < length links → slice_get links b ≡ Some (link.To a) → Among (sources_of a) b
  leads_source a b less at = position_of (λ (l : Link). is_row_key a (source_row (length links) l)) links b (link.To a) at (true_number a (source_row (length links) (link.To a)) (row_of (length links) a less))

  ends_source : (b : ℕ) → slice_get links b ≡ Some link.Ends → Among (sources_of (length links)) b
  ends_source b at = position_of (λ (l : Link). is_row_key (length links) (source_row (length links) l)) links b link.Ends at (true_number (length links) (Some (length links)) refl)

  -- ---- going back from the ends

  -- those that are reached, of which the first are done
  pub record Settling (r : Reach) (done : ℕ) : Type 0 where
    pub reach : IsReach (length links) r
    pub within : done ≤ length r.list
    pub start : (b : ℕ) → slice_get links b ≡ Some link.Ends → Among r.list b
    pub sound : (b : ℕ) → Among r.list b → ChainEnds links b
    pub closed : (k a b : ℕ) → k < done → slice_get r.list k ≡ Some a → slice_get links b ≡ Some (link.To a) → Among r.list b

  pub settling_start : (rows : List (List ℕ)) (first r : Reach) → rows ≡ table sources_of 0 (suc (length links)) → first ≡ unreached (length links) → r ≡ reach_all first (get_or rows (length links) []) → Settling r 0
  settling_start rows first r rows_are is_first is =
      let n : ℕ = length links in
      let last_less : length links < suc (length links) = omega arith in
      let row : get_or rows n [] ≡ sources_of n = ap (λ (z : List (List ℕ)). get_or z n []) rows_are ∙ got_or sources_of (suc n) n [] last_less in
      let new : r ≡ reach_all (unreached n) (sources_of n) = is ∙ ap (λ (z : Reach). reach_all z (get_or rows n [])) is_first ∙ ap (reach_all (unreached n)) row in
      subst (λ (z : Reach). Settling z 0) (sym new) (begun (grown_all n (sources_of n) (unreached n) (is_reach_start n)))
    where
      begun : Grown (length links) (unreached (length links)) (sources_of (length links)) (reach_all (unreached (length links)) (sources_of (length links)))
          → Settling (reach_all (unreached (length links)) (sources_of (length links))) 0
      begun g = record {
        reach = g.reach;
        within = omega arith;
        start = λ b at. g.all b (ends_source b at) (slice_get_within links b link.Ends at);
        sound = λ b m. ending (source_ends b (g.sound b (subst (λ (z : List ℕ). Among z b) g.longer m)));
        closed = λ k a b less. absurd (omega (arith, less));
      }

  listed_less : (r : Reach) (done a : ℕ) → Settling r done → Among r.list a → a < length links
  listed_less r done a h m =
      let less = marked_within r.marks a ((h.reach.listed a).1 m) in
      let size = h.reach.size in
      omega (arith, less, size)

  turned : (r : Reach) (done a : ℕ) → slice_get r.list done ≡ Some a → a < length links → Settling r done → Grown (length links) r (sources_of a) (reach_all r (sources_of a)) → Settling (reach_all r (sources_of a)) (done + 1)
  turned r done a at less h g = record {
    reach = g.reach;
    within =
        let longer : length (reach_all r (sources_of a)).list ≡ length (r.list ++ g.more) = ap length g.longer in
        let inside = slice_get_within r.list done a at in
        let sum = length-append r.list g.more in
        omega (arith, longer, inside, sum);
    start = λ b e. front b (h.start b e);
    sound = λ b k. elim (Among_cases r.list g.more b (subst (λ (z : List ℕ). Among z b) g.longer k)) [
      | inl o ↦ h.sound b o
      | inr o ↦ linked (source_leads a b less (g.sound b o)) (h.sound a (among_get r.list done a at))
    ];
    closed = λ k c b below here_is leads. by_test (nat_lt k done)
        (λ t. let earlier : k < done = grind (arith, nat_tests, t) in front b (h.closed k c b earlier (old k c earlier here_is) leads))
        (λ t.
        let past : done ≤ k = grind (arith, nat_tests, t) in
        let now_is : k ≡ done = omega (arith, below, past) in
        let same : c ≡ a = same_some (slice_get (reach_all r (sources_of a)).list done) c a (ap (slice_get (reach_all r (sources_of a)).list) (sym now_is) ∙ here_is) at_new in
        g.all b (leads_source a b less (subst (λ (z : ℕ). slice_get links b ≡ Some (link.To z)) same leads)) (slice_get_within links b (link.To c) leads));
  }
    where
      front : (b : ℕ) → Among r.list b → Among (reach_all r (sources_of a)).list b
      front b o = subst (λ (z : List ℕ). Among z b) (sym g.longer) (Among_left r.list g.more b o)

      get_old : (k : ℕ) → k < length r.list → slice_get (reach_all r (sources_of a)).list k ≡ slice_get r.list k
      get_old k l = ap (λ (z : List ℕ). slice_get z k) g.longer ∙ get_front r.list g.more k l

      at_new : slice_get (reach_all r (sources_of a)).list done ≡ Some a
      at_new = get_old done (slice_get_within r.list done a at) ∙ at

      old : (k c : ℕ) → k < done → slice_get (reach_all r (sources_of a)).list k ≡ Some c → slice_get r.list k ≡ Some c
      old k c earlier e =
          let inside = slice_get_within r.list done a at in
          let l : k < length r.list = omega (arith, earlier, inside) in
          sym (get_old k l) ∙ e

  pub settling_turn : (rows : List (List ℕ)) (r new : Reach) (done a : ℕ) → rows ≡ table sources_of 0 (suc (length links)) → slice_get r.list done ≡ Some a → new ≡ reach_all r (get_or rows a []) → Settling r done → Settling new (done + 1)
  settling_turn rows r new done a rows_are at is h =
      let less : a < length links = listed_less r done a h (among_get r.list done a at) in
      let less_rows : a < suc (length links) = omega (arith, less) in
      let row : get_or rows a [] ≡ sources_of a = ap (λ (z : List (List ℕ)). get_or z a []) rows_are ∙ got_or sources_of (suc (length links)) a [] less_rows in
      subst (λ (z : Reach). Settling z (done + 1)) (sym (is ∙ ap (reach_all r) row)) (turned r done a at less h (grown_all (length links) (sources_of a) r h.reach))

  pub settling_few : (r : Reach) (done : ℕ) → Settling r done → length r.list ≤ length links
  settling_few r done h = let count = h.reach.count in omega (arith, count)

  led : (r : Reach) (done : ℕ) → length r.list ≤ done → Settling r done → {a : ℕ} → ChainEnds links a → Among r.list a
  led r done past h (ending {a} at) = h.start a at
  led r done past h (linked {a} {b} at rest) =
      let k = get_among r.list b (led r done past h rest) in
      h.closed k.0 b a (omega (arith, past, k.1)) k.2 at

  pub settling_end : (r : Reach) (done : ℕ) → length r.list ≤ done → Settling r done → Settled links r.marks
  settling_end r done past h = record { each = λ a. (λ q. h.sound a ((h.reach.listed a).0 q), λ l. (h.reach.listed a).1 (led r done past h l)) }
