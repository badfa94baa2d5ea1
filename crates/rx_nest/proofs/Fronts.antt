-- What a page's bytes show at any time is the front of one element.
use Rattle.rx_nest.proofs.Common.{◌≡◌, ◌≢◌, ◌∙◌, ℕ, zero, suc, ◌≤◌, ◌<◌, Bool, true, false, List, [], ◌∷◌, ◌++◌, refl, sym, ap, subst, length, append_assoc, append-nil, Some, Ok, arith, not, map, Chars, by_test, Syntax, hides, StartTag, start_tag_of, Line, inside_of, Limits, begins, says, finishes, Progress, page_read, Sign, begun, said, finished, Flags, is_hidden, Sight, see, sees, nothing_seen, Nested, NestStands, owed_signs, last_tag}
use Rattle.rx_nest.specs.Fronts.{Front, unbegun, inside, over as ended, goes, goes_on, front_of, levels_of, IsFront}
use Rattle.rx_nest.proofs.PageWalks.{has_begun, page_held}
use Rattle.rx_nest.proofs.TextSteps.{seen_on}

-- the signs lead from one front to another, at no time past the limit
abbrev Along : ℕ → Front → List Sign → Front → Type 0
Along depth from [] to = from ≡ to
Along depth from (sign ∷ signs) to = (mid : Front) × (goes from sign ≡ Some mid) × (levels_of mid ≤ depth) × Along depth mid signs to

along_one : (depth : ℕ) (from mid to : Front) (signs : List Sign) (sign : Sign) → Along depth from signs mid → goes mid sign ≡ Some to → levels_of to ≤ depth → Along depth from (signs ++ sign ∷ []) to
along_one depth from mid to [] sign a g l = (to, ap (λ f. goes f sign) a ∙ g, l, refl)
along_one depth from mid to (other ∷ signs) sign a g l = (a.0, a.1, a.2, along_one depth a.0 mid to signs sign a.3 g l)

along_front : (depth : ℕ) (from to : Front) (signs more : List Sign) → levels_of from ≤ depth → Along depth from (signs ++ more) to → (mid : Front) × (front_of from signs ≡ Some mid) × (levels_of mid ≤ depth)
along_front depth from to [] more l a = (from, refl, l)
along_front depth from to (sign ∷ signs) more l a =
    let rest = along_front depth a.0 to signs more a.2 a.3 in
    (rest.0, ap (λ f. goes_on f signs) a.1 ∙ rest.1, rest.2)

-- so many of the open elements are shown
abbrev one_more : Bool → ℕ → ℕ
one_more true n = suc n
one_more false n = n

abbrev count : Flags → ℕ
count [] = 0
count (flag ∷ flags) = one_more flag.0 (count flags)

abbrev by_count : ℕ → Front
by_count zero = ended
by_count (suc n) = inside n

-- the elements that are hidden stand inside the others
abbrev Well : Flags → Type 0
Well [] = Unit {0}
Well (flag ∷ flags) = (flag.0 ≡ not (is_hidden flags)) × Well flags

count_some : (flag : Bool × Bool) (flags : Flags) → Well (flag ∷ flags) → (n : ℕ) × (count (flag ∷ flags) ≡ suc n)
count_some flag [] w = (0, ap (λ b. one_more b 0) w.0)
count_some flag (next ∷ flags) w =
    let m = count_some next flags w.1 in
    by_test flag.0 (λ e. (count (next ∷ flags), ap (λ b. one_more b (count (next ∷ flags))) e)) (λ e. (m.0, ap (λ b. one_more b (count (next ∷ flags))) e ∙ m.1))

count_most : (flags : Flags) → count flags ≤ length flags
count_most [] = omega arith
count_most (flag ∷ flags) =
    let m = count_most flags in
    by_test flag.0 (λ e. let c : one_more flag.0 (count flags) ≡ suc (count flags) = ap (λ b. one_more b (count flags)) e in omega arith) (λ e. let c : one_more flag.0 (count flags) ≡ count flags = ap (λ b. one_more b (count flags)) e in omega arith)

levels_by : (n : ℕ) → levels_of (by_count n) ≡ n
levels_by zero = refl
levels_by (suc n) = refl

abbrev front_at : Bool → Flags → Front
front_at true flags = by_count (count flags)
front_at false flags = unbegun

-- the events so far have shown the front of one element, and these elements are open
record Shown (depth : ℕ) (has_begun : Bool) (line : Line) (sight : Sight) : Type 0 where
  along : Along depth unbegun sight.signs (front_at has_begun sight.flags)
  deep : length sight.flags ≡ length line
  sized : length line ≤ depth
  well : Well sight.flags

module _ (depth : ℕ) where
  -- an element ends
  goes_finished : (n : ℕ) → goes (inside n) finished ≡ Some (by_count n)
  goes_finished zero = refl
  goes_finished (suc n) = refl

  finish : (t : StartTag) (line : Line) (sight : Sight) → Shown depth true (t ∷ line) sight → Shown depth true line (see finishes sight.flags sight.signs)
  finish t line sight s = by sight.flags sight.signs s.along s.deep s.well
    where
      by : (flags : Flags) (signs : List Sign) → Along depth unbegun signs (by_count (count flags)) → length flags ≡ suc (length line) → Well flags → Shown depth true line (see finishes flags signs)
      by [] signs a d w = absurd (cc)
      by (flag ∷ flags) signs a d w =
          let most = count_most flags in
          let sized : length line ≤ depth = omega (arith, s.sized) in
          let deep : length flags ≡ length line = omega (arith, d) in
          by_test flag.0
          (λ e. rw e (record {
            along = along_one depth unbegun (inside (count flags)) (by_count (count flags)) signs finished (subst (λ b. Along depth unbegun signs (by_count (one_more b (count flags)))) e a) (goes_finished (count flags)) (let l = levels_by (count flags) in omega (arith, l, most, deep, sized));
            deep = deep;
            sized = sized;
            well = w.1;
          }))
          (λ e. rw e (record {
            along = subst (λ x. Along depth unbegun x (by_count (count flags))) (sym (append-nil signs)) (subst (λ b. Along depth unbegun signs (by_count (one_more b (count flags)))) e a);
            deep = deep;
            sized = sized;
            well = w.1;
          }))

  -- text in an element
  said_along : (n : ℕ) (signs : List Sign) (chars : Chars) → suc n ≤ depth → Along depth unbegun signs (inside n) → Along depth unbegun (signs ++ map said chars) (inside n)
  said_along n signs [] l a = subst (λ x. Along depth unbegun x (inside n)) (sym (append-nil signs)) a
  said_along n signs (c ∷ chars) l a =
      subst (λ x. Along depth unbegun x (inside n)) (append_assoc signs (said c ∷ []) (map said chars)) (said_along n (signs ++ said c ∷ []) chars l (along_one depth unbegun (inside n) (inside n) signs (said c) a refl l))

  say : (chars : Chars) (t : StartTag) (line : Line) (sight : Sight) → Shown depth true (t ∷ line) sight → Shown depth true (t ∷ line) (see (says chars) sight.flags sight.signs)
  say chars t line sight s = by sight.flags sight.signs s.along s.deep s.well
    where
      by : (flags : Flags) (signs : List Sign) → Along depth unbegun signs (by_count (count flags)) → length flags ≡ suc (length line) → Well flags → Shown depth true (t ∷ line) (see (says chars) flags signs)
      by [] signs a d w = absurd (cc)
      by (flag ∷ flags) signs a d w =
          let some = count_some flag flags w in
          let here : Along depth unbegun signs (inside some.0) = subst (λ k. Along depth unbegun signs (by_count k)) some.1 a in
          let enough : suc some.0 ≤ depth = omega (arith, some.1, count_most (flag ∷ flags), d, s.sized) in
          let back : by_count (count (flag ∷ flags)) ≡ inside some.0 = ap by_count some.1 in
          by_test flag.1
          (λ e. rw e (record { along = a; deep = d; sized = s.sized; well = w }))
          (λ e. rw e (record { along = subst (λ f. Along depth unbegun (signs ++ map said chars) f) (sym back) (said_along some.0 signs chars enough here); deep = d; sized = s.sized; well = w }))

  -- an element begins, the root or one in others
  begin : (t : StartTag) (hidden : Bool) (has_begun : Bool) (line : Line) (sight : Sight) → (has_begun ≡ true → line ≢ []) → (has_begun ≡ false → line ≡ []) → length line < depth → Shown depth has_begun line sight → Shown depth true (t ∷ line) (see (begins t hidden) sight.flags sight.signs)
  begin t hidden true line sight some none l s = by sight.flags sight.signs s.along s.deep s.well
    where
      by : (flags : Flags) (signs : List Sign) → Along depth unbegun signs (by_count (count flags)) → length flags ≡ length line → Well flags → Shown depth true (t ∷ line) (see (begins t hidden) flags signs)
      by [] signs a d w = absurd (some refl (empty line d))
        where
          empty : (x : Line) → 0 ≡ length x → x ≡ []
          empty [] e = refl
          empty (u ∷ x) e = absurd (cc)
      by (flag ∷ flags) signs a d w =
          let more = count_some flag flags w in
          let here : Along depth unbegun signs (inside more.0) = subst (λ k. Along depth unbegun signs (by_count k)) more.1 a in
          let enough : suc (suc more.0) ≤ depth = omega (arith, more.1, count_most (flag ∷ flags), d, l) in
          let next : by_count (suc (count (flag ∷ flags))) ≡ inside (suc more.0) = ap (λ k. by_count (suc k)) more.1 in
          by_test flag.1
          (λ e. rw e (record { along = a; deep = ap suc d; sized = omega (arith, l); well = (refl, w) }))
          (λ e. rw e (record {
            along = subst (λ f. Along depth unbegun (signs ++ begun t ∷ []) f) (sym next) (along_one depth unbegun (inside more.0) (inside (suc more.0)) signs (begun t) here refl enough);
            deep = ap suc d;
            sized = omega (arith, l);
            well = (refl, w);
          }))
  begin t hidden false line sight some none l s = by sight.flags sight.signs line s.along s.deep (none refl)
    where
      by : (flags : Flags) (signs : List Sign) (line : Line) → Along depth unbegun signs unbegun → length flags ≡ length line → line ≡ [] → Shown depth true (t ∷ line) (see (begins t hidden) flags signs)
      by [] signs [] a d e = record { along = along_one depth unbegun unbegun (inside 0) signs (begun t) a refl (omega (arith, l)); deep = refl; sized = omega (arith, l); well = (refl, tt) }
      by _ signs _ a d e = absurd (cc)

page_shown : (syntax : Syntax) (limits : Limits) (bytes : List ℕ) (q : Progress) → page_read syntax limits bytes ≡ Ok q → Shown limits.depth (has_begun q.now.nest.phase) q.now.nest.line (sees nothing_seen q.told)
page_shown syntax limits bytes q e =
    (page_held syntax limits (λ b line events. Shown limits.depth b line (sees nothing_seen events))
    (λ u line events chars s. seen_on (Shown limits.depth true (u ∷ line)) events (says chars) (say limits.depth chars u line (sees nothing_seen events) s))
    (λ item t. record {
      finish = λ u line events s. seen_on (Shown limits.depth true line) events finishes (finish limits.depth u line (sees nothing_seen events) s);
      begin = λ b line events some none l s.
          seen_on (Shown limits.depth true (start_tag_of item t ∷ line)) events (begins (start_tag_of item t) (hides (inside_of syntax line) t))
          (begin limits.depth (start_tag_of item t) (hides (inside_of syntax line) t) b line (sees nothing_seen events) some none l s);
    })
    (record { along = refl; deep = refl; sized = omega arith; well = tt }) bytes q e).holds

pub shows_one : (syntax : Syntax) (limits : Limits) (nest : Nested) (bytes : List ℕ) (signs : List Sign) → NestStands syntax limits nest bytes signs → IsFront limits.depth signs
shows_one syntax limits nest bytes signs st =
    let h = page_shown syntax limits bytes (record { now = st.at.now; told = st.told }) st.at.read in
    let to : Front = front_at (has_begun st.at.now.nest.phase) (sees nothing_seen st.told).flags in
    let all : Along limits.depth unbegun (signs ++ owed_signs nest.owed (last_tag nest.scan)) to = subst (λ (x : Sight). Along limits.depth unbegun x.signs to) st.sight h.along in
    let f = along_front limits.depth unbegun to signs (owed_signs nest.owed (last_tag nest.scan)) (omega arith) all in
    record { front = f.0; leads = f.1; level = f.2 }
