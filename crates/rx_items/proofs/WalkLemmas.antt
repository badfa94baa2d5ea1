-- The members of rows, item by item.
use Rattle.rx_items.proofs.Common.{◌≡◌, ◌∙◌, ◌+◌, ◌-◌, ◌<◌, ◌≤◌, ◌==◌, ◌&&◌, nat_lt, ℕ, suc, Bool, true, false, cond, List, [], ◌∷◌, ◌++◌, length, get_or, Contains, Option, Some, None, refl, sym, ap, subst, arith, slice_get, ⊤, Contains-get_or, Contains-append_left, Contains-append_cases, Contains-push, Contains-push_cases, IsNonDecreasingBy-push, cases_lt, eqb-true, eq-eqb, ltb-true, lt-ltb, le-ltb, append-nil, get_or_default, none, ◌⊎◌, inl, inr, and_parts, and_of, AddsMembers, AddsItem, AllBelow, AreBelow, AreMembers, FirstBelow, IsNamed, Rises, row_key, member_key, next_place, scope_number, scope_of, slice_get_within}
use Rattle.rx_model.proofs.Common.{⊎_elim}
use Rattle.rx_items.specs.declared.rows.Row.{Row}
use Rattle.rx_items.specs.Lying.{Lies}
use Rattle.rx_items.proofs.TakeLemmas.{same_there}
use Rattle.rx_items.proofs.MemberLemmas.{same_number}

-- ---- members that rise

pub below_more : (rows : List Row) (members : List ℕ) (a b : ℕ) → a ≤ b → AllBelow rows members a → AllBelow rows members b
below_more rows members a b le below x c = let lt = below x c in omega (arith, le, lt)

pub rises_push : (rows : List Row) (members : List ℕ) (x more : ℕ) → row_key rows x < more → Rises rows members → AllBelow rows members (row_key rows x)
    → Rises rows (members ++ x ∷ []) × AllBelow rows (members ++ x ∷ []) more
rises_push rows members x more lt up below = (
  IsNonDecreasingBy-push (row_key rows) members x up
      (λ d some. let under = below (get_or members (length members - 1) d) (Contains-get_or members (length members - 1) d (omega (arith, some))) in omega (arith, under)),
  (λ y c. ⊎_elim (λ d. omega (arith, lt, below y d)) (λ is. subst (λ n. row_key rows n < more) is lt) (Contains-push_cases members x y c)),
)

-- ---- the rows with one item around

key_later : (scope : Option ℕ) (a b : ℕ) → a ≤ b → member_key scope a ≤ member_key scope b
key_later scope a b le = omega (arith, le)

next_behind : (row : Row) (place : ℕ) → place < next_place row place
next_behind row place = by row.head.is_item (nat_lt place row.past) refl
  where
    by : (item longer : Bool) → nat_lt place row.past ≡ longer → place < cond (item && longer) row.past (place + 1)
    by true true e = ltb-true place row.past e
    by _ _ e = omega arith

-- behind the place and before the next one stands what is inside an item
passed_by : (row : Row) (place x : ℕ) → place < x → x < next_place row place → (row.head.is_item ≡ true) × (x < row.past)
passed_by row place x low high = by row.head.is_item (nat_lt place row.past) refl high
  where
    by : (item longer : Bool) → row.head.is_item ≡ item → x < cond (item && longer) row.past (place + 1) → (row.head.is_item ≡ true) × (x < row.past)
    by true true e lt = (e, lt)
    by _ _ e lt = absurd (omega (arith, low, lt))

module _ (rows : List Row) (scope : Option ℕ) (from place : ℕ) (initial old new : List ℕ) (row : Row) (there : slice_get rows place ≡ Some row) (low : from ≤ place)
    (added : new ≡ old ++ cond (row.head.named && (scope_number row.scope == scope_number scope)) (place ∷ []) []) (a : AddsMembers rows scope from place place initial old) where
  grown : (b : Bool) → (row.head.named && (scope_number row.scope == scope_number scope)) ≡ b → new ≡ old ++ cond b (place ∷ []) []
  grown b e = subst (λ t. new ≡ old ++ cond t (place ∷ []) []) e added

  still : (x : ℕ) → Contains old x → Contains new x
  still x c = subst (λ (l : List ℕ). Contains l x) (sym added) (Contains-append_left old (cond (row.head.named && (scope_number row.scope == scope_number scope)) (place ∷ []) []) x c)

  here : row.head.named ≡ true → row.scope ≡ scope → Contains new place
  here named is =
      let both = and_of row.head.named (scope_number row.scope == scope_number scope) named (eq-eqb (scope_number row.scope) (scope_number scope) (ap scope_number is)) in
      subst (λ (l : List ℕ). Contains l place) (sym (grown true both)) (Contains-push old place)

  -- its number, where it is added
  number : (row.head.named && (scope_number row.scope == scope_number scope)) ≡ true → row_key rows place ≡ member_key scope place
  number e =
      let same = same_number row.scope scope (eqb-true (scope_number row.scope) (scope_number scope) (and_parts row.head.named (scope_number row.scope == scope_number scope) e).1) in
      ap (λ (o : Option Row). member_key (scope_of o) place) there ∙ ap (λ (o : Option ℕ). member_key o place) same

  only_rows : (b : Bool) → (row.head.named && (scope_number row.scope == scope_number scope)) ≡ b → (x : ℕ) → Contains (old ++ cond b (place ∷ []) []) x → Contains initial x ⊎ IsNamed rows x
  only_rows true e x c =
      ⊎_elim (λ d. a.only x d) (λ is. inr (record { row = row; is = ap (slice_get rows) (sym is) ∙ there; named = (and_parts row.head.named (scope_number row.scope == scope_number scope) e).0 }))
      (Contains-push_cases old place x c)
  only_rows false e x c = ⊎_elim (λ d. a.only x d) (λ d. none x d) (Contains-append_cases old [] x c)

  rises_by : (b : Bool) → (row.head.named && (scope_number row.scope == scope_number scope)) ≡ b → Rises rows old → AllBelow rows old (member_key scope place) → Rises rows new × AllBelow rows new (member_key scope (next_place row place))
  rises_by true e up below =
      let is = number e in
      let behind : member_key scope place < member_key scope (next_place row place) = omega (arith, next_behind row place) in
      subst (λ (l : List ℕ). Rises rows l × AllBelow rows l (member_key scope (next_place row place))) (sym (grown true e))
      (rises_push rows old place (member_key scope (next_place row place)) (subst (λ n. n < member_key scope (next_place row place)) (sym is) behind) up (subst (AllBelow rows old) (sym is) below))
  rises_by false e up below =
      let same : new ≡ old = grown false e ∙ append-nil old in
      subst (λ (l : List ℕ). Rises rows l × AllBelow rows l (member_key scope (next_place row place))) (sym same)
      (up, below_more rows old (member_key scope place) (member_key scope (next_place row place)) (key_later scope place (next_place row place) (omega (arith, next_behind row place))) below)

  pub adds_turn : AddsMembers rows scope from (next_place row place) (next_place row place) initial new
  adds_turn = record {
    kept = λ x c. still x (a.kept x c);
    only = λ x c. only_rows (row.head.named && (scope_number row.scope == scope_number scope)) refl x (subst (λ (l : List ℕ). Contains l x) added c);
    all = λ lies before x found low_x high_x is named scope_is. by lies before x found low_x high_x is named scope_is (cases_lt x place) (cases_lt place x);
    rises = λ up below. let r = a.rises up below in rises_by (row.head.named && (scope_number row.scope == scope_number scope)) refl r.0 r.1;
  }
    where
      by : Lies rows → scope_number scope ≤ from → (x : ℕ) (found : Row) → from ≤ x → x < next_place row place → slice_get rows x ≡ Some found → found.head.named ≡ true → found.scope ≡ scope
          → (x < place) ⊎ (place ≤ x) → (place < x) ⊎ (x ≤ place) → Contains new x
      by lies before x found low_x high_x is named scope_is (inl lt) t = still x (a.all lies before x found low_x lt is named scope_is)
      by lies before x found low_x high_x is named scope_is (inr le) (inr ge) =
          let same : place ≡ x = omega (arith, le, ge) in
          let alike : found ≡ row = same_there rows x found row is (ap (slice_get rows) (sym same) ∙ there) in
          subst (λ n. Contains new n) same (here (ap (λ (r : Row). r.head.named) (sym alike) ∙ named) (ap (λ (r : Row). r.scope) (sym alike) ∙ scope_is))
      by lies before x found low_x high_x is named scope_is (inr le) (inl lt) =
          let inner = passed_by row place x lt high_x in
          let k = lies.inside place x row found there is inner.0 lt inner.1 in
          let number : scope_number scope ≡ k.0 + 1 = ap scope_number (sym scope_is ∙ k.1) in
          absurd (omega (arith, before, low, number, k.2))

-- what stands behind the last row isn't there
pub adds_all : (rows : List Row) (scope : Option ℕ) (from to place : ℕ) (old new : List ℕ) → ((x : ℕ) (row : Row) → x < to → slice_get rows x ≡ Some row → x < place) → place ≤ 18446744073709551615 → AddsMembers rows scope from place place old new
    → AddsMembers rows scope from to 18446744073709551615 old new
adds_all rows scope from to place old new past le a = record {
  kept = a.kept;
  only = a.only;
  all = λ lies before x row low high is named scope_is. a.all lies before x row low (past x row high is) is named scope_is;
  rises = λ up below. let r = a.rises up below in (r.0, below_more rows new (member_key scope place) (member_key scope 18446744073709551615) (key_later scope place 18446744073709551615 le) r.1);
}

-- ---- item by item

pub item_none : (rows : List Row) (place : ℕ) (row : Row) (members : List ℕ) → slice_get rows place ≡ Some row → row.head.is_item ≡ false → AddsItem rows place members members
item_none rows place row members there plain = record {
  kept = λ x c. c;
  only = λ x c. inl c;
  all = λ lies x found is named scope_is.
      let around = lies.around x place found is scope_is in
      let alike : around.0 ≡ row = same_there rows place around.0 row around.1 there in
      let clash : true ≡ false = sym around.2 ∙ ap (λ (r : Row). r.head.is_item) alike ∙ plain in
      absurd (cc (clash));
  rises = λ up below. (up, below_more rows members (member_key (Some place) 0) (member_key (Some (suc place)) 0) (omega arith) below);
}

pub item_some : (rows : List Row) (place : ℕ) (row : Row) (old new : List ℕ) → slice_get rows place ≡ Some row → AddsMembers rows (Some place) (place + 1) row.past 18446744073709551615 old new → AddsItem rows place old new
item_some rows place row old new there a = record {
  kept = a.kept;
  only = a.only;
  all = λ lies x found is named scope_is.
      let around = lies.around x place found is scope_is in
      let alike : around.0 ≡ row = same_there rows place around.0 row around.1 there in
      let high : x < row.past = subst (λ (r : Row). x < r.past) alike around.4 in
      a.all lies (omega arith) x found (omega (arith, around.3)) high is named scope_is;
  rises = λ up below.
      let r = a.rises up (below_more rows old (member_key (Some place) 0) (member_key (Some place) (place + 1)) (omega arith) below) in
      (r.0, below_more rows new (member_key (Some place) 18446744073709551615) (member_key (Some (suc place)) 0) (omega arith) r.1);
}

-- whether the rows with this item around are behind us, before the one at a place
abbrev pub IsDone : Option ℕ → ℕ → Type 0
IsDone None place = ⊤
IsDone (Some k) place = k < place

-- the members that are in no item, and those in the items before a place
pub record Done (rows : List Row) (place : ℕ) (members : List ℕ) : Type 0 where
  pub only : (x : ℕ) → Contains members x → IsNamed rows x
  pub all : Lies rows → (x : ℕ) (row : Row) → slice_get rows x ≡ Some row → row.head.named ≡ true → IsDone row.scope place → Contains members x
  pub up : Rises rows members
  pub below : AllBelow rows members (member_key (Some place) 0)

pub done_first : (rows : List Row) (members : List ℕ) → AddsMembers rows None 0 (length rows) 18446744073709551615 [] members → Done rows 0 members
done_first rows members a =
    let r = a.rises (λ i j d le lt. absurd (omega (arith, lt))) (λ x c. none x c) in
    record {
      only = λ x c. ⊎_elim (λ d. none x d) (λ n. n) (a.only x c);
      all = λ lies x row is named done. all lies x row is named row.scope refl done;
      up = r.0;
      below = below_more rows members (member_key None 18446744073709551615) (member_key (Some 0) 0) (omega arith) r.1;
    }
  where
    all : Lies rows → (x : ℕ) (row : Row) → slice_get rows x ≡ Some row → row.head.named ≡ true → (o : Option ℕ) → row.scope ≡ o → IsDone o 0 → Contains members x
    all lies x row is named None e done = a.all lies (omega arith) x row (omega arith) (slice_get_within rows x row is) is named e
    all lies x row is named (Some k) e done = absurd (omega (arith, done))

pub done_next : (rows : List Row) (place : ℕ) (old new : List ℕ) → AddsItem rows place old new → Done rows place old → Done rows (place + 1) new
done_next rows place old new a d =
    let r = a.rises d.up d.below in
    let next : suc place ≡ place + 1 = omega arith in
    record {
      only = λ x c. ⊎_elim (λ o. d.only x o) (λ n. n) (a.only x c);
      all = λ lies x row is named done. all lies x row is named row.scope refl done;
      up = r.0;
      below = subst (λ n. AllBelow rows new (member_key (Some n) 0)) next r.1;
    }
  where
    before : Lies rows → (x : ℕ) (row : Row) → slice_get rows x ≡ Some row → row.head.named ≡ true → (o : Option ℕ) → row.scope ≡ o → IsDone o place → Contains new x
    before lies x row is named o e done = a.kept x (d.all lies x row is named (subst (λ (o : Option ℕ). IsDone o place) (sym e) done))

    all : Lies rows → (x : ℕ) (row : Row) → slice_get rows x ≡ Some row → row.head.named ≡ true → (o : Option ℕ) → row.scope ≡ o → IsDone o (place + 1) → Contains new x
    all lies x row is named None e done = before lies x row is named None e tt
    all lies x row is named (Some k) e done =
        ⊎_elim (λ lt. before lies x row is named (Some k) e lt) (λ le. let same : k ≡ place = omega (arith, le, done) in a.all lies x row is named (e ∙ ap Some same)) (cases_lt k place)

pub done_all : (rows : List Row) (place : ℕ) (members : List ℕ) → length rows ≤ place → Done rows place members → Lies rows → AreMembers rows members
done_all rows place members past d lies x = (
  (λ c. d.only x c),
  (λ n. d.all lies x n.row n.is n.named (is_done n.row n.is n.row.scope refl)),
)
  where
    is_done : (row : Row) → slice_get rows x ≡ Some row → (o : Option ℕ) → row.scope ≡ o → IsDone o place
    is_done row is None e = tt
    is_done row is (Some k) e =
        omega (arith, (lies.around x k row is e).3, slice_get_within rows x row is, past)

-- ---- where a bound falls

pub first_by_last : (rows : List Row) (members : List ℕ) (bound count default : ℕ) → 0 < count → count ≤ length members → row_key rows (get_or members (count - 1) default) < bound → Rises rows members
    → FirstBelow rows members bound count
first_by_last rows members bound count default some fits under up = (
  fits,
  (λ k d low high.
      let same : row_key rows (get_or members (count - 1) d) ≡ row_key rows (get_or members (count - 1) default) = ap (row_key rows) (get_or_default members (count - 1) d default (omega (arith, some, fits))) in
      lt-ltb (row_key rows (get_or members k d)) bound (omega (arith, up k (count - 1) d (omega (arith, high)) (omega (arith, some, fits)), same, under))),
)

pub point_here : (rows : List Row) (members : List ℕ) (bound at default : ℕ) → at < length members → bound ≤ row_key rows (get_or members at default) → Rises rows members → FirstBelow rows members bound at
    → AreBelow rows members bound at
point_here rows members bound at default fits over up f = (
  f.1,
  (λ k d low high.
      let le = up at k d low high in
      let here : row_key rows (get_or members at d) ≡ row_key rows (get_or members at default) = ap (row_key rows) (get_or_default members at d default fits) in
      le-ltb (row_key rows (get_or members k d)) bound (omega (arith, le, here, over))),
)
