-- The nearest item around each element is the column `scope`, and tells what a start reaches.
use Rattle.rx_grammar.proofs.Common.{list_all, refl, sym, ap, subst, ◌∙◌, ltb-true, lt-ltb, leb-true, le-leb, cases_lt, false_from_ne_true, inl, inr, arith, StartTag, Tree, end, element, text}
use Rattle.std.specs.Prelude.{⊤, not, ◌&&◌, ◌||◌, ◌==◌, nat_le, ◌≡◌, ℕ, suc, ◌+◌, ◌<◌, ◌≤◌, Bool, true, false, nat_lt, cond, ◌⊎◌, List, [], ◌∷◌, ◌++◌, All, Contains, Option, Some, None}
use Rattle.std.proofs.lemmas.List.Elements.{Contains-append_left, Contains-append_right, All-nil, All-cons, All-head, All-tail, All-append, All-weaker, All-contains, All-contains_itself}
use Rattle.rx_microdata.specs.Facts.{begins_item, facts_of}
use Rattle.rx_microdata.specs.Elements.{Placed, count, scope_in, placed_from, elements_of, is_below, IsBelow, is_item}
use Rattle.rx_microdata.specs.Laws.{is_after_scope, ScopesTell}
use Rattle.rx_microdata.proofs.Lists.{and_parts, and_of, none, first, later, first_or_later, three, bool_same, contradiction, apart_from, apart_to}

pub below_parts : (c e : Placed) → IsBelow c e → (c.place < e.place) × (e.place < c.past)
below_parts c e h =
    let parts = and_parts (nat_lt c.place e.place) (nat_lt e.place c.past) h in
    (ltb-true c.place e.place parts.0, ltb-true e.place c.past parts.1)

pub below_of : (c e : Placed) → c.place < e.place → e.place < c.past → IsBelow c e
below_of c e a b = and_of (nat_lt c.place e.place) (nat_lt e.place c.past) (lt-ltb c.place e.place a) (lt-ltb e.place c.past b)

abbrev pub AtMost : ℕ → Option ℕ → Type 0
AtMost n None = ⊥
AtMost n (Some scope) = n ≤ scope

at_most : (n s : ℕ) (scope : Option ℕ) → scope ≡ Some s → n ≤ s → AtMost n scope
at_most n s scope e h = subst (AtMost n) (sym e) h

-- an item around e gives its scope
abbrev pub Holder : List Placed → Placed → Type 0
Holder xs e = (b : Placed) × Contains xs b × (is_item b ≡ true) × IsBelow b e × (e.scope ≡ Some b.place)

abbrev pub Source : List Placed → Option ℕ → Placed → Type 0
Source xs scope e = (e.scope ≡ scope) ⊎ Holder xs e

-- no item around e is nearer
abbrev pub Nearest : List Placed → Placed → Type 0
Nearest xs e = (c : Placed) → Contains xs c → IsBelow c e → is_item c ≡ true → AtMost c.place e.scope

abbrev pub Within : ℕ → ℕ → Placed → Type 0
Within low high e = (low ≤ e.place) × (e.place < e.past) × (e.past ≤ high)

pub placed_within : (scope : Option ℕ) (low : ℕ) (tree : Tree) → All (Within low (low + count tree)) (placed_from scope low tree)
placed_within scope low end = All-nil (Within low (low + 0))
placed_within scope low (element tag inner more) =
    let P = Within low (low + suc (count inner + count more)) in
    let past : ℕ = suc low + count inner in
    let inside : List Placed = placed_from (scope_in tag low scope) (suc low) inner in
    let behind : List Placed = placed_from scope past more in
    All-cons P (record { place = low; past = past; scope = scope; facts = facts_of tag inner }) (inside ++ behind)
    (omega arith, omega arith, omega arith)
    (All-append P inside behind
    (All-weaker (Within (suc low) past) P (λ e h. let a = h.0 in let b = h.1 in let c = h.2 in (omega arith, b, omega arith)) inside (placed_within (scope_in tag low scope) (suc low) inner))
    (All-weaker (Within past (past + count more)) P (λ e h. let a = h.0 in let b = h.1 in let c = h.2 in (omega arith, b, omega arith)) behind (placed_within scope past more)))
placed_within scope low (text chars more) = placed_within scope low more

-- ---- an element gives the scope, or an item around

module _ (scope : Option ℕ) (low : ℕ) (tag : StartTag) (inner more : Tree) where
  abbrev pub head : Placed
  head = record { place = low; past = suc low + count inner; scope = scope; facts = facts_of tag inner }

  abbrev pub inside : List Placed
  inside = placed_from (scope_in tag low scope) (suc low) inner

  abbrev pub behind : List Placed
  behind = placed_from scope (suc low + count inner) more

  in_range : (e : Placed) → Contains inside e → Within (suc low) (suc low + count inner) e
  in_range e h = All-contains (Within (suc low) (suc low + count inner)) inside e (placed_within (scope_in tag low scope) (suc low) inner) h

  by_tag : (e : Placed) → Contains inside e → (b : Bool) → begins_item tag ≡ b → e.scope ≡ cond b (Some low) scope → Source (head ∷ (inside ++ behind)) scope e
  by_tag e h true t s =
      let w = in_range e h in
      let a = w.0 in let b = w.1 in let c = w.2 in
      inr (head, first head (inside ++ behind), t, below_of head e (omega arith) (omega arith), s)
  by_tag e h false t s = inl s

  source_at : (e : Placed) → (head ≡ e) ⊎ (Contains inside e ⊎ Contains behind e)
      → (Contains inside e → Source inside (scope_in tag low scope) e) → (Contains behind e → Source behind scope e) → Source (head ∷ (inside ++ behind)) scope e
  source_at e (inl same) f g = inl (sym (ap (λ (x : Placed). x.scope) same))
  source_at e (inr (inl i)) f g = elim (f i) as (λ _. Source (head ∷ (inside ++ behind)) scope e) [
    | inl s ↦ by_tag e i (begins_item tag) refl s
    | inr held ↦ inr (held.0, later head held.0 (inside ++ behind) (Contains-append_left inside behind held.0 held.1), held.2, held.3, held.4)
  ]
  source_at e (inr (inr r)) f g = elim (g r) as (λ _. Source (head ∷ (inside ++ behind)) scope e) [
    | inl s ↦ inl s
    | inr held ↦ inr (held.0, later head held.0 (inside ++ behind) (Contains-append_right inside behind held.0 held.1), held.2, held.3, held.4)
  ]

  head_at_most : (e : Placed) → Source inside (scope_in tag low scope) e → begins_item tag ≡ true → AtMost low e.scope
  head_at_most e (inl s) t = at_most low low e.scope (s ∙ ap (λ b. cond b (Some low) scope) t) (omega arith)
  head_at_most e (inr held) t =
      let w = (in_range held.0 held.1).0 in
      at_most low (held.0).place e.scope held.4 (omega arith)

source : (scope : Option ℕ) (low : ℕ) (tree : Tree) (e : Placed) → Contains (placed_from scope low tree) e → Source (placed_from scope low tree) scope e
source scope low end e h = none e h
source scope low (element tag inner more) e h =
    source_at scope low tag inner more e (three (head scope low tag inner more) e (inside scope low tag inner more) (behind scope low tag inner more) h)
    (source (scope_in tag low scope) (suc low) inner e) (source scope (suc low + count inner) more e)
source scope low (text chars more) e h = source scope low more e h

-- ---- the order of the elements

-- x stands before y; y inside x ends where x ends, or before, and has it or a nearer item around
abbrev pub Before : Placed → Placed → Type 0
Before x y = (x.place < y.place) × (y.place < x.past → (y.past ≤ x.past) × (is_item x ≡ true → AtMost x.place y.scope))

abbrev pub Ordered : List Placed → Type 0
Ordered [] = ⊤
Ordered (x ∷ xs) = All (Before x) xs × Ordered xs

ordered_append : (low bound high : ℕ) (xs ys : List Placed) → Ordered xs → Ordered ys → All (Within low bound) xs → All (Within bound high) ys → Ordered (xs ++ ys)
ordered_append low bound high [] ys r s a b = s
ordered_append low bound high (x ∷ xs) ys r s a b =
    let w = All-head (Within low bound) x xs a in
    let w1 = w.1 in let w2 = w.2 in (
      All-append (Before x) xs ys r.0 (All-weaker (Within bound high) (Before x) (λ y h. let h0 = h.0 in (omega arith, λ l. absurd (omega (arith, l)))) ys b),
      ordered_append low bound high xs ys r.1 s (All-tail (Within low bound) x xs a) b,
    )

pub ordered : (scope : Option ℕ) (low : ℕ) (tree : Tree) → Ordered (placed_from scope low tree)
ordered scope low end = tt
ordered scope low (element tag inner more) =
    let past : ℕ = suc low + count inner in
    let x : Placed = head scope low tag inner more in
    let xs : List Placed = inside scope low tag inner more in
    let ys : List Placed = behind scope low tag inner more in
    let in_rest = placed_within scope past more in (
      All-append (Before x) xs ys
          (All-weaker (Contains xs) (Before x) (λ y held.
          let w = in_range scope low tag inner more y held in
          let w0 = w.0 in (omega arith, λ l. (w.2, λ item. head_at_most scope low tag inner more y (source (scope_in tag low scope) (suc low) inner y held) item))) xs (All-contains_itself xs))
          (All-weaker (Within past (past + count more)) (Before x) (λ y h. let h0 = h.0 in (omega arith, λ l. absurd (omega (arith, l)))) ys in_rest),
      ordered_append (suc low) past (past + count more) xs ys (ordered (scope_in tag low scope) (suc low) inner) (ordered scope past more)
          (placed_within (scope_in tag low scope) (suc low) inner) in_rest,
    )
ordered scope low (text chars more) = ordered scope low more

-- of two elements one stands before the other
one_before : (xs : List Placed) → Ordered xs → (x y : Placed) → Contains xs x → Contains xs y → (x ≡ y) ⊎ (Before x y ⊎ Before y x)
one_before [] r x y hx hy = none x hx
one_before (z ∷ xs) r x y hx hy = by (first_or_later z x xs hx) (first_or_later z y xs hy) (one_before xs r.1 x y)
  where
    by : (z ≡ x) ⊎ Contains xs x → (z ≡ y) ⊎ Contains xs y → (Contains xs x → Contains xs y → (x ≡ y) ⊎ (Before x y ⊎ Before y x)) → (x ≡ y) ⊎ (Before x y ⊎ Before y x)
    by (inl sx) (inl sy) ih = inl (sym sx ∙ sy)
    by (inl sx) (inr ly) ih = inr (inl (subst (λ w. Before w y) sx (All-contains (Before z) xs y r.0 ly)))
    by (inr lx) (inl sy) ih = inr (inr (subst (λ w. Before w x) sy (All-contains (Before z) xs x r.0 lx)))
    by (inr lx) (inr ly) ih = ih lx ly

-- an element is known by its place
pub same_place : (xs : List Placed) → Ordered xs → (x y : Placed) → Contains xs x → Contains xs y → x.place ≡ y.place → x ≡ y
same_place xs r x y hx hy e = elim (one_before xs r x y hx hy) as (λ _. x ≡ y) [
  | inl same ↦ same
  | inr (inl b) ↦ let l = b.0 in absurd (omega arith)
  | inr (inr b) ↦ let l = b.0 in absurd (omega arith)
]

-- what is below an element stands behind it
before_below : (xs : List Placed) → Ordered xs → (b c : Placed) → Contains xs b → Contains xs c → IsBelow b c → (c.past ≤ b.past) × (is_item b ≡ true → AtMost b.place c.scope)
before_below xs r b c hb hc below =
    let w = below_parts b c below in
    let w0 = w.0 in
    elim (one_before xs r b c hb hc) as (λ _. (c.past ≤ b.past) × (is_item b ≡ true → AtMost b.place c.scope)) [
      | inl same ↦ let q : b.place ≡ c.place = ap (λ (x : Placed). x.place) same in absurd (omega arith)
      | inr (inl h) ↦ h.1 w.1
      | inr (inr h) ↦ let l = h.0 in absurd (omega arith)
    ]

pub scopes : (scope : Option ℕ) (low : ℕ) (tree : Tree) (e : Placed) → Contains (placed_from scope low tree) e
    → Source (placed_from scope low tree) scope e × Nearest (placed_from scope low tree) e
scopes scope low tree e h = (
  source scope low tree e h,
  λ c held below item. (before_below (placed_from scope low tree) (ordered scope low tree) c e held h below).1 item,
)

-- what is below an element ends where it ends, or before
pub nested : (scope : Option ℕ) (low : ℕ) (tree : Tree) (b c : Placed) → Contains (placed_from scope low tree) b → Contains (placed_from scope low tree) c
    → IsBelow b c → c.past ≤ b.past
nested scope low tree b c hb hc below = (before_below (placed_from scope low tree) (ordered scope low tree) b c hb hc below).0

-- ---- what a start reaches

before_than : (n m : ℕ) (scope : Option ℕ) → AtMost n scope → is_after_scope scope m ≡ true → n < m
before_than n m None a b = absurd a
before_than n m (Some s) a b = let l = ltb-true s m b in omega (arith, a, l)

module _ (tree : Tree) (start e : Placed) (here : Contains (elements_of tree) e) where
  abbrev page : List Placed
  page = elements_of tree

  abbrev stops : Placed → Bool
  stops between = nat_le start.place between.place && is_below between e && is_item between

  abbrev from_start : Placed → Bool
  from_start between = nat_le start.place between.place && is_below between e

  forth : is_below start e ≡ true → list_all (λ b. not (stops b)) page ≡ true → is_after_scope e.scope start.place ≡ true
  forth below free = elim ((scopes None 0 tree e here).0) as (λ _. is_after_scope e.scope start.place ≡ true) [
    | inl s ↦ ap (λ o. is_after_scope o start.place) s
    | inr held ↦
        ap (λ o. is_after_scope o start.place) held.4
        ∙ elim (cases_lt (held.0).place start.place) as (λ _. nat_lt (held.0).place start.place ≡ true) [
          | inl l ↦ lt-ltb (held.0).place start.place l
          | inr l ↦ contradiction (is_item held.0) held.2 (apart_from from_start is_item page free held.0 held.1 (and_of (nat_le start.place (held.0).place) (is_below held.0 e) (le-leb start.place (held.0).place l) held.3))
        ]
  ]

  back : is_after_scope e.scope start.place ≡ true → list_all (λ b. not (stops b)) page ≡ true
  back before = apart_to from_start is_item page (λ between held both.
      let parts = and_parts (nat_le start.place between.place) (is_below between e) both in
      let from = leb-true start.place between.place parts.0 in
      false_from_ne_true (is_item between) (λ item.
      let n = before_than between.place start.place e.scope ((scopes None 0 tree e here).1 between held parts.1 item) before in
      omega (arith, n, from)))

-- two tests behind one that has to pass
and_same : (a b c : Bool) → (a ≡ true → b ≡ c) → (a && b) ≡ (a && c)
and_same true b c f = f refl
and_same false b c f = refl

pub tell : ScopesTell
tell tree start e there here =
    let free : Bool = list_all (λ b. not (stops tree start e here b)) (elements_of tree) in
    ap (λ b. start.place == e.place || b)
    (and_same (is_below start e) free (is_after_scope e.scope start.place) (λ below. bool_same free (is_after_scope e.scope start.place) (forth tree start e here below) (back tree start e here)))
