-- The test by `scope` lists the properties of an item.
use Rattle.rx_grammar.proofs.Common.{not, ◌&&◌, ◌||◌, ◌==◌, ◌≡◌, ℕ, ◌<◌, ◌≤◌, Bool, true, false, List, [], ◌∷◌, filter, filter_map, find, Contains, Option, Some, None, list_any, refl, sym, ap, subst, ◌∙◌, list_any-append, none-some, split, All-contains, inl, inr, arith, Tree}
use Rattle.std.proofs.lemmas.Bool.{leb-true, le-leb, eq-eqb, cases_lt, false_from_ne_true, eqb-true}
use Rattle.rx_microdata.specs.Elements.{Placed, elements_of, is_below, IsBelow, is_item, names_of}
use Rattle.rx_microdata.specs.Properties.{IsChild, Reaches, itself, downward, is_any, first_with_id, has_id, is_child, starts_of, reaches, is_property}
use Rattle.rx_microdata.specs.Laws.{Rise, is_scope, reaches_by_scope, is_property_by_scope, ScopesList}
use Rattle.rx_microdata.proofs.Lists.{and_parts, and_of, or_parts, none, first_or_later, or_left, or_right, some_same, contradiction, bool_same, found, any_passes, kept, keeps, given, found_first, has_first, filter_same, any_same}
use Rattle.rx_microdata.proofs.PropertiesAre.{child_from, child_to, reaches_from, reaches_to}
use Rattle.rx_microdata.proofs.PropertiesRise.{placed_rise}
use Rattle.rx_microdata.proofs.Scopes.{below_parts, below_of, AtMost, ordered, same_place, scopes, nested, tell}

-- the first that passes has the least place
pub least : (p : Placed → Bool) (xs : List Placed) → Rise xs → (c x : Placed) → find p xs ≡ Some c → Contains xs x → p x ≡ true → c.place ≤ x.place
least p [] r c x h hx g = none x hx
least p (z ∷ xs) r c x h hx g = split (λ o. o ≡ Some c → c.place ≤ x.place) (p z) (Some z) (find p xs)
    (λ t e.
    let k : z.place ≡ c.place = ap (λ (w : Placed). w.place) (some_same z c e) in
    elim (first_or_later z x xs hx) as (λ _. c.place ≤ x.place) [
      | inl s ↦ let q : z.place ≡ x.place = ap (λ (w : Placed). w.place) s in omega arith
      | inr l ↦ let q = All-contains (λ (w : Placed). z.place < w.place) xs x r.0 l in omega arith
    ])
    (λ t e. elim (first_or_later z x xs hx) as (λ _. c.place ≤ x.place) [ inl s ↦ contradiction (p z) (ap p s ∙ g) t | inr l ↦ least p xs r.1 c x e l g ]) h

scope_from : (place : ℕ) (scope : Option ℕ) → is_scope place scope ≡ true → scope ≡ Some place
scope_from place None h = contradiction false h refl
scope_from place (Some s) h = ap Some (eqb-true s place h)

scope_to : (place s : ℕ) (scope : Option ℕ) → scope ≡ Some s → s ≡ place → is_scope place scope ≡ true
scope_to place s scope e q = ap (λ o. is_scope place o) e ∙ eq-eqb s place q

module _ (tree : Tree) (root e : Placed) (root_here : Contains (elements_of tree) root) (here : Contains (elements_of tree) e) (item : is_item root ≡ true) where
  abbrev page : List Placed
  page = elements_of tree

  rises : Rise page
  rises = placed_rise tree

  inside_of : (b c : Placed) → Contains page b → Contains page c → IsBelow b c → c.past ≤ b.past
  inside_of b c hb hc below = nested None 0 tree b c hb hc below

  -- a child of the item that reaches e is below it, and no item stands between
  forth_by : (c : Placed) → Contains page c → IsChild page root c → Reaches page c e → (c.place ≤ e.place) × (e.place < root.past)
      × ((b : Placed) → Contains page b → is_item b ≡ true → IsBelow b e → root.place < b.place → ⊥)
  forth_by c hc child (itself same) =
      let q = eqb-true c.place e.place same in
      let x = below_parts root c child.0 in
      let x0 = x.0 in let x1 = x.1 in (
        omega (arith, q),
        omega (arith, q, x1),
        λ b hb ib below l.
            let y = below_parts b e below in
            let y0 = y.0 in let y1 = y.1 in
            let r = x.1 in
            contradiction (is_below b c) (below_of b c (omega (arith, q, y0)) (omega (arith, q, y1)))
            (child.1 b hb (below_of root b l (omega (arith, q, y0, r)))),
      )
  forth_by c hc child (downward down free) =
      let x = below_parts root c child.0 in
      let x0 = x.0 in let x1 = x.1 in
      let z = below_parts c e down in
      let z0 = z.0 in let z1 = z.1 in
      let n = inside_of root c root_here hc child.0 in (
        omega (arith, z0),
        omega (arith, z1, n),
        λ b hb ib below l.
            let y = below_parts b e below in
            let y0 = y.0 in let y1 = y.1 in
            elim (cases_lt b.place c.place) as (λ _. ⊥) [
              | inl less ↦ contradiction (is_below b c) (below_of b c less (omega (arith, z0, y1)))
                  (child.1 b hb (below_of root b l (omega (arith, less, x1))))
              | inr more ↦ contradiction (is_item b) ib (free b hb (le-leb c.place b.place more) below)
            ],
      )

  child_reaches : list_any (reaches page e) (filter (is_child page root) page) ≡ true → is_scope root.place e.scope ≡ true
  child_reaches h =
      let w = found (reaches page e) (filter (is_child page root) page) h in
      let k = kept (is_child page root) page w.0 w.1 in
      let child = child_from page root w.0 k.1 in
      let f = forth_by w.0 k.0 child (reaches_from page w.0 e w.2) in
      let x0 = (below_parts root w.0 child.0).0 in
      let f0 = f.0 in let f1 = f.1 in
      let most = (scopes None 0 tree e here).1 root root_here (below_of root e (omega (arith, x0, f0)) f1) item in
      elim ((scopes None 0 tree e here).0) as (λ _. is_scope root.place e.scope ≡ true) [
        | inl s ↦ absurd (subst (AtMost root.place) s most)
        | inr held ↦
            let m : root.place ≤ (held.0).place = subst (AtMost root.place) held.4 most in
            elim (cases_lt root.place (held.0).place) as (λ _. is_scope root.place e.scope ≡ true) [
              | inl l ↦ absurd (f.2 held.0 held.1 held.2 held.3 l)
              | inr g ↦ scope_to root.place (held.0).place e.scope held.4 (omega (arith, m, g))
            ]
      ]

  -- between the item and e, e included
  abbrev leads : Placed → Bool
  leads c = is_below root c && (c.place == e.place || is_below c e)

  back_to : IsBelow root e → e.scope ≡ Some root.place → list_any (reaches page e) (filter (is_child page root) page) ≡ true
  back_to below s =
      let self = and_of (is_below root e) (e.place == e.place || is_below e e) below (or_left (e.place == e.place) (is_below e e) (eq-eqb e.place e.place refl)) in
      let first_one = has_first leads page e here self in
      let c = first_one.0 in
      let w = found_first leads page c first_one.1 in
      let parts = and_parts (is_below root c) (c.place == e.place || is_below c e) w.1 in
      let r = below_parts root c parts.0 in
      let r0 = r.0 in
      let no_item : (b : Placed) → Contains page b → c.place ≤ b.place → IsBelow b e → is_item b ≡ false = λ b hb l inside.
      false_from_ne_true (is_item b) (λ i.
      let m : b.place ≤ root.place = subst (AtMost b.place) s ((scopes None 0 tree e here).1 b hb inside i) in
      omega (arith, m, l, r0)) in
      let enclosing : (x : Placed) → Contains page x → IsBelow x c → IsBelow x e = λ x hx below_c.
      let y = below_parts x c below_c in
      let y0 = y.0 in let y1 = y.1 in
      elim (or_parts (c.place == e.place) (is_below c e) parts.1) as (λ _. IsBelow x e) [
        | inl same ↦ let q = eqb-true c.place e.place same in below_of x e (omega (arith, y0, q)) (omega (arith, y1, q))
        | inr down ↦
            let z = below_parts c e down in
            let z0 = z.0 in let z1 = z.1 in
            let n = inside_of x c hx w.0 below_c in
            below_of x e (omega (arith, y0, z0)) (omega (arith, z1, n))
      ] in
      let child : IsChild page root c = (
        parts.0,
        λ x hx below_root.
            false_from_ne_true (is_below x c) (λ below_c.
            let y0 = (below_parts x c below_c).0 in
            let l = least leads page rises c x first_one.1 hx
            (and_of (is_below root x) (x.place == e.place || is_below x e) below_root (or_right (x.place == e.place) (is_below x e) (enclosing x hx below_c))) in
            omega (arith, y0, l)),
      ) in
      let reached : Reaches page c e = elim (or_parts (c.place == e.place) (is_below c e) parts.1) as (λ _. Reaches page c e) [
        | inl same ↦ itself same
        | inr down ↦ downward down (λ b hb from inside. no_item b hb (leb-true c.place b.place from) inside)
      ] in
      any_passes (reaches page e) (filter (is_child page root) page) c
      (keeps (is_child page root) page c w.0 (child_to page root c child))
      (reaches_to page c e reached)

  scope_reaches : is_scope root.place e.scope ≡ true → list_any (reaches page e) (filter (is_child page root) page) ≡ true
  scope_reaches h =
      let s = scope_from root.place e.scope h in
      elim ((scopes None 0 tree e here).0) as (λ _. list_any (reaches page e) (filter (is_child page root) page) ≡ true) [
        | inl n ↦ absurd (none-some root.place (sym n ∙ s))
        | inr held ↦
            let q = some_same (held.0).place root.place (sym held.4 ∙ s) in
            let is = same_place page (ordered None 0 tree) held.0 root held.1 root_here q in
            back_to (subst (λ (x : Placed). IsBelow x e) is held.3) s
      ]

  children_tell : list_any (reaches page e) (filter (is_child page root) page) ≡ is_scope root.place e.scope
  children_tell = bool_same (list_any (reaches page e) (filter (is_child page root) page)) (is_scope root.place e.scope) child_reaches scope_reaches

  named_tell : list_any (reaches page e) (filter_map (first_with_id page) root.facts.references)
      ≡ list_any (reaches_by_scope e) (filter_map (first_with_id page) root.facts.references)
  named_tell = any_same (reaches page e) (reaches_by_scope e) (filter_map (first_with_id page) root.facts.references) (λ z hz.
      let w = given (first_with_id page) root.facts.references z hz in
      tell tree z e (found_first (has_id w.0) page z w.2).0 here)

  pub same_test : is_property page root (starts_of page root) e ≡ is_property_by_scope page root e
  same_test =
      let all = list_any-append (reaches page e) (filter (is_child page root) page) (filter_map (first_with_id page) root.facts.references) in
      ap (λ b. not (root.place == e.place) && is_any (names_of e) && b) (all ∙ (λ i. children_tell i || named_tell i))

pub list : ScopesList
list tree root here item =
    filter_same (is_property (elements_of tree) root (starts_of (elements_of tree) root)) (is_property_by_scope (elements_of tree) root) (elements_of tree)
    (λ e he. same_test tree root e here he item)
