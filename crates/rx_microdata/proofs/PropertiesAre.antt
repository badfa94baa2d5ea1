-- The list of properties holds the properties, and no others.
use Rattle.rx_terms.proofs.Common.{not, ◌&&◌, ◌==◌, nat_le, ◌≡◌, Bool, true, List, filter, filter_map, Contains, list_any, list_all, Contains-append_left, Contains-append_right, Contains-append_cases, inl, inr}
use Rattle.rx_microdata.specs.Elements.{Placed, is_below, is_item, names_of}
use Rattle.rx_microdata.specs.Properties.{IsChild, IsStart, child, named, Reaches, itself, downward, IsProperty, is_any, first_with_id, is_child, starts_of, reaches, is_property, properties}
use Rattle.rx_microdata.specs.Laws.{PropertiesAre}
use Rattle.rx_microdata.proofs.Lists.{and_parts, and_of, or_parts, or_left, or_right, not_true, true_not, apart_from, apart_to, found, any_passes, kept, keeps, given, gives}

module _ (page : List Placed) where
  pub child_from : (outer e : Placed) → is_child page outer e ≡ true → IsChild page outer e
  child_from outer e h =
      let parts = and_parts (is_below outer e) (list_all (λ between. not (is_below outer between && is_below between e)) page) h in (
        parts.0,
        apart_from (is_below outer) (λ between. is_below between e) page parts.1,
      )

  pub child_to : (outer e : Placed) → IsChild page outer e → is_child page outer e ≡ true
  child_to outer e h =
      and_of (is_below outer e) (list_all (λ between. not (is_below outer between && is_below between e)) page) h.0
      (apart_to (is_below outer) (λ between. is_below between e) page h.1)

  start_from : (root start : Placed) → Contains (starts_of page root) start → IsStart page root start
  start_from root start h =
      elim (Contains-append_cases (filter (is_child page root) page) (filter_map (first_with_id page) root.facts.references) start h) as (λ _. IsStart page root start) [
        | inl c ↦ let w = kept (is_child page root) page start c in child w.0 (child_from root start w.1)
        | inr n ↦ let w = given (first_with_id page) root.facts.references start n in named w.0 w.1 w.2
      ]

  start_to : (root start : Placed) → IsStart page root start → Contains (starts_of page root) start
  start_to root start (child held c) =
      Contains-append_left (filter (is_child page root) page) (filter_map (first_with_id page) root.facts.references) start
      (keeps (is_child page root) page start held (child_to root start c))
  start_to root start (named token held e) =
      Contains-append_right (filter (is_child page root) page) (filter_map (first_with_id page) root.facts.references) start
      (gives (first_with_id page) root.facts.references token start held e)

  module _ (start e : Placed) where
    -- whether an element is between, and whether none of those is an item
    inner : Placed → Bool
    inner between = nat_le start.place between.place && is_below between e

    free : Bool
    free = list_all (λ between. not (inner between && is_item between)) page

    pub reaches_from : reaches page e start ≡ true → Reaches page start e
    unfolding inner free
    reaches_from h = elim (or_parts (start.place == e.place) (is_below start e && free) h) as (λ _. Reaches page start e) [
      | inl same ↦ itself same
      | inr below ↦
          let parts = and_parts (is_below start e) free below in
          downward parts.0 (λ between held from inside. apart_from inner is_item page parts.1 between held (and_of (nat_le start.place between.place) (is_below between e) from inside))
    ]

    pub reaches_to : Reaches page start e → reaches page e start ≡ true
    unfolding inner free
    reaches_to (itself same) = or_left (start.place == e.place) (is_below start e && free) same
    reaches_to (downward below k) =
        or_right (start.place == e.place) (is_below start e && free)
        (and_of (is_below start e) free below
        (apart_to inner is_item page (λ between held both. let parts = and_parts (nat_le start.place between.place) (is_below between e) both in k between held parts.0 parts.1)))

  module _ (root e : Placed) where
    property_from : Contains (properties page root) e → IsProperty page root e
    property_from h =
        let w = kept (is_property page root (starts_of page root)) page e h in
        let all = and_parts (not (root.place == e.place) && is_any (names_of e)) (list_any (reaches page e) (starts_of page root)) w.1 in
        let named = and_parts (not (root.place == e.place)) (is_any (names_of e)) all.0 in
        let by = found (reaches page e) (starts_of page root) all.1 in
        record {
          stands = w.0;
          is_other = not_true (root.place == e.place) named.0;
          has_name = named.1;
          start = by.0;
          starts = start_from root by.0 by.1;
          reached = reaches_from by.0 e by.2;
        }

    property_to : IsProperty page root e → Contains (properties page root) e
    property_to h =
        keeps (is_property page root (starts_of page root)) page e h.stands
        (and_of (not (root.place == e.place) && is_any (names_of e)) (list_any (reaches page e) (starts_of page root))
        (and_of (not (root.place == e.place)) (is_any (names_of e)) (true_not (root.place == e.place) h.is_other) h.has_name)
        (any_passes (reaches page e) (starts_of page root) h.start (start_to root h.start h.starts) (reaches_to h.start e h.reached)))

pub are : PropertiesAre
are page root e = (property_from page root e, property_to page root e)
