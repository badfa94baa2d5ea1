-- The first row of each id, as a sorted map of texts has them.
use Rattle.std.specs.Prelude.{◌≡◌, ℕ, Bool, List, Option, Some, option_map, filter_map, slice_get, Contains, ◌↔◌, if◌then◌else◌}
use Rattle.rx_terms.specs.Common.{chars, IsUtf8, Chars, tokens, BTreeMap, get_by, slice_cmp, nat_cmp, Bor}
use Rattle.rx_microdata.specs.Elements.{Placed}
use Rattle.rx_microdata.specs.Properties.{first_with_id, is_same_id}
use Rattle.rx_items.specs.Words.{references_in}
use Rattle.rx_items.specs.declared.rows.Row.{Row}
use Rattle.rx_items.specs.declared.spans.Span.{Span}

-- the place under a text of these bytes
abbrev pub id_place : BTreeMap (Bor (List ℕ)) ℕ → List ℕ → Option ℕ
id_place ids text = get_by (λ id. slice_cmp nat_cmp text id.now) ids

-- the map tells the place of each id
abbrev pub Looks : BTreeMap (Bor (List ℕ)) ℕ → (Chars → Option ℕ) → Type 0
Looks ids look = (text : List ℕ) → IsUtf8 text → id_place ids text ≡ look (chars text)

-- what is so of each look-up that the map answers for
abbrev pub OfIds : BTreeMap (Bor (List ℕ)) ℕ → ((Chars → Option ℕ) → Type 0) → Type 0
OfIds ids Holds = (look : Chars → Option ℕ) → Looks ids look → Holds look

-- it does where these references are there, which are looked up in it
abbrev pub LooksWhere : Option Span → BTreeMap (Bor (List ℕ)) ℕ → (Chars → Option ℕ) → Type 0
LooksWhere references ids look = (span : Span) → references ≡ Some span → Looks ids look

abbrev pub has_itemref : Row → Bool
has_itemref row = row.head.words.has_references

-- it does where some row has references
abbrev pub LooksFor : List Row → BTreeMap (Bor (List ℕ)) ℕ → (Chars → Option ℕ) → Type 0
LooksFor rows ids look = (place : ℕ) (row : Row) → slice_get rows place ≡ Some row → LooksWhere (references_in row.head.words) ids look

-- the place of the first row with an id
abbrev pub look_in : List Placed → Chars → Option ℕ
look_in ps token = option_map (λ (p : Placed). p.place) (first_with_id ps token)

-- a row's id, where it has one, tells this place from now on
abbrev pub IsNoted : BTreeMap (Bor (List ℕ)) ℕ → Option Chars → ℕ → BTreeMap (Bor (List ℕ)) ℕ → Type 0
IsNoted old word place new =
    (text : List ℕ) → IsUtf8 text → id_place new text ≡ (if is_same_id (chars text) word then Some place else id_place old text)

-- these places are those of the ids among a text's tokens
abbrev pub AreReferred : (Chars → Option ℕ) → Chars → List ℕ → Type 0
AreReferred look text list = (n : ℕ) → Contains list n ↔ Contains (filter_map look (tokens text)) n
