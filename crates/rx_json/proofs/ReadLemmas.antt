-- The compact text of a plain value is read back as that value.
use Rattle.rx_terms.proofs.Common.{◌≡◌, ◌∙◌, ◌≤◌, ℕ, suc, max, List, [], refl, sym, ap, ap₂, arith, append-nil, Option, Some, option_map, option_and_then, Less, Greater, nat_cmp, slice_cmp}
use Rattle.json.specs.Token.{Token}
use Rattle.json.specs.Lex.{tokens}
use Rattle.json.specs.Json as json
use Rattle.json.specs.Tree as tree
use Rattle.json.proofs.Printed.Tokens.{tokens-print}
use Rattle.json.proofs.Printed.Trees.{value-json_tokens, ArePrintable-json_tokens}
use Rattle.serde_json.specs.Data.{Data, Items, Members, null, boolean, number, string, array, object, no_items, item, no_members, member, put, depth, items_depth, members_depth}
use Rattle.serde_json.specs.Read.{read, max_depth, of_json, of_items, of_members}
use Rattle.serde_json.specs.Written.{compact_text, outline, items_outline, members_outline}
use Rattle.serde_json.proofs.Texts.{print-outline}
use Rattle.rx_json.specs.Plain.{PrecedesMembers, IsPlain, ArePlain, MembersArePlain}
use Rattle.rx_json.proofs.PlainLemmas.{turned, outlined}

-- a name comes behind each of these
abbrev pub Trails : List ℕ → Members → Type 0
Trails name no_members = Unit {0}
Trails name (member other value more) = (slice_cmp nat_cmp name other ≡ Greater) × Trails name more

-- ---- names that come one after another go in one behind another

abbrev pub joined : Members → Members → Members
joined no_members more = more
joined (member name d done) more = member name d (joined done more)

joined_none : (done : Members) → joined done no_members ≡ done
joined_none no_members = refl
joined_none (member name d done) = ap (member name d) (joined_none done)

joined_on : (done : Members) (name : List ℕ) (d : Data) (more : Members) → joined (joined done (member name d no_members)) more ≡ joined done (member name d more)
joined_on no_members name d more = refl
joined_on (member other e done) name d more = ap (member other e) (joined_on done name d more)

put_last : (done : Members) (name : List ℕ) (d : Data) → Trails name done → put name d done ≡ joined done (member name d no_members)
put_last no_members name d h = refl
put_last (member other e done) name d h = rw h.0 (ap (member other e) (put_last done name d h.1))

-- each of these names comes behind each of those
abbrev pub Follow : Members → Members → Type 0
Follow done no_members = Unit {0}
Follow done (member name d more) = Trails name done × Follow done more

trails_more : (done : Members) (name other : List ℕ) (d : Data) → Trails other done → slice_cmp nat_cmp other name ≡ Greater → Trails other (joined done (member name d no_members))
trails_more no_members name other d h c = (c, tt)
trails_more (member first e done) name other d h c = (h.0, trails_more done name other d h.1 c)

follow_more : (done : Members) (name : List ℕ) (d : Data) (more : Members) → Follow done more → PrecedesMembers name more → Follow (joined done (member name d no_members)) more
follow_more done name d no_members f l = tt
follow_more done name d (member other e more) f l = (trails_more done name other d f.0 (turned name other Less l.0), follow_more done name d more f.1 l.1)

follow_none : (more : Members) → Follow no_members more
follow_none no_members = tt
follow_none (member name d more) = (tt, follow_none more)

-- ---- what is written is read

mutual
  of_outline : (d : Data) → IsPlain d → of_json (outline d) ≡ Some d
  of_outline null p = refl
  of_outline (boolean b) p = refl
  of_outline (number n) p = absurd p
  of_outline (string s) p = refl
  of_outline (array ds) p = ap (option_map array) (of_items_outline ds p)
  of_outline (object ms) p = ap (option_map object) (of_members_outline no_members ms (follow_none ms) p)

  of_items_outline : (ds : Items) → ArePlain ds → of_items (items_outline ds) ≡ Some ds
  of_items_outline no_items p = refl
  of_items_outline (item d ds) p =
      ap (option_and_then (λ (x : Data). option_map (item x) (of_items (items_outline ds)))) (of_outline d p.0) ∙ ap (option_map (item d)) (of_items_outline ds p.1)

  of_members_outline : (done more : Members) → Follow done more → MembersArePlain more → of_members (members_outline more) done ≡ Some (joined done more)
  of_members_outline done no_members f p = ap Some (sym (joined_none done))
  of_members_outline done (member name d more) f p =
      ap (option_and_then (λ (x : Data). of_members (members_outline more) (put name x done))) (of_outline d p.0)
      ∙ ap (of_members (members_outline more)) (put_last done name d f.0)
      ∙ of_members_outline (joined done (member name d no_members)) more (follow_more done name d more f.1 p.1) p.2
      ∙ ap Some (joined_on done name d more)

abbrev whole : Option (json.Json × List Token) → Option Data
whole found = option_and_then of_json (option_and_then (λ (p : json.Json × List Token). json.if_last p.0 p.1) found)

-- whatever text has the tokens of a plain value is read as that value
pub tokens_read : (d : Data) → IsPlain d → depth d ≤ max_depth → (text : List ℕ) → tokens text ≡ tree.json_tokens (outline d) → read text ≡ Some d
tokens_read d plain shallow text are =
    let ts : List Token = tree.json_tokens (outline d) in
    let deep = (outlined d plain).2 in
    ap whole (ap (json.value max_depth) (are ∙ sym (append-nil ts)) ∙ value-json_tokens (outline d) max_depth [] (omega (arith, shallow, deep))) ∙ of_outline d plain

pub read_back : (d : Data) → IsPlain d → depth d ≤ max_depth → read (compact_text d) ≡ Some d
read_back d plain shallow =
    let ts : List Token = tree.json_tokens (outline d) in
    tokens_read d plain shallow (compact_text d) (ap tokens (sym (print-outline d)) ∙ tokens-print ts (ArePrintable-json_tokens (outline d) (outlined d plain).1))
