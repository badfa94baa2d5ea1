-- Values without numbers, in whose objects each name stands once, in the order of their bytes.
use Rattle.std.specs.Prelude.{◌≡◌, ℕ, List, encode_utf8_all}
use Rattle.rx_terms.specs.Common.{Chars, nat_cmp, slice_cmp}
use Rattle.std.specs.declared.cmp.Ordering.TheVariants.{Less}
use Rattle.serde_json.specs.Data.{Data, null, boolean, number, string, array, object, Items, no_items, item, Members, no_members, member}

-- a name comes before each of these
abbrev pub PrecedesMembers : List ℕ → Members → Type 0
PrecedesMembers name no_members = Unit {0}
PrecedesMembers name (member other value more) = (slice_cmp nat_cmp name other ≡ Less) × PrecedesMembers name more

abbrev mutual
  pub IsPlain : Data → Type 0
  IsPlain null = Unit {0}
  IsPlain (boolean b) = Unit {0}
  IsPlain (number n) = ⊥
  IsPlain (string s) = Unit {0}
  IsPlain (array ds) = ArePlain ds
  IsPlain (object ms) = MembersArePlain ms

  pub ArePlain : Items → Type 0
  ArePlain no_items = Unit {0}
  ArePlain (item d ds) = IsPlain d × ArePlain ds

  pub MembersArePlain : Members → Type 0
  MembersArePlain no_members = Unit {0}
  MembersArePlain (member name d more) = IsPlain d × PrecedesMembers name more × MembersArePlain more

-- the string of these characters
abbrev pub string_of : Chars → Data
string_of text = string (encode_utf8_all text)
