-- Resolution of references: RFC 3986, sections 5.2.2 to 5.3, and the rules that are our own.
use Rattle.std.specs.Prelude.{ℕ, ◌/◌, ◌%◌, ◌&&◌, [], ◌∷◌, ◌++◌, codes, slice_index, is_some, if◌then◌else◌}
use Rattle.rx_terms.specs.Common.{flat_map, option_or, solidus, number_sign, percent_sign, Chars, begins_with, is_empty, trimmed, is_forbidden}
use Rattle.rx_refs.specs.Parts.{Components, components_of, recomposed, before}
use Rattle.rx_refs.specs.Dots.{holds, without_dots}

-- the text up to its last `/`, that one included, or nothing where there is none
abbrev pub through_last_slash : Chars → Chars
through_last_slash [] = []
through_last_slash (c ∷ text) = if holds solidus (c ∷ text) then c ∷ through_last_slash text else []

-- a path behind the base's up to its last `/`, without dot segments
abbrev pub behind_base : Chars → Chars → Chars
behind_base base path = without_dots (through_last_slash base ++ path)

-- 5.2.3
abbrev pub merged : Components → Chars → Chars
merged base path = if is_some base.authority && is_empty base.path then solidus ∷ path else through_last_slash base.path ++ path

-- 5.2.2, of a reference without scheme and authority whose path isn't empty
abbrev pub relative_path : Components → Chars → Chars
relative_path base path = if begins_with (codes "/") path then without_dots path else without_dots (merged base path)

-- 5.2.2, strict: a reference with the base's scheme keeps its own scheme
unfoldable pub target : Components → Components → Components
target base reference =
    if is_some reference.scheme then
    record {
      scheme = reference.scheme;
      authority = reference.authority;
      path = without_dots reference.path;
      query = reference.query;
      fragment = reference.fragment;
    }
    else if is_some reference.authority then
    record {
      scheme = base.scheme;
      authority = reference.authority;
      path = without_dots reference.path;
      query = reference.query;
      fragment = reference.fragment;
    }
    else if is_empty reference.path then
    record {
      scheme = base.scheme;
      authority = base.authority;
      path = base.path;
      query = option_or reference.query base.query;
      fragment = reference.fragment;
    }
    else
    record {
      scheme = base.scheme;
      authority = base.authority;
      path = relative_path base reference.path;
      query = reference.query;
      fragment = reference.fragment;
    }

-- 2.1: `%` and the two digits of a byte, in upper case
abbrev pub digit : ℕ → ℕ
digit n = slice_index (codes "0123456789ABCDEF") n

abbrev pub escaped : ℕ → Chars
escaped c = percent_sign ∷ digit (c / 16) ∷ digit (c % 16) ∷ []

abbrev pub cleaned_char : ℕ → Chars
cleaned_char c = if is_forbidden c then escaped c else c ∷ []

-- Own rule: a character that no IRI may have becomes its escape. Each is ASCII, and so one byte.
abbrev pub cleaned : Chars → Chars
cleaned text = flat_map cleaned_char text

-- Own rules: the reference is trimmed first, and what comes out is cleaned last.
unfoldable pub resolved : Chars → Chars → Chars
resolved base reference = cleaned (recomposed (target (components_of base) (components_of (trimmed reference))))

-- the text before the first `#`
abbrev pub without_fragment : Chars → Chars
without_fragment text = before number_sign text
