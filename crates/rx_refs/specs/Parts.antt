-- A URI reference and its five components: RFC 3986, section 3, Appendix B and section 5.3.
use Rattle.std.specs.Prelude.{ℕ, ◌==◌, [], ◌∷◌, ◌++◌, drop, codes, Option, Some, None, if◌then◌else◌}
use Rattle.rx_terms.specs.Common.{colon, solidus, question_mark, number_sign, Chars, begins_with, has_scheme}

pub record Components : Type 0 where
  pub scheme : Option Chars
  pub authority : Option Chars
  pub path : Chars
  pub query : Option Chars
  pub fragment : Option Chars

-- what stands before the first `mark`, or all where there is none
abbrev pub before : ℕ → Chars → Chars
before mark [] = []
before mark (c ∷ text) = if c == mark then [] else c ∷ before mark text

-- what stands from the first `mark` on, or nothing where there is none
abbrev pub from_first : ℕ → Chars → Chars
from_first mark [] = []
from_first mark (c ∷ text) = if c == mark then c ∷ text else from_first mark text

-- what stands behind the first `mark`, where there is one
abbrev pub behind : ℕ → Chars → Option Chars
behind mark [] = None
behind mark (c ∷ text) = if c == mark then Some text else behind mark text

-- 3.1. Own rule: a text before the first `:` that hasn't the form of a scheme belongs to the path.
abbrev pub scheme_of : Chars → Option Chars
scheme_of text = if has_scheme text then Some (before colon text) else None

-- what stands behind the scheme and its `:`
abbrev pub behind_scheme : Chars → Chars
behind_scheme text = if has_scheme text then drop 1 (from_first colon text) else text

-- 3 and 4.2: hier-part or relative-part, which ends where the query or the fragment begins
abbrev pub hierarchical_part : Chars → Chars
hierarchical_part text = before question_mark (before number_sign text)

-- 3.2
abbrev pub authority_of : Chars → Option Chars
authority_of part = if begins_with (codes "//") part then Some (before solidus (drop 2 part)) else None

-- 3.3
abbrev pub path_of : Chars → Chars
path_of part = if begins_with (codes "//") part then from_first solidus (drop 2 part) else part

-- 3.4
abbrev pub query_of : Chars → Option Chars
query_of text = behind question_mark (before number_sign text)

-- 3.5
abbrev pub fragment_of : Chars → Option Chars
fragment_of text = behind number_sign text

unfoldable pub components_of : Chars → Components
components_of text =
    let rest = behind_scheme text in
    record {
      scheme = scheme_of text;
      authority = authority_of (hierarchical_part rest);
      path = path_of (hierarchical_part rest);
      query = query_of rest;
      fragment = fragment_of rest;
    }

-- a component with its delimiter, where there is one
abbrev pub delimited : (Chars → Chars) → Option Chars → Chars
delimited form None = []
delimited form (Some component) = form component

-- a component behind its delimiter
abbrev pub behind_delimiter : Chars → Option Chars → Chars
behind_delimiter delimiter component = delimited (λ c. delimiter ++ c) component

-- 5.3
abbrev pub recomposed : Components → Chars
recomposed parts =
    delimited (λ scheme. scheme ++ codes ":") parts.scheme
    ++ delimited (λ authority. codes "//" ++ authority) parts.authority
    ++ parts.path
    ++ delimited (λ query. codes "?" ++ query) parts.query
    ++ delimited (λ fragment. codes "#" ++ fragment) parts.fragment
