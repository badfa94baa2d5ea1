-- How the characters of a tag are cut into its name, its attributes and its end (HTML, 13.1.2.1 to 13.1.2.3 and 13.2.5.6 to 13.2.5.40;
-- XML 1.0, 3.1). A value is still as it is written.
use Rattle.std.specs.Prelude.{◌≡◌, ℕ, Bool, true, false, not, ◌||◌, ◌&&◌, ◌==◌, List, [], ◌∷◌, ◌++◌}
use Rattle.rx_terms.specs.Common.{list_all, quotation_mark, apostrophe, solidus, colon, less_than_sign, equals_sign, greater_than_sign, is_letter, is_white_space, Chars}
use Rattle.rx_chars.specs.declared.syntax.Syntax.{Syntax}
use Rattle.rx_chars.specs.declared.syntax.Syntax.TheVariants.{Html, Xhtml}
use Rattle.rx_chars.specs.NcName.{is_nc_start, is_nc}
use Rattle.rx_grammar.specs.References.{one_or_more}
use Rattle.rx_grammar.specs.Tokens.{Attribute, Tag}

abbrev pub is_quote : ℕ → Bool
is_quote c = c == quotation_mark || c == apostrophe

-- the first character is there and meets the test
abbrev pub begins : (ℕ → Bool) → Chars → Bool
begins test [] = false
begins test (c ∷ text) = test c

abbrev pub first_then : (ℕ → Bool) → (ℕ → Bool) → Chars → Bool
first_then first then [] = false
first_then first then (c ∷ text) = first c && list_all then text

-- what ends a tag's name
abbrev pub ends_name : ℕ → Bool
ends_name c = is_white_space c || c == solidus || c == greater_than_sign

-- XML names with at most these characters: NCNames with colons
abbrev pub is_strict_start : ℕ → Bool
is_strict_start c = is_nc_start c || c == colon

abbrev pub is_strict_char : ℕ → Bool
is_strict_char c = is_nc c || c == colon

-- the first character of a tag's name
abbrev pub begins_tag : Syntax → ℕ → Bool
begins_tag Html c = is_letter c
begins_tag Xhtml c = is_strict_start c

-- a further character of a start tag's name, and of an end tag's
abbrev pub is_tag_char : Syntax → ℕ → Bool
is_tag_char Html c = not (ends_name c)
is_tag_char Xhtml c = is_strict_char c

abbrev pub is_tag_name : Syntax → Chars → Bool
is_tag_name syntax name = first_then (begins_tag syntax) (is_tag_char syntax) name

-- HTML refuses quotes and `<` in the names of attributes, and `=` before one (own)
abbrev pub is_attribute_char : ℕ → Bool
is_attribute_char c = not (ends_name c || c == equals_sign || is_quote c || c == less_than_sign)

-- the first character of an attribute's name, and a further one
abbrev pub begins_attribute : Syntax → ℕ → Bool
begins_attribute Html c = is_attribute_char c
begins_attribute Xhtml c = is_strict_start c

abbrev pub continues_attribute : Syntax → ℕ → Bool
continues_attribute Html c = is_attribute_char c
continues_attribute Xhtml c = is_strict_char c

abbrev pub is_attribute_name : Syntax → Chars → Bool
is_attribute_name syntax name = first_then (begins_attribute syntax) (continues_attribute syntax) name

-- What may stand before an attribute: in HTML white space and `/`, in XHTML white space that has to be there.
abbrev pub is_gap : Syntax → Chars → Bool
is_gap Html gap = list_all (λ c. is_white_space c || c == solidus) gap
is_gap Xhtml gap = one_or_more is_white_space gap

-- white space, and one `/` at its end or none
abbrev pub is_strict_end : Chars → Bool
is_strict_end [] = true
is_strict_end (c ∷ []) = is_white_space c || c == solidus
is_strict_end (c ∷ d ∷ gap) = is_white_space c && is_strict_end (d ∷ gap)

-- what may stand before the `>` of a start tag
abbrev pub is_last_gap : Syntax → Chars → Bool
is_last_gap Html gap = is_gap Html gap
is_last_gap Xhtml gap = is_strict_end gap

-- The tag is self-closing where a `/` stands directly before its `>`.
abbrev pub ends_in_solidus : Chars → Bool
ends_in_solidus [] = false
ends_in_solidus (c ∷ []) = c == solidus
ends_in_solidus (c ∷ d ∷ gap) = ends_in_solidus (d ∷ gap)

abbrev pub is_unquoted_char : ℕ → Bool
is_unquoted_char c = not (is_white_space c || c == greater_than_sign)

abbrev pub is_unquoted : Chars → Bool
is_unquoted value = first_then (λ c. is_unquoted_char c && not (is_quote c)) is_unquoted_char value

abbrev pub ends_unquoted : ℕ → Bool
ends_unquoted c = is_white_space c || c == greater_than_sign

-- What follows an attribute's name: nothing, or `=` and its value. The last index tells what may come after it.
pub data Assigns (syntax : Syntax) : Chars → Chars → (ℕ → Bool) → Type 0 where
  no_value : syntax ≡ Html → Assigns syntax [] [] ends_name
  unquoted : (before after value : Chars) → syntax ≡ Html → list_all is_white_space before ≡ true → list_all is_white_space after ≡ true
      → is_unquoted value ≡ true
      → Assigns syntax (before ++ equals_sign ∷ (after ++ value)) value ends_unquoted
  quoted : (before after value : Chars) (mark : ℕ) → is_quote mark ≡ true → list_all is_white_space before ≡ true → list_all is_white_space after ≡ true
      → list_all (λ c. not (c == mark)) value ≡ true
      → Assigns syntax (before ++ equals_sign ∷ (after ++ mark ∷ (value ++ mark ∷ []))) value (λ c. true)

-- What follows the name of a start tag, through its `>`: attributes, and whether the tag is self-closing.
pub data Attributes (syntax : Syntax) : Chars → List Attribute → Bool → Type 0 where
  no_more : (gap : Chars) → is_last_gap syntax gap ≡ true → Attributes syntax (gap ++ greater_than_sign ∷ []) [] (ends_in_solidus gap)
  one : (gap name assigned value : Chars) (follows : ℕ → Bool) (rest : Chars) {more : List Attribute} {slash : Bool}
      → is_gap syntax gap ≡ true → is_attribute_name syntax name ≡ true → Assigns syntax assigned value follows → begins follows rest ≡ true
      → Attributes syntax rest more slash
      → Attributes syntax (gap ++ (name ++ (assigned ++ rest))) ((name, value) ∷ more) slash

-- The characters of a tag after its `<`, through its `>`.
pub data Shape (syntax : Syntax) : Chars → Tag → Type 0 where
  a_start : (name rest : Chars) {attributes : List Attribute} {slash : Bool} → is_tag_name syntax name ≡ true → begins ends_name rest ≡ true
      → Attributes syntax rest attributes slash
      → Shape syntax (name ++ rest) (record { closing = false; name = name; attributes = attributes; slash = slash })
  an_end : (name spaces : Chars) → is_tag_name syntax name ≡ true → list_all is_white_space spaces ≡ true
      → Shape syntax (solidus ∷ (name ++ (spaces ++ greater_than_sign ∷ []))) (record { closing = true; name = name; attributes = []; slash = false })
