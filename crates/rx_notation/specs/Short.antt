-- Short forms of IRIs: RDF 1.1 Turtle, 2.4. Which names they have, and which form is taken, is our own choice.
use Rattle.std.specs.Prelude.{ℕ, ◌==◌, nat_lt, Bool, true, false, ◌&&◌, ◌||◌, List, [], ◌∷◌, ◌++◌, length, drop, filter, codes, Option, Some, None, encode_utf8_all, if◌then◌else◌}
use Rattle.rx_terms.specs.Common.{list_all, is_lt, nat_cmp, slice_cmp, is_letter, is_letter_or_digit, hyphen, low_line, Chars, begins_with}

-- a prefix: its name, and the IRI that it stands for
abbrev pub Prefix : Type 0
Prefix = Chars × Chars

abbrev pub Prefixes : Type 0
Prefixes = List Prefix

abbrev pub is_name_char : ℕ → Bool
is_name_char c = (is_letter_or_digit c || c == low_line) || c == hyphen

-- what of PNAME_NS is used (own): a letter, then letters, digits, `_` and `-`
abbrev pub is_prefix_name : Chars → Bool
is_prefix_name [] = false
is_prefix_name (c ∷ name) = is_letter c && list_all is_name_char name

-- what of PN_LOCAL is used (own): a letter or `_`, then letters, digits, `_` and `-`
abbrev pub is_local_name : Chars → Bool
is_local_name [] = false
is_local_name (c ∷ name) = (is_letter c || c == low_line) && list_all is_name_char name

-- what follows the prefix's IRI in this one
abbrev pub local_name : Prefix → Chars → Chars
local_name prefix iri = drop (length prefix.1) iri

-- the prefix makes a short form of the IRI
abbrev pub shortens : Chars → Prefix → Bool
shortens iri prefix = is_prefix_name prefix.0 && (begins_with prefix.1 iri && is_local_name (local_name prefix iri))

-- the order of the texts' UTF-8 forms
abbrev pub is_byte_less : Chars → Chars → Bool
is_byte_less a b = is_lt (slice_cmp nat_cmp (encode_utf8_all a) (encode_utf8_all b))

-- the longer IRI is taken, and of equally long ones the name that is less in byte order
abbrev pub is_preferred : Prefix → Prefix → Bool
is_preferred a b = nat_lt (length b.1) (length a.1) || (length a.1 == length b.1 && is_byte_less a.0 b.0)

abbrev pub preferred : Prefix → Option Prefix → Prefix
preferred prefix None = prefix
preferred prefix (Some other) = if is_preferred other prefix then other else prefix

-- the prefix that is taken before all others
abbrev pub best : Prefixes → Option Prefix
best [] = None
best (prefix ∷ more) = Some (preferred prefix (best more))

-- the prefix of the IRI's short form, where it has one
abbrev pub prefix_of : Prefixes → Chars → Option Prefix
prefix_of context iri = best (filter (shortens iri) context)

-- PNAME_LN: the prefix's name, `:` and what follows the prefix's IRI
abbrev pub short_text : Prefix → Chars → Chars
short_text prefix iri = prefix.0 ++ (codes ":" ++ local_name prefix iri)

-- the names rise in byte order
abbrev pub names_rise : Prefixes → Bool
names_rise [] = true
names_rise (prefix ∷ more) = list_all (λ (later : Prefix). is_byte_less prefix.0 later.0) more && names_rise more
