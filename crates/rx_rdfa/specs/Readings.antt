-- What an attribute's value means: RDFa Core 1.1, 7.4.
use Rattle.std.specs.Prelude.{Bool, false, ◌&&◌, ◌||◌, ◌==◌, [], ◌∷◌, List, reverse, Option, Some, None, option_map, bytes_eq, codes, if◌then◌else◌}
use Rattle.rx_terms.specs.Common.{option_or, list_all, colon, solidus, left_bracket, right_bracket, Chars, trimmed, lowered, split_at, begins_with, has_scheme}
use Rattle.rx_chars.specs.NcName.{is_nc_start, is_nc}
use Rattle.rx_rdfa.specs.Tree.{ElementTag}
use Rattle.rx_rdfa.specs.Names.{Context, prefix, vocab, term}

-- an IRI, the two parts of one, an author's blank node, or a reference that is still to be resolved
pub data CurieReading : Type 0 where
  Full : Chars → CurieReading
  Joined : Chars → Chars → CurieReading
  Label : Chars → CurieReading
  Reference : Chars → CurieReading

-- 7.4.3, term
abbrev pub is_term : Chars → Bool
is_term [] = false
is_term (c ∷ text) = is_nc_start c && list_all (λ d. is_nc d || d == solidus) text

-- 7.4.2: the empty prefix
abbrev pub xhtml_vocabulary : Chars
xhtml_vocabulary = codes "http://www.w3.org/1999/xhtml/vocab#"

module _ (context : Context) (line : List ElementTag) where
  -- what a prefix and a reference read to
  abbrev pub read_parts : Chars → Chars → Option CurieReading
  read_parts [] reference = Some (Joined xhtml_vocabulary reference)
  read_parts (c ∷ text) reference =
      if bytes_eq (c ∷ text) (codes "_") then Some (Label reference)
      else option_map (λ iri. Joined iri reference) (prefix context line (lowered (c ∷ text)))

  abbrev pub read_split : Option (Chars × Chars) → Option CurieReading
  read_split None = None
  read_split (Some parts) = if begins_with (codes "//") parts.1 then None else read_parts parts.0 parts.1

  -- 7.4.2, CURIE: split at the first colon; the reference doesn't begin with `//`
  abbrev pub read_curie : Chars → Option CurieReading
  read_curie text = read_split (split_at colon text)

  abbrev pub full_if_scheme : Chars → Option CurieReading
  full_if_scheme text = if has_scheme text then Some (Full text) else None

  -- a CURIE or a text with a scheme
  abbrev pub read_no_term : Chars → Option CurieReading
  read_no_term text = option_or (read_curie text) (full_if_scheme text)

  -- 7.4.3: a term under the default vocabulary, or without one
  abbrev pub read_as_term : Option Chars → Chars → Option CurieReading
  read_as_term None text = option_map Full (term context text)
  read_as_term (Some vocabulary) text = Some (Joined vocabulary text)

  -- 7.4.4, TERMorCURIEorAbsIRI
  abbrev pub read_term : Chars → Option CurieReading
  read_term text = if is_term text then read_as_term (vocab line) text else read_no_term text

  abbrev pub curie_or_reference : Chars → Option CurieReading
  curie_or_reference text = option_or (read_curie text) (Some (Reference text))

  -- the whole text, which begins with `[`, and what follows that, reversed
  abbrev pub read_bracketed : Chars → Chars → Option CurieReading
  read_bracketed whole [] = Some (Reference whole)
  read_bracketed whole (c ∷ reversed) =
      if c == right_bracket then read_curie (reverse reversed) else curie_or_reference whole

  abbrev pub read_trimmed : Chars → Option CurieReading
  read_trimmed [] = Some (Reference [])
  read_trimmed (c ∷ text) = if c == left_bracket then read_bracketed (c ∷ text) (reverse text) else curie_or_reference (c ∷ text)

  -- 7.4.5, SafeCURIEorCURIEorIRI. Own rule: a SafeCURIE whose inside is no CURIE reads to nothing.
  abbrev pub read_resource : Chars → Option CurieReading
  read_resource text = read_trimmed (trimmed text)
