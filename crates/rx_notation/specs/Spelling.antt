-- How a document is spelled: the terminals of RDF 1.1 Turtle, 6.5, with the limits that N-Quads has here on IRIs, labels
-- and strings (own choice), and what stands between tokens.
use Rattle.std.specs.Prelude.{◌≡◌, ℕ, Bool, true, not, ◌&&◌, ◌||◌, ◌==◌, List, [], ◌∷◌, ◌++◌, map, codes, bytes_eq}
use Rattle.rx_model.specs.Common.{list_all, line_feed, space, quotation_mark, colon, commercial_at, circumflex_accent, Chars, is_empty, is_lang, contains}
use Rattle.rx_nquads.specs.Spelling.{SpellsIri, SpellsLabel, SpellsString}
use Rattle.rx_notation.specs.Short.{Prefix, is_prefix_name, is_local_name}
use Rattle.rx_notation.specs.Syntax.{Reference, Full, Short, Subject, Named, Labelled, Suffix, Bare, Language, Datatype, TurtleDocument}
use Rattle.rx_notation.specs.Grammar.{Terminal, At_prefix, Small_a, Full_stop, Semicolon_sign, Comma_sign, Left_bracket, Right_bracket, Brackets, Left_parenthesis, Right_parenthesis, Parentheses, TurtleToken, terminal, declared, iri_or_label, quoted, document_tokens}

-- ---- tokens

abbrev pub terminal_text : Terminal → Chars
terminal_text At_prefix = codes "@prefix"
terminal_text Small_a = codes "a"
terminal_text Full_stop = codes "."
terminal_text Semicolon_sign = codes ";"
terminal_text Comma_sign = codes ","
terminal_text Left_bracket = codes "["
terminal_text Right_bracket = codes "]"
terminal_text Brackets = codes "[]"
terminal_text Left_parenthesis = codes "("
terminal_text Right_parenthesis = codes ")"
terminal_text Parentheses = codes "()"

-- PNAME_NS
pub record SpellsPrefix (spelling name : Chars) : Type 0 where
  pub is_name : is_prefix_name name ≡ true
  pub spelled : spelling ≡ name ++ colon ∷ []

-- PNAME_LN
pub record SpellsShort (spelling name local : Chars) : Type 0 where
  pub is_name : is_prefix_name name ≡ true
  pub is_local : is_local_name local ≡ true
  pub spelled : spelling ≡ name ++ colon ∷ local

abbrev pub SpellsReference : Chars → Reference → Type 0
SpellsReference spelling (Full iri) = SpellsIri spelling iri
SpellsReference spelling (Short name local) = SpellsShort spelling name local

abbrev pub SpellsSubject : Chars → Subject → Type 0
SpellsSubject spelling (Named reference) = SpellsReference spelling reference
SpellsSubject spelling (Labelled number) = SpellsLabel spelling number

-- LANGTAG, or `^^` and a datatype
abbrev pub SpellsSuffix : Chars → Suffix → Type 0
SpellsSuffix spelling Bare = spelling ≡ []
SpellsSuffix spelling (Language tag) = (is_lang tag ≡ true) × (spelling ≡ commercial_at ∷ tag)
SpellsSuffix spelling (Datatype reference) = (name : Chars) × SpellsReference name reference × (spelling ≡ circumflex_accent ∷ circumflex_accent ∷ name)

-- STRING_LITERAL_QUOTE with what follows it
pub record SpellsQuoted (spelling text : Chars) (suffix : Suffix) : Type 0 where
  pub inside : Chars
  pub behind : Chars
  pub string : SpellsString inside text
  pub suffix_spelled : SpellsSuffix behind suffix
  pub spelled : spelling ≡ quotation_mark ∷ (inside ++ quotation_mark ∷ behind)

abbrev pub SpellsToken : Chars → TurtleToken → Type 0
SpellsToken spelling (terminal s) = spelling ≡ terminal_text s
SpellsToken spelling (declared name) = SpellsPrefix spelling name
SpellsToken spelling (iri_or_label subject) = SpellsSubject spelling subject
SpellsToken spelling (quoted text suffix) = SpellsQuoted spelling text suffix

-- ---- texts

abbrev pub is_separator : ℕ → Bool
is_separator c = c == space || c == line_feed

-- one or more spaces and line feeds (own)
abbrev pub is_spacing : Chars → Bool
is_spacing gap = not (is_empty gap) && list_all is_separator gap

-- what stands behind a token: a line feed behind the last one, else a gap and the next one (own)
abbrev pub SpellsBehind : Chars → List TurtleToken → Type 0
SpellsBehind text [] = text ≡ line_feed ∷ []
SpellsBehind text (token ∷ more) =
    (gap spelling rest : Chars) × (is_spacing gap ≡ true) × SpellsToken spelling token × SpellsBehind rest more × (text ≡ gap ++ (spelling ++ rest))

-- the text begins with the first token; where there is none it is empty
abbrev pub SpellsTokens : Chars → List TurtleToken → Type 0
SpellsTokens text [] = text ≡ []
SpellsTokens text (token ∷ more) = (spelling rest : Chars) × SpellsToken spelling token × SpellsBehind rest more × (text ≡ spelling ++ rest)

abbrev pub names_differ : List Chars → Bool
names_differ [] = true
names_differ (name ∷ more) = not (contains bytes_eq more name) && names_differ more

-- the text is that of the document, which declares each name once (own)
pub record SpellsTurtle (text : Chars) (document : TurtleDocument) : Type 0 where
  pub spelled : SpellsTokens text (document_tokens document)
  pub once : names_differ (map (λ (prefix : Prefix). prefix.0) document.prefixes) ≡ true

-- law: a text spells at most one document
abbrev pub TurtleSpellsOne : Type 0
TurtleSpellsOne = (text : Chars) (a b : TurtleDocument) → SpellsTurtle text a → SpellsTurtle text b → a ≡ b
