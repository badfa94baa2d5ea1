-- Which characters spell which token, in each content.
use Rattle.std.specs.Prelude.{◌≡◌, ◌≢◌, ℕ, Bool, true, false, not, ◌||◌, ◌&&◌, ◌==◌, [], ◌∷◌, ◌++◌, codes, Option, Some, None}
use Rattle.rx_terms.specs.Common.{list_all, ampersand, solidus, semicolon, less_than_sign, greater_than_sign, question_mark, left_bracket, is_letter, is_white_space, Chars, lowered, begins_with}
use Rattle.rx_chars.specs.declared.syntax.Syntax.{Syntax}
use Rattle.rx_chars.specs.declared.syntax.Syntax.TheVariants.{Html, Xhtml}
use Rattle.rx_grammar.specs.declared.contents.Content.{Content}
use Rattle.rx_grammar.specs.declared.contents.Content.TheVariants as content
use Rattle.rx_grammar.specs.Names.{same, name_of_raw}
use Rattle.rx_grammar.specs.References.{one_or_more, is_body, is_begun, stops_at, meaning}
use Rattle.rx_grammar.specs.Tokens.{Tag, Token, tag, character, reference, kept, section, comment, doctype}
use Rattle.rx_grammar.specs.Shapes.{ends_name}
use Rattle.rx_grammar.specs.Tags.{SpellsTag, cased}

abbrev pub exclamation_mark : ℕ
exclamation_mark = 33

-- the text ends with this
abbrev pub ends_with : Chars → Chars → Bool
ends_with end [] = same end []
ends_with end (c ∷ text) = same end (c ∷ text) || ends_with end text

-- The text meets a test, and nothing shorter that it begins with does.
pub record IsFirst (test : Chars → Bool) (text : Chars) : Type 0 where
  pub whole : test text ≡ true
  pub first : (front more : Chars) → text ≡ front ++ more → more ≢ [] → test front ≡ false

-- contents with tags, comments and document types
abbrev pub has_markup : Content → Bool
has_markup (content.Raw name) = false
has_markup (content.Rcdata name) = false
has_markup _ = true

abbrev pub has_references : Content → Bool
has_references content.Outside = false
has_references (content.Raw name) = false
has_references _ = true

-- contents in which a run after `&` may be text: those of HTML
abbrev pub keeps_runs : Content → Bool
keeps_runs content.Strict = false
keeps_runs other = has_references other

abbrev pub has_sections : Content → Bool
has_sections content.Foreign = true
has_sections content.Strict = true
has_sections _ = false

-- contents in which a `<` may be text
abbrev pub has_less_than : Content → Bool
has_less_than content.Html = true
has_less_than content.Foreign = true
has_less_than _ = false

-- a literal character that is a token of text
abbrev pub is_text : Content → ℕ → Bool
is_text content.Outside c = is_white_space c
is_text (content.Raw name) c = not (c == less_than_sign)
is_text _ c = not (c == less_than_sign || c == ampersand)

-- HTML, 13.2.5.6: after `<` these begin a tag, an end tag, a comment or a bogus comment
abbrev pub begins_markup : ℕ → Bool
begins_markup c = is_letter c || c == solidus || c == exclamation_mark || c == question_mark

-- Before the next character, which has to be there, the run stays text.
abbrev pub IsBefore : (ℕ → Bool) → Option ℕ → Type 0
IsBefore test None = ⊥
IsBefore test (Some c) = test c ≡ true

-- a raw element's content in which `</name` begins its end tag
abbrev pub raw_name : Content → Option Chars
raw_name (content.Raw name) = Some (name_of_raw name)
raw_name (content.Rcdata name) = Some (name_of_raw name)
raw_name _ = None

-- after `<` in raw content: a front of `/` and the name, in any case
abbrev pub begins_end : Chars → Chars → Bool
begins_end name text = begins_with (lowered text) (solidus ∷ name)

-- the end tag doesn't go on with this character
abbrev pub stops_end : Chars → Chars → ℕ → Bool
stops_end name text c = not (begins_end name (text ++ c ∷ [])) && not (same (lowered text) (solidus ∷ name) && ends_name c)

-- HTML, 13.2.5.43 to 13.2.5.52: a comment after its `<!--` ends at once by `>` or `->`, else by `-->` or `--!>`
abbrev pub ends_comment : Chars → Bool
ends_comment text = same text (codes ">") || same text (codes "->") || ends_with (codes "-->") text || ends_with (codes "--!>") text

-- `<!` and this text begin a comment, a document type or, where there are any, a CDATA section
abbrev pub begins_declaration : Content → Chars → Bool
begins_declaration inside text =
    begins_with (codes "--") text || begins_with (codes "doctype") (lowered text) || (has_sections inside && begins_with (codes "[CDATA[") text)

abbrev pub doctype_word : Syntax → Chars
doctype_word Html = codes "doctype"
doctype_word Xhtml = codes "DOCTYPE"

-- HTML, 13.1.1: the document type after `<!`. What stands after its name is passed over; an internal subset is refused (own).
pub record IsDoctype (syntax : Syntax) (text : Chars) : Type 0 where
  pub keyword : Chars
  pub spaces : Chars
  pub name : Chars
  pub rest : Chars
  pub are : text ≡ keyword ++ (spaces ++ (name ++ (rest ++ greater_than_sign ∷ [])))
  pub keyword_is : cased syntax keyword ≡ doctype_word syntax
  pub apart : one_or_more is_white_space spaces ≡ true
  pub name_is : cased syntax name ≡ codes "html"
  pub passed : list_all (λ c. not (c == greater_than_sign || c == left_bracket)) rest ≡ true
  pub after : (c : ℕ) (more : Chars) → rest ≡ c ∷ more → is_white_space c ≡ true

-- The characters spell this token in this content, where `next` stands after them, or nothing.
pub data Spells (syntax : Syntax) (inside : Content) : Chars → Option ℕ → Token → Type 0 where
  -- start tags and end tags
  a_tag : {next : Option ℕ} (text : Chars) (t : Tag) → has_markup inside ≡ true → SpellsTag syntax text t
      → Spells syntax inside (less_than_sign ∷ text) next (tag t)
  -- HTML, 13.1.2: raw text ends by its own end tag alone
  an_end_of_raw : {next : Option ℕ} (text name : Chars) (t : Tag) → raw_name inside ≡ Some name → SpellsTag syntax text t → t.closing ≡ true → t.name ≡ name
      → Spells syntax inside (less_than_sign ∷ text) next (tag t)
  -- text
  a_character : {next : Option ℕ} (c : ℕ) → is_text inside c ≡ true → Spells syntax inside (c ∷ []) next (character c)
  -- a `<` before a character that begins no markup (HTML)
  a_less_than : {next : Option ℕ} → syntax ≡ Html → has_less_than inside ≡ true → IsBefore (λ c. not (begins_markup c)) next
      → Spells syntax inside (less_than_sign ∷ []) next (kept (less_than_sign ∷ []))
  -- `<`, `</` or a longer front of the end tag, in raw text, that goes on to none
  a_raw_run : {next : Option ℕ} (text name : Chars) → raw_name inside ≡ Some name → begins_end name text ≡ true → IsBefore (stops_end name text) next
      → Spells syntax inside (less_than_sign ∷ text) next (kept (less_than_sign ∷ text))
  -- references
  a_reference : {next : Option ℕ} (body : Chars) (c : ℕ) → has_references inside ≡ true → is_body body ≡ true → meaning syntax body ≡ Some c
      → Spells syntax inside (ampersand ∷ (body ++ semicolon ∷ [])) next (reference c)
  a_kept_run : {next : Option ℕ} (run : Chars) → keeps_runs inside ≡ true → is_begun run ≡ true → IsBefore (stops_at run) next
      → Spells syntax inside (ampersand ∷ run) next (kept (ampersand ∷ run))
  -- comments of HTML; `<!` and `<?` that begin nothing else are bogus comments
  a_comment : {next : Option ℕ} (text : Chars) → syntax ≡ Html → has_markup inside ≡ true → IsFirst ends_comment text
      → Spells syntax inside (less_than_sign ∷ exclamation_mark ∷ (codes "--" ++ text)) next comment
  a_bogus_comment : {next : Option ℕ} (text : Chars) → syntax ≡ Html → has_markup inside ≡ true → begins_declaration inside text ≡ false
      → IsFirst (ends_with (codes ">")) text → Spells syntax inside (less_than_sign ∷ exclamation_mark ∷ text) next comment
  a_question : {next : Option ℕ} (text : Chars) → syntax ≡ Html → has_markup inside ≡ true → IsFirst (ends_with (codes ">")) text
      → Spells syntax inside (less_than_sign ∷ question_mark ∷ text) next comment
  -- XML 1.0, 2.5 and 2.6: comments, which have no `--` in them, and processing instructions
  a_strict_comment : {next : Option ℕ} (text : Chars) → syntax ≡ Xhtml → has_markup inside ≡ true → IsFirst (ends_with (codes "--")) text
      → Spells syntax inside (less_than_sign ∷ exclamation_mark ∷ (codes "--" ++ (text ++ greater_than_sign ∷ []))) next comment
  an_instruction : {next : Option ℕ} (text : Chars) → syntax ≡ Xhtml → has_markup inside ≡ true → IsFirst (ends_with (codes "?>")) text
      → Spells syntax inside (less_than_sign ∷ question_mark ∷ text) next comment
  -- XML 1.0, 2.7; HTML, 13.1.5: CDATA sections
  a_section : {next : Option ℕ} (text : Chars) → has_sections inside ≡ true
      → IsFirst (ends_with (codes "]]>")) (text ++ codes "]]>") → Spells syntax inside (less_than_sign ∷ exclamation_mark ∷ (codes "[CDATA[" ++ (text ++ codes "]]>"))) next (section text)
  -- the document type
  a_doctype : {next : Option ℕ} (text : Chars) → has_markup inside ≡ true → IsDoctype syntax text
      → Spells syntax inside (less_than_sign ∷ exclamation_mark ∷ text) next doctype
