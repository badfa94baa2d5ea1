-- What Microdata reads of an element: HTML, 5.2.
use Rattle.std.specs.Prelude.{ℕ, Bool, List, [], ◌∷◌, ◌++◌, Option, Some, None, option_map, unwrap_or, is_some, codes, if◌then◌else◌}
use Rattle.rx_rdfa.specs.Common.{String, Chars, tokens, resolved, same, is_among, value_of, StartTag, Tree, end, element, text}
use Rattle.rx_rdfa.specs.Tree.{element_text}

-- a value as it is written, or a reference from which it is resolved
pub data Value : Type 0 where
  Written : Chars → Value
  Reference : Chars → Value

-- where the value of an element that is no item stands: in the attribute of a name, there as a reference, there or else in the
-- element's own text, or in all of its text
pub data Source : Type 0 where
  AsWritten : Chars → Source
  AsReference : Chars → Source
  OrOwnText : Chars → Source
  AllText : Source

pub record MicrodataFacts : Type 0 where
  pub token : ℕ  -- the offset of the start tag's `<`
  pub at : ℕ  -- that of its `>`
  pub is_item : Bool
  pub types : List Chars
  pub item_id : Option Chars
  pub references : List Chars
  pub names : Option (List Chars)  -- none where there is no itemprop
  pub id : Option Chars
  pub value : Value  -- of an element that is no item

abbrev pub attribute_value : StartTag → String → Option Chars
attribute_value tag name = value_of tag.attributes (codes name)

abbrev pub value_or_empty : StartTag → String → Chars
value_or_empty tag name = unwrap_or (attribute_value tag name) []

-- the texts, without those that stood before
abbrev pub without_repeats_of : List Chars → List Chars → List Chars
without_repeats_of seen [] = []
without_repeats_of seen (token ∷ more) =
    if is_among seen token then without_repeats_of seen more else token ∷ without_repeats_of (token ∷ seen) more

-- the tokens of a text, each once
abbrev pub distinct_tokens : Chars → List Chars
distinct_tokens chars = without_repeats_of [] (tokens chars)

-- HTML, 5.2.2: an item is an element with itemscope
abbrev pub begins_item : StartTag → Bool
begins_item tag = is_some (attribute_value tag "itemscope")

-- DOM, 4.11: the child text content
abbrev pub own_text : Tree → Chars
own_text end = []
own_text (element tag inner more) = own_text more
own_text (text chars more) = chars ++ own_text more

-- HTML, 5.2.4: the names of elements whose value is in src, in href, and in value
abbrev pub embedding_names : List Chars
embedding_names =
    codes "audio" ∷ codes "embed" ∷ codes "iframe" ∷ codes "img" ∷ codes "source" ∷ codes "track" ∷ codes "video" ∷ []

abbrev pub linking_names : List Chars
linking_names = codes "a" ∷ codes "area" ∷ codes "link" ∷ []

abbrev pub valued_names : List Chars
valued_names = codes "data" ∷ codes "meter" ∷ []

-- an absent reference is the empty text, and one that is empty is resolved
abbrev pub referred : Option Chars → Value
referred None = Written []
referred (Some reference) = Reference reference

-- HTML, 5.2.4: where a value stands, by the element's name: the first line that applies
abbrev pub source_of : Chars → Source
source_of name =
    if same name (codes "meta") then AsWritten (codes "content")
    else if is_among embedding_names name then AsReference (codes "src")
    else if is_among linking_names name then AsReference (codes "href")
    else if same name (codes "object") then AsReference (codes "data")
    else if is_among valued_names name then AsWritten (codes "value")
    else if same name (codes "time") then OrOwnText (codes "datetime")
    else AllText

-- what stands there
abbrev pub value_from : Source → StartTag → Tree → Value
value_from (AsWritten name) tag inner = Written (unwrap_or (value_of tag.attributes name) [])
value_from (AsReference name) tag inner = referred (value_of tag.attributes name)
value_from (OrOwnText name) tag inner = Written (unwrap_or (value_of tag.attributes name) (own_text inner))
value_from AllText tag inner = Written (element_text inner)

-- the value of an element that is no item
abbrev pub value_of_element : StartTag → Tree → Value
value_of_element tag inner = value_from (source_of tag.name) tag inner

-- the characters of a value
abbrev pub said : Chars → Value → Chars
said base (Written chars) = chars
said base (Reference reference) = resolved base reference

-- HTML, 5.2.2, 5.2.3; own rule: an item's types lose repeats
abbrev pub facts_of : StartTag → Tree → MicrodataFacts
facts_of tag inner = record {
  token = tag.token;
  at = tag.at;
  is_item = begins_item tag;
  types = distinct_tokens (value_or_empty tag "itemtype");
  item_id = attribute_value tag "itemid";
  references = tokens (value_or_empty tag "itemref");
  names = option_map distinct_tokens (attribute_value tag "itemprop");
  id = attribute_value tag "id";
  value = value_of_element tag inner;
}
