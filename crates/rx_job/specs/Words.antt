-- What a list of words asks for.
use Rattle.std.specs.Prelude.{ℕ, Bool, true, false, ◌&&◌, ◌||◌, ◌==◌, not, List, [], ◌∷◌, length, codes, nat_eq, nat_le, if◌then◌else◌, Option, Some, None, option_map, option_and_then}
use Rattle.rx_terms.specs.Common.{pointwise, is_ascii_digit, list_all, hyphen, Chars, is_iri}
use Rattle.std.specs.Str.Parse.{digits_value}
use Rattle.rx_chars.specs.declared.syntax.Syntax.{Syntax}
use Rattle.rx_chars.specs.declared.syntax.Syntax.TheVariants.{Html, Xhtml}
use Rattle.rx_job.specs.declared.formats.Format.{Format}
use Rattle.rx_job.specs.declared.formats.Format.TheVariants.{Nquads, Turtle, Nested, Jsonld}
use Rattle.rx_terms.specs.Ascii.{digit_zero}

-- an extraction: the syntax of the page, the format in which its triples are written, the name of the graph in which they
-- stand, if any, and the page's address
pub record Extraction : Type 0 where
  pub syntax : Syntax
  pub format : Format
  pub graph : Option Chars
  pub address : Chars

-- a search for items: the syntax of the page, and its address
pub record Itemization : Type 0 where
  pub syntax : Syntax
  pub address : Chars

-- what is done with the page: its triples are written, or its items; or its faults are looked for
pub data Task : Type 0 where
  extracts : Extraction → Task
  itemizes : Itemization → Task
  checks : Syntax → Task

-- the task, the name of its context file and that of its page
pub record Asked : Type 0 where
  pub task : Task
  pub context : Option Chars
  pub page : Chars

-- a page of several: its address, and its name
pub record Listed : Type 0 where
  pub address : Chars
  pub page : Chars

-- several pages whose graphs are gathered in one dataset: their syntax, the name of their context file, and each page with
-- its address
pub record Gathering : Type 0 where
  pub syntax : Syntax
  pub context : Option Chars
  pub pages : List Listed

-- what is asked for: that a page be read, or several, or a sample page of so many items
pub data Job : Type 0 where
  reads : Asked → Job
  gathers : Gathering → Job
  samples : ℕ → Job

abbrev pub is_word : Chars → Chars → Bool
is_word word text = pointwise nat_eq word text

-- a name that isn't empty and doesn't begin with `-`
abbrev pub is_page_name : Chars → Bool
is_page_name [] = false
is_page_name (c ∷ name) = not (c == hyphen)

-- a name that isn't empty
abbrev pub is_file_name : Chars → Bool
is_file_name [] = false
is_file_name (c ∷ name) = true

-- the values that an option has been given
abbrev pub option_values : Chars → List (Chars × Chars) → List Chars
option_values name [] = []
option_values name (option ∷ options) = if is_word option.0 name then option.1 ∷ option_values name options else option_values name options

abbrev pub syntax_word : Chars
syntax_word = codes "--syntax"

abbrev pub format_word : Chars
format_word = codes "--format"

abbrev pub graph_word : Chars
graph_word = codes "--graph"

abbrev pub context_word : Chars
context_word = codes "--context"

abbrev pub base_word : Chars
base_word = codes "--base"

abbrev pub is_option : Chars → Bool
is_option name = is_word name syntax_word || is_word name format_word || is_word name graph_word || is_word name context_word || is_word name base_word

-- the options at the front of the words, each with the word after it, which is its value
abbrev pub leading : List Chars → List (Chars × Chars)
leading [] = []
leading (word ∷ []) = []
leading (name ∷ value ∷ words) = if is_option name then (name, value) ∷ leading words else []

-- the words behind these
abbrev pub words_behind : List Chars → List Chars
words_behind [] = []
words_behind (word ∷ []) = word ∷ []
words_behind (name ∷ value ∷ words) = if is_option name then words_behind words else name ∷ value ∷ words

-- the options, each given once or not at all
pub record Given : Type 0 where
  pub syntax : Option Chars
  pub format : Option Chars
  pub graph : Option Chars
  pub context : Option Chars
  pub base : Option Chars

-- the value of an option, where it is given; no answer where it is given twice
abbrev pub at_most_one : List Chars → Option (Option Chars)
at_most_one [] = Some None
at_most_one (value ∷ []) = Some (Some value)
at_most_one (value ∷ second ∷ option_values) = None

-- what is found of an option: its value, where it is given; no answer where it is given twice
abbrev pub Found : Type 0
Found = Option (Option Chars)

-- all of these, where each has an answer
abbrev pub all_given : Found → Found → Found → Found → Found → Option Given
all_given (Some syntax) (Some format) (Some graph) (Some context) (Some base) =
    Some (record { syntax = syntax; format = format; graph = graph; context = context; base = base })
all_given syntax format graph context base = None

-- what the options give; no answer where one is given twice
abbrev pub options_given : List (Chars × Chars) → Option Given
options_given options =
    let found : Chars → Found = λ word. at_most_one (option_values word options) in
    all_given (found syntax_word) (found format_word) (found graph_word) (found context_word) (found base_word)

-- options, and one word more
pub record Arguments : Type 0 where
  pub options : Given
  pub last : Chars

abbrev pub arguments_with : List Chars → Given → Option Arguments
arguments_with (last ∷ []) options = Some (record { options = options; last = last })
arguments_with words options = None

-- what the words behind a task give that is done with one page: options, and the page behind them
abbrev pub arguments_given : List Chars → Option Arguments
arguments_given words = option_and_then (arguments_with (words_behind words)) (options_given (leading words))

-- the context file has a name, where there is one
abbrev pub is_file_if_any : Option Chars → Bool
is_file_if_any None = true
is_file_if_any (Some file) = is_file_name file

-- the page has a name too
abbrev pub are_names : Option Chars → Chars → Bool
are_names file page = is_file_if_any file && is_page_name page

-- the syntax of this name, which is HTML where none is given
abbrev pub syntax_of : Option Chars → Option Syntax
syntax_of None = Some Html
syntax_of (Some name) = if is_word name (codes "html") then Some Html else (if is_word name (codes "xhtml") then Some Xhtml else None)

-- the format of this name, which is N-Quads where none is given
abbrev pub format_of : Option Chars → Option Format
format_of None = Some Nquads
format_of (Some name) =
    if is_word name (codes "nquads") then Some Nquads
    else (if is_word name (codes "turtle") then Some Turtle
    else (if is_word name (codes "nested") then Some Nested
    else (if is_word name (codes "jsonld") then Some Jsonld else None)))

-- a text in the format can name the graph in which its triples stand
abbrev pub names_graphs : Format → Bool
names_graphs Nquads = true
names_graphs Turtle = false
names_graphs Nested = false
names_graphs Jsonld = false

-- the graph has a name, which is an IRI and which the format can say, or it has none
abbrev pub is_graph : Format → Option Chars → Bool
is_graph format None = true
is_graph format (Some name) = names_graphs format && is_iri name

-- `[--syntax html|xhtml] [--format nquads|turtle|nested|jsonld] [--graph IRI] [--context FILE] --base IRI PAGE`
abbrev pub extraction_with : Option Syntax → Option Format → Option Chars → Arguments → Option Asked
extraction_with (Some syntax) (Some format) (Some address) words =
    if is_graph format words.options.graph && (is_iri address && are_names words.options.context words.last)
    then Some (record {
      task = extracts (record { syntax = syntax; format = format; graph = words.options.graph; address = address });
      context = words.options.context;
      page = words.last;
    })
    else None
extraction_with syntax format base words = None

abbrev pub extraction : Arguments → Option Asked
extraction words = extraction_with (syntax_of words.options.syntax) (format_of words.options.format) words.options.base words

-- `[--syntax html|xhtml] --base IRI PAGE`
abbrev pub itemization_with : Option Syntax → Option Chars → Option Chars → Option Chars → Option Chars → Arguments → Option Asked
itemization_with (Some syntax) None None None (Some address) words =
    if is_iri address && is_page_name words.last
    then Some (record { task = itemizes (record { syntax = syntax; address = address }); context = None; page = words.last })
    else None
itemization_with syntax format graph context base words = None

abbrev pub itemization : Arguments → Option Asked
itemization words = itemization_with (syntax_of words.options.syntax) words.options.format words.options.graph words.options.context words.options.base words

-- `[--syntax html|xhtml] [--context FILE] PAGE`
abbrev pub checking_with : Option Syntax → Option Chars → Option Chars → Option Chars → Arguments → Option Asked
checking_with (Some syntax) None None None words =
    if are_names words.options.context words.last then Some (record { task = checks syntax; context = words.options.context; page = words.last }) else None
checking_with syntax format graph base words = None

abbrev pub checking : Arguments → Option Asked
checking words = checking_with (syntax_of words.options.syntax) words.options.format words.options.graph words.options.base words

-- the words in pairs, each a page's address and its name; no answer where a word is left
abbrev pub paired : List Chars → Option (List Listed)
paired [] = Some []
paired (word ∷ []) = None
paired (address ∷ page ∷ words) = option_map (λ pages. record { address = address; page = page } ∷ pages) (paired words)

-- a page whose address is an IRI, and which has a name
abbrev pub may_be_listed : Listed → Bool
may_be_listed page = is_iri page.address && is_page_name page.page

abbrev pub if_listed : List Listed → Option (List Listed)
if_listed pages = if list_all may_be_listed pages then Some pages else None

-- the pages of the words, where each is one
abbrev pub pages_listed : List Chars → Option (List Listed)
pages_listed words = option_and_then if_listed (paired words)

abbrev pub most_pages : ℕ
most_pages = 1000

-- from one page to 1,000
abbrev pub are_few : List Listed → Bool
are_few pages = nat_le 1 (length pages) && nat_le (length pages) most_pages

-- `[--syntax html|xhtml] [--context FILE] IRI PAGE [IRI PAGE ..]`
abbrev pub gathering_with : Option Syntax → Option Chars → Option Chars → Option Chars → Option Chars → Option (List Listed) → Option Gathering
gathering_with (Some syntax) None None None context (Some pages) =
    if is_file_if_any context && are_few pages then Some (record { syntax = syntax; context = context; pages = pages }) else None
gathering_with syntax format graph base context pages = None

abbrev pub gathering : List Chars → Given → Option Gathering
gathering words options = gathering_with (syntax_of options.syntax) options.format options.graph options.base options.context (pages_listed words)

-- What the words behind `many` ask for: options, and the pages behind them. An option behind a page would be the address of
-- one, which is no IRI.
abbrev pub several : List Chars → Option Gathering
several words = option_and_then (gathering (words_behind words)) (options_given (leading words))

-- digits, of which the first isn't 0
abbrev pub is_positive_number : Chars → Bool
is_positive_number [] = false
is_positive_number (c ∷ word) = not (c == digit_zero) && list_all is_ascii_digit (c ∷ word)

abbrev pub most_items : ℕ
most_items = 100000

-- the number of items, from 1 to 100,000, that a word is in decimal digits without a leading zero
abbrev pub count_of : Chars → Option ℕ
count_of word = if is_positive_number word && nat_le (digits_value 10 word) most_items then Some (digits_value 10 word) else None

-- `N`
abbrev pub sampling : List Chars → Option Job
sampling [] = None
sampling (word ∷ []) = option_map samples (count_of word)
sampling (word ∷ second ∷ words) = None

-- `sample` and a number; `many`, its options and the pages; or `extract`, `items` or `check` with its options, in any order,
-- and the page; any other list asks for nothing
abbrev pub job : List Chars → Option Job
job [] = None
job (task ∷ words) =
    if is_word task (codes "sample") then sampling words
    else (if is_word task (codes "many") then option_map gathers (several words)
    else (if is_word task (codes "extract") then option_map reads (option_and_then extraction (arguments_given words))
    else (if is_word task (codes "items") then option_map reads (option_and_then itemization (arguments_given words))
    else (if is_word task (codes "check") then option_map reads (option_and_then checking (arguments_given words)) else None))))

-- the page that is asked for
abbrev pub page_in : Option Job → Option Asked
page_in None = None
page_in (Some (reads asked)) = Some asked
page_in (Some (gathers pages)) = None
page_in (Some (samples count)) = None

abbrev pub page_asked : List Chars → Option Asked
page_asked words = page_in (job words)

-- the pages that are asked for together
abbrev pub gathering_in : Option Job → Option Gathering
gathering_in None = None
gathering_in (Some (reads asked)) = None
gathering_in (Some (gathers pages)) = Some pages
gathering_in (Some (samples count)) = None

abbrev pub gathering_asked : List Chars → Option Gathering
gathering_asked words = gathering_in (job words)
