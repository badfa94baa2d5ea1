-- Options, as they are read one after another.
use Rattle.std.specs.Prelude.{◌≡◌, List, [], Option, Some, None, is_some, if◌then◌else◌}
use Rattle.rx_terms.specs.Text.{Chars}
use Rattle.rx_job.specs.Words.{Given, words_behind, is_word, leading, syntax_word, format_word, graph_word, context_word, base_word}
use Rattle.rx_job.specs.declared.options.Name.{Name}
use Rattle.rx_job.specs.declared.options.Name.TheVariants as name

abbrev pub word_of : Name → Chars
word_of name.Syntax = syntax_word
word_of name.Format = format_word
word_of name.Graph = graph_word
word_of name.Context = context_word
word_of name.Base = base_word

-- the option of this name
abbrev pub option_named : Chars → Option Name
option_named word =
    if is_word word syntax_word then Some name.Syntax
    else if is_word word format_word then Some name.Format
    else if is_word word graph_word then Some name.Graph
    else if is_word word context_word then Some name.Context
    else if is_word word base_word then Some name.Base
    else None

abbrev pub none_given : Given
none_given = record { syntax = None; format = None; graph = None; context = None; base = None }

abbrev pub option_value : Name → Given → Option Chars
option_value name.Syntax options = options.syntax
option_value name.Format options = options.format
option_value name.Graph options = options.graph
option_value name.Context options = options.context
option_value name.Base options = options.base

abbrev pub with_option : Name → Chars → Given → Given
with_option name.Syntax value options = record options { syntax = Some value }
with_option name.Format value options = record options { format = Some value }
with_option name.Graph value options = record options { graph = Some value }
with_option name.Context value options = record options { context = Some value }
with_option name.Base value options = record options { base = Some value }

-- the options with one more; none where that one was given
abbrev pub option_put : Name → Chars → Given → Option Given
option_put name value options = if is_some (option_value name options) then None else Some (with_option name value options)

-- no option stands at the front of the words
pub record NoOption (words : List Chars) : Type 0 where
  pub leads : leading words ≡ []
  pub stays : words_behind words ≡ words
