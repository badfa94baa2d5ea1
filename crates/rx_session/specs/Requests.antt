-- What numbers and bytes from outside ask for.
use Rattle.std.specs.Prelude.{◌≡◌, ℕ, ◌≤◌, ◌^◌, Bool, true, false, ◌&&◌, ◌==◌, nat_lt, List, [], length, Option, Some, None, is_some, option_map, option_and_then, Result, Ok, Err, if◌then◌else◌}
use Rattle.rx_rdfa.specs.Common.{chars, is_utf8, Syntax, is_iri, Chars, Context, standard, Bor}
use Rattle.rx_chars.specs.declared.syntax.Syntax.TheVariants.{Html, Xhtml}
use Rattle.rx_names.specs.ContextFiles.{context_of}
use Rattle.rx_job.specs.declared.formats.Format.TheVariants.{Nquads, Turtle, Nested, Jsonld}
use Rattle.rx_job.specs.Words.{itemizes, checks}
use Rattle.rx_page.specs.Contexts.{is_context, largest_context}
use Rattle.rx_session.specs.Sessions.{IsFed}
use Rattle.rx_session.specs.Wants.{Want, plain, may_name_graph, extraction_seen}
use Rattle.rx_session.specs.declared.outputs.Output.{Output}
use Rattle.rx_session.specs.declared.outputs.Output.TheVariants.{Text, Quads}
use Rattle.rx_session.specs.declared.errors.OpenError.{OpenError}
use Rattle.rx_session.specs.declared.errors.OpenError.TheVariants as error
use Rattle.rx_session.specs.declared.sessions.State.{State}

-- bytes that are lent, if any
abbrev pub bytes_in : Option (Bor (List ℕ)) → Option (List ℕ)
bytes_in bytes = option_map (λ lent. lent.now) bytes

abbrev pub numbered_syntax : ℕ → Option Syntax
numbered_syntax number = if number == 0 then Some Html else (if number == 1 then Some Xhtml else None)

-- the number of the first blank node
abbrev pub first_in : ℕ → Option ℕ
first_in number = if nat_lt (2 ^ 63) number then None else Some number

-- a format, or quad by quad
abbrev pub output_in : ℕ → Option Output
output_in number =
    if number == 0 then Some (Text Nquads) else (if number == 1 then Some (Text Turtle) else (if number == 2 then Some (Text Nested)
    else (if number == 3 then Some (Text Jsonld) else (if number == 4 then Some Quads else None))))

-- the characters of bytes that are the UTF-8 of an IRI
abbrev pub iri_in : List ℕ → Option Chars
iri_in bytes = if is_utf8 bytes && is_iri (chars bytes) then Some (chars bytes) else None

-- a graph has no name, or one that is an IRI and can be said
abbrev pub graph_in : Output → Option (List ℕ) → Option (Option Chars)
graph_in output None = Some None
graph_in output (Some name) = if may_name_graph output then option_map Some (iri_in name) else None

abbrev pub wanted_extraction : Option ℕ → Option Syntax → Option Output → Option Chars → Option (List ℕ) → Option Want
wanted_extraction (Some first) (Some syntax) (Some output) (Some address) graph =
    option_map (λ name. extraction_seen (record { syntax = syntax; output = output; graph = name; address = address; first = first })) (graph_in output graph)
wanted_extraction first syntax output address graph = None

-- the numbers of a syntax and of a format, that of the first blank node, an address, and the name of a graph, if any
abbrev pub extraction_in : ℕ → ℕ → ℕ → List ℕ → Option (List ℕ) → Option Want
extraction_in syntax format first address graph = wanted_extraction (first_in first) (numbered_syntax syntax) (output_in format) (iri_in address) graph

abbrev pub items_with : Option Syntax → Option Chars → Option Want
items_with (Some syntax) (Some address) = Some (plain (itemizes (record { syntax = syntax; address = address })))
items_with syntax address = None

abbrev pub items_wanted : ℕ → List ℕ → Option Want
items_wanted syntax address = items_with (numbered_syntax syntax) (iri_in address)

abbrev pub check_in : ℕ → Option Want
check_in syntax = option_map (λ s. plain (checks s)) (numbered_syntax syntax)

-- the context that holds: the standard one, or that of a file of these bytes
abbrev pub IsContextOf : Option (List ℕ) → Context → Type 0
IsContextOf None context = context ≡ standard
IsContextOf (Some bytes) context = (length bytes ≤ largest_context) × (context_of bytes ≡ Some context)

-- the bytes of a context file are given, and are none
abbrev pub IsNoContext : Option (List ℕ) → Type 0
IsNoContext None = ⊥
IsNoContext (Some bytes) = is_context bytes ≡ false

-- nothing is asked for, or there was no memory
abbrev pub FailsOpen : {A : Type 0} → Option A → OpenError → Type 0
FailsOpen asked error.Usage = asked ≡ None
FailsOpen asked error.BadContext = ⊥
FailsOpen asked error.NoMemory = Unit {0}

abbrev pub ContextFileGives : Option (List ℕ) → Result Context OpenError → Type 0
ContextFileGives file (Ok context) = IsContextOf file context
ContextFileGives file (Err error.Usage) = ⊥
ContextFileGives file (Err error.BadContext) = IsNoContext file
ContextFileGives file (Err error.NoMemory) = Unit {0}

-- this is asked for, the context file, if any, is a context, and the session was opened for that
pub record OpenedSession (asked : Option Want) (file : Option (List ℕ)) (session : State) : Type 0 where
  pub want : Want
  pub context : Context
  pub is : asked ≡ Some want
  pub holds : IsContextOf file context
  pub fed : IsFed want context [] session

-- A session was opened for what is asked for; or nothing is asked for; or something is, and the context file is none; or
-- there was no memory.
abbrev pub SessionOpenGives : Option Want → Option (List ℕ) → Result State OpenError → Type 0
SessionOpenGives asked file (Ok session) = OpenedSession asked file session
SessionOpenGives asked file (Err error.Usage) = asked ≡ None
SessionOpenGives asked file (Err error.BadContext) = IsNoContext file × (is_some asked ≡ true)
SessionOpenGives asked file (Err error.NoMemory) = Unit {0}
