-- What is answered of a context file.
use Rattle.std.specs.Prelude.{◌≡◌, Option, Some, None, Result, Ok, Err}
use Rattle.rx_terms.specs.declared.iris.IriError.{IriError}
use Rattle.rx_terms.specs.declared.iris.IriError.TheVariants as iri
use Rattle.rx_names.specs.declared.context_files.ContextError.{ContextError}
use Rattle.rx_names.specs.declared.context_files.ContextError.TheVariants.{BadContext, NoMemory}

-- what was asked for, where the file has it; BadContext where it hasn't; or there was no memory, of which nothing is said
abbrev pub FileGives : {A : Type 0} → Result A ContextError → Option A → Type 0
FileGives (Ok made) asked = asked ≡ Some made
FileGives (Err BadContext) asked = asked ≡ None
FileGives (Err NoMemory) asked = Unit {0}

-- the error of a file in which a text that should be an IRI gave this
abbrev pub of_iri : IriError → ContextError
of_iri iri.NoScheme = BadContext
of_iri iri.Forbidden = BadContext
of_iri iri.NoMemory = NoMemory
