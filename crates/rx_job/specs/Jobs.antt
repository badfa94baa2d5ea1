-- Jobs, as contracts see them.
use Rattle.std.specs.Prelude.{◌≡◌, Bool, true, false, List, [], ◌∷◌, ◌++◌, Option, Some, None, option_map, Result, MatchResult}
use Rattle.rx_terms.specs.Common.{Chars, is_iri, Bor}
use Rattle.rx_chars.specs.declared.syntax.Syntax.TheVariants.{Html}
use Rattle.rx_job.specs.Words.{Arguments, Asked, Gathering, Given, Job, Listed, reads, gathers, samples, extracts, itemizes, checks, words_behind, options_given, is_graph, may_be_listed, leading, pages_listed}
use Rattle.rx_job.specs.declared.arguments.Arguments.{Arguments as Lent}
use Rattle.rx_job.specs.declared.arguments.Front.{Front}
use Rattle.rx_job.specs.declared.asking.Asking.{Asking}
use Rattle.rx_job.specs.declared.asking.Asking.TheVariants as asking
use Rattle.rx_job.specs.declared.asking.Several.{Several}
use Rattle.rx_job.specs.declared.options.Options.{Options}
use Rattle.rx_job.specs.declared.formats.Format.{Format}
use Rattle.rx_job.specs.declared.jobs.Job.{Job as CodeJob}
use Rattle.rx_job.specs.declared.jobs.Job.TheVariants.{Extract, Items, Check, Many, Sample}
use Rattle.rx_job.specs.declared.errors.JobError.{JobError}
use Rattle.rx_job.specs.declared.errors.JobError.TheVariants as error

abbrev pub asked_by : CodeJob → Job
asked_by (Extract syntax format graph context address page) =
    reads (record { task = extracts (record { syntax = syntax; format = format; graph = graph; address = address }); context = context; page = page })
asked_by (Items syntax address page) = reads (record { task = itemizes (record { syntax = syntax; address = address }); context = None; page = page })
asked_by (Check syntax context page) = reads (record { task = checks syntax; context = context; page = page })
asked_by (Many syntax context pages) = gathers (record { syntax = syntax; context = context; pages = pages })
asked_by (Sample count) = samples count

abbrev pub reads_page : CodeJob → Bool
reads_page (Many syntax context pages) = false
reads_page (Sample count) = false
reads_page _ = true

-- a job that reads one page, in which a context holds
abbrev pub has_context : CodeJob → Bool
has_context (Extract syntax format graph context address page) = true
has_context (Items syntax address page) = false
has_context (Check syntax context page) = true
has_context (Many syntax context pages) = false
has_context (Sample count) = false

-- How a page is asked for. Of several pages this says their context alone, and of a sample, which reads none, nothing.
abbrev pub page_by : CodeJob → Asked
page_by (Extract syntax format graph context address page) =
    record { task = extracts (record { syntax = syntax; format = format; graph = graph; address = address }); context = context; page = page }
page_by (Items syntax address page) = record { task = itemizes (record { syntax = syntax; address = address }); context = None; page = page }
page_by (Check syntax context page) = record { task = checks syntax; context = context; page = page }
page_by (Many syntax context pages) = record { task = checks syntax; context = context; page = [] }
page_by (Sample count) = record { task = checks Html; context = None; page = [] }

-- a job that reads a page asks for this one
pub record ReadsPage (job : CodeJob) : Type 0 where
  pub asks : asked_by job ≡ reads (page_by job)
  pub is : reads_page job ≡ true

abbrev pub text_in : Option (Bor Chars) → Option Chars
text_in text = option_map (λ lent. lent.now) text

-- several pages that are lent
abbrev pub several_seen : Several → Gathering
several_seen several = record { syntax = several.syntax; context = text_in several.context; pages = several.pages.now }

-- the job asks for this
abbrev pub AsksFor : CodeJob → Asking → Type 0
AsksFor job asking.Page = ReadsPage job
AsksFor job (asking.Several several) = asked_by job ≡ gathers (several_seen several)
AsksFor job (asking.Sample count) = asked_by job ≡ samples count

-- why there is no job: the words ask for nothing, or want of memory, which is free
abbrev pub FailsJob : Option Job → JobError → Type 0
FailsJob asked error.Usage = asked ≡ None
FailsJob asked error.NoMemory = Unit {0}

-- it is the job for which the words ask, or tells why there is none
abbrev pub IsJob : Option Job → Result CodeJob JobError → Type 0
IsJob asked result = MatchResult result (λ found. asked ≡ Some (asked_by found)) (FailsJob asked)

-- the text is an IRI, and this is it
abbrev pub IsIriOf : Chars → Chars → Type 0
IsIriOf text iri = (is_iri text ≡ true) × (iri ≡ text)

-- the text is no IRI, or want of memory
abbrev pub FailsIri : Chars → JobError → Type 0
FailsIri text error.Usage = is_iri text ≡ false
FailsIri text error.NoMemory = Unit {0}

-- it is the name that is asked for, and the format can say it
abbrev pub IsGraphName : Format → Option Chars → Option Chars → Type 0
IsGraphName format name graph = (is_graph format name ≡ true) × (graph ≡ name)

-- the format can't say the name, or it is no IRI, or want of memory
abbrev pub FailsGraph : Format → Option Chars → JobError → Type 0
FailsGraph format name error.Usage = is_graph format name ≡ false
FailsGraph format name error.NoMemory = Unit {0}

-- the words don't list pages, or want of memory
abbrev pub FailsPages : List Chars → JobError → Type 0
FailsPages words error.Usage = pages_listed words ≡ None
FailsPages words error.NoMemory = Unit {0}

abbrev pub page_at : Chars → Chars → Listed
page_at address page = record { address = address; page = page }

-- the page can be listed, and stands at the end now
abbrev pub AddsListed : Listed → List Listed → List Listed → Type 0
AddsListed page old new = (may_be_listed page ≡ true) × (new ≡ old ++ page ∷ [])

-- the page isn't one that can be listed, or want of memory
abbrev pub FailsPage : Listed → JobError → Type 0
FailsPage page error.Usage = may_be_listed page ≡ false
FailsPage page error.NoMemory = Unit {0}

-- the options that are lent
abbrev pub options_seen : Options → Given
options_seen options =
    record {
      syntax = text_in options.syntax;
      format = text_in options.format;
      graph = text_in options.graph;
      context = text_in options.context;
      base = text_in options.base;
    }

-- these options stand at the front of the words, and these words behind them
pub record OptionsLead (words : List Chars) (front : Front) : Type 0 where
  pub gives : options_given (leading words) ≡ Some (options_seen front.options)
  pub leaves : words_behind words ≡ front.behind.now

-- the options and the last word that are lent
abbrev pub given_seen : Lent → Arguments
given_seen words = record { options = options_seen words.options; last = words.last.now }
