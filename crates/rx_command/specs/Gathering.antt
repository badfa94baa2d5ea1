-- Several pages in one dataset: what each is judged to be, and how much is read of it.
use Rattle.std.specs.Prelude.{◌≡◌, ℕ, ◌+◌, ◌≤◌, List, [], ◌∷◌, ◌++◌, length, Option, Some, is_some, true, encode_utf8_all}
use Rattle.rx_rdfa.specs.Common.{chars, Chars, Triple, set_of, Renamed, Context, written, graph_of, Syntax, Fault, Tree}
use Rattle.rx_ports.specs.Files.{file_of}
use Rattle.rx_ports.specs.Shelves.{ShelfContent, WhereKnown}
use Rattle.rx_many.specs.Pages.{JudgedPage, Judgement, refused, accepted}
use Rattle.rx_many.specs.Writing.{pages_document}
use Rattle.rx_many.specs.Dataset.{DenotesPages}
use Rattle.rx_job.specs.Words.{Gathering, Listed, gathering_asked}
use Rattle.rx_command.specs.Reading.{largest_piece, page_limit}
use Rattle.rx_page.specs.Settings.{rdfa_way, HasFirst}
use Rattle.rx_command.specs.Files.{size_of}
use Rattle.rx_command.specs.Contexts.{ContextHolds, HasContext, context_size, context_limit, context_count}
use Rattle.rx_page.specs.Tasks.{IsAccepted, facts_in}
use Rattle.rx_page.specs.Texts.{as_read}
use Rattle.rx_microdata.specs.Base.{base_in}

-- files by their names
abbrev pub FileList : Type 0
FileList = List (List ℕ × List ℕ)

-- the bytes are a page, none of its start tags is refused, and these are the triples that RDFa's rules give its tree, as they
-- are written
pub record GivesTriples (syntax : Syntax) (context : Context) (address : Chars) (bytes : List ℕ) (triples : List (Triple ℕ)) : Type 0 where
  pub tree : Tree
  pub is : IsAccepted syntax context bytes tree
  pub given : triples ≡ written (base_in address tree) (facts_in context tree)

-- .. and the triples are exactly the graph that RDFa's rules give its tree, blank nodes renamed one to one. None of their literals
-- is typed xsd:string, so that the quad of each has this triple and no other.
pub record GivesGraph (syntax : Syntax) (context : Context) (address : Chars) (bytes : List ℕ) (triples : List (Triple ℕ)) : Type 0 where
  pub tree : Tree
  pub is : IsAccepted syntax context bytes tree
  pub renamed : Renamed (graph_of (base_in address tree) (facts_in context tree)) (set_of triples)
  pub proper : as_read triples ≡ triples

-- the bytes are refused with their first fault, or accepted with triples of which this holds
abbrev pub IsJudged : (Syntax → Context → Chars → List ℕ → List (Triple ℕ) → Type 0)
    → Syntax → Context → Chars → List ℕ → Judgement → Type 0
IsJudged gives syntax context address bytes (refused fault) = HasFirst (rdfa_way syntax context) bytes fault
IsJudged gives syntax context address bytes (accepted triples) = gives syntax context address bytes triples

-- the listed page is there, and under its address it is judged so
pub record Judges (gives : Syntax → Context → Chars → List ℕ → List (Triple ℕ) → Type 0)
    (syntax : Syntax) (context : Context) (files : FileList) (listed : Listed) (page : JudgedPage) : Type 0 where
  pub bytes : List ℕ
  pub file : file_of files (encode_utf8_all listed.page) ≡ Some bytes
  pub address : page.address ≡ listed.address
  pub judged : IsJudged gives syntax context listed.address bytes page.judgement

-- each in its place
abbrev pub JudgesEach : (Syntax → Context → Chars → List ℕ → List (Triple ℕ) → Type 0)
    → Syntax → Context → FileList → List Listed → List JudgedPage → Type 0
JudgesEach gives syntax context files [] [] = Unit {0}
JudgesEach gives syntax context files (listed ∷ more) (page ∷ pages) =
    Judges gives syntax context files listed page × JudgesEach gives syntax context files more pages
JudgesEach gives syntax context files listed pages = ⊥

-- the text is the document of the listed pages, as they are judged where the job's context holds
pub record IsGathered (gathering : Gathering) (text : List ℕ) (shelf : ShelfContent) : Type 0 where
  pub context : Context
  pub holds : ContextHolds gathering.context shelf context
  pub pages : List JudgedPage
  pub judged : JudgesEach GivesTriples gathering.syntax context shelf.files gathering.pages pages
  pub spelled : text ≡ encode_utf8_all (pages_document pages)

-- the text denotes exactly the quads of the accepted pages: of each the graph that RDFa's rules give its tree, under its
-- address without fragment, all blank nodes being renamed together one to one
pub record DenotesGathered (gathering : Gathering) (text : List ℕ) (shelf : ShelfContent) : Type 0 where
  pub context : Context
  pub holds : ContextHolds gathering.context shelf context
  pub pages : List JudgedPage
  pub judged : JudgesEach GivesGraph gathering.syntax context shelf.files gathering.pages pages
  pub denotes : DenotesPages (chars text) pages

-- the words ask for several pages, the shelf tells its files, and this is the text of the pages
pub record GatheredText (words : List Chars) (told : Option ShelfContent) (text : List ℕ) : Type 0 where
  pub gathering : Gathering
  pub shelf : ShelfContent
  pub asks : gathering_asked words ≡ Some gathering
  pub tells : told ≡ Some shelf
  pub is : IsGathered gathering text shelf

-- .. and this text denotes what they give
pub record GatheredGraphs (words : List Chars) (told : Option ShelfContent) (text : List ℕ) : Type 0 where
  pub gathering : Gathering
  pub shelf : ShelfContent
  pub asks : gathering_asked words ≡ Some gathering
  pub tells : told ≡ Some shelf
  pub denotes : DenotesGathered gathering text shelf

-- each of the listed pages is there
abbrev pub HasPages : FileList → List Listed → Type 0
HasPages files [] = Unit {0}
HasPages files (listed ∷ more) = (is_some (file_of files (encode_utf8_all listed.page)) ≡ true) × HasPages files more

-- the words ask for several pages, the shelf tells its files, the context is one, and each page is there
pub record HasAll (words : List Chars) (told : Option ShelfContent) : Type 0 where
  pub gathering : Gathering
  pub shelf : ShelfContent
  pub asks : gathering_asked words ≡ Some gathering
  pub tells : told ≡ Some shelf
  pub context : HasContext gathering.context shelf
  pub pages : HasPages shelf.files gathering.pages

-- ---- how much is read

-- So much is read of a page at most: no more than it has, and, where it has a fault under a context that holds, no more than
-- a piece past the byte that decides the fault.
pub record IsPartRead (holds : Context → Type 0) (syntax : Syntax) (files : FileList) (listed : Listed) (part : ℕ) : Type 0 where
  pub size : part ≤ size_of (file_of files (encode_utf8_all listed.page))
  pub most : part ≤ page_limit
  pub to_fault : (context : Context) → holds context → (bytes : List ℕ) → file_of files (encode_utf8_all listed.page) ≡ Some bytes
      → (fault : Fault) → HasFirst (rdfa_way syntax context) bytes fault → part ≤ fault.at + largest_piece

-- one part for each page
abbrev pub AreParts : (Context → Type 0) → Syntax → FileList → List Listed → List ℕ → Type 0
AreParts holds syntax files [] [] = Unit {0}
AreParts holds syntax files (listed ∷ more) (part ∷ parts) = IsPartRead holds syntax files listed part × AreParts holds syntax files more parts
AreParts holds syntax files listed parts = ⊥

abbrev pub total : List ℕ → ℕ
total [] = 0
total (part ∷ parts) = part + total parts

-- no more was taken than the context file has, nor than is read of it at most, and one part of each page; and no more files were
-- started than these
pub record TakesGathering (gathering : Gathering) (old new : ShelfContent) : Type 0 where
  pub files : new.files ≡ old.files
  pub parts : List ℕ
  pub are : AreParts (ContextHolds gathering.context old) gathering.syntax old.files gathering.pages parts
  pub size : new.taken ≤ old.taken + (context_size gathering.context old + total parts)
  pub most : new.taken ≤ old.taken + (context_limit gathering.context + total parts)
  pub starts : new.starts ≤ old.starts + (context_count gathering.context + length gathering.pages)

-- ---- step by step

abbrev pub IsThat : Context → Context → Type 0
IsThat context other = context ≡ other

-- no more was taken than a part of the page, and no more than one file was started
pub record TakesPart (context : Context) (syntax : Syntax) (listed : Listed) (old new : ShelfContent) : Type 0 where
  pub files : new.files ≡ old.files
  pub part : ℕ
  pub is : IsPartRead (IsThat context) syntax old.files listed part
  pub taken : new.taken ≤ old.taken + part
  pub starts : new.starts ≤ old.starts + 1

-- of each page
pub record TakesParts (context : Context) (syntax : Syntax) (listed : List Listed) (old new : ShelfContent) : Type 0 where
  pub files : new.files ≡ old.files
  pub parts : List ℕ
  pub are : AreParts (IsThat context) syntax old.files listed parts
  pub taken : new.taken ≤ old.taken + total parts
  pub starts : new.starts ≤ old.starts + length listed

-- the page was started once and read, and is judged so
pub record ReadsListed (context : Context) (syntax : Syntax) (listed : Listed) (page : JudgedPage) (old new : ShelfContent) : Type 0 where
  pub judged : Judges GivesTriples syntax context old.files listed page
  pub takes : TakesPart context syntax listed old new
  pub starts : new.starts ≡ old.starts + 1

-- all of them were
pub record ReadsEach (context : Context) (syntax : Syntax) (listed : List Listed) (pages : List JudgedPage) (old new : ShelfContent) : Type 0 where
  pub judged : JudgesEach GivesTriples syntax context old.files listed pages
  pub takes : TakesParts context syntax listed old new
  pub starts : new.starts ≡ old.starts + length listed

-- this page was read, and added
pub record GathersPage (context : Context) (syntax : Syntax) (listed : Listed) (before now : List JudgedPage) (old new : Option ShelfContent) : Type 0 where
  pub page : JudgedPage
  pub adds : now ≡ before ++ page ∷ []
  pub reads : WhereKnown (ReadsListed context syntax listed page) old new

-- these pages were read, and added
pub record AddsPages (context : Context) (syntax : Syntax) (listed : List Listed) (before now : List JudgedPage) (old new : Option ShelfContent) : Type 0 where
  pub pages : List JudgedPage
  pub adds : now ≡ before ++ pages
  pub reads : WhereKnown (ReadsEach context syntax listed pages) old new

-- the context file was read, where one is named, and then the pages, which are judged so; each file was started once
pub record GathersPages (gathering : Gathering) (pages : List JudgedPage) (old new : ShelfContent) : Type 0 where
  pub context : Context
  pub holds : ContextHolds gathering.context old context
  pub judged : JudgesEach GivesTriples gathering.syntax context old.files gathering.pages pages
  pub starts : new.starts ≡ old.starts + (context_count gathering.context + length gathering.pages)
