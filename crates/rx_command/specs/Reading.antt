-- Reading a page as its bytes come.
use Rattle.std.specs.Prelude.{◌≡◌, ℕ, ◌+◌, ◌<◌, ◌≤◌, List, [], ◌++◌, length, Option, Some, Result, Ok, Err}
use Rattle.rx_rdfa.specs.Common.{Fault, Unended}
use Rattle.rx_nest.specs.Ways.{Way}
use Rattle.rx_ports.specs.Files.{file_of}
use Rattle.rx_ports.specs.Shelves.{ShelfContent, WhereKnown}
use Rattle.rx_command.specs.declared.errors.InputError.{InputError}
use Rattle.rx_command.specs.declared.errors.InputError.TheVariants as error
use Rattle.rx_page.specs.Settings.{standard_limits, HasFirst}

-- the most bytes that a read asks for
abbrev pub largest_piece : ℕ
largest_piece = 65536

-- so many bytes a read may ask for: one at least
abbrev pub IsPiece : ℕ → Type 0
IsPiece room = (0 < room) × (room ≤ largest_piece)

-- how much is read of a page at most
abbrev pub page_limit : ℕ
page_limit = standard_limits.page + largest_piece

-- A byte of the piece decides the fault, whatever follows.
pub record DecidesFault (way : Way) (bytes piece : List ℕ) (fault : Fault) : Type 0 where
  pub stays : (rest : List ℕ) → HasFirst way ((bytes ++ piece) ++ rest) fault
  pub from : length bytes ≤ fault.at

-- these bytes of the file were read next; none only at its end
pub record AddsRead (more : List ℕ) (old new : ShelfContent) : Type 0 where
  pub files : new.files ≡ old.files
  pub left : old.left ≡ more ++ new.left
  pub taken : new.taken ≡ old.taken + length more
  pub at_end : more ≡ [] → old.left ≡ []
  pub starts : new.starts ≡ old.starts

-- nothing was read
pub record AddsNone (old new : ShelfContent) : Type 0 where
  pub files : new.files ≡ old.files
  pub taken : new.taken ≡ old.taken

-- a read gave some bytes, which were taken
abbrev pub NextGives : {R : Type 0} → Way → (R → List ℕ → Type 0) → List ℕ → Result ℕ InputError → R → Option ShelfContent → Option ShelfContent → Type 0
NextGives way stands bytes (Ok n) new before now = (more : List ℕ) × (length more ≡ n) × stands new (bytes ++ more) × WhereKnown (AddsRead more) before now
NextGives way stands bytes (Err (error.Refused fault)) new before now =
    (more : List ℕ) × (length more ≤ largest_piece) × DecidesFault way bytes more fault × WhereKnown (AddsRead more) before now
NextGives way stands bytes (Err error.Failed) new before now = WhereKnown AddsNone before now
NextGives way stands bytes (Err error.BadContext) new before now = ⊥
NextGives way stands bytes (Err error.NoMemory) new before now = Unit {0}

-- the page's end shows a fault, or there was no memory
abbrev pub EndFails : Way → List ℕ → InputError → Type 0
EndFails way bytes (error.Refused fault) = HasFirst way bytes fault × (fault.at ≡ length bytes)
EndFails way bytes error.Failed = ⊥
EndFails way bytes error.BadContext = ⊥
EndFails way bytes error.NoMemory = Unit {0}

-- the page ends, and this holds of its bytes and of what it gives
abbrev pub FileEndGives : {A : Type 0} → Way → (List ℕ → A → Type 0) → List ℕ → Result A InputError → Type 0
FileEndGives way holds bytes (Ok given) = holds bytes given
FileEndGives way holds bytes (Err why) = EndFails way bytes why

-- whatever the reader was made with, this holds where it is before the first byte of a page
abbrev pub HoldsAtStart : {S R : Type 0} → (S → R → List ℕ → Type 0) → R → (S → Type 0) → Type 0
HoldsAtStart stands reader holds = (setting : _) → stands setting reader [] → holds setting

-- a read gave some bytes, no more than a piece, which whatever the reader stood for went on with
abbrev pub ReadsNext : {S R : Type 0} → (S → Way) → (S → R → List ℕ → Type 0) → R → ℕ → Result ℕ InputError → R → Option ShelfContent → Option ShelfContent → Type 0
ReadsNext way stands old room result new before now =
    (setting : _) (bytes : List ℕ) → stands setting old bytes → room ≤ largest_piece → NextGives (way setting) (stands setting) bytes result new before now

-- the page's end, whatever the reader was made with, and whatever bytes lead to where it stands
abbrev pub ReadingEnds : {S R A : Type 0} → (S → Way) → (S → R → List ℕ → Type 0) → (S → List ℕ → A → Type 0) → R → Result A InputError → Type 0
ReadingEnds way stands gives reader result = (setting : _) (bytes : List ℕ) → stands setting reader bytes → FileEndGives (way setting) (gives setting) bytes result

-- The file was started once and read to its end, and this holds of its bytes and of what they give.
pub record ReadsWhole {A : Type 0} (holds : List ℕ → A → Type 0) (name : List ℕ) (given : A) (old new : ShelfContent) : Type 0 where
  pub bytes : List ℕ
  pub file : file_of old.files name ≡ Some bytes
  pub left : new.left ≡ []
  pub starts : new.starts ≡ old.starts + 1
  pub gives : holds bytes given

-- The file has this fault, and was started once and read no further than a piece past it.
pub record FindsFault (way : Way) (name : List ℕ) (fault : Fault) (old new : ShelfContent) : Type 0 where
  pub bytes : List ℕ
  pub file : file_of old.files name ≡ Some bytes
  pub is : HasFirst way bytes fault
  pub read : new.taken ≤ old.taken + (fault.at + largest_piece)
  pub starts : new.starts ≡ old.starts + 1

-- The bytes that were read of the file hold no fault but that they end.
pub record IsClean (way : Way) (file : List ℕ) (before now : ℕ) : Type 0 where
  pub bytes : List ℕ
  pub rest : List ℕ
  pub are : file ≡ bytes ++ rest
  pub taken : now ≤ before + length bytes
  pub clean : (fault : Fault) → HasFirst way bytes fault → fault.kind ≡ Unended

abbrev pub ReadsClean : Way → List ℕ → ShelfContent → ShelfContent → Type 0
ReadsClean way name old new = (file : List ℕ) → file_of old.files name ≡ Some file → IsClean way file old.taken new.taken

-- Where the file has a fault, no more was taken than a piece past the byte that decides it.
abbrev pub TakesToFirst : Way → List ℕ → ShelfContent → ShelfContent → Type 0
TakesToFirst way name old new =
    (file : List ℕ) → file_of old.files name ≡ Some file → (fault : Fault) → HasFirst way file fault
    → new.taken ≤ old.taken + (fault.at + largest_piece)

-- these bytes are the file's, which was started once and read to its end
pub record IsFile (name bytes : List ℕ) (old new : ShelfContent) : Type 0 where
  pub file : file_of old.files name ≡ Some bytes
  pub left : new.left ≡ []
  pub taken : new.taken ≡ old.taken + length bytes
  pub starts : new.starts ≡ old.starts + 1

-- the reader, which was made with this, is before the first byte of a page, which may be as large as any
pub record StartsPage {S R : Type 0} (way : S → Way) (stands : S → R → List ℕ → Type 0) (reader : R) : Type 0 where
  pub setting : S
  pub limits : (way setting).limits ≡ standard_limits
  pub at : stands setting reader []

-- the reader stands where the whole file leads
pub record FedFile {R : Type 0} (stands : R → List ℕ → Type 0) (name : List ℕ) (reader : R) (before now : Option ShelfContent) : Type 0 where
  pub bytes : List ℕ
  pub at : stands reader bytes
  pub read : WhereKnown (IsFile name bytes) before now

-- the file has a fault, or reading it failed, or there was no memory
abbrev pub PageFails : Way → List ℕ → InputError → Option ShelfContent → Option ShelfContent → Type 0
PageFails way name (error.Refused fault) before now = WhereKnown (FindsFault way name fault) before now
PageFails way name error.Failed before now = WhereKnown (ReadsClean way name) before now
PageFails way name error.BadContext before now = ⊥
PageFails way name error.NoMemory before now = Unit {0}

abbrev pub FedFileGives : {R : Type 0} → Way → (R → List ℕ → Type 0) → List ℕ → Result (Unit {0}) InputError → R → Option ShelfContent → Option ShelfContent → Type 0
FedFileGives way stands name (Ok done) reader before now = FedFile stands name reader before now
FedFileGives way stands name (Err why) reader before now = PageFails way name why before now

-- the file was read to its end, and this holds of its bytes and of what they give; or it wasn't
abbrev pub PageGives : {A : Type 0} → Way → (List ℕ → A → Type 0) → List ℕ → Result A InputError → Option ShelfContent → Option ShelfContent → Type 0
PageGives way holds name (Ok given) before now = WhereKnown (ReadsWhole holds name given) before now
PageGives way holds name (Err why) before now = PageFails way name why before now
