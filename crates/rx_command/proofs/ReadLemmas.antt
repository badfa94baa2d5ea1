-- A page that is read as its bytes come.
use Rattle.rx_command.proofs.Common.{◌≡◌, ◌∙◌, ℕ, ◌+◌, ◌≤◌, ◌<◌, List, [], ◌∷◌, ◌++◌, length, take, sym, ap, subst, refl, arith, Option, Some, Result, Ok, Err, append_assoc, append-nil, length-append, length-take, Chars, Syntax, Fault, Limits, Stops, Way, IsRefusal, Context, file_of, ShelfContent, WhereKnown, ShelfReads, moves_then, moves_weaker, HasRead, TakesWithin, standard_limits, setting_for, item_setting_for, HasFirst, largest_piece, DecidesFault, AddsRead, AddsNone, NextGives, EndFails, FileEndGives, ReadsWhole, FindsFault, ReadsClean, TakesToFirst, IsFile, FedFile, PageFails, PageGives, refused_from, no_bytes_read, clean_of}
use Rattle.rx_walk.specs.Walks as walks
use Rattle.rx_walk.specs.Walks.{Walked}
use Rattle.rx_items.specs.Walks as item
use Rattle.rx_walk.specs.Checks as checks
use Rattle.rx_walk.specs.Checks.{Checked}
use Rattle.rx_command.specs.declared.errors.InputError.{InputError}
use Rattle.rx_command.specs.declared.errors.InputError.TheVariants as error
use Rattle.rx_page.specs.Readers.{IsReadPage}

-- a reader that begins with the standard limits
pub start_walk : (syntax : Syntax) (context : Context) (address : Chars) (l : Limits) (v : Walked) → l ≡ standard_limits
    → walks.WalkStands (record { syntax = syntax; limits = l; context = context }) address v [] → walks.WalkStands (setting_for syntax context) address v []
start_walk syntax context address l v e st = subst (λ (x : Limits). walks.WalkStands (record { syntax = syntax; limits = x; context = context }) address v []) e st

pub start_items : (syntax : Syntax) (address : Chars) (l : Limits) (v : item.ItemsWalked) → l ≡ standard_limits
    → item.ItemWalkStands (record { syntax = syntax; limits = l; address = address }) v [] → item.ItemWalkStands (item_setting_for syntax address) v []
start_items syntax address l v e st = subst (λ (x : Limits). item.ItemWalkStands (record { syntax = syntax; limits = x; address = address }) v []) e st

pub start_check : (syntax : Syntax) (context : Context) (l : Limits) (v : Checked) → l ≡ standard_limits
    → checks.CheckStands (record { syntax = syntax; limits = l; context = context }) v [] → checks.CheckStands (setting_for syntax context) v []
start_check syntax context l v e st = subst (λ (x : Limits). checks.CheckStands (record { syntax = syntax; limits = x; context = context }) v []) e st

-- a read
pub read_adds : (buf : List ℕ) (k : ℕ) (x y : ShelfContent) → ShelfReads buf (Ok k) x y → 0 < length buf → k ≤ length buf → AddsRead (take k buf) x y
read_adds buf k x y r room within =
    record {
      files = r.files;
      left = r.left;
      taken = omega (arith, r.taken, length-take k buf);
      at_end = λ none. r.at_end (omega (arith, ap length none, length-take k buf)) room;
      starts = r.starts;
    }

some_file : (a b : List ℕ) → ◌≡◌ {A = Option (List ℕ)} (Some a) (Some b) → a ≡ b
some_file a b e = cc

has_more : (name bytes more : List ℕ) (x y z : ShelfContent) → HasRead name bytes x y → AddsRead more y z → HasRead name (bytes ++ more) x z
has_more name bytes more x y z h a =
    record {
      files = a.files ∙ h.files;
      file = h.file ∙ ap Some (ap (λ l. bytes ++ l) a.left ∙ sym (append_assoc bytes more z.left));
      taken = omega (arith, h.taken, a.taken, length-append bytes more);
      starts = a.starts ∙ h.starts;
    }

-- nothing was read of the file
pub unread_first : (way : Way) (name : List ℕ) (x y : ShelfContent) → y.taken ≤ x.taken → TakesToFirst way name x y
unread_first way name x y t file f fault first = omega (arith, t)

-- the first fault
found : (way : Way) (name bytes more : List ℕ) (fault : Fault) (x y z : ShelfContent) → HasRead name bytes x y → AddsRead more y z → length more ≤ largest_piece → DecidesFault way bytes more fault → FindsFault way name fault x z
found way name bytes more fault x y z h a small f =
    let r = has_more name bytes more x y z h a in
    record { bytes = (bytes ++ more) ++ z.left; file = r.file; is = f.stays z.left; read = omega (arith, r.taken, length-append bytes more, f.from); starts = r.starts }

-- ---- bytes that were read without a fault

module _ (way : Way) (law : IsRefusal way.refused) where
  -- a piece that is refused
  pub piece_refused : (bytes piece : List ℕ) (fault : Fault) → IsReadPage way bytes → Stops way (bytes ++ piece) fault → DecidesFault way bytes piece fault
  piece_refused bytes piece fault i s =
      record { stays = s.stays; from = refused_from way law bytes piece i.now i.read i.accepted fault (subst (λ x. HasFirst way x fault) (append-nil (bytes ++ piece)) (s.stays [])) }

  read_clean : (name bytes : List ℕ) (x y z : ShelfContent) → HasRead name bytes x y → AddsNone y z → IsReadPage way bytes → ReadsClean way name x z
  read_clean name bytes x y z h a i file f =
      record { bytes = bytes; rest = y.left; are = some_file file (bytes ++ y.left) (sym f ∙ h.file); taken = omega (arith, h.taken, a.taken); clean = clean_of way law bytes i }

  -- nothing was read of the file
  pub unread_clean : (name : List ℕ) (x y : ShelfContent) → y.taken ≤ x.taken → ReadsClean way name x y
  unread_clean name x y t file f = record { bytes = []; rest = file; are = refl; taken = omega (arith, t); clean = clean_of way law [] (no_bytes_read way law) }

  -- some bytes were read, and no more than a piece was taken behind them
  pub to_first : (name bytes : List ℕ) (room : ℕ) (x y z : ShelfContent) → IsReadPage way bytes → HasRead name bytes x y → TakesWithin room y z → room ≤ largest_piece → TakesToFirst way name x z
  to_first name bytes room x y z i h t small file f fault first =
      let same : file ≡ bytes ++ y.left = some_file file (bytes ++ y.left) (sym f ∙ h.file) in
      let from = refused_from way law bytes y.left i.now i.read i.accepted fault (subst (λ b. HasFirst way b fault) same first) in
      omega (arith, from, h.taken, t.most, small)

-- ---- the file so far

pub record SoFar {R : Type 0} (stands : R → List ℕ → Type 0) (name : List ℕ) (v : R) (n : ℕ) (before now : Option ShelfContent) : Type 0 where
  pub bytes : List ℕ
  pub size : length bytes ≡ n
  pub at : stands v bytes
  pub read : WhereKnown (HasRead name bytes) before now

module _ {R : Type 0} (way : Way) (stands : R → List ℕ → Type 0) (name : List ℕ) where
  pub more_so_far : (v w : R) (n k : ℕ) (before now later : Option ShelfContent) (s : SoFar stands name v n before now) → NextGives way stands s.bytes (Ok k) w now later → SoFar stands name w (n + k) before later
  more_so_far v w n k before now later s g =
      record {
        bytes = s.bytes ++ g.0;
        size = omega (arith, length-append s.bytes g.0, s.size, g.1);
        at = g.2;
        read = moves_then (HasRead name (s.bytes ++ g.0)) (λ x y z h a. has_more name s.bytes g.0 x y z h a) s.read g.3;
      }

  pub next_found : (law : IsRefusal way.refused) (v w : R) (n : ℕ) (e : InputError) (before now later : Option ShelfContent) (s : SoFar stands name v n before now) → IsReadPage way s.bytes
      → NextGives way stands s.bytes (Err e) w now later → PageFails way name e before later
  next_found law v w n (error.Refused fault) before now later s i g =
      moves_then (FindsFault way name fault) (λ x y z h a. found way name s.bytes g.0 fault x y z h a g.1 g.2) s.read g.3
  next_found law v w n error.Failed before now later s i g =
      moves_then (ReadsClean way name) (λ x y z h a file f. read_clean way law name s.bytes x y z h a i file f) s.read g
  next_found law v w n error.BadContext before now later s i g = g
  next_found law v w n error.NoMemory before now later s i g = tt

-- ---- the file's end

nothing_more : (more : List ℕ) → length more ≡ 0 → more ≡ []
nothing_more [] e = refl
nothing_more (x ∷ more) e = absurd (cc)

at_end : (more : List ℕ) (y z : ShelfContent) → AddsRead more y z → more ≡ [] → z.left ≡ []
at_end more y z a none = let left : y.left ≡ z.left = a.left ∙ ap (λ m. m ++ z.left) none in sym left ∙ a.at_end none

ended_file : (name bytes more : List ℕ) (x y z : ShelfContent) → HasRead name bytes x y → AddsRead more y z → more ≡ [] → file_of x.files name ≡ Some (bytes ++ more)
ended_file name bytes more x y z h a none =
    (has_more name bytes more x y z h a).file ∙ ap Some (ap (λ l. (bytes ++ more) ++ l) (at_end more y z a none) ∙ append-nil (bytes ++ more))

pub file_fed : {R : Type 0} (way : Way) (stands : R → List ℕ → Type 0) (name : List ℕ) (v w : R) (n k : ℕ) (before now later : Option ShelfContent) (s : SoFar stands name v n before now)
    → NextGives way stands s.bytes (Ok k) w now later → k ≡ 0 → FedFile stands name w before later
file_fed way stands name v w n k before now later s g none =
    record {
      bytes = s.bytes ++ g.0;
      at = g.2;
      read =
          moves_then (IsFile name (s.bytes ++ g.0))
          (λ x y z h a. record { file = ended_file name s.bytes g.0 x y z h a (nothing_more g.0 (g.1 ∙ none)); left = at_end g.0 y z a (nothing_more g.0 (g.1 ∙ none)); taken = (has_more name s.bytes g.0 x y z h a).taken; starts = (has_more name s.bytes g.0 x y z h a).starts }) s.read g.3;
    }

-- the page
fails_at_end : {R : Type 0} (way : Way) (stands : R → List ℕ → Type 0) (name : List ℕ) (v : R) (before now : Option ShelfContent) (f : FedFile stands name v before now) (e : InputError)
    → EndFails way f.bytes e → PageFails way name e before now
fails_at_end way stands name v before now f (error.Refused fault) e =
    moves_weaker (FindsFault way name fault) (λ x y i. record { bytes = f.bytes; file = i.file; is = e.0; read = omega (arith, i.taken, e.1); starts = i.starts }) f.read
fails_at_end way stands name v before now f error.NoMemory e = tt
fails_at_end way stands name v before now f _ e = absurd e

pub fed_ends : {R A : Type 0} (way : Way) (stands : R → List ℕ → Type 0) (holds : List ℕ → A → Type 0) (name : List ℕ) (v : R) (before now : Option ShelfContent) (f : FedFile stands name v before now) (result : Result A InputError)
    → FileEndGives way holds f.bytes result → PageGives way holds name result before now
fed_ends way stands holds name v before now f (Ok given) e = moves_weaker (ReadsWhole holds name given) (λ x y i. record { bytes = f.bytes; file = i.file; left = i.left; starts = i.starts; gives = e }) f.read
fed_ends way stands holds name v before now f (Err why) e = fails_at_end way stands name v before now f why e
