-- A sample page as it is fed to a walk.
use Rattle.std.specs.Prelude.{◌≡◌, ◌≤◌, ◌<◌, ◌⊎◌, ℕ, List, [], ◌++◌, length, nat_lt, if◌then◌else◌}
use Rattle.rx_walk.specs.Walks.{WalkStands}
use Rattle.rx_command.specs.declared.samples.Feeding.{Feeding}
use Rattle.rx_command.specs.Samples.{items_to, cut_in, sample_page, sample_setting, sample_address, HasDepth, IsDeepest}
use Rattle.rx_job.specs.Words.{most_items}

-- the walk stands behind these bytes, which are counted
pub record Fed (bytes : List ℕ) (s : Feeding) : Type 0 where
  pub stands : WalkStands sample_setting sample_address s.walk bytes
  pub size : s.size ≡ length bytes

abbrev pub larger : ℕ → ℕ → ℕ
larger m n = if nat_lt m n then n else m

-- the depth became that of these bytes, where that is larger
abbrev pub Deepens : List ℕ → ℕ → ℕ → Type 0
Deepens bytes before after = (now : ℕ) × HasDepth bytes now × (after ≡ larger before now)

-- the most elements that are open where the pieces of the first items end
pub record IsDeepestTo (count depth : ℕ) : Type 0 where
  pub each : (i : ℕ) → i < count → (other : ℕ) × HasDepth (cut_in i) other × (other ≤ depth)
  pub one : (depth ≡ 0) ⊎ ((i : ℕ) × (i < count) × HasDepth (cut_in i) depth)

-- the page up to the end of so many items was fed, or stands in the piece
pub record FedTo (count : ℕ) (s : Feeding) : Type 0 where
  pub bytes : List ℕ
  pub fed : Fed bytes s
  pub due : bytes ++ s.piece.items ≡ items_to count
  pub depth : IsDeepestTo count s.depth

-- what was fed and the piece are the first bytes of a sample page
pub record FeedsSample (s : Feeding) : Type 0 where
  pub bytes : List ℕ
  pub fed : Fed bytes s
  pub count : ℕ
  pub few : count ≤ most_items
  pub rest : List ℕ
  pub due : (bytes ++ s.piece.items) ++ rest ≡ sample_page count

-- the piece was fed
pub record TakesPiece (bytes : List ℕ) (old new : Feeding) : Type 0 where
  pub fed : Fed (bytes ++ old.piece.items) new
  pub empty : new.piece.items ≡ []
  pub depth : Deepens (bytes ++ old.piece.items) old.depth new.depth

-- the whole page was fed
pub record FedWhole (count : ℕ) (s : Feeding) : Type 0 where
  pub fed : Fed (sample_page count) s
  pub depth : IsDeepest count s.depth
