-- What the start of an element does to the stack, by the rules.
use Rattle.std.specs.Prelude.{◌≡◌, ◌<◌, ◌≤◌, ◌^◌, ◌+◌, false, ℕ, List, [], ◌∷◌, ◌++◌, length, Some, IfSome, is_some, encode_utf8_all, if◌then◌else◌}
use Rattle.rx_rdfa.specs.Common.{Chars, Iri, Facts, labels, Inherited}
use Rattle.rx_eval.specs.Labels.{Numbered, draw}
use Rattle.rx_eval.specs.Places.{level_at}
use Rattle.rx_eval.specs.declared.places.Level.{Level}
use Rattle.rx_eval.specs.OwnersSeen.{owning}
use Rattle.rx_eval.specs.Entering.{Gathers, resources_by, start_at, below_at, gathers_at, own_at, below_own_at, places_at, lists_at}
use Rattle.rx_eval.specs.Opening.{drawn_after}
use Rattle.rx_eval.specs.States.{State, Frame}
use Rattle.rx_eval.specs.Skipping.{skipped_frame}
use Rattle.rx_eval.specs.Keeping.{gathers_some}

-- what a child of the last frame inherits
abbrev pub handed_on : Inherited ℕ ℕ → List Frame → Inherited ℕ ℕ
handed_on page [] = page
handed_on page (frame ∷ frames) = handed_on frame.context frames

-- what holds of an element inside the last frame, with these numbers of labels and of a new node
abbrev pub on_top : {A : Type 0} → (Numbered → ℕ → Chars → Level → Inherited ℕ ℕ → Facts → A) → State → Facts → Numbered → ℕ → A
on_top f old facts labels fresh = f labels fresh old.base (level_at (length old.frames)) (handed_on old.page old.frames) facts

-- an element was opened: its labels have drawn their numbers; its triples are there; it is the last frame, with its owners
-- and its text where it gathers that; its owners are begun, and what it has stands in their lists
pub record Opens (old : State) (facts : Facts) (new : State) : Type 0 where
  pub frame : Frame
  pub fresh : ℕ
  pub drawing : draw old.labels old.drawn (labels facts) ≡ (new.labels, fresh)
  pub pushed : new.frames ≡ old.frames ++ frame ∷ []
  pub context : frame.context ≡ on_top below_at old facts new.labels fresh (length old.owners)
  pub start : new.out ≡ old.out ++ on_top start_at old facts new.labels fresh
  pub lists : new.owners ≡ on_top lists_at old facts new.labels fresh old.owners
  pub gathers : is_some frame.text ≡ on_top gathers_at old facts new.labels fresh
  pub text :
      IfSome frame.text
      (Gathers facts (on_top resources_by old facts new.labels fresh) (on_top places_at old facts new.labels fresh old.owners)
      (length (encode_utf8_all old.kept)))
  pub own : frame.own ≡ on_top own_at old facts new.labels fresh (length old.owners)
  pub below_own : frame.below ≡ on_top below_own_at old facts new.labels fresh (length old.owners)
  pub counted : new.drawn ≡ drawn_after frame.context fresh
  pub rest :
      (new.base ≡ old.base) × (new.levels ≡ old.levels) × (new.page ≡ old.page)
      × (new.cells ≡ old.cells) × (new.kept ≡ old.kept) × (new.ended ≡ old.ended) × (new.out_of_memory ≡ old.out_of_memory)

-- an element that is skipped and adds nothing was opened
abbrev pub skipped_state : State → State
skipped_state old = record old {
  frames = old.frames ++ skipped_frame (handed_on old.page old.frames) ∷ [];
  drawn = drawn_after (handed_on old.page old.frames) old.drawn;
}

-- one more may be opened
pub record MayOpen (old : State) (facts : Facts) : Type 0 where
  pub level : length old.frames < old.levels
  pub root : old.ended ≡ false
  pub drawn : old.drawn + 1 + length (labels facts) ≤ 2 ^ 61

-- before the root
abbrev pub begun_state : Chars → ℕ → State
begun_state base levels = record {
  base = base;
  levels = levels;
  page = record { subject = Iri base; object = Iri base; hanging = []; owner = 0 };
  frames = [];
  labels = [];
  drawn = 0;
  cells = 2 ^ 61;
  owners = Some (owning (Iri base) []) ∷ [];
  kept = [];
  out = [];
  ended = false;
  out_of_memory = false;
}

-- text is kept while some open element gathers it
abbrev pub read_text : Chars → State → State
read_text chars old = record old { kept = (if gathers_some old.frames then old.kept ++ chars else old.kept) }
