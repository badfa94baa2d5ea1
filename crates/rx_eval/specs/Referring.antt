-- An element that says no more than what it refers to: where it stands, nothing waits for a subject, and its frame is known
-- by the resource alone.
use Rattle.std.specs.Prelude.{◌≡◌, ◌<◌, ◌≤◌, ◌+◌, true, false, ℕ, [], ◌∷◌, ◌++◌, Bool, Option, Some, None, is_none, ◌&&◌, length, nat_eq, if◌then◌else◌}
use Rattle.rx_rdfa.specs.Common.{Chars, node_seen, Node, Iri, Blank, same_node, Facts, Ref, IriRef, LabelRef, RelativeRef, Inherited}
use Rattle.rx_eval.specs.ElementResources.{claims_nothing}
use Rattle.rx_eval.specs.OwnersSeen.{trimmed_owners}
use Rattle.rx_eval.specs.Entering.{begun_seen, owner_begun}
use Rattle.rx_eval.specs.Keeping.{gathers_some}
use Rattle.rx_eval.specs.Opened.{handed_on}
use Rattle.rx_eval.specs.Skipping.{skipped_frames}
use Rattle.rx_eval.specs.States.{Frame, State}
use Rattle.rx_eval.specs.declared.pending.Pending.{Pending}

-- nothing is said, but for what href refers to
abbrev pub says_no_more : Facts → Bool
says_no_more facts = claims_nothing facts && (is_none facts.about && (is_none facts.resource && is_none facts.src))

abbrev pub reference_in : Option Ref → Option Chars
reference_in None = None
reference_in (Some (IriRef iri)) = None
reference_in (Some (LabelRef label)) = None
reference_in (Some (RelativeRef reference)) = Some reference

-- the reference of href, where nothing else is said
abbrev pub only_reference : Facts → Option Chars
only_reference facts = if says_no_more facts then reference_in facts.href else None

-- what the children of such an element inherit, the next owner of lists having this number
abbrev pub referring_context : Inherited ℕ ℕ → ℕ → Node ℕ → Inherited ℕ ℕ
referring_context around n subject = record {
  subject = subject;
  object = subject;
  hanging = [];
  owner = (if same_node nat_eq subject around.object then around.owner else n);
}

abbrev pub referring_frame : Inherited ℕ ℕ → ℕ → Node ℕ → Frame
referring_frame around n subject = record {
  context = referring_context around n subject;
  own = owner_begun subject around.object n;
  below = None;
  text = None;
}

-- such an element is open, and so many in it of which nothing is said
abbrev pub referred_by : Node ℕ → ℕ → State → State
referred_by subject inside old = record old {
  frames =
      old.frames
      ++ referring_frame (handed_on old.page old.frames) (length old.owners) subject
      ∷ skipped_frames (referring_context (handed_on old.page old.frames) (length old.owners) subject) inside;
  owners = begun_seen subject (handed_on old.page old.frames).object old.owners;
}

-- the state with the element that waits for its frame
abbrev pub with_pending : Option Pending → State → State
with_pending None state = state
with_pending (Some pending) state = referred_by (node_seen pending.subject) pending.inside state

-- ---- where one may wait

-- the last frame isn't the page, and no triple waits for a subject inside it; the last owner of lists hasn't ended; where no
-- open element gathers its text, none is kept
pub record LetsWait (state : State) : Type 0 where
  pub rooted : 0 < length state.frames
  pub nothing_hangs : (handed_on state.page state.frames).hanging ≡ []
  pub tidy : trimmed_owners state.owners ≡ state.owners
  pub quiet : gathers_some state.frames ≡ false → state.kept ≡ []

-- this is an IRI
abbrev pub is_iri_node : Node ℕ → Bool
is_iri_node (Iri iri) = true
is_iri_node (Blank n) = false

-- an element that refers to this may wait inside the last frame, with so many in it
pub record MayWait (subject : Node ℕ) (inside : ℕ) (state : State) : Type 0 where
  pub lets : LetsWait state
  pub iri : is_iri_node subject ≡ true
  pub room : length state.frames + 1 + inside ≤ state.levels

-- an element that waits may do so
abbrev pub PendingMayWait : Option Pending → State → Type 0
PendingMayWait None state = Unit {0}
PendingMayWait (Some pending) state = MayWait (node_seen pending.subject) pending.inside state
