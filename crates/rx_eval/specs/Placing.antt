-- The resources of one element by themselves.
use Rattle.std.specs.Prelude.{◌≡◌, ℕ, Bool, [], Option, option_map}
use Rattle.rx_rdfa.specs.Common.{Chars, Node, node_seen, Facts, labels, Inherited, Resources, resources}
use Rattle.rx_eval.specs.Blanks.{number_after}
use Rattle.rx_eval.specs.Labels.{Numbered, draw}
use Rattle.rx_eval.specs.Moment.{moment}
use Rattle.rx_eval.specs.Places.{level_at, standing_by}
use Rattle.rx_eval.specs.declared.placed.Placed.{Placed}

abbrev pub resources_of : Node ℕ → Option (Node ℕ) → Option (Node ℕ) → Bool → Resources ℕ
resources_of subject typed object skipped = record { subject = subject; typed = typed; object = object; skipped = skipped }

abbrev pub placed_seen : Placed → Resources ℕ
placed_seen placed = resources_of (node_seen placed.subject) (option_map node_seen placed.typed) (option_map node_seen placed.object) placed.skipped

-- a context of which only the subject and the object are known
abbrev pub plain_context : Node ℕ → Node ℕ → Inherited ℕ ℕ
plain_context subject object = record { subject = subject; object = object; hanging = []; owner = 0 }

-- the labels have drawn their numbers, and the resources are those of the rules
pub record Places (old : Numbered) (next : ℕ) (base : Chars) (around : ℕ) (subject object : Node ℕ) (facts : Facts)
    (new : Numbered) (placed : Placed) : Type 0 where
  pub fresh : ℕ
  pub drawing : draw old next (labels facts) ≡ (new, fresh)
  pub found :
      placed_seen placed ≡ resources (moment new fresh 0 0) base (standing_by (level_at around) (plain_context subject object) facts)
  pub counted : placed.next_blank ≡ number_after (placed_seen placed) fresh
