-- What is known of a page's elements after some signs of it.
use Rattle.std.specs.Prelude.{◌≡◌, ℕ, false, List, [], ◌∷◌, ◌++◌, length, None, Result}
use Rattle.rx_rdfa.specs.Common.{Chars, facts, Context, vocab, is_relative, ElementTag, Stop}
use Rattle.rx_names.specs.Lines as names
use Rattle.rx_curie.specs.declared.facts.Facts.{Facts as CodeFacts}
use Rattle.rx_curie.specs.Given.{vocabulary_from}
use Rattle.rx_curie.specs.Seen.{facts_seen}
use Rattle.rx_nest.specs.Signs.{Sign}
use Rattle.rx_nest.specs.Fronts.{IsFront}
use Rattle.rx_nest.specs.Ways.{Way}
use Rattle.rx_nest.specs.Listening as listening
use Rattle.rx_walk.specs.declared.courses.RdfaListener.{RdfaListener}
use Rattle.rx_base.specs.Lines.{line_of}
use Rattle.rx_walk.specs.CallsOf.{calls_of}
use Rattle.rx_base.specs.Seekings.{sought}
use Rattle.rx_walk.specs.Refused.{refused_in}
use Rattle.rx_walk.specs.Settings.{Setting, way_of}
use Rattle.rx_walk.specs.Stages.{Staged, MayBe}

-- the vocabulary in force at each element of the line has a scheme, where there is one
abbrev pub AllAbsolute : List ElementTag → Type 0
AllAbsolute [] = Unit {0}
AllAbsolute (tag ∷ line) = (is_relative (vocab (tag ∷ line)) ≡ false) × AllAbsolute line

-- The course stands for these signs, in which nothing is refused: the names in force are those of the open elements, which
-- are counted; and the calls for the signs were told, or are kept while the base is sought.
pub record CourseStands (context : Context) (address : Chars) (levels : ℕ) (course : RdfaListener) (signs : List Sign) : Type 0 where
  pub names_are : names.NamesStand course.names (line_of [] signs)
  pub context_is : course.names.context ≡ context
  pub address_is : course.origin.address ≡ address
  pub levels_are : course.origin.levels ≡ levels
  pub count_is : course.count ≡ length (line_of [] signs)
  pub absolute : AllAbsolute (line_of [] signs)
  pub may : MayBe levels (calls_of context [] signs)
  pub accepted : refused_in context [] signs ≡ None
  pub staged : Staged address levels (sought signs) (calls_of context [] signs) course.stage

-- a walk's course, as it was made with a setting and the page's address
abbrev pub runs_at : Setting × Chars → RdfaListener → List Sign → Type 0
runs_at made course signs = CourseStands made.0.context made.1 made.0.limits.depth course signs

-- and how a page is read then
abbrev pub way_at : Setting × Chars → Way
way_at made = way_of made.0

-- the course stands for some signs, and these may come next
abbrev pub CourseMayHear : RdfaListener → List Sign → Type 0
CourseMayHear course more = listening.MayHear way_at runs_at course more

-- these are the facts of the tag, wherever the names are those of it and of a line above it
abbrev pub AreFacts : names.KeptNames → ElementTag → CodeFacts → Type 0
AreFacts kept tag made = (above : List ElementTag) → names.NamesStand kept (tag ∷ above) → facts_seen made ≡ facts kept.context above tag

-- what holds of a start tag wherever the names are those of it and of a line above it, under which its vocabulary has a scheme
abbrev pub BelowLine : names.KeptNames → ElementTag → (List ElementTag → Type 0) → Type 0
BelowLine kept tag holds =
    (above : List ElementTag) → names.NamesStand kept (tag ∷ above) → is_relative (vocabulary_from above tag) ≡ false → holds above

-- what becomes of the course with these signs, or which of them is refused
abbrev pub CourseHears : Context → Chars → ℕ → List Sign → List Sign → Result (Unit {0}) Stop → RdfaListener → Type 0
CourseHears context address levels signs more result new = listening.Hears (refused_in context []) (CourseStands context address levels) signs more result new

-- the same of whatever signs the course stands for, if these may come next
abbrev pub HearsOn : RdfaListener → List Sign → Result (Unit {0}) Stop → RdfaListener → Type 0
HearsOn old more result new =
    (context : Context) (address : Chars) (levels : ℕ) (signs : List Sign) → CourseStands context address levels old signs
    → IsFront levels (signs ++ more) → CourseHears context address levels signs more result new
