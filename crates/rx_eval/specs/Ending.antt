-- What the end of an element does to the triples and the lists.
use Rattle.std.specs.Prelude.{◌≡◌, ℕ, ◌+◌, ◌==◌, true, List, [], ◌∷◌, ◌++◌, map, filter_map, length, Option, Some, None, if◌then◌else◌}
use Rattle.rx_model.specs.Common.{Chars, Node, Term, Triple, spo, triples_seen}
use Rattle.rx_values.specs.Marks.{CutAt}
use Rattle.rx_terms.specs.declared.triples.Triple.{Triple as CodeTriple}
use Rattle.rx_lists.specs.Owners.{Owners, itself}
use Rattle.rx_lists.specs.Cells.{size}
use Rattle.rx_eval.specs.TextRules.{text_literal}
use Rattle.rx_eval.specs.OwnersSeen.{Owning, owners_seen, open_seen, cells_seen, forgotten_seen, fill_all}
use Rattle.rx_eval.specs.States.{Text, Frame, State}
use Rattle.rx_eval.specs.Keeping.{gathers_some}

-- the triples so far, the owners of lists, and the next number of a cell
pub record Ending : Type 0 where
  pub out : List (Triple ℕ)
  pub owners : List (Option Owning)
  pub cells : ℕ

abbrev pub ending : List (Triple ℕ) → List (Option Owning) → ℕ → Ending
ending out owners cells = record { out = out; owners = owners; cells = cells }

abbrev pub ending_seen : List CodeTriple → Owners → ℕ → Ending
ending_seen out owners cells = ending (triples_seen out) (owners_seen owners) cells

-- one state of these becomes another
pub record EndingBecomes (old : Ending) (step : Ending → Ending) (new : Ending) : Type 0 where
  pub path : new ≡ step old

-- how many cells an owner's lists have
abbrev pub cells_count : Option Owning → ℕ
cells_count None = 0
cells_count (Some o) = size (map (λ row. (row.0, filter_map itself row.1)) o.lists)

-- step 14: an owner's lists are written, and the owner is forgotten
abbrev pub end_owner : Option ℕ → Ending → Ending
end_owner None e = e
end_owner (Some owner) e =
    ending (e.out ++ cells_seen e.cells (open_seen e.owners owner)) (forgotten_seen e.owners owner) (e.cells + cells_count (open_seen e.owners owner))

abbrev pub said_triples : Option (List Chars) → Node ℕ → Term ℕ → List (Triple ℕ)
said_triples None subject value = []
said_triples (Some predicates) subject value = map (λ p. spo subject p value) predicates

-- step 11: the value that the text is
abbrev pub say_text : Option Text → Chars → Ending → Ending
say_text None chars e = e
say_text (Some text) chars e =
    ending (e.out ++ said_triples text.said text.subject (text_literal text.by chars)) (fill_all text.slots (text_literal text.by chars) e.owners) e.cells

-- the values that are the element's text, the lists of its object, those of its subject
abbrev pub end_frame : Frame → Chars → Ending → Ending
end_frame frame chars e = end_owner frame.own (end_owner frame.below (say_text frame.text chars e))

-- behind the front stands the element's text
abbrev pub TextAt : Option Text → Chars → Chars → Chars → Type 0
TextAt None kept front chars = Unit {0}
TextAt (Some text) kept front chars = CutAt kept text.mark front chars

-- the element has ended, whatever text stands in what is kept behind its mark
abbrev pub EndsFrame : Frame → Chars → Ending → Ending → Type 0
EndsFrame frame kept old new = (front chars : Chars) → TextAt frame.text kept front chars → EndingBecomes old (end_frame frame chars) new

-- the last element was closed; at the root's end the page's own lists are written. Text that no open element gathers is
-- dropped.
pub record Closes (old new : State) : Type 0 where
  pub frame : Frame
  pub popped : old.frames ≡ new.frames ++ frame ∷ []
  pub endings :
      (front chars : Chars) → TextAt frame.text old.kept front chars
      → ending new.out new.owners new.cells
      ≡ end_owner (if length new.frames == 0 then Some old.page.owner else None) (end_frame frame chars (ending old.out old.owners old.cells))
  pub kept : new.kept ≡ (if gathers_some new.frames then old.kept else [])
  pub ended : new.ended ≡ (if length new.frames == 0 then true else old.ended)
  pub rest :
      (new.base ≡ old.base) × (new.levels ≡ old.levels) × (new.page ≡ old.page)
      × (new.labels ≡ old.labels) × (new.drawn ≡ old.drawn) × (new.out_of_memory ≡ old.out_of_memory)
