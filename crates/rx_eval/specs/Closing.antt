-- The end of an element, part by part.
use Rattle.std.specs.Prelude.{◌≡◌, ℕ, List, [], ◌∷◌, map}
use Rattle.rx_terms.specs.declared.triples.Term.{Term as CodeTerm}
use Rattle.rx_model.specs.Common.{Node, Term, Triple, spo, Chars}
use Rattle.rx_lists.specs.Owners.{Owners, changed, with_term}
use Rattle.rx_lists.specs.declared.lists.SlotId.{SlotId}
use Rattle.rx_eval.specs.TextRules.{text_literal}
use Rattle.rx_eval.specs.OwnersSeen.{owners_seen, fill_all}
use Rattle.rx_eval.specs.declared.frames.Gathered.{Gathered}
use Rattle.rx_eval.specs.declared.frames.Target.{Target}
use Rattle.rx_eval.specs.declared.frames.Target.TheVariants.{Said, Listed}

-- the new owners are the old ones with the term in each of these places
abbrev pub Fills : Owners → Owners → List SlotId → Term ℕ → Type 0
Fills old new slots term = owners_seen new ≡ fill_all slots term (owners_seen old)

-- the owners with the term in each of the places
abbrev pub filled_in : List SlotId → CodeTerm → Owners → Owners
filled_in [] value owners = owners
filled_in (slot ∷ slots) value owners = filled_in slots value (changed (with_term slot.list slot.place value) owners slot.owner.0)

abbrev pub target_triples : Target → Node ℕ → Term ℕ → List (Triple ℕ)
target_triples (Said predicates) subject value = map (λ p. spo subject p value) predicates
target_triples (Listed slots) subject value = []

-- the value that the text is
abbrev pub gathered_value : Gathered → Chars → Term ℕ
gathered_value gathered text = text_literal gathered.rule text

-- the places in lists for the value
abbrev pub slots_in : Target → List SlotId
slots_in (Said predicates) = []
slots_in (Listed slots) = slots.items
