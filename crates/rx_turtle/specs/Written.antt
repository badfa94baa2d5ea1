-- The text of triples that are in groups.
use Rattle.std.specs.Prelude.{ℕ, List, [], ◌∷◌, ◌++◌, map, flat_map, codes}
use Rattle.rx_model.specs.Common.{Chars, Triple}
use Rattle.rx_notation.specs.Short.{Prefixes}
use Rattle.rx_notation.specs.Layout.{resource_text, object_text, separated, prefixes_text}
use Rattle.rx_turtle.specs.declared.keys.By.TheVariants as by
use Rattle.rx_turtle.specs.declared.plan.Plan.{Plan}
use Rattle.rx_turtle.specs.Groups.{Keyed, grouped, lent_triples}
use Rattle.rx_turtle.specs.Runs.{runs, Said, said_by, said_in}
use Rattle.rx_turtle.specs.Uses.{chosen}
use Rattle.rx_turtle.specs.Verbs.{key_text}

-- each subject with its predicates, and each of these with its triples
abbrev pub plan : List (Triple ℕ) → List Said
plan list = map said_by (grouped by.Subject list)

abbrev pub objects_text : Prefixes → List (Triple ℕ) → Chars
objects_text context list = separated (codes " , ") (map (λ (t : Triple ℕ). object_text context t.object) list)

abbrev pub group_text : Prefixes → Keyed → Chars
group_text context group = key_text context group.0 ++ (codes " " ++ objects_text context group.1)

-- what is said of a subject, predicate by predicate
abbrev pub lines_text : Prefixes → List Keyed → Chars
lines_text context groups = separated (codes " ;\n    ") (map (group_text context) groups)

abbrev pub said_text : Prefixes → Said → Chars
said_text context said = resource_text context said.0 ++ (codes " " ++ (lines_text context said.1 ++ codes " .\n"))

abbrev pub plan_text : Prefixes → List Said → Chars
plan_text context said = flat_map (said_text context) said

-- ---- triples that are cut where the subject changes, and each part where the predicate does

abbrev pub statements_text : Prefixes → List Keyed → Chars
statements_text context parts = plan_text context (map said_in parts)

abbrev pub first_statement : Prefixes → List Keyed → Chars
first_statement context [] = []
first_statement context (part ∷ parts) = said_text context (said_in part)

abbrev pub first_line : Prefixes → List Keyed → Chars
first_line context [] = []
first_line context (part ∷ parts) = group_text context part

-- all but the first
abbrev pub later : List Keyed → List Keyed
later [] = []
later (part ∷ parts) = parts

-- the text of a plan
abbrev pub planned_text : Plan → Chars
planned_text plan =
    prefixes_text (chosen plan.marks.items plan.shorts) ++ statements_text plan.shorts (runs by.Subject (lent_triples plan.triples.items))
