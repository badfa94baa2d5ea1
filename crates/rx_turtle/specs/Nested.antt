-- The text of a nested plan.
use Rattle.std.specs.Prelude.{List, ◌++◌, flat_map}
use Rattle.rx_model.specs.Common.{Chars, Among}
use Rattle.rx_notation.specs.Layout.{prefixes_text}
use Rattle.rx_turtle.specs.declared.nested_plan.NestedPlan.{NestedPlan}
use Rattle.rx_turtle.specs.declared.tokens.Token.{Token}
use Rattle.rx_turtle.specs.Tokens.{Shown, tokens_seen, shown_texts, iris_of_shown, WritableShown}
use Rattle.rx_turtle.specs.Uses.{chosen}

abbrev pub iris_of_tokens : List Token → List Chars
iris_of_tokens tokens = flat_map iris_of_shown (tokens_seen tokens)

-- all that the tokens show can be written
pub record AreWritable (tokens : List Token) : Type 0 where
  pub each : (shown : Shown) → Among (tokens_seen tokens) shown → WritableShown shown

abbrev pub nested_of : NestedPlan → Chars
nested_of plan = prefixes_text (chosen plan.marks.items plan.shorts) ++ shown_texts plan.shorts (tokens_seen plan.tokens.items)
