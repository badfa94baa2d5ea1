-- Pages that are refused for what their start tags mean.
use Rattle.std.specs.Prelude.{List, [], ◌∷◌, Option, None, option_map}
use Rattle.rx_rdfa.specs.Common.{option_or, Fault, StartTag, facts, Context, Refusal, refusal, ElementTag, read_tag}
use Rattle.rx_curie.specs.Given.{kind_of_refusal}
use Rattle.rx_nest.specs.Signs.{Sign, begun, said, finished}
use Rattle.rx_base.specs.Lines.{line_on}

-- the fault of a tag that is refused for this
abbrev pub refusal_fault : StartTag → Refusal → Fault
refusal_fault t refused = record { kind = kind_of_refusal refused; token = t.token; at = t.at }

abbrev pub refused_at : Context → List ElementTag → Sign → Option Fault
refused_at context line (begun t) = option_map (refusal_fault t) (refusal (facts context line (read_tag t)))
refused_at context line (said c) = None
refused_at context line finished = None

-- the first start tag below a line that is refused
abbrev pub refused_in : Context → List ElementTag → List Sign → Option Fault
refused_in context line [] = None
refused_in context line (sign ∷ signs) = option_or (refused_at context line sign) (refused_in context (line_on line sign) signs)
