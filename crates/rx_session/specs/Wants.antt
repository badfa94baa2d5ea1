-- What a session is opened for.
use Rattle.std.specs.Prelude.{ℕ, Bool, true, false, Option}
use Rattle.rx_rdfa.specs.Common.{Chars, Context}
use Rattle.rx_job.specs.declared.formats.Format.{Format}
use Rattle.rx_job.specs.declared.formats.Format.TheVariants as format
use Rattle.rx_job.specs.Words as words
use Rattle.rx_job.specs.Words.{Task, Extraction, extracts}
use Rattle.rx_page.specs.Forms.{form_in}
use Rattle.rx_session.specs.declared.outputs.Output.{Output}
use Rattle.rx_session.specs.declared.outputs.Output.TheVariants as output
use Rattle.rx_session.specs.declared.outputs.Plan.{Plan}
use Rattle.rx_session.specs.declared.outputs.Plan.TheVariants as plan
use Rattle.rx_session.specs.declared.sessions.Extraction.{Extraction as CodeExtraction}

-- a task of the command; of an extraction also the number of the first blank node, and whether its quads are handed over
-- singly, in place of a text
pub record Want : Type 0 where
  pub task : Task
  pub first : ℕ
  pub singly : Bool

-- a task with nothing besides
abbrev pub plain : Task → Want
plain task = record { task = task; first = 0; singly = false }

-- where quads are handed over no format is asked for: N-Quads stands for it, which denotes them
abbrev pub output_format : Output → Format
output_format (output.Text f) = f
output_format output.Quads = format.Nquads

abbrev pub is_singly : Output → Bool
is_singly (output.Text f) = false
is_singly output.Quads = true

-- the graph of what is handed over may have a name
abbrev pub may_name_graph : Output → Bool
may_name_graph (output.Text f) = words.names_graphs f
may_name_graph output.Quads = true

-- what is asked of an extraction
abbrev pub extraction_seen : CodeExtraction → Want
extraction_seen e = record {
  task = extracts (record { syntax = e.syntax; format = output_format e.output; graph = e.graph; address = e.address });
  first = e.first;
  singly = is_singly e.output;
}

-- how triples are handed over: singly, or in a format; in the graph of this name, under the context's prefixes
abbrev pub plan_for : Bool → Format → Option Chars → Context → Plan
plan_for true f graph context = plan.Quads graph
plan_for false f graph context = plan.Text (form_in f graph context)
