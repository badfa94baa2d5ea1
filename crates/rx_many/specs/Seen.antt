-- The code's values as the definitions see them.
use Rattle.std.specs.Prelude.{ℕ}
use Rattle.rx_model.specs.Seen.{triple_seen, triples_seen}
use Rattle.rx_many.specs.Pages.{JudgedPage, Judgement, refused, accepted}
use Rattle.rx_many.specs.Lines.{QuadLine, statement}
use Rattle.rx_many.specs.declared.pages.Page.{Page as CodePage}
use Rattle.rx_many.specs.declared.pages.Judgement.{Judgement as CodeJudgement}
use Rattle.rx_many.specs.declared.pages.Judgement.TheVariants as code
use Rattle.rx_many.specs.declared.statements.Statement.{Statement}

abbrev pub judgement_seen : CodeJudgement → Judgement
judgement_seen (code.Refused fault) = refused fault
judgement_seen (code.Accepted graph) = accepted (triples_seen graph)

abbrev pub page_seen : CodePage → JudgedPage
page_seen page = record { address = page.address; judgement = judgement_seen page.judgement }

abbrev pub statement_seen : Statement → QuadLine ℕ
statement_seen s = statement s.name (triple_seen s.triple)
