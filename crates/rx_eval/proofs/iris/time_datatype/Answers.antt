use Rattle.rx_eval.proofs.iris.time_datatype.Goals as goal

pub returns-in-YearMonth : goal.returns-in-YearMonth
returns-in-YearMonth c = rw c.in-YearMonth.is c.iri-in-YearMonth.ensures
