use Rattle.rx_terms.proofs.Common.{codes, refl, ascii-chars}
use Rattle.rx_turtle.proofs.token_texts.words_text.Goals as goal

pub returns-in-Space : goal.returns-in-Space
returns-in-Space c = rw c.in-Space.is (ascii-chars (codes " ") refl)

pub returns-in-Comma : goal.returns-in-Comma
returns-in-Comma c = rw c.in-Comma.is (ascii-chars (codes " , ") refl)

pub returns-in-LineGap : goal.returns-in-LineGap
returns-in-LineGap c = rw c.in-LineGap.is (ascii-chars (codes " ;\n    ") refl)

pub returns-in-InsideGap : goal.returns-in-InsideGap
returns-in-InsideGap c = rw c.in-InsideGap.is (ascii-chars (codes " ; ") refl)

pub returns-in-Open : goal.returns-in-Open
returns-in-Open c = rw c.in-Open.is (ascii-chars (codes "[ ") refl)

pub returns-in-Close : goal.returns-in-Close
returns-in-Close c = rw c.in-Close.is (ascii-chars (codes " ]") refl)

pub returns-in-OpenList : goal.returns-in-OpenList
returns-in-OpenList c = rw c.in-OpenList.is (ascii-chars (codes "( ") refl)

pub returns-in-CloseList : goal.returns-in-CloseList
returns-in-CloseList c = rw c.in-CloseList.is (ascii-chars (codes " )") refl)

pub returns-in-Empty : goal.returns-in-Empty
returns-in-Empty c = rw c.in-Empty.is (ascii-chars (codes "[]") refl)

pub returns-in-Nil : goal.returns-in-Nil
returns-in-Nil c = rw c.in-Nil.is (ascii-chars (codes "()") refl)

pub returns-in-End : goal.returns-in-End
returns-in-End c = rw c.in-End.is (ascii-chars (codes " .\n") refl)
