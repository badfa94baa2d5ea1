use Rattle.std.proofs.Common.{◌++◌, [], ◌∷◌, ap, ◌∙◌, List, ℕ}
use Rattle.rx_chars.specs.Utf8.{answer_of}
use Rattle.rx_chars.specs.Held.{held_bytes}
use Rattle.rx_chars.proofs.Utf8Exact.{answers_from, rows_begin}
use Rattle.rx_chars.proofs.utf8.Utf8.step.Goals as goal

pub with-self-inside-requires : goal.with-self-inside-requires
with-self-inside-requires c =
    rows_begin (held_bytes c.self.inside.held ++ c.args.byte ∷ []) (rw c.in-More.is at
    (answers_from (held_bytes c.self.inside.held ++ c.args.byte ∷ []) c.answer-answer.result c.answer-answer.ensures))

pub returns-clause-answers : goal.returns-clause-answers
returns-clause-answers c =
    answers_from (c.args.self.now ++ c.args.byte ∷ []) c.answer-answer.result
    (c.answer-answer.ensures ∙ ap (λ (bytes : List ℕ). answer_of (bytes ++ c.args.byte ∷ [])) c.self.view_is)
