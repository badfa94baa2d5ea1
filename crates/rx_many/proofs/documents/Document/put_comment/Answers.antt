use Rattle.rx_many.proofs.Common.{◌∙◌, ◌++◌, ap, refl, on_ok_weaker}
use Rattle.rx_many.proofs.LineLemmas.{stands_comment}
use Rattle.rx_many.proofs.documents.Document.put_comment.Goals as goal

pub returns : goal.returns
returns c shared lines s =
    on_ok_weaker c.put_bytes-put.result
    (λ put. stands_comment shared c.args.self.now _ lines s c.args.address.now c.args.fault
    (ap (λ lines. lines.bytes) put ∙ ap (λ z. c.args.self.now.text.bytes ++ z) (c.as_bytes.ensures.value ∙ c.in_ok-line.ensures.spelled)) refl refl c.in_ok-line.ensures.writable)
    c.put_bytes-put.ensures.bytes
