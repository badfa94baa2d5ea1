use Rattle.rx_scan.proofs.Common.{◌≡◌, ℕ, List, true, take, subst, list_all, IsUtf8, take_rest, is_plain_char}
use Rattle.rx_scan.proofs.PlainLemmas.{ascii_plain, ascii_text, plain_more, text_more}
use Rattle.rx_scan.proofs.FrontLemmas.{front_within}
use Rattle.rx_scan.proofs.plain.text_length.Goals as goal

pub loop-count-init : goal.loop-count-init
loop-count-init c =
    let front = take c.args.from c.args.bytes.now in
    record { fits = c.requires.from; text = ascii_text front c.requires.plain; plain = ascii_plain front c.requires.plain }

pub loop-count-preserved : goal.loop-count-preserved
loop-count-preserved c =
    let bytes = c.args.bytes.now in
    let i = c.loop-count.count in
    let n = c.run_length-more.result in
    let run = c.run_length-more.ensures in
    let rest = take_rest bytes i in
    record {
      fits = front_within bytes i n c.loop-count.invariant.fits run.fits;
      text = text_more i n bytes c.loop-count.invariant.text (subst (λ (x : List ℕ). IsUtf8 (take n x)) rest run.text);
      plain = plain_more i n bytes c.loop-count.invariant.plain (subst (λ (x : List ℕ). list_all is_plain_char (take n x) ≡ true) rest run.plain);
    }
