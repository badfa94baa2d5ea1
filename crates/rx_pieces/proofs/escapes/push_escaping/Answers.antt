use Rattle.rx_terms.proofs.Common.{◌≡◌, ◌∙◌, ap, chars, chars_past_char, IsUtf8-past_char, chars-end, chars_rest}
use Rattle.rx_pieces.specs.Underway.{delivery}
use Rattle.rx_pieces.proofs.Adding.{left_start, left_less, left_none}
use Rattle.rx_pieces.proofs.escapes.push_escaping.Goals as goal

pub loop-c-init : goal.loop-c-init
loop-c-init g c =
    let whole : chars_rest c.into_iter-c-iterator.result ≡ c.args.text.now = ap chars_rest c.into_iter-c-iterator.ensures.into_iter_gives ∙ c.chars-c-items.ensures.rest in
    record {
      can_next = tt;
      finite = tt;
      utf8 = rw whole c.utf8.text;
      left = left_start _ _ _ (ap chars whole);
    }

pub loop-c-preserved : goal.loop-c-preserved
loop-c-preserved g c =
    let behind = chars_past_char _ _ _ c.loop-c.invariant.utf8 c.in-Some.ensures.steps.0 in
    let p = c.push_char in
    record {
      can_next = tt;
      finite = tt;
      utf8 = IsUtf8-past_char _ _ _ c.loop-c.invariant.utf8 c.in-Some.ensures.steps.0;
      left = left_less {start = delivery c.args.out.now (g.S.Sink.held c.args.sink.now) (g.S.Sink.faults c.args.sink.now)} {next = delivery p.new.out (g.S.Sink.held p.new.sink) (g.S.Sink.faults p.new.sink)} c.in-Some.c _
          c.loop-c.invariant.left behind p.ensures;
    }

pub returns : goal.returns
returns g c = left_none c.loop-c.invariant.left (chars-end _ c.in-None.ensures.steps.0.0)
