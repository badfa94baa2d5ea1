use Rattle.rx_command.proofs.Common.{ap, refl, Err, Stays, moves_same, several_seen}
use Rattle.rx_command.proofs.SeveralLemmas.{ends_done, ends_partly}
use Rattle.rx_command.proofs.top.run_several.Goals as goal

pub returns-in-Ok-put_all-clause-ends : goal.returns-in-Ok-put_all-clause-ends
returns-in-Ok-put_all-clause-ends g c =
    ends_done (several_seen c.args.several) _ _ c.in-Ok.many c.in-Ok-text.text.items c.as_slice.result.now c.as_slice.ensures.value c.in-Ok-text.ensures.bytes c.in-Ok-text.ensures.denotes c.in-Ok.ensures.ok c.gather.ensures.takes c.in-Ok-put_all.ensures.ok
    (moves_same Stays (λ x. refl) (g.E.Sink.held c.args.err.now), refl)

pub returns-in-Ok-text-clause-ends : goal.returns-in-Ok-text-clause-ends
returns-in-Ok-text-clause-ends g c =
    ends_partly (several_seen c.args.several) _ _ c.in-Ok.many c.in-Ok-text.text.items c.as_slice.result.now c.as_slice.ensures.value c.in-Ok-text.ensures.bytes c.in-Ok.ensures.ok c.gather.ensures.takes c.in-Err-put_all.ensures.err c.in-Err-put_all.ensures.cause
    (moves_same Stays (λ x. refl) (g.E.Sink.held c.args.err.now), refl)

pub returns-in-Err-Failed-clause-ends : goal.returns-in-Err-Failed-clause-ends
returns-in-Err-Failed-clause-ends g c = record {
  ends = (c.in-Err-Failed.ensures.failed (ap Err c.in-Err-Failed.field-0-is), moves_same Stays (λ x. refl) (g.O.Sink.held c.args.out.now));
  takes = c.gather.ensures.takes;
  says = (moves_same Stays (λ x. refl) (g.E.Sink.held c.args.err.now), refl);
}

pub returns-in-Err-BadContext-clause-ends : goal.returns-in-Err-BadContext-clause-ends
returns-in-Err-BadContext-clause-ends g c = record {
  ends = (
    c.in-Err-BadContext.ensures.named (ap Err c.in-Err-BadContext.field-0-is),
    c.in-Err-BadContext.ensures.bad (ap Err c.in-Err-BadContext.field-0-is),
    c.in-Err-BadContext.ensures.bad_takes (ap Err c.in-Err-BadContext.field-0-is),
    moves_same Stays (λ x. refl) (g.O.Sink.held c.args.out.now),
  );
  takes = c.gather.ensures.takes;
  says = c.say.ensures;
}

pub returns-in-Err-NoMemory-clause-ends : goal.returns-in-Err-NoMemory-clause-ends
returns-in-Err-NoMemory-clause-ends g c = record {
  ends = moves_same Stays (λ x. refl) (g.O.Sink.held c.args.out.now);
  takes = c.gather.ensures.takes;
  says = (moves_same Stays (λ x. refl) (g.E.Sink.held c.args.err.now), refl);
}

pub returns-clause-ends : goal.returns-clause-ends
returns-clause-ends g c = record {
  ends = moves_same Stays (λ x. refl) (g.O.Sink.held c.args.out.now);
  takes = c.gather.ensures.takes;
  says = (moves_same Stays (λ x. refl) (g.E.Sink.held c.args.err.now), refl);
}

pub unreachable-requires : goal.unreachable-requires
unreachable-requires g c = c.in-Err-Refused.ensures.not_refused c.in-Err-Refused._fault (ap Err c.in-Err-Refused.field-0-is)
