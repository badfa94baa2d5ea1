use Rattle.rx_refs.proofs.Common.{◌≡◌, ◌∙◌, ◌++◌, ◌∷◌, ◌<◌, refl, [], ap, sym, length, arith, length-append, rules, chars, Chars, append_assoc, append-nil, through_last_slash}
use Rattle.rx_refs.proofs.DotLemmas.{takes-none, takes-segment}
use Rattle.rx_refs.proofs.CutLemmas.{through-slash, through-none}
use Rattle.rx_refs.proofs.dots.GrownPath.push_closed.Goals as goal

pub loop-segment-init : goal.loop-segment-init
loop-segment-init c = record { utf8 = c.utf8.path; taken = []; whole = refl; closed = refl; takes = takes-none c.args.self.now }

shorter : (whole front rest : Chars) → whole ≡ front ++ 47 ∷ rest → length rest < length whole
shorter whole front rest e = omega (arith, ap length e, length-append front (47 ∷ rest))

pub loop-segment-smaller : goal.loop-segment-smaller
loop-segment-smaller c = shorter (chars c.loop-segment.rest.now) (chars c.in-Some.segment.now) (chars c.in-Some.behind.now) c.in-Some.ensures.0

next_whole : (path taken rest segment behind : Chars) → path ≡ taken ++ rest → rest ≡ segment ++ 47 ∷ behind → path ≡ (taken ++ (segment ++ 47 ∷ [])) ++ behind
next_whole path taken rest segment behind e f = e ∙ ap (λ (x : Chars). taken ++ x) f ∙ sym (simp append_assoc)

next_closed : (path taken rest segment behind : Chars) → through_last_slash path ≡ taken ++ through_last_slash rest → rest ≡ segment ++ 47 ∷ behind
    → through_last_slash path ≡ (taken ++ (segment ++ 47 ∷ [])) ++ through_last_slash behind
next_closed path taken rest segment behind e f =
    e ∙ ap (λ (x : Chars). taken ++ x) (ap through_last_slash f ∙ through-slash segment behind) ∙ sym (simp append_assoc)

pub loop-segment-preserved : goal.loop-segment-preserved
loop-segment-preserved c =
    let i = c.loop-segment.invariant in
    let taken = i.taken in
    let segment : Chars = chars c.in-Some.segment.now in
    let behind : Chars = chars c.in-Some.behind.now in
    record {
      utf8 = search rules;
      taken = taken ++ (segment ++ 47 ∷ []);
      whole = next_whole (chars c.args.path.now) taken (chars c.loop-segment.rest.now) segment behind i.whole c.in-Some.ensures.0;
      closed = next_closed (chars c.args.path.now) taken (chars c.loop-segment.rest.now) segment behind i.closed c.in-Some.ensures.0;
      takes = rw c.in_ok-push_segment.ensures (takes-segment c.args.self.now c.loop-segment.self taken segment c.in-Some.ensures.1 i.takes);
    }

at_end : (path taken rest : Chars) → through_last_slash path ≡ taken ++ through_last_slash rest → through_last_slash rest ≡ [] → through_last_slash path ≡ taken
at_end path taken rest e f = e ∙ ap (λ (x : Chars). taken ++ x) f ∙ append-nil taken

pub returns-clause-takes : goal.returns-clause-takes
returns-clause-takes c =
    let i = c.loop-segment.invariant in
    rw (at_end (chars c.args.path.now) i.taken (chars c.loop-segment.rest.now) i.closed (through-none (chars c.loop-segment.rest.now) c.in_default.ensures)) i.takes

pub returns-clause-rest : goal.returns-clause-rest
returns-clause-rest c =
    let i = c.loop-segment.invariant in
    let rest : Chars = chars c.loop-segment.rest.now in
    i.whole ∙ ap (λ (x : Chars). x ++ rest) (sym (at_end (chars c.args.path.now) i.taken rest i.closed (through-none rest c.in_default.ensures)))
