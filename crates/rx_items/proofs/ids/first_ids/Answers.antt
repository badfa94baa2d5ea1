use Rattle.rx_items.proofs.Common.{◌≡◌, ◌∙◌, ◌+◌, ◌-◌, List, Option, option_map, ap, sym, arith, subst, chars, Placed, first_with_id, nothing_kept, ShowsWord, id_place}
use Rattle.rx_items.specs.declared.spans.Span.{Span}
use Rattle.rx_items.proofs.IdLemmas.{no_ids, empty_ids, row_shown, id_turn, all_ids}
use Rattle.rx_items.proofs.ids.first_ids.Goals as goal

pub loop-place-init : goal.loop-place-init
loop-place-init c gathered times ps shows n text utf8 =
    empty_ids c.new-ids.result text c.new-ids.ensures.empty
    ∙ sym (ap (λ (l : List Placed). option_map (λ (p : Placed). p.place) (first_with_id l (chars text))) (no_ids c.args.words.now gathered times c.args.rows.now ps shows))

pub loop-place-preserved : goal.loop-place-preserved
loop-place-preserved c gathered times ps shows n text utf8 =
    let l = c.loop-place in
    let above = c.loop-place-test.true in
    let shown = row_shown c.args.words.now gathered times c.args.rows.now ps (l.place - 1) nothing_kept shows (omega (arith, above, l.auto.place)) in
    let next : l.place ≡ (l.place - 1) + 1 = omega (arith, above) in
    id_turn ps (l.place - 1) l.place shown.0 (chars text) (id_place c.note_id.new.ids text) (id_place l.ids text) n shown.1 next (l.invariant gathered times ps shows n text utf8)
    (c.in_ok-note_id.ensures shown.0.facts.id (subst (λ (span : Option Span). ShowsWord c.args.words.now span shown.0.facts.id) (sym c.id.ensures) shown.2.id) text utf8)

pub returns : goal.returns
returns c gathered times ps shows n text utf8 =
    c.loop-place.invariant gathered times ps shows n text utf8 ∙ all_ids ps c.loop-place.place (chars text) c.loop-place-test.false
