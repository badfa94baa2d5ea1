use Rattle.rx_items.proofs.Common.{not_both_ways, ℕ, List, ◌∷◌, Contains, ◌↔◌, ◌∙◌, Option, get_or, sym, subst, slice_get-get_or, Chars, filter_map, rows_of, LooksWhere, look_in, nothing_kept, ShowsWord, in_runs, RunsReach, GivesProperties}
use Rattle.rx_items.specs.declared.spans.Span.{Span}
use Rattle.rx_items.specs.declared.kept.Run.{Run}
use Rattle.rx_items.proofs.IdLemmas.{row_shown}
use Rattle.rx_items.proofs.NestLemmas.{numbered}
use Rattle.rx_items.proofs.PropertyLemmas.{properties_are}
use Rattle.rx_items.proofs.BuildLemmas.{fits_by}
use Rattle.rx_items.proofs.extras.rare_extra.Goals as goal

pub returns-then-not-row : goal.returns-then-not-row
returns-then-not-row c text times tree sorted up looks =
    let ps = rows_of tree in
    let rows = c.args.rows.now in
    let r = row_shown c.args.words.now text times rows ps c.args.place nothing_kept sorted.shows c.requires in
    let row = get_or rows c.args.place nothing_kept in
    fits_by c.args.words.now text times ps c.args.members.now rows c.args.place row r.0 c.in_ok-plain.plain (slice_get-get_or rows c.args.place nothing_kept c.requires) r.1 r.2
    (c.in_ok-plain.ensures.names r.2.itemprop r.2.has_names) (c.in_ok-plain.ensures.types r.2.itemtype r.2.has_types) (λ item. absurd (not_both_ways row.head.is_item (r.2.is_item ∙ item) c.if-not-row.true))

pub returns : goal.returns
returns c text times tree sorted up looks =
    let members = c.args.members.now in
    let ps = rows_of tree in
    let rows = c.args.rows.now in
    let r = row_shown c.args.words.now text times rows ps c.args.place nothing_kept sorted.shows c.requires in
    let there = slice_get-get_or rows c.args.place nothing_kept c.requires in
    let asked : LooksWhere c.references.result c.args.ids.now (look_in ps) = λ span is. looks c.args.place (get_or rows c.args.place nothing_kept) there span (sym c.references.ensures ∙ is) in
    let starts = c.in_ok-starts.ensures (look_in ps) asked r.2.itemref (subst (λ (span : Option Span). ShowsWord c.args.words.now span r.2.itemref) (sym c.references.ensures) r.2.has_references) in
    let reach = c.in_ok-reach.ensures.reach c.args.words.now text times tree sorted up in
    let runs = c.in_ok-reach.reach.own ∷ c.in_ok-reach.reach.others.items in
    let begins : (m : ℕ) → Contains c.in_ok-starts.starts.items m ↔ Contains (filter_map (look_in ps) r.0.facts.references) m =
    subst (λ (refs : List Chars). (m : ℕ) → Contains c.in_ok-starts.starts.items m ↔ Contains (filter_map (look_in ps) refs) m) (sym r.2.references) starts in
    let reaches : (x : ℕ) → Contains (in_runs members runs) x ↔ RunsReach ps c.args.place c.in_ok-starts.starts.items x = rw c.as_slice.ensures.value at reach in
    let all = properties_are ps (numbered tree) r.0 c.args.place members runs c.in_ok-starts.starts.items r.1 begins reaches in
    fits_by c.args.words.now text times ps members rows c.args.place (get_or rows c.args.place nothing_kept) r.0 c.in_ok-extra.extra (slice_get-get_or rows c.args.place nothing_kept c.requires) r.1 r.2
    (c.in_ok-extra.ensures.names r.2.itemprop r.2.has_names) (c.in_ok-extra.ensures.types r.2.itemtype r.2.has_types) (λ item. subst (λ (runs : List Run). GivesProperties ps members c.args.place runs r.0) (sym c.in_ok-extra.ensures.reach) all)
