-- The tokens at the front of a page lead to its open elements.
use Rattle.rx_pages.proofs.Words.{◌≡◌, ℕ, suc, ◌+◌, false, List, [], ◌∷◌, refl, subst, arith, append-nil, length, Syntax, Tree, end, element, text, has_element, Item, start_tag_of, Line, before, within, after, Open, a_root, a_child, not_begun, still_open, Event, Nesting, Goes, stands, IsAt, FrontsLead}
use Rattle.rx_grammar.proofs.Common.{ended}
use Rattle.rx_pages.specs.Nesting as nesting
use Rattle.rx_pages.proofs.Steps.{in_line}
use Rattle.rx_pages.proofs.Nested.{Careless, not_deeper, open_goes, runs, ready_within}
use Rattle.rx_pages.proofs.Documents.{lead_reads, root_ready, document_tells}

-- the tokens lead from the page's beginning
pub record Going (syntax : Syntax) (depth : ℕ) (meant : Nesting → Type 0) (items : List Item) : Type 0 where
  pub events : List Event
  pub going : Goes syntax depth meant nesting.not_begun items events

pub none_among : (nodes : Tree) → has_element [] nodes ≡ false
none_among end = refl
none_among (element t inside nodes) = none_among nodes
none_among (text chars nodes) = none_among nodes

module _ (syntax : Syntax) (depth : ℕ) (meant : Nesting → Type 0) (careless : Careless meant) where
  pub open_leads : {left : ℕ} {all to : List Item} {line : Line} → Open syntax left all to line → length line + left ≡ depth → (later : List Event) → Goes syntax depth meant (in_line line) to later → Going syntax depth meant all
  open_leads (a_root {left = left} {from = from} {inner = inner} {inside = inside} {stood = stood} lead item t l o named isnt drop hs) d later g =
      let i = runs syntax depth meant careless hs (start_tag_of item t) [] refl refl d (none_among inside) later g in
      record {
        events = _;
        going = lead_reads syntax depth meant l (item ∷ from) _ (open_goes syntax depth meant careless [] (before stood) item t from inner i.events o refl (not_deeper depth 0 left (room left d)) (root_ready syntax depth meant careless stood t.name named) isnt drop i.going);
      }
    where
      room : (left : ℕ) → 1 + left ≡ depth → 0 + suc left ≡ depth
      room left d = omega arith
  open_leads (a_child {left = left} {from = from} {inner = inner} {inside = inside} {line = line} item t op o isnt among drop hs no_row) d later g =
      let i = runs syntax depth meant careless hs (start_tag_of item t) line refl refl d no_row later g in
      open_leads op (one_less left (length line) d) _ (open_goes syntax depth meant careless line within item t from inner i.events o among (not_deeper depth (length line) left (one_less left (length line) d)) (ready_within syntax depth meant careless t.name) isnt drop i.going)
    where
      one_less : (left n : ℕ) → suc n + left ≡ depth → n + suc left ≡ depth
      one_less left n d = omega arith

pub fronts_lead : FrontsLead
fronts_lead syntax depth items line phase (not_begun stood lead) =
    record { events = []; going = subst (λ xs. Goes syntax depth (IsAt [] (before stood)) nesting.not_begun xs []) (append-nil items) (lead_reads syntax depth (IsAt [] (before stood)) lead [] [] (stands _ (record { line_is = refl; phase_is = refl }))) }
fronts_lead syntax depth items line phase (still_open d op e) =
    let g = open_leads syntax depth (IsAt line within) (λ l h. record { line_is = h.line_is; phase_is = h.phase_is }) op e [] (stands (in_line line) (record { line_is = refl; phase_is = refl })) in
    record { events = g.events; going = g.going }
fronts_lead syntax depth items line phase (ended tree d) =
    let t = document_tells syntax depth (IsAt [] after) (λ l h. record { line_is = h.line_is; phase_is = h.phase_is }) (record { line_is = refl; phase_is = refl }) items tree d in
    record { events = t.events; going = t.going }
