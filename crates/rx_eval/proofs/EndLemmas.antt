-- The end of an element.
use Rattle.rx_eval.proofs.Common.{◌≡◌, ◌∙◌, ℕ, suc, ◌<◌, ◌≤◌, ◌⊎◌, inl, inr, Bool, true, false, List, [], ◌∷◌, ◌++◌, map, length, Option, Some, None, refl, sym, ap, ap₂, subst, subst₂, arith, append-nil, append_assoc, length-append, ◌==◌, IfSome, if◌then◌else◌, map-append, Decides-eqb, Chars, by_test, IfSome_then, Among, Iri, Term, Triple, rename_term, rename, false_unless, Path, Bnode, Made, Cell, Owner, First, Of, Below, same_owner, model, Inherited, resources, below, up, end_of, ListEntry, map_entry, of_owner, cells, Call, Leave, after, Slot, fill, settle, number, Machine, value_at, left, leave_with, leave, machine_begun, rename_slot, after-append, text_literal, Text, Frame, State, gathers_some, Ending, ending, end_owner, say_text, end_frame, TextAt, Closes, Numbering, Name, Number, numbered_name, KeepsNumbers, OwnedSlots, owner_place, FillsAtEnd, FillUp, Within, Layer, frames_in, paths_in, begun_by, own_in, under_in, open_in, text_places, waiter_of, text_triples, KeptAt, LayerStands, LayersStand, Coming, OwnerPending, owner_depth, WaitsFor, AllWaitFor, RunsBy, EvaluatorRuns, IsOver, page_context, RunsOrIsOver, EvaluatorStands, StandsOn, AllWait}
use Rattle.rx_rdfa.proofs.RenamedMachine.{fill_rename}
use Rattle.rx_eval.proofs.NameLemmas.{grown_then, node_later}
use Rattle.rx_eval.proofs.FillLemmas.{waits_weaker, of_owner_waits, none_waiting, others_wait, filled_wait, renamed_wait, within_more, fill_quiet, of_filled}
use Rattle.rx_eval.proofs.CellLemmas.{AllFull}
use Rattle.rx_eval.proofs.ComingLemmas.{coming_not}
use Rattle.rx_eval.proofs.LayerLemmas.{place_none, begun_none, deeper_none, all_within, frames_length, layers_later}
use Rattle.rx_eval.proofs.OwnersLemmas.{Midway, Ended, owner_ends}
use Rattle.std.proofs.lemmas.List.{same_from_push}

-- ---- slots that wait

-- where none waits for the innermost element any more, they do for others
wait_lower : (r : Path) (paths : List Path) (xs : OwnedSlots) → AllWait (λ o q. WaitsFor (r ∷ paths) o q × ¬ (q ≡ r)) xs → AllWaitFor paths xs
wait_lower r paths xs h = waits_weaker (λ o q. WaitsFor (r ∷ paths) o q × ¬ (q ≡ r)) (WaitsFor paths) (λ o q k. (elim k.0.0 [ inl e ↦ absurd (k.1 (sym e)) | inr a ↦ a ], k.0.1)) xs h

-- an owner deeper than all elements for which slots wait has none that waits
all_full : (paths : List Path) (o : Owner) → ((r : Path) → Among paths r → length r < owner_depth o) → (xs : OwnedSlots) → AllWaitFor paths xs → AllFull (of_owner same_owner o xs)
all_full paths o d xs h =
    waits_weaker (λ w. WaitsFor paths o) (λ w r. ⊥) (λ w r k. let a = d r k.0 in let b = k.1 in omega (arith, a, b)) (of_owner same_owner o xs) (of_owner_waits (WaitsFor paths) o xs h)

pub shorter : (to : Numbering) (base kept : Chars) (layers : List Layer) → LayersStand to base kept layers → (r : Path) → Among (paths_in layers) r → length r ≤ length layers
shorter to base kept [] h r a = absurd a
shorter to base kept (l ∷ lower) h r (inl e) = let k = h.0.deep in let n = ap length e in omega (arith, k, n)
shorter to base kept (l ∷ lower) h r (inr a) = let k = shorter to base kept lower h.1 r a in omega (arith, k)

pub not_empty : (xs : List Frame) (x : Frame) → ¬ (xs ++ x ∷ [] ≡ [])
not_empty xs x e = let n = ap length e in omega (arith, n, length-append xs (x ∷ []))

-- ---- the text

pub text_at : (kept chars : Chars) (t : Option Text) → IfSome t (λ t. KeptAt kept t.mark chars) → (front : Chars) × TextAt t kept front chars
text_at kept chars None k = ([], tt)
text_at kept chars (Some t) k = (k.front, k.cut)

record TextEnds (to : Numbering) (base : Chars) (l : Layer) (lower : List Layer) (t : Option Text) (state : State) (slots : OwnedSlots) (names : List (ListEntry Owner (Slot Bnode))) (out : List (Triple Bnode)) : Type 0 where
  now : OwnedSlots
  midway : Midway to (open_in base (l ∷ lower)) (map waiter_of lower) state.labels state.drawn (say_text t l.text (ending state.out state.owners state.cells)) now
      (fill l.at.path (value_at model base l.at l.text) names) (out ++ end_of model base l.at l.text)
  waiting : AllWaitFor (paths_in lower) now
  still : (o : Owner) → of_owner same_owner o slots ≡ [] → of_owner same_owner o now ≡ []

module _ (to : Numbering) (m : Machine Bnode Owner) (state : State) (l : Layer) (lower : List Layer) (slots : OwnedSlots) (r : RunsBy to m state (l ∷ lower) slots) where
  abbrev v : Term Bnode
  v = value_at model state.base l.at l.text

  out_said : (t : Option Text) → map (rename Number) (text_triples t l.text) ≡ map (rename (numbered_name to)) (end_of model state.base l.at l.text)
      → map (rename Number) (state.out ++ text_triples t l.text) ≡ map (rename (numbered_name to)) (m.out ++ end_of model state.base l.at l.text)
  out_said t e = map-append (rename Number) state.out (text_triples t l.text) ∙ ap₂ ◌++◌ r.out e ∙ sym (map-append (rename (numbered_name to)) m.out (end_of model state.base l.at l.text))

  text_by : (t : Option Text) → map (rename Number) (text_triples t l.text) ≡ map (rename (numbered_name to)) (end_of model state.base l.at l.text)
      → IfSome t (λ t. (chars : Chars) → rename_term Number (text_literal t.by chars) ≡ rename_term (numbered_name to) (value_at model state.base l.at chars))
      → FillsAtEnd l.at.path (text_places t) (λ o s. FillUp (open_in state.base (l ∷ lower)) (map waiter_of lower) o s) state.owners slots
      → TextEnds to state.base l lower t state slots m.slots m.out
  text_by None s w f =
      let others = others_wait (WaitsFor (l.at.path ∷ paths_in lower)) l.at.path slots f.0 r.waiting in
      let names = renamed_wait (numbered_name to) Number (λ q. ¬ (q ≡ l.at.path)) m.slots slots (sym r.by_names) (waits_weaker (λ o q. WaitsFor (l.at.path ∷ paths_in lower) o q × ¬ (q ≡ l.at.path)) (λ o q. ¬ (q ≡ l.at.path)) (λ o q h. h.1) slots others) in
      record {
        now = slots;
        midway = record {
          numbers = r.numbers;
          by_names = r.by_names ∙ ap (map (map_entry (rename_slot (numbered_name to)))) (sym (fill_quiet l.at.path v m.slots (none_waiting l.at.path m.slots names)));
          tables = f.1;
          written = ap (map (rename Number)) (sym (append-nil state.out)) ∙ out_said None s;
        };
        waiting = wait_lower l.at.path (paths_in lower) slots others;
        still = λ o k. k;
      }
  text_by (Some t) s w f =
      let u : Term ℕ = text_literal t.by l.text in
      record {
        now = fill l.at.path u slots;
        midway = record {
          numbers = r.numbers;
          by_names = fill_rename Number (λ o. o) l.at.path u slots ∙ ap₂ (λ (x : Term (Name Bnode)) (y : List (ListEntry Owner (Slot (Name Bnode)))). fill l.at.path x y) (w l.text) r.by_names ∙ sym (fill_rename (numbered_name to) (λ o. o) l.at.path v m.slots);
          tables = f.1 u;
          written = out_said (Some t) s;
        };
        waiting = wait_lower l.at.path (paths_in lower) (fill l.at.path u slots) (filled_wait (WaitsFor (l.at.path ∷ paths_in lower)) l.at.path u slots r.waiting);
        still = λ o k. of_filled o l.at.path u slots ∙ ap (fill l.at.path u) k;
      }

  -- what the text leaves
  said : TextEnds to state.base l lower l.frame.text state slots m.slots m.out
  said = text_by l.frame.text (r.each.0.said l.text) r.each.0.value r.tables.1

  -- ---- the owners

  abbrev given : LayerStands to state.base state.kept l lower
  given = r.each.0

  deeper : (o : Owner) → owner_depth o ≡ length l.at.path → length lower < owner_depth o
  deeper o e = let k = given.deep in omega (arith, e, k)

  own_none : l.frame.own ≡ None → owner_place (open_in state.base (l ∷ lower)) (Of l.at.path) ≡ None
  own_none e = place_none (open_in state.base lower ++ own_in l) (under_in l) (Of l.at.path)
      (place_none (open_in state.base lower) (own_in l) (Of l.at.path) (deeper_none state.base to state.kept lower r.each.1 (Of l.at.path) (deeper (Of l.at.path) refl))
      (ap (λ (x : Option ℕ). owner_place (begun_by x (Of l.at.path) l.frame.context.subject) (Of l.at.path)) e))
      (begun_none l.frame.below (Below l.at.path) (Of l.at.path) l.frame.context.object (λ q. absurd (cc q)))

  under_none : l.frame.below ≡ None → owner_place (open_in state.base (l ∷ lower)) (Below l.at.path) ≡ None
  under_none e = place_none (open_in state.base lower ++ own_in l) (under_in l) (Below l.at.path)
      (place_none (open_in state.base lower) (own_in l) (Below l.at.path) (deeper_none state.base to state.kept lower r.each.1 (Below l.at.path) (deeper (Below l.at.path) refl))
      (begun_none l.frame.own (Of l.at.path) (Below l.at.path) l.frame.context.subject (λ q. absurd (cc q))))
      (ap (λ (x : Option ℕ). owner_place (begun_by x (Below l.at.path) l.frame.context.object) (Below l.at.path)) e)

  within_lower : Within (length (open_in state.base lower)) (map waiter_of lower)
  within_lower = all_within state.base to state.kept lower r.each.1

  abbrev names : List (ListEntry Owner (Slot Bnode))
  names = fill l.at.path v m.slots

  abbrev at_start : Ending
  at_start = ending state.out state.owners state.cells

  full_at : (o : Owner) → owner_depth o ≡ length l.at.path → AllFull (of_owner same_owner o said.now)
  full_at o e = all_full (paths_in lower) o (λ q a. let k = shorter to state.base state.kept lower r.each.1 q a in let d = given.deep in omega (arith, k, d, e)) said.now said.waiting

  under_ends : Ended to (Below l.at.path) (open_in state.base lower ++ own_in l) (map waiter_of lower) state.labels state.drawn (end_owner l.frame.below (say_text l.frame.text l.text at_start)) said.now names
      ((m.out ++ end_of model state.base l.at l.text) ++ cells model (settle names) (Below l.at.path) (below model state.base l.at).object)
  under_ends =
      owner_ends to (Below l.at.path) l.frame.context.object (below model state.base l.at).object (open_in state.base lower ++ own_in l) (map waiter_of lower) state.labels state.drawn
      (say_text l.frame.text l.text at_start) said.now names (m.out ++ end_of model state.base l.at l.text) l.frame.below given.under (r.uncelled (Below l.at.path) (inr (inl refl)))
      (λ e. said.still (Below l.at.path) (r.unbegun (Below l.at.path) (inr (inl refl)) (under_none e))) (full_at (Below l.at.path) refl)
      (IfSome_then l.frame.below given.under (λ n e. ap (λ (x : Inherited (Name Bnode) (Name Owner)). x.object) given.context))
      (within_more (length (open_in state.base lower)) (length (open_in state.base lower ++ own_in l)) (map waiter_of lower) (let a = length-append (open_in state.base lower) (own_in l) in omega (arith, a)) within_lower) said.midway

  own_ends : Ended under_ends.now (Of l.at.path) (open_in state.base lower) (map waiter_of lower) state.labels state.drawn (end_frame l.frame l.text at_start) said.now names
      (((m.out ++ end_of model state.base l.at l.text) ++ cells model (settle names) (Below l.at.path) (below model state.base l.at).object) ++ cells model (settle names) (Of l.at.path) (resources model state.base l.at).subject)
  own_ends =
      owner_ends under_ends.now (Of l.at.path) l.frame.context.subject (resources model state.base l.at).subject (open_in state.base lower) (map waiter_of lower) state.labels state.drawn
      (end_owner l.frame.below (say_text l.frame.text l.text at_start)) said.now names
      ((m.out ++ end_of model state.base l.at l.text) ++ cells model (settle names) (Below l.at.path) (below model state.base l.at).object) l.frame.own given.own
      (λ p i. under_ends.others (Of l.at.path) (λ e. absurd (cc e)) p i ∙ r.uncelled (Of l.at.path) (inr (inl refl)) p i)
      (λ e. said.still (Of l.at.path) (r.unbegun (Of l.at.path) (inr (inl refl)) (own_none e))) (full_at (Of l.at.path) refl)
      (IfSome_then l.frame.own given.subject (λ n e. node_later to under_ends.now under_ends.grown l.frame.context.subject (resources model state.base l.at).subject e))
      within_lower under_ends.midway

  -- the machine when the element is left
  abbrev after_it : Machine Bnode Owner
  after_it = left model state.base l.at (map (λ x. x.at) lower) l.text (map (λ x. x.text) lower) m.slots m.out

  left_is : leave model state.base m ≡ after_it
  left_is = ap₂ (leave_with model state.base m) r.standings r.texts

  record BothEnd : Type 0 where
    now : Numbering
    grown : KeepsNumbers to now
    made : (q : Path) → now (Made q) ≡ to (Made q)
    others : (w : Owner) → ¬ (w ≡ Below l.at.path) → ¬ (w ≡ Of l.at.path) → (p : Chars) (i : ℕ) → now (Cell w p i) ≡ to (Cell w p i)
    midway : Midway now (open_in state.base lower) (map waiter_of lower) state.labels state.drawn (end_frame l.frame l.text at_start) said.now names after_it.out

  in_row : (a b c d : List (Triple Bnode)) → ((a ++ b) ++ c) ++ d ≡ a ++ (b ++ (c ++ d))
  in_row a b c d = simp append_assoc

  both_end : BothEnd
  both_end = record {
    now = own_ends.now;
    grown = grown_then to under_ends.now own_ends.now under_ends.grown own_ends.grown;
    made = λ q. own_ends.made q ∙ under_ends.made q;
    others = λ w b o p i. own_ends.others w o p i ∙ under_ends.others w b p i;
    midway = subst (λ (x : List (Triple Bnode)). Midway own_ends.now (open_in state.base lower) (map waiter_of lower) state.labels state.drawn (end_frame l.frame l.text at_start) said.now names x)
        (in_row m.out (end_of model state.base l.at l.text) (cells model (settle names) (Below l.at.path) (below model state.base l.at).object) (cells model (settle names) (Of l.at.path) (resources model state.base l.at).subject))
        own_ends.midway;
  }

  -- ---- what is still to come

  path_parts : (p : Path) (k : ℕ) → length p ≡ suc k → p ≡ number p ∷ up p
  path_parts [] k e = absurd (omega (arith, e))
  path_parts (i ∷ p) k e = refl

  path_is : l.at.path ≡ number l.at.path ∷ up l.at.path
  path_is = path_parts l.at.path (length lower) given.deep

  abbrev Next : Path → Type 0
  Next q = Coming (up l.at.path) (suc (number l.at.path)) q

  coming_before : (q : Path) → Next q → Coming m.path m.next q
  coming_before q c = subst (λ (z : Path). Coming z m.next q) (sym (r.path ∙ path_is)) (inr c)

  not_itself : (q : Path) → Next q ⊎ Among (paths_in lower) q → ¬ (q ≡ l.at.path)
  not_itself q (inl c) e = coming_not (up l.at.path) (number l.at.path) q c [] (e ∙ path_is)
  not_itself q (inr a) e = let k = shorter to state.base state.kept lower r.each.1 q a in let d = given.deep in let n = ap length e in omega (arith, k, d, n)

  abbrev Left : Owner → Type 0
  Left o = OwnerPending lower (up l.at.path) (suc (number l.at.path)) o

  pending_before : (o : Owner) → Left o → OwnerPending (l ∷ lower) m.path m.next o
  pending_before First h = tt
  pending_before (Of q) (inl c) = inl (coming_before q c)
  pending_before (Below q) (inl c) = inl (coming_before q c)
  pending_before _ (inr a) = inr (inr a)

  not_own : (o : Owner) → Left o → ¬ (o ≡ Of l.at.path)
  not_own (Of q) h e = not_itself q h (cc e)
  not_own _ h e = absurd (cc e)

  not_under : (o : Owner) → Left o → ¬ (o ≡ Below l.at.path)
  not_under (Below q) h e = not_itself q h (cc e)
  not_under _ h e = absurd (cc e)

  still_unbegun : (o : Owner) → Left o → owner_place (open_in state.base lower) o ≡ None → of_owner same_owner o said.now ≡ []
  still_unbegun o h e =
      said.still o (r.unbegun o (pending_before o h)
      (place_none (open_in state.base lower ++ own_in l) (under_in l) o
      (place_none (open_in state.base lower) (own_in l) o e (begun_none l.frame.own (Of l.at.path) o l.frame.context.subject (λ q. not_own o h (sym q))))
      (begun_none l.frame.below (Below l.at.path) o l.frame.context.object (λ q. not_under o h (sym q)))))

  -- ---- the state after it

  each_kept : (kept : Chars) → kept ≡ (if gathers_some (frames_in lower) then state.kept else []) → LayersStand both_end.now state.base kept lower
  each_kept kept e =
      layers_later to both_end.now both_end.grown state.base state.kept kept lower
      (by_test (gathers_some (frames_in lower)) (λ t. inr (λ mark text k. subst (λ (x : Chars). KeptAt x mark text) (sym (rw t at e)) k)) inl) r.each.1

  module _ (new : State) (c : Closes state new) where
    frames_are : new.frames ≡ frames_in lower
    frames_are = (same_from_push new.frames (frames_in lower) c.frame l.frame (sym c.popped ∙ r.frames)).0

    frame_is : c.frame ≡ l.frame
    frame_is = (same_from_push new.frames (frames_in lower) c.frame l.frame (sym c.popped ∙ r.frames)).1

    ends_as : ending new.out new.owners new.cells ≡ end_owner (if length (frames_in lower) == 0 then Some state.page.owner else None) (end_frame l.frame l.text at_start)
    ends_as =
        let t = text_at state.kept l.text l.frame.text given.marked in
        c.endings t.0 l.text (subst (λ (f : Frame). TextAt f.text state.kept t.0 l.text) (sym frame_is) t.1)
        ∙ ap₂ (λ (n : List Frame) (f : Frame). end_owner (if length n == 0 then Some state.page.owner else None) (end_frame f l.text at_start)) frames_are frame_is

    abbrev state_with : Ending → State
    state_with e = record new { base = state.base; frames = frames_in lower; labels = state.labels; drawn = state.drawn; cells = e.cells; owners = e.owners; out = e.out }

    state_is : (e : Ending) → ending new.out new.owners new.cells ≡ e → state_with e ≡ new
    state_is e q = λ i. record new {
      base = sym c.rest.0 i;
      frames = sym frames_are i;
      labels = sym c.rest.3 i;
      drawn = sym c.rest.4 i;
      cells = sym (ap (λ (x : Ending). x.cells) q) i;
      owners = sym (ap (λ (x : Ending). x.owners) q) i;
      out = sym (ap (λ (x : Ending). x.out) q) i;
    }

    kept_is : new.kept ≡ (if gathers_some (frames_in lower) then state.kept else [])
    kept_is = c.kept ∙ ap (λ (f : List Frame). if gathers_some f then state.kept else []) frames_are

    runs_on : ¬ (lower ≡ []) → ending new.out new.owners new.cells ≡ end_frame l.frame l.text at_start → EvaluatorRuns both_end.now after_it new
    runs_on more q = record {
      layers = lower;
      slots = said.now;
      by = subst (λ (s : State). RunsBy both_end.now after_it s lower said.now) (state_is (end_frame l.frame l.text at_start) q) (record {
        numbers = both_end.midway.numbers;
        frames = refl;
        standings = refl;
        texts = refl;
        path = given.inside;
        each = each_kept new.kept kept_is;
        by_names = both_end.midway.by_names;
        tables = both_end.midway.tables;
        waiting = said.waiting;
        unmade = λ q c. both_end.made q ∙ r.unmade q (coming_before q c);
        uncelled = λ o h p i. both_end.others o (not_under o h) (not_own o h) p i ∙ r.uncelled o (pending_before o h) p i;
        unbegun = still_unbegun;
        out = both_end.midway.written;
        rootless = λ e. absurd (more e);
      });
    }

    -- at the root's end the page's own owner ends too
    module _ (root : lower ≡ []) (page : state.page ≡ page_context state.base) where
      root_ends : Midway both_end.now ([] ++ begun_by (Some 0) First (Iri state.base)) [] state.labels state.drawn (end_frame l.frame l.text at_start) said.now names after_it.out
      root_ends = subst (λ (x : List Layer). Midway both_end.now (open_in state.base x) (map waiter_of x) state.labels state.drawn (end_frame l.frame l.text at_start) said.now names after_it.out) root both_end.midway

      page_ends : Ended both_end.now First [] [] state.labels state.drawn (end_owner (Some 0) (end_frame l.frame l.text at_start)) said.now names (after_it.out ++ cells model (settle names) First (Iri state.base))
      page_ends =
          owner_ends both_end.now First (Iri state.base) (Iri state.base) [] [] state.labels state.drawn (end_frame l.frame l.text at_start) said.now names after_it.out (Some 0) refl
          (λ p i. both_end.others First (λ e. absurd (cc e)) (λ e. absurd (cc e)) p i ∙ r.uncelled First tt p i) (λ e. absurd (cc e))
          (all_full (paths_in lower) First (λ q a. absurd (subst (λ (x : List Layer). Among (paths_in x) q) root a)) said.now said.waiting) refl tt root_ends

      root_as : ending new.out new.owners new.cells ≡ end_owner (Some 0) (end_frame l.frame l.text at_start)
      root_as = ends_as ∙ ap₂ (λ (x : List Layer) (p : Inherited ℕ ℕ). end_owner (if length (frames_in x) == 0 then Some p.owner else None) (end_frame l.frame l.text at_start)) root page

      over_now : IsOver page_ends.now after_it new
      over_now = subst (λ (s : State). IsOver page_ends.now after_it s) (state_is (end_owner (Some 0) (end_frame l.frame l.text at_start)) root_as) (record {
        numbers = page_ends.midway.numbers;
        frames = ap frames_in root;
        standings = ap (map (λ x. x.at)) root;
        texts = ap (map (λ x. x.text)) root;
        out = page_ends.midway.written;
      })

-- ---- the call

module _ (to : Numbering) (list : List Call) (state new : State) (c : Closes state new) (page : state.page ≡ page_context state.base) where
  abbrev before : Machine Bnode Owner
  before = after model state.base list machine_begun

  calls_more : after model new.base (list ++ Leave ∷ []) machine_begun ≡ leave model state.base before
  calls_more = ap (λ (b : Chars). after model b (list ++ Leave ∷ []) machine_begun) c.rest.0 ∙ after-append model state.base list (Leave ∷ []) machine_begun

  page_kept : new.page ≡ page_context new.base
  page_kept = c.rest.2 ∙ page ∙ ap page_context (sym c.rest.0)

  stands_on : (now : Numbering) (m : Machine Bnode Owner) (b : Bool) → KeepsNumbers to now → leave model state.base before ≡ m → new.ended ≡ b → RunsOrIsOver b now m new → StandsOn to (list ++ Leave ∷ []) new
  stands_on now m b g e q p = record {
    now = now;
    grown = g;
    stands = record {
      page = page_kept;
      phase = subst₂ (λ (x : Bool) (y : Machine Bnode Owner). RunsOrIsOver x now y new) (sym q) (sym (calls_more ∙ e)) p;
    };
  }

  some_open : (k : Layer) (lower : List Layer) → (length (frames_in (k ∷ lower)) == 0) ≡ false
  some_open k lower = false_unless (length (frames_in (k ∷ lower)) == 0) (λ t. let e = (Decides-eqb (length (frames_in (k ∷ lower))) 0).0 t in let n = frames_length (k ∷ lower) in omega (arith, e, n))

  left_by : (layers : List Layer) (slots : OwnedSlots) → state.ended ≡ false → RunsBy to before state layers slots → StandsOn to (list ++ Leave ∷ []) new
  left_by [] slots f r = absurd (not_empty new.frames c.frame (sym c.popped ∙ r.frames))
  left_by (l ∷ []) slots f r =
      let o = page_ends to before state l [] slots r new c refl page in
      stands_on o.now (after_it to before state l [] slots r) true (grown_then to (both_end to before state l [] slots r).now o.now (both_end to before state l [] slots r).grown o.grown)
      (left_is to before state l [] slots r) (c.ended ∙ ap (λ (x : List Frame). if length x == 0 then true else state.ended) (frames_are to before state l [] slots r new c)) (over_now to before state l [] slots r new c refl page)
  left_by (l ∷ k ∷ lower) slots f r =
      stands_on (both_end to before state l (k ∷ lower) slots r).now (after_it to before state l (k ∷ lower) slots r) false (both_end to before state l (k ∷ lower) slots r).grown
      (left_is to before state l (k ∷ lower) slots r) (c.ended ∙ ap (λ (x : List Frame). if length x == 0 then true else state.ended) frames ∙ ap (λ (b : Bool). if b then true else state.ended) (some_open k lower) ∙ f)
      (runs_on to before state l (k ∷ lower) slots r new c (λ e. absurd (cc e)) (ends_as to before state l (k ∷ lower) slots r new c
      ∙ ap (λ (b : Bool). end_owner (if b then Some state.page.owner else None) (end_frame l.frame l.text (ending state.out state.owners state.cells))) (some_open k lower)))
    where
      frames : new.frames ≡ frames_in (k ∷ lower)
      frames = frames_are to before state l (k ∷ lower) slots r new c

  left_in : (b : Bool) → state.ended ≡ b → RunsOrIsOver b to before state → StandsOn to (list ++ Leave ∷ []) new
  left_in true e p = absurd (not_empty new.frames c.frame (sym c.popped ∙ p.frames))
  left_in false e p = left_by p.layers p.slots e p.by

pub left_stands : (to : Numbering) (list : List Call) (state new : State) → Closes state new → EvaluatorStands to list state → StandsOn to (list ++ Leave ∷ []) new
left_stands to list state new c s = left_in to list state new c s.page state.ended refl s.phase
