-- Other texts, and frames in which a rule for a text is written otherwise: the same elements stay open.
use Rattle.rx_eval.proofs.Common.{◌≡◌, ◌∙◌, ℕ, suc, ◌⊎◌, inl, inr, Bool, true, false, List, [], ◌∷◌, ◌++◌, map, length, Some, refl, sym, ap, subst, subst₂, append_assoc, is_some, ◌||◌, by_test, read_text, if◌then◌else◌, Chars, Among, Path, Bnode, Owner, First, Of, Below, Standing, Machine, read, rename, text_literal, said_triples, Text, Frame, State, gathers_some, Inherited, handed_on, Numbering, Number, OwnedSlots, OpenOwners, owner_place, Waiter, FillUp, Layer, frames_in, path_in, paths_in, own_in, under_in, open_in, waiter_of, KeptAt, LayerStands, LayersStand, Coming, OwnerPending, AllWaitFor, RunsBy, RunsOrIsOver, rename_term}
use Rattle.rx_eval.specs.declared.values.TextRule.{TextRule}
use Rattle.rx_eval.proofs.NameLemmas.{grown_same}
use Rattle.rx_eval.proofs.LayerLemmas.{Marked, marked, layer_later}

-- ---- frames that are the same but for how the rule for the text is written

pub data Alike : Frame → Frame → Type 0 where
  alike_same : (f : Frame) → Alike f f
  alike_ruled : (f : Frame) (t : Text) (by : TextRule) → ((chars : Chars) → text_literal t.by chars ≡ text_literal by chars) → Alike (record f { text = Some t }) (record f { text = Some (record t { by = by }) })

pub data AllAlike : List Frame → List Frame → Type 0 where
  alike_none : AllAlike [] []
  alike_more : (f g : Frame) (xs ys : List Frame) → Alike f g → AllAlike xs ys → AllAlike (f ∷ xs) (g ∷ ys)

pub all_same : (xs : List Frame) → AllAlike xs xs
all_same [] = alike_none
all_same (f ∷ xs) = alike_more f f xs xs (alike_same f) (all_same xs)

pub alike_push : (xs ys : List Frame) (f g : Frame) → AllAlike xs ys → Alike f g → AllAlike (xs ++ f ∷ []) (ys ++ g ∷ [])
alike_push _ _ f g alike_none a = alike_more f g [] [] a alike_none
alike_push _ _ f g (alike_more x y xs ys b r) a = alike_more x y (xs ++ f ∷ []) (ys ++ g ∷ []) b (alike_push xs ys f g r a)

-- the last ones
pub alike_pop : (xs : List Frame) (f : Frame) (zs : List Frame) → AllAlike (xs ++ f ∷ []) zs → (ys : List Frame) × (g : Frame) × (zs ≡ ys ++ g ∷ []) × AllAlike xs ys × Alike f g
alike_pop [] f _ (alike_more _ g _ _ a alike_none) = ([], g, refl, alike_none, a)
alike_pop (x ∷ xs) f _ (alike_more _ y _ ys a r) =
    let p = alike_pop xs f ys r in
    (y ∷ p.0, p.1, ap (λ (l : List Frame). y ∷ l) p.2, alike_more x y xs p.0 a p.3, p.4)

-- they hand on the same, and as many gather their text
pub alike_frames : (page : Inherited ℕ ℕ) (xs ys : List Frame) → AllAlike xs ys → (handed_on page xs ≡ handed_on page ys) × (gathers_some xs ≡ gathers_some ys) × (length xs ≡ length ys)
alike_frames page _ _ alike_none = (refl, refl, refl)
alike_frames page _ _ (alike_more _ _ xs ys (alike_same f) r) =
    let s = alike_frames f.context xs ys r in (s.0, ap (λ (b : Bool). is_some f.text || b) s.1, ap suc s.2)
alike_frames page _ _ (alike_more _ _ xs ys (alike_ruled f t by q) r) = let s = alike_frames f.context xs ys r in (s.0, refl, ap suc s.2)

-- ---- the elements that are open

abbrev layer : Standing Bnode Owner → Chars → Frame → Layer
layer at text frame = record { at = at; text = text; frame = frame }

owners_alike : (at : Standing Bnode Owner) (x y : Chars) (e f : Frame) → Alike e f
    → (own_in (layer at x e) ≡ own_in (layer at y f)) × (under_in (layer at x e) ≡ under_in (layer at y f)) × (waiter_of (layer at x e) ≡ waiter_of (layer at y f))
owners_alike at x y _ _ (alike_same f) = (refl, refl, refl)
owners_alike at x y _ _ (alike_ruled f t by q) = (refl, refl, refl)

layer_alike : (to : Numbering) (base kept : Chars) (at : Standing Bnode Owner) (text : Chars) (lower : List Layer) (e f : Frame) → Alike e f → LayerStands to base kept (layer at text e) lower → LayerStands to base kept (layer at text f) lower
layer_alike to base kept at text lower _ _ (alike_same f) h = h
layer_alike to base kept at text lower _ _ (alike_ruled f t by q) h = record {
  deep = h.deep;
  inside = h.inside;
  context = h.context;
  own = h.own;
  subject = h.subject;
  under = h.under;
  gathers = h.gathers;
  said = λ chars. ap (λ v. map (rename Number) (said_triples t.said t.subject v)) (sym (q chars)) ∙ h.said chars;
  value = λ chars. ap (rename_term Number) (sym (q chars)) ∙ h.value chars;
  marked = h.marked;
  places = h.places;
}

module _ (to : Numbering) (base kept more : Chars) (g : Chars → Chars) where
  -- the same ones, with other texts and these frames
  record Relayered (xs : List Layer) (frames : List Frame) : Type 0 where
    now : List Layer
    are : frames ≡ frames_in now
    standings : map (λ l. l.at) xs ≡ map (λ l. l.at) now
    texts : map g (map (λ l. l.text) xs) ≡ map (λ l. l.text) now
    path : path_in xs ≡ path_in now
    paths : paths_in xs ≡ paths_in now
    size : length xs ≡ length now
    owners : open_in base xs ≡ open_in base now
    waiters : map waiter_of xs ≡ map waiter_of now
    none : now ≡ [] → xs ≡ []
    each : Marked kept more g (frames_in xs) → LayersStand to base kept xs → LayersStand to base more now

  relayered : (xs : List Layer) (frames : List Frame) → AllAlike (frames_in xs) frames → Relayered xs frames
  relayered [] _ alike_none = record { now = []; are = refl; standings = refl; texts = refl; path = refl; paths = refl; size = refl; owners = refl; waiters = refl; none = λ e. e; each = λ k h. h }
  relayered (l ∷ lower) frames a =
      let p = alike_pop (frames_in lower) l.frame frames a in
      let r = relayered lower p.0 p.3 in
      let w = owners_alike l.at l.text (g l.text) l.frame p.1 p.4 in
      record {
        now = layer l.at (g l.text) p.1 ∷ r.now;
        are = p.2 ∙ ap (λ (x : List Frame). x ++ p.1 ∷ []) r.are;
        standings = λ i. l.at ∷ r.standings i;
        texts = λ i. g l.text ∷ r.texts i;
        path = refl;
        paths = λ i. l.at.path ∷ r.paths i;
        size = ap suc r.size;
        owners = λ i. (r.owners i ++ w.0 i) ++ w.1 i;
        waiters = λ i. w.2 i ∷ r.waiters i;
        none = λ e. absurd (cc e);
        each = λ k h.
            let m = marked kept more g l (frames_in lower) k h.0.marked in
            (layer_alike to base more l.at (g l.text) r.now l.frame p.1 p.4 (layer_later to to (grown_same to) base kept more l (g l.text) lower r.now r.size r.path r.owners m.0 h.0), r.each m.1 h.1);
      }

module _ (to : Numbering) (m : Machine Bnode Owner) (state : State) (more : Chars) (g : Chars → Chars) (frames : List Frame) (a : AllAlike state.frames frames) (k : Marked state.kept more g state.frames) where
  abbrev texts_now : Machine Bnode Owner → Machine Bnode Owner
  texts_now n = record n { texts = map g n.texts }

  abbrev state_now : State
  state_now = record state { frames = frames; kept = more }

  module _ (layers : List Layer) (slots : OwnedSlots) (r : RunsBy to m state layers slots) where
    x : Relayered to state.base state.kept more g layers frames
    x = relayered to state.base state.kept more g layers frames (subst (λ (l : List Frame). AllAlike l frames) r.frames a)

    pending_as : (o : Owner) → OwnerPending x.now m.path m.next o → OwnerPending layers m.path m.next o
    pending_as First h = tt
    pending_as (Of q) h = subst (λ (l : List Path). Coming m.path m.next q ⊎ Among l q) (sym x.paths) h
    pending_as (Below q) h = subst (λ (l : List Path). Coming m.path m.next q ⊎ Among l q) (sym x.paths) h

    runs_as : RunsBy to (texts_now m) state_now x.now slots
    runs_as = record {
      numbers = r.numbers;
      frames = x.are;
      standings = r.standings ∙ x.standings;
      texts = ap (map g) r.texts ∙ x.texts;
      path = r.path ∙ x.path;
      each = x.each (subst (Marked state.kept more g) r.frames k) r.each;
      by_names = r.by_names;
      tables = subst₂ (λ (o : OpenOwners) (w : List Waiter). FillUp o w state.owners slots) x.owners x.waiters r.tables;
      waiting = subst (λ (p : List Path). AllWaitFor p slots) x.paths r.waiting;
      unmade = r.unmade;
      uncelled = λ o h. r.uncelled o (pending_as o h);
      unbegun = λ o h e. r.unbegun o (pending_as o h) (ap (λ (y : OpenOwners). owner_place y o) x.owners ∙ e);
      out = r.out;
      rootless = λ e. ap texts_now (r.rootless (x.none e));
    }

  no_frames : (xs ys : List Frame) → AllAlike xs ys → xs ≡ [] → ys ≡ []
  no_frames _ _ alike_none e = refl
  no_frames _ _ (alike_more f h xs ys b r) e = absurd (cc e)

  pub phase_as : (b : Bool) → RunsOrIsOver b to m state → RunsOrIsOver b to (texts_now m) state_now
  phase_as true p = record { numbers = p.numbers; frames = no_frames state.frames frames a p.frames; standings = p.standings; texts = ap (map g) p.texts; out = p.out }
  phase_as false p = record { layers = (x p.layers p.slots p.by).now; slots = p.slots; by = runs_as p.layers p.slots p.by }

-- text is read
pub text_read : (to : Numbering) (m : Machine Bnode Owner) (state : State) (chars : Chars) (b : Bool) → RunsOrIsOver b to m state → RunsOrIsOver b to (read chars m) (read_text chars state)
text_read to m state chars =
    phase_as to m state (if gathers_some state.frames then state.kept ++ chars else state.kept) (λ t. t ++ chars) state.frames (all_same state.frames)
    (by_test (gathers_some state.frames) (λ t. inr (λ mark text k. rw t (longer mark text k))) inl)
  where
    longer : (mark : ℕ) (text : Chars) → KeptAt state.kept mark text → KeptAt (state.kept ++ chars) mark (text ++ chars)
    longer mark text k = record { front = k.front; cut = record { whole = ap (λ (z : Chars). z ++ chars) k.cut.whole ∙ append_assoc k.front text chars; size = k.cut.size } }
