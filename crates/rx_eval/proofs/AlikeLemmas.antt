-- The calls decide an evaluator's state, but for how the rules for texts are written.
use Rattle.rx_eval.proofs.Common.{◌≡◌, ◌∙◌, ℕ, ◌==◌, Bool, true, List, [], ◌∷◌, ◌++◌, length, Option, Some, None, refl, sym, ap, subst, subst₂, is_some, and_parts, IfSome, if◌then◌else◌, encode_utf8_all, Chars, Naming, model, Facts, Resources, rule, value_now, Call, after, machine_begun, SlotId, Numbered, moment, level_at, resources_by, start_at, below_at, own_at, below_own_at, places_at, lists_at, drawn_after, fill_all, Text, Frame, State, Gathers, Opens, read_text, Ending, ending, end_owner, end_frame, said_triples, TextAt, Closes, Numbering, Layer, frames_in, LayersStand, RunsOrIsOver, EvaluatorStands, inr, false, gathers_at, handed_on}
use Rattle.rx_model.proofs.Copied.{of_none}
use Rattle.rx_eval.proofs.LeavesLemmas.{Alike, alike_same, alike_ruled, AllAlike, alike_push, alike_pop, alike_frames, phase_as}
use Rattle.rx_eval.proofs.EndLemmas.{text_at, not_empty}
use Rattle.std.proofs.lemmas.List.{same_from_push, map-id}

-- states that are the same but for that
pub record Same (a b : State) : Type 0 where
  pub frames : AllAlike a.frames b.frames
  pub rest : record a { frames = b.frames } ≡ b

-- the texts of one element
texts_alike : (facts : Facts) (naming : Naming ℕ ℕ) (base : Chars) (here : Resources ℕ) (places : List SlotId) (mark : ℕ) (f : Frame) (t u : Option Text) → (is_some t ≡ true → value_now (rule naming base facts here) facts ≡ None) → is_some t ≡ is_some u
    → IfSome t (Gathers facts here places mark) → IfSome u (Gathers facts here places mark) → Alike (record f { text = t }) (record f { text = u })
texts_alike facts naming base here places mark f None None none e g h = alike_same (record f { text = None })
texts_alike facts naming base here places mark f (Some t) (Some u) none e g h =
    let same : record t { by = u.by } ≡ u =
    λ i. record { subject = (g.subject ∙ sym h.subject) i; by = u.by; said = (g.said ∙ sym h.said) i; slots = (g.slots ∙ sym h.slots) i; mark = (g.begins ∙ sym h.begins) i } in
    subst (λ (x : Text). Alike (record f { text = Some t }) (record f { text = Some x })) same
    (alike_ruled f t u.by (λ chars. g.rule.literal naming base here (none refl) chars ∙ sym (h.rule.literal naming base here (none refl) chars)))
texts_alike facts naming base here places mark f _ _ none e g h = absurd (cc)

ends_alike : (e f : Frame) → Alike e f → (kept front chars : Chars) (z : Ending) → (end_frame e chars z ≡ end_frame f chars z) × (TextAt e.text kept front chars → TextAt f.text kept front chars)
ends_alike _ _ (alike_same f) kept front chars z = (refl, λ c. c)
ends_alike _ _ (alike_ruled f t by q) kept front chars z =
    (ap (λ v. end_owner f.own (end_owner f.below (ending (z.out ++ said_triples t.said t.subject v) (fill_all t.slots v z.owners) z.cells))) (q chars), λ c. c)

-- one call leads from two such states to two such ones
module _ (a : State) (frames : List Frame) (s : AllAlike a.frames frames) where
  abbrev other : State
  other = record a { frames = frames }

  opens_alike : (facts : Facts) (x y : State) → Opens a facts x → Opens other facts y → Same x y
  opens_alike facts x y o p =
      let w = alike_frames a.page a.frames frames s in
      let d = sym o.drawing ∙ p.drawing in
      let names : x.labels ≡ y.labels = ap (λ (q : Numbered × ℕ). q.0) d in
      let fresh : o.fresh ≡ p.fresh = ap (λ (q : Numbered × ℕ). q.1) d in
      let context : o.frame.context ≡ p.frame.context = o.context ∙ (λ i. below_at (names i) (fresh i) a.base (level_at (w.2 i)) (w.0 i) facts (length a.owners)) ∙ sym p.context in
      let own : o.frame.own ≡ p.frame.own = o.own ∙ (λ i. own_at (names i) (fresh i) a.base (level_at (w.2 i)) (w.0 i) facts (length a.owners)) ∙ sym p.own in
      let below : o.frame.below ≡ p.frame.below = o.below_own ∙ (λ i. below_own_at (names i) (fresh i) a.base (level_at (w.2 i)) (w.0 i) facts (length a.owners)) ∙ sym p.below_own in
      let gathers : is_some o.frame.text ≡ is_some p.frame.text = o.gathers ∙ (λ i. gathers_at (names i) (fresh i) a.base (level_at (w.2 i)) (w.0 i) facts) ∙ sym p.gathers in
      let here = resources_by x.labels o.fresh a.base (level_at (length a.frames)) (handed_on a.page a.frames) facts in
      let places = places_at x.labels o.fresh a.base (level_at (length a.frames)) (handed_on a.page a.frames) facts a.owners in
      let there : here ≡ resources_by y.labels p.fresh a.base (level_at (length frames)) (handed_on a.page frames) facts = λ i. resources_by (names i) (fresh i) a.base (level_at (w.2 i)) (w.0 i) facts in
      let their : places ≡ places_at y.labels p.fresh a.base (level_at (length frames)) (handed_on a.page frames) facts a.owners = λ i. places_at (names i) (fresh i) a.base (level_at (w.2 i)) (w.0 i) facts a.owners in
      let text = subst₂ (λ (h : Resources ℕ) (l : List SlotId). IfSome p.frame.text (Gathers facts h l (length (encode_utf8_all a.kept)))) (sym there) (sym their) p.text in
      let same : record o.frame { text = p.frame.text } ≡ p.frame = λ i. record { context = context i; own = own i; below = below i; text = p.frame.text } in
      let frame = subst (Alike o.frame) same
      (texts_alike facts (moment x.labels o.fresh 0 0) a.base here places (length (encode_utf8_all a.kept)) o.frame o.frame.text p.frame.text
      (λ t. of_none _ (and_parts _ _ (and_parts _ _ (sym o.gathers ∙ t)).1).1) gathers o.text text) in
      record {
        frames = subst₂ AllAlike (sym o.pushed) (sym p.pushed) (alike_push a.frames frames o.frame p.frame s frame);
        rest = λ i. record {
          base = (o.rest.0 ∙ sym p.rest.0) i;
          levels = (o.rest.1 ∙ sym p.rest.1) i;
          page = (o.rest.2 ∙ sym p.rest.2) i;
          frames = y.frames;
          labels = names i;
          drawn = (o.counted ∙ (λ j. drawn_after (context j) (fresh j)) ∙ sym p.counted) i;
          cells = (o.rest.3 ∙ sym p.rest.3) i;
          owners = (o.lists ∙ (λ j. lists_at (names j) (fresh j) a.base (level_at (w.2 j)) (w.0 j) facts a.owners) ∙ sym p.lists) i;
          kept = (o.rest.4 ∙ sym p.rest.4) i;
          out = (o.start ∙ (λ j. a.out ++ start_at (names j) (fresh j) a.base (level_at (w.2 j)) (w.0 j) facts) ∙ sym p.start) i;
          ended = (o.rest.5 ∙ sym p.rest.5) i;
          out_of_memory = (o.rest.6 ∙ sym p.rest.6) i;
        };
      }

  reads_alike : (chars : Chars) → Same (read_text chars a) (read_text chars other)
  reads_alike chars =
      let w = alike_frames a.page a.frames frames s in
      record { frames = s; rest = λ i. record other { kept = (if w.1 i then a.kept ++ chars else a.kept) } }

  closes_alike : (x y : State) (c : Closes a x) → Closes other y → (front chars : Chars) → TextAt c.frame.text a.kept front chars → Same x y
  closes_alike x y c d front chars cut =
      let p = alike_pop x.frames c.frame frames (subst (λ (l : List Frame). AllAlike l frames) c.popped s) in
      let same = same_from_push p.0 y.frames p.1 d.frame (sym p.2 ∙ d.popped) in
      let fronts : AllAlike x.frames y.frames = subst (AllAlike x.frames) same.0 p.3 in
      let w = alike_frames a.page x.frames y.frames fronts in
      let e = ends_alike c.frame d.frame (subst (Alike c.frame) same.1 p.4) a.kept front chars (ending a.out a.owners a.cells) in
      let ends : ending x.out x.owners x.cells ≡ ending y.out y.owners y.cells =
      c.endings front chars cut ∙ (λ i. end_owner (if w.2 i == 0 then Some a.page.owner else None) (e.0 i)) ∙ sym (d.endings front chars (e.1 cut)) in
      record {
        frames = fronts;
        rest = λ i. record {
          base = (c.rest.0 ∙ sym d.rest.0) i;
          levels = (c.rest.1 ∙ sym d.rest.1) i;
          page = (c.rest.2 ∙ sym d.rest.2) i;
          frames = y.frames;
          labels = (c.rest.3 ∙ sym d.rest.3) i;
          drawn = (c.rest.4 ∙ sym d.rest.4) i;
          cells = (ends i).cells;
          owners = (ends i).owners;
          kept = (c.kept ∙ ap (λ (b : Bool). if b then a.kept else []) w.1 ∙ sym d.kept) i;
          out = (ends i).out;
          ended = (c.ended ∙ ap (λ (n : ℕ). if n == 0 then true else a.ended) w.2 ∙ sym d.ended) i;
          out_of_memory = (c.rest.5 ∙ sym d.rest.5) i;
        };
      }

module _ (a b : State) (s : Same a b) where
  pub opens_same : (facts : Facts) (x y : State) → Opens a facts x → Opens b facts y → Same x y
  opens_same facts x y o p = opens_alike a b.frames s.frames facts x y o (subst (λ (z : State). Opens z facts y) (sym s.rest) p)

  pub reads_same : (chars : Chars) → Same (read_text chars a) (read_text chars b)
  reads_same chars = subst (λ (z : State). Same (read_text chars a) (read_text chars z)) s.rest (reads_alike a b.frames s.frames chars)

  module _ (to : Numbering) (list : List Call) (e : EvaluatorStands to list a) where
    pub closes_same : (x y : State) → Closes a x → Closes b y → Same x y
    closes_same x y c d = by a.ended e.phase
      where
        same : (front chars : Chars) → TextAt c.frame.text a.kept front chars → Same x y
        same = closes_alike a b.frames s.frames x y c (subst (λ (z : State). Closes z y) (sym s.rest) d)

        layers : (ls : List Layer) → a.frames ≡ frames_in ls → LayersStand to a.base a.kept ls → Same x y
        layers [] q h = absurd (not_empty x.frames c.frame (sym c.popped ∙ q))
        layers (l ∷ lower) q h =
            let k = text_at a.kept l.text l.frame.text h.0.marked in
            same k.0 l.text (subst (λ (f : Frame). TextAt f.text a.kept k.0 l.text) (sym (same_from_push x.frames (frames_in lower) c.frame l.frame (sym c.popped ∙ q)).1) k.1)

        by : (b : Bool) → RunsOrIsOver b to (after model a.base list machine_begun) a → Same x y
        by true p = absurd (not_empty x.frames c.frame (sym c.popped ∙ p.frames))
        by false p = layers p.layers p.by.frames p.by.each

    -- what one stands for the other does
    pub stands_same : EvaluatorStands to list b
    stands_same =
        let m = after model a.base list machine_begun in
        subst (EvaluatorStands to list) s.rest (record {
          page = e.page;
          phase = subst (λ (t : List Chars). RunsOrIsOver a.ended to (record m { texts = t }) (record a { frames = b.frames })) (map-id m.texts)
              (phase_as to m a a.kept (λ t. t) b.frames s.frames (inr (λ mark text k. k)) a.ended e.phase);
        })
