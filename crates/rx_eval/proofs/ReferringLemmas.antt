-- An element that says no more than what it refers to, where it may wait: what it opens and ends.
use Rattle.rx_eval.proofs.Common.{◌≡◌, ◌∙◌, ◌<◌, ◌-◌, ◌+◌, ℕ, suc, Bool, true, false, List, [], ◌∷◌, ◌++◌, length, Option, Some, None, refl, sym, ap, ap₂, subst, append-nil, append_assoc, length-append, arith, ◌||◌, ◌==◌, is_some, if◌then◌else◌, nat_eq, filter_map, nat_tests, Chars, by_test, resolved, node_seen, Node, Iri, Blank, Term, Triple, same_node, Naming, Facts, Ref, IriRef, LabelRef, RelativeRef, rule, value_now, Ending, Closes, ending, end_owner, cells_count, start_at, lists_at, owner_begun, begun_seen, gathers_some, Numbered, moment, handed_on, skipped_state, read_text, Opens, drawn_after, Owning, owning, cells_seen, ended_by, trimmed_owners, forgotten_seen, level_at, standing_by, says_no_more, reference_in, only_reference, referring_context, referring_frame, referred_by, with_pending, is_iri_node, LetsWait, MayWait, PendingMayWait, skipped_frame, skipped_frames, State, Frame, Hanging, Inherited, Standing, Resources, properties_by, completed, ShowsContext, add-one}
use Rattle.rx_rdfa.specs.Resources.{resources}
use Rattle.rx_rdfa.specs.Inherited.{below}
use Rattle.rx_rdfa.specs.Element.{start_of}
use Rattle.rx_eval.specs.declared.places.Level.{Level}
use Rattle.rx_eval.specs.declared.pending.Pending.{Pending}
use Rattle.rx_eval.specs.Waits.{waits as waits_in}
use Rattle.rx_eval.specs.declared.inherited.Inherited.{Inherited as Shown}
use Rattle.rx_eval.proofs.OwnersLemmas.{last_seen}
use Rattle.rx_eval.proofs.SilentLemmas.{referring, no_more, skipped_closes}
use Rattle.rx_eval.proofs.SkippedLemmas.{handed_skipped, handed_joined, skipped_more, length_skipped, none_gathers}

-- ---- by the rules

module _ (given : Facts) (reference : Chars) where
  abbrev plain : Facts
  plain = record (referring given) { href = Some (RelativeRef reference) }

  module _ (labels : Numbered) (fresh : ℕ) (base : Chars) (level : Level) (around : Inherited ℕ ℕ) where
    abbrev subject : Node ℕ
    subject = Iri (resolved base reference)

    abbrev here : Resources ℕ
    here = record { subject = subject; typed = None; object = None; skipped = false }

    says_none : (naming : Naming ℕ ℕ) (value : Option (Term ℕ)) → properties_by naming base (standing_by level around plain) here value ≡ []
    says_none naming None = refl
    says_none naming (Some value) = by_test given.inlist (λ t. rw t refl) (λ f. rw f refl)

    adds : around.hanging ≡ [] → start_at labels fresh base level around plain ≡ []
    unfolding start_of resources
    adds e =
        let naming : Naming ℕ ℕ = moment labels fresh 0 0 in
        let at : Standing ℕ ℕ = standing_by level around plain in
        let rest : List (Triple ℕ) → List (Hanging ℕ) → List (Triple ℕ) = λ l hs. l ++ filter_map (completed naming base at here) hs in
        ap₂ rest (says_none naming (value_now (rule naming base plain here) plain)) e

    begins : (owners : List (Option Owning)) → around.hanging ≡ [] → begun_seen subject around.object owners ≡ lists_at labels fresh base level around plain owners
    unfolding resources
    begins owners e = by_test given.inlist (λ t. rw (t, e) refl) (λ f. rw (f, e) refl)

  opens_plain : (old : State) → (handed_on old.page old.frames).hanging ≡ [] → Opens old plain (referred_by (Iri (resolved old.base reference)) 0 old)
  unfolding below resources
  opens_plain old e =
      let level : Level = level_at (length old.frames) in
      let around : Inherited ℕ ℕ = handed_on old.page old.frames in
      record {
        frame = referring_frame around (length old.owners) (Iri (resolved old.base reference));
        fresh = old.drawn;
        drawing = refl;
        pushed = refl;
        context = refl;
        start = sym (ap (λ (l : List (Triple ℕ)). old.out ++ l) (adds old.labels old.drawn old.base level around e) ∙ append-nil old.out);
        lists = begins old.labels old.drawn old.base level around old.owners e;
        gathers = refl;
        text = tt;
        own = refl;
        below_own = refl;
        counted = refl;
        rest = (refl, refl, refl, refl, refl, refl, refl);
      }

reference_is : (href : Option Ref) (reference : Chars) → reference_in href ≡ Some reference → href ≡ Some (RelativeRef reference)
reference_is None reference e = absurd (cc)
reference_is (Some (IriRef iri)) reference e = absurd (cc)
reference_is (Some (LabelRef label)) reference e = absurd (cc)
reference_is (Some (RelativeRef r)) reference e = let z : r ≡ reference = cc in rw z refl

-- it opens as the state with it shows
pub opens_referring : (old : State) (facts : Facts) (reference : Chars) → Some reference ≡ only_reference facts → (handed_on old.page old.frames).hanging ≡ [] → Opens old facts (referred_by (Iri (resolved old.base reference)) 0 old)
opens_referring old facts reference o e = by_test (says_no_more facts) (λ t. alone t (rw t at o)) (λ f. absurd (let z = rw f at o in cc))
  where
    alone : says_no_more facts ≡ true → Some reference ≡ reference_in facts.href → Opens old facts (referred_by (Iri (resolved old.base reference)) 0 old)
    alone t h =
        let same : plain facts reference ≡ facts = λ i. record (no_more facts t i) { href = sym (reference_is facts.href reference (sym h)) i } in
        subst (λ (f : Facts). Opens old f (referred_by (Iri (resolved old.base reference)) 0 old)) same (opens_plain facts reference old e)

-- ---- its frame among the others

-- no number is drawn inside
draws_none : (around : Inherited ℕ ℕ) (n : ℕ) (subject : Node ℕ) (drawn : ℕ) → is_iri_node subject ≡ true → drawn ≡ drawn_after (referring_context around n subject) drawn
draws_none around n (Iri iri) drawn h = refl
draws_none around n (Blank b) drawn h = absurd (cc h)

module _ (node : Node ℕ) (old : State) where
  abbrev around : Inherited ℕ ℕ
  around = handed_on old.page old.frames

  abbrev context : Inherited ℕ ℕ
  context = referring_context around (length old.owners) node

  abbrev frame : Frame
  frame = referring_frame around (length old.owners) node

  abbrev frames : ℕ → List Frame
  frames n = old.frames ++ frame ∷ skipped_frames context n

  pub hands_referring : (n : ℕ) → handed_on old.page (frames n) ≡ context
  hands_referring n = handed_joined old.page old.frames (frame ∷ skipped_frames context n) ∙ handed_skipped context n

  pub gathers_referring : (n : ℕ) → gathers_some (frames n) ≡ gathers_some old.frames
  gathers_referring n = past old.frames
    where
      past : (fs : List Frame) → gathers_some (fs ++ frame ∷ skipped_frames context n) ≡ gathers_some fs
      past [] = none_gathers context n
      past (f ∷ fs) = ap (λ (b : Bool). is_some f.text || b) (past fs)

  pub count_referring : (n : ℕ) → length (frames n) ≡ length old.frames + 1 + n
  count_referring n =
      let l = length-append old.frames (frame ∷ skipped_frames context n) in
      omega (arith, l, length_skipped context n)

  more_frames : (n : ℕ) → frames (suc n) ≡ frames n ++ skipped_frame (handed_on old.page (frames n)) ∷ []
  more_frames n =
      ap (λ (l : List Frame). old.frames ++ frame ∷ l) (skipped_more context n)
      ∙ sym (append_assoc old.frames (frame ∷ skipped_frames context n) (skipped_frame context ∷ []))
      ∙ ap (λ (c : Inherited ℕ ℕ). frames n ++ skipped_frame c ∷ []) (sym (hands_referring n))

  -- one more in it of which nothing is said
  pub skips_referring : is_iri_node node ≡ true → (n : ℕ) → referred_by node (suc n) old ≡ skipped_state (referred_by node n old)
  skips_referring h n =
      ap₂ (λ (fs : List Frame) (d : ℕ). record (referred_by node n old) { frames = fs; drawn = d }) (more_frames n)
      (draws_none around (length old.owners) node old.drawn h ∙ ap (λ (c : Inherited ℕ ℕ). drawn_after c old.drawn) (sym (hands_referring n)))

  pub reads_referring : (n : ℕ) (chars : Chars) → read_text chars (referred_by node n old) ≡ referred_by node n (read_text chars old)
  reads_referring n chars =
      ap (λ (b : Bool). record (referred_by node n old) { kept = (if b then old.kept ++ chars else old.kept) }) (gathers_referring n)

  module _ (w : LetsWait old) where
    kept_referring : (fs : List Frame) → gathers_some fs ≡ gathers_some old.frames → old.kept ≡ (if gathers_some fs then old.kept else [])
    kept_referring fs e = by_test (gathers_some old.frames) (λ t. rw (e, t) refl) (λ f. rw (e, f) (w.quiet f))

    -- one of those is closed
    pub closes_inside : (n : ℕ) → Closes (referred_by node (suc n) old) (referred_by node n old)
    closes_inside n =
        skipped_closes (referred_by node (suc n) old) (frames n) (handed_on old.page (frames n)) (more_frames n)
        (omega (arith, count_referring n)) (kept_referring (frames n) (gathers_referring n))

-- ---- its own lists

last_gone : (xs : List (Option Owning)) (x : Option Owning) → forgotten_seen (xs ++ x ∷ []) (length xs) ≡ trimmed_owners xs
last_gone [] x = refl
last_gone (y ∷ xs) x = ap (ended_by y) (last_gone xs x)

ends_nothing : (subject other : Node ℕ) (out : List (Triple ℕ)) (owners : List (Option Owning)) (cells : ℕ) → trimmed_owners owners ≡ owners
    → ending out owners cells ≡ end_owner (owner_begun subject other (length owners)) (ending out (begun_seen subject other owners) cells)
ends_nothing subject other out owners cells e = by_test (same_node nat_eq subject other) (λ t. rw t refl) (λ f. rw f begun)
  where
    begun : ending out owners cells ≡ end_owner (Some (length owners)) (ending out (owners ++ Some (owning subject []) ∷ []) cells)
    begun =
        let x : Option Owning = Some (owning subject []) in
        let rest : Option Owning → List (Option Owning) → Ending = λ o l. ending (out ++ cells_seen cells o) l (cells + cells_count o) in
        sym (ap₂ rest (last_seen owners x) (last_gone owners x ∙ e) ∙ ap₂ (λ (l : List (Triple ℕ)) (n : ℕ). ending l owners n) (append-nil out) (omega arith))

-- the element itself is closed
pub closes_referring : (subject : Node ℕ) (old : State) → LetsWait old → Closes (referred_by subject 0 old) old
closes_referring subject old w =
    let z : (length old.frames == 0) ≡ false = let r = w.rooted in grind (arith, nat_tests) in
    record {
      frame = frame subject old;
      popped = refl;
      endings = λ front chars at. rw z (ends_nothing subject (handed_on old.page old.frames).object old.out old.owners old.cells w.tidy);
      kept = kept_referring subject old w old.frames refl;
      ended = rw z refl;
      rest = (refl, refl, refl, refl, refl, refl);
    }

-- ---- the element that waits

module _ (w : Option Pending) (p : Pending) (s : State) (e : w ≡ Some p) where
  module _ (k : PendingMayWait w s) where
    waits : MayWait (node_seen p.subject) p.inside s
    waits = rw e at k

    pub silent_waits : referred_by (node_seen p.subject) (p.inside + 1) s ≡ skipped_state (with_pending w s)
    silent_waits = rw (e, add-one p.inside) (skips_referring (node_seen p.subject) s waits.iri p.inside)

    pub silent_kept : length (with_pending w s).frames < s.levels → MayWait (node_seen p.subject) (p.inside + 1) s
    silent_kept h =
        let l : length (referred_by (node_seen p.subject) p.inside s).frames < s.levels = rw e at h in
        record { lets = waits.lets; iri = waits.iri; room = omega (arith, l, count_referring (node_seen p.subject) s p.inside) }

    pub inside_closes : 0 < p.inside → Closes (with_pending w s) (referred_by (node_seen p.subject) (p.inside - 1) s)
    inside_closes h =
        let q : p.inside ≡ suc (p.inside - 1) = omega (arith, h) in
        rw e (subst (λ (n : ℕ). Closes (referred_by (node_seen p.subject) n s) (referred_by (node_seen p.subject) (p.inside - 1) s)) (sym q) (closes_inside (node_seen p.subject) s waits.lets (p.inside - 1)))

    pub last_closes : (d : Option Pending) → p.inside ≡ 0 → d ≡ None → Closes (with_pending w s) (with_pending d s)
    last_closes d z n = rw (n, e, z) (closes_referring (node_seen p.subject) s waits.lets)

  pub count_waits : (d : ℕ) → d ≡ length s.frames → d + 1 + p.inside ≡ length (with_pending w s).frames
  count_waits d h = rw e (omega (arith, h, count_referring (node_seen p.subject) s p.inside))

  pub shows_waits : (shown : Shown) → node_seen shown.subject.now ≡ node_seen p.subject → node_seen shown.object.now ≡ node_seen p.subject → waits_in shown ≡ []
      → ShowsContext shown (handed_on (with_pending w s).page (with_pending w s).frames)
  shows_waits shown a b h =
      rw e (subst (ShowsContext shown) (sym (hands_referring (node_seen p.subject) s p.inside)) (record { subject = a; object = b; hanging = h }))

-- ---- what the state with it has of the state

pub out_waits : (w : Option Pending) (s : State) → (with_pending w s).out ≡ s.out
out_waits None s = refl
out_waits (Some p) s = refl

pub reads_waits : (w : Option Pending) (s : State) (chars : Chars) → with_pending w (read_text chars s) ≡ read_text chars (with_pending w s)
reads_waits None s chars = refl
reads_waits (Some p) s chars = sym (reads_referring (node_seen p.subject) s p.inside chars)

pub none_waits : (w : Option Pending) (s : State) → w ≡ None → s ≡ with_pending w s
none_waits w s e = ap (λ (x : Option Pending). with_pending x s) (sym e)

pub rooted_waits : (w : Option Pending) (s : State) → 0 < length s.frames → 0 < length (with_pending w s).frames
rooted_waits None s h = h
rooted_waits (Some p) s h = omega (arith, count_referring (node_seen p.subject) s p.inside)
