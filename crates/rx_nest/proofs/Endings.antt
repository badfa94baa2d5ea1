-- The end of a page.
use Rattle.rx_nest.proofs.Common.{◌≡◌, ◌≢◌, ◌∙◌, ℕ, Bool, true, false, List, [], ◌∷◌, ◌++◌, refl, sym, ap, subst, length, Some, None, Ok, Err, ◌&&◌, if◌then◌else◌, map, take, chars, Chars, Syntax, Item, FaultAt, Fault, Unended, Limits, Event, Progress, page_ended, page_may_end, is_over, fault_in, Scanning, found_fault, read_size, Scanner, Lines, is_none_open, Levels, Sign, said, sees, nothing_seen, phase_at, ⊎_elim, Completes}
use Rattle.rx_scan.specs.Steps as scan
use Rattle.rx_nest.specs.declared.tree_tokens.EventKind.{EventKind}
use Rattle.rx_nest.specs.declared.tree_tokens.EventKind.TheVariants as did
use Rattle.rx_nest.specs.declared.nests.Event as shown
use Rattle.rx_nest.specs.declared.nests.Event.TheVariants as event
use Rattle.rx_nest.specs.Nests.{did_skipped, is_skipped, DidOf, TellsOf, Nested, At, NestStands, Done, DidLends, did_signs, did_more, event_signs, is_more, Speaks, ShowsEvent, NestStepped, ReadingEndsWith, NestEnded, last_tag, last_text, owed_signs}
use Rattle.rx_nest.proofs.TreeSeen.{EndOf, end_cases, whole}

module _ (syntax : Syntax) (limits : Limits) (bytes : List ℕ) (told : List Event) (v : Scanner) (line : Lines) (at : At syntax limits bytes told v line) where
  abbrev over_now : Bool
  over_now = line.begun && is_none_open line.levels

  phase_over : is_over at.now.nest.phase ≡ over_now
  phase_over = ap is_over at.follows.phase_is ∙ by line.begun line.levels
    where
      by : (b : Bool) (levels : Levels) → is_over (phase_at b levels at.follows.stood) ≡ (b && is_none_open levels)
      by true (level ∷ levels) = refl
      by _ _ = refl

  pub over_ends : scan.ScanIsWhole at.now.scan → over_now ≡ true → ReadingEndsWith syntax limits bytes told None
  over_ends w h =
      let ended : page_may_end at.now ≡ over_now = rw (w.run, w.held) phase_over in
      (record { now = at.now; told = told }, ap page_ended at.read ∙ ap (λ x. if x then Ok (record { now = at.now; told = told }) else Err (fault_in at.now.scan Unended)) (ended ∙ h), refl)

-- what was told at a page's end is its tree
module _ (syntax : Syntax) (limits : Limits) (old : Nested) (bytes : List ℕ) (signs : List Sign) (st : NestStands syntax limits old bytes signs) where
  pub fault_ends : (fault : Fault) → ReadingEndsWith syntax limits bytes st.told (Some fault) → FaultAt syntax limits bytes fault × (fault.kind ≡ Unended) × (fault.at ≡ length bytes)
  fault_ends fault h = (found_fault syntax limits bytes fault h, ap (λ (x : Fault). x.kind) same, ap (λ (x : Fault). x.at) same ∙ (read_size syntax limits bytes (record { now = st.at.now; told = st.told }) st.at.read).0)
    where
      same : fault ≡ fault_in st.at.now.scan Unended
      same =
          let here : Progress = record { now = st.at.now; told = st.told } in
          ⊎_elim (λ k. absurd (cc)) (λ w. let is : here ≡ w.0 = cc in sym w.2 ∙ ap (λ (x : Progress). fault_in x.now.scan Unended) (sym is)) (subst (EndOf (Ok here)) (sym (ap page_ended st.at.read) ∙ h) (end_cases (Ok here)))

  pub page_ends : ReadingEndsWith syntax limits bytes st.told None → NestEnded syntax limits bytes signs (owed_signs old.owed (last_tag old.scan))
  page_ends h =
      let w = whole syntax limits bytes h.0 h.1 in
      let same = sym st.sight ∙ (ap (λ x. sees nothing_seen x) (sym h.2) ∙ w.shows) in
      record { tree = w.tree; page = w.page; shown = ap (λ x. x.signs) same }

-- the same tokens, told otherwise
pub completes_as : {syntax : Syntax} {limits : Limits} {bytes more : List ℕ} {skipped other : Bool} {tells others : Scanning → List ℕ → List Item → Type 0} → Completes syntax limits bytes more skipped tells → (skipped ≡ true → other ≡ true)
    → ((s : Scanning) (items : List Item) → tells s more items → others s more items) → Completes syntax limits bytes more other others
completes_as c k f = record { before = c.before; read = c.read; next = c.next; items = c.items; completed = c.completed; are = f c.before.now.scan c.items c.are; mark = λ rest m. let q = c.mark rest m in (k q.0, q.1) }

-- an event shows what was done
not_said : (text : Chars) → map said text ≢ [] → text ≢ []
not_said [] n h = n refl
not_said (c ∷ text) n h = absurd (cc)

some_said : (text : Chars) → text ≢ [] → map said text ≢ []
some_said [] n h = n refl
some_said (c ∷ text) n h = absurd (cc)

speaks_so : (e : shown.Event) (text : Chars) → event_signs e ≡ map said text → text ≢ [] → Speaks e
speaks_so (event.Text text) told h n = not_said (chars text.now) (λ e. some_said told n (sym h ∙ e))
speaks_so (event.Begin t) [] h n = absurd (n refl)
speaks_so (event.Begin t) (c ∷ told) h n = absurd (cc)
speaks_so _ told h n = tt

record Tells (d : EventKind) (v : Scanner) (e : shown.Event) : Type 0 where
  signs_are : event_signs e ≡ did_signs d v
  speaks : Speaks e
  more : is_more e ≡ did_more d
  skipped : is_skipped e ≡ did_skipped d
  tells : (s : Scanning) (bytes : List ℕ) (items : List Item) → DidOf d v s bytes items → TellsOf e s bytes items

-- what shows something isn't skipped
not_skipped : (e : shown.Event) (signs : List Sign) → event_signs e ≡ signs → signs ≢ [] → is_skipped e ≡ false
not_skipped event.Skipped signs h n = absurd (n (sym h))
not_skipped _ signs h n = refl

tells : (d : EventKind) (v : Scanner) (e : shown.Event) → DidLends d v → ShowsEvent d v e → Tells d v e
tells did.More v e l s = subst (λ x. Tells did.More v x) (sym s) (record { signs_are = refl; speaks = tt; more = refl; skipped = refl; tells = λ s bytes items h. h })
tells did.Skipped v e l s = subst (λ x. Tells did.Skipped v x) (sym s) (record { signs_are = refl; speaks = tt; more = refl; skipped = refl; tells = λ s bytes items h. h })
tells did.Finish v e l s = subst (λ x. Tells did.Finish v x) (sym s) (record { signs_are = refl; speaks = tt; more = refl; skipped = refl; tells = λ s bytes items h. h })
tells did.Begin v e l s = let is = s.1 l in record { signs_are = is.signs_are; speaks = is.speaks; more = s.0; skipped = not_skipped e (did_signs did.Begin v) is.signs_are (λ z. cc); tells = is.tells }
tells did.Text v e l s = let is = s.1 l.0 in record { signs_are = is.signs_are; speaks = speaks_so e (last_text v) is.signs_are l.1; more = s.0; skipped = not_skipped e (did_signs did.Text v) is.signs_are (some_said (last_text v) l.1); tells = is.tells }

pub stepped : (syntax : Syntax) (limits : Limits) (bytes : List ℕ) (signs : List Sign) (piece : List ℕ) (n : ℕ) (d : EventKind) (e : shown.Event) (new : Nested) → Done syntax limits bytes signs piece n d new → ShowsEvent d new.scan e → NestStepped syntax limits bytes signs piece n e new
stepped syntax limits bytes signs piece n d e new done s =
    let t = tells d new.scan e done.lends s in
    record {
      fits = done.fits;
      stands = subst (λ x. NestStands syntax limits new (bytes ++ take n piece) (signs ++ x)) (sym t.signs_are) done.stands;
      speaks = t.speaks;
      all = λ m. done.all (sym t.more ∙ m);
      passed = λ m. done.passed (sym t.skipped ∙ m);
      tokens = completes_as done.tokens (λ h. t.skipped ∙ h) (λ s items h. t.tells s (take n piece) items h);
    }

-- an event is nothing exactly where nothing was done
pub shown_more : (d : EventKind) (v : Scanner) (e : shown.Event) → ShowsEvent d v e → is_more e ≡ did_more d
shown_more did.Begin v e s = s.0
shown_more did.Text v e s = s.0
shown_more _ v e s = ap is_more s
