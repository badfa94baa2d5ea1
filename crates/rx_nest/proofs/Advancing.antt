-- What is due and what is read are told in turn.
use Rattle.rx_nest.proofs.Common.{◌≡◌, ◌∙◌, ℕ, zero, suc, Bool, true, false, List, [], ◌++◌, refl, sym, ap, subst, append_assoc, append-nil, Option, Some, None, Err, arith, nat_tests, if◌then◌else◌, ◌-◌, nat_lt, take, drop, Syntax, Item, StartTag, Fault, Limits, no_bytes, no_page, Scanning, Stop, take-append-drop, Scanner, Lines, Sign, sees, nothing_seen, flags_of, own_signs, FallsBy, NestReadGives, StaysAtFault, FaultGives, OpenBefore, Nested, At, NestStands, StopsInPiece, Unshown, LendsStart, begins_own, IsATag, a_tag, read_before, read_now, TokenOf, DidOf, Done, DidLends, did_signs, did_more, did_skipped, heard_signs, hears_more, hears_skipped, Lends, Heeds, last_tag, owed_signs, owes_begin, left}
use Rattle.rx_scan.specs.Steps as scan
use Rattle.rx_nest.specs.declared.lines.TagAction.{TagAction}
use Rattle.rx_nest.specs.declared.lines.TagAction.TheVariants as own
use Rattle.rx_nest.specs.declared.tree_tokens.PendingEvents.{PendingEvents}
use Rattle.rx_nest.specs.declared.tree_tokens.TreeToken.{TreeToken}
use Rattle.rx_nest.specs.declared.tree_tokens.TreeToken.TheVariants as tree_token
use Rattle.rx_nest.specs.declared.tree_tokens.EventKind.{EventKind}
use Rattle.rx_nest.specs.declared.tree_tokens.EventKind.TheVariants as did
use Rattle.rx_scan.proofs.MarkLemmas.{none_marked}
use Rattle.rx_nest.specs.TreeTokens.{first_own, next_own, next_owed, first_event, paid}
use Rattle.rx_grammar.specs.declared.stops.Stop.TheVariants as stop
use Rattle.rx_nest.proofs.TextSteps.{sees_append}
use Rattle.rx_nest.proofs.Sizes.{faults_so, still_so}
use Rattle.rx_nest.proofs.OpenElements.{open_before}
use Rattle.rx_nest.proofs.Endings.{completes_as}

-- before the first byte
pub new_at : (syntax : Syntax) (limits : Limits) (v : Scanner) (line : Lines) → v.reading.setting ≡ scan.first_setting syntax limits → scan.ScanStands v no_bytes → line ≡ record { syntax = syntax; depth = limits.depth; begun = false; levels = [] }
    → At syntax limits [] [] v line
new_at syntax limits v line setting stands e =
    subst (λ (x : Lines). At syntax limits [] [] v x) (sym e)
    (record {
      now = no_page;
      read = refl;
      stands = stands;
      setting = setting;
      follows = record { levels_are = tt; stood = false; phase_is = refl; none_yet = λ b. refl };
      syntax_is = refl;
      depth_is = refl;
    })

some_left : (k : ℕ) → nat_lt 0 (suc k) ≡ true
some_left k = grind (arith, nat_tests)

one_fewer : (k : ℕ) → suc k - 1 ≡ k
one_fewer k = omega arith

one_next : (k : ℕ) (o : Option TagAction) → next_owed (record { ends = suc k; own = o }) ≡ Some (did.Finish, record { ends = k; own = o })
one_next k o = ap (λ b. if b then Some (did.Finish, record { ends = suc k - 1; own = o }) else next_own o) (some_left k) ∙ ap (λ n. Some (did.Finish, record { ends = n; own = o })) (one_fewer k)

one_first : (k : ℕ) (o : TagAction) (drops : Bool) → first_event (tree_token.Tag (record { ends = suc k; own = o; drops = drops })) ≡ (did.Finish, record { ends = k; own = Some o })
one_first k o drops = ap (λ b. if b then (did.Finish, record { ends = suc k - 1; own = Some o }) else first_own o) (some_left k) ∙ ap (λ n. (did.Finish, record { ends = n; own = Some o })) (one_fewer k)

-- what is done first, and what is owed then
pub record Turn (signs : List Sign) (d : EventKind) (owed : PendingEvents) (v : Scanner) : Type 0 where
  pub signs_are : signs ≡ did_signs d v ++ owed_signs owed (last_tag v)
  pub begin_left : owes_begin owed.own ≡ true → LendsStart v
  pub quiet : did_more d ≡ false
  pub passed : did_skipped d ≡ true → left owed ≡ 0
  pub is_read : (s : Scanning) (bytes : List ℕ) (items : List Item) → IsATag items → DidOf d v s bytes items

own_turn : (o : TagAction) (v : Scanner) → Turn (own_signs o (last_tag v)) (first_own o).0 (first_own o).1 v
own_turn own.Nothing v = record { signs_are = refl; begin_left = λ h. absurd (cc); quiet = refl; passed = λ h. refl; is_read = λ s bytes items t. a_tag t }
own_turn _ v = record { signs_are = refl; begin_left = λ h. absurd (cc); quiet = refl; passed = λ h. absurd (cc); is_read = λ s bytes items t. read_now t }

-- an own that begins no element lends nothing
own_lends : (o : TagAction) (v : Scanner) → (owes_begin (Some o) ≡ true → LendsStart v) → DidLends (first_own o).0 v
own_lends own.Begin v h = h refl
own_lends own.Alone v h = h refl
own_lends _ v h = tt

pub record Due (owed : PendingEvents) (d : EventKind) (next : PendingEvents) (v : Scanner) : Type 0 where
  pub signs_are : owed_signs owed (last_tag v) ≡ did_signs d v ++ owed_signs next (last_tag v)
  pub lends : DidLends d v
  pub begin_left : owes_begin next.own ≡ true → LendsStart v
  pub quiet : did_more d ≡ false
  pub seen : did_skipped d ≡ false
  pub is_due : (s : Scanning) (bytes : List ℕ) (items : List Item) → items ≡ [] → DidOf d v s bytes items

abbrev IsNext : PendingEvents → EventKind → PendingEvents → Type 0
IsNext owed d next = ◌≡◌ {A = Option (EventKind × PendingEvents)} (next_owed owed) (Some (d, next))

pub due : (owed : PendingEvents) (d : EventKind) (next : PendingEvents) (v : Scanner) → IsNext owed d next → (owes_begin owed.own ≡ true → LendsStart v) → Due owed d next v
due owed d next v h lends = by owed.ends owed.own h lends
  where
    so : (owed : PendingEvents) (x : EventKind × PendingEvents) → Due owed x.0 x.1 v → ◌≡◌ {A = Option (EventKind × PendingEvents)} (Some x) (Some (d, next)) → Due owed d next v
    so owed x u e = let pair : x ≡ (d, next) = cc in subst (λ (x : EventKind × PendingEvents). Due owed x.0 x.1 v) pair u

    by : (k : ℕ) (o : Option TagAction) → IsNext (record { ends = k; own = o }) d next → (owes_begin o ≡ true → LendsStart v) → Due (record { ends = k; own = o }) d next v
    by (suc k) o h l =
        so (record { ends = suc k; own = o }) (did.Finish, record { ends = k; own = o }) (record { signs_are = refl; lends = tt; begin_left = l; quiet = refl; seen = refl; is_due = λ s bytes items e. read_before e }) (sym (one_next k o) ∙ h)
    by zero (Some own.Begin) h l =
        so (record { ends = 0; own = Some own.Begin }) (did.Begin, paid) (record { signs_are = refl; lends = l refl; begin_left = λ b. absurd (cc); quiet = refl; seen = refl; is_due = λ s bytes items e. read_before e }) h
    by zero (Some own.Finish) h l =
        so (record { ends = 0; own = Some own.Finish }) (did.Finish, paid) (record { signs_are = refl; lends = tt; begin_left = λ b. absurd (cc); quiet = refl; seen = refl; is_due = λ s bytes items e. read_before e }) h
    by zero (Some own.Alone) h l =
        so (record { ends = 0; own = Some own.Alone }) (did.Begin, record { ends = 0; own = Some own.Finish }) (record { signs_are = refl; lends = l refl; begin_left = λ b. absurd (cc); quiet = refl; seen = refl; is_due = λ s bytes items e. read_before e }) h
    by zero _ h l = absurd (cc)

-- nothing is owed
pub none_due : (owed : PendingEvents) (t : StartTag) → next_owed owed ≡ None → owed_signs owed t ≡ []
none_due owed t h = by owed.ends owed.own h
  where
    by : (k : ℕ) (o : Option TagAction) → next_owed (record { ends = k; own = o }) ≡ None → owed_signs (record { ends = k; own = o }) t ≡ []
    by (suc k) o h = absurd (let w : None ≡ Some (did.Finish, record { ends = k; own = o }) = sym h ∙ one_next k o in cc)
    by zero None h = refl
    by zero (Some own.Nothing) h = refl
    by zero _ h = absurd (cc)

-- what was heard
pub record First (h : TreeToken) (v : Scanner) : Type 0 where
  pub signs_are : heard_signs h v ≡ did_signs (first_event h).0 v ++ owed_signs (first_event h).1 (last_tag v)
  pub lends : DidLends (first_event h).0 v
  pub begin_left : owes_begin (first_event h).1.own ≡ true → LendsStart v
  pub more : did_more (first_event h).0 ≡ hears_more h
  pub skipped : hears_skipped h ≡ true → did_skipped (first_event h).0 ≡ true
  -- behind what is skipped nothing is due
  pub passed : did_skipped (first_event h).0 ≡ true → (hears_more h ≡ false) × (left (first_event h).1 ≡ 0)
  pub is_read : (s : Scanning) (bytes : List ℕ) (items : List Item) → TokenOf h v s bytes items → DidOf (first_event h).0 v s bytes items

pub first_turn : (h : TreeToken) (v : Scanner) → Lends h v → First h v
first_turn tree_token.More v l = record { signs_are = refl; lends = tt; begin_left = λ b. absurd (cc); more = refl; skipped = λ b. b; passed = λ b. absurd (cc); is_read = λ s bytes items h. h }
first_turn tree_token.Skipped v l = record { signs_are = refl; lends = tt; begin_left = λ b. absurd (cc); more = refl; skipped = λ b. b; passed = λ b. (refl, refl); is_read = λ s bytes items h. h }
first_turn tree_token.Text v l = record { signs_are = sym (append-nil (did_signs did.Text v)); lends = l; begin_left = λ b. absurd (cc); more = refl; skipped = λ b. b; passed = λ b. absurd (cc); is_read = λ s bytes items h. h }
first_turn (tree_token.Tag told) v l = by told.ends told.own l
  where
    by : (k : ℕ) (o : TagAction) → (begins_own o ≡ true → LendsStart v) → First (tree_token.Tag (record { ends = k; own = o; drops = told.drops })) v
    by zero o l = let t = own_turn o v in record { signs_are = t.signs_are; lends = own_lends o v l; begin_left = t.begin_left; more = t.quiet; skipped = λ b. absurd (cc); passed = λ b. (refl, t.passed b); is_read = t.is_read }
    by (suc k) o l =
        let first = one_first k o told.drops in
        record {
          signs_are = ap (λ (x : EventKind × PendingEvents). did_signs x.0 v ++ owed_signs x.1 (last_tag v)) (sym first);
          lends = subst (λ (x : EventKind × PendingEvents). DidLends x.0 v) (sym first) tt;
          begin_left = λ b. l (ap (λ (x : EventKind × PendingEvents). owes_begin x.1.own) (sym first) ∙ b);
          more = ap (λ (x : EventKind × PendingEvents). did_more x.0) first;
          skipped = λ b. absurd (cc);
          passed = λ b. absurd (let w : false ≡ true = ap (λ (x : EventKind × PendingEvents). did_skipped x.0) (sym first) ∙ b in cc);
          is_read = λ s bytes items t. subst (λ (x : EventKind × PendingEvents). DidOf x.0 v s bytes items) (sym first) (read_now t);
        }

module _ (syntax : Syntax) (limits : Limits) (old : Nested) (bytes : List ℕ) (signs : List Sign) (st : NestStands syntax limits old bytes signs) (piece : List ℕ) where
  -- what is due is told
  pub due_done : (d : EventKind) (next : PendingEvents) (new : Nested) → IsNext old.owed d next → new ≡ record { scan = old.scan; line = old.line; owed = next; failed = old.failed; out_of_memory = old.out_of_memory } → Done syntax limits bytes signs piece 0 d new
  due_done d next new h e =
      let u = due old.owed d next old.scan h st.lends in
      subst (λ x. Done syntax limits bytes signs piece 0 d x) (sym e)
      (record {
        fits = omega arith;
        stands = record {
          told = st.told;
          at = subst (λ x. At syntax limits x st.told old.scan old.line) (sym (append-nil bytes)) st.at;
          sight = st.sight ∙ ap (λ x. record { flags = flags_of old.line.levels; signs = x }) (ap (λ x. signs ++ x) u.signs_are ∙ sym (append_assoc signs (did_signs d old.scan) (owed_signs next (last_tag old.scan))));
          lends = u.begin_left;
          unfailed = st.unfailed;
          unspent = st.unspent;
        };
        lends = u.lends;
        all = λ m. absurd (let w : true ≡ false = sym m ∙ u.quiet in cc);
        passed = λ m. absurd (let w : true ≡ false = sym m ∙ u.seen in cc);
        tokens = record {
          before = record { now = st.at.now; told = st.told };
          read = st.at.read;
          next = st.at.now.scan;
          items = [];
          completed = refl;
          are = u.is_due st.at.now.scan [] [] refl;
          mark = λ rest m. absurd (none_marked st.at.now.scan rest m);
        };
      })

  -- what is read is told
  pub read_done : (n : ℕ) (h : TreeToken) (new : Nested) → scan.TakesSome piece n (hears_more h) → next_owed old.owed ≡ None → Heeds syntax limits bytes st.told piece n h old.line new.scan new.line → new.owed ≡ (first_event h).1 → new.failed ≡ None → new.out_of_memory ≡ false
      → Done syntax limits bytes signs piece n (first_event h).0 new
  read_done n h new takes none heeds owed failed out_of_memory =
      let f = first_turn h new.scan heeds.lends in
      let paid_up : signs ++ owed_signs old.owed (last_tag old.scan) ≡ signs = ap (λ x. signs ++ x) (none_due old.owed (last_tag old.scan) none) ∙ append-nil signs in
      record {
        fits = heeds.fits;
        stands = record {
          told = st.told ++ heeds.events;
          at = heeds.at;
          sight =
              sees_append nothing_seen st.told heeds.events
              ∙ (ap (λ x. sees x heeds.events) (st.sight ∙ ap (λ x. record { flags = flags_of old.line.levels; signs = x }) paid_up)
              ∙ (heeds.shows signs
              ∙ ap (λ x. record { flags = flags_of new.line.levels; signs = x })
              (ap (λ x. signs ++ x) f.signs_are ∙ (sym (append_assoc signs (did_signs (first_event h).0 new.scan) (owed_signs (first_event h).1 (last_tag new.scan))) ∙ ap (λ (x : PendingEvents). (signs ++ did_signs (first_event h).0 new.scan) ++ owed_signs x (last_tag new.scan)) (sym owed)))));
          lends = λ b. f.begin_left (ap (λ (x : PendingEvents). owes_begin x.own) (sym owed) ∙ b);
          unfailed = failed;
          unspent = out_of_memory;
        };
        lends = f.lends;
        all = λ m. heeds.all (sym f.more ∙ m);
        passed = λ m. let p = f.passed m in (takes.some p.0, ap left owed ∙ p.1);
        tokens = completes_as heeds.tokens f.skipped (λ s items h. f.is_read s (take n piece) items h);
      }

  -- before a fault no more is shown
  pub unshown : (fault : Fault) → next_owed old.owed ≡ None → StopsInPiece syntax limits bytes st.told piece fault → Unshown syntax limits bytes signs piece
  unshown fault none stops k p h =
      let same = still_so syntax limits bytes piece st.at.now st.told fault st.at.read stops (take k piece) (drop k piece) p (sym (take-append-drop k piece)) h in
      let paid_up : signs ++ owed_signs old.owed (last_tag old.scan) ≡ signs = ap (λ x. signs ++ x) (none_due old.owed (last_tag old.scan) none) ∙ append-nil signs in
      ap (λ es. (sees nothing_seen es).signs) same ∙ (ap (λ x. x.signs) st.sight ∙ paid_up)

  -- after a fault, or without memory, nothing else is answered
  pub read_stopped : (why : Stop) (new : Nested) → next_owed old.owed ≡ None → NestReadGives syntax limits bytes st.told piece old.line (Err why) new.scan new.line → StaysAtFault {A = ℕ × TreeToken} (Err why) old.line new.line
      → FallsBy why new.failed new.out_of_memory → FaultGives syntax limits bytes signs piece why new
  read_stopped (stop.Fault fault) new none stops same falls = (
    faults_so syntax limits bytes piece _ st.told fault st.at.read stops,
    record { failed = falls.0; unspent = falls.1 },
    unshown fault none stops,
    subst (λ (l : Lines). OpenBefore syntax limits (bytes ++ piece) fault.token l) (sym same) (open_before syntax limits bytes st.told old.scan old.line st.at piece fault stops),
  )
  read_stopped stop.NoMemory new none stops same falls = falls
