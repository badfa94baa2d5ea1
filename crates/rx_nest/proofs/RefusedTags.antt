-- Behind a start tag that is refused nothing is unfinished.
use Rattle.rx_nest.proofs.Common.{◌≡◌, ◌∙◌, ⊎_elim, ℕ, ◌+◌, ◌<◌, List, [], ◌∷◌, ◌++◌, length, take, refl, sym, ap, subst, append-nil, Some, None, Ok, arith, length-append, Fault, spot_of, Progress, page_on, page_read, no_progress, ReadsTo, page_append, nothing_unfinished, length-take-le, get_or, take_more, Sight, sees, nothing_seen, signs_of, Way, IsRefusal, ReaderRefuses, RefusesLast}
use Rattle.rx_nest.proofs.PageWalks.{page_sound}
use Rattle.rx_nest.proofs.TextSteps.{sees_append, byte_goes}
use Rattle.rx_nest.proofs.TagPlaces.{shows_more}
use Rattle.rx_nest.proofs.Firsts.{meaning_within, some_none}
use Rattle.rx_nest.proofs.FaultPlacing.{read_front, shown, refused_of, through}
use Rattle.rx_nest.proofs.PlaceLaws.{accepted_front}
use Rattle.rx_nest.proofs.Refusing.{bare_accepted, refused_where}
use Rattle.rx_nest.proofs.TokenPlacing.{After, HasNoTag, byte_tags, items_such, none_such}

module _ (way : Way) (law : IsRefusal way.refused) where
  abbrev Settled : Progress → Type 0
  Settled p = (p.now.scan.run ≡ []) × (p.now.scan.held ≡ [])

  -- the byte with which a start tag is refused leaves nothing unfinished
  last_settles : (init : List ℕ) (byte : ℕ) (p q : Progress) (fault : Fault) → page_read way.syntax way.limits init ≡ Ok p → page_read way.syntax way.limits (init ++ byte ∷ []) ≡ Ok q
      → way.refused (shown p) ≡ None → way.refused (shown q) ≡ Some fault → Settled q
  last_settles init byte p q fault r s none some =
      byte_goes way.syntax way.limits p byte (λ x. x ≡ Ok q → Settled q) (λ kind e. absurd (cc))
      (λ scanned step e k w.
      let is : ◌≡◌ {A = Progress} (record { now = record { scan = scanned.next; nest = step.next }; told = p.told ++ step.events }) q = cc in
      let bare = λ (n : HasNoTag scanned.items). (items_such (λ t. t.attributes ≡ []) way.syntax way.limits p.now.nest scanned.items step (page_sound way.syntax way.limits init p r) (none_such (λ t. t.attributes ≡ []) scanned.items n) k).holds in
      let same : shown q ≡ (sees (sees nothing_seen p.told) step.events).signs =
      ap (λ (x : Progress). shown x) (sym is) ∙ ap (λ (x : Sight). x.signs) (sees_append nothing_seen p.told step.events) in
      ⊎_elim
      (λ n. absurd (some_none (way.refused (shown q)) fault (ap way.refused same ∙ bare_accepted way.refused law step.events (sees nothing_seen p.told) (bare n) none) some))
      (λ d. (ap (λ (x : Progress). x.now.scan.run) (sym is) ∙ d.0, ap (λ (x : Progress). x.now.scan.held) (sym is) ∙ d.1))
      (subst (After p.now.scan) e (byte_tags way.syntax way.limits (spot_of way.syntax p.now.nest) p.now.scan byte)).settles)
      (ap (λ x. page_on way.syntax way.limits x (byte ∷ [])) (sym r) ∙ (sym (page_append way.syntax way.limits (spot_of way.syntax p.now.nest) (Ok no_progress) init (byte ∷ [])) ∙ s))

  -- so are the bytes through the tag
  module _ (bytes : List ℕ) (fault : Fault) (m : ReaderRefuses way bytes fault) where
    abbrev front : List ℕ
    front = take (fault.at + 1) bytes

    pub long : fault.at < length bytes
    long = let l = meaning_within way law bytes fault m in let a = ap length m.are in let k = length-append m.front m.rest in omega arith

    settled : Settled (through way law bytes fault m).now
    settled =
        let s = through way law bytes fault m in
        let byte = get_or bytes fault.at 0 in
        let init = take fault.at bytes in
        let whole_read : page_read way.syntax way.limits (init ++ byte ∷ []) ≡ Ok s.now = ap (λ b. page_read way.syntax way.limits b) (sym (take_more bytes fault.at 0 long)) ∙ s.read in
        let r = read_front way.syntax way.limits init (byte ∷ []) s.now whole_read in
        last_settles init byte r.now s.now fault r.is whole_read (none_before init (byte ∷ []) r.now s.now r.is whole_read (length-take-le fault.at bytes (let l = long in omega arith)) s.refused) s.refused
      where
        none_before : (init rest : List ℕ) (p q : Progress) → page_read way.syntax way.limits init ≡ Ok p → page_read way.syntax way.limits (init ++ rest) ≡ Ok q → length init ≡ fault.at → way.refused (shown q) ≡ Some fault → way.refused (shown p) ≡ None
        none_before init rest p q r s size some =
            ⊎_elim
            (λ h.
            let l = meaning_within way law init fault (record { front = init; rest = []; are = sym (append-nil init); now = p; read = r; refused = h }) in
            absurd (omega (arith, l, size)))
            (λ w. w.0) (refused_where way.refused law (shows_more way.syntax way.limits init rest p q r s) fault some)

    pub refuses_last : RefusesLast way bytes fault
    refuses_last =
        let s = through way law bytes fault m in
        let k = settled in
        let reads : ReadsTo way.syntax way.limits front s.now.now.nest.line s.now.now.nest.phase [] [] = record { now = s.now; read = s.read; is_at = record { line_is = refl; phase_is = refl }; run_is = k.0; part_is = k.1 } in
        let refused = refused_of way law front fault s in
        record {
          line = s.now.now.nest.line;
          phase = s.now.now.nest.phase;
          begun = (nothing_unfinished way.syntax way.limits front s.now.now.nest.line s.now.now.nest.phase).1 reads;
          before = accepted_front way law bytes fault m;
          refused = refused;
          is_tag = λ rest tree page. law.lies [] (signs_of tree) fault law.none (refused rest tree page);
        }
