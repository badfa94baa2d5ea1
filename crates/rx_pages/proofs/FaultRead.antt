-- The reader of bytes finds each fault.
use Rattle.rx_pages.proofs.Words.{◌≡◌, ◌≢◌, ◌∙◌, ⊎_elim, ℕ, ◌+◌, ◌-◌, ◌<◌, ◌≤◌, true, false, List, [], ◌∷◌, ◌++◌, refl, sym, ap, subst, length, append-nil, Ok, Err, eqb-true, arith, nat_le, ◌&&◌, ◌==◌, if◌then◌else◌, Chars, Syntax, More, Char, Bad, answer_of, IsCharacter, BeginsCharacter, BeginNone, PlacedCharacter, values, Item, Line, inside_of, Phase, after, is_known_tag, token_of, IsShort, IsPending, Reached, IsPart, answer_is, Content, Kind, Limits, IsAt, CharactersGoOn, Scanning, first_of, spot_of, is_too_long, token_at, Progress, page_on, page_read, no_progress, page_ended, read_byte, read_answer, read_char, holding, fault_in, is_over, is_none_left, false_from_ne_true}
use Rattle.rx_grammar.specs.declared.faults.Kind.TheVariants as kind
use Rattle.rx_grammar.specs.PageFaults as faults
use Rattle.rx_pages.specs.Laws.{TokensLead as FrontLeads}
use Rattle.rx_pages.proofs.CharWalk.{is_known}
use Rattle.rx_pages.proofs.FrontRead.{FrontIsRead, front_is_read}
use Rattle.rx_pages.proofs.FaultWalk.{fault_stays}
use Rattle.rx_pages.proofs.Below.{fronts_lead, Stood, not_le, is_le, progress_at, scan_at, part_on, first_known, token_first, stood, flags_behind}

abbrev pub PendingGoes : Type 0
PendingGoes = (syntax : Syntax) (inside : Content) (run : Chars) → IsPending syntax inside run → CharactersGoOn syntax inside [] run

module _ (pending_goes : PendingGoes) (syntax : Syntax) (limits : Limits) where
  -- the reader stands where the front and its run end
  module _ (whole : List ℕ) (items : List Item) (line : Line) (phase : Phase) (run : List PlacedCharacter) (reached : Reached syntax limits whole items line phase run) (pending : IsPending syntax (inside_of syntax line).content (values run))
      (size : length whole ≤ limits.page) (short : IsShort syntax limits line run (token_of whole run) (length whole)) where
    abbrev pub lead : FrontLeads syntax limits.depth items line phase
    lead = fronts_lead syntax limits.depth items line phase reached.stands

    token_known : (a : ℕ) → is_known_tag syntax (inside_of syntax line).content (values run) ≡ true → token_of whole run ≡ first_of run a
    token_known a k = token_first whole run ∙ first_known syntax (inside_of syntax line).content run (length whole) a k

    pub stands_there : FrontIsRead syntax limits whole (IsAt line phase) items lead.events run reached.read.characters
    stands_there =
        front_is_read syntax limits whole (IsAt line phase) reached.front run items lead.events reached.read reached.no_nul reached.spelled reached.fit reached.sections lead.going size
        (λ m p. subst (λ (l : Line). CharactersGoOn syntax (inside_of syntax l).content [] (values run)) (sym p.line_is) (pending_goes syntax (inside_of syntax line).content (values run) pending))
        (λ m p k. (let w = subst (λ (l : Line). is_known_tag syntax (inside_of syntax l).content (values run) ≡ true) p.line_is k in let s = short w in let t = token_known 0 w in omega arith))

    abbrev pub state : Stood
    state = stood stands_there.place lead.events (flags_behind items false false).0 (flags_behind items false false).1 run

    known_there : is_known syntax limits state ≡ true → is_known_tag syntax (inside_of syntax line).content (values run) ≡ true
    known_there k = subst (λ (l : Line). is_known_tag syntax (inside_of syntax l).content (values run) ≡ true) stands_there.is_meant.line_is k

    -- and then within a character
    pub at_part : (part rest : List ℕ) → IsPart part → length whole + length part ≤ limits.page → IsShort syntax limits line run (token_of whole run) (length whole + length part)
        → page_on syntax limits (Ok no_progress) (whole ++ (part ++ rest)) ≡ page_on syntax limits (Ok (progress_at (length whole + length part) part stands_there.started stands_there.after_return state)) rest
    at_part part rest is p k =
        stands_there.is_read (part ++ rest)
        ∙ (let z : length whole ≡ length whole + 0 = omega arith in
        ap (λ x. page_on syntax limits (Ok (progress_at x [] stands_there.started stands_there.after_return state)) (part ++ rest)) z
        ∙ ⊎_elim (λ n. subst (λ x. page_on syntax limits (Ok (progress_at (length whole + 0) [] stands_there.started stands_there.after_return state)) (x ++ rest) ≡ page_on syntax limits (Ok (progress_at (length whole + length x) x stands_there.started stands_there.after_return state)) rest) (sym n) refl) (λ w. part_on syntax limits state stands_there.started stands_there.after_return (length whole) [] part rest part refl w p (λ v. (let s = k (known_there v) in let t = token_known (length whole) (known_there v) in omega arith))) is)

    -- the byte behind it decides a fault
    module _ (part : List ℕ) (byte : ℕ) (rest : List ℕ) where
      abbrev pub scan_there : Scanning
      scan_there = scan_at (length whole + length part) part stands_there.started stands_there.after_return state

      token_there : token_at scan_there ≡ token_of whole run
      token_there = (let same : length whole + length part - length part ≡ length whole = omega arith in ap (λ x. first_of run x) same) ∙ sym (token_first whole run)

      pub byte_fault : IsPart part → length whole + length part ≤ limits.page → IsShort syntax limits line run (token_of whole run) (length whole + length part) → (found : Kind) → read_byte syntax limits (spot_of syntax stands_there.place) byte scan_there ≡ Err found
          → page_read syntax limits (whole ++ (part ++ byte ∷ rest)) ≡ Err (record { kind = found; token = token_of whole run; at = length whole + length part })
      byte_fault is p k found h = at_part part (byte ∷ rest) is p k ∙ rw (h, fault_stays syntax limits (fault_in scan_there found) rest, token_there) refl

      pub page_too_long : limits.page ≤ length whole + length part → read_byte syntax limits (spot_of syntax stands_there.place) byte scan_there ≡ Err kind.PageTooLong
      page_too_long h = ap (λ b. if b then Err kind.PageTooLong else read_answer syntax limits (spot_of syntax stands_there.place) (part ++ byte ∷ []) scan_there (answer_of (part ++ byte ∷ []))) (is_le limits.page (length whole + length part) h)

      by_answer : (step : _) → length whole + length part < limits.page → answer_of (part ++ byte ∷ []) ≡ step → read_byte syntax limits (spot_of syntax stands_there.place) byte scan_there ≡ read_answer syntax limits (spot_of syntax stands_there.place) (part ++ byte ∷ []) scan_there step
      by_answer step p h = rw (not_le limits.page (length whole + length part) p, h) refl

      pub not_utf8 : length whole + length part < limits.page → BeginNone (part ++ byte ∷ []) → read_byte syntax limits (spot_of syntax stands_there.place) byte scan_there ≡ Err kind.NotUtf8
      not_utf8 p h = by_answer Bad p (sym (answer_is (part ++ byte ∷ []) Bad h))

      pub nul : length whole + length part < limits.page → part ≡ [] → byte ≡ 0 → read_byte syntax limits (spot_of syntax stands_there.place) byte scan_there ≡ Err kind.Nul
      nul p n z = by_answer (Char 0) p (ap (λ b. answer_of (part ++ b ∷ [])) z ∙ ap (λ x. answer_of (x ++ 0 ∷ [])) n)

      pub tag_too_long : length whole + length part < limits.page → is_known_tag syntax (inside_of syntax line).content (values run) ≡ true → length whole + length part ≡ token_of whole run + limits.tag → faults.GoesOn (part ++ byte ∷ [])
          → read_byte syntax limits (spot_of syntax stands_there.place) byte scan_there ≡ Err kind.TagTooLong
      tag_too_long p k at g = by g refl
        where
          long : is_too_long syntax limits (spot_of syntax stands_there.place) run (token_at scan_there) (length whole + length part) ≡ true
          long = ap (λ b. b && nat_le (token_at scan_there + limits.tag) (length whole + length part)) (subst (λ (l : Line). is_known_tag syntax (inside_of syntax l).content (values run) ≡ true) (sym stands_there.is_meant.line_is) k) ∙ is_le (token_at scan_there + limits.tag) (length whole + length part) (let t = token_there in omega arith)

          by : {bytes : List ℕ} → faults.GoesOn bytes → bytes ≡ part ++ byte ∷ [] → read_byte syntax limits (spot_of syntax stands_there.place) byte scan_there ≡ Err kind.TagTooLong
          by (faults.begins_one w) e =
              by_answer More p (sym (answer_is (part ++ byte ∷ []) More (subst BeginsCharacter e w)))
              ∙ ap (λ b. if b then Err kind.TagTooLong else Ok (record { next = holding (part ++ byte ∷ []) scan_there; items = [] })) long
          by (faults.is_one value w n) e =
              by_answer (Char value) p (sym (answer_is (part ++ byte ∷ []) (Char value) (subst (λ x. IsCharacter x value) e w)))
              ∙ (ap (λ b. if b then Err kind.Nul else if is_too_long syntax limits (spot_of syntax stands_there.place) run (token_at scan_there) (length whole + length part) then Err kind.TagTooLong else read_char syntax limits (spot_of syntax stands_there.place) value scan_there) (false_from_ne_true (value == 0) (λ e. n (eqb-true value 0 e)))
              ∙ ap (λ b. if b then Err kind.TagTooLong else read_char syntax limits (spot_of syntax stands_there.place) value scan_there) long)

    -- the page ends too early
    pub page_ends : (part : List ℕ) → IsPart part → length whole + length part ≤ limits.page → IsShort syntax limits line run (token_of whole run) (length whole + length part) → (run ≡ [] → part ≡ [] → phase ≢ after)
        → page_ended (page_read syntax limits (whole ++ part)) ≡ Err (record { kind = kind.Unended; token = token_of whole run; at = length whole + length part })
    page_ends part is p k open_there =
        ap page_ended (ap (λ x. page_on syntax limits (Ok no_progress) (whole ++ x)) (sym (append-nil part)) ∙ at_part part [] is p k)
        ∙ (ap (λ b. if b then Ok final else Err (fault_in final.now.scan kind.Unended)) (not_over part run stands_there.place.phase (λ n m h. open_there m n (sym stands_there.is_meant.phase_is ∙ h)))
        ∙ ap (λ t. Err (record { kind = kind.Unended; token = t; at = length whole + length part })) (token_there part 0 []))
      where
        final : Progress
        final = progress_at (length whole + length part) part stands_there.started stands_there.after_return state

        not_over : (part : List ℕ) (run : List PlacedCharacter) (phase : Phase) → (part ≡ [] → run ≡ [] → phase ≢ after) → (is_none_left part && is_none_left run && is_over phase) ≡ false
        not_over [] [] after h = absurd (h refl refl refl)
        not_over _ _ _ h = refl
