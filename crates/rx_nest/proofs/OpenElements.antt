-- The open elements that are kept are those of the grammar's front, and a fault leaves them as they were.
use Rattle.rx_nest.proofs.Common.{◌≡◌, ◌∙◌, ℕ, List, [], ◌∷◌, ◌++◌, refl, sym, ap, subst, append_assoc, Option, None, Ok, Err, take, PlacedCharacter, Syntax, values, next_of, Line, Phase, Begun, Fault, Limits, Event, Progress, scan_from, spot_of, page_byte_on, page_on, page_read, no_progress, token_at, ReadsTo, page_append, reads_to, nothing_unfinished, unfinished_follows_front, ok_is, Stop, fault_in, Scanner, Lines, AreLevels, At, StopsInPiece, StaysAtFault, OpenBefore}
use Rattle.rx_nest.proofs.TextSteps.{byte_goes}
use Rattle.rx_grammar.specs.declared.stops.Stop.TheVariants as stop
use Rattle.rx_nest.specs.OpenElements.{HasOpen, HasOpenUnderway, HasOpenOfFronts}
use Rattle.rx_nest.proofs.LineLemmas.{same_of}
use Rattle.rx_nest.proofs.Heeding.{quiet_front}

pub stays_same : (A : Type 0) (why : Stop) (l : Lines) → StaysAtFault {A = A} (Err why) l l
stays_same A (stop.Fault fault) l = refl
stays_same A stop.NoMemory l = tt

-- where a byte decides a fault its token is the unfinished one
fault_token : (syntax : Syntax) (limits : Limits) (p : Progress) (byte : ℕ) (fault : Fault) → page_byte_on syntax limits (Ok p) byte ≡ Err fault → token_at p.now.scan ≡ fault.token
fault_token syntax limits p byte fault h =
    byte_goes syntax limits p byte (λ x. x ≡ Err fault → token_at p.now.scan ≡ fault.token)
    (λ kind e. let same : fault_in p.now.scan kind ≡ fault = cc in ap (λ (f : Fault). f.token) same)
    (λ scanned step e k w. absurd (cc)) h

module _ (syntax : Syntax) (limits : Limits) (bytes : List ℕ) (told : List Event) (v : Scanner) (line : Lines) (at : At syntax limits bytes told v line) where
  levels_are : AreLevels syntax line.levels at.now.nest.line
  levels_are = subst (λ (s : Syntax). AreLevels s line.levels at.now.nest.line) at.syntax_is at.follows.levels_are

  -- the elements are those of what is underway
  pub has_open : (other : Line) (phase : Phase) (run : List PlacedCharacter) (part : List ℕ) → ReadsTo syntax limits bytes other phase run part → HasOpen syntax line other
  has_open other phase run part r =
      let same = ok_is r.now (record { now = at.now; told = told }) (page_read syntax limits bytes) r.read at.read in
      let line_is : at.now.nest.line ≡ other = ap (λ (p : Progress). p.now.nest.line) (sym same) ∙ r.is_at.line_is in
      let are = subst (λ (l : Line). AreLevels syntax line.levels l) line_is levels_are in
      record { levels = are; depth = (same_of syntax line.levels other are).size }

  pub open_before : (piece : List ℕ) (fault : Fault) → StopsInPiece syntax limits bytes told piece fault → OpenBefore syntax limits (bytes ++ piece) fault.token line
  open_before piece fault st =
      let here : Progress = record { now = at.now; told = told } in
      let same = ok_is st.before.before here (page_read syntax limits bytes) st.before.read at.read in
      let scanned : scan_from syntax limits (spot_of syntax at.now.nest) at.now.scan st.front ≡ Ok (record { next = st.before.next; items = [] }) =
      subst (λ (p : Progress). scan_from syntax limits (spot_of syntax p.now.nest) p.now.scan st.front ≡ Ok (record { next = st.before.next; items = [] })) same
      (st.before.completed ∙ ap (λ items. Ok (record { next = st.before.next; items = items })) st.before.are) in
      let quiet = quiet_front syntax limits bytes told v line at st.front st.before.next scanned in
      let stood : Progress = record { now = record { scan = st.before.next; nest = at.now.nest }; told = told } in
      let stopped : Progress = record { now = st.now; told = told } in
      let both = ok_is stood stopped (page_read syntax limits (bytes ++ st.front)) quiet st.read in
      let line_is : st.now.nest.line ≡ at.now.nest.line = ap (λ (p : Progress). p.now.nest.line) (sym both) in
      let reads : ReadsTo syntax limits (bytes ++ st.front) st.now.nest.line st.now.nest.phase st.now.scan.run st.now.scan.held =
      record { now = stopped; read = st.read; is_at = record { line_is = refl; phase_is = refl }; run_is = refl; part_is = refl } in
      let begun = unfinished_follows_front syntax limits (bytes ++ st.front) (st.byte ∷ st.rest) st.now.nest.line st.now.nest.phase st.now.scan.run st.now.scan.held reads in
      let all : (bytes ++ st.front) ++ (st.byte ∷ st.rest) ≡ bytes ++ piece = append_assoc bytes st.front (st.byte ∷ st.rest) ∙ ap (λ b. bytes ++ b) (sym st.are) in
      let by_byte : page_byte_on syntax limits (Ok stopped) st.byte ≡ Err fault =
      ap (λ r. page_on syntax limits r (st.byte ∷ [])) (sym st.read)
      ∙ (sym (page_append syntax limits (spot_of syntax st.now.nest) (Ok no_progress) (bytes ++ st.front) (st.byte ∷ []))
      ∙ (ap (λ b. page_read syntax limits b) (append_assoc bytes st.front (st.byte ∷ [])) ∙ st.here)) in
      let token_is = fault_token syntax limits stopped st.byte fault by_byte in
      let are = subst (λ (l : Line). AreLevels syntax line.levels l) (sym line_is) levels_are in
      let next : Option ℕ = next_of (values st.now.scan.run) None in
      record {
        next = next;
        line = st.now.nest.line;
        phase = st.now.nest.phase;
        begun = subst (λ b. Begun syntax limits (take fault.token b) next st.now.nest.line st.now.nest.phase) all (subst (λ n. Begun syntax limits (take n ((bytes ++ st.front) ++ (st.byte ∷ st.rest))) next st.now.nest.line st.now.nest.phase) token_is begun);
        levels = are;
        depth = (same_of syntax line.levels st.now.nest.line are).size;
      }

pub has_open_underway : HasOpenUnderway
has_open_underway syntax limits nest bytes signs line phase run part st u = has_open syntax limits bytes st.told nest.scan nest.line st.at line phase run part (reads_to syntax limits bytes line phase run part u)

pub has_open_of_fronts : HasOpenOfFronts
has_open_of_fronts syntax limits nest bytes signs line phase st b = has_open syntax limits bytes st.told nest.scan nest.line st.at line phase [] [] ((nothing_unfinished syntax limits bytes line phase).0 b)
