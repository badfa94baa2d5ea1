-- The reader reads exactly the bytes that the grammar has underway, and comes to where it says.
use Rattle.rx_pages.proofs.Words.{◌≡◌, ◌∙◌, ℕ, ◌+◌, ◌≤◌, true, false, List, [], ◌++◌, inl, refl, sym, ap, subst, length, append_assoc, append-nil, Result, None, Ok, Err, arith, if◌then◌else◌, take, take-append_seam, encodes, length-append, PlacedCharacter, IsRead, Syntax, values, next_of, has_no_nul, IsShort, token_of, FaultAt, Fault, Unended, Limits, Line, Phase, Progress, page_read, page_ended, fault_in, page_may_end, first_of, starts_at, token_at, ReadsTo, IsUnderway, ReadsWhatIsUnderway, NothingUnfinished, UnfinishedFollowsFront}
use Rattle.rx_grammar.specs.Begun.{Begun as BegunPage}
use Rattle.rx_pages.proofs.FaultRead.{stands_there, state, at_part}
use Rattle.rx_pages.proofs.FaultFronts.{begun_whole}
use Rattle.rx_pages.proofs.FaultsRead.{pending_goes, fault_is_read}
use Rattle.rx_pages.proofs.OneOf.{ok_is}
use Rattle.rx_pages.proofs.FrontOn.{pending}
use Rattle.rx_pages.proofs.BytesOn.{Begun, Reads, through, up_to, reads, reached_here}
use Rattle.rx_pages.proofs.Sizes.{read_size}
use Rattle.rx_pages.proofs.Below.{progress_at, token_first}

-- a fault of what was read is that of the page's end
ends_at : (p : Progress) (f : Fault) (r : Result Progress Fault) → r ≡ Ok p → page_ended r ≡ Err f → f.at ≡ p.now.scan.at
ends_at p f r h k = by (page_may_end p.now) (sym (ap page_ended h) ∙ k)
  where
    by : (b : _) → (if b then Ok p else Err (fault_in p.now.scan Unended)) ≡ Err f → f.at ≡ p.now.scan.at
    by true e = absurd (cc)
    by false e = let same : fault_in p.now.scan Unended ≡ f = cc in sym (ap (λ (x : Fault). x.at) same)

module _ (syntax : Syntax) (limits : Limits) where
  pub reads_to : (bytes : List ℕ) (line : Line) (phase : Phase) (run : List PlacedCharacter) (part : List ℕ) → IsUnderway syntax limits bytes line phase run part → ReadsTo syntax limits bytes line phase run part
  reads_to bytes line phase run part u =
      let sizes : length bytes ≡ length u.whole + length part = ap length u.are ∙ length-append u.whole part in
      let size : length u.whole ≤ limits.page = (let s = u.size in omega arith) in
      let short : IsShort syntax limits line run (token_of u.whole run) (length u.whole) = λ k. (let s = u.short k in omega arith) in
      let there = stands_there pending_goes syntax limits u.whole u.items line phase run u.reached u.pending size short in
      record {
        now = progress_at (length u.whole + length part) part there.started there.after_return (state pending_goes syntax limits u.whole u.items line phase run u.reached u.pending size short);
        read = ap (λ b. page_read syntax limits b) (u.are ∙ ap (λ b. u.whole ++ b) (sym (append-nil part)))
            ∙ at_part pending_goes syntax limits u.whole u.items line phase run u.reached u.pending size short part [] u.is_part (let s = u.size in omega arith) (λ k. (let s = u.short k in omega arith));
        is_at = there.is_meant;
        run_is = refl;
        part_is = refl;
      }

  underway : (bytes : List ℕ) (b : Begun syntax limits bytes) → IsUnderway syntax limits bytes b.line b.phase b.run b.part
  underway bytes b =
      record {
        whole = encodes b.chars;
        items = b.items;
        are = b.are;
        reached = reached_here syntax limits b.here;
        pending = pending syntax b.line (values b.run) b.here.goes;
        is_part = b.is_part;
        size = b.size;
        short = b.short;
      }

  pub is_underway : (bytes : List ℕ) (line : Line) (phase : Phase) (run : List PlacedCharacter) (part : List ℕ) → ReadsTo syntax limits bytes line phase run part → IsUnderway syntax limits bytes line phase run part
  is_underway bytes line phase run part r = by (reads syntax limits bytes)
    where
      by : Reads syntax limits bytes → IsUnderway syntax limits bytes line phase run part
      by (through b) =
          let o = reads_to bytes b.line b.phase b.run b.part (underway bytes b) in
          let same : o.now ≡ r.now = ok_is o.now r.now (page_read syntax limits bytes) o.read r.read in
          let line_is : b.line ≡ line = sym o.is_at.line_is ∙ (ap (λ (p : Progress). p.now.nest.line) same ∙ r.is_at.line_is) in
          let phase_is : b.phase ≡ phase = sym o.is_at.phase_is ∙ (ap (λ (p : Progress). p.now.nest.phase) same ∙ r.is_at.phase_is) in
          let run_is : b.run ≡ run = sym o.run_is ∙ (ap (λ (p : Progress). p.now.scan.run) same ∙ r.run_is) in
          let part_is : b.part ≡ part = sym o.part_is ∙ (ap (λ (p : Progress). p.now.scan.held) same ∙ r.part_is) in
          subst (λ l. IsUnderway syntax limits bytes l phase run part) line_is
          (subst (λ x. IsUnderway syntax limits bytes b.line x run part) phase_is
          (subst (λ x. IsUnderway syntax limits bytes b.line b.phase x part) run_is (subst (λ x. IsUnderway syntax limits bytes b.line b.phase b.run x) part_is (underway bytes b))))
      by (up_to front rest e f) =
          let found = fault_is_read syntax limits bytes f.fault (subst (λ x. FaultAt syntax limits x f.fault) (sym e) (f.stays rest)) in
          let at = ends_at r.now f.fault (page_read syntax limits bytes) r.read found in
          let size = read_size syntax limits bytes r.now r.read in
          let last = f.at_last in
          let all = ap length e ∙ length-append front rest in
          absurd (omega (arith, at, size.0, last, all))

  front_begun : (bytes : List ℕ) (line : Line) (phase : Phase) → IsUnderway syntax limits bytes line phase [] [] → BegunPage syntax limits bytes None line phase
  front_begun bytes line phase u =
      let same : u.whole ≡ bytes = sym (append-nil u.whole) ∙ sym u.are in
      subst (λ b. BegunPage syntax limits b None line phase) (ap (λ b. take (length u.whole) b) u.are ∙ (take-append_seam u.whole [] ∙ same))
      (begun_whole syntax limits bytes u.whole [] u.items line phase [] u.are u.reached (let s = u.size in let e = ap length same in omega arith))

  begun_front : (bytes : List ℕ) (line : Line) (phase : Phase) → BegunPage syntax limits bytes None line phase → IsUnderway syntax limits bytes line phase [] []
  begun_front bytes line phase b =
      let all : b.entries ≡ b.entries ++ [] = sym (append-nil b.entries) in
      record {
        whole = bytes;
        items = b.items;
        are = sym (append-nil bytes);
        reached = record {
          front = b.entries;
          read = subst (λ es. IsRead bytes es) all b.read;
          no_nul = subst (λ es. has_no_nul es ≡ true) all b.no_nul;
          spelled = b.spelled;
          fit = b.fit;
          sections = b.sections;
          stands = b.stands;
        };
        pending = inl refl;
        is_part = inl refl;
        size = b.size;
        short = λ k. absurd (cc);
      }

-- the offset of the first byte that belongs to no whole token
token_is : (syntax : Syntax) (limits : Limits) (bytes : List ℕ) (line : Line) (phase : Phase) (run : List PlacedCharacter) (part : List ℕ) (r : ReadsTo syntax limits bytes line phase run part) (u : IsUnderway syntax limits bytes line phase run part) → token_at r.now.now.scan ≡ token_of u.whole run
token_is syntax limits bytes line phase run part r u =
    let at = (read_size syntax limits bytes r.now r.read).0 in
    let sizes : length bytes ≡ length u.whole + length part = ap length u.are ∙ length-append u.whole part in
    let held : length r.now.now.scan.held ≡ length part = ap length r.part_is in
    let starts : starts_at r.now.now.scan ≡ length u.whole = omega arith in
    ap (λ es. first_of es (starts_at r.now.now.scan)) r.run_is ∙ (ap (λ n. first_of run n) starts ∙ sym (token_first u.whole run))

pub unfinished_follows_front : UnfinishedFollowsFront
unfinished_follows_front syntax limits bytes rest line phase run part r =
    let u = is_underway syntax limits bytes line phase run part r in
    let sizes : length bytes ≡ length u.whole + length part = ap length u.are ∙ length-append u.whole part in
    subst (λ n. BegunPage syntax limits (take n (bytes ++ rest)) (next_of (values run) None) line phase) (sym (token_is syntax limits bytes line phase run part r u))
    (begun_whole syntax limits (bytes ++ rest) u.whole (part ++ rest) u.items line phase run (ap (λ b. b ++ rest) u.are ∙ append_assoc u.whole part rest) u.reached (let s = u.size in omega arith))

pub reads_what_is_underway : ReadsWhatIsUnderway
reads_what_is_underway syntax limits bytes line phase run part = (λ u. reads_to syntax limits bytes line phase run part u, λ r. is_underway syntax limits bytes line phase run part r)

pub nothing_unfinished : NothingUnfinished
nothing_unfinished syntax limits bytes line phase =
    (λ b. reads_to syntax limits bytes line phase [] [] (begun_front syntax limits bytes line phase b), λ r. front_begun syntax limits bytes line phase (is_underway syntax limits bytes line phase [] [] r))
