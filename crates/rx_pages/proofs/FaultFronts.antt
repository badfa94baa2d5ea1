-- The bytes before the token of a fault are the front of a page.
use Rattle.rx_pages.proofs.Words.{◌≡◌, ◌∙◌, ℕ, ◌≤◌, List, [], ◌∷◌, ◌++◌, None, refl, ap, sym, subst, length, arith, ◌==◌, not, take, length-append, PlacedCharacter, Syntax, values, next_of, Item, Line, Phase, Begun, token_of, Before, Reached, page_too_long, not_utf8, nul, tag_too_long, known_too_long, decided, unended, Limits, FaultsFollowFronts, IsPageFront}
use Rattle.rx_pages.proofs.Closings.{fronts_close}
use Rattle.rx_pages.proofs.Below.{all_parts, Forepart, forepart}

module _ (syntax : Syntax) (limits : Limits) (bytes whole rest : List ℕ) (items : List Item) (line : Line) (phase : Phase) (run : List PlacedCharacter) (are : bytes ≡ whole ++ rest) (r : Reached syntax limits whole items line phase run) where
  part : Forepart bytes whole r.front run
  part = forepart bytes whole rest r.front run are r.read

  abbrev Answer : List ℕ → Type 0
  Answer first = Begun syntax limits first (next_of (values run) None) line phase

  -- where the page's limit is kept
  front_begun : length part.first ≤ limits.page → Answer (take (token_of whole run) bytes)
  front_begun h =
      subst Answer (sym part.is) (record {
        entries = r.front;
        items = items;
        size = h;
        read = part.read;
        no_nul = (all_parts (λ (x : PlacedCharacter). not (x.value == 0)) r.front run r.no_nul).0;
        spelled = r.spelled;
        fit = r.fit;
        sections = r.sections;
        stands = r.stands;
      })

  pub begun_whole : length whole ≤ limits.page → Begun syntax limits (take (token_of whole run) bytes) (next_of (values run) None) line phase
  begun_whole h = front_begun (let w = part.within in omega arith)

  behind : Answer (take (token_of whole run) bytes) → IsPageFront syntax limits (take (token_of whole run) bytes)
  behind b = record { next = next_of (values run) None; line = line; phase = phase; begun = b; closes = λ d. fronts_close syntax limits (take (token_of whole run) bytes) (next_of (values run) None) line phase d b }

  pub by_whole : length whole ≤ limits.page → IsPageFront syntax limits (take (token_of whole run) bytes)
  by_whole h = behind (begun_whole h)

  pub by_last : (es : List PlacedCharacter) (c : PlacedCharacter) → run ≡ es ++ c ∷ [] → c.last ≤ limits.page → IsPageFront syntax limits (take (token_of whole run) bytes)
  by_last es c e h = behind (front_begun (let w = part.order es c e in let s = part.size in omega arith))

by_before : (syntax : Syntax) (limits : Limits) (bytes : List ℕ) (token at : ℕ) → (b : Before syntax limits bytes token at) → at ≤ limits.page → IsPageFront syntax limits (take token bytes)
by_before syntax limits bytes token at b h =
    subst (λ n. IsPageFront syntax limits (take n bytes)) (sym b.token_is)
    (by_whole syntax limits bytes b.whole (b.part ++ b.byte ∷ b.rest) b.items b.line b.phase b.run b.are b.reached (let a = b.at_is in omega arith))

pub faults_follow_fronts : FaultsFollowFronts
faults_follow_fronts syntax limits bytes _ (page_too_long token at b p s) = by_before syntax limits bytes token at b (omega arith)
faults_follow_fronts syntax limits bytes _ (not_utf8 token at b p s n) = by_before syntax limits bytes token at b (omega arith)
faults_follow_fronts syntax limits bytes _ (nul token at b p s n z) = by_before syntax limits bytes token at b (omega arith)
faults_follow_fronts syntax limits bytes _ (tag_too_long token at b p k e g) = by_before syntax limits bytes token at b (omega arith)
faults_follow_fronts syntax limits bytes _ (known_too_long whole rest items line phase first more c e r u n k o p) = by_last syntax limits bytes whole rest items line phase ((first ∷ more) ++ c ∷ []) e r (first ∷ more) c refl (omega arith)
faults_follow_fronts syntax limits bytes _ (decided whole rest items line phase run c e r i f s p) = by_last syntax limits bytes whole rest items line phase (run ++ c ∷ []) e r run c refl (omega arith)
faults_follow_fronts syntax limits bytes _ (unended whole part items line phase run e r i is n size s) =
    by_whole syntax limits bytes whole part items line phase run e r (let l = ap length e ∙ length-append whole part in omega arith)
