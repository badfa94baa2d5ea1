-- Behind the byte that completes a tag nothing is unfinished; any other byte tells text alone.
use Rattle.rx_pages.proofs.Common.{◌≡◌, ◌∙◌, ⊎_elim, ℕ, List, [], ◌++◌, sym, ap, Result, Ok, Err, Syntax, Kind, Limits, Event, Step, spot_of, Scanned, read_byte, Progress, steps_on, no_step, progress_of, nested_items, telling, page_byte_on}
use Rattle.rx_nest.proofs.QuietReading.{AllSay, StepSays, items_say}
use Rattle.rx_nest.proofs.TokenPlacing.{After, HasNoTag, Where, byte_tags}

-- what a byte leads to: nothing is unfinished, or it told text
pub data Settles (p q : Progress) : Type 0 where
  settled : q.now.scan.run ≡ [] → q.now.scan.held ≡ [] → Settles p q
  says_more : (events : List Event) → q.told ≡ p.told ++ events → AllSay events → Settles p q

pub byte_settles : (syntax : Syntax) (limits : Limits) (byte : ℕ) (p q : Progress) → page_byte_on syntax limits (Ok p) byte ≡ Ok q → Settles p q
byte_settles syntax limits byte p q e =
    by (read_byte syntax limits (spot_of syntax p.now.nest) byte p.now.scan) (byte_tags syntax limits (spot_of syntax p.now.nest) p.now.scan byte) e
  where
    on : (scanned : Scanned) → Where scanned → (x : Result Step Kind) → (HasNoTag scanned.items → StepSays x) → telling p.told (progress_of p.now.scan scanned.next x) ≡ Ok q → Settles p q
    on scanned w (Err kind) b k = absurd (cc)
    on scanned w (Ok step) b k =
        let is : ◌≡◌ {A = Progress} (record { now = record { scan = scanned.next; nest = step.next }; told = p.told ++ step.events }) q = cc in
        ⊎_elim (λ n. says_more step.events (ap (λ (x : Progress). x.told) (sym is)) (b n))
        (λ s. settled (ap (λ (x : Progress). x.now.scan.run) (sym is) ∙ s.0) (ap (λ (x : Progress). x.now.scan.held) (sym is) ∙ s.1)) w

    by : (x : Result Scanned Kind) → After p.now.scan x → telling p.told (nested_items syntax limits.depth p.now x) ≡ Ok q → Settles p q
    by (Ok scanned) w k =
        on scanned w.settles (steps_on syntax limits.depth (Ok (no_step p.now.nest)) scanned.items) (λ n. items_say syntax limits.depth scanned.items n (Ok (no_step p.now.nest)) tt) k
    by (Err kind) w k = absurd (cc)
