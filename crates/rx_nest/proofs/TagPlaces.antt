-- Where the tags stand that some bytes show.
use Rattle.rx_nest.proofs.Common.{Syntax, StartTag, Limits, Event, spot_of, token_at, Progress, page_on, page_read, no_progress, byte_is, page_append, read_size, ◌≡◌, ◌∙◌, ℕ, ◌+◌, ◌≤◌, ◌<◌, List, [], ◌∷◌, ◌++◌, refl, sym, ap, subst, length, length-append, append_assoc, append-nil, Ok, arith, Sign, begun, said, finished, Sight, sees, nothing_seen, Lie, ShowsMore}
use Rattle.rx_nest.proofs.PageWalks.{Sound, page_sound}
use Rattle.rx_nest.proofs.TextSteps.{sees_append, bytes_go}
use Rattle.rx_nest.proofs.TokenPlacing.{After, AllBegin, AllBegun, TagAt, all_add, begin_append, begin_such, byte_tags, items_such}

-- a tag that lies between these offsets
pub record LiesIn (from to : ℕ) (t : StartTag) : Type 0 where
  pub low : from ≤ t.at
  pub high : t.at < to

lies : (from to : ℕ) (signs : List Sign) → AllBegun (LiesIn from to) signs → Lie from to signs
lies from to [] h = tt
lies from to (begun t ∷ signs) h = (h.0.low, h.0.high, lies from to signs h.1)
lies from to (said c ∷ signs) h = lies from to signs h.1
lies from to (finished ∷ signs) h = lies from to signs h.1

module _ (syntax : Syntax) (limits : Limits) (from to : ℕ) (told : List Event) where
  record Tells (now : List Event) : Type 0 where
    more : List Event
    is : now ≡ told ++ more
    lie : AllBegin (LiesIn from to) more

  -- so many bytes before the end
  abbrev Grown : List ℕ → Progress → Type 0
  Grown rest q = (from ≤ q.now.scan.at) × (q.now.scan.at + length rest ≡ to) × Sound q.now.nest.phase q.now.nest.line × Tells q.told

  bytes_grown : (bytes : List ℕ) (p q : Progress) → page_on syntax limits (Ok p) bytes ≡ Ok q → Grown bytes p → Grown [] q
  bytes_grown =
      bytes_go syntax limits Grown
      (λ byte rest p scanned step e k h.
      let n = (byte_is syntax limits (spot_of syntax p.now.nest) p.now.scan byte scanned e).next in
      let after = subst (After p.now.scan) e (byte_tags syntax limits (spot_of syntax p.now.nest) p.now.scan byte) in
      let such = items_such (TagAt (token_at p.now.scan) p.now.scan.at) syntax limits p.now.nest scanned.items step h.2 after.tags k in (
        omega (arith, n, h.0),
        omega (arith, n, h.1),
        such.sound,
        record {
          more = h.3.more ++ step.events;
          is = ap (λ es. es ++ step.events) h.3.is ∙ append_assoc told h.3.more step.events;
          lie = begin_append (LiesIn from to) h.3.more step.events h.3.lie
              (begin_such (TagAt (token_at p.now.scan) p.now.scan.at) (LiesIn from to) (λ t s. record { low = omega (arith, s.ends_at, h.0); high = omega (arith, s.ends_at, h.1) }) step.events such.holds);
        },
      ))

-- each start tag that is told ends within the bytes that were read
pub page_lies : (syntax : Syntax) (limits : Limits) (bytes : List ℕ) (p : Progress) → page_read syntax limits bytes ≡ Ok p → AllBegin (LiesIn 0 (length bytes)) p.told
page_lies syntax limits bytes p e =
    let g = bytes_grown syntax limits 0 (length bytes) [] bytes no_progress p e (omega arith, omega arith, refl, record { more = []; is = refl; lie = tt }) in
    subst (AllBegin (LiesIn 0 (length bytes))) (sym g.3.is) g.3.lie

pub shows_more : (syntax : Syntax) (limits : Limits) (bytes more : List ℕ) (was now : Progress) → page_read syntax limits bytes ≡ Ok was → page_read syntax limits (bytes ++ more) ≡ Ok now → ShowsMore syntax limits bytes more was now
shows_more syntax limits bytes more was now b n =
    let size = (read_size syntax limits bytes was b).0 in
    let on : page_on syntax limits (Ok was) more ≡ Ok now = ap (λ x. page_on syntax limits x more) (sym b) ∙ (sym (page_append syntax limits (spot_of syntax was.now.nest) (Ok no_progress) bytes more) ∙ n) in
    let from = length bytes in
    let to = length (bytes ++ more) in
    let g = bytes_grown syntax limits from to was.told more was now on (omega (arith, size), omega (arith, size, length-append bytes more), page_sound syntax limits bytes was b, record { more = []; is = sym (append-nil was.told); lie = tt }) in
    let a = all_add (LiesIn from to) g.3.more (sees nothing_seen was.told) g.3.lie in
    record { signs = a.signs; are = ap (λ es. (sees nothing_seen es).signs) g.3.is ∙ (ap (λ (x : Sight). x.signs) (sees_append nothing_seen was.told g.3.more) ∙ a.are); lie = lies from to a.signs a.begun_so }
