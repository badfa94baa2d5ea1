-- Where the faults lie that a piece of a page brings, and what stands before them.
use Rattle.rx_nest.proofs.Common.{◌≡◌, ◌∙◌, ℕ, ◌+◌, ◌≤◌, ◌<◌, List, [], ◌∷◌, ◌++◌, length, take, drop, refl, sym, ap, subst, Option, Some, None, Result, Ok, arith, less_than_sign, Syntax, Line, Phase, Item, Tree, Page, Fault, Limits, closed, IsWide, IsPageFront, Bare, AllEnd, ClosedTells, Event, begins, says, finishes, Nesting, Goes, StartTag, not_begun, Progress, page_read, read_size, take-append-drop, length-take-le, take-append-le, fronts_tell, Sign, Sight, sees, nothing_seen, signs_of, ReaderRefuses, IsAcceptedPage, IsAcceptedFront, Way, IsRefusal, ⊎_elim}
use Rattle.rx_nest.proofs.TagPlaces.{shows_more}
use Rattle.rx_nest.proofs.TextSteps.{sees_append}
use Rattle.rx_nest.proofs.FaultPlacing.{read_front, page_shows}
use Rattle.rx_nest.proofs.Refusing.{bare_accepted, refused_where}
use Rattle.rx_nest.proofs.Firsts.{some_none}
use Rattle.rx_nest.proofs.PageWalks.{Held, Tagged, all_weaker, goes_hold}
use Rattle.rx_nest.proofs.TokenPlacing.{AllBegin, AllTags, BeginsSuch, TagIs, such_go, such_tagged, refused_such, token_before, refused_fronts}

-- tags that are told end where their tokens do

ends_so : (end : ℕ) (items : List Item) → AllEnd end items → AllTags (λ t. t.at < end) items
ends_so end [] h = tt
ends_so end (item ∷ items) h = (λ t k. h.0, ends_so end items h.1)

goes_before : (syntax : Syntax) (limits : Limits) (end : ℕ) (meant : Nesting → Type 0) {items : List Item} {events : List Event} → Goes syntax limits.depth meant not_begun items events → AllEnd end items → AllBegin (λ t. t.at < end) events
goes_before syntax limits end meant {items} g h =
    let Such : StartTag → Type 0 = λ t. t.at < end in
    (goes_hold syntax limits (Held syntax limits (BeginsSuch Such syntax limits)) (such_go Such syntax limits) meant g []
    (all_weaker (Tagged syntax limits (Held syntax limits (BeginsSuch Such syntax limits))) (TagIs Such) (such_tagged Such syntax limits) items (ends_so end items h)) (record { sound = refl; holds = tt })).1.holds

pub bare_such : (events : List Event) → Bare events → AllBegin (λ t. t.attributes ≡ []) events
bare_such [] b = tt
bare_such (begins t hides ∷ events) b = (b.0, bare_such events b.1)
bare_such (says chars ∷ events) b = (tt, bare_such events b)
bare_such (finishes ∷ events) b = (tt, bare_such events b)

-- closed they show what they showed, and no attributes besides
pub closed_shows : (syntax : Syntax) (limits : Limits) (bytes : List ℕ) (line : Line) (phase : Phase) (t : ClosedTells syntax limits bytes line phase) (wide : Limits) → IsWide limits wide (length (closed bytes line phase)) → (tree : Tree) → Page syntax wide (closed bytes line phase) tree
    → signs_of tree ≡ (sees (sees nothing_seen t.events) t.more).signs
closed_shows syntax limits bytes line phase t wide is_wide tree page =
    let p = page_shows syntax wide (closed bytes line phase) tree page in
    let q = t.whole wide is_wide in
    let same : ◌≡◌ {A = Result Progress Fault} (Ok p.final) (Ok q.now) = sym p.read ∙ q.read in
    let now : p.final ≡ q.now = cc in
    let is : p.final.told ≡ t.events ++ t.more = ap (λ (x : Progress). x.told) now ∙ q.told in
    sym p.signs_are ∙ (ap (λ es. (sees nothing_seen es).signs) is ∙ ap (λ (x : Sight). x.signs) (sees_append nothing_seen t.events t.more))

-- before a start tag that is refused stands the front of a page without such tags

module _ (way : Way) (law : IsRefusal way.refused) (bytes : List ℕ) (fault : Fault) (m : ReaderRefuses way bytes fault) where
  abbrev front : List ℕ
  front = take fault.token bytes

  within : fault.token < length m.front
  within = (token_before way law m.front m.now fault m.read m.refused).0

  first_part : take fault.token m.front ≡ front
  first_part = sym (take-append-le fault.token m.front m.rest (omega (arith, within))) ∙ ap (take fault.token) (sym m.are)

  size : length front ≡ fault.token
  size = sym (ap length first_part) ∙ length-take-le fault.token m.front (omega (arith, within))

  on : page_read way.syntax way.limits (front ++ drop fault.token m.front) ≡ Ok m.now
  on = ap (λ b. page_read way.syntax way.limits (b ++ drop fault.token m.front)) (sym first_part) ∙ (ap (page_read way.syntax way.limits) (take-append-drop fault.token m.front) ∙ m.read)

  -- what the front shows is accepted
  front_accepted : (p : Progress) → page_read way.syntax way.limits front ≡ Ok p → way.refused (sees nothing_seen p.told).signs ≡ None
  front_accepted p r =
      ⊎_elim (λ h. let l = (token_before way law front p fault r h).0 in absurd (omega (arith, l, size))) (λ w. w.0) (refused_where way.refused law (shows_more way.syntax way.limits front (drop fault.token m.front) p m.now r on) fault m.refused)

  module _ (line : Line) (phase : Phase) (t : ClosedTells way.syntax way.limits front line phase) where
    abbrev told : List Sign
    told = (sees nothing_seen t.events).signs

    room : length front + 1 ≤ way.limits.page
    room = omega (arith, size, within, (read_size way.syntax way.limits m.front m.now m.read).1)

    -- what is told before a `<` is told of the front
    told_accepted : way.refused told ≡ None
    told_accepted = by (way.refused told) refl
      where
        late : (other : Fault) → way.refused told ≡ Some other → length front ≤ other.at
        late other k =
            let p = t.front room in
            let q = read_front way.syntax way.limits front (less_than_sign ∷ []) p.now p.read in
            let there : way.refused (sees nothing_seen p.now.told).signs ≡ Some other = ap (λ es. way.refused (sees nothing_seen es).signs) p.told ∙ k in
            ⊎_elim (λ h. absurd (some_none (way.refused (sees nothing_seen q.now.told).signs) other (front_accepted q.now q.is) h)) (λ w. w.1)
            (refused_where way.refused law (shows_more way.syntax way.limits front (less_than_sign ∷ []) q.now p.now q.is p.read) other there)

        early : (other : Fault) → way.refused told ≡ Some other → other.at < length front
        early other k =
            let at = refused_such (λ t. t.at < length front) way.refused law t.events other (goes_before way.syntax way.limits (length front) (λ n. n ≡ t.place) t.going t.ends) k in
            omega (arith, at.1, at.2.at)

        by : (x : Option Fault) → way.refused told ≡ x → x ≡ None
        by None k = refl
        by (Some other) k = absurd (let a = late other k in let b = early other k in omega (arith, a, b))

    abbrev wide : Limits
    wide = record { depth = way.limits.depth; tag = length (closed front line phase); page = length (closed front line phase) }

    is_wide : IsWide way.limits wide (length (closed front line phase))
    is_wide = record { depth = refl; tag = omega arith; page = omega arith }

    closed_accepted : way.refused (signs_of t.tree) ≡ None
    closed_accepted =
        ap way.refused (closed_shows way.syntax way.limits front line phase t wide is_wide t.tree (t.page wide is_wide))
        ∙ bare_accepted way.refused law t.more (sees nothing_seen t.events) (bare_such t.more t.bare) told_accepted

  closes_accepted : (f : IsPageFront way.syntax way.limits front) → 1 ≤ way.limits.depth → IsAcceptedPage way (closed front f.line f.phase)
  closes_accepted f d =
      let t = fronts_tell way.syntax way.limits front f.next f.line f.phase d f.begun in
      record { tree = t.tree; page = t.page; accepted = closed_accepted f.line f.phase t }

  pub accepted_front : IsAcceptedFront way front
  accepted_front =
      let f = subst (λ b. IsPageFront way.syntax way.limits (take fault.token b)) (sym m.are) (refused_fronts way law m.front m.rest m.now fault m.read m.refused) in
      record { next = f.next; line = f.line; phase = f.phase; begun = f.begun; closes = closes_accepted f }
