-- The start tags that the grammar calls refused are those that the reader shows as refused.
use Rattle.rx_nest.proofs.Common.{◌≡◌, ◌∙◌, ℕ, ◌+◌, ◌≤◌, ◌<◌, List, [], ◌∷◌, length, take, drop, refl, sym, ap, ⊎_elim, Option, Some, None, Ok, arith, less_than_sign, Fault, Limits, Line, Phase, Begun, Page, Tree, closed, IsWide, ClosedTells, ReadsTo, Progress, page_read, nothing_unfinished, take-append-drop, length-take-le, fronts_tell, ShowsMore, Sign, sees, nothing_seen, signs_of, MeaningAt, ReaderRefuses, RefusedTagsAreLast, Way, IsRefusal}
use Rattle.rx_nest.proofs.FaultPlacing.{page_shows, shown, through}
use Rattle.rx_nest.proofs.Firsts.{some_none}
use Rattle.rx_nest.proofs.PlaceLaws.{bare_such, closed_shows}
use Rattle.rx_nest.proofs.TokenPlacing.{all_add}
use Rattle.rx_nest.proofs.RefusedTags.{refuses_last, long}
use Rattle.rx_nest.proofs.Refusing.{bare_accepted, refused_where}
use Rattle.rx_nest.proofs.TagPlaces.{shows_more}
use Rattle.rx_nest.proofs.WideReading.{read_wide}
use Rattle.rx_nest.proofs.Depths.{deep_or_none}

-- a limit of the page that is larger by one
abbrev wider : Limits → Limits
wider limits = record { depth = limits.depth; tag = limits.tag; page = limits.page + 1 }

module _ (way : Way) (law : IsRefusal way.refused) where
  -- bytes that show a start tag which is refused are read under a limit on depth
  depth_needed : (limits : Limits) (bytes : List ℕ) (p : Progress) (fault : Fault) → page_read way.syntax limits bytes ≡ Ok p → way.refused (shown p) ≡ Some fault → 1 ≤ limits.depth
  depth_needed limits bytes p fault r e =
      ⊎_elim (λ deep. deep)
      (λ none. absurd (some_none (way.refused []) fault law.none (sym (ap (λ es. way.refused (sees nothing_seen es).signs) none) ∙ e)))
      (deep_or_none way.syntax limits bytes p r)

  -- The bytes are the front of a page, with nothing unfinished, and were read; and this is the page that they are once they are closed.
  module _ (bytes : List ℕ) (line : Line) (phase : Phase) (now : Progress) (tree : Tree) (deep : 1 ≤ way.limits.depth)
      (begun : Begun way.syntax way.limits bytes None line phase) (read : page_read way.syntax way.limits bytes ≡ Ok now)
      (page : (wide : Limits) → IsWide way.limits wide (length (closed bytes line phase)) → Page way.syntax wide (closed bytes line phase) tree) where
    tells : ClosedTells way.syntax (wider way.limits) bytes line phase
    tells =
        fronts_tell way.syntax (wider way.limits) bytes None line phase deep
        (record {
          entries = begun.entries;
          items = begun.items;
          size = let l = begun.size in omega (arith, l);
          read = begun.read;
          no_nul = begun.no_nul;
          spelled = begun.spelled;
          fit = begun.fit;
          sections = begun.sections;
          stands = begun.stands;
        })

    abbrev told : List Sign
    told = (sees nothing_seen tells.events).signs

    abbrev wide : Limits
    wide = record { depth = way.limits.depth; tag = length (closed bytes line phase); page = length (closed bytes line phase) }

    shows : signs_of tree ≡ (sees (sees nothing_seen tells.events) tells.more).signs
    shows =
        let is_wide : IsWide way.limits wide (length (closed bytes line phase)) = record { depth = refl; tag = omega arith; page = omega arith } in
        closed_shows way.syntax (wider way.limits) bytes line phase tells wide (record { depth = refl; tag = omega arith; page = omega arith }) tree (page wide is_wide)

    on : (fault : Fault) → way.refused told ≡ Some fault → way.refused (signs_of tree) ≡ Some fault
    on fault e =
        let more = all_add (λ t. t.attributes ≡ []) tells.more (sees nothing_seen tells.events) (bare_such tells.more tells.bare) in
        ap way.refused (shows ∙ more.are) ∙ law.stays told more.signs fault e

    back : (fault : Fault) → way.refused (signs_of tree) ≡ Some fault → way.refused told ≡ Some fault
    back fault e = by (way.refused told) refl
      where
        by : (x : Option Fault) → way.refused told ≡ x → x ≡ Some fault
        by None k = absurd (some_none (way.refused (signs_of tree)) fault (ap way.refused shows ∙ bare_accepted way.refused law tells.more (sees nothing_seen tells.events) (bare_such tells.more tells.bare) k) e)
        by (Some other) k = sym (on other k) ∙ e

    -- a `<` behind them shows no start tag that ends before it
    further : ShowsMore way.syntax (wider way.limits) bytes (less_than_sign ∷ []) now (tells.front (let l = begun.size in omega (arith, l))).now
    further =
        let p = tells.front (let l = begun.size in omega (arith, l)) in
        shows_more way.syntax (wider way.limits) bytes (less_than_sign ∷ []) now p.now (read_wide way.syntax way.limits (wider way.limits) refl (omega arith) (omega arith) bytes now read) p.read

    pub shown_closed : (fault : Fault) → way.refused (shown now) ≡ Some fault → way.refused (signs_of tree) ≡ Some fault
    shown_closed fault e = on fault (ap way.refused (ap (λ es. (sees nothing_seen es).signs) (sym (tells.front (let l = begun.size in omega (arith, l))).told) ∙ further.are) ∙ law.stays (shown now) further.signs fault e)

    pub closed_shown : (fault : Fault) → fault.at < length bytes → way.refused (signs_of tree) ≡ Some fault → way.refused (shown now) ≡ Some fault
    closed_shown fault l e =
        ⊎_elim (λ h. h) (λ w. absurd (omega (arith, w.1, l)))
        (refused_where way.refused law further fault (ap (λ es. way.refused (sees nothing_seen es).signs) (tells.front (let l = begun.size in omega (arith, l))).told ∙ back fault e))

  module _ (bytes : List ℕ) (fault : Fault) where
    abbrev front : List ℕ
    front = take (fault.at + 1) bytes

    -- what the reader shows is a fault of the meaning
    pub meant : ReaderRefuses way bytes fault → MeaningAt way bytes fault
    meant m =
        let s = through way law bytes fault m in
        let last = refuses_last way law bytes fault m in
        let deep = depth_needed way.limits front s.now fault s.read s.refused in
        let t = fronts_tell way.syntax way.limits front None last.line last.phase deep last.begun in
        record {
          within = long way law bytes fault m;
          line = last.line;
          phase = last.phase;
          begun = last.begun;
          tree = t.tree;
          page = t.page;
          refused = shown_closed front last.line last.phase s.now t.tree deep last.begun s.read t.page fault s.refused;
        }

    -- and a fault of the meaning is shown
    pub read_as_meant : MeaningAt way bytes fault → ReaderRefuses way bytes fault
    read_as_meant m =
        let r : ReadsTo way.syntax way.limits front m.line m.phase [] [] = (nothing_unfinished way.syntax way.limits front m.line m.phase).0 m.begun in
        let w : Limits = record { depth = way.limits.depth; tag = length (closed front m.line m.phase); page = length (closed front m.line m.phase) } in
        let p = page_shows way.syntax w (closed front m.line m.phase) m.tree (m.page w (record { depth = refl; tag = omega arith; page = omega arith })) in
        let deep = depth_needed w (closed front m.line m.phase) p.final fault p.read (ap way.refused p.signs_are ∙ m.refused) in
        let size = length-take-le (fault.at + 1) bytes (let l = m.within in omega (arith, l)) in
        record {
          front = front;
          rest = drop (fault.at + 1) bytes;
          are = sym (take-append-drop (fault.at + 1) bytes);
          now = r.now;
          read = r.read;
          refused = closed_shown front m.line m.phase r.now m.tree deep m.begun r.read m.page fault (omega (arith, size)) m.refused;
        }

pub refused_tags_are_last : RefusedTagsAreLast
refused_tags_are_last way law bytes fault =
    record { shown = (read_as_meant way law bytes fault, meant way law bytes fault); lies = λ m. refuses_last way law bytes fault (read_as_meant way law bytes fault m) }
