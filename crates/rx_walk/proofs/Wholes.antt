-- What a walk knows of its page.
use Rattle.rx_walk.proofs.Common.{◌≡◌, ◌∙◌, ℕ, false, List, [], ◌∷◌, ◌++◌, length, sym, ap, subst, Option, Some, Chars, triples_seen, base_by, root_href, Call, Context, begun_state, State, tags_of, start_tag_of, StartTag, Tree, end, element, Sign, finished, signs_of, Whole, line_of, calls_of, Seeking, known, sought, Led, Known, Staged, sought_seen, CourseStands, runs_at, way_at, Setting, way_of, Walked, WalkStands, OverOpen, found_state, FramesFit, Lists, CourseIsWhole, WalkEnded, tree_line, map, PlacedCharacter, Line, read_tag, line_is}
use Rattle.rx_terms.specs.declared.triples.Triple.{Triple as CodeTriple}
use Rattle.rx_walk.specs.declared.courses.RdfaListener.{RdfaListener}
use Rattle.rx_walk.specs.declared.stages.PendingBase.{PendingBase}
use Rattle.rx_walk.specs.declared.stages.Stage.{Stage}
use Rattle.rx_base.specs.declared.seeking.Sought.{Sought}
use Rattle.rx_walk.proofs.Making.{list_made, all_rest}
use Rattle.rx_base.proofs.Found.{base_found}
use Rattle.rx_walk.proofs.Moving.{led_at, is_ended}
use Rattle.rx_walk.proofs.Fronting.{may_counts, root_ended}
use Rattle.rx_grammar.specs.Begun.{Phase}
use Rattle.rx_pages.specs.Fronts.{IsUnderway}
use Rattle.rx_nest.specs.ShownLines.{shown_line}
use Rattle.rx_nest.proofs.ShownLines.{shows_open_ones}
use Rattle.rx_walk.specs.declared.stages.Stage.TheVariants as stage
use Rattle.rx_base.specs.declared.seeking.Sought.TheVariants as looks

-- the elements that the signs of a walk leave open are those that the page's tree shows, by the grammar
module _ (setting : Setting) (address : Chars) (walk : Walked) (bytes : List ℕ) (s : WalkStands setting address walk bytes) where
  pub open_is : (line : Line) (phase : Phase) (run : List PlacedCharacter) (part : List ℕ) → IsUnderway setting.syntax setting.limits bytes line phase run part
      → line_of [] s.goes.signs ≡ map read_tag (shown_line setting.syntax line)
  open_is line phase run part u =
      line_is [] s.goes.signs ∙ ap (λ x. map read_tag x) (shows_open_ones setting.syntax setting.limits walk.nest bytes s.goes.signs s.goes.shown s.paid line phase run part u)

pub known_at : (address : Chars) (levels : ℕ) (seeking : Seeking) (list : List Call) (x : Stage) (state : State) → Staged address levels seeking list x → found_state x ≡ Some state → Known address levels seeking list state
known_at address levels seeking list (stage.Seeking head) state s e = absurd (cc)
known_at address levels seeking list (stage.Found other) state s e = let is : other ≡ state = cc in subst (λ z. Known address levels seeking list z) is s

-- as many frames are open as elements
pub runs_fit : (context : Context) (address : Chars) (levels : ℕ) (course : RdfaListener) (signs : List Sign) → CourseStands context address levels course signs → (state : State) → found_state course.stage ≡ Some state → length state.frames ≡ length (line_of [] signs)
runs_fit context address levels course signs r state e =
    let k = known_at address levels (sought signs) (calls_of context [] signs) course.stage state r.staged e in
    let at = led_at (base_by k.href address) levels (calls_of context [] signs) state r.may.front k.led r.may.leads in
    at.frames ∙ may_counts context levels signs r.may

pub depth_line : (setting : Setting) (address : Chars) (walk : Walked) (bytes : List ℕ) (s : WalkStands setting address walk bytes) → OverOpen setting bytes (λ line. (walk.listener.count ≡ length line) × FramesFit walk line)
depth_line setting address walk bytes s line phase run part u =
    subst (λ l. (walk.listener.count ≡ length l) × FramesFit walk l) (open_is setting address walk bytes s line phase run part u)
    (s.goes.known.count_is, λ state e. runs_fit setting.context address setting.limits.depth walk.listener s.goes.signs s.goes.known state e)

-- a whole page

pub no_sought : (x : Sought) (href : Option Chars) → sought_seen x ≡ known href → ⊥
no_sought looks.FirstChild href e = cc
no_sought looks.BaseChild href e = cc

pub not_sought : (course : RdfaListener) (head : PendingBase) → course.stage ≡ stage.Seeking head → CourseIsWhole course → ⊥
not_sought course head e w =
    let s = subst (λ x. Staged w.address w.levels (sought (signs_of (element w.root w.inside end))) (calls_of w.context [] (signs_of (element w.root w.inside end))) x) e w.runs.staged in
    no_sought head.sought (root_href (tags_of (element w.root w.inside end))) (s.sought ∙ base_found w.root w.inside)

-- the evaluator has always had the memory that it asked for
pub whole_unspent : (course : RdfaListener) (state : State) → course.stage ≡ stage.Found state → CourseIsWhole course → state.out_of_memory ≡ false
whole_unspent course state e w =
    let signs : List Sign = signs_of (element w.root w.inside end) in
    let k = known_at w.address w.levels (sought signs) (calls_of w.context [] signs) course.stage state w.runs.staged (ap found_state e) in
    (all_rest (calls_of w.context [] signs) (begun_state (base_by k.href w.address) w.levels) state k.led.leads).1

pub whole_lists : (context : Context) (address : Chars) (levels : ℕ) (course : RdfaListener) (root : StartTag) (inside : Tree) (state : State) (list : List CodeTriple)
    → CourseStands context address levels course (signs_of (element root inside end)) → course.stage ≡ stage.Found state → triples_seen list ≡ state.out → Lists context address levels (element root inside end) list
whole_lists context address levels course root inside state list r e l =
    let tree : Tree = element root inside end in
    let k = known_at address levels (sought (signs_of (element root inside end))) (calls_of context [] (signs_of (element root inside end))) course.stage state r.staged (ap found_state e) in
    let same : known k.href ≡ known (root_href (tags_of (element root inside end))) = sym k.is ∙ base_found root inside in
    let href : k.href ≡ root_href (tags_of (element root inside end)) = cc in
    let at = led_at (base_by k.href address) levels (calls_of context [] (signs_of (element root inside end))) state r.may.front k.led r.may.leads in
    let is_over = root_ended context levels root (signs_of inside ++ (finished ∷ [])) r.may (ap length (tree_line [] (element root inside end))) in
    record {
      state = state;
      led = subst (λ h. Led (base_by h address) levels (calls_of context [] (signs_of (element root inside end))) state) href k.led;
      ended = at.ended ∙ ap is_ended is_over;
      list_is = l;
    }

-- the page's end

pub whole_of : (made : Setting × Chars) (course : RdfaListener) (bytes : List ℕ) → Whole (way_at made) (runs_at made) bytes course → CourseIsWhole course
whole_of made course bytes w =
    let d = w.page.document in
    record {
      context = made.0.context;
      address = made.1;
      levels = made.0.limits.depth;
      root = start_tag_of d.root d.t;
      inside = d.inside;
      runs = subst (λ t. runs_at made course (signs_of t)) d.tree_is w.known;
    }

pub ended_of : (setting : Setting) (address : Chars) (course : RdfaListener) (bytes : List ℕ) (list : List CodeTriple) → Whole (way_of setting) (runs_at (setting, address)) bytes course
    → ((root : StartTag) (inside : Tree) → CourseStands setting.context address setting.limits.depth course (signs_of (element root inside end)) → Lists setting.context address setting.limits.depth (element root inside end) list)
    → WalkEnded setting address bytes list
ended_of setting address course bytes list w gives =
    let d = w.page.document in
    let lists : Lists setting.context address setting.limits.depth w.tree list =
    subst (λ t. Lists setting.context address setting.limits.depth t list) (sym d.tree_is)
    (gives (start_tag_of d.root d.t) d.inside (subst (λ t. runs_at (setting, address) course (signs_of t)) d.tree_is w.known)) in
    record { tree = w.tree; page = w.page; accepted = w.accepted; lists = lists; made = list_made setting.context address setting.limits.depth w.tree list lists }
