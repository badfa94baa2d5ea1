-- A page that is being read, and what its calls answer.
use Rattle.rx_items.proofs.Common.{◌≡◌, ℕ, List, ◌++◌, refl, sym, subst, inr, Result, Ok, Err, Chars, Bool, Vec, Syntax, Tree, Fault, Context, Stop}
use Rattle.std.specs.declared.alloc.Global.{Global}
use Rattle.rx_walk.specs.Settings.{Setting, way_of}
use Rattle.rx_items.specs.Collecting.{MicrodataSetting as ItemSetting, microdata_way as item_way_of}
use Rattle.rx_items.specs.declared.kept.Kept.{Kept}
use Rattle.rx_job.specs.Words.{Task, Extraction, Itemization, extracts, itemizes, checks}
use Rattle.rx_page.specs.Outcomes.{IsTheText}
use Rattle.rx_page.specs.JsonTexts.{AreItems, JsonTextGives}
use Rattle.rx_page.specs.Tasks.{HasItems, IsRight, way_in, IsAccepted, facts_in}
use Rattle.rx_page.specs.Texts.{ok_line, as_read}
use Rattle.rx_page.specs.Settings.{setting_for, item_setting_for, standard_limits, GivesList}
use Rattle.rx_page.proofs.OutcomeLemmas.{refuses_first, the_fault, the_tree}
use Rattle.rx_page.specs.Readers.{PageFeedGives, EndStops}
use Rattle.rx_page.proofs.TextLemmas.{the_text, one_text_in}
use Rattle.rx_session.specs.Wants.{plan_for, plain, extraction_seen}
use Rattle.rx_session.specs.Works.{WorkStands, WorkTakes, TaskEnds}
use Rattle.rx_session.specs.declared.given.Given.{Given}
use Rattle.rx_session.specs.declared.outputs.Plan.{Plan}
use Rattle.rx_session.specs.declared.works.Work.{Work}
use Rattle.rx_rdfa.proofs.Common.{◌∙◌, zero, suc, true, false, [], ◌∷◌, ◌+◌, map, ap, ap₂, Option, Term, Resource, Literal, Triple, set_of, rename_node, rename_term, rename, Renamed, copied, same_bnode, model, made, written, graph_of, exact_bnodes, written_denotes}
use Rattle.rx_terms.specs.declared.triples.Triple.{Triple as CodeTriple}
use Rattle.rx_pages.proofs.Trees.{one_tree}
use Rattle.rx_nquads.specs.Quads.{Quad, quads, proper_term}
use Rattle.rx_page.specs.Forms.{form_of, in_graph, IsFormText, FormDenotes}
use Rattle.rx_page.proofs.MadeLemmas.{quads_read, written_read, list_written}
use Rattle.rx_page.specs.Written.{graph_made}
use Rattle.rx_quads.specs.Raised.{raised, AreFrom, past}
use Rattle.rx_quads.specs.Listed.{ListedGraph, quads_of}
use Rattle.rx_quads.proofs.CountLemmas.{numbers_without_gaps, renamed_then}
use Rattle.rx_quads.proofs.RaisedLemmas.{raises_one_to_one}
use Rattle.rx_session.specs.Given.{triples_from, HasTextFrom, IsTheTextFrom, IsTheTextOf, HasQuadsFrom, AreTheQuads, CountsNodes, IsGiven, GivesWanted}
use Rattle.rx_page.specs.declared.forms.Form.{Form}
use Rattle.rx_turtle.proofs.Common.{not, ◌&&◌, Some, None, if◌then◌else◌, option_map, chars, IsUtf8, is_utf8, is_utf8-from_IsUtf8, IsUtf8-from_is_utf8, IsIri, has_scheme, has_forbidden, is_iri}
use Rattle.rx_session.specs.Requests.{first_in, numbered_syntax, output_in, iri_in, graph_in, wanted_extraction, extraction_in, items_with, items_wanted}
use Rattle.rx_session.specs.declared.outputs.Output.{Output}
use Rattle.rx_grammar.specs.declared.stops.Stop.TheVariants as stop
use Rattle.rx_walk.specs.Walks as walks
use Rattle.rx_walk.specs.Checks as check
use Rattle.rx_items.specs.Walks as items
use Rattle.rx_session.specs.declared.given.Given.TheVariants as given
use Rattle.rx_session.specs.declared.works.Work.TheVariants as work
use Rattle.rx_session.specs.declared.outputs.Plan.TheVariants as plans
use Rattle.rx_microdata.specs.Base.{base_in}

-- ---- a piece

-- whatever reads the page for the task
on_piece : {R : Type 0} (task : Task) (first : ℕ) (singly : Bool) (context : Context) (stands : R → List ℕ → Type 0) (holding : R → Work)
    → ((v : R) (bytes : List ℕ) → stands v bytes → WorkStands task first singly context (holding v) bytes)
    → (bytes piece : List ℕ) (r : Result (Unit {0}) Stop) (new : R) → PageFeedGives (way_in task context) stands bytes piece r new
    → WorkTakes task first singly context bytes piece r (holding new)
on_piece task first singly context stands holding reads bytes piece (Ok done) new gives = reads new (bytes ++ piece) gives
on_piece task first singly context stands holding reads bytes piece (Err (stop.Fault fault)) new gives =
    λ rest. the_fault task context ((bytes ++ piece) ++ rest) fault (refuses_first task context ((bytes ++ piece) ++ rest) fault (gives.stays rest))
on_piece task first singly context stands holding reads bytes piece (Err stop.NoMemory) new gives = tt

pub feeds_walk : (task : Task) (first : ℕ) (singly : Bool) (context : Context) (old new : walks.Walked) (plan : Plan) (from : ℕ) (bytes piece : List ℕ) (r : Result (Unit {0}) Stop)
    → ((made : Setting × Chars) (bytes : List ℕ) → walks.WalkStands made.0 made.1 old bytes
    → PageFeedGives (way_of made.0) (λ v b. walks.WalkStands made.0 made.1 v b) bytes piece r new)
    → WorkStands task first singly context (work.Extracts old plan from) bytes → WorkTakes task first singly context bytes piece r (work.Extracts new plan from)
feeds_walk (extracts e) first singly context old new plan from bytes piece r gives at =
    on_piece (extracts e) first singly context (λ v b. walks.WalkStands (setting_for e.syntax context) e.address v b) (λ v. work.Extracts v plan from)
    (λ v b s. (s, at.1, at.2)) bytes piece r new (gives (setting_for e.syntax context, e.address) bytes at.0)
feeds_walk (itemizes i) first singly context old new plan from bytes piece r gives at = absurd at
feeds_walk (checks syntax) first singly context old new plan from bytes piece r gives at = absurd at

pub feeds_items : (task : Task) (first : ℕ) (singly : Bool) (context : Context) (old new : items.ItemsWalked) (bytes piece : List ℕ) (r : Result (Unit {0}) Stop)
    → ((setting : ItemSetting) (bytes : List ℕ) → items.ItemWalkStands setting old bytes → PageFeedGives (item_way_of setting) (items.ItemWalkStands setting) bytes piece r new)
    → WorkStands task first singly context (work.Itemizes old) bytes → WorkTakes task first singly context bytes piece r (work.Itemizes new)
feeds_items (extracts e) first singly context old new bytes piece r gives at = absurd at
feeds_items (itemizes i) first singly context old new bytes piece r gives at =
    on_piece (itemizes i) first singly context (items.ItemWalkStands (item_setting_for i.syntax i.address)) (λ v. work.Itemizes v) (λ v b s. s) bytes piece r new
    (gives (item_setting_for i.syntax i.address) bytes at)
feeds_items (checks syntax) first singly context old new bytes piece r gives at = absurd at

pub feeds_check : (task : Task) (first : ℕ) (singly : Bool) (context : Context) (old new : check.Checked) (bytes piece : List ℕ) (r : Result (Unit {0}) Stop)
    → ((setting : Setting) (bytes : List ℕ) → check.CheckStands setting old bytes → PageFeedGives (way_of setting) (check.CheckStands setting) bytes piece r new)
    → WorkStands task first singly context (work.Checks old) bytes → WorkTakes task first singly context bytes piece r (work.Checks new)
feeds_check (extracts e) first singly context old new bytes piece r gives at = absurd at
feeds_check (itemizes i) first singly context old new bytes piece r gives at = absurd at
feeds_check (checks syntax) first singly context old new bytes piece r gives at =
    on_piece (checks syntax) first singly context (check.CheckStands (setting_for syntax context)) (λ v. work.Checks v) (λ v b s. s) bytes piece r new
    (gives (setting_for syntax context) bytes at)

-- ---- the page's end

-- it stops what reads the page for the task
pub stops : (task : Task) (first : ℕ) (singly : Bool) (context : Context) (bytes : List ℕ) (why : Stop) → EndStops (way_in task context) bytes why
    → TaskEnds task first singly context bytes (Err why)
stops task first singly context bytes (stop.Fault fault) e = the_fault task context bytes fault (refuses_first task context bytes fault e.0)
stops task first singly context bytes stop.NoMemory e = tt

pub items_text : (i : Itemization) (first : ℕ) (singly : Bool) (context : Context) (bytes : List ℕ) (kept : Kept) (text : Vec ℕ Global) → items.ItemWalkEnded (item_setting_for i.syntax i.address) bytes kept
    → ((address : Chars) (tree : Tree) → AreItems address tree kept → JsonTextGives {V = Vec ℕ Global} (λ text. text.items) address tree (Ok text))
    → TaskEnds (itemizes i) first singly context bytes (Ok (given.Text text 0))
items_text i first singly context bytes kept text ended gives =
    let has : HasItems i bytes text.items = record { tree = ended.tree; page = ended.page; json = gives i.address ended.tree ended.holds } in
    (the_text (itemizes i) context bytes text.items has has, refl)

pub items_refused : (i : Itemization) (first : ℕ) (singly : Bool) (context : Context) (bytes : List ℕ) (kept : Kept) (why : Stop) → items.ItemWalkEnded (item_setting_for i.syntax i.address) bytes kept
    → ((address : Chars) (tree : Tree) → AreItems address tree kept → JsonTextGives {V = Vec ℕ Global} (λ text. text.items) address tree (Err why))
    → TaskEnds (itemizes i) first singly context bytes (Err why)
items_refused i first singly context bytes kept (stop.Fault fault) ended gives =
    the_fault (itemizes i) context bytes fault (inr (record { tree = ended.tree; page = ended.page; refused = gives i.address ended.tree ended.holds }))
items_refused i first singly context bytes kept stop.NoMemory ended gives = tt

pub check_ends : (syntax : Syntax) (first : ℕ) (singly : Bool) (context : Context) (bytes : List ℕ) (text : Vec ℕ Global) → check.Accepted (setting_for syntax context) bytes → text.items ≡ ok_line
    → TaskEnds (checks syntax) first singly context bytes (Ok (given.Text text 0))
check_ends syntax first singly context bytes text a is =
    let right : IsRight syntax context bytes ok_line = record { tree = a.tree; is = record { page = a.page; accepted = a.accepted }; spelled = refl } in
    (subst (λ t. IsTheText (checks syntax) context bytes t) (sym is) (the_text (checks syntax) context bytes ok_line right right), refl)

-- ---- by its kind

pub finishes_walk : (task : Task) (first : ℕ) (singly : Bool) (context : Context) (walk : walks.Walked) (plan : Plan) (from : ℕ) (bytes : List ℕ) (r : Result Given Stop)
    → ((e : Extraction) (singly : Bool) (context : Context) (bytes : List ℕ) → walks.WalkStands (setting_for e.syntax context) e.address walk bytes
    → plan ≡ plan_for singly e.format e.graph context → TaskEnds (extracts e) from singly context bytes r)
    → WorkStands task first singly context (work.Extracts walk plan from) bytes → TaskEnds task first singly context bytes r
finishes_walk (extracts e) first singly context walk plan from bytes r ends at =
    subst (λ (n : ℕ). TaskEnds (extracts e) n singly context bytes r) at.2 (ends e singly context bytes at.0 at.1)
finishes_walk (itemizes i) first singly context walk plan from bytes r ends at = absurd at
finishes_walk (checks syntax) first singly context walk plan from bytes r ends at = absurd at

pub finishes_items : (task : Task) (first : ℕ) (singly : Bool) (context : Context) (walk : items.ItemsWalked) (bytes : List ℕ) (r : Result Given Stop)
    → ((i : Itemization) (first : ℕ) (singly : Bool) (context : Context) (bytes : List ℕ) → items.ItemWalkStands (item_setting_for i.syntax i.address) walk bytes → TaskEnds (itemizes i) first singly context bytes r)
    → WorkStands task first singly context (work.Itemizes walk) bytes → TaskEnds task first singly context bytes r
finishes_items (extracts e) first singly context walk bytes r ends at = absurd at
finishes_items (itemizes i) first singly context walk bytes r ends at = ends i first singly context bytes at
finishes_items (checks syntax) first singly context walk bytes r ends at = absurd at

pub finishes_check : (task : Task) (first : ℕ) (singly : Bool) (context : Context) (v : check.Checked) (bytes : List ℕ) (r : Result Given Stop)
    → ((syntax : Syntax) (first : ℕ) (singly : Bool) (context : Context) (bytes : List ℕ) → check.CheckStands (setting_for syntax context) v bytes → TaskEnds (checks syntax) first singly context bytes r)
    → WorkStands task first singly context (work.Checks v) bytes → TaskEnds task first singly context bytes r
finishes_check (extracts e) first singly context v bytes r ends at = absurd at
finishes_check (itemizes i) first singly context v bytes r ends at = absurd at
finishes_check (checks syntax) first singly context v bytes r ends at = ends syntax first singly context bytes at

-- ---- what is made of the triples of a page that was read

-- ---- a page has one text and one list of quads

module _ (first : ℕ) (e : Extraction) (context : Context) (bytes : List ℕ) where
  one_text_from : (a b : List ℕ) → HasTextFrom first e context bytes a → HasTextFrom first e context bytes b → a ≡ b
  one_text_from a b p q =
      let same : p.tree ≡ q.tree = one_tree e.syntax standard_limits bytes p.tree q.tree p.is.page q.is.page in
      one_text_in (form_of e context) (triples_from first e context q.tree) a b
      (subst (λ t. IsFormText (form_of e context) (triples_from first e context t) a) same p.spelled) q.spelled

  one_quads_from : (a b : List Quad) → HasQuadsFrom first e context bytes a → HasQuadsFrom first e context bytes b → a ≡ b
  one_quads_from a b p q =
      let same : p.tree ≡ q.tree = one_tree e.syntax standard_limits bytes p.tree q.tree p.is.page q.is.page in
      p.are ∙ (ap (λ t. map (in_graph e.graph) (triples_from first e context t)) same ∙ sym q.are)

-- from 0 on it is the text that the command writes
text_of : (first : ℕ) (e : Extraction) (context : Context) (bytes text : List ℕ) → IsTheTextFrom first e context bytes text → IsTheTextOf first e context bytes text
text_of zero e context bytes text t = record {
  tree = t.tree;
  is = t.is;
  gives = record { tree = t.gives.tree; is = t.gives.is; spelled = t.gives.spelled };
  alone = λ other o. t.alone other (record { tree = o.tree; is = o.is; spelled = o.spelled });
  denotes = t.denotes;
}
text_of (suc n) e context bytes text t = t

-- ---- blank nodes with other numbers change no literal

term_read : (f : ℕ → ℕ) (term : Term ℕ) → proper_term (rename_term f term) ≡ rename_term f (proper_term term)
term_read f (Resource node) = refl
term_read f (Literal text kind) = refl

list_read : (f : ℕ → ℕ) (list : List (Triple ℕ)) → as_read (map (rename f) list) ≡ map (rename f) (as_read list)
list_read f [] = refl
list_read f (t ∷ list) =
    let o = term_read f t.object in
    ap₂ (λ (object : Term ℕ) (more : List (Triple ℕ)). (record { subject = rename_node f t.subject; predicate = t.predicate; object = object }) ∷ more) o (list_read f list)

raised_read : (first : ℕ) (list : List (Triple ℕ)) → as_read list ≡ list → as_read (raised first list) ≡ raised first list
raised_read zero list e = e
raised_read (suc n) list e = list_read (λ b. suc n + b) list ∙ ap (map (rename (λ b. suc n + b))) e

-- ---- what is made of a list that a walk gives

module _ (e : Extraction) (context : Context) (bytes : List ℕ) (list : List CodeTriple) (ended : GivesList e.syntax context e.address bytes list) (first : ℕ) where
  accepted : IsAccepted e.syntax context bytes ended.tree
  accepted = record { page = ended.page; accepted = ended.accepted }

  same_graph : graph_made list ≡ written (base_in e.address ended.tree) (facts_in context ended.tree)
  same_graph = list_written e.address context ended.tree list ended.made

  renamed_from : Renamed (graph_of (base_in e.address ended.tree) (facts_in context ended.tree)) (set_of (triples_from first e context ended.tree))
  renamed_from =
      let graph : List (Triple ℕ) = written (base_in e.address ended.tree) (facts_in context ended.tree) in
      renamed_then (graph_of (base_in e.address ended.tree) (facts_in context ended.tree)) (set_of graph) (set_of (raised first graph))
      (written_denotes (base_in e.address ended.tree) (facts_in context ended.tree)) (raises_one_to_one first graph)

  -- the triples that are written are read as they are
  read_from : as_read (triples_from first e context ended.tree) ≡ triples_from first e context ended.tree
  read_from =
      raised_read first (written (base_in e.address ended.tree) (facts_in context ended.tree)) (written_read (base_in e.address ended.tree) (facts_in context ended.tree))

  text_from : (text : List ℕ) → IsFormText (form_of e context) (raised first (graph_made list)) text
      → FormDenotes (form_of e context) text (as_read (raised first (graph_made list))) → IsTheTextFrom first e context bytes text
  text_from text spelled denotes =
      let has : HasTextFrom first e context bytes text = record {
        tree = ended.tree;
        is = accepted;
        spelled =
            subst (λ ts. IsFormText (form_of e context) (raised first ts) text) same_graph spelled;
      } in
      record {
        tree = ended.tree;
        is = the_tree (extracts e) context bytes ended.tree accepted;
        gives = has;
        alone = λ other o. one_text_from first e context bytes other text o has;
        denotes = record {
          tree = ended.tree;
          is = accepted;
          triples = triples_from first e context ended.tree;
          denotes =
              subst (λ ts. FormDenotes (form_of e context) text ts) (ap (λ ts. as_read (raised first ts)) same_graph ∙ read_from) denotes;
          renamed = renamed_from;
        };
      }

  quads_from : (of : List Quad) → of ≡ quads (raised first (graph_made list)) e.graph → AreTheQuads first e context bytes of
  quads_from of is =
      let triples : List (Triple ℕ) = triples_from first e context ended.tree in
      let same : of ≡ map (in_graph e.graph) triples =
      is ∙ (ap (λ ts. quads (raised first ts) e.graph) same_graph ∙ (quads_read e.graph triples ∙ ap (map (in_graph e.graph)) read_from)) in
      record {
        tree = ended.tree;
        is = the_tree (extracts e) context bytes ended.tree accepted;
        gives = same;
        alone = λ other o. one_quads_from first e context bytes other of o (record { tree = ended.tree; is = accepted; are = same });
        renamed = renamed_from;
      }

  nodes_from : (count : ℕ) → count ≡ past (graph_made list) → CountsNodes first e context bytes count
  nodes_from count is =
      let base : Chars = base_in e.address ended.tree in
      record {
        tree = ended.tree;
        is = accepted;
        from =
            subst (λ n. AreFrom first n (triples_from first e context ended.tree)) (sym (is ∙ ap past same_graph))
            (numbers_without_gaps same_bnode exact_bnodes first (copied same_bnode (made model base (facts_in context ended.tree))));
      }

  given_from : (singly : Bool) (g : Given) → IsGiven (plan_for singly e.format e.graph context) first (graph_made list) g → GivesWanted (extracts e) first singly context bytes g
  given_from false (given.Text text nodes) m = (text_of first e context bytes text.items (text_from text.items m.0 m.1), nodes_from nodes m.2)
  given_from false (given.Quads q nodes) m = absurd m
  given_from true (given.Text text nodes) m = absurd m
  given_from true (given.Quads q nodes) m = (quads_from (quads_of q) m.0, nodes_from nodes m.1)

  pub walk_ends : (singly : Bool) (plan : Plan) (g : Given) → plan ≡ plan_for singly e.format e.graph context → IsGiven plan first (graph_made list) g
      → GivesWanted (extracts e) first singly context bytes g
  walk_ends singly plan g is made = given_from singly g (subst (λ (p : Plan). IsGiven p first (graph_made list) g) is made)

-- ---- what is given

pub given_text : (plan : Plan) (form : Form) (first : ℕ) (list seen : List (Triple ℕ)) (text : Vec ℕ Global) (nodes : ℕ) → plan ≡ plans.Text form → seen ≡ raised first list
    → IsFormText form seen text.items → FormDenotes form text.items (as_read seen) → nodes ≡ past list → IsGiven plan first list (given.Text text nodes)
given_text plan form first list seen text nodes is e spelled denotes n =
    subst (λ (p : Plan). IsGiven p first list (given.Text text nodes)) (sym is)
    (subst (λ ts. IsFormText form ts text.items) e spelled, subst (λ ts. FormDenotes form text.items (as_read ts)) e denotes, n)

pub given_quads : (plan : Plan) (name : Option Chars) (first : ℕ) (list seen : List (Triple ℕ)) (q : ListedGraph) (nodes : ℕ) → plan ≡ plans.Quads name → seen ≡ raised first list
    → quads_of q ≡ quads seen name → nodes ≡ past list → IsGiven plan first list (given.Quads q nodes)
given_quads plan name first list seen q nodes is e are n =
    subst (λ (p : Plan). IsGiven p first list (given.Quads q nodes)) (sym is) (are ∙ ap (λ ts. quads ts name) e, n)

-- ---- what bytes and numbers ask for

abbrev if_utf8 : Bool → List ℕ → Option Chars
if_utf8 b bytes = if b && is_iri (chars bytes) then Some (chars bytes) else None

pub no_iri : (bytes : List ℕ) → (IsUtf8 bytes → ⊥) → iri_in bytes ≡ None
no_iri bytes other = by (is_utf8 bytes) refl
  where
    by : (b : Bool) → is_utf8 bytes ≡ b → iri_in bytes ≡ None
    by true e = absurd (other (IsUtf8-from_is_utf8 bytes e))
    by false e = ap (λ b. if_utf8 b bytes) e

pub an_iri : (bytes text iri : List ℕ) → text ≡ bytes → IsUtf8 bytes → iri ≡ chars text → IsIri (chars text) → iri_in bytes ≡ Some iri
an_iri bytes text iri s u i f =
    let g : IsIri (chars bytes) = subst (λ t. IsIri (chars t)) s f in
    ap (λ b. if_utf8 b bytes) (is_utf8-from_IsUtf8 bytes u)
    ∙ (ap (λ b. if b && not (has_forbidden (chars bytes)) then Some (chars bytes) else None) g.scheme
    ∙ (ap (λ b. if not b then Some (chars bytes) else None) g.clean ∙ ap Some (ap chars (sym s) ∙ sym i)))

pub items_asked : (syntax : ℕ) (address : List ℕ) (s : Syntax) (a : Chars) → numbered_syntax syntax ≡ Some s → iri_in address ≡ Some a
    → items_wanted syntax address ≡ Some (plain (itemizes (record { syntax = s; address = a })))
items_asked syntax address s a p q = ap (λ x. items_with x (iri_in address)) p ∙ ap (λ y. items_with (Some s) y) q

pub extraction_asked : (syntax format first : ℕ) (address : List ℕ) (graph : Option (List ℕ)) (n : ℕ) (s : Syntax) (o : Output) (a : Chars) (g : Option Chars)
    → first_in first ≡ Some n → numbered_syntax syntax ≡ Some s → output_in format ≡ Some o → iri_in address ≡ Some a → graph_in o graph ≡ Some g
    → extraction_in syntax format first address graph ≡ Some (extraction_seen (record { syntax = s; output = o; graph = g; address = a; first = n }))
extraction_asked syntax format first address graph n s o a g m p q r t =
    ap (λ x. wanted_extraction x (numbered_syntax syntax) (output_in format) (iri_in address) graph) m
    ∙ (ap (λ x. wanted_extraction (Some n) x (output_in format) (iri_in address) graph) p
    ∙ (ap (λ x. wanted_extraction (Some n) (Some s) x (iri_in address) graph) q
    ∙ (ap (λ x. wanted_extraction (Some n) (Some s) (Some o) x graph) r
    ∙ ap (λ x. option_map (λ name. extraction_seen (record { syntax = s; output = o; graph = name; address = a; first = n })) x) t)))
