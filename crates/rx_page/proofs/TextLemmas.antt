-- A task makes one text of a page.
use Rattle.rx_items.proofs.Common.{◌≡◌, ◌∙◌, ℕ, List, ◌++◌, refl, sym, ap, subst, encode_utf8_all, Chars, codes, Triple, Graph, set_of, Tree, one_tree, Context, written, Given, Data}
use Rattle.rx_jsonld.proofs.Common.{Inner, Cell, last_cell, next_cell, IsShape, HaveShapes, Shape, jsonld}
use Rattle.rx_shapes.specs.declared.shapes.Shape.TheVariants as shape
use Rattle.rx_notation.specs.Nesting.{nested}
use Rattle.serde_json.specs.Written.{compact_text}
use Rattle.rx_job.specs.Words.{Task, Extraction, extracts, itemizes, checks}
use Rattle.rx_page.specs.Outcomes.{IsTheTree, IsTheText}
use Rattle.rx_page.specs.Texts.{JsonText}
use Rattle.rx_page.specs.Forms.{form_of, IsFormText}
use Rattle.rx_page.specs.declared.forms.Form.{Form}
use Rattle.rx_page.specs.declared.forms.Form.TheVariants as forms
use Rattle.rx_page.specs.Tasks.{HasText, TaskGives, TaskDenotes, facts_in}
use Rattle.rx_page.specs.Settings.{standard_limits}
use Rattle.rx_page.proofs.OutcomeLemmas.{the_tree}
use Rattle.rx_microdata.specs.Base.{base_in}

-- ---- a node has one shape

pub cell_inner : (g : Graph ℕ) (b : ℕ) → Cell g b → Inner g b
cell_inner g b (last_cell inner pair) = inner
cell_inner g b (next_cell inner pair more) = inner

pub one_shape : (g : Graph ℕ) (b : ℕ) (s t : Shape) → IsShape g b s → IsShape g b t → s ≡ t
one_shape g b shape.Cell shape.Cell p q = refl
one_shape g b shape.Cell shape.Inside p q = absurd (q.1 p)
one_shape g b shape.Cell shape.Labelled p q = absurd (q (cell_inner g b p))
one_shape g b shape.Inside shape.Cell p q = absurd (p.1 q)
one_shape g b shape.Inside shape.Inside p q = refl
one_shape g b shape.Inside shape.Labelled p q = absurd (q p.0)
one_shape g b shape.Labelled shape.Cell p q = absurd (p (cell_inner g b q))
one_shape g b shape.Labelled shape.Inside p q = absurd (p q.0)
one_shape g b shape.Labelled shape.Labelled p q = refl

pub same_shapes : (list : List (Triple ℕ)) (s t : ℕ → Shape) → HaveShapes list s → HaveShapes list t → s ≡ t
same_shapes list s t p q = λ i n. one_shape (set_of list) n (s n) (t n) (p n) (q n) i

-- ---- a list has one text in a form

pub one_text_in : (form : Form) (list : List (Triple ℕ)) (a b : List ℕ) → IsFormText form list a → IsFormText form list b → a ≡ b
one_text_in (forms.Nquads name) list a b p q = p ∙ sym q
one_text_in (forms.Turtle context) list a b p q = p ∙ sym q
one_text_in (forms.Nested context) list a b p q =
    p.spelled ∙ (ap (λ (s : ℕ → Shape). encode_utf8_all (nested context.prefixes list s)) (same_shapes list p.shapes q.shapes p.have q.have) ∙ sym q.spelled)
one_text_in forms.Jsonld list a b p q =
    p.spelled ∙ (ap (λ (s : ℕ → Shape). compact_text (jsonld list s) ++ codes "\n") (same_shapes list p.shapes q.shapes p.have q.have) ∙ sym q.spelled)

-- ---- a page has one text

one_extracted : (e : Extraction) (context : Context) (bytes a b : List ℕ) → HasText e context bytes a → HasText e context bytes b → a ≡ b
one_extracted e context bytes a b p q =
    let same : p.tree ≡ q.tree = one_tree e.syntax standard_limits bytes p.tree q.tree p.is.page q.is.page in
    one_text_in (form_of e context) (written (base_in e.address q.tree) (facts_in context q.tree)) a b
    (subst (λ t. IsFormText (form_of e context) (written (base_in e.address t) (facts_in context t)) a) same p.spelled) q.spelled

given_same : (a b : Data) → Given a ≡ Given b → a ≡ b
given_same a b e = cc

one_json : (address : Chars) (tree : Tree) (a b : List ℕ) → JsonText address tree a → JsonText address tree b → a ≡ b
one_json address tree a b p q =
    p.spelled ∙ (ap (λ (v : Data). compact_text v ++ codes "\n") (given_same p.value q.value (sym p.given ∙ q.given)) ∙ sym q.spelled)

pub one_text : (task : Task) (context : Context) (bytes a b : List ℕ) → TaskGives task context bytes a → TaskGives task context bytes b → a ≡ b
one_text (extracts e) context bytes a b p q = one_extracted e context bytes a b p q
one_text (itemizes i) context bytes a b p q =
    let same : p.tree ≡ q.tree = one_tree i.syntax standard_limits bytes p.tree q.tree p.page q.page in
    one_json i.address q.tree a b (subst (λ t. JsonText i.address t a) same p.json) q.json
one_text (checks syntax) context bytes a b p q = p.spelled ∙ sym q.spelled

-- bytes that have a text are accepted
pub tree_of_text : (task : Task) (context : Context) (bytes text : List ℕ) → TaskGives task context bytes text → (tree : Tree) × IsTheTree task context bytes tree
tree_of_text (extracts e) context bytes text g = (g.tree, the_tree (extracts e) context bytes g.tree g.is)
tree_of_text (itemizes i) context bytes text g = (g.tree, the_tree (itemizes i) context bytes g.tree (record { page = g.page; value = g.json.value; given = g.json.given }))
tree_of_text (checks syntax) context bytes text g = (g.tree, the_tree (checks syntax) context bytes g.tree g.is)

pub the_text : (task : Task) (context : Context) (bytes text : List ℕ) → TaskGives task context bytes text → TaskDenotes task context bytes text → IsTheText task context bytes text
the_text task context bytes text g d =
    let t = tree_of_text task context bytes text g in
    record { tree = t.0; is = t.1; gives = g; alone = λ other o. one_text task context bytes other text o g; denotes = d }
