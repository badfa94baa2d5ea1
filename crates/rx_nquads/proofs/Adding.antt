-- Characters of a line, one part after another.
use Rattle.rx_model.proofs.Common.{◌≡◌, ◌∙◌, ℕ, ◌++◌, sym, ap, refl, append_assoc, codes, Option, chars, Chars, Triple}
use Rattle.rx_pieces.specs.Writing.{iri_text}
use Rattle.rx_pieces.specs.Underway.{Delivery}
use Rattle.rx_pieces.specs.Writable.{Adds}
use Rattle.rx_pieces.proofs.Adding.{adds_by, iri_before, between}
use Rattle.rx_nquads.specs.Writing.{node_text, term_text, graph_text, line_text}

-- ---- terms with what stands beside them

pub iri_subject : {a b : Delivery} (iri : Chars) → Adds a b (chars (codes "<") ++ (iri ++ chars (codes "> <"))) → Adds a b (iri_text iri ++ codes " <")
iri_subject iri h = adds_by (iri_before iri (codes " <")) (between (codes "<") iri (codes "> <") refl refl h)

pub iri_object : {a b : Delivery} (iri : Chars) → Adds a b (chars (codes "> <") ++ (iri ++ chars (codes "> "))) → Adds a b (codes "> " ++ (iri_text iri ++ codes " "))
iri_object iri h = adds_by (ap (λ z. codes "> " ++ z) (iri_before iri (codes " "))) (between (codes "> <") iri (codes "> ") refl refl h)

pub iri_datatype : {a b : Delivery} (iri : Chars) → Adds a b (chars (codes "\"^^<") ++ (iri ++ chars (codes "> "))) → Adds a b (codes "\"" ++ ((codes "^^" ++ iri_text iri) ++ codes " "))
iri_datatype iri h = adds_by (ap (λ z. codes "\"^^" ++ z) (iri_before iri (codes " "))) (between (codes "\"^^<") iri (codes "> ") refl refl h)

pub iri_name : {a b : Delivery} (iri : Chars) → Adds a b (chars (codes "<") ++ (iri ++ chars (codes "> "))) → Adds a b (iri_text iri ++ codes " ")
iri_name iri h = adds_by (iri_before iri (codes " ")) (between (codes "<") iri (codes "> ") refl refl h)

pub literal_object : (text kind : Chars) → (codes "> \"" ++ text) ++ (codes "\"" ++ (kind ++ codes " ")) ≡ codes "> " ++ (((codes "\"" ++ (text ++ codes "\"")) ++ kind) ++ codes " ")
literal_object text kind = ap (λ z. codes "> \"" ++ z) (sym (append_assoc (text ++ codes "\"") kind (codes " ") ∙ append_assoc text (codes "\"") (kind ++ codes " ")))

pub line_spaced : (name : Option Chars) (t : Triple ℕ)
    → (node_text t.subject ++ codes " <") ++ (t.predicate ++ ((codes "> " ++ (term_text t.object ++ codes " ")) ++ (graph_text name ++ codes ".\n"))) ≡ line_text name t
line_spaced name t =
    let end : Chars = graph_text name ++ codes ".\n" in
    append_assoc (node_text t.subject) (codes " <") _
    ∙ ap (λ z. node_text t.subject ++ (codes " <" ++ (t.predicate ++ (codes "> " ++ z)))) (append_assoc (term_text t.object) (codes " ") end)
    ∙ ap (λ z. node_text t.subject ++ (codes " " ++ z)) (iri_before t.predicate (codes " " ++ (term_text t.object ++ (codes " " ++ end))))
