-- What is made of the list that a walk gives is what the rules have of the page.
use Rattle.rx_eval.proofs.Common.{◌≡◌, ◌∙◌, ℕ, nat_eq, List, ap, subst, Chars, copied, numbered, triples_seen, Triple, same_bnode, model, Facts, Context, Nodes, written, exact_bnodes, Numbering, Makes, number_under, written_denotes}
use Rattle.rx_rdfa.proofs.Common.{Tree, made, [], ◌∷◌, map, refl, sym, Option, chars}
use Rattle.rx_terms.specs.declared.triples.Triple.{Triple as CodeTriple}
use Rattle.rx_model.proofs.Names.{names_do_not_matter}
use Rattle.rx_walk.specs.Walks.{IsMade}
use Rattle.rx_page.specs.Tasks.{facts_in, IsAccepted, HasText, DenotesGraph}
use Rattle.rx_job.specs.Words.{Extraction}
use Rattle.rx_page.specs.Settings.{GivesList}
use Rattle.rx_page.specs.Forms.{IsFormText, FormDenotes, form_of, in_graph}
use Rattle.rx_page.specs.Texts.{as_read}
use Rattle.rx_page.specs.Written.{output_text, Denoted, graph_made}
use Rattle.rx_page.specs.declared.forms.Form.{Form}
use Rattle.rx_page.specs.declared.outcomes.Outcome.{Outcome}
use Rattle.rx_nquads.specs.Quads.{quads, proper_triple}
use Rattle.rx_rdfa.proofs.Proper.{literals_are_proper}
use Rattle.rx_nquads.specs.Document.{Nquads}
use Rattle.rx_notation.proofs.LayoutMeaning.{layout_denotes}
use Rattle.rx_rdfa.specs.Proper as rules
use Rattle.rx_page.specs.declared.forms.Form.TheVariants as forms
use Rattle.rx_microdata.specs.Base.{base_in}

-- ---- the triples that RDFa's rules give are read as they are, and the quads of a list are its triples as they are read

pub quads_read : (name : Option Chars) (list : List (Triple ℕ)) → quads list name ≡ map (in_graph name) (as_read list)
quads_read name [] = refl
quads_read name (t ∷ list) = ap (λ more. in_graph name (proper_triple t) ∷ more) (quads_read name list)

pub quads_denote : (form : Form) (name : Option Chars) (list : List (Triple ℕ)) (text : List ℕ) → form ≡ forms.Nquads name → Nquads (chars text) (quads list name) → FormDenotes form text (as_read list)
quads_denote form name list text is denotes = subst (λ (f : Form). FormDenotes f text (as_read list)) (sym is) (subst (Nquads (chars text)) (quads_read name list) denotes)

pub written_read : (base : Chars) (tree : Nodes Facts) → as_read (written base tree) ≡ written base tree
written_read base tree = layout_denotes.stays (written base tree) (literals_are_proper base tree)

-- what is written of a list with numbers in place of the rules' blank nodes
pub written_so : (to : Numbering) (base : Chars) (tree : Nodes Facts) (triples : List (Triple ℕ)) → Makes to base tree triples → numbered nat_eq (copied nat_eq triples) ≡ written base tree
written_so to base tree triples m =
    ap (λ xs. numbered nat_eq (copied nat_eq xs)) m.list ∙ names_do_not_matter same_bnode exact_bnodes (made model base tree) (number_under to) m.one_to_one

-- what is written of the list that a walk gives is what the rules have written of the page's tree
pub list_written : (address : Chars) (context : Context) (tree : Tree) (list : List CodeTriple) → IsMade context address tree list → numbered nat_eq (copied nat_eq (triples_seen list)) ≡ written (base_in address tree) (facts_in context tree)
list_written address context tree list m = written_so m.to (base_in address tree) (facts_in context tree) (triples_seen list) m.makes

-- what is made of the triples of a page that was read
pub text_made : (e : Extraction) (context : Context) (form : Form) (outcome : Outcome) (list : List CodeTriple) (bytes : List ℕ) → form ≡ form_of e context
    → IsFormText form (graph_made list) (output_text outcome) → (Denoted outcome → FormDenotes form (output_text outcome) (as_read (graph_made list)))
    → GivesList e.syntax context e.address bytes list → HasText e context bytes (output_text outcome) × (Denoted outcome → DenotesGraph e context bytes (output_text outcome))
text_made e context form outcome list bytes f spelled denotes given =
    let triples : List (Triple ℕ) = written (base_in e.address given.tree) (facts_in context given.tree) in
    let same : graph_made list ≡ triples = list_written e.address context given.tree list given.made in
    let is : IsAccepted e.syntax context bytes given.tree = record { page = given.page; accepted = given.accepted } in (
      record {
        tree = given.tree;
        is = is;
        spelled =
            subst (λ ts. IsFormText (form_of e context) ts (output_text outcome)) same
            (subst (λ (k : Form). IsFormText k (graph_made list) (output_text outcome)) f spelled);
      },
      λ read. record {
        tree = given.tree;
        is = is;
        triples = triples;
        denotes =
            subst (λ ts. FormDenotes (form_of e context) (output_text outcome) ts)
            (ap as_read same ∙ written_read (base_in e.address given.tree) (facts_in context given.tree))
            (subst (λ (k : Form). FormDenotes k (output_text outcome) (as_read (graph_made list))) f (denotes read));
        renamed = written_denotes (base_in e.address given.tree) (facts_in context given.tree);
      },
    )
