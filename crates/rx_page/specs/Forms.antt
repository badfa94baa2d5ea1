-- How triples are written, and what such a text denotes.
use Rattle.std.specs.Prelude.{◌≡◌, ℕ, List, map, Option, option_map, encode_utf8_all}
use Rattle.rx_rdfa.specs.Common.{chars, Chars, Iri, Triple, Context}
use Rattle.rx_nquads.specs.Document.{Nquads}
use Rattle.rx_nquads.specs.Quads.{Quad}
use Rattle.rx_nquads.specs.Writing.{nquads}
use Rattle.rx_notation.specs.Layout.{turtle}
use Rattle.rx_notation.specs.Meaning.{Turtle, NestedTurtle}
use Rattle.rx_job.specs.declared.formats.Format.{Format}
use Rattle.rx_job.specs.declared.formats.Format.TheVariants as format
use Rattle.rx_page.specs.Texts.{IsNestedText, IsJsonldText, JsonDenotes}
use Rattle.rx_page.specs.declared.forms.Form.{Form}
use Rattle.rx_page.specs.declared.forms.Form.TheVariants as forms
use Rattle.rx_job.specs.Words.{Extraction}

-- how triples are written: in a format, in the graph of this name, under the context's prefixes
abbrev pub form_in : Format → Option Chars → Context → Form
form_in format.Nquads graph context = forms.Nquads graph
form_in format.Turtle graph context = forms.Turtle context
form_in format.Nested graph context = forms.Nested context
form_in format.Jsonld graph context = forms.Jsonld

-- as an extraction asks for
abbrev pub form_of : Extraction → Context → Form
form_of e context = form_in e.format e.graph context

-- the text is that of the triples in this form
abbrev pub IsFormText : Form → List (Triple ℕ) → List ℕ → Type 0
IsFormText (forms.Nquads name) list text = text ≡ encode_utf8_all (nquads list name)
IsFormText (forms.Turtle context) list text = text ≡ encode_utf8_all (turtle context.prefixes list)
IsFormText (forms.Nested context) list text = IsNestedText context list text
IsFormText forms.Jsonld list text = IsJsonldText list text

-- the triple itself, in the graph of this name, or in the default graph
abbrev pub in_graph : Option Chars → Triple ℕ → Quad
in_graph name t = record { triple = t; graph = option_map (λ iri. Iri iri) name }

-- the text in this form denotes exactly these triples
abbrev pub FormDenotes : Form → List ℕ → List (Triple ℕ) → Type 0
FormDenotes (forms.Nquads name) text triples = Nquads (chars text) (map (in_graph name) triples)
FormDenotes (forms.Turtle context) text triples = Turtle (chars text) triples
FormDenotes (forms.Nested context) text triples = NestedTurtle (chars text) triples
FormDenotes forms.Jsonld text triples = JsonDenotes text triples
