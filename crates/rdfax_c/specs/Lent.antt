-- Terms as C sees them.
use Rattle.std.specs.Prelude.{ℕ, length, Vec}
use Rattle.std.specs.declared.alloc.Global.{Global}
use Rattle.rx_quads.specs.declared.terms.TermKind.{TermKind}
use Rattle.rx_quads.specs.declared.terms.TermKind.TheVariants as kind
use Rattle.rx_quads.specs.declared.terms.ShownTerm.{ShownTerm}
use Rattle.rx_quads.specs.declared.terms.ShownQuad.{ShownQuad}
use Rattle.rdfax_c.specs.declared.terms.Bytes.{Bytes}
use Rattle.rdfax_c.specs.declared.terms.LentTerm.{LentTerm}
use Rattle.rdfax_c.specs.declared.terms.Terms.{Terms}

-- where the bytes lie, and how many they are
abbrev pub bytes_lent : Vec ℕ Global → Bytes
bytes_lent bytes = record { at = bytes.ptr; length = length bytes.items }

abbrev pub kind_code : TermKind → ℕ
kind_code kind.Nothing = 0
kind_code kind.Iri = 1
kind_code kind.Blank = 2
kind_code kind.Literal = 3

abbrev pub term_lent : ShownTerm → LentTerm
term_lent term = record {
  kind = kind_code term.kind;
  text = bytes_lent term.text;
  language = bytes_lent term.language;
  datatype = bytes_lent term.datatype;
}

abbrev pub quad_lent : ShownQuad → Terms
quad_lent quad = record {
  subject = term_lent quad.subject;
  predicate = term_lent quad.predicate;
  object = term_lent quad.object;
  graph = term_lent quad.graph;
}
