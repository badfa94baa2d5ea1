-- Worked examples: pages, and their document.
use Rattle.std.specs.Prelude.{◌≡◌, ℕ, List, [], ◌∷◌, ◌++◌, codes, bytes_eq, if◌then◌else◌}
use Rattle.rx_terms.specs.Common.{String}
use Rattle.rx_model.specs.Common.{Chars, Plain, Iri, Blank, Resource, Literal, Triple, spo}
use Rattle.rx_grammar.specs.declared.faults.Fault.{Fault}
use Rattle.rx_grammar.specs.declared.faults.Kind.TheVariants.{Mismatch, Unended}
use Rattle.rx_many.specs.Pages.{JudgedPage, refused_page, accepted_page}
use Rattle.rx_many.specs.Writing.{pages_document}

pub record Row : Type 0 where
  pub pages : List JudgedPage
  pub text : String

abbrev pub row : List JudgedPage → String → Row
row pages text = record { pages = pages; text = text }

-- the texts of the rows that have another
abbrev pub wrong : List Row → List String
wrong [] = []
wrong (r ∷ rows) = if bytes_eq (pages_document r.pages) (codes r.text) then wrong rows else r.text ∷ wrong rows

abbrev pub v : Chars → Chars
v name = codes "http://v.example/" ++ name

abbrev pub mismatch : Fault
mismatch = record { kind = Mismatch; token = 10; at = 13 }

-- the address has a blank node by a relation, and this has the name 1
abbrev pub related : Chars → List (Triple ℕ)
related address = spo (Iri address) (v (codes "p")) (Resource (Blank 0)) ∷ spo (Blank 0) (v (codes "n")) (Literal (codes "1") Plain) ∷ []

abbrev pub greeting : List (Triple ℕ)
greeting = spo (Iri (codes "http://h.example/s")) (v (codes "p")) (Literal (codes "Hi") Plain) ∷ []

abbrev pub rows : List Row
rows =
    -- one page at two addresses, and between them one that is refused
    row (accepted_page (codes "http://h.example/a") (related (codes "http://h.example/a"))
    ∷ refused_page (codes "http://h.example/c") mismatch
    ∷ accepted_page (codes "http://h.example/b#x") (related (codes "http://h.example/b"))
    ∷ [])
    "<http://h.example/a> <http://v.example/p> _:b0 <http://h.example/a> .\n_:b0 <http://v.example/n> \"1\" <http://h.example/a> .\n# refused: Mismatch at byte 13 in token 10 of http://h.example/c\n<http://h.example/b> <http://v.example/p> _:b1 <http://h.example/b> .\n_:b1 <http://v.example/n> \"1\" <http://h.example/b> .\n"
    -- one page twice at one address: a quad without blank nodes is written once
    ∷ row (accepted_page (codes "http://h.example/a") greeting ∷ accepted_page (codes "http://h.example/a") greeting ∷ [])
    "<http://h.example/s> <http://v.example/p> \"Hi\" <http://h.example/a> .\n"
    -- an accepted page between two that are refused, alike and at one address: each has its comment
    ∷ row (refused_page (codes "h:c") mismatch ∷ accepted_page (codes "h:a") greeting ∷ refused_page (codes "h:c") mismatch ∷ [])
    "# refused: Mismatch at byte 13 in token 10 of h:c\n<http://h.example/s> <http://v.example/p> \"Hi\" <h:a> .\n# refused: Mismatch at byte 13 in token 10 of h:c\n"
    -- two pages of one name with blank nodes share none, so no quad with one is written but once
    ∷ row (accepted_page (codes "h:a") (related (codes "h:a")) ∷ accepted_page (codes "h:a") (related (codes "h:a")) ∷ [])
    "<h:a> <http://v.example/p> _:b0 <h:a> .\n_:b0 <http://v.example/n> \"1\" <h:a> .\n<h:a> <http://v.example/p> _:b1 <h:a> .\n_:b1 <http://v.example/n> \"1\" <h:a> .\n"
    -- a page without triples has no line
    ∷ row (accepted_page (codes "h:a") [] ∷ accepted_page (codes "h:b") greeting ∷ []) "<http://h.example/s> <http://v.example/p> \"Hi\" <h:b> .\n"
    -- addresses that differ in the fragment alone: one graph; a comment has the address as it was given
    ∷ row (accepted_page (codes "h:a#x") greeting ∷ accepted_page (codes "h:a#y") greeting ∷ refused_page (codes "h:a#z") (record { kind = Unended; token = 0; at = 1 }) ∷ [])
    "<http://h.example/s> <http://v.example/p> \"Hi\" <h:a> .\n# refused: Unended at byte 1 in token 0 of h:a#z\n"
    -- the same triple in two graphs is two quads
    ∷ row (accepted_page (codes "h:a") greeting ∷ accepted_page (codes "h:b") greeting ∷ [])
    "<http://h.example/s> <http://v.example/p> \"Hi\" <h:a> .\n<http://h.example/s> <http://v.example/p> \"Hi\" <h:b> .\n"
    -- no page, no line
    ∷ row [] ""
    ∷ []

-- law: each has its document
abbrev pub RowsHold : Type 0
RowsHold = wrong rows ≡ []
