-- Worked examples of what texts denote.
use Rattle.std.specs.Prelude.{◌≡◌, ℕ, true, List, [], ◌∷◌, ◌++◌, codes}
use Rattle.rx_model.specs.Common.{Chars, Plain, Tagged, Typed, Node, Iri, Blank, Term, Resource, Literal, Triple, spo, rdf_type}
use Rattle.rx_notation.specs.Syntax.{Full, Short, Subject, Named, Labelled, By, Type_of, Bare, Language, Datatype, Part, Object, IriOrLabel, Quoted, Anonymous, Nil, Bracketed, Collection, Single, Comma, Last, Item, Predicate, Done, Semicolon, Also, TurtleDocument}
use Rattle.rx_notation.specs.Spelling.{SpellsTurtle}
use Rattle.rx_model.specs.Vocabulary.{rdf_first, rdf_rest, rdf_nil}
use Rattle.rx_notation.specs.Meaning.{are_known, all_triples, Turtle, TurtleBlank, Label, Place, NestedTurtle}
use Rattle.rx_notation.specs.Rows.{v, schema}

-- a text, its document, and the document's triples
pub record Reading : Type 0 where
  pub text : Chars
  pub document : TurtleDocument
  pub triples : List (Triple TurtleBlank)

pub record Reads (r : Reading) : Type 0 where
  pub spells : SpellsTurtle r.text r.document
  pub known : are_known r.document.prefixes r.document.statements ≡ true
  pub means : all_triples r.document.prefixes Label Place r.document.statements 0 ≡ r.triples

abbrev pub place : ℕ → Node TurtleBlank
place n = Blank (Place n)

abbrev pub labelled : ℕ → Node TurtleBlank
labelled n = Blank (Label n)

abbrev pub thing : Chars → Term TurtleBlank
thing iri = Resource (Iri iri)

abbrev pub plain : Chars → Term TurtleBlank
plain text = Literal text Plain

abbrev pub string : Chars → Part Object
string text = Quoted text Bare

abbrev pub short : Chars → Chars → Subject
short name local = Named (Short name local)

abbrev pub english : Chars → Part Object
english text = Quoted text (Language (codes "en"))

-- gaps of any length, semicolons with nothing behind them, short forms of subjects, predicates, objects and datatypes,
-- and escapes
abbrev pub wide : Reading
wide = record {
  text =
      codes "@prefix p: <http://v.example/> .\n@prefix q-1:\n<http://q.example/>  .\n \n"
      ++ codes "p:s a p:T ,  _:b7 ; ; q-1:_x \"a\\\"b\\n\"^^p:d ; .\n_:b0 <http://v.example/p> \"x\"@en-US\n.\n";
  document = record {
    prefixes = (codes "p", v []) ∷ (codes "q-1", codes "http://q.example/") ∷ [];
    statements =
        record {
          subject = short (codes "p") (codes "s");
          predicates =
              Predicate Type_of (Comma (IriOrLabel (short (codes "p") (codes "T"))) (Single (IriOrLabel (Labelled 7))))
              (Semicolon (Also (Predicate (By (Short (codes "q-1") (codes "_x"))) (Single (Quoted (codes "a\"b\n") (Datatype (Short (codes "p") (codes "d"))))) (Semicolon Done))));
        }
        ∷ record { subject = Labelled 0; predicates = Predicate (By (Full (v (codes "p")))) (Single (Quoted (codes "x") (Language (codes "en-US")))) Done }
        ∷ [];
  };
  triples =
      spo (Iri (v (codes "s"))) rdf_type (thing (v (codes "T")))
      ∷ spo (Iri (v (codes "s"))) rdf_type (Resource (labelled 7))
      ∷ spo (Iri (v (codes "s"))) (codes "http://q.example/_x") (Literal (codes "a\"b\n") (Typed (v (codes "d"))))
      ∷ spo (labelled 0) (v (codes "p")) (Literal (codes "x") (Tagged (codes "en-US")))
      ∷ [];
}

-- a collection is its cells
abbrev pub collection : Reading
collection = record {
  text = codes "<http://h.example/d#a> <http://v.example/q> ( \"abc\" \"c\" ) .\n";
  document = record {
    prefixes = [];
    statements =
        record {
          subject = Named (Full (codes "http://h.example/d#a"));
          predicates = Predicate (By (Full (v (codes "q")))) (Single (Collection (Item (string (codes "abc")) (Last (string (codes "c")))))) Done;
        }
        ∷ [];
  };
  triples =
      spo (Iri (codes "http://h.example/d#a")) (v (codes "q")) (Resource (place 0))
      ∷ spo (place 0) rdf_first (plain (codes "abc"))
      ∷ spo (place 0) rdf_rest (Resource (place 1))
      ∷ spo (place 1) rdf_first (plain (codes "c"))
      ∷ spo (place 1) rdf_rest (thing rdf_nil)
      ∷ [];
}

-- an empty one is rdf:nil
abbrev pub empty_collection : Reading
empty_collection = record {
  text = codes "<http://h.example/d> <http://v.example/l> () .\n";
  document = record {
    prefixes = [];
    statements = record { subject = Named (Full (codes "http://h.example/d")); predicates = Predicate (By (Full (v (codes "l")))) (Single Nil) Done } ∷ [];
  };
  triples = spo (Iri (codes "http://h.example/d")) (v (codes "l")) (thing rdf_nil) ∷ [];
}

-- brackets are a blank node, and what stands in them is said of it
abbrev pub offer : Reading
offer = record {
  text =
      codes "@prefix schema: <http://schema.org/> .\n\n"
      ++ codes "<http://shop.example/anvil> schema:offers [ a schema:Offer ; schema:priceCurrency \"USD\"@en ] .\n";
  document = record {
    prefixes = (codes "schema", schema) ∷ [];
    statements =
        record {
          subject = Named (Full (codes "http://shop.example/anvil"));
          predicates =
              Predicate (By (Short (codes "schema") (codes "offers")))
              (Single (Bracketed (Predicate Type_of (Single (IriOrLabel (short (codes "schema") (codes "Offer")))) (Also (Predicate (By (Short (codes "schema") (codes "priceCurrency"))) (Single (english (codes "USD"))) Done)))))
              Done;
        }
        ∷ [];
  };
  triples =
      spo (Iri (codes "http://shop.example/anvil")) (schema ++ codes "offers") (Resource (place 0))
      ∷ spo (place 0) rdf_type (thing (schema ++ codes "Offer"))
      ∷ spo (place 0) (schema ++ codes "priceCurrency") (Literal (codes "USD") (Tagged (codes "en")))
      ∷ [];
}

-- collections and brackets in one another: each has its place
abbrev pub nested : Reading
nested = record {
  text = codes "_:b0 <http://v.example/p> [] , [ <http://v.example/q> ( [] ( _:b0 ) ) ] , [] .\n";
  document = record {
    prefixes = [];
    statements =
        record {
          subject = Labelled 0;
          predicates =
              Predicate (By (Full (v (codes "p"))))
              (Comma Anonymous (Comma (Bracketed (Predicate (By (Full (v (codes "q")))) (Single (Collection (Item Anonymous (Last (Collection (Last (IriOrLabel (Labelled 0)))))))) Done)) (Single Anonymous)))
              Done;
        }
        ∷ [];
  };
  triples =
      spo (labelled 0) (v (codes "p")) (Resource (place 0))
      ∷ spo (labelled 0) (v (codes "p")) (Resource (place 1))
      ∷ spo (place 1) (v (codes "q")) (Resource (place 2))
      ∷ spo (place 2) rdf_first (Resource (place 3))
      ∷ spo (place 2) rdf_rest (Resource (place 4))
      ∷ spo (place 4) rdf_first (Resource (place 5))
      ∷ spo (place 5) rdf_first (Resource (labelled 0))
      ∷ spo (place 5) rdf_rest (thing rdf_nil)
      ∷ spo (place 4) rdf_rest (thing rdf_nil)
      ∷ spo (labelled 0) (v (codes "p")) (Resource (place 6))
      ∷ [];
}

-- ---- texts that denote nothing

abbrev pub DenotesNone : Chars → Type 0
DenotesNone text = (graph : List (Triple ℕ)) → NestedTurtle text graph → ⊥

-- the prefix isn't declared
abbrev pub undeclared : Chars
undeclared = codes "@prefix p: <http://v.example/> .\nq:s a p:T .\n"

-- the prefix is declared twice
abbrev pub declared_twice : Chars
declared_twice = codes "@prefix p: <http://v.example/> .\n@prefix p: <http://v.example/> .\np:s a p:T .\n"

-- law: the examples hold
pub record TextsHold : Type 0 where
  pub wide_reads : Reads wide
  pub collection_reads : Reads collection
  pub empty_collection_reads : Reads empty_collection
  pub offer_reads : Reads offer
  pub nested_reads : Reads nested
  pub undeclared_denotes_none : DenotesNone undeclared
  pub declared_twice_denotes_none : DenotesNone declared_twice
  -- a text with a collection is no text without brackets and parentheses
  pub collection_is_nested : (graph : List (Triple ℕ)) → Turtle collection.text graph → ⊥
