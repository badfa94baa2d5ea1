-- Worked rows of RDFa's rules: the tables, each about one topic.
use Rattle.std.specs.Prelude.{◌≡◌, [], codes}
use Rattle.rx_rows.specs.Pages.{here, wrong, triples_text}
use Rattle.rx_rows.specs.Subjects as subjects
use Rattle.rx_rows.specs.Links as links
use Rattle.rx_rows.specs.Words as words
use Rattle.rx_rows.specs.Attributes as attributes
use Rattle.rx_rows.specs.Values as values
use Rattle.rx_rows.specs.Inlist as inlist
use Rattle.rx_rows.specs.Patterns as patterns

pub record TriplesHold : Type 0 where
  pub subjects_hold : wrong (triples_text here) subjects.rows ≡ []
  pub elsewhere_hold : wrong (triples_text (codes "http://h.example/a/d#f")) subjects.elsewhere ≡ []
  pub links_hold : wrong (triples_text here) links.rows ≡ []
  pub product_holds : wrong (triples_text (codes "http://shop.example/anvil")) links.elsewhere ≡ []
  pub words_hold : wrong (triples_text here) words.rows ≡ []
  pub attributes_hold : wrong (triples_text here) attributes.rows ≡ []
  pub values_hold : wrong (triples_text here) values.rows ≡ []
  pub inlist_hold : wrong (triples_text here) inlist.rows ≡ []
  pub patterns_hold : wrong (triples_text here) patterns.rows ≡ []
