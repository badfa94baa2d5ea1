-- Tags of which RDFa reads no attribute but those that declare a prefix or a language.
use Rattle.std.specs.Prelude.{◌≡◌, None, codes}
use Rattle.rx_rdfa.specs.Tree.{ElementTag, attribute}

-- the tag has none of the other attributes of which the rules speak (RDFa Core 1.1, section 5; HTML+RDFa 1.1, section 3.1)
pub record IsSilent (tag : ElementTag) : Type 0 where
  pub about : attribute tag (codes "about") ≡ None
  pub resource : attribute tag (codes "resource") ≡ None
  pub href : attribute tag (codes "href") ≡ None
  pub src : attribute tag (codes "src") ≡ None
  pub rel : attribute tag (codes "rel") ≡ None
  pub rev : attribute tag (codes "rev") ≡ None
  pub property : attribute tag (codes "property") ≡ None
  pub types : attribute tag (codes "typeof") ≡ None
  pub content : attribute tag (codes "content") ≡ None
  pub datetime : attribute tag (codes "datetime") ≡ None
  pub datatype : attribute tag (codes "datatype") ≡ None
  pub inlist : attribute tag (codes "inlist") ≡ None
  pub vocab : attribute tag (codes "vocab") ≡ None
