-- What is seen of facts tells which they are.
use Rattle.rx_rdfa.proofs.Common.{◌≡◌, List, [], ◌∷◌, Option, Some, None, option_map, ap, refl, Facts}
use Rattle.rx_curie.specs.declared.facts.ElementKind.{ElementKind as CodeKind}
use Rattle.rx_curie.specs.declared.facts.ElementKind.TheVariants as code_kind
use Rattle.rx_curie.specs.declared.refs.Ref.{Ref as CodeRef}
use Rattle.rx_curie.specs.declared.refs.Ref.TheVariants as code_ref
use Rattle.rx_curie.specs.declared.facts.Datatype.{Datatype as CodeDatatype}
use Rattle.rx_curie.specs.declared.facts.Datatype.TheVariants as code_datatype
use Rattle.rx_curie.specs.declared.facts.Facts.{Facts as CodeFacts}
use Rattle.rx_curie.specs.Seen.{element_seen, ref_seen, refs_seen, datatype_seen, facts_seen, FactsOneToOne}
use Rattle.rx_names.proofs.PutLemmas.{some-same}

kinds : (a b : CodeKind) → element_seen a ≡ element_seen b → a ≡ b
kinds code_kind.Head code_kind.Head e = refl
kinds code_kind.Body code_kind.Body e = refl
kinds code_kind.Time code_kind.Time e = refl
kinds code_kind.Other code_kind.Other e = refl
kinds _ _ e = absurd (cc e)

refs : (a b : CodeRef) → ref_seen a ≡ ref_seen b → a ≡ b
refs (code_ref.Iri a) (code_ref.Iri b) e = cc e
refs (code_ref.Label a) (code_ref.Label b) e = cc e
refs (code_ref.Relative a) (code_ref.Relative b) e = cc e
refs _ _ e = absurd (cc e)

datatypes : (a b : CodeDatatype) → datatype_seen a ≡ datatype_seen b → a ≡ b
datatypes code_datatype.Empty code_datatype.Empty e = refl
datatypes (code_datatype.Is a) (code_datatype.Is b) e = cc e
datatypes _ _ e = absurd (cc e)

lists : (a b : List CodeRef) → refs_seen a ≡ refs_seen b → a ≡ b
lists [] [] e = refl
lists (x ∷ a) (y ∷ b) e =
    let here : ref_seen x ≡ ref_seen y = cc e in
    let there : refs_seen a ≡ refs_seen b = cc e in
    joined (refs x y here) (lists a b there) where
      joined : {x y : CodeRef} {a b : List CodeRef} → x ≡ y → a ≡ b → x ∷ a ≡ y ∷ b
      joined p q = cc
lists _ _ e = absurd (cc e)

-- an option is told by what is seen of its value
seen-option : {A B : Type 0} (f : A → B) → ((a b : A) → f a ≡ f b → a ≡ b) → (a b : Option A) → option_map f a ≡ option_map f b → a ≡ b
seen-option f one None None e = refl
seen-option f one (Some a) (Some b) e = ap Some (one a b (some-same e))
seen-option f one _ _ e = absurd (cc e)

facts : (a b : CodeFacts) → facts_seen a ≡ facts_seen b → a ≡ b
facts a b e =
    let element = kinds a.element b.element (ap (λ (f : Facts). f.kind) e) in
    let about = seen-option ref_seen refs a.about b.about (ap (λ (f : Facts). f.about) e) in
    let resource = seen-option ref_seen refs a.resource b.resource (ap (λ (f : Facts). f.resource) e) in
    let href = seen-option ref_seen refs a.href b.href (ap (λ (f : Facts). f.href) e) in
    let src = seen-option ref_seen refs a.src b.src (ap (λ (f : Facts). f.src) e) in
    let types = seen-option refs_seen lists a.types b.types (ap (λ (f : Facts). f.types) e) in
    let datatype = seen-option datatype_seen datatypes a.datatype b.datatype (ap (λ (f : Facts). f.datatype) e) in
    λ i. record {
      element = element i;
      about = about i;
      resource = resource i;
      href = href i;
      src = src i;
      rel = (e i).rel;
      rev = (e i).rev;
      property = (e i).property;
      types = types i;
      content = (e i).content;
      datetime = (e i).datetime;
      datatype = datatype i;
      inlist = (e i).inlist;
      vocab = (e i).vocab;
      lang = (e i).lang;
    }

pub seen-one-to-one : FactsOneToOne
seen-one-to-one = record { kinds = kinds; refs = refs; datatypes = datatypes; facts = facts }
