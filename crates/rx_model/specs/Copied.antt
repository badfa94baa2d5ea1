-- Property copying: HTML+RDFa 1.1, 3.5, with rules of our own where it is silent.
use Rattle.std.specs.Prelude.{◌≡◌, ◌↔◌, Bool, true, false, not, ◌&&◌, ◌||◌, List, [], ◌∷◌, flat_map, filter_map, option_map, is_none, Option, Some, None, codes, bytes_eq, if◌then◌else◌}
use Rattle.rx_terms.specs.Text.{Chars}
use Rattle.rx_model.specs.Terms.{Node, Iri, Term, Resource, Literal, Triple, Graph, set_of, same_node, same_term, same_triple}
use Rattle.rx_model.specs.Sets.{distinct, contains, Among}
use Rattle.rx_model.specs.Vocabulary.{rdf_type}

abbrev pub rdfa_copy : Chars
rdfa_copy = codes "http://www.w3.org/ns/rdfa#copy"

abbrev pub rdfa_pattern : Chars
rdfa_pattern = codes "http://www.w3.org/ns/rdfa#Pattern"

abbrev pub spo : {B : Type 0} → Node B → Chars → Term B → Triple B
spo s p o = record { subject = s; predicate = p; object = o }

-- t is an rdfa:Pattern
abbrev pub type_pattern : {B : Type 0} → Node B → Triple B
type_pattern t = spo t rdf_type (Resource (Iri rdfa_pattern))

-- s copies t
abbrev pub copy : {B : Type 0} → Node B → Node B → Triple B
copy s t = spo s rdfa_copy (Resource t)

-- ---- as sets

-- p and o say that something is a pattern
abbrev pub SaysPattern : {B : Type 0} → Chars → Term B → Type 0
SaysPattern p o = (p ≡ rdf_type) × (o ≡ Resource (Iri rdfa_pattern))

-- the least set that has g and what is copied from patterns; that a pattern is one isn't copied (own rule)
pub data Closed {B : Type 0} (g : Graph B) : Triple B → Type 0 where
  held : {t : Triple B} → g t → Closed g t
  copied_from : {s t : Node B} {p : Chars} {o : Term B}
      → Closed g (copy s t) → Closed g (type_pattern t) → Closed g (spo t p o) → ¬ (SaysPattern p o) → Closed g (spo s p o)

-- t is a pattern that something copies
abbrev pub Referenced : {B : Type 0} → Graph B → Node B → Type 0
Referenced {B} g t = (s : Node B) × g (copy s t) × g (type_pattern t)

-- p and o say that a pattern is to be copied
abbrev pub SaysLive : {B : Type 0} → Graph B → Chars → Term B → Type 0
SaysLive {B} g p o = (t : Node B) × (p ≡ rdfa_copy) × (o ≡ Resource t) × g (type_pattern t)

-- the closed set without what stands of referenced patterns, and without live copy triples
abbrev pub patterned : {B : Type 0} → Graph B → Graph B
patterned g t = Closed g t × ¬ (Referenced (Closed g) t.subject) × ¬ (SaysLive (Closed g) t.predicate t.object)

-- ---- as a list

-- the pairs lead from a to b, by none of them or by one after another
pub data PairsLead {A : Type 0} (pairs : List (A × A)) (a : A) : A → Type 0 where
  here : PairsLead pairs a a
  onward : (b c : A) → PairsLead pairs a b → Among pairs (b, c) → PairsLead pairs a c

-- the same as a test; each pair is needed once at most
abbrev pub leads : {A : Type 0} → (A → A → Bool) → List (A × A) → A → A → Bool
leads same [] a b = same a b
leads same (e ∷ more) a b = leads same more a b || (leads same more a e.0 && leads same more e.1 b)

-- law: the test is that of the relation
abbrev pub LeadsAlong : {A : Type 0} → (A → A → Bool) → Type 0
LeadsAlong {A} same = (pairs : List (A × A)) (a b : A) → (leads same pairs a b ≡ true) ↔ PairsLead pairs a b

module _ {B : Type 0} (same : B → B → Bool) where
  abbrev pub is_pattern : List (Triple B) → Node B → Bool
  is_pattern list t = contains (same_triple same) list (type_pattern t)

  abbrev pub pattern_object : List (Triple B) → Term B → Option (Node B)
  pattern_object list (Resource t) = if is_pattern list t then Some t else None
  pattern_object list (Literal lexical kind) = None

  -- the pattern that a triple copies, where it is a live copy triple
  abbrev pub live : List (Triple B) → Chars → Term B → Option (Node B)
  live list p o = if bytes_eq p rdfa_copy then pattern_object list o else None

  abbrev pub edge : List (Triple B) → Triple B → Option (Node B × Node B)
  edge list t = option_map (λ (to : Node B). (t.subject, to)) (live list t.predicate t.object)

  -- the live copy triples, as pairs
  abbrev pub edges : List (Triple B) → List (Node B × Node B)
  edges list = filter_map (edge list) list

  abbrev pub says_pattern : Chars → Term B → Bool
  says_pattern p o = bytes_eq p rdf_type && same_term same o (Resource (Iri rdfa_pattern))

  abbrev pub is_referenced : List (Node B × Node B) → Node B → Bool
  is_referenced [] t = false
  is_referenced (e ∷ more) t = same_node same e.1 t || is_referenced more t

  -- what s gets from the pattern t by a triple of the list
  abbrev pub given : List (Triple B) → List (Node B × Node B) → Node B → Node B → Triple B → Option (Triple B)
  given list pairs s t u =
      if leads (same_node same) pairs t u.subject && not (says_pattern u.predicate u.object) && is_none (live list u.predicate u.object)
      then Some (spo s u.predicate u.object) else None

  -- what stands in place of a triple, which is a live copy triple or isn't
  abbrev pub replaced : List (Triple B) → List (Node B × Node B) → Triple B → Option (Node B) → List (Triple B)
  replaced list pairs u None = u ∷ []
  replaced list pairs u (Some t) = filter_map (given list pairs u.subject t) list

  abbrev pub treated : List (Triple B) → List (Node B × Node B) → Triple B → List (Triple B)
  treated list pairs u = if is_referenced pairs u.subject then [] else replaced list pairs u (live list u.predicate u.object)

  -- each triple in order: dropped, replaced or kept, and repeats dropped (the order is our own)
  abbrev pub copied : List (Triple B) → List (Triple B)
  copied list = distinct (same_triple same) (flat_map (treated list (edges list)) list)

-- law: the set of the copied list is what the set of the list comes to by patterns
abbrev pub CopiesPatterns : {B : Type 0} → (B → B → Bool) → Type 0
CopiesPatterns {B} same = (list : List (Triple B)) (t : Triple B) → Among (copied same list) t ↔ patterned (set_of list) t
