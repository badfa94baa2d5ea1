-- What the text of a graph denotes.
use Rattle.rx_model.proofs.Common.{and_from, nat_tests, chars-encodes, take_all, map-append, line_feed, carriage_return, quotation_mark, reverse_solidus, space, full_stop, Chars, by_test, decimal, flat_map-append, decimal_is_IsNumeral, decimal_digit, first_decimal, Among, triple_seen, triples_seen, Kind, Plain, Tagged, Typed, Node, Iri, Blank, Term, Resource, Literal, Triple, Among_map, Among_of_map, Among_cases}
use Rattle.std.proofs.Common.{◌≡◌, ◌⊎◌, ℕ, ◌+◌, ◌<◌, ◌≤◌, ◌^◌, true, false, List, [], ◌∷◌, ◌++◌, map, length, take, slice_get, get_or, codes, Option, Some, None, refl, sym, ap, ap₂, ◌∙◌, inl, inr, subst, arith, append_assoc, append-nil, drop, ◌==◌, take-append-drop, is_some}
use Rattle.std.specs.Str.{chars, encode_utf8_all}
use Rattle.std.specs.Option.{option_map}
use Rattle.rx_terms.specs.declared.triples.Triple.{Triple as CodeTriple}
use Rattle.rx_graph.proofs.SetLemmas.{seen_more}
use Rattle.rx_nquads.specs.Quads.{proper_kind, proper_term, quad_of, quads}
use Rattle.rx_nquads.specs.Spelling.{SpellsIri, SpellsLabel, SpellsNode, has_leading_zero, escape, SpellsString, nothing, itself, escaped, SpellsKind, plain, tagged, typed, SpellsTerm}
use Rattle.rx_nquads.specs.Document.{SpellsGraph, States, Nquads, joined_lines}
use Rattle.rx_nquads.specs.Writing.{node_text, kind_text, term_text, graph_text, line_text, nquads}
use Rattle.rx_pieces.specs.Writing.{escaped_char, escaped_text, string_text, iri_text, blank_text}
use Rattle.rx_pieces.specs.Underway.{Delivery}
use Rattle.rx_pieces.specs.Writable.{Adds, WritableText, WritableIri, WritableNode, WritableKind, WritableTerm, WritableName, WritableTriple}
use Rattle.rx_pieces.proofs.Adding.{adds_then, adds_by, adds_failed}
use Rattle.rx_pieces.proofs.Scalars.{joined, literally, string_writable, iri_writable, blank_writable}
use Rattle.rx_nquads.proofs.Cuts.{lacks, differs, lacks_append, differs_where}
use Rattle.rx_nquads.proofs.OneMeaning.{line_feed_marks, iri_lacks, node_lacks, kind_lacks, states_one}

-- ---- terms are spelled

pub iri_spelled : (iri : Chars) → WritableIri iri → SpellsIri (iri_text iri) iri
iri_spelled iri w = record { is_iri = w.is_iri; spelled = refl }

above_zero : (digits : Chars) → 48 < get_or digits 0 0 → has_leading_zero digits ≡ false
above_zero [] h = refl
above_zero (c ∷ []) h = refl
above_zero (c ∷ d ∷ digits) h = grind (arith, nat_tests, h)

shortest : (number : ℕ) → number < 2 ^ 64 → has_leading_zero (decimal number) ≡ false
shortest number h = by_test (number == 0)
    (λ e. let none : number ≡ 0 = grind (arith, nat_tests, e) in ap (λ n. has_leading_zero (decimal n)) none ∙ ap has_leading_zero (decimal_digit 0 (omega arith)))
    (λ e. let some : 0 < number = grind (arith, nat_tests, e) in above_zero (decimal number) (first_decimal number some h))

pub label_spelled : (number : ℕ) → number < 2 ^ 64 → SpellsLabel (blank_text number) number
label_spelled number h = let d = decimal_is_IsNumeral number h in record { digits = decimal number; numeral = d.0; shortest = shortest number h; value = d.1; spelled = refl }

pub node_spelled : (node : Node ℕ) → WritableNode node → SpellsNode (node_text node) node
node_spelled (Iri iri) w = iri_spelled iri w
node_spelled (Blank number) w = label_spelled number w

char_spelled : (c : ℕ) (spelling text : Chars) → SpellsString spelling text → SpellsString (escaped_char c ++ spelling) (c ∷ text)
char_spelled c spelling text s =
    let is : (d : ℕ) → (c == d) ≡ true → c ≡ d = λ d e. grind (arith, nat_tests, e) in
    by_test (c == quotation_mark) (λ e. rw e (escaped quotation_mark c (ap Some (sym (is quotation_mark e))) s))
    (λ e. by_test (c == reverse_solidus) (λ f. rw (e, f) (escaped reverse_solidus c (ap Some (sym (is reverse_solidus f))) s))
    (λ f. by_test (c == line_feed) (λ g. rw (e, f, g) (escaped 110 c (ap Some (sym (is line_feed g))) s))
    (λ g. by_test (c == carriage_return) (λ h. rw (e, f, g, h) (escaped 114 c (ap Some (sym (is carriage_return h))) s))
    (λ h. rw (e, f, g, h) (itself c (rw (e, f, g, h) refl) s)))))

pub string_spelled : (text : Chars) → SpellsString (escaped_text text) text
string_spelled [] = nothing
string_spelled (c ∷ text) = char_spelled c (escaped_text text) text (string_spelled text)

kind_spelled : (kind : Kind) → WritableKind kind → SpellsKind (kind_text kind) (proper_kind kind)
kind_spelled Plain w = plain
kind_spelled (Tagged tag) w = tagged tag w.is_tag
kind_spelled (Typed datatype) w = typed (iri_text datatype) datatype (iri_spelled datatype w) refl

pub term_spelled : (term : Term ℕ) → WritableTerm term → SpellsTerm (term_text term) (proper_term term)
term_spelled (Resource node) w = node_spelled node w
term_spelled (Literal text kind) w = record {
  inside = escaped_text text;
  behind = kind_text kind;
  string = string_spelled text;
  kind_spelled = kind_spelled kind w.1;
  spelled = ap (λ z. quotation_mark ∷ z) (append_assoc (escaped_text text) (quotation_mark ∷ []) (kind_text kind));
}

graph_spelled : (name : Option Chars) → WritableName name → SpellsGraph (graph_text name ++ full_stop ∷ []) (option_map {U = Node ℕ} (λ iri. Iri iri) name)
graph_spelled None w = refl
graph_spelled (Some iri) w = (iri_text iri, iri_spelled iri w, append_assoc (iri_text iri) (space ∷ []) (full_stop ∷ []))

-- ---- a line states its quad

pub statement : Option Chars → Triple ℕ → Chars
statement name t = node_text t.subject ++ space ∷ (iri_text t.predicate ++ space ∷ (term_text t.object ++ space ∷ (graph_text name ++ full_stop ∷ [])))

pub line_ended : (name : Option Chars) (t : Triple ℕ) → line_text name t ≡ statement name t ++ line_feed ∷ []
unfolding statement
line_ended name t =
    let g : Chars = graph_text name ++ full_stop ∷ [] in
    let o : Chars = term_text t.object ++ space ∷ g in
    let p : Chars = iri_text t.predicate ++ space ∷ o in
    let end : Chars = line_feed ∷ [] in
    sym (append_assoc (node_text t.subject) (space ∷ p) end
    ∙ ap (λ z. node_text t.subject ++ space ∷ z) (append_assoc (iri_text t.predicate) (space ∷ o) end
    ∙ ap (λ z. iri_text t.predicate ++ space ∷ z) (append_assoc (term_text t.object) (space ∷ g) end
    ∙ ap (λ z. term_text t.object ++ space ∷ z) (append_assoc (graph_text name) (full_stop ∷ []) end))))

pub line_states : (name : Option Chars) (t : Triple ℕ) → WritableTriple name t → States (statement name t) (quad_of name t)
unfolding statement
line_states name t w = record {
  subject = node_text t.subject;
  predicate = iri_text t.predicate;
  object = term_text t.object;
  rest = graph_text name ++ full_stop ∷ [];
  subject_spelled = node_spelled t.subject w.subject;
  predicate_spelled = iri_spelled t.predicate w.predicate;
  object_spelled = term_spelled t.object w.object;
  graph_spelled = graph_spelled name w.graph;
  spelled = refl;
}

-- ---- no line feed inside

string_lacks : (spelling text : Chars) → SpellsString spelling text → lacks line_feed spelling ≡ true
string_lacks _ _ nothing = refl
string_lacks _ _ (itself c {spelling = s} {text = t} h r) = and_from _ _ (grind (arith, nat_tests, h)) (string_lacks s t r)
string_lacks _ _ (escaped mark c {spelling = s} {text = t} h r) =
    let solidus : differs line_feed reverse_solidus ≡ true = refl in
    and_from _ _ solidus (and_from _ _ (differs_where (λ d. is_some (escape d)) line_feed mark refl (ap is_some h)) (string_lacks s t r))

term_lacks : (term : Term ℕ) → WritableTerm term → lacks line_feed (term_text term) ≡ true
term_lacks (Resource node) w = node_lacks line_feed line_feed_marks (node_text node) node (node_spelled node w)
term_lacks (Literal text kind) w =
    lacks_append line_feed (string_text text) (kind_text kind)
    (lacks_append line_feed (escaped_text text) (quotation_mark ∷ []) (string_lacks (escaped_text text) text (string_spelled text)) refl)
    (kind_lacks line_feed line_feed_marks (kind_text kind) (proper_kind kind) (kind_spelled kind w.1))

graph_lacks : (name : Option Chars) → WritableName name → lacks line_feed (graph_text name ++ full_stop ∷ []) ≡ true
graph_lacks None w = refl
graph_lacks (Some iri) w = lacks_append line_feed (graph_text (Some iri)) (full_stop ∷ []) (lacks_append line_feed (iri_text iri) (space ∷ []) (iri_lacks line_feed line_feed_marks (iri_text iri) iri (iri_spelled iri w)) refl) refl

pub line_unbroken : (name : Option Chars) (t : Triple ℕ) → WritableTriple name t → lacks line_feed (statement name t) ≡ true
unfolding statement
line_unbroken name t w =
    lacks_append line_feed (node_text t.subject) _ (node_lacks line_feed line_feed_marks (node_text t.subject) t.subject (node_spelled t.subject w.subject))
    (lacks_append line_feed (iri_text t.predicate) _ (iri_lacks line_feed line_feed_marks (iri_text t.predicate) t.predicate (iri_spelled t.predicate w.predicate))
    (lacks_append line_feed (term_text t.object) _ (term_lacks t.object w.object) (graph_lacks name w.graph)))

-- ---- the whole text

lines_ended : (name : Option Chars) (list : List (Triple ℕ)) → nquads list name ≡ joined_lines (map (statement name) list)
lines_ended name [] = refl
lines_ended name (t ∷ list) = ap₂ ◌++◌ (line_ended name t) (lines_ended name list)

pub denotes : (name : Option Chars) (list : List (Triple ℕ)) → ((t : Triple ℕ) → Among list t → WritableTriple name t) → Nquads (nquads list name) (quads list name)
denotes name list w = record {
  lines = map (statement name) list;
  ended = lines_ended name list;
  unbroken = λ line m. let s = Among_of_map (statement name) list line m in subst (λ (z : Chars). lacks line_feed z ≡ true) s.2 (line_unbroken name s.0 (w s.0 s.1));
  each = λ line m. let s = Among_of_map (statement name) list line m in inr (quad_of name s.0, subst (λ (z : Chars). States z (quad_of name s.0)) s.2 (line_states name s.0 (w s.0 s.1)));
  stated = λ q. (
    λ m. let s = Among_of_map (quad_of name) list q m in (statement name s.0, Among_map (statement name) list s.0 s.1, subst (States (statement name s.0)) s.2 (line_states name s.0 (w s.0 s.1))),
    λ (line, m, says). let s = Among_of_map (statement name) list line m in
        subst (Among (quads list name)) (states_one line (quad_of name s.0) q (subst (λ (z : Chars). States z (quad_of name s.0)) s.2 (line_states name s.0 (w s.0 s.1))) says) (Among_map (quad_of name) list s.0 s.1),
  );
}

-- ---- all characters are Unicode scalar values

node_writable : (node : Node ℕ) → WritableNode node → WritableText (node_text node)
node_writable (Iri iri) w = iri_writable iri w
node_writable (Blank number) w = blank_writable number w

kind_writable : (kind : Kind) → WritableKind kind → WritableText (kind_text kind)
kind_writable Plain w = literally [] refl
kind_writable (Tagged tag) w = joined (literally (codes "@") refl) w.text
kind_writable (Typed datatype) w = joined (literally (codes "^^") refl) (iri_writable datatype w)

term_writable : (term : Term ℕ) → WritableTerm term → WritableText (term_text term)
term_writable (Resource node) w = node_writable node w
term_writable (Literal text kind) w = joined (joined (literally (codes "\"") refl) (joined (string_writable text w.0) (literally (codes "\"") refl))) (kind_writable kind w.1)

graph_writable : (name : Option Chars) → WritableName name → WritableText (graph_text name)
graph_writable None w = literally [] refl
graph_writable (Some iri) w = joined (iri_writable iri w) (literally (codes " ") refl)

pub line_writable : (name : Option Chars) (t : Triple ℕ) → WritableTriple name t → WritableText (line_text name t)
line_writable name t w =
    let gap : WritableText (codes " ") = literally (codes " ") refl in
    joined (node_writable t.subject w.subject) (joined gap (joined (iri_writable t.predicate w.predicate) (joined gap
    (joined (term_writable t.object w.object) (joined gap (joined (graph_writable name w.graph) (literally (codes ".\n") refl)))))))

text_writable : (name : Option Chars) (list : List (Triple ℕ)) → ((t : Triple ℕ) → Among list t → WritableTriple name t) → WritableText (nquads list name)
text_writable name [] w = literally [] refl
text_writable name (t ∷ list) w = joined (line_writable name t (w t (inl refl))) (text_writable name list (λ u m. w u (inr m)))

-- ---- the loop over the triples

-- the lines of the first triples are written, and these are writable
pub record Written (start out : Delivery) (name : Option Chars) (list : List CodeTriple) (i : ℕ) : Type 0 where
  pub adds : Adds start out (nquads (triples_seen (take i list)) name)
  pub writable : (t : Triple ℕ) → Among (triples_seen (take i list)) t → WritableTriple name t

nquads_more : (list : List (Triple ℕ)) (t : Triple ℕ) (name : Option Chars) → nquads (list ++ t ∷ []) name ≡ nquads list name ++ line_text name t
nquads_more list t name = flat_map-append (line_text name) list (t ∷ []) ∙ ap (λ z. nquads list name ++ z) (append-nil (line_text name t))

among_last : (list : List (Triple ℕ)) (t u : Triple ℕ) → Among (list ++ t ∷ []) u → Among list u ⊎ (t ≡ u)
among_last list t u m = elim (Among_cases list (t ∷ []) u m) [ inl h ↦ inl h | inr h ↦ elim h [ inl e ↦ inr e | inr n ↦ absurd n ] ]

pub written_more : {start out next : Delivery} {name : Option Chars} (list : List CodeTriple) (i : ℕ) (t : CodeTriple) → slice_get list i ≡ Some t
    → Written start out name list i → Adds out next (line_text name (triple_seen t)) → WritableTriple name (triple_seen t) → Written start next name list (i + 1)
written_more {name = name} list i t at w adds writable =
    let more = seen_more list i t at in
    record {
      adds = adds_by (sym (ap (λ z. nquads z name) more ∙ nquads_more (triples_seen (take i list)) (triple_seen t) name)) (adds_then w.adds adds);
      writable = λ u m. elim (among_last (triples_seen (take i list)) (triple_seen t) u (subst (λ (z : List (Triple ℕ)). Among z u) more m)) [ inl h ↦ w.writable u h | inr e ↦ subst (WritableTriple name) e writable ];
    }

nquads_cut : (list : List CodeTriple) (i : ℕ) (name : Option Chars) → nquads (triples_seen (take i list)) name ++ nquads (triples_seen (drop i list)) name ≡ nquads (triples_seen list) name
nquads_cut list i name =
    sym (flat_map-append (line_text name) (triples_seen (take i list)) (triples_seen (drop i list))) ∙ ap (λ z. nquads z name) (sym (map-append triple_seen (take i list) (drop i list)) ∙ ap triples_seen (take-append-drop i list))

module _ {start out : Delivery} (name : Option Chars) (list : List CodeTriple) (i : ℕ) (w : Written start out name list i) where
  -- the sink failed, and no more is written
  pub written_failed : out.underway.failed ≡ true → Adds start out (nquads (triples_seen list) name)
  written_failed failed = adds_by (nquads_cut list i name) (adds_failed _ failed w.adds)

  pub written_end : length list ≤ i → Adds start out (nquads (triples_seen list) name)
  written_end all = adds_by (ap (λ z. nquads (triples_seen z) name) (take_all i list all)) w.adds

  all_writable : length list ≤ i → (t : Triple ℕ) → Among (triples_seen list) t → WritableTriple name t
  all_writable all t m = w.writable t (subst (λ (z : List CodeTriple). Among (triples_seen z) t) (sym (take_all i list all)) m)

  pub denotes_end : length list ≤ i → Nquads (chars (encode_utf8_all (nquads (triples_seen list) name))) (quads (triples_seen list) name)
  denotes_end all =
      let whole : Chars = nquads (triples_seen list) name in
      subst (λ (z : Chars). Nquads z (quads (triples_seen list) name)) (sym (chars-encodes whole (text_writable name (triples_seen list) (all_writable all)).scalars)) (denotes name (triples_seen list) (all_writable all))
