-- The text of a plan is that of the layout, and what it denotes.
use Rattle.rx_turtle.proofs.Common.{◌≡◌, ◌∙◌, ℕ, Bool, true, List, [], ◌∷◌, ◌++◌, map, filter, flat_map, refl, sym, ap, ap₂, subst, codes, chars-encodes, Chars, Node, Iri, Triple, Prefixes, names_rise, resource_text, short_predicate, object_text, separated, predicate_text, statement_text, prefixes_text, turtle, has_predicate, subjects, about, predicates_of, IsWritable, proper_triple, rising, Keyed, has_key, keys_by, grouped, Said, said_by, plan, group_text, said_text, plan_text, AreRows, used_marks, chosen, append_assoc, chars, local_name, short_iri, Delivery, AddsBytes, Adds, bytes_by, adds_then, adds_by, literal, IsPrefixedName}
use Rattle.rx_notation.proofs.Common.{IsContext, Turtle}
use Rattle.std.specs.Str.{encode_utf8_all}
use Rattle.rx_notation.proofs.LayoutMeaning.{layout_denotes}
use Rattle.rx_turtle.proofs.GroupLemmas.{map_twice, keys_are}
use Rattle.rx_turtle.proofs.ScalarLemmas.{turtle_writable}
use Rattle.rx_turtle.proofs.UseLemmas.{map_same, chosen_used}
use Rattle.rx_pieces.specs.Writing.{string_text, escaped_text}
use Rattle.rx_turtle.specs.declared.keys.By.TheVariants as by

texts_like : {A : Type 0} (f g : A → Chars) (list : List A) → ((a : A) → f a ≡ g a) → flat_map f list ≡ flat_map g list
texts_like f g [] h = refl
texts_like f g (x ∷ list) h = ap₂ ◌++◌ (h x) (texts_like f g list h)

texts_twice : {A B : Type 0} (f : B → Chars) (g : A → B) (list : List A) → flat_map f (map g list) ≡ flat_map (λ a. f (g a)) list
texts_twice f g [] = refl
texts_twice f g (x ∷ list) = ap (λ z. f (g x) ++ z) (texts_twice f g list)

module _ (context : Prefixes) (list : List (Triple ℕ)) where
  one_group : (s : Node ℕ) (p : Chars) → group_text context (Iri p, filter (has_key by.Predicate (Iri p)) (about list s)) ≡ predicate_text context list s p
  one_group s p = ap (λ z. short_predicate context p ++ (codes " " ++ separated (codes " , ") z)) (sym (map_twice (object_text context) (λ (t : Triple ℕ). t.object) (filter (has_predicate p) (about list s))))

  groups_are : (s : Node ℕ) → map (group_text context) (grouped by.Predicate (about list s)) ≡ map (predicate_text context list s) (predicates_of list s)
  groups_are s =
      map_twice (group_text context) (λ key. (key, filter (has_key by.Predicate key) (about list s))) (keys_by by.Predicate (about list s))
      ∙ ap (map (λ (key : Node ℕ). group_text context (key, filter (has_key by.Predicate key) (about list s)))) (keys_are list s)
      ∙ map_twice (λ (key : Node ℕ). group_text context (key, filter (has_key by.Predicate key) (about list s))) (λ p. Iri p) (predicates_of list s)
      ∙ map_same (λ (p : Chars). group_text context (Iri p, filter (has_key by.Predicate (Iri p)) (about list s))) (predicate_text context list s) (predicates_of list s) (λ p m. one_group s p)

  statement_is : (s : Node ℕ) → said_text context (said_by (s, filter (has_key by.Subject s) list)) ≡ statement_text context list s
  statement_is s = ap (λ z. resource_text context s ++ (codes " " ++ (separated (codes " ;\n    ") z ++ codes " .\n"))) (groups_are s)

  pub plan_is : plan_text context (plan list) ≡ flat_map (statement_text context list) (subjects list)
  plan_is =
      texts_twice (said_text context) said_by (grouped by.Subject list)
      ∙ texts_twice (λ (group : Keyed). said_text context (said_by group)) (λ key. (key, filter (has_key by.Subject key) list)) (keys_by by.Subject list)
      ∙ texts_like (λ (s : Node ℕ). said_text context (said_by (s, filter (has_key by.Subject s) list))) (statement_text context list) (subjects list) statement_is

pub text_is : (context : Prefixes) (list : List (Triple ℕ)) (marks : List Bool) (all : List Said) → names_rise context ≡ true → marks ≡ used_marks context list → all ≡ plan list
    → prefixes_text (chosen marks context) ++ plan_text context all ≡ turtle context list
text_is context list marks all rise marked planned =
    ap₂ (λ m a. prefixes_text (chosen m context) ++ plan_text context a) marked planned ∙ ap₂ ◌++◌ (ap prefixes_text (chosen_used context rise list)) (plan_is context list)

pub text_denotes : (context : Prefixes) (list : List (Triple ℕ)) → names_rise context ≡ true → AreRows context → IsWritable list → Turtle (chars (encode_utf8_all (turtle context list))) (map proper_triple list)
text_denotes context list rise rows w =
    let fit : IsContext context = record { iris = λ p m. (rows.each p m).iri.is_iri; once = rising.once context rise } in
    subst (λ (z : Chars). Turtle z (map proper_triple list)) (sym (chars-encodes (turtle context list) (turtle_writable context rows list w).scalars)) (layout_denotes.denotes context list fit w)

-- terms added to a text
pub short_added : {a b c d : Delivery} (context : Prefixes) (iri name : Chars) (local : List ℕ) → IsPrefixedName context iri name local → Adds a b name → Adds b c (chars (codes ":")) → AddsBytes c d local → Adds a d (short_iri context iri)
short_added {a} {b} {c} {d} context iri name local s first colon last =
    let behind : Adds c d (local_name s.prefix iri) = record { bytes = bytes_by s.rest last } in
    rw s.found (adds_then (adds_by s.named first) (adds_then (literal (codes ":") refl colon) behind))

pub string_ended : (text suffix : Chars) → (codes "\"" ++ escaped_text text) ++ (codes "\"" ++ suffix) ≡ string_text text ++ suffix
string_ended text suffix = ap (λ z. codes "\"" ++ z) (sym (append_assoc (escaped_text text) (codes "\"") suffix))
