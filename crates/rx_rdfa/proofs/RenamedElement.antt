-- Renaming goes through the value of property, and the triples of one element.
use Rattle.rx_rdfa.proofs.Common.{option_or, Chars, Node, Iri, Term, spo, rename_node, rename_term, rename, rdf_type, ◌≡◌, cond, List, [], ◌∷◌, ◌++◌, map, flat_map, filter_map, Option, Some, None, option_map, option_to_list, is_none, refl, ap, ap₂, ◌∙◌, not, ◌&&◌, is_some, unwrap_or, Naming, Facts, Datatype, Empty, Is, Ref, Hanging, Forward, Standing, Resources, resource_attribute, has_link, only, resource_named, resources, listed, time_datatype, Rule, ByDatatype, ByContent, ByDatetime, ByTimeText, ByResource, ByTyped, rule_or, rule, literal_by, time_literal_by, is_time, value_now, value_of_text, value, to_node, of_vocabulary, types_by, links_by, properties_by, completed, text_value, rename_hanging, rename_standing, rename_resources, rename_rule, label_of, AgreeAt}
use Rattle.rx_rdfa.specs.Iris.{uses_vocabulary}
use Rattle.rx_rdfa.specs.Element.{start_of, end_of}
use Rattle.rx_rdfa.proofs.Sent.{map_only, map_unwrap, map_cond, map_unless, map_both, map_each, map_found}
use Rattle.rx_rdfa.proofs.RenamedResources.{Alike, alike_left, alike_right, alike_at, named, named_option, resources_rename}

-- ---- the value

module _ {B C : Type 0} (f : B → C) where
  rule_same : {A : Type 0} (o : Option A) (by : A → Rule B) (by' : A → Rule C) (w : Rule B) (w' : Rule C) → ((a : A) → rename_rule f (by a) ≡ by' a) → rename_rule f w ≡ w'
      → rename_rule f (rule_or o by w) ≡ rule_or o by' w'
  rule_same None by by' w w' e q = q
  rule_same (Some a) by by' w w' e q = e a

  rule_node : (o : Option (Node B)) (o' : Option (Node C)) (by : Node B → Rule B) (by' : Node C → Rule C) (w : Rule B) (w' : Rule C) → option_map (rename_node f) o ≡ o'
      → ((a : Node B) → rename_rule f (by a) ≡ by' (rename_node f a)) → rename_rule f w ≡ w' → rename_rule f (rule_or o by w) ≡ rule_or o' by' w'
  rule_node None o' by by' w w' p e q = q ∙ ap (λ z. rule_or z by' w') p
  rule_node (Some a) o' by by' w w' p e q = e a ∙ ap (λ z. rule_or z by' w') p

  literal_is : (d : Datatype) (lang : Option Chars) (s : Chars) → rename_term f (literal_by d lang s) ≡ literal_by d lang s
  literal_is Empty lang s = refl
  literal_is (Is datatype) lang s = refl

  literals_are : (d : Datatype) (lang : Option Chars) (o : Option Chars) → option_map (rename_term f) (option_map (literal_by d lang) o) ≡ option_map (literal_by d lang) o
  literals_are d lang None = refl
  literals_are d lang (Some s) = ap Some (literal_is d lang s)

  time_is : (o : Option Chars) (lang : Option Chars) (s : Chars) → rename_term f (time_literal_by o lang s) ≡ time_literal_by o lang s
  time_is None lang s = refl
  time_is (Some datatype) lang s = refl

  pub value_now_rename : (r : Rule B) (facts : Facts) → option_map (rename_term f) (value_now r facts) ≡ value_now (rename_rule f r) facts
  value_now_rename (ByDatatype d) facts = literals_are d facts.lang (option_or facts.content facts.datetime)
  value_now_rename (ByDatetime datetime) facts = ap Some (time_is (time_datatype datetime) facts.lang datetime)
  value_now_rename _ facts = refl

  pub value_of_text_rename : (r : Rule B) (facts : Facts) (s : Chars) → rename_term f (value_of_text r facts s) ≡ value_of_text (rename_rule f r) facts s
  value_of_text_rename (ByDatatype d) facts s = literal_is d facts.lang s
  value_of_text_rename ByTimeText facts s = time_is (time_datatype s) facts.lang s
  value_of_text_rename _ facts s = refl

  pub value_rename : (r : Rule B) (facts : Facts) (s : Chars) → rename_term f (value r facts s) ≡ value (rename_rule f r) facts s
  value_rename r facts s = map_unwrap (rename_term f) (value_now r facts) (value_of_text r facts s)
      ∙ ap₂ unwrap_or (value_now_rename r facts) (value_of_text_rename r facts s)

module _ {B O C P : Type 0} (f : B → C) (g : O → P) (n : Naming B O) (m : Naming C P) (base : Chars) (at : Standing B O) (k : AgreeAt f g n m at.facts at.path) where
  pub rule_rename : (here : Resources B) → rename_rule f (rule n base at.facts here) ≡ rule m base at.facts (rename_resources f here)
  rule_rename here =
      let facts = at.facts in
      rule_same f facts.datatype ByDatatype ByDatatype _ _ (λ a. refl)
      (rule_same f facts.content ByContent ByContent _ _ (λ a. refl)
      (rule_same f facts.datetime ByDatetime ByDatetime _ _ (λ a. refl)
      (map_cond (rename_rule f) (is_time facts.kind) ByTimeText _
      ∙ ap (cond (is_time facts.kind) ByTimeText)
      (rule_node f (only (not (has_link facts)) (resource_attribute n base facts)) _ ByResource ByResource _ _
      (map_only (rename_node f) (not (has_link facts)) (resource_attribute n base facts)
      ∙ ap (only (not (has_link facts))) (named_option f n m base (option_or facts.resource (option_or facts.href facts.src)) (alike_at f n m facts k.author).resource_labels).path)
      (λ a. refl)
      (rule_node f (only (is_some facts.types && is_none facts.about) here.typed) _ ByTyped ByTyped _ _
      (map_only (rename_node f) (is_some facts.types && is_none facts.about) here.typed) (λ a. refl) refl)))))

  -- ---- the triples

  vocabulary_is : map (rename f) (of_vocabulary n base at) ≡ of_vocabulary m base (rename_standing f g at)
  vocabulary_is = by at.facts.vocab
    where
      by : (o : Option Chars) → map (rename f) (option_to_list (option_map (λ v. to_node (Iri base) uses_vocabulary (Iri v)) o)) ≡ option_to_list (option_map (λ v. to_node (Iri base) uses_vocabulary (Iri v)) o)
      by None = refl
      by (Some v) = refl

  types_is : (typed : Option (Node B)) → map (rename f) (types_by n base at typed) ≡ types_by m base (rename_standing f g at) (option_map (rename_node f) typed)
  types_is None = refl
  types_is (Some typed) = each (listed at.facts.types) (alike_at f n m at.facts k.author).type_labels
    where
      each : (types : List Ref) → Alike f n m (flat_map label_of types)
          → map (rename f) (map (λ t. to_node typed rdf_type (resource_named n base t)) types) ≡ map (λ t. to_node (rename_node f typed) rdf_type (resource_named m base t)) types
      each [] a = refl
      each (t ∷ types) a = ap₂ ◌∷◌
          (ap (to_node (rename_node f typed) rdf_type) (named f n m base t (alike_left f n m (label_of t) (flat_map label_of types) a)))
          (each types (alike_right f n m (label_of t) (flat_map label_of types) a))

  module _ (here : Resources B) where
    links_is : (object : Option (Node B)) → map (rename f) (links_by n base at here object) ≡ links_by m base (rename_standing f g at) (rename_resources f here) (option_map (rename_node f) object)
    links_is None = refl
    links_is (Some object) = map_both (rename f) _ _ _ _
        (map_unless (rename f) at.facts.inlist _ _ (map_each (rename f) (λ p. to_node here.subject p object) _ (listed at.facts.rel) (λ p. refl)))
        (map_each (rename f) (λ p. to_node object p here.subject) _ (listed at.facts.rev) (λ p. refl))

    properties_is : (v : Option (Term B)) → map (rename f) (properties_by n base at here v) ≡ properties_by m base (rename_standing f g at) (rename_resources f here) (option_map (rename_term f) v)
    properties_is None = refl
    properties_is (Some v) = map_unless (rename f) at.facts.inlist _ _ (map_each (rename f) (λ p. spo here.subject p v) _ (listed at.facts.property) (λ p. refl))

    completed_is : (x : Hanging O) → option_map (rename f) (completed n base at here x) ≡ completed m base (rename_standing f g at) (rename_resources f here) (rename_hanging g x)
    completed_is (Forward p) = refl
    completed_is _ = refl

  pub start_rename : map (rename f) (start_of n base at) ≡ start_of m base (rename_standing f g at)
  unfolding start_of
  start_rename =
      let here : Resources B = resources n base at in
      let there : Standing C P = rename_standing f g at in
      map_both (rename f) (of_vocabulary n base at) _ _ _ vocabulary_is
      (map_unless (rename f) here.skipped _ _
      (map_both (rename f) (types_by n base at here.typed ++ links_by n base at here here.object ++ properties_by n base at here (value_now (rule n base at.facts here) at.facts)) _ _ _
      (map_both (rename f) (types_by n base at here.typed ++ links_by n base at here here.object) _ _ _
      (map_both (rename f) (types_by n base at here.typed) _ _ _ (types_is here.typed) (links_is here here.object))
      (properties_is here (value_now (rule n base at.facts here) at.facts)
      ∙ ap (properties_by m base there (rename_resources f here)) (value_now_rename f (rule n base at.facts here) at.facts ∙ ap (λ (z : Rule C). value_now z at.facts) (rule_rename here))))
      (map_found (rename f) (completed n base at here) _ (rename_hanging g) (completed_is here) at.around.hanging)))
      ∙ ap (λ (z : Resources C). of_vocabulary m base there ++ cond z.skipped [] (types_by m base there z.typed ++ links_by m base there z z.object ++ properties_by m base there z (value_now (rule m base at.facts z) at.facts) ++ filter_map (completed m base there z) there.around.hanging))
      (resources_rename f g n m base at k)

  text_value_is : (o : Option (Term B)) (v : Term B) → option_map (rename_term f) (text_value o v) ≡ text_value (option_map (rename_term f) o) (rename_term f v)
  text_value_is None v = refl
  text_value_is (Some w) v = refl

  pub end_rename : (s : Chars) → map (rename f) (end_of n base at s) ≡ end_of m base (rename_standing f g at) s
  unfolding end_of
  end_rename s =
      let here : Resources B = resources n base at in
      let there : Standing C P = rename_standing f g at in
      let by : Rule B = rule n base at.facts here in
      map_unless (rename f) here.skipped _ _
      (properties_is here (text_value (value_now by at.facts) (value_of_text by at.facts s))
      ∙ ap (properties_by m base there (rename_resources f here))
      (text_value_is (value_now by at.facts) (value_of_text by at.facts s)
      ∙ ap₂ text_value (value_now_rename f by at.facts) (value_of_text_rename f by at.facts s)
      ∙ ap (λ (z : Rule C). text_value (value_now z at.facts) (value_of_text z at.facts s)) (rule_rename here)))
      ∙ ap (λ (z : Resources C). cond z.skipped [] (properties_by m base there z (text_value (value_now (rule m base at.facts z) at.facts) (value_of_text (rule m base at.facts z) at.facts s))))
      (resources_rename f g n m base at k)
