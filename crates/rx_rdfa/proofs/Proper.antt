-- No literal that the rules make is typed xsd:string.
use Rattle.rx_rdfa.proofs.Common.{◌≡◌, ◌≢◌, ℕ, suc, Bool, true, false, cond, List, [], ◌∷◌, ◌++◌, map, filter, flat_map, filter_map, Option, Some, None, refl, sym, ◌∙◌, inl, inr, true≢false, bytes_eq, option_map, option_or, Chars, distinct, Plain, Typed, Node, Iri, Blank, Term, Resource, Literal, Triple, same_node, same_triple, spo, live, edges, says_pattern, treated, is_referenced, copied, leads, given, replaced, rename_term, rename, blanks, place_in, numbered, exact_texts, Among_of_filter, Among_of_distinct, rdf_type, rdf_first, rdf_rest, unwrap_or, not, ◌&&◌, codes, option_to_list, is_none, split, xsd_string, ◌andThen◌, follows, is_zone, after_char, after_year, after_month, after_date, after_clock, is_duration, Naming, same_bnode, model, Nodes, element_text, Facts, Datatype, Empty, Is, Ref, Hanging, Forward, Resources, Standing, resources, resource_named, listed, below, kind_by_lang, plain_literal, time_literal_by, time_literal, Rule, ByDatatype, ByContent, ByDatetime, ByTimeText, literal_by, rule, value_now, value_of_text, value, places, to_node, standing, of_vocabulary, types_by, links_by, properties_by, completed, text_value, ListEntry, awaited, entries_of, entries, of_owner, lists, items, cell_or_nil, chain, list_of, raw, made}
use Rattle.rx_rdfa.specs.Common.{xsd, uses_vocabulary}
use Rattle.rx_rdfa.specs.Times.{time_kind}
use Rattle.rx_rdfa.specs.Element.{start_of, end_of}
use Rattle.rx_rdfa.specs.Lists.{entries_at, cells}
use Rattle.rx_rdfa.specs.Proper.{LiteralsAreProper}
use Rattle.rx_rdfa.proofs.Made.{made_is_raw}
use Rattle.rx_rdfa.proofs.Every.{All, IfThere, all_none, all_more, all_both, all_unless, all_mapped, all_kept, all_flat, entries_all}
use Rattle.rx_model.specs.Terms.{IsProper}

-- ---- values

-- typed with another datatype
other_typed : (datatype string : Chars) → bytes_eq datatype string ≡ false → Typed datatype ≢ Typed string
other_typed datatype string e k = let same : datatype ≡ string = cc in true≢false (sym ((exact_texts datatype string).1 same) ∙ e)

-- plain, or typed with another datatype
typed_kind : (datatype string : Chars) → cond (bytes_eq datatype string) Plain (Typed datatype) ≢ Typed string
typed_kind datatype string = go (bytes_eq datatype string) refl where
  go : (b : Bool) → bytes_eq datatype string ≡ b → cond b Plain (Typed datatype) ≢ Typed string
  go true e k = cc
  go false e k = other_typed datatype string e k

-- plain or tagged
lang_kind : (lang : Option Chars) (string : Chars) → kind_by_lang lang ≢ Typed string
lang_kind None string k = cc
lang_kind (Some lang) string k = cc

-- the datatype of that name isn't xsd:string
abbrev IsOther : Chars → Type 0
IsOther name = bytes_eq (xsd ++ name) xsd_string ≡ false

-- the first whose test holds, else another
there_or : {A : Type 0} (P : A → Type 0) (b : Bool) (a : A) (o : Option A) → P a → IfThere P o → IfThere P (cond b (Some a) o)
there_or P b a o p q = split (IfThere P) b (Some a) o (λ _. p) (λ _. q)

-- no text's form is that of xsd:string
time_is_other : (text : Chars) → IfThere IsOther (time_kind text)
unfolding time_kind
time_is_other text =
    there_or IsOther (follows is_zone (after_year text)) (codes "gYear") _ refl
    (there_or IsOther (follows is_zone (after_month text)) (codes "gYearMonth") _ refl
    (there_or IsOther (follows is_zone (after_date text)) (codes "date") _ refl
    (there_or IsOther (follows is_zone (after_clock text)) (codes "time") _ refl
    (there_or IsOther (follows is_zone (after_date text andThen after_char 84 andThen after_clock)) (codes "dateTime") _ refl
    (there_or IsOther (is_duration text) (codes "duration") None refl tt)))))

-- the literals of a value: of a language or none, of a time, of a datatype
module _ (B : Type 0) where
  plain_proper : (lang : Option Chars) (lexical : Chars) → IsProper (plain_literal {B = B} lang lexical)
  plain_proper lang lexical = lang_kind lang xsd_string

  time_by_proper : (name : Option Chars) (lang : Option Chars) (lexical : Chars) → IfThere IsOther name → IsProper (time_literal_by {B = B} (option_map (λ n. xsd ++ n) name) lang lexical)
  time_by_proper None lang lexical h = plain_proper lang lexical
  time_by_proper (Some name) lang lexical h = other_typed (xsd ++ name) xsd_string h

  time_proper : (lang : Option Chars) (lexical : Chars) → IsProper (time_literal {B = B} lang lexical)
  time_proper lang lexical = time_by_proper (time_kind lexical) lang lexical (time_is_other lexical)

  by_proper : (d : Datatype) (lang : Option Chars) (lexical : Chars) → IsProper (literal_by {B = B} d lang lexical)
  by_proper (Is datatype) lang lexical = typed_kind datatype xsd_string
  by_proper Empty lang lexical = plain_proper lang lexical

  by_each_proper : (d : Datatype) (lang : Option Chars) (lexical : Option Chars) → IfThere (λ (term : Term B). IsProper term) (option_map (literal_by {B = B} d lang) lexical)
  by_each_proper d lang None = tt
  by_each_proper d lang (Some lexical) = by_proper d lang lexical

module _ {B : Type 0} where
  -- the term is proper, where its type is to be told
  abbrev IsTerm : Term B → Type 0
  IsTerm term = IsProper term

  -- the value at the element's start, with its text, and at its end
  now_proper : (by : Rule B) (facts : Facts) → IfThere IsTerm (value_now by facts)
  now_proper (ByDatatype d) facts = by_each_proper B d facts.lang (option_or facts.content facts.datetime)
  now_proper (ByContent content) facts = plain_proper B facts.lang content
  now_proper (ByDatetime datetime) facts = time_proper B facts.lang datetime
  now_proper _ facts = tt

  of_text_proper : (by : Rule B) (facts : Facts) (text : Chars) → IsTerm (value_of_text by facts text)
  of_text_proper (ByDatatype d) facts text = by_proper B d facts.lang text
  of_text_proper ByTimeText facts text = time_proper B facts.lang text
  of_text_proper _ facts text = plain_proper B facts.lang text

  or_proper : (o : Option (Term B)) (v : Term B) → IfThere IsTerm o → IsTerm v → IsTerm (unwrap_or o v)
  or_proper None v h k = k
  or_proper (Some w) v h k = h

  value_proper : (by : Rule B) (facts : Facts) (text : Chars) → IsTerm (value by facts text)
  value_proper by facts text = or_proper (value_now by facts) (value_of_text by facts text) (now_proper by facts) (of_text_proper by facts text)

  text_value_proper : (o : Option (Term B)) (v : Term B) → IsTerm v → IfThere IsTerm (text_value o v)
  text_value_proper None v h = h
  text_value_proper (Some w) v h = tt

  -- the triple's object is proper
  abbrev HasProper : Triple B → Type 0
  HasProper t = IsTerm t.object

  -- the cells of proper items
  chain_proper : (cell : ℕ → B) (i : ℕ) (vs : List (Term B)) → All IsTerm vs → All HasProper (chain cell i vs)
  chain_proper cell i [] h = all_none HasProper
  chain_proper cell i (v ∷ vs) h =
      let next : Triple B = to_node (Blank (cell i)) rdf_rest (cell_or_nil cell (suc i) vs) in
      all_more HasProper (spo (Blank (cell i)) rdf_first v) (next ∷ chain cell (suc i) vs) (h v (inl refl))
      (all_more HasProper next (chain cell (suc i) vs) tt (chain_proper cell (suc i) vs (λ w m. h w (inr m))))

  list_proper : (cell : ℕ → B) (subject : Node B) (p : Chars) (vs : List (Term B)) → All IsTerm vs → All HasProper (list_of cell subject p vs)
  list_proper cell subject p vs h = all_more HasProper (to_node subject p (cell_or_nil cell 0 vs)) (chain cell 0 vs) tt (chain_proper cell 0 vs h)

  module _ {O : Type 0} where
    -- the entry's item is proper, if it has one
    abbrev HasProperItem : ListEntry O (Term B) → Type 0
    HasProperItem e = IfThere IsTerm e.item

    -- an owner's items, and the triples of its lists
    items_proper : (p : Chars) (own : List (ListEntry O (Term B))) → All HasProperItem own → All IsTerm (items p own)
    items_proper p own h =
        let here : ListEntry O (Term B) → Bool = λ e. bytes_eq e.predicate p in
        all_kept IsTerm (λ (e : ListEntry O (Term B)). e.item) (filter here own) (λ e m. h e (Among_of_filter here own e m).0)

    cells_proper : (n : Naming B O) (all : List (ListEntry O (Term B))) (owner : O) (subject : Node B) → All HasProperItem all → All HasProper (cells n all owner subject)
    unfolding cells
    cells_proper n all owner subject h =
        let mine : ListEntry O (Term B) → Bool = λ e. n.same_owner e.owner owner in
        let own : List (ListEntry O (Term B)) = of_owner n.same_owner owner all in
        all_flat HasProper (λ (p : Chars). list_of (n.cell owner p) subject p (items p own)) (lists own)
        (λ p m. list_proper (n.cell owner p) subject p (items p own) (items_proper p own (λ e k. h e (Among_of_filter mine all e k).0)))

-- ---- one element

module _ {B O : Type 0} (n : Naming B O) (base : Chars) (at : Standing B O) where
  -- of the start's triples each kind, in the order of the steps
  vocabulary_proper : All (HasProper {B = B}) (of_vocabulary n base at)
  vocabulary_proper = go at.facts.vocab where
    go : (vocab : Option Chars) → All (HasProper {B = B}) (option_to_list (option_map (λ v. to_node (Iri base) uses_vocabulary (Iri v)) vocab))
    go None = all_none HasProper
    go (Some v) = all_more HasProper (to_node (Iri base) uses_vocabulary (Iri v)) [] tt (all_none HasProper)

  types_proper : (typed : Option (Node B)) → All HasProper (types_by n base at typed)
  types_proper None = all_none HasProper
  types_proper (Some typed) = all_mapped HasProper (λ (type : Ref). to_node typed rdf_type (resource_named n base type)) (listed at.facts.types) (λ type m. tt)

  module _ (here : Resources B) where
    links_proper : (o : Option (Node B)) → All HasProper (links_by n base at here o)
    links_proper None = all_none HasProper
    links_proper (Some object) =
        let to : Chars → Triple B = λ p. to_node here.subject p object in
        let back : Chars → Triple B = λ p. to_node object p here.subject in
        all_both HasProper (cond at.facts.inlist [] (map to (listed at.facts.rel))) (map back (listed at.facts.rev))
        (all_unless HasProper at.facts.inlist (map to (listed at.facts.rel)) (all_mapped HasProper to (listed at.facts.rel) (λ p m. tt)))
        (all_mapped HasProper back (listed at.facts.rev) (λ p m. tt))

    properties_proper : (o : Option (Term B)) → IfThere IsTerm o → All HasProper (properties_by n base at here o)
    properties_proper None h = all_none HasProper
    properties_proper (Some v) h =
        let to : Chars → Triple B = λ p. spo here.subject p v in
        all_unless HasProper at.facts.inlist (map to (listed at.facts.property)) (all_mapped HasProper to (listed at.facts.property) (λ p m. h))

    completed_proper : (h : Hanging O) → IfThere HasProper (completed n base at here h)
    completed_proper (Forward p) = tt
    completed_proper _ = tt

    awaited_proper : (v : Term B) (h : Hanging O) → IfThere HasProperItem (awaited n (λ w. w) v at here h)
    awaited_proper v (Forward p) = tt
    awaited_proper v _ = tt

  -- all that an element gives, at its start and its end, and its entries
  start_proper : All HasProper (start_of n base at)
  unfolding start_of
  start_proper =
      let here = resources n base at in
      let by = rule n base at.facts here in
      let types : List (Triple B) = types_by n base at here.typed in
      let links : List (Triple B) = links_by n base at here here.object in
      let properties : List (Triple B) = properties_by n base at here (value_now by at.facts) in
      let ends : List (Triple B) = filter_map (completed n base at here) at.around.hanging in
      all_both HasProper (of_vocabulary n base at) (cond here.skipped [] (types ++ links ++ properties ++ ends)) vocabulary_proper
      (all_unless HasProper here.skipped (types ++ links ++ properties ++ ends)
      (all_both HasProper (types ++ links ++ properties) ends
      (all_both HasProper (types ++ links) properties
      (all_both HasProper types links (types_proper here.typed) (links_proper here here.object))
      (properties_proper here (value_now by at.facts) (now_proper by at.facts)))
      (all_kept HasProper (completed n base at here) at.around.hanging (λ h m. completed_proper here h))))

  end_proper : (text : Chars) → All HasProper (end_of n base at text)
  unfolding end_of
  end_proper text =
      let here = resources n base at in
      let by = rule n base at.facts here in
      let v : Option (Term B) = text_value (value_now by at.facts) (value_of_text by at.facts text) in
      all_unless HasProper here.skipped (properties_by n base at here v)
      (properties_proper here v (text_value_proper (value_now by at.facts) (value_of_text by at.facts text) (of_text_proper by at.facts text)))

  entries_at_proper : (text : Chars) → All HasProperItem (entries_at n base at text)
  unfolding entries_at
  entries_at_proper text =
      let here = resources n base at in
      let v : Term B = value (rule n base at.facts here) at.facts text in
      entries_all HasProperItem n (λ w. w) v at here (λ object p. tt) (λ p. tt) (λ p. value_proper (rule n base at.facts here) at.facts text) (λ h m. awaited_proper here v h)

-- ---- a tree

module _ {B O : Type 0} (n : Naming B O) (base : Chars) (tree : Nodes Facts) where
  entries_proper : All HasProperItem (entries n base tree)
  entries_proper = all_flat HasProperItem (entries_of n base) (places tree) (λ place m. entries_at_proper n base (standing n base place) (element_text place.inside))

  -- the objects of the rules' set
  raw_proper : (t : Triple B) → raw n base tree t → HasProper t
  raw_proper t (inl (place, m, inl h)) = start_proper n base (standing n base place) t h
  raw_proper t (inl (place, m, inr (inl h))) = end_proper n base (standing n base place) (element_text place.inside) t h
  raw_proper t (inl (place, m, inr (inr (inl h)))) = cells_proper n (entries n base tree) (n.below place.path) (below n base (standing n base place)).object entries_proper t h
  raw_proper t (inl (place, m, inr (inr (inr h)))) = cells_proper n (entries n base tree) (n.of place.path) (resources n base (standing n base place)).subject entries_proper t h
  raw_proper t (inr h) = cells_proper n (entries n base tree) n.first (Iri base) entries_proper t h

-- ---- copied and numbered

module _ {B : Type 0} (same : B → B → Bool) (list : List (Triple B)) (all : All HasProper list) where
  -- what a pattern gives has an object of the list, and so has what is copied
  given_proper : (pairs : List (Node B × Node B)) (s t : Node B) (u : Triple B) → HasProper u → IfThere HasProper (given same list pairs s t u)
  given_proper pairs s t u h =
      there_or HasProper
      (leads (same_node same) pairs t u.subject && not (says_pattern same u.predicate u.object) && is_none (live same list u.predicate u.object))
      (spo s u.predicate u.object) None h tt

  replaced_proper : (pairs : List (Node B × Node B)) (u : Triple B) (o : Option (Node B)) → HasProper u → All HasProper (replaced same list pairs u o)
  replaced_proper pairs u None h = all_more HasProper u [] h (all_none HasProper)
  replaced_proper pairs u (Some t) h = all_kept HasProper (given same list pairs u.subject t) list (λ v m. given_proper pairs u.subject t v (all v m))

  copied_proper : All HasProper (copied same list)
  copied_proper t h =
      let pairs : List (Node B × Node B) = edges same list in
      all_flat HasProper (treated same list pairs) list
      (λ u m. all_unless HasProper (is_referenced same pairs u.subject) (replaced same list pairs u (live same list u.predicate u.object))
      (replaced_proper pairs u (live same list u.predicate u.object) (all u m)))
      t (Among_of_distinct (same_triple same) (flat_map (treated same list pairs) list) t h)

-- other names of blank nodes change no literal
term_renamed : {A B : Type 0} (to : A → B) (term : Term A) → IsProper term → IsProper (rename_term to term)
term_renamed to (Resource node) h = tt
term_renamed to (Literal text kind) h = h

numbered_proper : {B : Type 0} (same : B → B → Bool) (list : List (Triple B)) → All HasProper list → All HasProper (numbered same list)
numbered_proper same list h = let to = place_in same (distinct same (blanks list)) in
    all_mapped HasProper (rename to) list (λ t m. term_renamed to t.object (h t m))

pub literals_are_proper : LiteralsAreProper
literals_are_proper base tree =
    let list = made model base tree in
    numbered_proper same_bnode (copied same_bnode list) (copied_proper same_bnode list (λ t m. raw_proper model base tree t ((made_is_raw base tree t).0 m)))
