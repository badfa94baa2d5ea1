-- Places that are put behind those of their keys, and the name of a node before them.
use Rattle.rx_jsonld.proofs.Common.{◌≡◌, ◌∙◌, ◌<◌, refl, sym, ap, ℕ, List, [], ◌∷◌, ◌++◌, Bool, false, true≢false, codes, slice_get, Option, Some, None, Ordering, Less, Equal, Greater, nat_eq, nat_cmp, encode_utf8_all, inl, inr, arith, Global, Vec, nat_tests, encode_ascii, slice_cmp, is_letter, IsIri, begins_with_scheme, Chars, split_at, front_grows, Data, array, object, item, Members, no_members, member, items_of, Among, Node, Triple, Among_of_filter, Shape, has_subject, about, IsWritable, member_name_by, member_name, value_by, value_said, value_at, values_at, grouped, with_found, id_text, string_of, type_of, said_by, with_said, with_all, node_value, items_and, with_last}
use Rattle.rx_terms.proofs.Common.{Bor, AllByRecursion, by_test, nat_list_cmp_total, insert_entry, is_at}
use Rattle.std.specs.List.Sorted.{IsStrictlySortedBy}
use Rattle.std.specs.Map.{keys_of, lookup, set_value}

abbrev Group : Type 0
Group = Bor (List ℕ) × Vec ℕ Global

abbrev text_cmp : Bor (List ℕ) → Bor (List ℕ) → Ordering
text_cmp a b = slice_cmp nat_cmp a.now b.now

abbrev at : List ℕ → Bor (List ℕ) → Bool
at name key = is_at (λ k. slice_cmp nat_cmp name k.now) key

not_later : (name : List ℕ) (first : Bor (List ℕ)) (es : List Group) → slice_cmp nat_cmp name first.now ≡ Less
    → AllByRecursion (λ y. text_cmp first y ≡ Less) (keys_of es) → lookup (at name) es ≡ None
not_later name first [] below later = refl
not_later name first (e ∷ es) below later =
    let apart = nat_list_cmp_total.trans name first.now e.0.now below later.0 in
    rw apart (not_later name first es below later.1)

module _ (list : List (Triple ℕ)) (shapes : ℕ → Shape) where
  items_more : (places : List ℕ) (place : ℕ) → items_of (values_at list shapes (places ++ place ∷ [])) ≡ items_and (items_of (values_at list shapes places)) (value_at list shapes place)
  items_more [] place = refl
  items_more (first ∷ places) place = ap (item (value_at list shapes first)) (items_more places place)

  -- the key has places, and one more is put behind them
  pub put_behind : (name : List ℕ) (place : ℕ) (es : List Group) (old new : Vec ℕ Global) → IsStrictlySortedBy text_cmp (keys_of es) → lookup (at name) es ≡ Some old
      → new.items ≡ old.items ++ place ∷ [] → grouped list shapes (set_value (at name) es new) ≡ with_last name (value_at list shapes place) (grouped list shapes es)
  unfolding IsStrictlySortedBy
  put_behind name place [] old new sorted found is = absurd (cc (found))
  put_behind name place (e ∷ es) old new sorted found is = go (slice_cmp nat_cmp name e.0.now) refl found (λ f. put_behind name place es old new sorted.1 f is)
    where
      go : (o : Ordering) → slice_cmp nat_cmp name e.0.now ≡ o → lookup (at name) (e ∷ es) ≡ Some old
          → (lookup (at name) es ≡ Some old → grouped list shapes (set_value (at name) es new) ≡ with_last name (value_at list shapes place) (grouped list shapes es))
          → grouped list shapes (set_value (at name) (e ∷ es) new) ≡ with_last name (value_at list shapes place) (grouped list shapes (e ∷ es))
      go Less o found ih = absurd (cc (sym (not_later name e.0 es o sorted.0) ∙ rw o at found))
      go Equal o found ih =
          let same : e.1 ≡ old = cc (rw o at found) in
          let more : new.items ≡ e.1.items ++ place ∷ [] = is ∙ ap (λ (v : Vec ℕ Global). v.items ++ place ∷ []) (sym same) in
          rw o (ap (λ (ps : List ℕ). member e.0.now (array (items_of (values_at list shapes ps))) (grouped list shapes es)) more
          ∙ ap (λ ds. member e.0.now (array ds) (grouped list shapes es)) (items_more e.1.items place))
      go Greater o found ih = rw o (ap (member e.0.now (array (items_of (values_at list shapes e.1.items)))) (ih (rw o at found)))

  -- it has none yet
  pub put_first : (place : ℕ) (es : List Group) (key : Bor (List ℕ)) (new : Vec ℕ Global) → lookup (at key.now) es ≡ None → new.items ≡ place ∷ []
      → grouped list shapes (insert_entry text_cmp es key new) ≡ with_last key.now (value_at list shapes place) (grouped list shapes es)
  put_first place [] key new absent is = ap (λ (ps : List ℕ). member key.now (array (items_of (values_at list shapes ps))) no_members) is
  put_first place (e ∷ es) key new absent is = go (slice_cmp nat_cmp key.now e.0.now) refl absent (λ a. put_first place es key new a is)
    where
      go : (o : Ordering) → slice_cmp nat_cmp key.now e.0.now ≡ o → lookup (at key.now) (e ∷ es) ≡ None
          → (lookup (at key.now) es ≡ None → grouped list shapes (insert_entry text_cmp es key new) ≡ with_last key.now (value_at list shapes place) (grouped list shapes es))
          → grouped list shapes (insert_entry text_cmp (e ∷ es) key new) ≡ with_last key.now (value_at list shapes place) (grouped list shapes (e ∷ es))
      go Less o absent ih = rw o (ap (λ (ps : List ℕ). member key.now (array (items_of (values_at list shapes ps))) (grouped list shapes (e ∷ es))) is)
      go Equal o absent ih = absurd (cc (rw o at absent))
      go Greater o absent ih = rw o (ap (member e.0.now (array (items_of (values_at list shapes e.1.items)))) (ih (rw o at absent)))

  said_under : (t : Triple ℕ) (o : Option (Node ℕ)) (ms : Members) → with_last (member_name_by t o) (value_by list shapes t o) ms ≡ said_by list shapes t o ms
  said_under t (Some node) ms = refl
  said_under t None ms = refl

  -- what a triple says is its value, behind those of its key
  pub found_under : (place : ℕ) (t : Triple ℕ) (key : List ℕ) (ms : Members) → slice_get list place ≡ Some t → key ≡ member_name t
      → with_last key (value_at list shapes place) ms ≡ with_found list shapes (slice_get list place) ms
  found_under place t key ms is named = rw is (ap (λ (name : List ℕ). with_last name (value_said list shapes t) ms) named ∙ said_under t (type_of t) ms)

-- ---- a node's name stands before what is said of it

pub not_letter : (c : ℕ) (o : Option (Chars × Chars)) → is_letter c ≡ false → begins_with_scheme (front_grows c o) ≡ false
not_letter c None h = refl
not_letter c (Some parts) h = rw h

above_at : (c : ℕ) → 64 < c → nat_cmp c 64 ≡ Greater
above_at c h = grind (arith, nat_tests, h)

above_id : (c : ℕ) (more : List ℕ) → 64 < c → slice_cmp nat_cmp (c ∷ more) (codes "@id") ≡ Greater
above_id c more h = rw (above_at c h) refl

iri_above : (p : Chars) → IsIri p → slice_cmp nat_cmp (encode_utf8_all p) (codes "@id") ≡ Greater
iri_above [] is = absurd (true≢false (sym is.scheme))
iri_above (c ∷ text) is = by_test (is_letter c) (λ e.
    let below : c < 128 = grind (arith, nat_tests, e) in
    let above : 64 < c = grind (arith, nat_tests, e) in
    ap (λ (bytes : List ℕ). slice_cmp nat_cmp (bytes ++ encode_utf8_all text) (codes "@id")) (encode_ascii c below) ∙ above_id c (encode_utf8_all text) above)
    (λ e. absurd (true≢false (sym is.scheme ∙ at_start e)))
  where
    at_start : is_letter c ≡ false → begins_with_scheme (split_at 58 (c ∷ text)) ≡ false
    at_start e = by_test (nat_eq c 58) (λ s. rw s refl) (λ s. rw s (not_letter c (split_at 58 text) e))

module _ (list : List (Triple ℕ)) (shapes : ℕ → Shape) (name : Data) where
  abbrev named : Members → Members
  named ms = member (codes "@id") name ms

  said_after : (t : Triple ℕ) (o : Option (Node ℕ)) (ms : Members) → IsIri t.predicate → said_by list shapes t o (named ms) ≡ named (said_by list shapes t o ms)
  said_after t (Some node) ms is = refl
  said_after t None ms is = rw (iri_above t.predicate is) refl

  all_after : (ts : List (Triple ℕ)) (ms : Members) → ((t : Triple ℕ) → Among ts t → IsIri t.predicate) → with_all list shapes ts (named ms) ≡ named (with_all list shapes ts ms)
  all_after [] ms iris = refl
  all_after (t ∷ ts) ms iris =
      ap (with_all list shapes ts) (said_after t (type_of t) ms (iris t (inl refl))) ∙ all_after ts (with_said list shapes t ms) (λ u m. iris u (inr m))

pub node_made : (list : List (Triple ℕ)) (shapes : ℕ → Shape) (s : Node ℕ) → IsWritable list
    → object (member (codes "@id") (string_of (id_text s)) (with_all list shapes (about list s) no_members)) ≡ node_value list shapes s
node_made list shapes s writable =
    ap object (sym (all_after list shapes (string_of (id_text s)) (about list s) no_members (λ t m. (writable.parts t (Among_of_filter (has_subject s) list t m).0).predicate.is_iri)))
