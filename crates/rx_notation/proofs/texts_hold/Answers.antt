use Rattle.rx_notation.proofs.Common.{◌≡◌, ℕ, ◌+◌, ◌<◌, true, List, [], ◌∷◌, ◌++◌, map, codes, refl, sym, subst, true≢false, arith, Chars, IsIri, decimal_digit, Triple, iri_text, Prefix, is_prefix_name, is_local_name, Full, Short, Named, Labelled, Type_of, Suffix, Bare, Language, Datatype, IriOrLabel, Single, Predicate, Done, TurtleDocument, are_flat, Terminal, At_prefix, Small_a, Full_stop, Semicolon_sign, Comma_sign, Left_bracket, Right_bracket, Brackets, Left_parenthesis, Right_parenthesis, Parentheses, TurtleToken, terminal, declared, iri_or_label, quoted, document_tokens, terminal_text, SpellsSuffix, SpellsToken, is_spacing, SpellsTokens, names_differ, SpellsTurtle, are_known, Turtle}
use Rattle.rx_nquads.specs.Spelling.{SpellsLabel, SpellsString, nothing, itself, escaped}
use Rattle.rx_nquads.proofs.Denoting.{label_spelled}
use Rattle.rx_notation.specs.Rows.{v, schema}
use Rattle.rx_notation.specs.Texts.{short, wide, collection, empty_collection, offer, nested, DenotesNone, undeclared, declared_twice}
use Rattle.rx_notation.proofs.Joining.{Puts, all_tokens, puts_token, puts_then, adds_gap}
use Rattle.rx_notation.proofs.OneDocument.{one_document}
use Rattle.rx_notation.proofs.OneText.{one_tokens, spells_one}
use Rattle.rx_notation.proofs.texts_hold.Goals as goal

-- ---- a token, a gap and more

say : (gap text : Chars) (t : TurtleToken) {a : Chars} {f : List TurtleToken → List TurtleToken} → is_spacing gap ≡ true → SpellsToken text t → Puts a f → Puts (text ++ (gap ++ a)) (λ ts. t ∷ f ts)
say gap text t g h rest = puts_then (puts_token text t h) (adds_gap gap g rest)

mark : (s : Terminal) {a : Chars} {f : List TurtleToken → List TurtleToken} → Puts a f → Puts (terminal_text s ++ (codes " " ++ a)) (λ ts. terminal s ∷ f ts)
mark s rest = say (codes " ") (terminal_text s) (terminal s) refl refl rest

stop : Puts (codes ".") (λ ts. terminal Full_stop ∷ ts)
stop = puts_token (codes ".") (terminal Full_stop) refl

-- a full stop, and a gap behind it
stop_then : (gap : Chars) {a : Chars} {f : List TurtleToken → List TurtleToken} → is_spacing gap ≡ true → Puts a f → Puts (codes "." ++ (gap ++ a)) (λ ts. terminal Full_stop ∷ f ts)
stop_then gap g rest = say gap (codes ".") (terminal Full_stop) g refl rest

full : (iri : Chars) {a : Chars} {f : List TurtleToken → List TurtleToken} → IsIri iri → Puts a f → Puts (iri_text iri ++ (codes " " ++ a)) (λ ts. iri_or_label (Named (Full iri)) ∷ f ts)
full iri h rest = say (codes " ") (iri_text iri) (iri_or_label (Named (Full iri))) refl (record { is_iri = h; spelled = refl }) rest

named : (name local : Chars) {a : Chars} {f : List TurtleToken → List TurtleToken} → is_prefix_name name ≡ true → is_local_name local ≡ true → Puts a f → Puts ((name ++ (codes ":" ++ local)) ++ (codes " " ++ a)) (λ ts. iri_or_label (short name local) ∷ f ts)
named name local h k rest = say (codes " ") (name ++ (codes ":" ++ local)) (iri_or_label (short name local)) refl (record { is_name = h; is_local = k; spelled = refl }) rest

prefix_name : (gap name : Chars) {a : Chars} {f : List TurtleToken → List TurtleToken} → is_spacing gap ≡ true → is_prefix_name name ≡ true → Puts a f → Puts ((name ++ codes ":") ++ (gap ++ a)) (λ ts. declared name ∷ f ts)
prefix_name gap name g h rest = say gap (name ++ codes ":") (declared name) g (record { is_name = h; spelled = refl }) rest

labels : (n : ℕ) → n < 10 → SpellsLabel (codes "_:b" ++ (48 + n) ∷ []) n
labels n h = subst (λ z. SpellsLabel (codes "_:b" ++ z) n) (decimal_digit n h) (label_spelled n (omega (arith, h)))

label : (n : ℕ) {a : Chars} {f : List TurtleToken → List TurtleToken} → n < 10 → Puts a f → Puts ((codes "_:b" ++ (48 + n) ∷ []) ++ (codes " " ++ a)) (λ ts. iri_or_label (Labelled n) ∷ f ts)
label n h rest = say (codes " ") (codes "_:b" ++ (48 + n) ∷ []) (iri_or_label (Labelled n)) refl (labels n h) rest

literal : (gap inside text behind : Chars) (suffix : Suffix) {a : Chars} {f : List TurtleToken → List TurtleToken} → is_spacing gap ≡ true → SpellsString inside text → SpellsSuffix behind suffix → Puts a f
    → Puts ((codes "\"" ++ (inside ++ (codes "\"" ++ behind))) ++ (gap ++ a)) (λ ts. quoted text suffix ∷ f ts)
literal gap inside text behind suffix g s h rest =
    say gap (codes "\"" ++ (inside ++ (codes "\"" ++ behind))) (quoted text suffix) g (record { inside = inside; behind = behind; string = s; suffix_spelled = h; spelled = refl }) rest

-- a literal with nothing behind its quotes
plain : (inside text : Chars) {a : Chars} {f : List TurtleToken → List TurtleToken} → SpellsString inside text → Puts a f
    → Puts ((codes "\"" ++ (inside ++ (codes "\"" ++ []))) ++ (codes " " ++ a)) (λ ts. quoted text Bare ∷ f ts)
plain inside text s rest = literal (codes " ") inside text [] Bare refl s refl rest

-- ---- texts that are read

wide_spelled : SpellsTokens wide.text (document_tokens wide.document)
wide_spelled = all_tokens wide.text (document_tokens wide.document) (
    (mark At_prefix (prefix_name (codes " ") (codes "p") refl refl (full (v []) (record { scheme = refl; clean = refl }) (stop_then (codes "\n") refl
    (mark At_prefix (prefix_name (codes "\n") (codes "q-1") refl refl (say (codes "  ") (iri_text (codes "http://q.example/")) (iri_or_label (Named (Full (codes "http://q.example/")))) refl (record { is_iri = record { scheme = refl; clean = refl }; spelled = refl })
    (stop_then (codes "\n \n") refl
    (named (codes "p") (codes "s") refl refl (mark Small_a (named (codes "p") (codes "T") refl refl (say (codes "  ") (codes ",") (terminal Comma_sign) refl refl (label 7 (omega arith)
    (mark Semicolon_sign (mark Semicolon_sign (named (codes "q-1") (codes "_x") refl refl
    (literal (codes " ") (codes "a\\\"b\\n") (codes "a\"b\n") (codes "^^p:d") (Datatype (Short (codes "p") (codes "d"))) refl
    (itself 97 refl (escaped 34 34 refl (itself 98 refl (escaped 110 10 refl nothing)))) (codes "p:d", record { is_name = refl; is_local = refl; spelled = refl }, refl)
    (mark Semicolon_sign (stop_then (codes "\n") refl
    (label 0 (omega arith) (full (v (codes "p")) (record { scheme = refl; clean = refl })
    (literal (codes "\n") (codes "x") (codes "x") (codes "@en-US") (Language (codes "en-US")) refl (itself 120 refl nothing) (refl, refl) stop)))))))))))))))))))))).puts (codes "\n") [] refl)

collection_spelled : SpellsTokens collection.text (document_tokens collection.document)
collection_spelled = all_tokens collection.text (document_tokens collection.document) (
    (full (codes "http://h.example/d#a") (record { scheme = refl; clean = refl }) (full (v (codes "q")) (record { scheme = refl; clean = refl }) (mark Left_parenthesis
    (plain (codes "abc") (codes "abc") (itself 97 refl (itself 98 refl (itself 99 refl nothing))) (plain (codes "c") (codes "c") (itself 99 refl nothing) (mark Right_parenthesis stop)))))).puts (codes "\n") [] refl)

empty_collection_spelled : SpellsTokens empty_collection.text (document_tokens empty_collection.document)
empty_collection_spelled = all_tokens empty_collection.text (document_tokens empty_collection.document) (
    (full (codes "http://h.example/d") (record { scheme = refl; clean = refl }) (full (v (codes "l")) (record { scheme = refl; clean = refl }) (mark Parentheses stop))).puts (codes "\n") [] refl)

offer_spelled : SpellsTokens offer.text (document_tokens offer.document)
offer_spelled = all_tokens offer.text (document_tokens offer.document) (
    (mark At_prefix (prefix_name (codes " ") (codes "schema") refl refl (full schema (record { scheme = refl; clean = refl }) (stop_then (codes "\n\n") refl
    (full (codes "http://shop.example/anvil") (record { scheme = refl; clean = refl }) (named (codes "schema") (codes "offers") refl refl (mark Left_bracket
    (mark Small_a (named (codes "schema") (codes "Offer") refl refl (mark Semicolon_sign (named (codes "schema") (codes "priceCurrency") refl refl
    (literal (codes " ") (codes "USD") (codes "USD") (codes "@en") (Language (codes "en")) refl (itself 85 refl (itself 83 refl (itself 68 refl nothing))) (refl, refl)
    (mark Right_bracket stop))))))))))))).puts (codes "\n") [] refl)

nested_spelled : SpellsTokens nested.text (document_tokens nested.document)
nested_spelled = all_tokens nested.text (document_tokens nested.document) (
    (label 0 (omega arith) (full (v (codes "p")) (record { scheme = refl; clean = refl }) (mark Brackets (mark Comma_sign (mark Left_bracket (full (v (codes "q")) (record { scheme = refl; clean = refl })
    (mark Left_parenthesis (mark Brackets (mark Left_parenthesis (label 0 (omega arith) (mark Right_parenthesis (mark Right_parenthesis (mark Right_bracket (mark Comma_sign (mark Brackets stop))))))))))))))).puts (codes "\n") [] refl)

-- ---- texts that denote nothing

undeclared_document : TurtleDocument
undeclared_document = record {
  prefixes = (codes "p", v []) ∷ [];
  statements = record { subject = short (codes "q") (codes "s"); predicates = Predicate Type_of (Single (IriOrLabel (short (codes "p") (codes "T")))) Done } ∷ [];
}

undeclared_spelled : SpellsTurtle undeclared undeclared_document
unfolding undeclared_document
undeclared_spelled = record {
  spelled = all_tokens undeclared (document_tokens undeclared_document) (
      (mark At_prefix (prefix_name (codes " ") (codes "p") refl refl (full (v []) (record { scheme = refl; clean = refl }) (stop_then (codes "\n") refl
      (named (codes "q") (codes "s") refl refl (mark Small_a (named (codes "p") (codes "T") refl refl stop))))))).puts (codes "\n") [] refl);
  once = refl;
}

undeclared_none : DenotesNone undeclared
unfolding undeclared_document
undeclared_none graph h =
    let same = spells_one undeclared h.document undeclared_document h.spells undeclared_spelled in
    true≢false (sym (subst (λ (d : TurtleDocument). are_known d.prefixes d.statements ≡ true) same h.known))

twice_document : TurtleDocument
twice_document = record {
  prefixes = (codes "p", v []) ∷ (codes "p", v []) ∷ [];
  statements = record { subject = short (codes "p") (codes "s"); predicates = Predicate Type_of (Single (IriOrLabel (short (codes "p") (codes "T")))) Done } ∷ [];
}

twice_spelled : SpellsTokens declared_twice (document_tokens twice_document)
unfolding twice_document
twice_spelled = all_tokens declared_twice (document_tokens twice_document) (
    (mark At_prefix (prefix_name (codes " ") (codes "p") refl refl (full (v []) (record { scheme = refl; clean = refl }) (stop_then (codes "\n") refl
    (mark At_prefix (prefix_name (codes " ") (codes "p") refl refl (full (v []) (record { scheme = refl; clean = refl }) (stop_then (codes "\n") refl
    (named (codes "p") (codes "s") refl refl (mark Small_a (named (codes "p") (codes "T") refl refl stop))))))))))).puts (codes "\n") [] refl)

twice_none : DenotesNone declared_twice
unfolding twice_document
twice_none graph h =
    let same = one_document h.document twice_document (one_tokens declared_twice (document_tokens h.document) (document_tokens twice_document) h.spells.spelled twice_spelled) in
    true≢false (sym (subst (λ (d : TurtleDocument). names_differ (map (λ (prefix : Prefix). prefix.0) d.prefixes) ≡ true) same h.spells.once))

nested_only : (graph : List (Triple ℕ)) → Turtle collection.text graph → ⊥
nested_only graph h =
    let same = spells_one collection.text h.document collection.document h.spells (record { spelled = collection_spelled; once = refl }) in
    true≢false (sym (subst (λ (d : TurtleDocument). are_flat d.statements ≡ true) same h.flat))

pub returns : goal.returns
returns c = record {
  wide_reads = record { spells = record { spelled = wide_spelled; once = refl }; known = refl; means = refl };
  collection_reads = record { spells = record { spelled = collection_spelled; once = refl }; known = refl; means = refl };
  empty_collection_reads = record { spells = record { spelled = empty_collection_spelled; once = refl }; known = refl; means = refl };
  offer_reads = record { spells = record { spelled = offer_spelled; once = refl }; known = refl; means = refl };
  nested_reads = record { spells = record { spelled = nested_spelled; once = refl }; known = refl; means = refl };
  undeclared_denotes_none = undeclared_none;
  declared_twice_denotes_none = twice_none;
  collection_is_nested = nested_only;
}
