-- A list of tokens is that of at most one document.
use Rattle.rx_notation.proofs.Common.{◌≡◌, ◌∙◌, Bool, true, false, List, [], ◌∷◌, refl, sym, ap, ap₂, true≢false, Prefix, Prefixes, Verb, By, Type_of, Sort, Object, Objects, Items, Further, Part, IriOrLabel, Quoted, Anonymous, Nil, Bracketed, Collection, Single, Comma, Last, Item, Predicate, Done, Semicolon, Also, Statement, Terminal, At_prefix, Full_stop, Semicolon_sign, Comma_sign, Right_bracket, Right_parenthesis, TurtleToken, terminal, verb_token, part_tokens, statement_tokens, prefix_tokens, TokensOfOne}

-- ---- what may follow a part

ends_items : Terminal → Bool
ends_items Right_parenthesis = true
ends_items _ = false

ends_predicates : Terminal → Bool
ends_predicates Right_bracket = true
ends_predicates Full_stop = true
ends_predicates _ = false

ends_objects : Terminal → Bool
ends_objects Right_bracket = true
ends_objects Full_stop = true
ends_objects Semicolon_sign = true
ends_objects _ = false

begins : (Terminal → Bool) → List TurtleToken → Bool
begins test (terminal s ∷ rest) = test s
begins test _ = false

abbrev Ends : Sort → List TurtleToken → Type 0
Ends Object rest = Unit {0}
Ends Objects rest = begins ends_objects rest ≡ true
Ends Items rest = begins ends_items rest ≡ true
Ends _ rest = begins ends_predicates rest ≡ true

not_comma : (rest more : List TurtleToken) → begins ends_objects rest ≡ true → rest ≡ terminal Comma_sign ∷ more → ⊥
unfolding begins ends_objects
not_comma rest more h e = true≢false (sym h ∙ ap (begins ends_objects) e)

not_semicolon : (rest more : List TurtleToken) → begins ends_predicates rest ≡ true → rest ≡ terminal Semicolon_sign ∷ more → ⊥
unfolding begins ends_predicates
not_semicolon rest more h e = true≢false (sym h ∙ ap (begins ends_predicates) e)

not_verb : (verb : Verb) (rest more : List TurtleToken) → begins ends_predicates rest ≡ true → rest ≡ verb_token verb ∷ more → ⊥
unfolding begins ends_predicates
not_verb (By reference) rest more h e = true≢false (sym h ∙ ap (begins ends_predicates) e)
not_verb Type_of rest more h e = true≢false (sym h ∙ ap (begins ends_predicates) e)

-- an object begins with no closing parenthesis
object_opens : (object : Part Object) (rest : List TurtleToken) → begins ends_items (part_tokens object rest) ≡ false
unfolding begins ends_items
object_opens (IriOrLabel subject) rest = refl
object_opens _ rest = refl

items_open : (items : Part Items) (rest : List TurtleToken) → begins ends_items (part_tokens items rest) ≡ false
items_open (Last object) rest = object_opens object rest
items_open (Item object items) rest = object_opens object (part_tokens items rest)

not_items : (items : Part Items) (rest more : List TurtleToken) → begins ends_items rest ≡ true → rest ≡ part_tokens items more → ⊥
not_items items rest more h e = true≢false (sym h ∙ ap (begins ends_items) e ∙ items_open items more)

-- what follows the objects of a predicate ends them
further_ends : (further : Part Further) (rest : List TurtleToken) → begins ends_predicates rest ≡ true → begins ends_objects (part_tokens further rest) ≡ true
unfolding begins ends_predicates ends_objects
further_ends Done (terminal Right_bracket ∷ rest) h = refl
further_ends Done (terminal Full_stop ∷ rest) h = refl
further_ends Done _ h = absurd (true≢false (sym h))
further_ends (Semicolon further) rest h = refl
further_ends (Also predicates) rest h = refl

-- a semicolon alone, and one before a predicate
not_alone : (further : Part Further) (verb : Verb) (rest more : List TurtleToken) → begins ends_predicates rest ≡ true → part_tokens further rest ≡ verb_token verb ∷ more → ⊥
not_alone Done verb rest more h e = not_verb verb rest more h e
not_alone (Semicolon further) (By reference) rest more h e = cc
not_alone (Semicolon further) Type_of rest more h e = cc
not_alone (Also predicates) (By reference) rest more h e = cc
not_alone (Also predicates) Type_of rest more h e = cc

one_verb : (v w : Verb) (x y : List TurtleToken) → verb_token v ∷ x ≡ verb_token w ∷ y → (v ≡ w) × (x ≡ y)
one_verb (By r) (By q) x y e = (ap By (cc), cc)
one_verb Type_of Type_of x y e = (refl, cc)
one_verb _ _ x y e = absurd (cc)

closes_brackets : (rest : List TurtleToken) → begins ends_predicates (terminal Right_bracket ∷ rest) ≡ true
unfolding begins ends_predicates
closes_brackets rest = refl

closes_parentheses : (rest : List TurtleToken) → begins ends_items (terminal Right_parenthesis ∷ rest) ≡ true
unfolding begins ends_items
closes_parentheses rest = refl

-- ---- parts

one_part : {sort : Sort} (a b : Part sort) (x y : List TurtleToken) → Ends sort x → Ends sort y → part_tokens a x ≡ part_tokens b y → (a ≡ b) × (x ≡ y)
one_part (IriOrLabel s) (IriOrLabel r) x y h k e = (ap IriOrLabel (cc), cc)
one_part (Quoted text suffix) (Quoted text' suffix') x y h k e = (ap₂ Quoted (cc) (cc), cc)
one_part Anonymous Anonymous x y h k e = (refl, cc)
one_part Nil Nil x y h k e = (refl, cc)
one_part (Bracketed a) (Bracketed b) x y h k e =
    let parts = one_part a b (terminal Right_bracket ∷ x) (terminal Right_bracket ∷ y) (closes_brackets x) (closes_brackets y) (cc) in
    let rest = parts.1 in (ap Bracketed parts.0, cc)
one_part (Collection a) (Collection b) x y h k e =
    let parts = one_part a b (terminal Right_parenthesis ∷ x) (terminal Right_parenthesis ∷ y) (closes_parentheses x) (closes_parentheses y) (cc) in
    let rest = parts.1 in (ap Collection parts.0, cc)
one_part (Single a) (Single b) x y h k e = let parts = one_part a b x y tt tt e in (ap Single parts.0, parts.1)
one_part (Single a) (Comma b bs) x y h k e = absurd (not_comma x (part_tokens bs y) h (one_part a b x (terminal Comma_sign ∷ part_tokens bs y) tt tt e).1)
one_part (Comma a as_) (Single b) x y h k e = absurd (not_comma y (part_tokens as_ x) k (sym (one_part a b (terminal Comma_sign ∷ part_tokens as_ x) y tt tt e).1))
one_part (Comma a as_) (Comma b bs) x y h k e =
    let first = one_part a b (terminal Comma_sign ∷ part_tokens as_ x) (terminal Comma_sign ∷ part_tokens bs y) tt tt e in
    let behind = first.1 in
    let rest = one_part as_ bs x y h k (cc) in
    (ap₂ Comma first.0 rest.0, rest.1)
one_part (Last a) (Last b) x y h k e = let parts = one_part a b x y tt tt e in (ap Last parts.0, parts.1)
one_part (Last a) (Item b bs) x y h k e = absurd (not_items bs x y h (one_part a b x (part_tokens bs y) tt tt e).1)
one_part (Item a as_) (Last b) x y h k e = absurd (not_items as_ y x k (sym (one_part a b (part_tokens as_ x) y tt tt e).1))
one_part (Item a as_) (Item b bs) x y h k e =
    let first = one_part a b (part_tokens as_ x) (part_tokens bs y) tt tt e in
    let rest = one_part as_ bs x y h k first.1 in
    (ap₂ Item first.0 rest.0, rest.1)
one_part (Predicate v os m) (Predicate w ps n) x y h k e =
    let verbs = one_verb v w (part_tokens os (part_tokens m x)) (part_tokens ps (part_tokens n y)) e in
    let objects = one_part os ps (part_tokens m x) (part_tokens n y) (further_ends m x h) (further_ends n y k) verbs.1 in
    let further = one_part m n x y h k objects.1 in
    (λ i. Predicate (verbs.0 i) (objects.0 i) (further.0 i), further.1)
one_part Done Done x y h k e = (refl, e)
one_part Done (Semicolon n) x y h k e = absurd (not_semicolon x (part_tokens n y) h e)
one_part Done (Also q) x y h k e = absurd (not_semicolon x (part_tokens q y) h e)
one_part (Semicolon m) Done x y h k e = absurd (not_semicolon y (part_tokens m x) k (sym e))
one_part (Also p) Done x y h k e = absurd (not_semicolon y (part_tokens p x) k (sym e))
one_part (Semicolon m) (Semicolon n) x y h k e = let parts = one_part m n x y h k (cc) in (ap Semicolon parts.0, parts.1)
one_part (Also p) (Also q) x y h k e = let parts = one_part p q x y h k (cc) in (ap Also parts.0, parts.1)
one_part (Semicolon m) (Also (Predicate w ps n)) x y h k e = absurd (not_alone m w x (part_tokens ps (part_tokens n y)) h (cc))
one_part (Also (Predicate v os m)) (Semicolon n) x y h k e = absurd (not_alone n v y (part_tokens os (part_tokens m x)) k (cc))
one_part _ _ x y h k e = absurd (cc)

-- ---- documents

ends_statement : (rest : List TurtleToken) → begins ends_predicates (terminal Full_stop ∷ rest) ≡ true
unfolding begins ends_predicates
ends_statement rest = refl

statement_path : (s t : Statement) → s.subject ≡ t.subject → s.predicates ≡ t.predicates → s ≡ t
statement_path s t p q = λ i. record { subject = p i; predicates = q i }

one_statements : (ss ts : List Statement) → statement_tokens ss ≡ statement_tokens ts → ss ≡ ts
one_statements [] [] e = refl
one_statements [] (t ∷ ts) e = absurd (cc)
one_statements (s ∷ ss) [] e = absurd (cc)
one_statements (s ∷ ss) (t ∷ ts) e =
    let subject : s.subject ≡ t.subject = cc in
    let parts = one_part s.predicates t.predicates (terminal Full_stop ∷ statement_tokens ss) (terminal Full_stop ∷ statement_tokens ts) (ends_statement (statement_tokens ss)) (ends_statement (statement_tokens ts)) (cc) in
    let behind = parts.1 in
    ap₂ ◌∷◌ (statement_path s t subject parts.0) (one_statements ss ts (cc))

no_prefix : (ss : List Statement) (rest : List TurtleToken) → statement_tokens ss ≡ terminal At_prefix ∷ rest → ⊥
no_prefix [] rest e = cc
no_prefix (s ∷ ss) rest e = cc

prefix_path : (p q : Prefix) → p.0 ≡ q.0 → p.1 ≡ q.1 → p ≡ q
prefix_path p q e f = λ i. (e i, f i)

one_prefixes : (ps qs : Prefixes) (ss ts : List Statement) → prefix_tokens ps (statement_tokens ss) ≡ prefix_tokens qs (statement_tokens ts) → (ps ≡ qs) × (ss ≡ ts)
one_prefixes [] [] ss ts e = (refl, one_statements ss ts e)
one_prefixes [] (q ∷ qs) ss ts e = absurd (no_prefix ss _ e)
one_prefixes (p ∷ ps) [] ss ts e = absurd (no_prefix ts _ (sym e))
one_prefixes (p ∷ ps) (q ∷ qs) ss ts e =
    let name : p.0 ≡ q.0 = cc in
    let iri : p.1 ≡ q.1 = cc in
    let rest = one_prefixes ps qs ss ts (cc) in
    (ap₂ ◌∷◌ (prefix_path p q name iri) rest.0, rest.1)

pub one_document : TokensOfOne
one_document a b e =
    let parts = one_prefixes a.prefixes b.prefixes a.statements b.statements e in
    λ i. record { prefixes = parts.0 i; statements = parts.1 i }
