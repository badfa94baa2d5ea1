-- The text of a document spells it.
use Rattle.rx_notation.proofs.Common.{◌≡◌, ℕ, ◌<◌, ◌^◌, true, List, [], ◌∷◌, ◌++◌, flat_map, codes, refl, sym, ap, inl, inr, subst, append_assoc, ◌∙◌, line_feed, quotation_mark, Chars, IsIri, Among, escaped_text, string_text, iri_text, Prefix, Prefixes, is_prefix_name, is_local_name, prefix_text, prefixes_text, Reference, Full, Short, Subject, Named, Labelled, Verb, By, Type_of, Suffix, Bare, Language, Datatype, Sort, Further, Part, IriOrLabel, Quoted, Anonymous, Nil, Bracketed, Collection, Single, Comma, Last, Item, Predicate, Done, Semicolon, Also, Statement, TurtleDocument, At_prefix, Full_stop, Semicolon_sign, Comma_sign, Left_bracket, Right_bracket, Brackets, Left_parenthesis, Right_parenthesis, Parentheses, TurtleToken, terminal, declared, iri_or_label, quoted, verb_token, part_tokens, statement_tokens, prefix_tokens, document_tokens, SpellsReference, SpellsSubject, SpellsSuffix, SpellsToken, is_spacing, SpellsBehind, SpellsTokens}
use Rattle.rx_terms.specs.Lang.{is_lang}
use Rattle.rx_nquads.proofs.Denoting.{label_spelled, string_spelled}
use Rattle.rx_notation.proofs.Joining.{Opens, Puts, all_tokens, behind_gap, behind_token, opens_token, puts_token, puts_then, adds_gap}
use Rattle.rx_notation.specs.Writing.{reference_text, subject_text, verb_text, suffix_text, Piece, words, piece_text, inside_gap, line_gap, pieces, all_pieces, document_text}

-- ---- prefixes

-- what is asked of a prefix that is declared
pub record GoodPrefix (p : Prefix) : Type 0 where
  pub is_name : is_prefix_name p.0 ≡ true
  pub is_iri : IsIri p.1

abbrev prefix_body : Prefix → Chars
prefix_body p = codes "@prefix" ++ (codes " " ++ ((p.0 ++ codes ":") ++ (codes " " ++ (iri_text p.1 ++ (codes " " ++ codes ".")))))

prefix_puts : (p : Prefix) → GoodPrefix p → Puts (prefix_body p) (λ ts. terminal At_prefix ∷ declared p.0 ∷ iri_or_label (Named (Full p.1)) ∷ terminal Full_stop ∷ ts)
prefix_puts p good =
    puts_then (puts_token (codes "@prefix") (terminal At_prefix) refl) (adds_gap (codes " ") refl
    (puts_then (puts_token (p.0 ++ codes ":") (declared p.0) (record { is_name = good.is_name; spelled = refl })) (adds_gap (codes " ") refl
    (puts_then (puts_token (iri_text p.1) (iri_or_label (Named (Full p.1))) (record { is_iri = good.is_iri; spelled = refl })) (adds_gap (codes " ") refl
    (puts_token (codes ".") (terminal Full_stop) refl))))))

prefix_moved : (name iri rest : Chars) → (codes "@prefix" ++ (codes " " ++ ((name ++ codes ":") ++ (codes " " ++ (iri ++ (codes " " ++ codes ".")))))) ++ (codes "\n" ++ rest)
    ≡ (codes "@prefix " ++ (name ++ (codes ": " ++ (iri ++ codes " .\n")))) ++ rest
prefix_moved name iri rest =
    ap (λ z. codes "@prefix " ++ z) (ap (λ z. z ++ (codes "\n" ++ rest)) (append_assoc name (codes ":") (codes " " ++ (iri ++ codes " .")))
    ∙ append_assoc name (codes ": " ++ (iri ++ codes " .")) (codes "\n" ++ rest)
    ∙ ap (λ z. name ++ (codes ": " ++ z)) (append_assoc iri (codes " .") (codes "\n" ++ rest) ∙ sym (append_assoc iri (codes " .\n") rest))
    ∙ sym (append_assoc name (codes ": " ++ (iri ++ codes " .\n")) rest))

module _ (text : Chars) (ts : List TurtleToken) (opens : Opens text ts) where
  abbrev lines : Prefixes → Chars
  lines ps = flat_map prefix_text ps ++ (codes "\n" ++ text)

  prefix_opens : (p : Prefix) (ps : Prefixes) → GoodPrefix p → SpellsBehind (line_feed ∷ lines ps) (prefix_tokens ps ts) → Opens (lines (p ∷ ps)) (prefix_tokens (p ∷ ps) ts)
  prefix_opens p ps good behind =
      subst (λ z. Opens z (prefix_tokens (p ∷ ps) ts)) (prefix_moved p.0 (iri_text p.1) (lines ps) ∙ sym (append_assoc (prefix_text p) (flat_map prefix_text ps) (codes "\n" ++ text)))
      ((prefix_puts p good).puts (line_feed ∷ lines ps) (prefix_tokens ps ts) behind)

  lines_behind : (ps : Prefixes) → ((p : Prefix) → Among ps p → GoodPrefix p) → SpellsBehind (line_feed ∷ lines ps) (prefix_tokens ps ts)
  lines_behind [] good = behind_gap (codes "\n\n") text ts refl opens
  lines_behind (p ∷ ps) good = behind_gap (codes "\n") (lines (p ∷ ps)) (prefix_tokens (p ∷ ps) ts) refl (prefix_opens p ps (good p (inl refl)) (lines_behind ps (λ q m. good q (inr m))))

  pub prefixes_spelled : (ps : Prefixes) → ((p : Prefix) → Among ps p → GoodPrefix p) → SpellsTokens (prefixes_text ps ++ text) (prefix_tokens ps ts)
  prefixes_spelled [] good = all_tokens text ts opens
  prefixes_spelled (p ∷ ps) good =
      subst (λ z. SpellsTokens z (prefix_tokens (p ∷ ps) ts)) (sym (append_assoc (flat_map prefix_text (p ∷ ps)) (codes "\n") text))
      (all_tokens (lines (p ∷ ps)) (prefix_tokens (p ∷ ps) ts) (prefix_opens p ps (good p (inl refl)) (lines_behind ps (λ q m. good q (inr m)))))

-- ---- texts of pieces

abbrev pub texts : List Piece → Chars
texts ps = flat_map piece_text ps

-- ---- what is asked of the parts, where a short form has a prefix of the context, and labels are free

module _ (context : Prefixes) (free : ℕ → Type 0) where
  abbrev pub GoodReference : Reference → Type 0
  GoodReference (Full iri) = IsIri iri
  GoodReference (Short name local) = (is_prefix_name name ≡ true) × (is_local_name local ≡ true) × ((iri : Chars) × Among context (name, iri))

  abbrev pub GoodSubject : Subject → Type 0
  GoodSubject (Named reference) = GoodReference reference
  GoodSubject (Labelled number) = (number < 2 ^ 64) × free number

  abbrev pub GoodVerb : Verb → Type 0
  GoodVerb (By reference) = GoodReference reference
  GoodVerb Type_of = Unit {0}

  abbrev pub GoodSuffix : Suffix → Type 0
  GoodSuffix Bare = Unit {0}
  GoodSuffix (Language tag) = is_lang tag ≡ true
  GoodSuffix (Datatype reference) = GoodReference reference

  abbrev pub Good : {sort : Sort} → Part sort → Type 0
  Good (IriOrLabel subject) = GoodSubject subject
  Good (Quoted text suffix) = GoodSuffix suffix
  Good (Bracketed predicates) = Good predicates
  Good (Collection items) = Good items
  Good (Single object) = Good object
  Good (Comma object objects) = Good object × Good objects
  Good (Last object) = Good object
  Good (Item object items) = Good object × Good items
  Good (Predicate verb objects further) = GoodVerb verb × (Good objects × Good further)
  Good (Semicolon further) = ⊥
  Good (Also predicates) = Good predicates
  Good _ = Unit {0}

  -- ---- terms

  reference_spelled : (r : Reference) → GoodReference r → SpellsReference (reference_text r) r
  reference_spelled (Full iri) h = record { is_iri = h; spelled = refl }
  reference_spelled (Short name local) h = record { is_name = h.0; is_local = h.1; spelled = refl }

  subject_spelled : (s : Subject) → GoodSubject s → SpellsSubject (subject_text s) s
  subject_spelled (Named r) h = reference_spelled r h
  subject_spelled (Labelled number) h = label_spelled number h.0

  verb_spelled : (v : Verb) → GoodVerb v → SpellsToken (verb_text v) (verb_token v)
  verb_spelled (By r) h = reference_spelled r h
  verb_spelled Type_of h = refl

  suffix_spelled : (s : Suffix) → GoodSuffix s → SpellsSuffix (suffix_text s) s
  suffix_spelled Bare h = refl
  suffix_spelled (Language tag) h = (h, refl)
  suffix_spelled (Datatype r) h = (reference_text r, reference_spelled r h, refl)

  -- ---- parts

  -- what follows a predicate begins with a gap, or is empty; all else begins with a token
  abbrev Joined : Sort → Chars → List TurtleToken → Type 0
  Joined Further text ts = SpellsBehind text ts
  Joined _ text ts = Opens text ts

  part_spelled : {sort : Sort} (gap : Chars) → is_spacing gap ≡ true → (p : Part sort) → Good p → (rest : List Piece) (ts : List TurtleToken) → SpellsBehind (texts rest) ts → Joined sort (texts (pieces gap p rest)) (part_tokens p ts)
  part_spelled gap g (IriOrLabel subject) h rest ts b = opens_token (subject_text subject) (iri_or_label subject) (subject_spelled subject h) _ _ b
  part_spelled gap g (Quoted text suffix) h rest ts b = opens_token (string_text text ++ suffix_text suffix) (quoted text suffix) (record {
    inside = escaped_text text;
    behind = suffix_text suffix;
    string = string_spelled text;
    suffix_spelled = suffix_spelled suffix h;
    spelled = ap (λ z. quotation_mark ∷ z) (append_assoc (escaped_text text) (quotation_mark ∷ []) (suffix_text suffix));
  }) _ _ b
  part_spelled gap g Anonymous h rest ts b = opens_token (codes "[]") (terminal Brackets) refl _ _ b
  part_spelled gap g Nil h rest ts b = opens_token (codes "()") (terminal Parentheses) refl _ _ b
  part_spelled gap g (Bracketed predicates) h rest ts b =
      opens_token (codes "[") (terminal Left_bracket) refl _ _ (behind_gap (codes " ") _ _ refl
      (part_spelled inside_gap refl predicates h (words (codes " ]") ∷ rest) (terminal Right_bracket ∷ ts) (behind_token (codes " ") (codes "]") (terminal Right_bracket) refl refl _ _ b)))
  part_spelled gap g (Collection items) h rest ts b =
      opens_token (codes "(") (terminal Left_parenthesis) refl _ _ (behind_gap (codes " ") _ _ refl
      (part_spelled gap g items h (words (codes " )") ∷ rest) (terminal Right_parenthesis ∷ ts) (behind_token (codes " ") (codes ")") (terminal Right_parenthesis) refl refl _ _ b)))
  part_spelled gap g (Single object) h rest ts b = part_spelled gap g object h rest ts b
  part_spelled gap g (Comma object objects) h rest ts b =
      part_spelled gap g object h.0 (words (codes " , ") ∷ pieces gap objects rest) (terminal Comma_sign ∷ part_tokens objects ts)
      (behind_token (codes " ") (codes ",") (terminal Comma_sign) refl refl _ _ (behind_gap (codes " ") _ _ refl (part_spelled gap g objects h.1 rest ts b)))
  part_spelled gap g (Last object) h rest ts b = part_spelled gap g object h rest ts b
  part_spelled gap g (Item object items) h rest ts b =
      part_spelled gap g object h.0 (words (codes " ") ∷ pieces gap items rest) (part_tokens items ts) (behind_gap (codes " ") _ _ refl (part_spelled gap g items h.1 rest ts b))
  part_spelled gap g (Predicate verb objects further) h rest ts b =
      opens_token (verb_text verb) (verb_token verb) (verb_spelled verb h.0) _ _ (behind_gap (codes " ") _ _ refl
      (part_spelled inside_gap refl objects h.1.0 (pieces gap further rest) (part_tokens further ts) (part_spelled gap g further h.1.1 rest ts b)))
  part_spelled gap g Done h rest ts b = b
  part_spelled gap g (Semicolon further) h rest ts b = absurd h
  part_spelled gap g (Also predicates) h rest ts b =
      behind_token (codes " ") (codes ";") (terminal Semicolon_sign) refl refl _ _ (behind_gap gap _ _ g (part_spelled gap g predicates h rest ts b))

  -- ---- statements

  abbrev pub GoodStatement : Statement → Type 0
  GoodStatement s = GoodSubject s.subject × Good s.predicates

  abbrev statements_text : List Statement → Chars
  statements_text statements = texts (all_pieces statements)

  statement_opens : (s : Statement) (more : List Statement) → GoodStatement s → SpellsBehind (line_feed ∷ statements_text more) (statement_tokens more) → Opens (statements_text (s ∷ more)) (statement_tokens (s ∷ more))
  statement_opens s more h behind =
      opens_token (subject_text s.subject) (iri_or_label s.subject) (subject_spelled s.subject h.0) _ _ (behind_gap (codes " ") _ _ refl
      (part_spelled line_gap refl s.predicates h.1 (words (codes " .\n") ∷ all_pieces more) (terminal Full_stop ∷ statement_tokens more)
      (behind_token (codes " ") (codes ".") (terminal Full_stop) refl refl _ _ behind)))

  statements_behind : (statements : List Statement) → ((s : Statement) → Among statements s → GoodStatement s) → SpellsBehind (line_feed ∷ statements_text statements) (statement_tokens statements)
  statements_behind [] good = refl
  statements_behind (s ∷ more) good =
      behind_gap (codes "\n") (statements_text (s ∷ more)) (statement_tokens (s ∷ more)) refl
      (statement_opens s more (good s (inl refl)) (statements_behind more (λ r m. good r (inr m))))

  -- where nothing is said no prefix is declared
  pub document_spelled : (d : TurtleDocument) → ((p : Prefix) → Among d.prefixes p → GoodPrefix p) → ((s : Statement) → Among d.statements s → GoodStatement s) → (d.statements ≡ [] → d.prefixes ≡ [])
      → SpellsTokens (document_text d) (document_tokens d)
  document_spelled d prefixes good none = by d.statements good none
    where
      by : (statements : List Statement) → ((s : Statement) → Among statements s → GoodStatement s) → (statements ≡ [] → d.prefixes ≡ [])
          → SpellsTokens (prefixes_text d.prefixes ++ statements_text statements) (prefix_tokens d.prefixes (statement_tokens statements))
      by [] g n = subst (λ (ps : Prefixes). SpellsTokens (prefixes_text ps ++ []) (prefix_tokens ps [])) (sym (n refl)) refl
      by (s ∷ more) g n =
          prefixes_spelled (statements_text (s ∷ more)) (statement_tokens (s ∷ more)) (statement_opens s more (g s (inl refl)) (statements_behind more (λ r m. g r (inr m)))) d.prefixes prefixes
