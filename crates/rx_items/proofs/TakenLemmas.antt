-- What is kept of a tag says what the rules read of it.
use Rattle.rx_items.proofs.Common.{not, ◌&&◌, ◌||◌, is_some, unwrap_or, ◌≡◌, Bool, true, false, cond, List, [], ◌∷◌, ◌++◌, Option, Some, None, option_map, codes, refl, sym, ap, subst, ◌∙◌, Chars, tokens, Attribute, value_of, StartTag, Tree, is_any, matters, is_valued, needed, byte_count, word_text, word_span, span_if, names_in, id_in, types_in, item_id_in, references_in, is_marked, after_names, after_id, after_types, after_item_id, text_of_words, words_of, ShowsPart, ShowsWord, tag_in}
use Rattle.rx_microdata.specs.Facts.{Value, Written, Reference, Source, AsWritten, AsReference, OrOwnText, AllText, source_of, value_from, value_of_element, attribute_value, facts_of, own_text, distinct_tokens, without_repeats_of, referred as referred_value}
use Rattle.rx_items.specs.Values.{is_asked, taken_of, text_taken, taken_by, text_by, written_span, referred_span, own_unless}
use Rattle.rx_items.specs.declared.spans.Span.{Span}
use Rattle.rx_items.specs.declared.values.Taken.{Taken}
use Rattle.rx_items.specs.declared.values.Taken.TheVariants as taken
use Rattle.rx_items.proofs.ShowLemmas.{word_more}
use Rattle.std.proofs.lemmas.List.{append-nil, append_assoc}
use Rattle.rx_rdfa.specs.Tree.{element_text}

-- one text is another with more at its end
abbrev pub More : Chars → Chars → Type 0
More text longer = (more : Chars) × (longer ≡ text ++ more)

pub more_then : (a b c : Chars) → More a b → More b c → More a c
more_then a b c p q = (p.0 ++ q.0, q.1 ∙ ap (λ l. l ++ q.0) p.1 ∙ append_assoc a p.0 q.0)

pub no_more : (a : Chars) → More a a
no_more a = ([], sym (append-nil a))

pub word_on : (text : Chars) (o : Option Chars) → More text (word_text text o)
word_on text None = no_more text
word_on text (Some part) = (part, refl)

pub word_shown : (text : Chars) (o : Option Chars) → ShowsWord (word_text text o) (word_span text o) o
word_shown text None = tt
word_shown text (Some part) = record {
  front = text;
  rest = [];
  is_run = record { is_whole = ap (λ l. text ++ l) (sym (append-nil part)); from = refl; to = refl };
}

-- where it stands, by where the text ended before and behind it
abbrev pub kept_span : Chars → Option Chars → Option Span
kept_span text o = span_if (is_some o) (byte_count text) (byte_count (word_text text o))

pub kept_shown : (text : Chars) (o : Option Chars) → ShowsWord (word_text text o) (kept_span text o) o
kept_shown text None = tt
kept_shown text (Some part) = word_shown text (Some part)

pub word_later : (text later : Chars) (span : Option Span) (o : Option Chars) → More text later → ShowsWord text span o → ShowsWord later span o
word_later text later span o m s = subst (λ l. ShowsWord l span o) (sym m.1) (word_more text m.0 span o s)

module _ (text : Chars) (attributes : List Attribute) where
  pub id_on : More (after_names text attributes) (after_id text attributes)
  id_on = word_on (after_names text attributes) (value_of attributes (codes "id"))

  pub types_on : More (after_id text attributes) (after_types text attributes)
  types_on = word_on (after_id text attributes) (value_of attributes (codes "itemtype"))

  pub item_id_on : More (after_types text attributes) (after_item_id text attributes)
  item_id_on = word_on (after_types text attributes) (value_of attributes (codes "itemid"))

  pub references_on : More (after_item_id text attributes) (text_of_words text attributes)
  references_on = word_on (after_item_id text attributes) (value_of attributes (codes "itemref"))

  pub item_id_last : More (after_types text attributes) (text_of_words text attributes)
  item_id_last = more_then (after_types text attributes) (after_item_id text attributes) (text_of_words text attributes) item_id_on references_on

  pub types_last : More (after_id text attributes) (text_of_words text attributes)
  types_last = more_then (after_id text attributes) (after_types text attributes) (text_of_words text attributes) types_on item_id_last

  pub id_last : More (after_names text attributes) (text_of_words text attributes)
  id_last = more_then (after_names text attributes) (after_id text attributes) (text_of_words text attributes) id_on types_last

  pub all_words : More text (text_of_words text attributes)
  all_words = more_then text (after_names text attributes) (text_of_words text attributes) (word_on text (value_of attributes (codes "itemprop"))) id_last

  -- what each attribute says, once all are kept
  pub record WordsShown (later : Chars) : Type 0 where
    pub names : ShowsWord later (names_in (words_of text attributes)) (value_of attributes (codes "itemprop"))
    pub id : ShowsWord later (id_in (words_of text attributes)) (value_of attributes (codes "id"))
    pub types : ShowsWord later (types_in (words_of text attributes)) (value_of attributes (codes "itemtype"))
    pub item_id : ShowsWord later (item_id_in (words_of text attributes)) (value_of attributes (codes "itemid"))
    pub references : ShowsWord later (references_in (words_of text attributes)) (value_of attributes (codes "itemref"))

  pub words_shown : (later : Chars) → More (text_of_words text attributes) later → WordsShown later
  words_shown later m =
      let last = text_of_words text attributes in
      let n = value_of attributes (codes "itemprop") in
      let i = value_of attributes (codes "id") in
      let t = value_of attributes (codes "itemtype") in
      let d = value_of attributes (codes "itemid") in
      let r = value_of attributes (codes "itemref") in
      record {
        names = word_later (after_names text attributes) later (kept_span text n) n (more_then (after_names text attributes) last later id_last m) (kept_shown text n);
        id = word_later (after_id text attributes) later (kept_span (after_names text attributes) i) i (more_then (after_id text attributes) last later types_last m) (kept_shown (after_names text attributes) i);
        types = word_later (after_types text attributes) later (kept_span (after_id text attributes) t) t (more_then (after_types text attributes) last later item_id_last m) (kept_shown (after_id text attributes) t);
        item_id = word_later (after_item_id text attributes) later (kept_span (after_types text attributes) d) d (more_then (after_item_id text attributes) last later references_on m) (kept_shown (after_types text attributes) d);
        references = word_later last later (kept_span (after_item_id text attributes) r) r m (kept_shown (after_item_id text attributes) r);
      }

some_map : {X Y : Type 0} (f : X → Y) (o : Option X) → is_some (option_map f o) ≡ is_some o
some_map f None = refl
some_map f (Some x) = refl

pub marks_matter : (t : StartTag) (inner : Tree) → matters (facts_of t inner) ≡ is_marked t.attributes
marks_matter t inner =
    ap (λ b. is_some (attribute_value t "itemscope") || (b || is_some (attribute_value t "id"))) (some_map distinct_tokens (attribute_value t "itemprop"))

any_distinct : (names : List Chars) → is_any (without_repeats_of [] names) ≡ is_any names
any_distinct [] = refl
any_distinct (name ∷ names) = refl

pub any_names : (o : Option Chars) → is_any (unwrap_or (option_map distinct_tokens o) []) ≡ is_any (tokens (unwrap_or o []))
any_names None = refl
any_names (Some names) = any_distinct (tokens names)

pub asked : (t : StartTag) (inner : Tree) → is_valued (facts_of t inner) ≡ is_asked t.attributes
asked t inner = ap (λ b. not (is_some (attribute_value t "itemscope")) && b) (any_names (attribute_value t "itemprop"))

-- what is taken of a value says the value, with the text and the own text of the element
abbrev pub ShowsTaken : Chars → Taken → Value → Chars → Chars → Type 0
ShowsTaken words taken.Empty v all own = v ≡ Written []
ShowsTaken words (taken.Written span) v all own = (part : Chars) × (v ≡ Written part) × ShowsPart words span part
ShowsTaken words (taken.Reference span) v all own = (part : Chars) × (v ≡ Reference part) × ShowsPart words span part
ShowsTaken words taken.Text v all own = v ≡ Written all
ShowsTaken words taken.ChildText v all own = v ≡ Written own

value_shown : (text : Chars) (o : Option Chars) (takes : Option Span → Taken) (v : Option Chars → Value) (all own : Chars) → ShowsTaken text (takes None) (v None) all own
    → ((later part : Chars) (span : Span) → ShowsPart later span part → ShowsTaken later (takes (Some span)) (v (Some part)) all own) → ShowsTaken (word_text text o) (takes (word_span text o)) (v o) all own
value_shown text None takes v all own none some = none
value_shown text (Some part) takes v all own none some = some (word_text text (Some part)) part _ (word_shown text (Some part))

source_shown : (s : Source) (text : Chars) (t : StartTag) (inner : Tree)
    → ShowsTaken (text_by s text t.attributes) (taken_by s text t.attributes) (value_from s t inner) (element_text inner) (own_text inner)
source_shown (AsWritten name) text t inner = value_shown text (value_of t.attributes name) written_span (λ o. Written (unwrap_or o [])) (element_text inner) (own_text inner) refl (λ later part span s. (part, refl, s))
source_shown (AsReference name) text t inner = value_shown text (value_of t.attributes name) referred_span referred_value (element_text inner) (own_text inner) refl (λ later part span s. (part, refl, s))
source_shown (OrOwnText name) text t inner = value_shown text (value_of t.attributes name) own_unless (λ o. Written (unwrap_or o (own_text inner))) (element_text inner) (own_text inner) refl (λ later part span s. (part, refl, s))
source_shown AllText text t inner = refl

asked_shown : (b : Bool) (s : Source) (text : Chars) (t : StartTag) (inner : Tree)
    → ShowsTaken (cond b (text_by s text t.attributes) text) (cond b (taken_by s text t.attributes) taken.Empty) (cond b (value_from s t inner) (Written [])) (element_text inner) (own_text inner)
asked_shown true s text t inner = source_shown s text t inner
asked_shown false s text t inner = refl

pub taken_shown : (text : Chars) (t : StartTag) (inner : Tree)
    → ShowsTaken (text_taken text (tag_in t)) (taken_of text (tag_in t)) (needed (facts_of t inner)).value (element_text inner) (own_text inner)
taken_shown text t inner =
    subst (λ b. ShowsTaken (text_taken text (tag_in t)) (taken_of text (tag_in t)) (cond b (value_of_element t inner) (Written [])) (element_text inner) (own_text inner)) (sym (asked t inner))
    (asked_shown (is_asked t.attributes) (source_of t.name) text t inner)

text_by_on : (s : Source) (text : Chars) (attributes : List Attribute) → More text (text_by s text attributes)
text_by_on (AsWritten name) text attributes = word_on text (value_of attributes name)
text_by_on (AsReference name) text attributes = word_on text (value_of attributes name)
text_by_on (OrOwnText name) text attributes = word_on text (value_of attributes name)
text_by_on AllText text attributes = no_more text

cond_on : (b : Bool) (text longer : Chars) → More text longer → More text (cond b longer text)
cond_on true text longer m = m
cond_on false text longer m = no_more text

pub taken_on : (text : Chars) (t : StartTag) → More text (text_taken text (tag_in t))
taken_on text t = cond_on (is_asked t.attributes) text (text_by (source_of t.name) text t.attributes) (text_by_on (source_of t.name) text t.attributes)
