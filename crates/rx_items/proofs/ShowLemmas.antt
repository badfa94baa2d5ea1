-- What rows stand for stays as the table grows.
use Rattle.rx_items.proofs.Common.{⊤, ◌≡◌, ℕ, suc, ◌≤◌, List, [], ◌∷◌, ◌++◌, length, Option, Some, slice_get, zero, refl, ap, ◌∙◌, subst, Chars, arith, Value, Placed, id_in, item_id_in, names_in, references_in, types_in, ShowsPart, ShowsWord, ShowsValue, ShowsRow, ShowsRows}
use Rattle.rx_items.specs.declared.spans.Span.{Span}
use Rattle.rx_items.specs.declared.rows.Row.{Row}
use Rattle.rx_items.specs.declared.rows.RowValue.{RowValue}
use Rattle.rx_items.specs.declared.rows.RowValue.TheVariants as value
use Rattle.rx_items.proofs.SaidLemmas.{Keeps}
use Rattle.std.proofs.lemmas.List.{append_assoc}

pub stands_more : (text more : Chars) (span : Span) (part : Chars) → ShowsPart text span part → ShowsPart (text ++ more) span part
stands_more text more span part s = record {
  front = s.front;
  rest = s.rest ++ more;
  is_run = record {
    is_whole = ap (λ l. l ++ more) s.is_run.is_whole ∙ append_assoc s.front (part ++ s.rest) more ∙ ap (λ l. s.front ++ l) (append_assoc part s.rest more);
    from = s.is_run.from;
    to = s.is_run.to;
  };
}

pub word_more : (text more : Chars) (span : Option Span) (part : Option Chars) → ShowsWord text span part → ShowsWord (text ++ more) span part
word_more text more (Some span) (Some part) s = stands_more text more span part s
word_more text more _ _ s = s

-- the numbers of times are not below this one
abbrev pub OwnFrom : ℕ → RowValue → Type 0
OwnFrom low (value.ChildText time) = low ≤ time
OwnFrom low _ = ⊤

abbrev pub OwnsFrom : ℕ → List Row → Type 0
OwnsFrom low [] = ⊤
OwnsFrom low (row ∷ rows) = OwnFrom low row.value × OwnsFrom low rows

value_more : (words text more_words more_text : Chars) (times later : List Chars) (low : ℕ) (r : RowValue) (v : Value) → Keeps low times later → OwnFrom low r
    → ShowsValue words text times r v → ShowsValue (words ++ more_words) (text ++ more_text) later r v
value_more words text mw mt times later low (value.Written span) v k o s = (s.0, s.1, stands_more words mw span s.0 s.2)
value_more words text mw mt times later low (value.Reference span) v k o s = (s.0, s.1, stands_more words mw span s.0 s.2)
value_more words text mw mt times later low (value.Run span) v k o s = (s.0, s.1, stands_more text mt span s.0 s.2)
value_more words text mw mt times later low (value.ChildText time) v k o s = (s.0, s.1, k time s.0 o s.2)
value_more words text mw mt times later low _ v k o s = s

row_more : (words text more_words more_text : Chars) (times later : List Chars) (low : ℕ) (row : Row) (p : Placed) → Keeps low times later → OwnFrom low row.value
    → ShowsRow words text times row p → ShowsRow (words ++ more_words) (text ++ more_text) later row p
row_more words text mw mt times later low row p k o s = record {
  token = s.token;
  at = s.at;
  past = s.past;
  scope = s.scope;
  is_item = s.is_item;
  named = s.named;
  itemprop = s.itemprop;
  has_names = word_more words mw (names_in row.head.words) s.itemprop s.has_names;
  names = s.names;
  id = word_more words mw (id_in row.head.words) p.facts.id s.id;
  itemtype = s.itemtype;
  has_types = word_more words mw (types_in row.head.words) s.itemtype s.has_types;
  types = s.types;
  item_id = word_more words mw (item_id_in row.head.words) p.facts.item_id s.item_id;
  itemref = s.itemref;
  has_references = word_more words mw (references_in row.head.words) s.itemref s.has_references;
  references = s.references;
  value = value_more words text mw mt times later low row.value p.facts.value k o s.value;
}

pub rows_more : (words text more_words more_text : Chars) (times later : List Chars) (low : ℕ) (rows : List Row) (ps : List Placed) → Keeps low times later → OwnsFrom low rows
    → ShowsRows words text times rows ps → ShowsRows (words ++ more_words) (text ++ more_text) later rows ps
rows_more words text mw mt times later low (row ∷ rows) (p ∷ ps) k o s =
    (row_more words text mw mt times later low row p k o.0 s.0, rows_more words text mw mt times later low rows ps k o.1 s.1)
rows_more words text mw mt times later low _ _ k o s = s

pub shows_append : (words text : Chars) (times : List Chars) (rows more : List Row) (ps qs : List Placed) → ShowsRows words text times rows ps → ShowsRows words text times more qs
    → ShowsRows words text times (rows ++ more) (ps ++ qs)
shows_append words text times [] more [] qs s t = t
shows_append words text times (row ∷ rows) more (p ∷ ps) qs s t = (s.0, shows_append words text times rows more ps qs s.1 t)
shows_append words text times _ more _ qs s t = absurd s

pub shows_length : (words text : Chars) (times : List Chars) (rows : List Row) (ps : List Placed) → ShowsRows words text times rows ps → length rows ≡ length ps
shows_length words text times [] [] s = refl
shows_length words text times (row ∷ rows) (p ∷ ps) s = ap suc (shows_length words text times rows ps s.1)
shows_length words text times _ _ s = absurd s

own_weaker : (low lower : ℕ) (r : RowValue) → lower ≤ low → OwnFrom low r → OwnFrom lower r
own_weaker low lower (value.ChildText time) l o = omega (arith, l, o)
own_weaker low lower _ l o = tt

pub owns_weaker : (low lower : ℕ) (rows : List Row) → lower ≤ low → OwnsFrom low rows → OwnsFrom lower rows
owns_weaker low lower [] l o = tt
owns_weaker low lower (row ∷ rows) l o = (own_weaker low lower row.value l o.0, owns_weaker low lower rows l o.1)

pub owns_append : (low : ℕ) (rows more : List Row) → OwnsFrom low rows → OwnsFrom low more → OwnsFrom low (rows ++ more)
owns_append low [] more o q = q
owns_append low (row ∷ rows) more o q = (o.0, owns_append low rows more o.1 q)

-- what a row shows, and what shows it
module _ (words gathered : Chars) (times : List Chars) where
  pub shown_by : (rows : List Row) (ps : List Placed) (i : ℕ) (row : Row) → ShowsRows words gathered times rows ps → slice_get rows i ≡ Some row
      → (p : Placed) × (slice_get ps i ≡ Some p) × ShowsRow words gathered times row p
  shown_by [] ps i row s g = absurd (cc (g))
  shown_by (r ∷ rows) [] i row s g = absurd s
  shown_by (r ∷ rows) (p ∷ ps) zero row s g = let same : r ≡ row = cc (g) in (p, refl, subst (λ (x : Row). ShowsRow words gathered times x p) same s.0)
  shown_by (r ∷ rows) (p ∷ ps) (suc i) row s g = shown_by rows ps i row s.1 g

  pub row_of : (rows : List Row) (ps : List Placed) (i : ℕ) (p : Placed) → ShowsRows words gathered times rows ps → slice_get ps i ≡ Some p
      → (row : Row) × (slice_get rows i ≡ Some row) × ShowsRow words gathered times row p
  row_of rows [] i p s g = absurd (cc (g))
  row_of [] (q ∷ ps) i p s g = absurd s
  row_of (r ∷ rows) (q ∷ ps) zero p s g = let same : q ≡ p = cc (g) in (r, refl, subst (λ (x : Placed). ShowsRow words gathered times r x) same s.0)
  row_of (r ∷ rows) (q ∷ ps) (suc i) p s g = row_of rows ps i p s.1 g
