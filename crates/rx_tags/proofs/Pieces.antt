-- Pieces of a buffer that grows at its end.
use Rattle.rx_terms.proofs.Common.{◌≡◌, ◌∙◌, sym, ap, refl, ℕ, ◌+◌, ◌-◌, ◌≤◌, ◌<◌, List, [], ◌∷◌, ◌++◌, length, take, drop, arith, encode_utf8, zero, suc, slice_get, get_or, Some, true, chars, IsUtf8, IsScalar, list_all, chars-append, chars_past_char, chars-nil, encodes-chars, IsUtf8-append, IsUtf8-encode, IsUtf8-nil, ascii-utf8, ascii-chars, is_ascii, Chars, encode_utf8_all, common_steps}
use Rattle.std.proofs.lemmas.List.{take-append-drop, length-drop, length-take, map-append, take-append-le, drop-append-le, length-append, append_assoc, append-nil}
use Rattle.rx_tags.specs.declared.attributes.AttributeSpan.{AttributeSpan}
use Rattle.rx_tags.specs.Reading.{AttributeReading, piece, row_read, rows_read, read_as, RowFits, RowsFit, SpansFit, nothing_read}

take_all : (n : ℕ) (text : List ℕ) → n ≡ length text → take n text ≡ text
take_all n text h = grind (arith, common_steps)

drop_all : (n : ℕ) (text : List ℕ) → n ≡ length text → drop n text ≡ []
drop_all n text h = grind (arith, common_steps)

pub piece_on : (text more : List ℕ) (from to : ℕ) → from ≤ to → to ≤ length text → piece (text ++ more) from to ≡ piece text from to
piece_on text more from to h k =
    let fits : to - from ≤ length (drop from text) = omega (arith, length-drop from text) in
    rw (drop-append-le from text more (omega arith)) (take-append-le (to - from) (drop from text) more fits)

pub piece_rest : (text : List ℕ) (from to : ℕ) → to ≡ length text → piece text from to ≡ drop from text
piece_rest text from to h = take_all (to - from) (drop from text) (omega (arith, length-drop from text))

pub drop_two : (n m : ℕ) (text : List ℕ) → drop m (drop n text) ≡ drop (n + m) text
drop_two n m text = grind (arith, common_steps)

pub piece_then : (text : List ℕ) (from to : ℕ) → from ≤ to → drop from text ≡ piece text from to ++ drop to text
piece_then text from to h =
    let e : from + (to - from) ≡ to = omega arith in
    sym (take-append-drop (to - from) (drop from text)) ∙ ap (λ rest. piece text from to ++ rest) (drop_two from (to - from) text ∙ ap (λ n. drop n text) e)

pub row_on : (text more : List ℕ) (limit : ℕ) (row : AttributeSpan) → limit ≤ length text → RowFits text limit row → row_read (text ++ more) row ≡ row_read text row
row_on text more limit row l f =
    rw (piece_on text more row.start row.middle f.rises (omega (arith, f.apart, f.on, f.within)), piece_on text more row.value row.end f.on (omega (arith, f.within))) refl

pub rows_on : (text more : List ℕ) (limit : ℕ) (rows : List AttributeSpan) → limit ≤ length text → RowsFit text limit rows → rows_read (text ++ more) rows ≡ rows_read text rows
rows_on text more limit [] l f = refl
rows_on text more limit (row ∷ rows) l f = rw (row_on text more limit row l f.0, rows_on text more limit rows l f.1) refl

pub row_fit_on : (text more : List ℕ) (limit past : ℕ) (row : AttributeSpan) → limit ≤ length text → limit ≤ past → RowFits text limit row → RowFits (text ++ more) past row
row_fit_on text more limit past row l p f = record {
  rises = f.rises;
  apart = f.apart;
  on = f.on;
  within = omega (arith, f.within);
  name = rw (piece_on text more row.start row.middle f.rises (omega (arith, f.apart, f.on, f.within))) f.name;
  value = rw (piece_on text more row.value row.end f.on (omega (arith, f.within))) f.value;
}

pub rows_fit_on : (text more : List ℕ) (limit past : ℕ) (rows : List AttributeSpan) → limit ≤ length text → limit ≤ past → RowsFit text limit rows → RowsFit (text ++ more) past rows
rows_fit_on text more limit past [] l p f = tt
rows_fit_on text more limit past (row ∷ rows) l p f = (row_fit_on text more limit past row l p f.0, rows_fit_on text more limit past rows l p f.1)

-- the same the other way: rows that lie in a front of the text
row_fit_off : (text more : List ℕ) (limit : ℕ) (row : AttributeSpan) → limit ≤ length text → RowFits (text ++ more) limit row → RowFits text limit row
row_fit_off text more limit row l f = record {
  rises = f.rises;
  apart = f.apart;
  on = f.on;
  within = f.within;
  name = rw (piece_on text more row.start row.middle f.rises (omega (arith, f.apart, f.on, f.within))) at f.name;
  value = rw (piece_on text more row.value row.end f.on (omega (arith, f.within))) at f.value;
}

rows_fit_off : (text more : List ℕ) (limit : ℕ) (rows : List AttributeSpan) → limit ≤ length text → RowsFit (text ++ more) limit rows → RowsFit text limit rows
rows_fit_off text more limit [] l f = tt
rows_fit_off text more limit (row ∷ rows) l f = (row_fit_off text more limit row l f.0, rows_fit_off text more limit rows l f.1)

pub nothing_past : (text : List ℕ) (n : ℕ) → n ≡ length text → IsUtf8 (drop n text) × (chars (drop n text) ≡ [])
nothing_past text n h = let e = drop_all n text h in (rw e IsUtf8-nil, rw e chars-nil)

-- the value's front alone: the text is cut where the run begins
pub cut_back : (text : List ℕ) (rows : List AttributeSpan) (start middle end : ℕ) → SpansFit text rows start middle end
    → SpansFit (take end text) rows start middle end
    × (read_as (take end text) rows start middle end ≡ record { whole = rows_read text rows; key = chars (piece text start middle); known = chars (piece text middle end); pending = [] })
cut_back text rows start middle end f =
    let e : take end text ++ drop end text ≡ text = take-append-drop end text in
    let n : length (take end text) ≡ end = rw length-take (omega (arith, f.within)) in
    let low : start ≤ length (take end text) = omega (arith, f.rises, f.on, n) in
    let all : RowsFit (take end text ++ drop end text) start rows = rw e f.rows_fit in
    let key : piece text start middle ≡ piece (take end text) start middle = ap (λ t. piece t start middle) (sym e) ∙ piece_on (take end text) (drop end text) start middle f.rises (omega (arith, f.on, n)) in
    let known : piece text middle end ≡ piece (take end text) middle end = ap (λ t. piece t middle end) (sym e) ∙ piece_on (take end text) (drop end text) middle end f.on (omega (arith, n)) in
    let past = nothing_past (take end text) end (sym n) in (
      record {
        rows_fit = rows_fit_off (take end text) (drop end text) start rows low all;
        rises = f.rises;
        on = f.on;
        within = omega (arith, n);
        key = rw (← key) f.key;
        known = rw (← known) f.known;
        pending = past.0;
      },
      λ i. record {
        whole = (sym (rows_on (take end text) (drop end text) start rows low (rows_fit_off (take end text) (drop end text) start rows low all)) ∙ ap (λ t. rows_read t rows) e) i;
        key = chars (sym key i);
        known = chars (sym known i);
        pending = past.1 i;
      },
    )

one_char : (c : ℕ) → IsScalar c → chars (encode_utf8 c) ≡ c ∷ []
one_char c s = chars_past_char (encode_utf8 c) [] c (IsUtf8-encode c s) (sym (append-nil (encode_utf8 c))) ∙ ap (λ rest. c ∷ rest) chars-nil

-- more of the value
abbrev read_on : AttributeReading → Chars → AttributeReading
read_on r more = record { whole = r.whole; key = r.key; known = r.known ++ (r.pending ++ more); pending = [] }

-- more of the name
abbrev key_on : AttributeReading → Chars → AttributeReading
key_on r more = record { whole = r.whole; key = r.key ++ more; known = r.known; pending = r.pending }

pub with_char : (bs : List ℕ) (c : ℕ) → IsUtf8 bs → IsScalar c → IsUtf8 (bs ++ encode_utf8 c) × (chars (bs ++ encode_utf8 c) ≡ chars bs ++ c ∷ [])
with_char bs c u s =
    (IsUtf8-append bs (encode_utf8 c) u (IsUtf8-encode c s), chars-append bs (encode_utf8 c) u ∙ ap (λ rest. chars bs ++ rest) (one_char c s))

-- what stands from the value's begin on: what is known, and then the run
pub from_middle : (text : List ℕ) (rows : List AttributeSpan) (start middle end : ℕ) → SpansFit text rows start middle end
    → IsUtf8 (drop middle text) × (chars (drop middle text) ≡ chars (piece text middle end) ++ chars (drop end text))
from_middle text rows start middle end f =
    let e = piece_then text middle end f.on in
    (rw e (IsUtf8-append _ _ f.known f.pending), ap chars e ∙ chars-append _ _ f.known)

pub pushed_all : (text grown : List ℕ) (rows : List AttributeSpan) (start middle end n : ℕ) (more : List ℕ) → SpansFit text rows start middle end → IsUtf8 more
    → grown ≡ text ++ more → n ≡ length grown
    → SpansFit grown rows start middle n
    × (read_as grown rows start middle n ≡ record { whole = rows_read text rows; key = chars (piece text start middle); known = chars (piece text middle end) ++ (chars (drop end text) ++ chars more); pending = [] })
pushed_all text grown rows start middle end n more f u g h =
    let within : middle ≤ length text = omega (arith, f.on, f.within) in
    let longer : length (text ++ more) ≡ length text + length more = length-append text more in
    let m = from_middle text rows start middle end f in
    let count : n ≡ length (text ++ more) = h ∙ ap length g in
    let key : piece (text ++ more) start middle ≡ piece text start middle = piece_on text more start middle f.rises within in
    let value : piece (text ++ more) middle n ≡ drop middle text ++ more = piece_rest (text ++ more) middle n count ∙ drop-append-le middle text more within in
    let past = nothing_past (text ++ more) n count in
    rw g (
      record {
        rows_fit = rows_fit_on text more start start rows (omega (arith, f.rises, f.on, f.within)) (omega arith) f.rows_fit;
        rises = f.rises;
        on = omega (arith, f.on, f.within, longer, count);
        within = omega (arith, count);
        key = rw key f.key;
        known = rw value (IsUtf8-append (drop middle text) more m.0 u);
        pending = past.0;
      },
      λ i. record {
        whole = rows_on text more start rows (omega (arith, f.rises, f.on, f.within)) f.rows_fit i;
        key = chars (key i);
        known = (ap chars value ∙ chars-append (drop middle text) more m.0 ∙ ap (λ front. front ++ chars more) m.1 ∙ append_assoc (chars (piece text middle end)) (chars (drop end text)) (chars more)) i;
        pending = past.1 i;
      },
    )

pub pushed : (text grown : List ℕ) (rows : List AttributeSpan) (start middle end n c : ℕ) → SpansFit text rows start middle end → IsScalar c
    → grown ≡ text ++ encode_utf8 c → n ≡ length grown
    → SpansFit grown rows start middle n
    × (read_as grown rows start middle n ≡ record { whole = rows_read text rows; key = chars (piece text start middle); known = chars (piece text middle end) ++ (chars (drop end text) ++ c ∷ []); pending = [] })
pushed text grown rows start middle end n c f s g h =
    let all = pushed_all text grown rows start middle end n (encode_utf8 c) f (IsUtf8-encode c s) g h in
    (all.0, all.1 ∙ ap (λ (more : List ℕ). read_on (read_as text rows start middle end) more) (one_char c s))

-- characters of ASCII are their bytes
pub pushed_ascii : (text grown : List ℕ) (rows : List AttributeSpan) (start middle end n : ℕ) (more : List ℕ) → SpansFit text rows start middle end → list_all is_ascii more ≡ true
    → grown ≡ text ++ more → n ≡ length grown
    → SpansFit grown rows start middle n
    × (read_as grown rows start middle n ≡ record { whole = rows_read text rows; key = chars (piece text start middle); known = chars (piece text middle end) ++ (chars (drop end text) ++ more); pending = [] })
pushed_ascii text grown rows start middle end n more f a g h =
    let all = pushed_all text grown rows start middle end n more f (ascii-utf8 more a) g h in
    (all.0, all.1 ∙ ap (λ (x : List ℕ). read_on (read_as text rows start middle end) x) (ascii-chars more a))

-- a run begins
pub begun : (text grown : List ℕ) (rows : List AttributeSpan) (start middle end n c : ℕ) → SpansFit text rows start middle end → IsScalar c
    → grown ≡ text ++ encode_utf8 c → n ≡ length text
    → SpansFit grown rows start middle n
    × (read_as grown rows start middle n ≡ record { whole = rows_read text rows; key = chars (piece text start middle); known = chars (piece text middle end) ++ chars (drop end text); pending = c ∷ [] })
begun text grown rows start middle end n c f s g h =
    let within : middle ≤ length text = omega (arith, f.on, f.within) in
    let longer : length (text ++ encode_utf8 c) ≡ length text + length (encode_utf8 c) = length-append text (encode_utf8 c) in
    let m = from_middle text rows start middle end f in
    let none = nothing_past text n h in
    let w = with_char (drop n text) c none.0 s in
    let key : piece (text ++ encode_utf8 c) start middle ≡ piece text start middle = piece_on text (encode_utf8 c) start middle f.rises within in
    let value : piece (text ++ encode_utf8 c) middle n ≡ drop middle text = piece_on text (encode_utf8 c) middle n (omega (arith, within, h)) (omega (arith, h)) ∙ piece_rest text middle n h in
    let run : drop n (text ++ encode_utf8 c) ≡ drop n text ++ encode_utf8 c = drop-append-le n text (encode_utf8 c) (omega (arith, h)) in
    rw g (
      record {
        rows_fit = rows_fit_on text (encode_utf8 c) start start rows (omega (arith, f.rises, f.on, f.within)) (omega arith) f.rows_fit;
        rises = f.rises;
        on = omega (arith, within, h);
        within = omega (arith, h, longer);
        key = rw key f.key;
        known = rw value m.0;
        pending = rw run w.0;
      },
      λ i. record {
        whole = rows_on text (encode_utf8 c) start rows (omega (arith, f.rises, f.on, f.within)) f.rows_fit i;
        key = chars (key i);
        known = (ap chars value ∙ m.1) i;
        pending = (ap chars run ∙ w.1 ∙ ap (λ front. front ++ c ∷ []) none.1) i;
      },
    )

-- a run goes on
pub gone_on : (text grown : List ℕ) (rows : List AttributeSpan) (start middle end c : ℕ) → SpansFit text rows start middle end → IsScalar c
    → grown ≡ text ++ encode_utf8 c
    → SpansFit grown rows start middle end
    × (read_as grown rows start middle end ≡ record { whole = rows_read text rows; key = chars (piece text start middle); known = chars (piece text middle end); pending = chars (drop end text) ++ c ∷ [] })
gone_on text grown rows start middle end c f s g =
    let within : middle ≤ length text = omega (arith, f.on, f.within) in
    let longer : length (text ++ encode_utf8 c) ≡ length text + length (encode_utf8 c) = length-append text (encode_utf8 c) in
    let w = with_char (drop end text) c f.pending s in
    let key : piece (text ++ encode_utf8 c) start middle ≡ piece text start middle = piece_on text (encode_utf8 c) start middle f.rises within in
    let value : piece (text ++ encode_utf8 c) middle end ≡ piece text middle end = piece_on text (encode_utf8 c) middle end f.on f.within in
    let run : drop end (text ++ encode_utf8 c) ≡ drop end text ++ encode_utf8 c = drop-append-le end text (encode_utf8 c) f.within in
    rw g (
      record {
        rows_fit = rows_fit_on text (encode_utf8 c) start start rows (omega (arith, f.rises, f.on, f.within)) (omega arith) f.rows_fit;
        rises = f.rises;
        on = f.on;
        within = omega (arith, f.within, longer);
        key = rw key f.key;
        known = rw value f.known;
        pending = rw run w.0;
      },
      λ i. record {
        whole = rows_on text (encode_utf8 c) start rows (omega (arith, f.rises, f.on, f.within)) f.rows_fit i;
        key = chars (key i);
        known = chars (value i);
        pending = (ap chars run ∙ w.1) i;
      },
    )

none_of : (bs : List ℕ) → IsUtf8 bs → chars bs ≡ [] → bs ≡ []
none_of bs u e = sym (encodes-chars bs u) ∙ ap encode_utf8_all e

-- a name goes on, where no value was begun
key_pushed_all : (text grown : List ℕ) (rows : List AttributeSpan) (start middle end n : ℕ) (more : List ℕ) → SpansFit text rows start middle end → IsUtf8 more
    → grown ≡ text ++ more → n ≡ length grown → chars (piece text middle end) ≡ [] → chars (drop end text) ≡ []
    → SpansFit grown rows start n n
    × (read_as grown rows start n n ≡ record { whole = rows_read text rows; key = chars (piece text start middle) ++ chars more; known = chars (piece text middle end); pending = chars (drop end text) })
key_pushed_all text grown rows start middle end n more f u g h k p =
    let within : start ≤ length text = omega (arith, f.rises, f.on, f.within) in
    let longer : length (text ++ more) ≡ length text + length more = length-append text more in
    let count : n ≡ length (text ++ more) = h ∙ ap length g in
    let m = from_middle text rows start middle end f in
    let no_value : drop middle text ≡ [] = none_of _ m.0 (m.1 ∙ rw (k, p) refl) in
    let all : drop start text ≡ piece text start middle = piece_then text start middle f.rises ∙ ap (λ rest. piece text start middle ++ rest) no_value ∙ append-nil (piece text start middle) in
    let key : piece (text ++ more) start n ≡ piece text start middle ++ more =
    piece_rest (text ++ more) start n count ∙ drop-append-le start text more within ∙ ap (λ front. front ++ more) all in
    let past = nothing_past (text ++ more) n count in
    let z : n - n ≡ 0 = omega arith in
    let value : piece (text ++ more) n n ≡ [] = rw z refl in
    rw g (
      record {
        rows_fit = rows_fit_on text more start start rows (omega (arith, f.rises, f.on, f.within)) (omega arith) f.rows_fit;
        rises = omega (arith, within, count, longer);
        on = omega arith;
        within = omega (arith, count);
        key = rw key (IsUtf8-append (piece text start middle) more f.key u);
        known = rw value IsUtf8-nil;
        pending = past.0;
      },
      λ i. record {
        whole = rows_on text more start rows (omega (arith, f.rises, f.on, f.within)) f.rows_fit i;
        key = (ap chars key ∙ chars-append (piece text start middle) more f.key) i;
        known = (ap chars value ∙ chars-nil ∙ sym k) i;
        pending = (past.1 ∙ sym p) i;
      },
    )

pub key_pushed : (text grown : List ℕ) (rows : List AttributeSpan) (start middle end n c : ℕ) → SpansFit text rows start middle end → IsScalar c
    → grown ≡ text ++ encode_utf8 c → n ≡ length grown → chars (piece text middle end) ≡ [] → chars (drop end text) ≡ []
    → SpansFit grown rows start n n
    × (read_as grown rows start n n ≡ record { whole = rows_read text rows; key = chars (piece text start middle) ++ c ∷ []; known = chars (piece text middle end); pending = chars (drop end text) })
key_pushed text grown rows start middle end n c f s g h k p =
    let all = key_pushed_all text grown rows start middle end n (encode_utf8 c) f (IsUtf8-encode c s) g h k p in
    (all.0, all.1 ∙ ap (λ (more : List ℕ). key_on (read_as text rows start middle end) more) (one_char c s))

pub key_pushed_ascii : (text grown : List ℕ) (rows : List AttributeSpan) (start middle end n : ℕ) (more : List ℕ) → SpansFit text rows start middle end → list_all is_ascii more ≡ true
    → grown ≡ text ++ more → n ≡ length grown → chars (piece text middle end) ≡ [] → chars (drop end text) ≡ []
    → SpansFit grown rows start n n
    × (read_as grown rows start n n ≡ record { whole = rows_read text rows; key = chars (piece text start middle) ++ more; known = chars (piece text middle end); pending = chars (drop end text) })
key_pushed_ascii text grown rows start middle end n more f a g h k p =
    let all = key_pushed_all text grown rows start middle end n more f (ascii-utf8 more a) g h k p in
    (all.0, all.1 ∙ ap (λ (x : List ℕ). key_on (read_as text rows start middle end) x) (ascii-chars more a))

pub rows_fit_append : (text : List ℕ) (limit : ℕ) (rows : List AttributeSpan) (row : AttributeSpan) → RowsFit text limit rows → RowFits text limit row → RowsFit text limit (rows ++ row ∷ [])
rows_fit_append text limit [] row f r = (r, tt)
rows_fit_append text limit (first ∷ rows) row f r = (f.0, rows_fit_append text limit rows row f.1 r)

pub rows_fit_past : (text : List ℕ) (limit past : ℕ) (rows : List AttributeSpan) → limit ≤ past → RowsFit text limit rows → RowsFit text past rows
rows_fit_past text limit past [] p f = tt
rows_fit_past text limit past (row ∷ rows) p f =
    (record { rises = f.0.rises; apart = f.0.apart; on = f.0.on; within = omega (arith, f.0.within, p); name = f.0.name; value = f.0.value }, rows_fit_past text limit past rows p f.1)

-- an attribute is whole
pub added : (text : List ℕ) (rows grown : List AttributeSpan) (start middle end n : ℕ) → SpansFit text rows start middle end
    → grown ≡ rows ++ record { start = start; middle = middle; value = middle; end = n } ∷ [] → n ≡ length text
    → SpansFit text grown n n n
    × (read_as text grown n n n ≡ record { whole = rows_read text rows ++ (chars (piece text start middle), chars (piece text middle end) ++ chars (drop end text)) ∷ []; key = []; known = []; pending = [] })
added text rows grown start middle end n f g h =
    let m = from_middle text rows start middle end f in
    let value : piece text middle n ≡ drop middle text = piece_rest text middle n h in
    let past = nothing_past text n h in
    let z : n - n ≡ 0 = omega arith in
    let none : piece text n n ≡ [] = rw z refl in
    let row : AttributeSpan = record { start = start; middle = middle; value = middle; end = n } in
    rw g (
      record {
        rows_fit = rows_fit_append text n rows row (rows_fit_past text start n rows (omega (arith, f.rises, f.on, f.within, h)) f.rows_fit) (record { rises = f.rises; apart = omega arith; on = omega (arith, f.on, f.within, h); within = omega arith; name = f.key; value = rw value m.0 });
        rises = omega arith;
        on = omega arith;
        within = omega (arith, h);
        key = rw none IsUtf8-nil;
        known = rw none IsUtf8-nil;
        pending = past.0;
      },
      λ i. record {
        whole = (map-append (row_read text) rows (row ∷ []) ∙ ap (λ v. rows_read text rows ++ (chars (piece text start middle), v) ∷ []) (ap chars value ∙ m.1)) i;
        key = (ap chars none ∙ chars-nil) i;
        known = (ap chars none ∙ chars-nil) i;
        pending = past.1 i;
      },
    )

pub fresh : SpansFit [] [] 0 0 0 × (read_as [] [] 0 0 0 ≡ nothing_read)
fresh = (record { rows_fit = tt; rises = omega arith; on = omega arith; within = omega arith; key = IsUtf8-nil; known = IsUtf8-nil; pending = IsUtf8-nil }, λ i. record { whole = []; key = chars-nil i; known = chars-nil i; pending = chars-nil i })

-- what the run stands for takes its place
pub replaced : (text grown : List ℕ) (rows : List AttributeSpan) (start middle end n c : ℕ) → SpansFit text rows start middle end → IsScalar c
    → grown ≡ take end text ++ encode_utf8 c → n ≡ length grown
    → SpansFit grown rows start middle n
    × (read_as grown rows start middle n ≡ record { whole = rows_read text rows; key = chars (piece text start middle); known = chars (piece text middle end) ++ c ∷ []; pending = [] })
replaced text grown rows start middle end n c f s g h =
    let b = cut_back text rows start middle end f in
    let p = pushed (take end text) grown rows start middle end n c b.0 s g h in
    (p.0, p.1 ∙ ap (λ (r : AttributeReading). record { whole = r.whole; key = r.key; known = r.known ++ (r.pending ++ c ∷ []); pending = [] }) b.1)

pub rows_count : (text : List ℕ) (rows : List AttributeSpan) → length (rows_read text rows) ≡ length rows
rows_count text [] = refl
rows_count text (row ∷ rows) = ap suc (rows_count text rows)

row_of : (text : List ℕ) (limit : ℕ) (rows : List AttributeSpan) (i : ℕ) (other : AttributeSpan) → RowsFit text limit rows → i < length rows
    → RowFits text limit (get_or rows i other) × (slice_get (rows_read text rows) i ≡ Some (row_read text (get_or rows i other)))
row_of text limit [] i other f h = absurd (omega arith)
row_of text limit (first ∷ rows) zero other f h = (f.0, refl)
row_of text limit (first ∷ rows) (suc i) other f h = row_of text limit rows i other f.1 (omega arith)

-- a row among those that fit
pub row_at : (text : List ℕ) (limit : ℕ) (rows : List AttributeSpan) (i : ℕ) (row other : AttributeSpan) → RowsFit text limit rows → i < length (rows_read text rows) → row ≡ get_or rows i other
    → RowFits text limit row × (slice_get (rows_read text rows) i ≡ Some (row_read text row))
row_at text limit rows i row other f h e = rw e (row_of text limit rows i other f (omega (arith, h, rows_count text rows)))

-- an attribute is whole, and the next one's name begins
pub key_added : (text grown : List ℕ) (rows more : List AttributeSpan) (start middle end n m c : ℕ) → SpansFit text rows start middle end → IsScalar c
    → grown ≡ text ++ encode_utf8 c → more ≡ rows ++ record { start = start; middle = middle; value = middle; end = n } ∷ [] → n ≡ length text → m ≡ length grown
    → SpansFit grown more n m m
    × (read_as grown more n m m ≡ record { whole = rows_read text rows ++ (chars (piece text start middle), chars (piece text middle end) ++ chars (drop end text)) ∷ []; key = c ∷ []; known = []; pending = [] })
key_added text grown rows more start middle end n m c f s g h k l =
    let a = added text rows more start middle end n f h k in
    let known : chars (piece text n n) ≡ [] = ap (λ (r : AttributeReading). r.known) a.1 in
    let pending : chars (drop n text) ≡ [] = ap (λ (r : AttributeReading). r.pending) a.1 in
    let b = key_pushed text grown more n n n m c a.0 s g l known pending in
    (b.0, b.1 ∙ ap (λ (r : AttributeReading). record { whole = r.whole; key = r.key ++ c ∷ []; known = r.known; pending = r.pending }) a.1)

take_past : (old bytes : List ℕ) (n k : ℕ) → n ≡ length old + k → take n (old ++ bytes) ≡ old ++ take k bytes
take_past [] bytes n k e = ap (λ m. take m bytes) (omega arith)
take_past (x ∷ old) bytes zero k e = absurd (omega arith)
take_past (x ∷ old) bytes (suc n) k e = ap (λ rest. x ∷ rest) (take_past old bytes n k (omega arith))

take_less : (bytes : List ℕ) (count most : ℕ) → count ≤ most → take count (take most bytes) ≡ take count bytes
take_less bytes count most h = grind (arith, common_steps)

-- more bytes than are wanted behind a text, which is cut
pub cut_front : (old bytes : List ℕ) (n count most : ℕ) → count ≤ most → most ≤ length bytes → n ≡ length (old ++ take most bytes) → take (n - (most - count)) (old ++ take most bytes) ≡ old ++ take count bytes
cut_front old bytes n count most h l e =
    let all : length (old ++ take most bytes) ≡ length old + most = rw (length-append, length-take) (omega arith) in
    take_past old (take most bytes) (n - (most - count)) count (omega (arith, e, all)) ∙ ap (λ more. old ++ more) (take_less bytes count most h)

-- the rest of a name and a value of ASCII are pushed, and the attribute is whole
pub whole_pushed : (text named grown : List ℕ) (rows more : List AttributeSpan) (start middle end m n : ℕ) (name value : List ℕ) → SpansFit text rows start middle end → list_all is_ascii name ≡ true → list_all is_ascii value ≡ true
    → named ≡ text ++ name → m ≡ length named → grown ≡ named ++ value → n ≡ length grown → more ≡ rows ++ record { start = start; middle = m; value = m; end = n } ∷ []
    → chars (piece text middle end) ≡ [] → chars (drop end text) ≡ []
    → SpansFit grown more n n n
    × (read_as grown more n n n ≡ record { whole = rows_read text rows ++ (chars (piece text start middle) ++ name, value) ∷ []; key = []; known = []; pending = [] })
whole_pushed text named grown rows more start middle end m n name value f a b g h k l r no_value no_run =
    let first = key_pushed_ascii text named rows start middle end m name f a g h no_value no_run in
    let second = pushed_ascii named grown rows start m m n value first.0 b k l in
    let third = added grown rows more start m n n second.0 r l in
    let both : read_as grown rows start m n ≡ record { whole = rows_read text rows; key = chars (piece text start middle) ++ name; known = value; pending = [] } =
    second.1 ∙ ap (λ (x : AttributeReading). record { whole = x.whole; key = x.key; known = x.known ++ (x.pending ++ value); pending = [] }) (first.1 ∙ (λ i. record { whole = rows_read text rows; key = chars (piece text start middle) ++ name; known = no_value i; pending = no_run i })) in (
      third.0,
      third.1 ∙ ap (λ (x : AttributeReading). record { whole = x.whole ++ (x.key, x.known ++ x.pending) ∷ []; key = []; known = []; pending = [] }) both
          ∙ ap (λ (x : List ℕ). record { whole = rows_read text rows ++ (chars (piece text start middle) ++ name, x) ∷ []; key = []; known = []; pending = [] }) (append-nil value),
    )
