-- Of each tree the table shows the rows.
use Rattle.rx_items.proofs.Common.{◌||◌, slice_index_or, ◌≡◌, ℕ, suc, ◌+◌, ◌-◌, ◌≤◌, Bool, true, false, cond, List, [], ◌∷◌, ◌++◌, length, take, slice_get, slice_set, Option, Some, None, codes, refl, sym, ap, subst, ◌∙◌, Chars, arith, value_of, StartTag, Tree, end, element, text, Value, attribute_value, facts_of, element_text, own_text, Placed, scope_in, matters, needed, behind_row, row_count, with_row, rows_from, byte_count, is_marked, text_of_words, ShowsPart, ShowsValue, ShowsRow, ShowsRows, tag_in, after, nothing_grown, TablesShow, get_or-append_seam, set-append_seam}
use Rattle.std.proofs.lemmas.Bool.{lt-ltb, or_left, or_right}
use Rattle.std.proofs.lemmas.List.{length-append, append-nil, append_assoc}
use Rattle.rx_items.specs.Values.{taken_of, text_taken}
use Rattle.rx_items.specs.Growing.{Growing, nothing_open, innermost, row_value, takes_text, own_of, with_own, element_passed, added, head_of, with_said, text_gathered, ended_value, row_ended, nothing_kept, with_end, element_ended}
use Rattle.rx_items.specs.declared.rows.Row.{Row}
use Rattle.rx_items.specs.declared.rows.Open.{Open}
use Rattle.rx_items.specs.declared.values.Taken.{Taken}
use Rattle.rx_items.specs.declared.values.Taken.TheVariants as taken
use Rattle.rx_items.proofs.ListLemmas.{last_of, front_of, get_behind}
use Rattle.rx_items.proofs.SaidLemmas.{OwnIn, said_there, said_length, said_nothing, said_more, said_twice, Keeps, keeps}
use Rattle.rx_items.proofs.ShowLemmas.{stands_more, OwnFrom, OwnsFrom, rows_more, shows_append, shows_length, owns_weaker, owns_append}
use Rattle.rx_items.proofs.TakenLemmas.{More, more_then, all_words, words_shown, marks_matter, ShowsTaken, taken_shown, taken_on, any_names}
use Rattle.rx_items.proofs.NestLemmas.{not_item}

-- an element that gathers, or doesn't, is open: these rows are added, and this text and these times, to those that there are
record Added (gathers : Bool) (from : List Chars) (g : Growing) (all : Chars) (ps : List Placed) (later : Growing) : Type 0 where
  new : List Row
  rows : later.rows ≡ g.rows ++ new
  line : later.line ≡ g.line
  more_words : Chars
  words : later.words ≡ g.words ++ more_words
  more_text : Chars
  text_is : later.text ≡ g.text ++ more_text
  gathered : gathers ≡ true → more_text ≡ all
  more_times : List Chars
  times : later.times ≡ from ++ more_times
  shown : ShowsRows later.words later.text later.times new ps
  owns : OwnsFrom (length g.times) new

-- what some nodes, with this text and own text, add below an open element
abbrev Grown : Open → Growing → Chars → Chars → List Placed → Growing → Type 0
Grown at g all own ps later = Added at.gathers (with_said at.own own g.times) g all ps later

-- at first the rows of one element, g to mid, and then those of what follows it
abbrev Begun : Open → Growing → Chars → List Placed → Growing → Type 0
Begun at g all ps mid = Added at.gathers g.times g all ps mid

own_grows : (own : Option ℕ) (low high : ℕ) → low ≤ high → OwnIn own low → OwnIn own high
own_grows None low high l o = tt
own_grows (Some own) low high l o = omega (arith, l, o)

join : (at : Open) (g mid later : Growing) (all1 all2 own : Chars) (ps qs : List Placed) → OwnIn at.own (length g.times)
    → Begun at g all1 ps mid → Grown at mid all2 own qs later → Grown at g (all1 ++ all2) own (ps ++ qs) later
join at g mid later all1 all2 own ps qs o a c =
    let times_size : length mid.times ≡ length (g.times ++ a.more_times) = ap (λ (l : List Chars). length l) a.times in
    let low : length g.times ≤ length mid.times = omega (arith, length-append g.times a.more_times, times_size) in
    let kept : Keeps (length g.times) mid.times later.times =
    λ time part l h. subst (λ (l : List Chars). slice_get l time ≡ Some part) (sym c.times) (keeps at.own own mid.times c.more_times (length g.times) o time part l h) in
    let first = rows_more mid.words mid.text c.more_words c.more_text mid.times later.times (length g.times) a.new ps kept a.owns a.shown in
    let first_words = subst (λ w. ShowsRows w (mid.text ++ c.more_text) later.times a.new ps) (sym c.words) first in
    let first_text = subst (λ t. ShowsRows later.words t later.times a.new ps) (sym c.text_is) first_words in
    record {
      new = a.new ++ c.new;
      rows = c.rows ∙ ap (λ l. l ++ c.new) a.rows ∙ append_assoc g.rows a.new c.new;
      line = c.line ∙ a.line;
      more_words = a.more_words ++ c.more_words;
      words = c.words ∙ ap (λ l. l ++ c.more_words) a.words ∙ append_assoc g.words a.more_words c.more_words;
      more_text = a.more_text ++ c.more_text;
      text_is = c.text_is ∙ ap (λ l. l ++ c.more_text) a.text_is ∙ append_assoc g.text a.more_text c.more_text;
      gathered = λ e. let x = a.gathered e in let y = c.gathered e in λ i. x i ++ y i;
      more_times = a.more_times ++ c.more_times;
      times =
          c.times ∙ ap (λ l. with_said at.own own l ++ c.more_times) a.times
          ∙ ap (λ l. l ++ c.more_times) (said_more at.own own g.times a.more_times o)
          ∙ append_assoc (with_said at.own own g.times) a.more_times c.more_times;
      shown = shows_append later.words later.text later.times a.new c.new ps qs first_text c.shown;
      owns = owns_append (length g.times) a.new c.new a.owns (owns_weaker (length mid.times) (length g.times) c.new low c.owns);
    }

text_on : (b : Bool) (t c m : Chars) → cond b (t ++ c) t ++ m ≡ t ++ (cond b c [] ++ m)
text_on true t c m = append_assoc t c m
text_on false t c m = refl

-- text
says : (at : Open) (g later : Growing) (chars all own : Chars) (ps : List Placed) → innermost g.line ≡ at → Grown at (text_gathered g chars) all own ps later
    → Grown at g (chars ++ all) (chars ++ own) ps later
says at g later chars all own ps e c =
    let size : length (text_gathered g chars).times ≡ length g.times = said_length (innermost g.line).own chars g.times in
    record {
      new = c.new;
      rows = c.rows;
      line = c.line;
      more_words = c.more_words;
      words = c.words;
      more_text = cond at.gathers chars [] ++ c.more_text;
      text_is = c.text_is ∙ ap (λ (o : Open). cond o.gathers (g.text ++ chars) g.text ++ c.more_text) e ∙ text_on at.gathers g.text chars c.more_text;
      gathered = λ t. ap (λ b. cond b chars [] ++ c.more_text) t ∙ ap (λ l. chars ++ l) (c.gathered t);
      more_times = c.more_times;
      times =
          c.times ∙ ap (λ (o : Open). with_said at.own own (with_said o.own chars g.times) ++ c.more_times) e
          ∙ ap (λ l. l ++ c.more_times) (said_twice at.own chars own g.times);
      shown = c.shown;
      owns = subst (λ n. OwnsFrom n c.new) size c.owns;
    }

nothing : (at : Open) (g : Growing) → Grown at g [] [] [] g
nothing at g = record {
  new = [];
  rows = sym (append-nil g.rows);
  line = refl;
  more_words = [];
  words = sym (append-nil g.words);
  more_text = [];
  text_is = sym (append-nil g.text);
  gathered = λ e. refl;
  more_times = [];
  times = sym (append-nil (with_said at.own [] g.times) ∙ said_nothing at.own g.times);
  shown = tt;
  owns = tt;
}

-- how many rows there are
rows_length : (scope : Option ℕ) (place : ℕ) (tree : Tree) → length (rows_from scope place tree) ≡ row_count tree
rows_length scope place end = refl
rows_length scope place (element tag inner more) =
    let b : Bool = matters (facts_of tag inner) in
    counted b _ _ _ _ _ (rows_length (scope_in tag place scope) (behind_row b place) inner) (rows_length scope (behind_row b place + row_count inner) more)
  where
    counted : (b : Bool) (p : Placed) (xs ys : List Placed) (n m : ℕ) → length xs ≡ n → length ys ≡ m → length (with_row b p (xs ++ ys)) ≡ behind_row b n + m
    counted true p xs ys n m e f = omega (arith, length-append xs ys, e, f)
    counted false p xs ys n m e f = omega (arith, length-append xs ys, e, f)
rows_length scope place (text chars more) = rows_length scope place more

-- an element that is no row
passes : (at : Open) (g g2 : Growing) (all own : Chars) (ps : List Placed) → innermost g.line ≡ at
    → Grown (record { row = None; scope = at.scope; gathers = at.gathers; own = None }) (element_passed g) all own ps g2 → Begun at g all ps (element_ended g2)
passes at g g2 all own ps e a =
    let y : Open = record { row = None; scope = (innermost g.line).scope; gathers = (innermost g.line).gathers; own = None } in
    let last : innermost g2.line ≡ y = ap innermost a.line ∙ last_of g.line y nothing_open in
    record {
      new = a.new;
      rows = ap (λ (o : Open). with_end o.row (byte_count g2.text) g2.rows) last ∙ a.rows;
      line = ap (λ (l : List Open). take (length l - 1) l) a.line ∙ front_of g.line y;
      more_words = a.more_words;
      words = a.words;
      more_text = a.more_text;
      text_is = a.text_is;
      gathered = a.gathered;
      more_times = a.more_times;
      times = a.times;
      shown = a.shown;
      owns = a.owns;
    }

abbrev own_times : Taken → Chars → List Chars → List Chars
own_times taken.ChildText own more = own ∷ more
own_times _ own more = more

own_in : (tk : Taken) (times : List Chars) → OwnIn (own_of tk (length times)) (length (with_own tk times))
own_in taken.ChildText times = let e = length-append times ([] ∷ []) in omega (arith, e)
own_in _ times = tt

own_size : (tk : Taken) (times : List Chars) → length times ≤ length (with_own tk times)
own_size taken.ChildText times = let e = length-append times ([] ∷ []) in omega (arith, e)
own_size _ times = omega arith

own_said : (own : Chars) (times : List Chars) → with_said (Some (length times)) own (times ++ ([] ∷ [])) ≡ times ++ (own ∷ [])
own_said own times =
    said_there (length times) own (times ++ ([] ∷ []))
    ∙ ap (λ x. slice_set (times ++ ([] ∷ [])) (length times) (x ++ own)) (get_or-append_seam times [] [] [])
    ∙ set-append_seam times [] [] own

times_are : (tk : Taken) (own : Chars) (times more : List Chars)
    → with_said (own_of tk (length times)) own (with_own tk times) ++ more ≡ times ++ own_times tk own more
times_are taken.ChildText own times more = ap (λ l. l ++ more) (own_said own times) ∙ append_assoc times (own ∷ []) more
times_are _ own times more = refl

-- the value of a row whose element has ended
value_shown : (tk : Taken) (words later front longer more_text : Chars) (times more : List Chars) (v : Value) (all own : Chars)
    → More words later → longer ≡ front ++ more_text → (takes_text tk ≡ true → more_text ≡ all) → ShowsTaken words tk v all own
    → ShowsValue later longer (times ++ own_times tk own more) (ended_value (row_value tk (byte_count front) (length times)) (byte_count longer)) v
value_shown taken.Empty words later front longer mt times more v all own w t g s = s
value_shown (taken.Written span) words later front longer mt times more v all own w t g s =
    (s.0, s.1, subst (λ l. ShowsPart l span s.0) (sym w.1) (stands_more words w.0 span s.0 s.2))
value_shown (taken.Reference span) words later front longer mt times more v all own w t g s =
    (s.0, s.1, subst (λ l. ShowsPart l span s.0) (sym w.1) (stands_more words w.0 span s.0 s.2))
value_shown taken.Text words later front longer mt times more v all own w t g s =
    let whole : longer ≡ front ++ all = t ∙ ap (λ l. front ++ l) (g refl) in (
      all,
      s,
      record {
        front = front;
        rest = [];
        is_run = record { is_whole = whole ∙ ap (λ l. front ++ l) (sym (append-nil all)); from = refl; to = ap byte_count whole };
      },
    )
value_shown taken.ChildText words later front longer mt times more v all own w t g s = (own, s, get_behind times own more)

own_from : (tk : Taken) (mark last : ℕ) (size : ℕ) → OwnFrom size (ended_value (row_value tk mark size) last)
own_from taken.ChildText mark last size = omega arith
own_from _ mark last size = tt

-- a row ends
row_ends : (rows new whole : List Row) (row : Row) (mark : ℕ) → whole ≡ (rows ++ (row ∷ [])) ++ new
    → with_end (Some (length rows)) mark whole ≡ rows ++ (row_ended row (length whole) mark ∷ new)
row_ends rows new whole row mark e =
    let split : whole ≡ rows ++ (row ∷ new) = e ∙ append_assoc rows (row ∷ []) new in
    let long : length whole ≡ length (rows ++ (row ∷ new)) = ap (λ (l : List Row). length l) split in
    ap (λ b. cond b (slice_set whole (length rows) (row_ended (slice_index_or whole (length rows) nothing_kept) (length whole) mark)) whole)
    (lt-ltb (length rows) (length whole) (omega (arith, length-append rows (row ∷ new), long)))
    ∙ ap (λ (x : Row). slice_set whole (length rows) (row_ended x (length whole) mark))
    (ap (λ (l : List Row). slice_index_or l (length rows) nothing_kept) split ∙ get_or-append_seam rows row new nothing_kept)
    ∙ ap (λ (l : List Row). slice_set l (length rows) (row_ended row (length whole) mark)) split
    ∙ set-append_seam rows row new (row_ended row (length whole) mark)

module _ (g : Growing) (t : StartTag) (inner : Tree) where
  abbrev kept_text : Chars
  kept_text = text_of_words g.words t.attributes

  abbrev tk : Taken
  tk = taken_of kept_text (tag_in t)

  abbrev marked : Growing
  marked = added (record g { words = text_taken kept_text (tag_in t) }) (head_of g.words (tag_in t) t.token t.at) tk

  abbrev newest : Open → Open
  newest at = record {
    row = Some (length g.rows);
    scope = scope_in t (length g.rows) at.scope;
    gathers = at.gathers || takes_text tk;
    own = own_of tk (length g.times);
  }

  abbrev new_row : Open → Row
  new_row at = record {
    head = head_of g.words (tag_in t) t.token t.at;
    past = 0;
    scope = at.scope;
    value = row_value tk (byte_count g.text) (length g.times);
  }

  abbrev placed : Open → Placed
  placed at = record { place = length g.rows; past = suc (length g.rows) + row_count inner; scope = at.scope; facts = needed (facts_of t inner) }

  adds : (at : Open) (g2 : Growing) (ps : List Placed) → innermost g.line ≡ at → length ps ≡ row_count inner
      → Grown (newest at) marked (element_text inner) (own_text inner) ps g2
      → Begun at g (element_text inner) (placed at ∷ ps) (element_ended g2)
  adds at g2 ps e count a =
      let last : innermost g2.line ≡ newest at =
      ap innermost a.line ∙ last_of g.line (newest (innermost g.line)) nothing_open ∙ ap newest e in
      let rows2 : g2.rows ≡ (g.rows ++ (new_row at ∷ [])) ++ a.new = a.rows ∙ ap (λ (o : Open). (g.rows ++ (new_row o ∷ [])) ++ a.new) e in
      let split : g2.rows ≡ g.rows ++ (new_row at ∷ a.new) = rows2 ∙ append_assoc g.rows (new_row at ∷ []) a.new in
      let long : length g2.rows ≡ length (g.rows ++ (new_row at ∷ a.new)) = ap (λ (l : List Row). length l) split in
      let past : length g2.rows ≡ suc (length g.rows) + row_count inner = omega (arith, length-append g.rows (new_row at ∷ a.new), long, shows_length g2.words g2.text g2.times a.new ps a.shown, count) in
      let words_more : More (text_taken kept_text (tag_in t)) g2.words = (a.more_words, a.words) in
      let kept_more : More kept_text g2.words = more_then kept_text (text_taken kept_text (tag_in t)) g2.words (taken_on kept_text t) words_more in
      let all_more : More g.words g2.words = more_then g.words kept_text g2.words (all_words g.words t.attributes) kept_more in
      let shown_words = words_shown g.words t.attributes g2.words kept_more in
      let times : g2.times ≡ g.times ++ own_times tk (own_text inner) a.more_times = a.times ∙ times_are tk (own_text inner) g.times a.more_times in
      let shown_value =
      subst (λ (l : List Chars). ShowsValue g2.words g2.text l (ended_value (row_value tk (byte_count g.text) (length g.times)) (byte_count g2.text)) (needed (facts_of t inner)).value) (sym times)
      (value_shown tk (text_taken kept_text (tag_in t)) g2.words g.text g2.text a.more_text g.times a.more_times (needed (facts_of t inner)).value (element_text inner) (own_text inner)
      words_more a.text_is (λ k. a.gathered (or_right at.gathers (takes_text tk) k)) (taken_shown kept_text t inner)) in
      let row : ShowsRow g2.words g2.text g2.times (row_ended (new_row at) (length g2.rows) (byte_count g2.text)) (placed at) = record {
        token = refl;
        at = refl;
        past = past;
        scope = refl;
        is_item = refl;
        named = sym (any_names (attribute_value t "itemprop"));
        itemprop = value_of t.attributes (codes "itemprop");
        has_names = shown_words.names;
        names = refl;
        id = shown_words.id;
        itemtype = value_of t.attributes (codes "itemtype");
        has_types = shown_words.types;
        types = refl;
        item_id = shown_words.item_id;
        itemref = value_of t.attributes (codes "itemref");
        has_references = shown_words.references;
        references = refl;
        value = shown_value;
      } in
      record {
        new = row_ended (new_row at) (length g2.rows) (byte_count g2.text) ∷ a.new;
        rows = ap (λ (o : Open). with_end o.row (byte_count g2.text) g2.rows) last ∙ row_ends g.rows a.new g2.rows (new_row at) (byte_count g2.text) rows2;
        line = ap (λ (l : List Open). take (length l - 1) l) a.line ∙ front_of g.line (newest (innermost g.line));
        more_words = all_more.0;
        words = all_more.1;
        more_text = a.more_text;
        text_is = a.text_is;
        gathered = λ k. a.gathered (or_left at.gathers (takes_text tk) k);
        more_times = own_times tk (own_text inner) a.more_times;
        times = times;
        shown = (row, a.shown);
        owns = (own_from tk (byte_count g.text) (byte_count g2.text) (length g.times), owns_weaker (length marked.times) (length g.times) a.new (own_size tk g.times) a.owns);
      }

-- the rows of an element and of what follows it
element_rows : (t : StartTag) (inner more : Tree) (scope : Option ℕ) (place : ℕ) (b : Bool) → is_marked t.attributes ≡ b
    → rows_from scope place (element t inner more)
    ≡ with_row b (record { place = place; past = behind_row b place + row_count inner; scope = scope; facts = needed (facts_of t inner) })
    (rows_from (scope_in t place scope) (behind_row b place) inner ++ rows_from scope (behind_row b place + row_count inner) more)
element_rows t inner more scope place b e =
    ap (λ m. with_row m (record { place = place; past = behind_row m place + row_count inner; scope = scope; facts = needed (facts_of t inner) })
    (rows_from (scope_in t place scope) (behind_row m place) inner ++ rows_from scope (behind_row m place + row_count inner) more)) (marks_matter t inner ∙ e)

abbrev Grows : Tree → Type 0
Grows tree = (at : Open) (g : Growing) → innermost g.line ≡ at → OwnIn at.own (length g.times)
    → Grown at g (element_text tree) (own_text tree) (rows_from at.scope (length g.rows) tree) (after g tree)

module _ (t : StartTag) (inner more : Tree) (in_inner : Grows inner) (in_more : Grows more) (at : Open) (g : Growing) (e : innermost g.line ≡ at) (o : OwnIn at.own (length g.times)) where
  abbrev Whole : Growing → Type 0
  Whole later = Grown at g (element_text inner ++ element_text more) (own_text more) (rows_from at.scope (length g.rows) (element t inner more)) later

  -- what follows, where the rows of the element are known
  follows : (mid : Growing) (b : Bool) (ps : List Placed) → is_marked t.attributes ≡ b → Begun at g (element_text inner) ps mid
      → with_row b (record { place = length g.rows; past = behind_row b (length g.rows) + row_count inner; scope = at.scope; facts = needed (facts_of t inner) })
      (rows_from (scope_in t (length g.rows) at.scope) (behind_row b (length g.rows)) inner) ≡ ps
      → Whole (after mid more)
  follows mid b ps m a same =
      let ins : List Placed = rows_from (scope_in t (length g.rows) at.scope) (behind_row b (length g.rows)) inner in
      let p : Placed = record { place = length g.rows; past = behind_row b (length g.rows) + row_count inner; scope = at.scope; facts = needed (facts_of t inner) } in
      let long = length-append g.rows a.new in
      let mid_size : length mid.rows ≡ length (g.rows ++ a.new) = ap (λ (l : List Row). length l) a.rows in
      let new_size = shows_length mid.words mid.text mid.times a.new ps a.shown in
      let row_size : length ps ≡ behind_row b (row_count inner) = ap (λ (l : List Placed). length l) (sym same) ∙ size_of b p ins ∙ ap (behind_row b) (rows_length (scope_in t (length g.rows) at.scope) (behind_row b (length g.rows)) inner) in
      let place : length mid.rows ≡ behind_row b (length g.rows) + row_count inner = sum_of b (length mid.rows) (length g.rows) (row_count inner) (mid_size ∙ long ∙ ap (λ n. length g.rows + n) (new_size ∙ row_size)) in
      let times_size : length mid.times ≡ length (g.times ++ a.more_times) = ap (λ (l : List Chars). length l) a.times in
      let c = in_more at mid (ap innermost a.line ∙ e) (own_grows at.own (length g.times) (length mid.times) (omega (arith, length-append g.times a.more_times, times_size)) o) in
      let whole : rows_from at.scope (length g.rows) (element t inner more) ≡ ps ++ rows_from at.scope (length mid.rows) more =
      element_rows t inner more at.scope (length g.rows) b m
      ∙ front_row b p ins (rows_from at.scope (behind_row b (length g.rows) + row_count inner) more)
      ∙ (λ i. same i ++ rows_from at.scope (sym place i) more) in
      subst (λ rows. Grown at g (element_text inner ++ element_text more) (own_text more) rows (after mid more)) (sym whole)
      (join at g mid (after mid more) (element_text inner) (element_text more) (own_text more) ps (rows_from at.scope (length mid.rows) more) o a c)
    where
      size_of : (b : Bool) (p : Placed) (rows : List Placed) → length (with_row b p rows) ≡ behind_row b (length rows)
      size_of true p rows = refl
      size_of false p rows = refl

      sum_of : (b : Bool) (n p i : ℕ) → n ≡ p + behind_row b i → n ≡ behind_row b p + i
      sum_of true n p i h = omega (arith, h)
      sum_of false n p i h = h

      front_row : (b : Bool) (p : Placed) (xs ys : List Placed) → with_row b p (xs ++ ys) ≡ with_row b p xs ++ ys
      front_row true p xs ys = refl
      front_row false p xs ys = refl

  marked_size : length (marked g t inner).rows ≡ suc (length g.rows)
  marked_size = let k = length-append g.rows (new_row g t inner (innermost g.line) ∷ []) in omega (arith, k)

  is_marked_row : is_marked t.attributes ≡ true → Whole (after (element_ended (after (marked g t inner) inner)) more)
  is_marked_row m =
      let last : innermost (marked g t inner).line ≡ newest g t inner at =
      last_of g.line (newest g t inner (innermost g.line)) nothing_open ∙ ap (newest g t inner) e in
      let a = in_inner (newest g t inner at) (marked g t inner) last (own_in (tk g t inner) g.times) in
      let ins : List Placed = rows_from (scope_in t (length g.rows) at.scope) (length (marked g t inner).rows) inner in
      let start = adds g t inner at (after (marked g t inner) inner) ins e (rows_length (scope_in t (length g.rows) at.scope) (length (marked g t inner).rows) inner) a in
      follows (element_ended (after (marked g t inner) inner)) true (placed g t inner at ∷ ins) m start
      (ap (λ n. placed g t inner at ∷ rows_from (scope_in t (length g.rows) at.scope) n inner) (sym marked_size))

  is_passed : is_marked t.attributes ≡ false → Whole (after (element_ended (after (element_passed g) inner)) more)
  is_passed m =
      let x : Open = record { row = None; scope = at.scope; gathers = at.gathers; own = None } in
      let y : Open = record { row = None; scope = (innermost g.line).scope; gathers = (innermost g.line).gathers; own = None } in
      let last : innermost (element_passed g).line ≡ x =
      last_of g.line y nothing_open ∙ ap (λ (o : Open). record { row = None; scope = o.scope; gathers = o.gathers; own = None }) e in
      let start = passes at g (after (element_passed g) inner) (element_text inner) (own_text inner) (rows_from at.scope (length g.rows) inner) e (in_inner x (element_passed g) last tt) in
      follows (element_ended (after (element_passed g) inner)) false (rows_from at.scope (length g.rows) inner) m start
      (ap (λ b. rows_from (cond b (Some (length g.rows)) at.scope) (length g.rows) inner) (not_item t inner (marks_matter t inner ∙ m)))

  by_mark : (b : Bool) → is_marked t.attributes ≡ b → Whole (after (element_ended (after (cond b (marked g t inner) (element_passed g)) inner)) more)
  by_mark true m = is_marked_row m
  by_mark false m = is_passed m

grows : (tree : Tree) → Grows tree
grows end at g e o = nothing at g
grows (element t inner more) at g e o = by_mark t inner more (grows inner) (grows more) at g e o (is_marked t.attributes) refl
grows (text chars more) at g e o =
    says at g (after (text_gathered g chars) more) chars (element_text more) (own_text more) (rows_from at.scope (length g.rows) more) e
    (grows more at (text_gathered g chars) e (own_grows at.own (length g.times) (length (text_gathered g chars).times) (omega (arith, said_length (innermost g.line).own chars g.times)) o))

pub show : TablesShow
show tree =
    let w = grows tree nothing_open nothing_grown refl tt in
    let later = after nothing_grown tree in (
      w.line,
      subst (λ (rows : List Row). ShowsRows later.words later.text later.times rows (rows_from None 0 tree)) (sym w.rows) w.shown,
    )
