-- Where the tokens lead, they stand at the front of a page.
use Rattle.rx_pages.proofs.Words.{cond-true, cond-false, not-false, nat_tests, ◌≡◌, ◌∙◌, ℕ, zero, suc, ◌+◌, ◌-◌, ◌<◌, Bool, true, false, List, [], ◌∷◌, ◌++◌, Some, None, refl, ap, sym, subst, arith, length, append_assoc, inl, inr, ◌⊎◌, ◌&&◌, not, nat_le, Result, Ok, Chars, not_both_ways, by_test, split, Syntax, same, is_among, Tag, Token, tag, character, reference, kept, section, comment, doctype, outside, is_alone, is_html, StartTag, Tree, end, element, Item, is_line_feed, start_tag_of, text_of, Line, inside_of, enders_of, Phase, before, within, after, Open, a_root, a_child, Stands, not_begun, still_open, under_start, after_start, after_end, is_innermost, has_ended, is_before_root, first_row, tag_rows, start_rows, end_rows, IsStartTag, Holds, nothing, a_text, alone, Lead, root_name, Document, a_comment, is_between, Kind, Event, finishes, Step, ended_under, ended_by_end, over, begun_under, line_above, tag_passes, unless_refused, text_step, step_by, nest_step}
use Rattle.rx_grammar.proofs.Common.{ended}
use Rattle.rx_grammar.specs.Pages.{passed, a_doctype}
use Rattle.rx_grammar.specs.declared.contents.Content.TheVariants as content
use Rattle.rx_grammar.specs.declared.faults.Kind.TheVariants as kind
use Rattle.rx_grammar.specs.Pages as pages
use Rattle.rx_pages.proofs.Steps.{passes}
use Rattle.rx_pages.proofs.Growing.{suffix, extend, grow, closes_child, closes_root, no_open}
use Rattle.rx_pages.proofs.Popping.{pop_start, start_stops, start_html, no_ender, pop_end, end_content}
use Rattle.rx_pages.proofs.Below.{html_is, same_is, plaintext_by, self_closed_by, of_start, of_end, has_after_text}

-- no row holds
pub record NoRows (a b p s d : Bool) : Type 0 where
  pub not_ended : a ≡ false
  pub named : b ≡ false
  pub known : p ≡ false
  pub allowed : s ≡ false
  pub room : d ≡ false

rows_none : (a b p s d : Bool) → first_row ((a, kind.Outside) ∷ (b, kind.RootNotHtml) ∷ (p, kind.Plaintext) ∷ (s, kind.SelfClosed) ∷ (d, kind.TooDeep) ∷ []) ≡ None → NoRows a b p s d
rows_none false false false false false h = record { not_ended = refl; named = refl; known = refl; allowed = refl; room = refl }
rows_none _ _ _ _ _ h = absurd (cc)

pub below : (depth n : ℕ) → nat_le depth n ≡ false → n < depth
below depth n h = grind (arith, nat_tests)

-- tokens that content Outside has
abbrev pub may_stand : Token → Bool
may_stand (reference c) = false
may_stand (kept chars) = false
may_stand (section chars) = false
may_stand _ = true

lead_snoc : {xs : List Item} {stood : Bool} → Lead xs stood → (item : Item) → item.content ≡ content.Outside → is_between item.token ≡ true → Lead (xs ++ item ∷ []) stood
lead_snoc pages.no_more item c h = passed item c h pages.no_more
lead_snoc (passed i c h l) item c2 h2 = passed i c h (lead_snoc l item c2 h2)
lead_snoc (a_doctype i c h l) item c2 h2 = a_doctype i c h (lead_snoc l item c2 h2)

lead_doctype : {xs : List Item} {stood : Bool} → Lead xs stood → stood ≡ false → (item : Item) → item.content ≡ content.Outside → item.token ≡ doctype → Lead (xs ++ item ∷ []) true
lead_doctype pages.no_more e item c h = a_doctype item c h pages.no_more
lead_doctype (passed i c h l) e item c2 h2 = passed i c h (lead_doctype l e item c2 h2)
lead_doctype (a_doctype i c h l) e item c2 h2 = absurd (cc)

document_snoc : (syntax : Syntax) (depth : ℕ) (items : List Item) (tree : Tree) → Document syntax depth items tree → (item : Item) → item.content ≡ content.Outside → is_between item.token ≡ true → Document syntax depth (items ++ item ∷ []) tree
document_snoc syntax depth items tree d item c h =
    record {
      before = d.before;
      root = d.root;
      from = d.from ++ item ∷ [];
      after = d.after ++ item ∷ [];
      doctype_stands = d.doctype_stands;
      t = d.t;
      inside = d.inside;
      are = ap (λ x. x ++ item ∷ []) d.are ∙ append_assoc d.before (d.root ∷ d.from) (item ∷ []);
      lead = d.lead;
      opens = d.opens;
      named = d.named;
      tree_is = d.tree_is;
      holds = suffix syntax (item ∷ []) d.holds;
      trail = lead_snoc d.trail item c h;
    }

module _ (syntax : Syntax) (depth : ℕ) (all : List Item) (item : Item) where
  -- a step's place
  abbrev StandsAt : Step → Type 0
  StandsAt step = Stands syntax depth all step.next.line step.next.phase

  arrive : (a b : Step) → a ≡ b → StandsAt a → StandsAt b
  arrive a b e h = subst StandsAt e h

  arrived : (a b : Step) → ◌≡◌ {A = Result Step Kind} (Ok a) (Ok b) → StandsAt a → StandsAt b
  arrived a b e h = arrive a b (cc) h

  -- a start tag under open elements
  open_at : {room : ℕ} (base : Line) (u : Tag) (es : List Event) → Open syntax room all (item ∷ []) base → length base + room ≡ depth → IsStartTag syntax (inside_of syntax base) item u → is_among (enders_of syntax base) u.name ≡ false → nat_le depth (length base) ≡ false
      → StandsAt (begun_under syntax item u base es)
  open_at [] u es op d o among room = absurd (no_open syntax op refl)
  open_at {room = zero} (s ∷ above) u es op d o among room = absurd (let k = below depth (length (s ∷ above)) room in omega arith)
  open_at {room = suc left} (s ∷ above) u es op d o among room =
      split StandsAt (is_alone syntax (inside_of syntax (s ∷ above)) u) _ _
      (λ is. still_open depth (extend syntax op (alone item u o is nothing) (rw among refl)) d)
      (λ isnt. still_open depth (a_child item u op o isnt among pages.no_more nothing refl) (omega arith))

  -- an end tag
  close_at : {room : ℕ} (base : Line) (u : Tag) (es : List Event) → Open syntax room all (item ∷ []) base → length base + room ≡ depth → is_innermost u.name base ≡ true → item.content ≡ (inside_of syntax base).content → item.token ≡ tag u → u.closing ≡ true
      → StandsAt (record { next = over (line_above base); events = es })
  close_at [] u es op d is c k closing = absurd (cc)
  close_at {room = room} (s ∷ []) u es op d is c k closing =
      let r = closes_root syntax depth item op (record { t = u; content = c; token = k; end = closing; same = sym (same_is s.name u.name is) }) refl (omega arith) in
      ended r.0 r.1
  close_at {room = room} (s ∷ t ∷ above) u es op d is c k closing =
      still_open depth (closes_child syntax item op (record { t = u; content = c; token = k; end = closing; same = sym (same_is s.name u.name is) }) (λ e. cc)) (omega arith)

  -- in open elements a start tag that isn't refused
  start_within : {left : ℕ} (line : Line) (u : Tag) (step : Step) → Open syntax left all (item ∷ []) line → length line + left ≡ depth → item.content ≡ (inside_of syntax line).content → item.token ≡ tag u → u.closing ≡ false
      → unless_refused (first_row (tag_rows syntax depth line within u)) (tag_passes syntax line item u) ≡ Ok step → StandsAt step
  start_within {left = left} line u step op d c k start e =
      let p = passes (first_row (start_rows syntax depth line within u)) (begun_under syntax item u (under_start syntax u.name line) (ended_under syntax u.name line)) step (sym (of_start u.closing _ _ _ _ start) ∙ e) in
      let n = rows_none (has_ended within) (is_before_root within && not (same u.name root_name)) _ _ _ p.none in
      arrive _ step p.is (by_test {G = StandsAt (begun_under syntax item u (under_start syntax u.name line) (ended_under syntax u.name line))} (is_html (inside_of syntax line).content)
      (λ h. let base : under_start syntax u.name line ≡ after_start syntax u.name line = cond-true _ _ _ h in
      let l = pop_start syntax depth all item u k start (ap is_html c ∙ h) line op d in
      let same_content : (inside_of syntax (after_start syntax u.name line)).content ≡ (inside_of syntax line).content = html_is _ (start_html syntax depth all item u k line h) ∙ sym (html_is _ h) in
      subst (λ b. StandsAt (begun_under syntax item u b (ended_under syntax u.name line))) (sym base)
      (open_at (after_start syntax u.name line) u (ended_under syntax u.name line) l.opened l.levels
      (record {
        content = c ∙ sym same_content;
        token = k;
        start = start;
        allowed = self_closed_by syntax (inside_of syntax (after_start syntax u.name line)) (inside_of syntax line) u same_content ∙ n.allowed;
        known = plaintext_by syntax (inside_of syntax (after_start syntax u.name line)) (inside_of syntax line) u same_content ∙ n.known;
      })
      (start_stops syntax depth all item u k line) (sym (ap (λ b. nat_le depth (length b)) base) ∙ n.room)))
      (λ h. let base : under_start syntax u.name line ≡ line = cond-false _ _ _ h in
      subst (λ b. StandsAt (begun_under syntax item u b (ended_under syntax u.name line))) (sym base)
      (open_at line u (ended_under syntax u.name line) op d (record { content = c; token = k; start = start; allowed = n.allowed; known = n.known }) (no_ender syntax depth all item u k line h) (sym (ap (λ b. nat_le depth (length b)) base) ∙ n.room))))

  mismatch : (b : Bool) → first_row ((not b, kind.Mismatch) ∷ []) ≡ None → b ≡ true
  mismatch true h = refl
  mismatch false h = absurd (cc)

  -- and an end tag
  end_within : {left : ℕ} (t : StartTag) (above : Line) (u : Tag) (step : Step) → Open syntax left all (item ∷ []) (t ∷ above) → length (t ∷ above) + left ≡ depth → item.content ≡ (inside_of syntax (t ∷ above)).content → item.token ≡ tag u → u.closing ≡ true
      → unless_refused (first_row (tag_rows syntax depth (t ∷ above) within u)) (tag_passes syntax (t ∷ above) item u) ≡ Ok step → StandsAt step
  end_within t above u step op d c k closing e =
      let line = t ∷ above in
      let p = passes (first_row (end_rows syntax line u)) (record { next = over (line_above (after_end syntax u.name line)); events = ended_by_end syntax u.name line ++ finishes ∷ [] }) step (sym (of_end u.closing _ _ _ _ closing) ∙ e) in
      let l = pop_end syntax depth all item u k closing line op d in
      arrive _ step p.is (close_at (after_end syntax u.name line) u (ended_by_end syntax u.name line ++ finishes ∷ []) l.opened l.levels (mismatch (is_innermost u.name (after_end syntax u.name line)) p.none)
      (c ∙ sym (end_content syntax depth all item u k closing line)) k closing)

  -- the root
  root_at : (items : List Item) (stood : Bool) → all ≡ items ++ item ∷ [] → Lead items stood → (u : Tag) → IsStartTag syntax outside item u → u.name ≡ root_name → (left : ℕ) → suc left ≡ depth → StandsAt (begun_under syntax item u [] [])
  root_at items stood a lead u o named left d =
      split StandsAt (is_alone syntax outside u) _ _
      (λ is. ended (pages_element u) (record {
        before = items;
        root = item;
        from = [];
        after = [];
        doctype_stands = stood;
        t = u;
        inside = end;
        are = a;
        lead = lead;
        opens = o;
        named = named;
        tree_is = refl;
        holds = subst (λ x. Holds syntax x outside [] (item ∷ []) [] (pages_element u)) d (alone item u o is nothing);
        trail = pages.no_more;
      }))
      (λ isnt. still_open depth (subst (λ xs. Open syntax left xs [] (start_tag_of item u ∷ [])) (sym a) (a_root items item u lead o named isnt pages.no_more nothing)) (omega arith))
    where
      pages_element : Tag → Tree
      pages_element u = element (start_tag_of item u) end end

  -- before the root
  start_before : (before_items : List Item) (stood : Bool) → all ≡ before_items ++ item ∷ [] → Lead before_items stood → (u : Tag) (step : Step) → item.content ≡ content.Outside → item.token ≡ tag u → u.closing ≡ false
      → unless_refused (first_row (tag_rows syntax depth [] (before stood) u)) (tag_passes syntax [] item u) ≡ Ok step → StandsAt step
  start_before items stood a lead u step c k start e =
      let p = passes (first_row (start_rows syntax depth [] (before stood) u)) (begun_under syntax item u [] []) step (sym (of_start u.closing _ _ _ _ start) ∙ e) in
      let n = rows_none (has_ended (before stood)) (is_before_root (before stood) && not (same u.name root_name)) _ _ _ p.none in
      arrive _ step p.is (root_at items stood a lead u (record { content = c; token = k; start = start; allowed = n.allowed; known = n.known }) (same_is u.name root_name (not-false _ n.named)) (depth - 1) (room (below depth 0 n.room)))
    where
      room : 0 < depth → suc (depth - 1) ≡ depth
      room h = omega arith

-- One more token, that is read where the front of a page has come to.
module _ (syntax : Syntax) (depth : ℕ) (item : Item) (outside_has : item.content ≡ content.Outside → may_stand item.token ≡ true) where
  abbrev More : List Item → Step → Type 0
  More items step = Stands syntax depth (items ++ item ∷ []) step.next.line step.next.phase

  lead_more : (items : List Item) (stood d : Bool) → Lead items stood → item.content ≡ content.Outside → (token : Token) → item.token ≡ token → may_stand token ≡ true → (step : Step) → step_by syntax depth (record { line = []; phase = before stood; drops = d }) item token ≡ Ok step → More items step
  lead_more items stood d lead c (tag u) k may step e = by_test {G = More items step} u.closing
      (λ closing. absurd (let p = passes (first_row (end_rows syntax [] u)) (record { next = over (line_above (after_end syntax u.name [])); events = ended_by_end syntax u.name [] ++ finishes ∷ [] }) step (sym (of_end u.closing _ _ _ _ closing) ∙ e) in let q = p.none in cc))
      (λ start. start_before syntax depth (items ++ item ∷ []) item items stood refl lead u step c k start e)
  lead_more items stood d lead c (character x) k may step e = arrived syntax depth (items ++ item ∷ []) item (text_step (record { line = []; phase = before stood; drops = d }) (is_line_feed (character x)) (x ∷ [])) step e (not_begun stood (lead_snoc lead item c (ap is_between k)))
  lead_more items stood d lead c comment k may step e = arrived syntax depth (items ++ item ∷ []) item (record { next = record { line = []; phase = before stood; drops = false }; events = [] }) step e (not_begun stood (lead_snoc lead item c (ap is_between k)))
  lead_more items false d lead c doctype k may step e = arrived syntax depth (items ++ item ∷ []) item (record { next = record { line = []; phase = before true; drops = false }; events = [] }) step e (not_begun true (lead_doctype lead refl item c k))
  lead_more items stood d lead c _ k may step e = absurd (cc)

  open_more : {left : ℕ} (items : List Item) (t : StartTag) (above : Line) (d : Bool) → Open syntax left items [] (t ∷ above) → length (t ∷ above) + left ≡ depth → item.content ≡ (inside_of syntax (t ∷ above)).content → (token : Token) → item.token ≡ token → (step : Step)
      → step_by syntax depth (record { line = t ∷ above; phase = within; drops = d }) item token ≡ Ok step → More items step
  open_more {left = left} items t above d op levels c token k step e = by (grow syntax op item c) token k e
    where
      all : List Item
      all = items ++ item ∷ []

      line : Line
      line = t ∷ above

      stays : (chars : Chars) → text_of item.token ≡ Some chars → (Open syntax left all (item ∷ []) line) ⊎ ((is_line_feed item.token ≡ true) × Open syntax left all [] line) → Stands syntax depth all line within
      stays chars h (inl o) = still_open depth (extend syntax o (a_text item chars c h nothing) (has_after_text (enders_of syntax (t ∷ above)) chars end)) levels
      stays chars h (inr o) = still_open depth o.1 levels

      by : (Open syntax left all (item ∷ []) line) ⊎ ((is_line_feed item.token ≡ true) × Open syntax left all [] line) → (token : Token) → item.token ≡ token → step_by syntax depth (record { line = line; phase = within; drops = d }) item token ≡ Ok step → More items step
      by (inl o) (tag u) k e = by_test {G = More items step} u.closing (λ closing. end_within syntax depth all item t above u step o levels c k closing e) (λ start. start_within syntax depth all item line u step o levels c k start e)
      by (inr o) (tag u) k e = absurd (not_both_ways (is_line_feed item.token) o.0 (ap is_line_feed k))
      by o (character x) k e = arrived syntax depth all item (text_step (record { line = line; phase = within; drops = d }) (is_line_feed (character x)) (x ∷ [])) step e (stays (x ∷ []) (ap text_of k) o)
      by o (reference x) k e = arrived syntax depth all item (text_step (record { line = line; phase = within; drops = d }) (is_line_feed (reference x)) (x ∷ [])) step e (stays (x ∷ []) (ap text_of k) o)
      by o (kept x) k e = arrived syntax depth all item (text_step (record { line = line; phase = within; drops = d }) false x) step e (stays x (ap text_of k) o)
      by o (section x) k e = arrived syntax depth all item (text_step (record { line = line; phase = within; drops = d }) false x) step e (stays x (ap text_of k) o)
      by (inl o) comment k e = arrived syntax depth all item (record { next = record { line = line; phase = within; drops = false }; events = [] }) step e (still_open depth (extend syntax o (a_comment item c k nothing) refl) levels)
      by (inr o) comment k e = absurd (not_both_ways (is_line_feed item.token) o.0 (ap is_line_feed k))
      by o doctype k e = absurd (cc)

  after_more : (items : List Item) (d : Bool) (tree : Tree) → Document syntax depth items tree → item.content ≡ content.Outside → (token : Token) → item.token ≡ token → may_stand token ≡ true → (step : Step)
      → step_by syntax depth (record { line = []; phase = after; drops = d }) item token ≡ Ok step → More items step
  after_more items d tree doc c (tag u) k may step e = by_test {G = More items step} u.closing
      (λ closing. absurd (let p = passes (first_row (end_rows syntax [] u)) (record { next = over (line_above (after_end syntax u.name [])); events = ended_by_end syntax u.name [] ++ finishes ∷ [] }) step (sym (of_end u.closing _ _ _ _ closing) ∙ e) in let q = p.none in cc))
      (λ start. absurd (let p = passes (first_row (start_rows syntax depth [] after u)) (begun_under syntax item u [] []) step (sym (of_start u.closing _ _ _ _ start) ∙ e) in let q = p.none in cc))
  after_more items d tree doc c (character x) k may step e = arrived syntax depth (items ++ item ∷ []) item (text_step (record { line = []; phase = after; drops = d }) (is_line_feed (character x)) (x ∷ [])) step e (ended tree (document_snoc syntax depth items tree doc item c (ap is_between k)))
  after_more items d tree doc c comment k may step e = arrived syntax depth (items ++ item ∷ []) item (record { next = record { line = []; phase = after; drops = false }; events = [] }) step e (ended tree (document_snoc syntax depth items tree doc item c (ap is_between k)))
  after_more items d tree doc c _ k may step e = absurd (cc)

  pub one_more : (items : List Item) (line : Line) (phase : Phase) (d : Bool) → Stands syntax depth items line phase → item.content ≡ (inside_of syntax line).content → (step : Step) → nest_step syntax depth (record { line = line; phase = phase; drops = d }) item ≡ Ok step → More items step
  one_more items line phase d (not_begun stood lead) c step e = lead_more items stood d lead c item.token refl (outside_has c) step e
  one_more items line phase d (still_open {t = t} {above = above} depth2 op levels) c step e = open_more items t above d op levels c item.token refl step e
  one_more items line phase d (ended tree doc) c step e = after_more items d tree doc c item.token refl (outside_has c) step e
