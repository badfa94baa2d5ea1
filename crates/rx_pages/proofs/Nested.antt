-- What the nodes of a page are, the steps of their tokens tell.
use Rattle.rx_pages.proofs.Words.{cond-true, cond-false, or_parts, nat_tests, bytes_decides, ◌≡◌, ◌∙◌, ℕ, suc, ◌+◌, Bool, true, false, List, [], ◌∷◌, ◌++◌, Some, refl, ap, sym, subst, arith, ◌&&◌, not, nat_le, Result, Ok, length, Chars, both, by_test, common_steps, Syntax, same, is_among, Tag, Token, tag, character, reference, kept, section, comment, StartTag, Tree, end, element, after_text, has_element, Item, start_tag_of, text_of, enders, is_omissible, is_held, is_ended_by, Line, inside_of, parent_of, enders_of, Phase, within, under_start, after_end, is_innermost, has_ended, is_before_root, first_row, Content, Kind, Place, outside, place_inside, is_alone, is_html, is_plaintext, is_self_closed, hides, drops_line_feed, IsStartTag, IsEndTag, Drops, shown, Holds, nothing, a_text, alone, unclosed, root_name, a_line_feed, another, a_comment, Event, says, finishes, Nesting, Step, ended_under, ended_by_end, over, begun_under, line_above, step_by, nest_step, Goes, stands, goes, with_element, with_text, told_trees}
use Rattle.rx_grammar.specs.Pages.{closed, no_more}
use Rattle.rx_grammar.specs.declared.faults.Kind.TheVariants as kind
use Rattle.rx_pages.specs.Nesting.{begins, told}
use Rattle.rx_pages.proofs.Contents.{omissible_html}
use Rattle.rx_pages.proofs.Steps.{inside_at, in_line, after_one, undropped, dropped, of_end, passing, ended}

pub has_after_text : (names : List Chars) (chars : Chars) (nodes : Tree) → has_element names (after_text chars nodes) ≡ has_element names nodes
has_after_text names (c ∷ chars) end = refl
has_after_text names _ _ = refl

pub not_deeper : (depth n left : ℕ) → n + suc left ≡ depth → nat_le depth n ≡ false
not_deeper depth n left e = grind (arith, nat_tests, common_steps)

-- no open element ends before a start tag that isn't in the innermost one's row
pub none_ended : (syntax : Syntax) (line : Line) (name : Chars) → is_among (enders_of syntax line) name ≡ false → under_start syntax name line ≡ line
none_ended syntax [] name h = by_test {G = under_start syntax name [] ≡ []} (is_html outside.content) (λ e. refl) (λ e. refl)
none_ended syntax (t ∷ above) name h =
    by_test {G = under_start syntax name (t ∷ above) ≡ t ∷ above} (is_html (inside_of syntax (t ∷ above)).content) (λ e. cond-true _ _ _ e ∙ cond-false _ _ _ h) (λ e. cond-false _ _ _ e)

pub none_told : (syntax : Syntax) (line : Line) (name : Chars) → is_among (enders_of syntax line) name ≡ false → ended_under syntax name line ≡ []
none_told syntax [] name h = refl
none_told syntax (t ∷ above) name h =
    by_test {G = ended_under syntax name (t ∷ above) ≡ []} (is_html (inside_of syntax (t ∷ above)).content) (λ e. cond-true _ _ _ e ∙ cond-false _ _ _ h) (λ e. cond-false _ _ _ e)

-- before a phase's first or a further element
pub record Ready (phase : Phase) (name : Chars) : Type 0 where
  pub not_ended : has_ended phase ≡ false
  pub named : (is_before_root phase && not (same name root_name)) ≡ false

-- the step of a start tag that may stand here
pub opening : (syntax : Syntax) (depth : ℕ) (line : Line) (phase : Phase) (item : Item) (t : Tag) → t.closing ≡ false → is_self_closed syntax (inside_of syntax line) t ≡ false → is_plaintext syntax (inside_of syntax line) t ≡ false
    → is_among (enders_of syntax line) t.name ≡ false → nat_le depth (length line) ≡ false → Ready phase t.name
    → step_by syntax depth (record { line = line; phase = phase; drops = false }) item (tag t) ≡ Ok (begun_under syntax item t line [])
opening syntax depth line phase item t c sc pl among room ready = rw (none_ended syntax line t.name among, none_told syntax line t.name among, ready.not_ended, ready.named, pl, sc, room, c) refl

-- the step of the innermost element's end tag
pub closing : (syntax : Syntax) (depth : ℕ) (line : Line) (s : StartTag) (item : Item) (t : Tag) → t.closing ≡ true → s.name ≡ t.name
    → step_by syntax depth (in_line (s ∷ line)) item (tag t) ≡ Ok (record { next = over line; events = finishes ∷ [] })
closing syntax depth line s item t c e =
    of_end t.closing _ _ _ _ c
    ∙ (passing _ _ (ap (λ l. first_row ((not (is_innermost t.name l), kind.Mismatch) ∷ [])) stay ∙ rw is_same refl)
    ∙ (ap (λ l. Ok (record { next = over (line_above l); events = ended_by_end syntax t.name (s ∷ line) ++ finishes ∷ [] })) stay ∙ ap (λ es. Ok (record { next = over line; events = es ++ finishes ∷ [] })) (cond-false _ _ _ (stays (is_omissible (inside_of syntax line) s.name) (same s.name t.name) (not (is_held (parent_of line) s.name)) is_same))))
  where
    is_same : same s.name t.name ≡ true
    is_same = (bytes_decides s.name t.name).1 e

    stays : (a b o : Bool) → b ≡ true → (a && not b && o) ≡ false
    stays true b o h = rw h refl
    stays false b o h = refl

    stay : after_end syntax t.name (s ∷ line) ≡ s ∷ line
    stay = cond-false _ _ _ (stays (is_omissible (inside_of syntax line) s.name) (same s.name t.name) (not (is_held (parent_of line) s.name)) is_same)

pub of_token : (syntax : Syntax) (depth : ℕ) (n : Nesting) (item : Item) (token : Token) (r : Result Step Kind) → item.token ≡ token → step_by syntax depth n item token ≡ r → nest_step syntax depth n item ≡ r
of_token syntax depth n item token r e h = ap (λ k. step_by syntax depth n item k) e ∙ h

-- the step of a token of text
pub text_steps : (syntax : Syntax) (depth : ℕ) (line : Line) (phase : Phase) (item : Item) (token : Token) (chars : Chars) → text_of token ≡ Some chars
    → step_by syntax depth (record { line = line; phase = phase; drops = false }) item token ≡ Ok (record { next = record { line = line; phase = phase; drops = false }; events = told phase chars })
text_steps syntax depth line phase item (character c) chars h = ap (λ o. Ok (record { next = record { line = line; phase = phase; drops = false }; events = told phase o })) (cc)
text_steps syntax depth line phase item (reference c) chars h = ap (λ o. Ok (record { next = record { line = line; phase = phase; drops = false }; events = told phase o })) (cc)
text_steps syntax depth line phase item (kept k) chars h = ap (λ o. Ok (record { next = record { line = line; phase = phase; drops = false }; events = told phase o })) (cc)
text_steps syntax depth line phase item (section k) chars h = ap (λ o. Ok (record { next = record { line = line; phase = phase; drops = false }; events = told phase o })) (cc)
text_steps syntax depth line phase item _ chars h = absurd (cc)

-- What the tokens tell before those that follow: where these tell that no more nodes stand at this level, the nodes are all at it.
pub record Reads (syntax : Syntax) (depth : ℕ) (meant : Nesting → Type 0) (n : Nesting) (from : List Item) (later : List Event) (nodes : Tree) : Type 0 where
  pub events : List Event
  pub going : Goes syntax depth meant n from events
  pub tells : (more : List Tree) → told_trees later ≡ end ∷ more → told_trees events ≡ nodes ∷ more

-- whether a place is meant doesn't depend on a line feed that is dropped next
abbrev pub Careless : (Nesting → Type 0) → Type 0
Careless meant = (line : Line) → meant (in_line line) → meant (inside_at line true)

module _ (syntax : Syntax) (depth : ℕ) (meant : Nesting → Type 0) (careless : Careless meant) where
  after_drop : {d : Bool} {content : Content} {from inner : List Item} {events : List Event} (line : Line) → Drops d content from inner → content ≡ (inside_of syntax line).content → Goes syntax depth meant (in_line line) inner events
      → Goes syntax depth meant (inside_at line d) from events
  after_drop {d = d} line (a_line_feed item h c l) p g =
      goes item (record { next = in_line line; events = [] }) (c ∙ p) (ap (λ b. step_by syntax depth (inside_at line b) item item.token) h ∙ dropped syntax depth line item item.token l) g
  after_drop {d = d} line (another item h) p (goes item2 step c e g) = goes item step c (undropped syntax depth line within d item item.token h ∙ e) g
  after_drop {d = true} line no_more p (stands n m) = stands (inside_at line true) (careless line m)
  after_drop {d = false} line no_more p (stands n m) = stands (inside_at line false) m

  -- an element that is its start tag alone
  pub alone_goes : (line : Line) (phase : Phase) (item : Item) (t : Tag) (from : List Item) (later : List Event) → IsStartTag syntax (inside_of syntax line) item t → is_among (enders_of syntax line) t.name ≡ false → nat_le depth (length line) ≡ false → Ready phase t.name
      → is_alone syntax (inside_of syntax line) t ≡ true → Goes syntax depth meant (over line) from later
      → Goes syntax depth meant (record { line = line; phase = phase; drops = false }) (item ∷ from) (begins (start_tag_of item t) (hides (inside_of syntax line) t) ∷ finishes ∷ later)
  alone_goes line phase item t from later o among room ready is g =
      let e = of_token syntax depth (record { line = line; phase = phase; drops = false }) item (tag t) _ o.token (opening syntax depth line phase item t o.start o.allowed o.known among room ready ∙ ap Ok (cond-true _ _ _ is)) in
      goes item (record { next = over line; events = begins (start_tag_of item t) (hides (inside_of syntax line) t) ∷ finishes ∷ [] }) o.content e g

  -- a start tag before what is inside
  pub open_goes : (line : Line) (phase : Phase) (item : Item) (t : Tag) (from inner : List Item) (later : List Event) → IsStartTag syntax (inside_of syntax line) item t → is_among (enders_of syntax line) t.name ≡ false → nat_le depth (length line) ≡ false → Ready phase t.name
      → is_alone syntax (inside_of syntax line) t ≡ false → Drops (drops_line_feed (inside_of syntax line) t) (place_inside syntax (inside_of syntax line) t.name).content from inner → Goes syntax depth meant (in_line (start_tag_of item t ∷ line)) inner later
      → Goes syntax depth meant (record { line = line; phase = phase; drops = false }) (item ∷ from) (begins (start_tag_of item t) (hides (inside_of syntax line) t) ∷ later)
  open_goes line phase item t from inner later o among room ready isnt drop g =
      let e = of_token syntax depth (record { line = line; phase = phase; drops = false }) item (tag t) _ o.token (opening syntax depth line phase item t o.start o.allowed o.known among room ready ∙ ap Ok (cond-false _ _ _ isnt)) in
      goes item (record { next = inside_at (start_tag_of item t ∷ line) (drops_line_feed (inside_of syntax line) t); events = begins (start_tag_of item t) (hides (inside_of syntax line) t) ∷ [] }) o.content e (after_drop (start_tag_of item t ∷ line) drop refl g)

  -- an end tag, and what follows
  pub close_goes : (line : Line) (s : StartTag) (item : Item) (rest : List Item) (later : List Event) → IsEndTag (inside_of syntax (s ∷ line)).content s.name item → Goes syntax depth meant (over line) rest later
      → Goes syntax depth meant (in_line (s ∷ line)) (item ∷ rest) (finishes ∷ later)
  close_goes line s item rest later c g =
      goes item (record { next = over line; events = finishes ∷ [] }) c.content (of_token syntax depth (in_line (s ∷ line)) item (tag c.t) _ c.token (closing syntax depth line s item c.t c.end (sym c.same))) g

  -- an omitted end tag before what follows
  pub omitted_goes : (line : Line) (s : StartTag) (rest : List Item) (later : List Event) → is_ended_by (inside_of syntax line) (parent_of line) s.name rest ≡ true → Goes syntax depth meant (in_line line) rest later
      → Goes syntax depth meant (in_line (s ∷ line)) rest (finishes ∷ later)
  omitted_goes line s [] later h g = absurd (cc)
  omitted_goes line s (item ∷ items) later h (goes item2 step c e g) =
      let k = both (is_omissible (inside_of syntax line) s.name) _ h in
      let all = omissible_html syntax line s.name k.0 in
      goes item (after_one step) (c ∙ (all.here ∙ sym all.inside)) (ended syntax depth s line item item.token k.0 k.1 step e) g

  pub ready_within : (name : Chars) → Ready within name
  ready_within name = record { not_ended = refl; named = refl }

  pub nothing_shown : (hidden : Bool) → shown hidden end ≡ end
  nothing_shown true = refl
  nothing_shown false = refl

  pub one_level : (left n : ℕ) → n + suc left ≡ depth → suc n + left ≡ depth
  one_level left n e = omega arith

  -- a whole element that isn't its start tag alone, and the nodes behind it
  pub whole : (line : Line) (phase : Phase) (left : ℕ) (item : Item) (t : Tag) (from inner : List Item) (inside nodes : Tree) (later behind : List Event) → Reads syntax depth meant (in_line (start_tag_of item t ∷ line)) inner (finishes ∷ behind) inside
      → IsStartTag syntax (inside_of syntax line) item t → is_among (enders_of syntax line) t.name ≡ false → length line + suc left ≡ depth → Ready phase t.name → is_alone syntax (inside_of syntax line) t ≡ false
      → Drops (drops_line_feed (inside_of syntax line) t) (place_inside syntax (inside_of syntax line) t.name).content from inner → {hidden : Bool} → hidden ≡ hides (inside_of syntax line) t → ((more : List Tree) → told_trees later ≡ end ∷ more → told_trees behind ≡ nodes ∷ more)
      → Reads syntax depth meant (record { line = line; phase = phase; drops = false }) (item ∷ from) later (element (start_tag_of item t) (shown hidden inside) nodes)
  whole line phase left item t from inner inside nodes later behind i o among d ready isnt drop hid tells =
      record {
        events = begins (start_tag_of item t) (hides (inside_of syntax line) t) ∷ i.events;
        going = open_goes line phase item t from inner i.events o among (not_deeper depth (length line) left d) ready isnt drop i.going;
        tells = λ more e. ap (with_element (start_tag_of item t) (hides (inside_of syntax line) t)) (i.tells (nodes ∷ more) (ap (λ ts. end ∷ ts) (tells more e)))
            ∙ ap (λ x. element (start_tag_of item t) (shown x inside) nodes ∷ more) (sym hid);
      }

  -- From where nodes begin to where they end, in an open element, the tokens tell them.
  pub runs : {left : ℕ} {place : Place} {parent : Chars} {from to : List Item} {nodes : Tree} → Holds syntax left place parent from to nodes → (s : StartTag) (above : Line) → place ≡ inside_of syntax (s ∷ above) → parent ≡ s.name
      → length (s ∷ above) + left ≡ depth → has_element (enders_of syntax (s ∷ above)) nodes ≡ false → (later : List Event) → Goes syntax depth meant (in_line (s ∷ above)) to later → Reads syntax depth meant (in_line (s ∷ above)) from later nodes
  runs nothing s above p q d no_child later g = record { events = later; going = g; tells = λ more e. e }
  runs (a_text {nodes = nodes} item chars c h hs) s above p q d no_child later g =
      let r = runs hs s above p q d (sym (has_after_text (enders_of syntax (s ∷ above)) chars nodes) ∙ no_child) later g in
      record {
        events = says chars ∷ r.events;
        going = goes item (record { next = in_line (s ∷ above); events = says chars ∷ [] }) (c ∙ ap (λ x. x.content) p) (text_steps syntax depth (s ∷ above) within item item.token chars h) r.going;
        tells = λ more e. ap (with_text chars) (r.tells more e);
      }
  runs (a_comment item c h hs) s above p q d no_child later g =
      let r = runs hs s above p q d no_child later g in
      record {
        events = r.events;
        going = goes item (record { next = in_line (s ∷ above); events = [] }) (c ∙ ap (λ x. x.content) p) (of_token syntax depth (in_line (s ∷ above)) item comment _ h refl) r.going;
        tells = r.tells;
      }
  runs (alone {left = left} {from = from} {nodes = nodes} item t o is hs) s above p q d no_child later g =
      let k = or_parts (is_among (enders_of syntax (s ∷ above)) t.name) _ no_child in
      let r = runs hs s above p q d k.1 later g in
      let line = s ∷ above in
      record {
        events = begins (start_tag_of item t) (hides (inside_of syntax line) t) ∷ finishes ∷ r.events;
        going = alone_goes line within item t from r.events (subst (λ x. IsStartTag syntax x item t) p o) k.0 (not_deeper depth (length line) left d) (ready_within t.name) (sym (ap (λ x. is_alone syntax x t) p) ∙ is) r.going;
        tells = λ more e. ap (λ ts. with_element (start_tag_of item t) (hides (inside_of syntax line) t) (end ∷ ts)) (r.tells more e) ∙ ap (λ x. element (start_tag_of item t) x nodes ∷ more) (nothing_shown (hides (inside_of syntax line) t));
      }
  runs (closed {left = left} {from = from} {inner = inner} {after = rest} {inside = inside} {nodes = nodes} item close t o isnt drop hin no_row c hs) s above p q d no_child later g =
      let k = or_parts (is_among (enders_of syntax (s ∷ above)) t.name) _ no_child in
      let r = runs hs s above p q d k.1 later g in
      let line = s ∷ above in
      let g2 = close_goes line (start_tag_of item t) close rest r.events (subst (λ x. IsEndTag (place_inside syntax x t.name).content t.name close) p c) r.going in
      let i = runs hin (start_tag_of item t) line (ap (λ x. place_inside syntax x t.name) p) refl (one_level left (length line) d) (sym (ap (λ x. has_element (enders x t.name) inside) p) ∙ no_row) (finishes ∷ r.events) g2 in
      whole line within left item t from inner inside nodes later r.events i (subst (λ x. IsStartTag syntax x item t) p o) k.0 d (ready_within t.name) (sym (ap (λ x. is_alone syntax x t) p) ∙ isnt)
      (subst (λ x. Drops (drops_line_feed x t) (place_inside syntax x t.name).content from inner) p drop) (ap (λ x. hides x t) p) r.tells
  runs (unclosed {left = left} {parent = parent} {from = from} {inner = inner} {after = rest} {inside = inside} {nodes = nodes} item t o isnt drop hin no_row omits hs) s above p q d no_child later g =
      let k = or_parts (is_among (enders_of syntax (s ∷ above)) t.name) _ no_child in
      let r = runs hs s above p q d k.1 later g in
      let line = s ∷ above in
      let g2 = omitted_goes line (start_tag_of item t) rest r.events (sym (ap (λ x. is_ended_by x parent t.name rest) p ∙ ap (λ x. is_ended_by (inside_of syntax line) x t.name rest) q) ∙ omits) r.going in
      let i = runs hin (start_tag_of item t) line (ap (λ x. place_inside syntax x t.name) p) refl (one_level left (length line) d) (sym (ap (λ x. has_element (enders x t.name) inside) p) ∙ no_row) (finishes ∷ r.events) g2 in
      whole line within left item t from inner inside nodes later r.events i (subst (λ x. IsStartTag syntax x item t) p o) k.0 d (ready_within t.name) (sym (ap (λ x. is_alone syntax x t) p) ∙ isnt)
      (subst (λ x. Drops (drops_line_feed x t) (place_inside syntax x t.name).content from inner) p drop) (ap (λ x. hides x t) p) r.tells
