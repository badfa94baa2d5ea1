-- The front of a page goes on to a page: what is open is closed, from the innermost element on.
use Rattle.rx_pages.proofs.Words.{◌≡◌, ◌∙◌, ℕ, ◌+◌, ◌-◌, ◌<◌, ◌≤◌, Bool, true, false, List, [], ◌∷◌, ◌++◌, Option, Some, None, refl, ap, sym, subst, subst₂, length, append_assoc, append-nil, arith, ◌&&◌, ◌==◌, not, nat_le, codes, Ok, encode_utf8_all, list_all, len_utf8, all_scalars, encodes, scalar, encodes-append, and_from, cond-false, nat_tests, greater_than_sign, Chars, both, untrue, and-false, PlacedCharacter, line_feed, carriage_return, placed, preprocessed, without_mark, Syntax, Html, Xhtml, Tag, Token, tag, SpellsTag, Spells, a_tag, outside, is_alone, is_self_closed, is_plaintext, drops_line_feed, StartTag, values, Item, last_from, Spelled, no_more, one, Fits, AllFit, is_literal, no_section_end, start_tag_of, has_no_nul, Document, Line, inside_of, Phase, before, within, after, Stands, not_begun, still_open, Begun, Limits, spells_each, list_all-append, Event, Nesting, Step, content_at, over, step_by, nest_step, Goes, stands, goes, IsAt, item_of_run, FrontsClose, end_tag, end_tags, closing, IsPage, Bare, scalars-append}
use Rattle.rx_reader.proofs.Common.{ended}
use Rattle.rx_pages.specs.Nesting as nesting
use Rattle.rx_pages.specs.Closings.{closed}
use Rattle.rx_pages.proofs.Nested as nested
use Rattle.rx_pages.proofs.FrontBack.{fronts_stand}
use Rattle.rx_pages.proofs.Snocs.{spelled_snoc, goes_snoc, sections_snoc}
use Rattle.rx_pages.proofs.FaultsRead.{no_literal}
use Rattle.rx_pages.proofs.BytesOn.{after_only}
use Rattle.rx_pages.proofs.OpenNames.{is_fair, IsName, is_steady, ending, ending_text, spells_end, name_steady}
use Rattle.rx_pages.proofs.OpenLines.{both_fair, scalars_page, AllNamed, arrives}
use Rattle.rx_pages.proofs.FrontRead.{AllBelow, below_behind, page_below}
use Rattle.rx_pages.proofs.Below.{page_behind, opening, fronts_lead, flags_behind, spelled_less, spelled_last}

-- the characters of a page that are entered
abbrev pub page_entries : List ℕ → List PlacedCharacter
page_entries cs = preprocessed false (without_mark (placed 0 cs))

-- characters that are entered as they are
placed_steady : (after_return : Bool) (at : ℕ) (xs : List ℕ) → list_all is_steady xs ≡ true → preprocessed after_return (placed at xs) ≡ placed at xs
placed_steady after_return at [] s = refl
placed_steady after_return at (x ∷ xs) s =
    let k = both (is_steady x) _ s in
    let n = both (not (x == carriage_return)) (not (x == line_feed)) k.0 in
    cond-false _ _ _ (ap (λ b. after_return && b) (untrue (x == line_feed) n.1) ∙ and-false after_return)
    ∙ (λ i. record { value = cond-false (x == carriage_return) line_feed x (untrue (x == carriage_return) n.0) i; first = at; last = at + len_utf8 x - 1 } ∷ placed_steady (x == carriage_return) (at + len_utf8 x) xs k.1 i)

pub entered_tag : (cs text : List ℕ) → list_all is_steady text ≡ true → page_entries (cs ++ 60 ∷ text) ≡ page_entries cs ++ placed (length (encodes cs)) (60 ∷ text)
entered_tag [] text s = placed_steady false 0 (60 ∷ text) s
entered_tag (c ∷ cs) text s = page_behind (c ∷ cs) (60 ∷ text) refl ∙ ap (λ es. page_entries (c ∷ cs) ++ es) (placed_steady _ _ (60 ∷ text) s)

pub values_placed : (at : ℕ) (cs : List ℕ) → values (placed at cs) ≡ cs
values_placed at [] = refl
values_placed at (c ∷ cs) = ap (λ x. c ∷ x) (values_placed (at + len_utf8 c) cs)

pub all_append : {A : Type 0} (test : A → Bool) (a b : List A) → list_all test a ≡ true → list_all test b ≡ true → list_all test (a ++ b) ≡ true
all_append test a b h k = list_all-append test a b ∙ and_from (list_all test a) (list_all test b) h k

some_placed : (at : ℕ) (cs : List ℕ) → list_all is_fair cs ≡ true → has_no_nul (placed at cs) ≡ true
some_placed at [] h = refl
some_placed at (c ∷ cs) h =
    let k = both (is_fair c) (list_all is_fair cs) h in and_from (not (c == 0)) (has_no_nul (placed (at + len_utf8 c) cs)) (both (scalar c) (not (c == 0)) k.0).1 (some_placed (at + len_utf8 c) cs k.1)

fair_scalars : (cs : List ℕ) → list_all is_fair cs ≡ true → all_scalars cs ≡ true
fair_scalars [] h = refl
fair_scalars (c ∷ cs) h = let k = both (is_fair c) (list_all is_fair cs) h in and_from (scalar c) (all_scalars cs) (both (scalar c) (not (c == 0)) k.0).0 (fair_scalars cs k.1)

-- tags are no longer than the page
fits_one : (limit : ℕ) (item : Item) (token : Token) → item.last + 1 ≤ limit → Fits limit item token
fits_one limit item (tag t) h = omega arith
fits_one limit item _ h = tt

pub last_within : (end last : ℕ) (run rest : List PlacedCharacter) → last < end → AllBelow end (run ++ rest) → last_from last run < end
last_within end last [] rest h w = h
last_within end last (e ∷ run) rest h w = last_within end e.last run rest w.0 w.1

pub all_fit : (syntax : Syntax) (limit end : ℕ) → end ≤ limit → {entries : List PlacedCharacter} {next : Option ℕ} {items : List Item} → Spelled syntax entries next items → AllBelow end entries → AllFit limit items
all_fit syntax limit end h no_more w = tt
all_fit syntax limit end h (one c run rest item sp f l more) w =
    let last = last_within end c.last run rest w.0 w.1 in
    (fits_one limit item item.token (omega arith), all_fit syntax limit end h more (below_behind end run rest w.1))

-- the empty root's start tag
abbrev html_tag : Tag
html_tag = record { closing = false; name = codes "html"; attributes = []; slash = false }

html_spelled : (s : Syntax) → SpellsTag s (codes "html>") html_tag
html_spelled Html = spells_each Html _ _ (record { last = _; run = refl; whole = refl; is_tag = refl })
html_spelled Xhtml = spells_each Xhtml _ _ (record { last = _; run = refl; whole = refl; is_tag = refl })

html_name : (s : Syntax) → IsName s (codes "html")
html_name Html = record { whole = refl; low = refl; fair = refl }
html_name Xhtml = record { whole = refl; low = refl; fair = refl }

-- it may stand, and has an inside
record MayStand (s : Syntax) : Type 0 where
  allowed : is_self_closed s outside html_tag ≡ false
  known : is_plaintext s outside html_tag ≡ false
  holds : is_alone s outside html_tag ≡ false

html_stands : (s : Syntax) → MayStand s
html_stands Html = record { allowed = refl; known = refl; holds = refl }
html_stands Xhtml = record { allowed = refl; known = refl; holds = refl }

module _ (syntax : Syntax) (depth : ℕ) where
  -- These characters are whole tokens at the front of a page, before a `<` and, where the page is over, before nothing.
  pub record Ahead (cs : List ℕ) (items : List Item) (place : Nesting) (events : List Event) : Type 0 where
    pub scalars : all_scalars cs ≡ true
    pub no_nul : has_no_nul (page_entries cs) ≡ true
    pub spelled : Spelled syntax (page_entries cs) (Some 60) items
    pub last : place.phase ≡ after → Spelled syntax (page_entries cs) None items
    pub sections : no_section_end items false false ≡ true
    pub going : Goes syntax depth (λ m. m ≡ place) nesting.not_begun items events

  -- one more tag
  module _ (cs : List ℕ) (items : List Item) (place : Nesting) (events : List Event) (a : Ahead cs items place events) (text : Chars) (t : Tag) (fair : list_all is_fair text ≡ true) (steady : list_all is_steady text ≡ true)
      (spells : (next : Option ℕ) → Spells syntax (content_at syntax place) (60 ∷ text) next (tag t)) where
    abbrev start : ℕ
    start = length (encodes cs)

    abbrev pub added : Item
    added = item_of_run (content_at syntax place) (tag t) (placed start (60 ∷ text))

    spelled_more : (next : Option ℕ) → Spelled syntax (page_entries (cs ++ 60 ∷ text)) next (items ++ added ∷ [])
    spelled_more next =
        subst (λ es. Spelled syntax es next (items ++ added ∷ [])) (sym (entered_tag cs text steady))
        (spelled_snoc syntax (record { value = 60; first = start; last = start + len_utf8 60 - 1 }) (placed (start + len_utf8 60) text) next added a.spelled refl
        (subst (λ x. Spells syntax (content_at syntax place) (60 ∷ x) next (tag t)) (sym (values_placed (start + len_utf8 60) text)) (spells next)) refl refl)

    no_mark : ((flags_behind items false false).0 && is_literal greater_than_sign added) ≡ false
    no_mark = ap (λ b. (flags_behind items false false).0 && b) (no_literal greater_than_sign (content_at syntax place) (tag t) (λ c e. cc)) ∙ and-false (flags_behind items false false).0

    fair_all : list_all is_fair (60 ∷ text) ≡ true
    fair_all = and_from (is_fair 60) (list_all is_fair text) refl fair

    pub adds : (step : Step) → nest_step syntax depth place added ≡ Ok step → Ahead (cs ++ 60 ∷ text) (items ++ added ∷ []) step.next (events ++ step.events)
    adds step e =
        record {
          scalars = scalars-append cs (60 ∷ text) a.scalars (fair_scalars (60 ∷ text) fair_all);
          no_nul = subst (λ es. has_no_nul es ≡ true) (sym (entered_tag cs text steady)) (all_append (λ (x : PlacedCharacter). not (x.value == 0)) (page_entries cs) (placed start (60 ∷ text)) a.no_nul (some_placed start (60 ∷ text) fair_all));
          spelled = spelled_more (Some 60);
          last = λ h. spelled_more None;
          sections = sections_snoc items added false false a.sections no_mark;
          going = goes_snoc syntax depth place added step a.going refl e;
        }

  -- they lead to these open elements, and tell this on the way
  pub record Reaches (cs : List ℕ) (line : Line) (phase : Phase) (events : List Event) : Type 0 where
    pub items : List Item
    pub place : Nesting
    pub at : IsAt line phase place
    pub ahead : Ahead cs items place events

  -- a tag steps by the open elements alone
  tag_steps : (line : Line) (phase : Phase) (place : Nesting) (item : Item) (t : Tag) → IsAt line phase place → step_by syntax depth place item (tag t) ≡ step_by syntax depth (record { line = line; phase = phase; drops = false }) item (tag t)
  tag_steps line phase place item t at = λ i. step_by syntax depth (record { line = at.line_is i; phase = at.phase_is i; drops = false }) item (tag t)

  over_line : (line : Line) → (over line).line ≡ line
  over_line [] = refl
  over_line (t ∷ above) = refl

  -- the innermost element's end tag
  closes_one : (cs : List ℕ) (t : StartTag) (above : Line) (events : List Event) → IsName syntax t.name → Reaches cs (t ∷ above) within events → Reaches (cs ++ end_tag t.name) above (over above).phase (events ++ nesting.finishes ∷ [])
  closes_one cs t above events n r =
      let text : Chars = ending_text t.name in
      let spells : (next : Option ℕ) → Spells syntax (content_at syntax r.place) (60 ∷ text) next (tag (ending t.name)) = λ next. subst (λ l. Spells syntax (inside_of syntax l).content (60 ∷ text) next (tag (ending t.name))) (sym r.at.line_is) (spells_end syntax t above n next) in
      let fair : list_all is_fair text ≡ true = all_append is_fair (47 ∷ t.name) (62 ∷ []) (and_from (is_fair 47) (list_all is_fair t.name) refl n.fair) refl in
      let steady : list_all is_steady text ≡ true = all_append is_steady (47 ∷ t.name) (62 ∷ []) (name_steady syntax t.name n) refl in
      let single : Item = added cs r.items r.place events r.ahead text (ending t.name) fair steady spells in
      let step : Step = record { next = over above; events = nesting.finishes ∷ [] } in
      record {
        items = r.items ++ single ∷ [];
        place = over above;
        at = record { line_is = over_line above; phase_is = refl };
        ahead = adds cs r.items r.place events r.ahead text (ending t.name) fair steady spells step (tag_steps (t ∷ above) within r.place single (ending t.name) r.at ∙ nested.closing syntax depth above t single (ending t.name) refl refl);
      }

  -- an end for each open element
  abbrev pub ends_of : Line → List Event
  ends_of [] = []
  ends_of (t ∷ above) = nesting.finishes ∷ ends_of above

  closes_all : (line : Line) (cs : List ℕ) (events : List Event) → AllNamed syntax depth line → Reaches cs line (over line).phase events → Reaches (cs ++ end_tags line) [] after (events ++ ends_of line)
  closes_all [] cs events n r = subst₂ (λ x es. Reaches x [] after es) (sym (append-nil cs)) (sym (append-nil events)) r
  closes_all (t ∷ above) cs events n r =
      subst₂ (λ x es. Reaches x [] after es) (append_assoc cs (end_tag t.name) (end_tags above)) (append_assoc events (nesting.finishes ∷ []) (ends_of above))
      (closes_all above (cs ++ end_tag t.name) (events ++ nesting.finishes ∷ []) n.1 (closes_one cs t above events n.0 r))

  ends_bare : (line : Line) → Bare (ends_of line)
  ends_bare [] = tt
  ends_bare (t ∷ above) = ends_bare above

  -- these characters are a page, which tells this and then ends, and elements without attributes
  pub record Told (cs : List ℕ) (events : List Event) : Type 0 where
    pub more : List Event
    pub bare : Bare more
    pub reaches : Reaches cs [] after (events ++ more)

  -- the empty root
  room : (depth : ℕ) → 1 ≤ depth → nat_le depth 0 ≡ false
  room depth h = grind (arith, nat_tests)

  closes_root : (cs : List ℕ) (stood : Bool) (events : List Event) → 1 ≤ depth → Reaches cs [] (before stood) events → Told (cs ++ codes "<html></html>") events
  closes_root cs stood events d r =
      let m = html_stands syntax in
      let text : Chars = codes "html>" in
      let spells : (next : Option ℕ) → Spells syntax (content_at syntax r.place) (60 ∷ text) next (tag html_tag) = λ next. subst (λ l. Spells syntax (inside_of syntax l).content (60 ∷ text) next (tag html_tag)) (sym r.at.line_is) (a_tag text html_tag refl (html_spelled syntax)) in
      let single : Item = added cs r.items r.place events r.ahead text html_tag refl refl spells in
      let begun : Step = record { next = record { line = start_tag_of single html_tag ∷ []; phase = within; drops = drops_line_feed outside html_tag }; events = nesting.begins (start_tag_of single html_tag) false ∷ [] } in
      let opens : nest_step syntax depth r.place single ≡ Ok begun =
      tag_steps [] (before stood) r.place single html_tag r.at
      ∙ (opening syntax depth [] (before stood) single html_tag refl m.allowed m.known refl (room depth d) (record { not_ended = refl; named = refl }) ∙ ap (λ (x : Step). Ok x) (cond-false _ _ _ m.holds)) in
      let root : Reaches (cs ++ codes "<html>") (start_tag_of single html_tag ∷ []) within (events ++ begun.events) =
      record { items = r.items ++ single ∷ []; place = begun.next; at = record { line_is = refl; phase_is = refl }; ahead = adds cs r.items r.place events r.ahead text html_tag refl refl spells begun opens } in
      record {
        more = nesting.begins (start_tag_of single html_tag) false ∷ nesting.finishes ∷ [];
        bare = (refl, tt);
        reaches = subst₂ (λ x es. Reaches x [] after es) (append_assoc cs (codes "<html>") (codes "</html>")) (append_assoc events begun.events (nesting.finishes ∷ []))
            (closes_one (cs ++ codes "<html>") (start_tag_of single html_tag) [] (events ++ begun.events) (html_name syntax) root);
      }

  closes_line : (line : Line) (cs : List ℕ) (events : List Event) → AllNamed syntax depth line → Reaches cs line (over line).phase events → Told (cs ++ end_tags line) events
  closes_line line cs events n r = record { more = ends_of line; bare = ends_bare line; reaches = closes_all line cs events n r }

  pub closes : (cs : List ℕ) {items : List Item} {line : Line} {phase : Phase} (events : List Event) → 1 ≤ depth → Stands syntax depth items line phase → AllNamed syntax depth line → Reaches cs line phase events → Told (cs ++ closing line phase) events
  closes cs events d (not_begun stood lead) n r = closes_root cs stood events d r
  closes cs events d (still_open {t = t} {above = above} levels op e) n r = closes_line (t ∷ above) cs events n r
  closes cs events d (ended tree document) n r = closes_line [] cs events n r

  pub as_meant : (meant : Nesting → Type 0) (place : Nesting) → meant place → {n : Nesting} {items : List Item} {events : List Event} → Goes syntax depth (λ m. m ≡ place) n items events → Goes syntax depth meant n items events
  as_meant meant place h (stands n p) = stands n (subst meant (sym p) h)
  as_meant meant place h (goes item step c e g) = goes item step c e (as_meant meant place h g)

  -- at the page's end
  pub is_page : (cs bytes : List ℕ) (limits : Limits) (events : List Event) → limits.depth ≡ depth → encodes cs ≡ bytes → Reaches cs [] after events → IsPage syntax limits bytes
  is_page cs bytes limits events d e r =
      let sp = r.ahead.last r.at.phase_is in
      let s = fronts_stand syntax depth (page_entries cs) None r.items [] after sp (record { events = events; going = as_meant (IsAt [] after) r.place r.at r.ahead.going }) in
      let p = after_only s refl in
      record {
        tree = p.0;
        page = λ wide w.
            record {
              entries = page_entries cs;
              items = r.items;
              size = w.page;
              read = record { characters = cs; scalars = r.ahead.scalars; forms = e; read = refl };
              no_nul = r.ahead.no_nul;
              spelled = sp;
              fit = all_fit syntax wide.tag (length bytes) w.tag sp (subst (λ x. AllBelow (length x) (page_entries cs)) e (page_below cs));
              sections = r.ahead.sections;
              document = subst (λ n. Document syntax n r.items p.0) (sym (w.depth ∙ d)) p.1;
            };
      }

-- where the front of a page stands
pub record Fronted (syntax : Syntax) (limits : Limits) (bytes : List ℕ) (line : Line) (phase : Phase) : Type 0 where
  pub characters : List ℕ
  pub forms : encodes characters ≡ bytes
  pub named : AllNamed syntax limits.depth line
  pub events : List Event
  pub reaches : Reaches syntax limits.depth characters line phase events
  pub fit : AllFit limits.tag reaches.items

pub fronted : (syntax : Syntax) (limits : Limits) (bytes : List ℕ) (next : Option ℕ) (line : Line) (phase : Phase) → Begun syntax limits bytes next line phase → Fronted syntax limits bytes line phase
fronted syntax limits bytes next line phase b =
    let cs = b.read.characters in
    let same : b.entries ≡ page_entries cs = b.read.read in
    let no_nul : has_no_nul (page_entries cs) ≡ true = sym (ap has_no_nul same) ∙ b.no_nul in
    let sp : Spelled syntax (page_entries cs) next b.items = subst (λ es. Spelled syntax es next b.items) same b.spelled in
    let l = fronts_lead syntax limits.depth b.items line phase b.stands in
    let a = arrives syntax limits.depth sp l.going (both_fair (page_entries cs) (scalars_page cs b.read.scalars) no_nul) (record { nothing_open = λ e. refl; names = tt }) in
    record {
      characters = cs;
      forms = b.read.forms;
      named = subst (AllNamed syntax limits.depth) a.is_meant.line_is a.sound.names;
      events = l.events;
      reaches = record {
        items = b.items;
        place = a.place;
        at = a.is_meant;
        ahead = record { scalars = b.read.scalars; no_nul = no_nul; spelled = spelled_less syntax sp; last = λ h. spelled_last syntax sp (a.last h); sections = b.sections; going = a.going };
      };
      fit = b.fit;
    }

pub fronts_close : FrontsClose
fronts_close syntax limits bytes next line phase d b =
    let f = fronted syntax limits bytes next line phase b in
    let t = closes syntax limits.depth f.characters f.events d b.stands f.named f.reaches in
    is_page syntax limits.depth (f.characters ++ closing line phase) (closed bytes line phase) limits (f.events ++ t.more) refl
    (encodes-append f.characters (closing line phase) ∙ ap (λ x. x ++ encode_utf8_all (closing line phase)) f.forms) t.reaches
