-- What a nest has shown to begin, and not to end, are the open elements that the tree shows.
use Rattle.rx_nest.proofs.Common.{◌≡◌, ◌∙◌, ℕ, Bool, true, false, List, [], ◌∷◌, ◌++◌, refl, sym, ap, subst, append-nil, Ok, ◌||◌, not, if◌then◌else◌, map, Chars, Syntax, hides, StartTag, start_tag_of, Line, inside_of, Limits, Progress, page_read, reads_to, is_underway, ok_is, Event, begins, says, finishes, Nesting, Sign, begun, said, finished, Flags, is_hidden, Sight, see, sees, ended_sight, nothing_seen}
use Rattle.rx_nest.specs.ShownLines.{unplaced_tag, is_hidden_in, shown_line, outer, open_on, open_after, StandsUnderway, ShowsOpenOnes}
use Rattle.rx_nest.proofs.PageWalks.{page_held as page_walk}
use Rattle.rx_nest.proofs.TextSteps.{seen_on}

pub open_append : (line : Line) (xs ys : List Sign) → open_after line (xs ++ ys) ≡ open_after (open_after line xs) ys
open_append line [] ys = refl
open_append line (x ∷ xs) ys = open_append (open_on line x) xs ys

open_said : (line : Line) (chars : Chars) → open_after line (map said chars) ≡ line
open_said line [] = refl
open_said line (c ∷ chars) = open_said line chars

-- the flags of the open elements
abbrev pub flags_over : Syntax → Line → Flags
flags_over syntax [] = []
flags_over syntax (t ∷ above) = (not (is_hidden_in syntax above), is_hidden_in syntax (t ∷ above)) ∷ flags_over syntax above

hidden_is : (syntax : Syntax) (line : Line) → is_hidden (flags_over syntax line) ≡ is_hidden_in syntax line
hidden_is syntax [] = refl
hidden_is syntax (t ∷ above) = refl

module _ (syntax : Syntax) where
  -- what was seen stands for these open elements
  pub record Marks (line : Line) (sight : Sight) : Type 0 where
    pub flags_are : sight.flags ≡ flags_over syntax line
    pub open_are : open_after [] sight.signs ≡ shown_line syntax line

  -- an element begins
  begin_marks : (t : StartTag) (line : Line) (sight : Sight) → Marks line sight → Marks (t ∷ line) (see (begins t (hides (inside_of syntax line) (unplaced_tag t))) sight.flags sight.signs)
  begin_marks t line sight m = by (is_hidden sight.flags) (ap is_hidden m.flags_are ∙ hidden_is syntax line)
    where
      by : (b : Bool) → b ≡ is_hidden_in syntax line
          → Marks (t ∷ line) (if b then record { flags = (false, true) ∷ sight.flags; signs = sight.signs } else record { flags = (true, hides (inside_of syntax line) (unplaced_tag t)) ∷ sight.flags; signs = sight.signs ++ begun t ∷ [] })
      by true e = record {
        flags_are = ap (λ (fs : Flags). (false, true) ∷ fs) m.flags_are ∙ ap (λ b. (not b, b || hides (inside_of syntax line) (unplaced_tag t)) ∷ flags_over syntax line) e;
        open_are = m.open_are ∙ ap (λ b. if b then shown_line syntax line else t ∷ shown_line syntax line) e;
      }
      by false e = record {
        flags_are = ap (λ (fs : Flags). (true, hides (inside_of syntax line) (unplaced_tag t)) ∷ fs) m.flags_are ∙ ap (λ b. (not b, b || hides (inside_of syntax line) (unplaced_tag t)) ∷ flags_over syntax line) e;
        open_are = open_append [] sight.signs (begun t ∷ []) ∙ (ap (λ (x : Line). t ∷ x) m.open_are ∙ ap (λ b. if b then shown_line syntax line else t ∷ shown_line syntax line) e);
      }

  -- it ends
  closes : (b : Bool) (signs : List Sign) (t : StartTag) (rest : Line) → open_after [] signs ≡ (if b then rest else t ∷ rest) → open_after [] (signs ++ (if not b then finished ∷ [] else [])) ≡ rest
  closes true signs t rest e = ap (λ x. open_after [] x) (append-nil signs) ∙ e
  closes false signs t rest e = open_append [] signs (finished ∷ []) ∙ ap outer e

  finish_marks : (t : StartTag) (line : Line) (sight : Sight) → Marks (t ∷ line) sight → Marks line (see finishes sight.flags sight.signs)
  finish_marks t line sight m =
      subst (λ (fs : Flags). Marks line (ended_sight fs sight.signs)) (sym m.flags_are) (record { flags_are = refl; open_are = closes (is_hidden_in syntax line) sight.signs t (shown_line syntax line) m.open_are })

  -- text
  says_marks : (b : Bool) (signs : List Sign) (chars : Chars) (line : Line) → open_after [] signs ≡ line → open_after [] (if b then signs else signs ++ map said chars) ≡ line
  says_marks true signs chars line e = e
  says_marks false signs chars line e = open_append [] signs (map said chars) ∙ (open_said (open_after [] signs) chars ∙ e)

  say_marks : (chars : Chars) (line : Line) (sight : Sight) → Marks line sight → Marks line (see (says chars) sight.flags sight.signs)
  say_marks chars line sight m = record { flags_are = m.flags_are; open_are = says_marks (is_hidden sight.flags) sight.signs chars (shown_line syntax line) m.open_are }

  -- what was told stands for the open elements
  pub record Held (n : Nesting) (events : List Event) : Type 0 where
    pub marks : Marks n.line (sees nothing_seen events)

  pub page_held : (limits : Limits) (bytes : List ℕ) (q : Progress) → page_read syntax limits bytes ≡ Ok q → Held q.now.nest q.told
  page_held limits bytes q e = record {
    marks = (page_walk syntax limits (λ b line events. Marks line (sees nothing_seen events))
        (λ u line events chars m. seen_on (Marks (u ∷ line)) events (says chars) (say_marks chars (u ∷ line) (sees nothing_seen events) m))
        (λ item t. record {
          finish = λ u line events m. seen_on (Marks line) events finishes (finish_marks u line (sees nothing_seen events) m);
          begin = λ b line events some none l m. seen_on (Marks (start_tag_of item t ∷ line)) events (begins (start_tag_of item t) (hides (inside_of syntax line) t)) (begin_marks (start_tag_of item t) line (sees nothing_seen events) m);
        })
        (record { flags_are = refl; open_are = refl }) bytes q e).holds;
  }

pub shows_open_ones : ShowsOpenOnes
shows_open_ones syntax limits nest bytes signs st paid line phase run part u =
    let here : Progress = record { now = st.at.now; told = st.told } in
    let r = reads_to syntax limits bytes line phase run part u in
    let line_is : st.at.now.nest.line ≡ line = ap (λ (p : Progress). p.now.nest.line) (ok_is here r.now (page_read syntax limits bytes) st.at.read r.read) ∙ r.is_at.line_is in
    let signs_are : (sees nothing_seen st.told).signs ≡ signs = ap (λ (s : Sight). s.signs) st.sight ∙ (ap (λ x. signs ++ x) paid ∙ append-nil signs) in
    ap (λ x. open_after [] x) (sym signs_are) ∙ ((page_held syntax limits bytes here st.at.read).marks.open_are ∙ ap (λ x. shown_line syntax x) line_is)

pub stands_underway : StandsUnderway
stands_underway syntax limits nest bytes signs st =
    let n = st.at.now.nest in
    let s = st.at.now.scan in
    record {
      line = n.line;
      phase = n.phase;
      run = s.run;
      part = s.held;
      underway = is_underway syntax limits bytes n.line n.phase s.run s.held (record { now = record { now = st.at.now; told = st.told }; read = st.at.read; is_at = record { line_is = refl; phase_is = refl }; run_is = refl; part_is = refl });
    }
