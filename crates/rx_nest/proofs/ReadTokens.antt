-- What was taken of a piece, and what the elements made of it, is what the page's bytes lead to.
use Rattle.rx_nest.proofs.Common.{◌≡◌, ◌≢◌, ◌∙◌, ℕ, ◌+◌, Bool, true, false, List, [], ◌∷◌, ◌++◌, refl, sym, ap, subst, length, append_assoc, append-nil, Some, Result, Ok, Err, ◌&&◌, if◌then◌else◌, map, take, drop, codes, chars, Chars, by_test, Syntax, Html, Xhtml, same, is_among, name_of_raw, Place, inside_html, in_html, html_in_svg, inside_at, raw_place, raw_names, rcdata_names, Item, Line, inside_of, Content, RawName, Fault, Kind, Limits, Event, Nesting, Step, content_at, nest_step, Spot, spot_of, Scanning, scan_from, may_lead, Progress, Stop, take-append-drop, tag_seen, Setting, Scanner, IsNoMemory, shows_tag, shows_skipped, IsTag, Skips, a_mark, a_comment, an_empty_section, a_line_feed, Shows, ShowsTag, ends_leading, setting_behind, wants_more, is_of_syntax, Lines, TagGives, GivesBy, own_of_end, shown_under, says_text, Sign, said, is_hidden, finishing, Follows, flags_of, phase_at, own_signs, own_tag, tag_by, TakesToken, token_result, IsBetween, begins_own, IsATag, hears_skipped, a_skipped_one, a_doctype, some_text, TokenOf, Completes, At, setting_of, start_seen, heard_signs, StaysAtFault, Lends, hears_more, Heeds, NestReadGives, last_text, gives_text, last_tag}
use Rattle.rx_grammar.specs.declared.contents.Content.TheVariants as content
use Rattle.rx_grammar.specs.Tokens as tokens
use Rattle.rx_grammar.specs.declared.stops.Stop.TheVariants as stop
use Rattle.rx_tags.specs.declared.tags.Tag.{Tag}
use Rattle.rx_scan.specs.declared.answers.TokenKind.{TokenKind}
use Rattle.rx_scan.specs.declared.answers.TokenKind.TheVariants as what
use Rattle.rx_scan.specs.declared.answers.Token.{Token}
use Rattle.rx_scan.specs.declared.answers.Token.TheVariants as token
use Rattle.rx_scan.specs.Steps as scan
use Rattle.rx_nest.specs.declared.tree_tokens.TreeToken.{TreeToken}
use Rattle.rx_nest.specs.declared.tree_tokens.TreeToken.TheVariants as tree_token
use Rattle.rx_nest.specs.declared.lines.TagEffect.{TagEffect}
use Rattle.rx_nest.specs.declared.lines.Refused.{Refused}
use Rattle.rx_nest.specs.declared.lines.Refused.TheVariants as refused
use Rattle.rx_nest.specs.Levels.{Levels, place_under, kept_levels, ends_by}
use Rattle.rx_nest.proofs.LineLemmas.{same_of}
use Rattle.rx_nest.proofs.Takes.{Taken, has_begun, tag_steps}
use Rattle.rx_nest.proofs.TextSteps.{said_by, Quiet, none_quiet, texts_quiet, comment_quiet, empty_quiet, line_feed_quiet}
use Rattle.rx_nest.proofs.Heeding.{scan_fails, scan_is, quiet_at, quiet_shows, said_is, behind_is, doctype_at, tag_stops, tag_leads}

-- the text that is shown is the one that was told
text_is : (answer : TokenKind) (v : Scanner) → v.what ≡ answer → (text : _) → Shows answer v.reading (token.Text text) → (chars text.now ≡ last_text v) × (gives_text v.what ≡ true)
text_is what.Text v e text s = rw e (s, refl)
text_is what.Section v e text s = rw e (s, refl)
text_is what.Tag v e text s = elim s [ ]
text_is _ v e text s = absurd (cc)

pub record TagShown (v : Scanner) (closing : Bool) (t : Tag) : Type 0 where
  pub what_is : v.what ≡ what.Tag
  pub shows : ShowsTag v.reading closing t

abbrev tag_token : Bool → Tag → Token
tag_token closing t = if closing then token.End t else token.Start t

tag_is : (closing : Bool) (answer : TokenKind) (v : Scanner) → v.what ≡ answer → (t : Tag) → Shows answer v.reading (tag_token closing t) → TagShown v closing t
tag_is true what.Tag v e t s = record { what_is = e; shows = s }
tag_is false what.Tag v e t s = record { what_is = e; shows = s }
tag_is true what.Text v e t s = elim s [ ]
tag_is true what.Section v e t s = elim s [ ]
tag_is false what.Text v e t s = elim s [ ]
tag_is false what.Section v e t s = elim s [ ]
tag_is true _ v e t s = absurd (cc)
tag_is false _ v e t s = absurd (cc)

-- the content inside open elements is one of the syntax
module _ where
  raw_is : (as_content : RawName → Content) → ((r : RawName) → is_of_syntax Html (as_content r) ≡ true) → (names : List RawName) (name : Chars) (other : Place) → is_of_syntax Html other.content ≡ true → is_of_syntax Html (raw_place as_content names name other).content ≡ true
  raw_is as_content h [] name other o = o
  raw_is as_content h (raw ∷ more) name other o = by_test (same name (name_of_raw raw)) (λ e. rw e (h raw)) (λ e. rw e (raw_is as_content h more name other o))

  html_is : (name : Chars) → is_of_syntax Html (inside_html name).content ≡ true
  html_is name =
      by_test (same name (codes "svg")) (λ e. rw e refl)
      (λ e. rw e (by_test (same name (codes "math")) (λ k. rw k refl)
      (λ k. rw k (raw_is content.Raw (λ r. refl) raw_names name (raw_place content.Rcdata rcdata_names name in_html) (raw_is content.Rcdata (λ r. refl) rcdata_names name in_html refl)))))

  at_is : (c : Content) (in_svg : Bool) (name : Chars) → is_of_syntax Html (inside_at c in_svg name).content ≡ true
  at_is content.Foreign in_svg name = by_test (in_svg && is_among html_in_svg name) (λ e. rw e refl) (λ e. rw e refl)
  at_is _ in_svg name = html_is name

  pub inside_is : (syntax : Syntax) (line : Line) → is_of_syntax syntax (inside_of syntax line).content ≡ true
  inside_is Xhtml [] = refl
  inside_is Html (t ∷ above) = at_is (inside_of Html above).content (inside_of Html above).in_svg t.name
  inside_is _ _ = refl

-- Nothing is heard exactly where no token is complete; only a tag is refused, and a fault leaves the elements as they were.
abbrev pub Answers : Token → Result TreeToken Stop → Lines → Lines → Type 0
Answers t (Ok h) old new = wants_more t ≡ hears_more h
Answers t (Err why) old new = (shows_tag t ≡ true) × StaysAtFault {A = ℕ × TreeToken} (Err why) old new

tag_answers : (t : Token) → wants_more t ≡ false → shows_tag t ≡ true → (g : Tag) (old new : Lines) (closing : Bool) (taken : Result TagEffect Refused) → GivesBy closing old (tag_seen g) taken new → Answers t (token_result g taken) old new
tag_answers t m s g old new closing (Ok tells) gives = m
tag_answers t m s g old new true (Err (refused.Fault kind)) gives = (s, gives.1)
tag_answers t m s g old new false (Err (refused.Fault kind)) gives = (s, gives.1)
tag_answers t m s g old new closing (Err refused.NoMemory) gives = (s, tt)

pub answers : (t : Token) (result : Result TreeToken Stop) (old new : Lines) → TakesToken old t result new → Answers t result old new
answers token.More result old new k = rw k.0 refl
answers (token.Text text) result old new k = rw k.0 (by_test (says_text old) (λ e. rw e refl) (λ e. rw e refl))
answers (token.Start g) result old new k = rw k.is (tag_answers (token.Start g) refl refl g old new (tag_seen g).closing k.taken k.gives)
answers (token.End g) result old new k = rw k.is (tag_answers (token.End g) refl refl g old new (tag_seen g).closing k.taken k.gives)
answers _ result old new k = rw k.0 refl

no_lead : (levels : Levels) (stood : Bool) → may_lead (phase_at true levels stood) ≡ false
no_lead [] stood = refl
no_lead (level ∷ levels) stood = refl

end_begins : (levels : Levels) → begins_own (own_of_end levels) ≡ false
end_begins levels = by_test (shown_under levels) (λ e. rw e refl) (λ e. rw e refl)

-- what a taken tag leaves of the elements
pub record Becomes (old : Lines) (nest : Nesting) (closing : Bool) (tells : TagEffect) (new : Lines) : Type 0 where
  pub syntax : new.syntax ≡ old.syntax
  pub depth : new.depth ≡ old.depth
  pub begun : new.begun ≡ true
  pub leads : closing ≡ true → may_lead nest.phase ≡ false
  pub opening : begins_own tells.own ≡ true → closing ≡ false

becomes : (old new : Lines) (nest : Nesting) (t : tokens.Tag) (tells : TagEffect) → Follows old nest → (closing : Bool) → GivesBy closing old t (Ok tells) new → Becomes old nest closing tells new
becomes old new nest t tells f false h = record { syntax = ap (λ (x : Lines). x.syntax) h.becomes; depth = ap (λ (x : Lines). x.depth) h.becomes; begun = ap (λ (x : Lines). x.begun) h.becomes; leads = λ e. absurd (cc); opening = λ e. refl }
becomes old new nest t tells f true h =
    let begun : old.begun ≡ true = has_begun old nest f h.there in
    record {
      syntax = ap (λ (x : Lines). x.syntax) h.becomes;
      depth = ap (λ (x : Lines). x.depth) h.becomes;
      begun = ap (λ (x : Lines). x.begun) h.becomes ∙ begun;
      leads = λ e. ap may_lead (f.phase_is ∙ ap (λ x. phase_at x old.levels f.stood) begun) ∙ no_lead old.levels f.stood;
      opening = λ e. absurd (let w : true ≡ false = sym e ∙ (ap begins_own h.own ∙ end_begins (kept_levels (ends_by true t.name) old.levels)) in cc);
    }

abbrev silent : Bool → List Sign
silent hidden = []

module _ (syntax : Syntax) (limits : Limits) (bytes : List ℕ) (told : List Event) (v : Scanner) (line : Lines) (at : At syntax limits bytes told v line) where
  abbrev nest : Nesting
  nest = at.now.nest

  abbrev s : Scanning
  s = at.now.scan

  abbrev spot : Spot
  spot = spot_of syntax nest

  module _ (piece : List ℕ) (n : ℕ) (t : Token) (mid : Scanner) (st : scan.Stepped v s piece n t mid) where
    abbrev items : List Item
    items = st.scanned.items

    abbrev front : List ℕ
    front = take n piece

    reads : scan_from syntax limits spot s front ≡ Ok st.scanned
    reads = sym (scan_is syntax limits bytes told v line at front) ∙ st.read

    tokens_of : (skipped : Bool) (tells : Scanning → List ℕ → List Item → Type 0) → (shows_skipped t ≡ true → skipped ≡ true) → tells s front items → Completes syntax limits bytes front skipped tells
    tokens_of skipped tells k h =
        record {
          before = record { now = at.now; told = told };
          read = at.read;
          next = st.scanned.next;
          items = items;
          completed = reads;
          are = h;
          mark = λ rest m. let q = st.mark rest m in (k q.0, q.1);
        }

    -- tokens that leave the elements as they are
    quiet_heeds : (h : TreeToken) (shown : Bool → List Sign) → Quiet syntax limits spot nest items shown → ends_leading t ≡ false → shown (is_hidden (flags_of line.levels)) ≡ heard_signs h mid → Lends h mid → (hears_more h ≡ true → n ≡ length piece) → (shows_skipped t ≡ true → hears_skipped h ≡ true) → TokenOf h mid s front items
        → Heeds syntax limits bytes told piece n h line mid line
    quiet_heeds h shown q l e lends all k tells =
        record {
          fits = st.fits;
          events = q.step.events;
          at = quiet_at syntax limits bytes told v line at front mid st.scanned.next items reads st.stands shown q (st.setting ∙ behind_is syntax limits bytes told v line at t items l);
          shows = quiet_shows syntax limits bytes told v line at front mid st.scanned.next items reads st.stands shown q h e;
          lends = lends;
          all = all;
          tokens = tokens_of (hears_skipped h) (TokenOf h mid) k tells;
        }

    quiet_of : (shown : Bool → List Sign) (other : List Item) → items ≡ other → Quiet syntax limits spot nest other shown → Quiet syntax limits spot nest items shown
    quiet_of shown other e q = subst (λ i. Quiet syntax limits spot nest i shown) (sym e) q

    skips_quiet : Skips v.reading.setting.drops s front items → Quiet syntax limits spot nest items silent
    skips_quiet (a_mark m none) = quiet_of silent [] none (none_quiet syntax limits spot nest refl)
    skips_quiet (a_comment o) = quiet_of silent (o.item ∷ []) o.one (comment_quiet syntax limits spot nest o.item refl o.is)
    skips_quiet (an_empty_section o) = quiet_of silent (o.item ∷ []) o.one (empty_quiet syntax limits spot nest o.item refl o.is)
    skips_quiet (a_line_feed item d one l) = quiet_of silent (item ∷ []) one (line_feed_quiet syntax limits spot nest item refl (ap (λ (x : Setting). x.drops) (sym at.setting) ∙ d) l)

    -- what was heard leads to
    abbrev pub Gives : Result TreeToken Stop → Lines → Type 0
    Gives (Ok (tree_token.Tag tells)) new =
        (is_of_syntax mid.reading.setting.syntax (place_under new.levels).content ≡ true)
        × (scan.ScanStands (scan.moved_inside (place_under new.levels).content tells.drops mid) st.scanned.next → Heeds syntax limits bytes told piece n (tree_token.Tag tells) line (scan.moved_inside (place_under new.levels).content tells.drops mid) new)
    Gives (Ok h) new = Heeds syntax limits bytes told piece n h line mid new
    Gives (Err why) new = NestReadGives syntax limits bytes told piece line (Err why) mid new

    -- a tag
    module _ (g : Tag) (is : IsTag (tag_seen g) g.token g.at items) (ends : st.scanned.next.at ≡ g.at + 1) (closing : Bool) (which : (tag_seen g).closing ≡ closing) (shown : TagShown mid closing g)
        (leading : (closing ≡ true → may_lead nest.phase ≡ false) → (if ends_leading t then false else may_lead nest.phase) ≡ false) (unskipped : shows_skipped t ≡ false) (new : Lines) where
      abbrev item : Item
      item = is.item

      unmarked : {G : Type 0} → shows_skipped t ≡ true → G
      unmarked h = absurd (let w : true ≡ false = sym h ∙ unskipped in cc)

      reads_tag : scan_from syntax limits spot s front ≡ Ok (record { next = st.scanned.next; items = item ∷ [] })
      reads_tag = reads ∙ ap (λ i. Ok (record { next = st.scanned.next; items = i })) is.one

      steps_as : (x : Result Step Kind) → nest_step line.syntax line.depth nest item ≡ x → nest_step syntax limits.depth nest item ≡ x
      steps_as x h = subst (λ d. nest_step syntax d nest item ≡ x) at.depth_is (subst (λ l. nest_step l line.depth nest item ≡ x) at.syntax_is h)

      -- the elements after it
      module _ (tells : TagEffect) (taken : Taken line nest item tells new) (b : Becomes line nest closing tells new) where
        abbrev step : Step
        step = taken.step

        abbrev inside : Content
        inside = (place_under new.levels).content

        new_syntax : new.syntax ≡ syntax
        new_syntax = b.syntax ∙ at.syntax_is

        inside_same : inside ≡ content_at syntax step.next
        inside_same = ap (λ (p : Place). p.content) ((same_of new.syntax new.levels step.next.line taken.follows.levels_are).place ∙ ap (λ x. inside_of x step.next.line) new_syntax)

        mid_setting : mid.reading.setting ≡ setting_behind t (setting_of syntax limits nest) (item ∷ [])
        mid_setting = st.setting ∙ (ap (λ i. setting_behind t v.reading.setting i) is.one ∙ ap (λ x. setting_behind t x (item ∷ [])) at.setting)

        setting_same : (scan.moved_inside inside tells.drops mid).reading.setting ≡ setting_of syntax limits step.next
        setting_same =
            ap (λ (x : Setting). record { syntax = x.syntax; limits = x.limits; inside = inside; leads = x.leads; drops = tells.drops }) mid_setting
            ∙ (ap (λ x. record { syntax = syntax; limits = limits; inside = inside; leads = x; drops = tells.drops }) (leading b.leads ∙ sym (ap may_lead (taken.follows.phase_is ∙ ap (λ x. phase_at x new.levels taken.follows.stood) b.begun) ∙ no_lead new.levels taken.follows.stood))
            ∙ (ap (λ x. record { syntax = syntax; limits = limits; inside = x; leads = may_lead step.next.phase; drops = tells.drops }) inside_same
            ∙ ap (λ x. record { syntax = syntax; limits = limits; inside = content_at syntax step.next; leads = may_lead step.next.phase; drops = x }) (sym taken.drops_is)))

        tag_same : own_tag item ≡ last_tag mid
        tag_same =
            ap (λ x. tag_by item x) is.is
            ∙ (ap (λ x. start_seen (tag_seen g) x item.last) (is.first_is ∙ shown.shows.1)
            ∙ (ap (λ x. start_seen (tag_seen g) mid.reading.place.token x) (is.last_is ∙ shown.shows.2)
            ∙ ap (λ x. start_seen x mid.reading.place.token mid.reading.end) shown.shows.0))

        content_is : is_of_syntax mid.reading.setting.syntax inside ≡ true
        content_is = ap (λ x. is_of_syntax mid.reading.setting.syntax x) inside_same ∙ (ap (λ (x : Setting). is_of_syntax x.syntax (content_at syntax step.next)) mid_setting ∙ inside_is syntax step.next.line)

        tag_heeds : scan.ScanStands (scan.moved_inside inside tells.drops mid) st.scanned.next → Heeds syntax limits bytes told piece n (tree_token.Tag tells) line (scan.moved_inside inside tells.drops mid) new
        tag_heeds stands =
            record {
              fits = st.fits;
              events = step.events;
              at = record {
                now = record { scan = st.scanned.next; nest = step.next };
                read = (tag_leads syntax limits bytes told v line at front st.scanned.next item reads_tag g is.is is.first_is is.last_is ends step (steps_as (Ok step) taken.is_step)).page;
                stands = stands;
                setting = setting_same;
                follows = taken.follows;
                syntax_is = new_syntax;
                depth_is = b.depth ∙ at.depth_is;
              };
              shows = λ signs.
                  taken.seen signs
                  ∙ ap (λ x. record { flags = flags_of new.levels; signs = x }) (append_assoc signs (finishing tells.ends) (own_signs tells.own (own_tag item)) ∙ ap (λ x. signs ++ (finishing tells.ends ++ own_signs tells.own x)) tag_same);
              lends = λ h. record { what_is = shown.what_is; opening = ap (λ (x : tokens.Tag). x.closing) (sym shown.shows.0) ∙ (shown.shows.3 ∙ b.opening h) };
              all = λ h. absurd (cc);
              tokens = tokens_of false (λ s bytes items. IsATag items) unmarked (record { the_tag = tag_seen g; is = record { item = item; one = is.one; is = is.is } });
            }

      tag_gives : (taken : Result TagEffect Refused) → TagGives line (tag_seen g) taken new → Gives (token_result g taken) new
      tag_gives (Ok tells) gives =
          let taken : Taken line nest item tells new = tag_steps line new nest item (tag_seen g) (Ok tells) at.follows is.is gives in
          let b = becomes line new nest (tag_seen g) tells at.follows closing (subst (λ c. GivesBy c line (tag_seen g) (Ok tells) new) which gives) in
          (content_is tells taken b, tag_heeds tells taken b)
      tag_gives (Err (refused.Fault kind)) gives =
          let steps : nest_step line.syntax line.depth nest item ≡ Err kind = tag_steps line new nest item (tag_seen g) (Err (refused.Fault kind)) at.follows is.is gives in
          tag_stops syntax limits bytes told v line at front st.scanned.next item reads_tag g is.is is.first_is is.last_is ends kind (steps_as (Err kind) steps) piece (drop n piece) (sym (take-append-drop n piece)) (λ rest m. unmarked (st.mark rest m).0)
      tag_gives (Err refused.NoMemory) gives = tt

  pub heard : (piece : List ℕ) (n : ℕ) (t : Token) (mid : Scanner) (st : scan.Stepped v s piece n t mid) → Shows mid.what mid.reading t → (result : Result TreeToken Stop) (new : Lines) → TakesToken line t result new → Gives piece n t mid st result new
  heard piece n token.More mid st shows result new k =
      rw (k.0, k.1) (quiet_heeds piece n token.More mid st tree_token.More silent (quiet_of piece n token.More mid st silent [] st.are (none_quiet syntax limits spot nest refl)) refl refl tt (λ h. st.all refl) (λ h. absurd (cc)) st.are)
  heard piece n token.Skipped mid st shows result new k =
      rw (k.0, k.1) (quiet_heeds piece n token.Skipped mid st tree_token.Skipped silent (skips_quiet piece n token.Skipped mid st st.are) refl refl tt (λ h. absurd (cc)) (λ h. refl) (a_skipped_one v.reading.setting.drops st.are))
  heard piece n token.Doctype mid st shows result new k =
      let one = st.are in
      let next = st.scanned.next in
      let reads_one : scan_from syntax limits spot s (take n piece) ≡ Ok (record { next = next; items = one.item ∷ [] }) = reads piece n token.Doctype mid st ∙ ap (λ i. Ok (record { next = next; items = i })) one.one in
      rw (k.0, k.1) (record {
        fits = st.fits;
        events = [];
        at = doctype_at syntax limits bytes told v line at (take n piece) next one.item reads_one one.is mid st.stands (st.setting ∙ ap (λ i. setting_behind token.Doctype v.reading.setting i) one.one);
        shows = λ signs. ap (λ x. record { flags = flags_of line.levels; signs = x }) (sym (append-nil signs));
        lends = tt;
        all = λ h. absurd (cc);
        tokens = tokens_of piece n token.Doctype mid st true (TokenOf tree_token.Skipped mid) (λ h. absurd (cc)) (a_doctype one);
      })
  heard piece n (token.Text text) mid st shows result new k =
      let is = text_is mid.what mid refl text shows in
      let keeps = ap (λ (x : Setting). scan.keeps_first x.drops st.scanned.items) (sym at.setting) ∙ st.are.2 in
      let quiet = texts_quiet syntax limits spot st.scanned.items nest (chars text.now) refl st.are.0 keeps in
      let shown : Bool → List Sign = λ hidden. said_by nest.phase hidden (chars text.now) in
      let tells = said_is syntax limits bytes told v line at (chars text.now) in
      rw (k.0, k.1) (by_test (says_text line)
      (λ w. rw w (quiet_heeds piece n (token.Text text) mid st tree_token.Text shown quiet refl (tells ∙ (ap (λ b. if b then map said (chars text.now) else []) w ∙ ap (λ x. map said x) is.0)) (is.1, λ h. st.are.1 (is.0 ∙ h)) (λ h. absurd (cc)) (λ h. absurd (cc)) (st.are.0 ∙ ap (λ x. Some x) is.0)))
      (λ w. rw w (quiet_heeds piece n (token.Text text) mid st tree_token.Skipped shown quiet refl (tells ∙ ap (λ b. if b then map said (chars text.now) else []) w) tt (λ h. absurd (cc)) (λ h. absurd (cc)) (some_text (chars text.now) st.are.0 st.are.1))))
  heard piece n (token.Start g) mid st shows result new k =
      rw k.is (tag_gives piece n (token.Start g) mid st g st.are.0 st.last false st.are.1 (tag_is false mid.what mid refl g shows) (λ h. refl) refl new k.taken k.gives)
  heard piece n (token.End g) mid st shows result new k =
      rw k.is (tag_gives piece n (token.End g) mid st g st.are.0 st.last true st.are.1 (tag_is true mid.what mid refl g shows) (λ h. h refl) refl new k.taken k.gives)

  -- what isn't a tag
  pub not_tag : (piece : List ℕ) (n : ℕ) (t : Token) (mid : Scanner) (st : scan.Stepped v s piece n t mid) (h : TreeToken) (new : Lines) → ((told : TagEffect) → h ≢ tree_token.Tag told) → Gives piece n t mid st (Ok h) new → Heeds syntax limits bytes told piece n h line mid new
  not_tag piece n t mid st (tree_token.Tag told) new none g = absurd (none told refl)
  not_tag piece n t mid st _ new none g = g

  pub scan_stops : (piece : List ℕ) (stop : Stop) (other : Scanner) (new : Lines) → scan.Steps v s piece (Err stop) other → NestReadGives syntax limits bytes told piece line (Err stop) other new
  scan_stops piece (stop.Fault fault) other new f = scan_fails syntax limits bytes told v line at piece fault f
  scan_stops piece stop.NoMemory other new f = tt

-- where no token is unfinished, a piece without tags takes no memory
pub run_between : (syntax : Syntax) (limits : Limits) (bytes : List ℕ) (told : List Event) (v : Scanner) (line : Lines) (at : At syntax limits bytes told v line) → IsBetween syntax limits bytes → at.now.scan.run ≡ []
run_between syntax limits bytes told v line at b =
    let both : ◌≡◌ {A = Result Progress Fault} (Ok b.now) (Ok (record { now = at.now; told = told })) = sym b.read ∙ at.read in
    let same : b.now ≡ record { now = at.now; told = told } = cc in
    ap (λ (p : Progress). p.now.scan.run) (sym same) ∙ b.none

pub quiet_stop : (A B : Type 0) (why : Stop) → IsNoMemory {A = A} (Err why) ≡ false → IsNoMemory {A = B} (Err why) ≡ false
quiet_stop A B (stop.Fault fault) h = refl
quiet_stop A B stop.NoMemory h = absurd (cc)
