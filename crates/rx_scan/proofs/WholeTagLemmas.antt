-- A tag that is taken whole is read like its bytes one after another.
use Rattle.rx_scan.proofs.Common.{◌≡◌, ◌∙◌, ℕ, ◌+◌, ◌-◌, ◌≤◌, ◌<◌, Bool, true, false, List, [], ◌∷◌, length, take, drop, refl, ap, sym, subst, inl, Ok, arith, get_or, length-take-le, Some, zero, suc, length-drop, list_all, not, slice_get, or_from, and-false, common_steps, as_line_end, has_markup, first_whole, Content, is_last, TagState, is_none_held, is_printed, GoesBy, TagSoFar, StepGives, TakesWhole, no_tag, FeedsFront, OpensTag, of_opening, with_tag_mark, Pending, fed, Reading, ReadsAs, Took, is_quiet}
use Rattle.rx_grammar.specs.declared.contents.Content.TheVariants as content
use Rattle.rx_pages.specs.PageReader as reader
use Rattle.rx_tags.specs.declared.tag_text.TagStep.TheVariants.{Done}
use Rattle.rx_tags.specs.TagReads.{TagReadEnds}
use Rattle.rx_tags.proofs.TakeLemmas.{chosen as some_taken}
use Rattle.rx_scan.specs.declared.answers.TokenKind.TheVariants as what
use Rattle.rx_scan.specs.declared.marks.Move.{Move}
use Rattle.rx_scan.specs.declared.marks.Move.TheVariants as move
use Rattle.rx_scan.specs.declared.marks.TokenState.{TokenState}
use Rattle.rx_scan.specs.declared.marks.TokenState.TheVariants as mark
use Rattle.rx_scan.specs.declared.places.Position.{Position}
use Rattle.rx_scan.specs.declared.places.Setting.{Setting}
use Rattle.rx_scan.specs.Entries as entries
use Rattle.rx_scan.specs.KnownTags as known_tags
use Rattle.rx_scan.specs.Marks as marks
use Rattle.rx_scan.specs.Places as places
use Rattle.rx_scan.specs.WholeTags.{ReadsOpened, ReadsWholeTag}
use Rattle.rx_scan.proofs.ByteLemmas.{character_read, within_limit}
use Rattle.rx_scan.proofs.FrontLemmas.{front_read}
use Rattle.rx_scan.proofs.QuietLemmas.{next_read, token_read}
use Rattle.rx_scan.proofs.FeedLemmas.{opens_taken}
use Rattle.rx_scan.proofs.RunLemmas.{ReadsOn, reads_none}

-- the `>` that ends a tag is read as its last byte
module _ (l new : Reading) (m : l.pending.mark ≡ mark.Tag) (held : l.held ≡ []) (page : l.place.at < l.setting.limits.page) (tag : l.place.at < l.place.token + l.setting.limits.tag)
    (t : entries.Tags l 62 false (entries.with_mark mark.Tag l.pending) (Ok what.Tag) new) where
  not_long : (known : Bool) → entries.is_long l known ≡ false
  not_long = within_limit l (subst (λ (x : TokenState). l.place.at < entries.token_from x l.place + l.setting.limits.tag) (sym m) tag)

  pub ends_read : entries.ReadsByte l 62 (Ok what.Tag) new
  ends_read =
      character_read l new [] 62 62 (Ok what.Tag) held (first_whole 62 (omega arith)) page refl (not_long (known_tags.lies_in_tag l.pending.mark))
      (not_long (known_tags.is_tag_with l.setting.syntax l.setting.inside l.pending.mark (as_line_end 62))) (or_from _ _ (and-false (not l.place.started)) (and-false l.place.after_return))
      (subst (λ (x : Move). entries.Enters l 62 false x (Ok what.Tag) new) (sym (ap (λ (x : TokenState). entries.judged l.setting l.place.two 62 (marks.scan_move l.setting.syntax l.setting.inside x 62)) m)) t)

pub none_held : (held : List ℕ) → is_none_held held ≡ true → held ≡ []
none_held [] h = refl
none_held (x ∷ held) h = absurd (cc)

-- what is taken of the tag, with its limits
module _ (v : Reading) (p : Pending) (bytes : List ℕ) (limit n : ℕ) (o : v.pending.mark ≡ mark.LessThan) (held : v.held ≡ []) (opens : (setting : Setting) → OpensTag setting bytes) (f : limit ≤ length bytes)
    (page : 0 < limit → v.place.at + limit ≤ v.setting.limits.page) (tag : 0 < limit → v.place.at + limit ≤ v.place.token + v.setting.limits.tag) (t : TakesWhole v.pending.tag (take limit bytes) n p.tag)
    (m : TokenState) (k : p ≡ record { mark = m; run = v.pending.run; tag = p.tag }) where
  less : t.at < limit
  less = let c = t.closes in let q = c.fits in omega (arith, q, length-take-le limit bytes f)

  bounds : (v.place.at + limit ≤ v.setting.limits.page) × (v.place.at + limit ≤ v.place.token + v.setting.limits.tag)
  bounds = let some : 0 < limit = omega (arith, less) in (page some, tag some)

  front_is : take t.at (take limit bytes) ≡ take t.at bytes
  front_is = let q = less in grind (arith, common_steps)

  at_is : get_or (take limit bytes) t.at 0 ≡ get_or bytes t.at 0
  at_is = let q = less in grind (arith, common_steps)

  long : length (take t.at bytes) ≡ t.at
  long = length-take-le t.at bytes (omega (arith, less, f))

  abbrev before : Reading
  before = entries.with_parts v v.setting (fed (length (take t.at bytes)) v.place) (record { mark = mark.Tag; run = v.pending.run; tag = t.before }) v.text

  feeds : FeedsFront (with_tag_mark v) (take t.at bytes) before
  feeds =
      let b = bounds in
      let all = t.front.front in
      record {
        in_tag = refl;
        held = held;
        printed = ap (list_all is_printed) (sym front_is) ∙ all.printed;
        page = omega (arith, b.0, less, long);
        tag = omega (arith, b.1, less, long);
        state = t.before.state;
        goes = subst (λ (x : List ℕ). GoesBy v.pending.tag.syntax v.pending.tag.state x t.before.state) front_is all.goes;
        is = ap (λ (x : TagSoFar). entries.with_parts v v.setting (fed (length (take t.at bytes)) v.place) (record { mark = mark.Tag; run = v.pending.run; tag = x }) v.text) t.front.is;
      }

  abbrev fed_by : Position → Pending → Reading
  fed_by place q = record { setting = v.setting; place = place; held = v.held; pending = q; text = v.text; end = v.end }

  pub taken : (new : Reading) (place : Position) → place ≡ fed (n - 1) v.place → new ≡ entries.with_tag (fed_by place p) false → ReadsOpened v bytes n new
  taken new place e q =
      let b = bounds in
      let c = t.closes in
      let count : n - 1 ≡ length (take t.at bytes) = omega (arith, t.count, long) in
      record {
        at = t.at;
        count = t.count;
        closes = record { fits = omega (arith, less, f); closes = sym at_is ∙ c.closes };
        before = before;
        front = record { opened = o; begins = opens_taken v.setting bytes t.at (λ z. let s = t.some in omega (arith, s, z)) (opens v.setting); feeds = feeds };
        page = omega (arith, b.0, less, long);
        tag = omega (arith, b.1, less, long);
        ends = (
          p.tag,
          t.ends,
          q ∙ (ap (λ (x : Position). entries.with_tag (fed_by x p) false) (e ∙ ap (λ i. fed i v.place) count) ∙ ap (λ (y : Pending). entries.with_tag (fed_by (fed (length (take t.at bytes)) v.place) y) false) k),
        );
      }

-- the tag is whole
pub is_whole : (old tag : TagSoFar) (c : ℕ) → StepGives old c (Ok Done) tag → is_last tag.state.phase ≡ true
is_whole old tag c g =
    let e : TagReadEnds (record { syntax = old.syntax; state = old.state }) c tag.state = g.0 in
    ap (λ (x : TagState). is_last x.phase) e.kept ∙ e.whole

pub lends_tag : (l new : Reading) (bytes : List ℕ) (n : ℕ) → ReadsWholeTag l bytes n new → (is_last new.pending.tag.state.phase ≡ true) × (new.pending.mark ≡ mark.Nothing)
lends_tag l new bytes n t =
    let o = t.reads.opened in
    let e = o.ends in (
      ap (λ (x : Reading). is_last x.pending.tag.state.phase) e.2 ∙ is_whole o.before.pending.tag e.0 62 e.1,
      ap (λ (x : Reading). x.pending.mark) e.2,
    )

pub keeps_text : (l new : Reading) (bytes : List ℕ) (n : ℕ) → ReadsWholeTag l bytes n new → new.text ≡ l.text
keeps_text l new bytes n t = let o = t.reads.opened in let e = o.ends in ap (λ (x : Reading). x.text) e.2 ∙ ap (λ (x : Reading). x.text) o.front.feeds.is

-- a piece without `<` has no tag at its front
pub not_quiet : (l new : Reading) (bytes : List ℕ) (n : ℕ) → ReadsWholeTag l bytes n new → is_quiet bytes ≡ true → ⊥
not_quiet l new bytes n t q = let z = ap is_quiet (sym t.opens) ∙ q in cc

opens_markup : (inside : Content) → has_markup inside ≡ true → marks.less_than_mark inside ≡ mark.LessThan
opens_markup (content.Raw name) h = absurd (cc)
opens_markup (content.Rcdata name) h = absurd (cc)
opens_markup _ h = refl

first_is : (bytes : List ℕ) (c : ℕ) → slice_get bytes 0 ≡ Some c → bytes ≡ c ∷ drop 1 bytes
first_is [] c e = absurd (cc)
first_is (x ∷ bytes) c e = let q : x ≡ c = cc in ap (λ (y : ℕ). y ∷ bytes) q

opens_more : (setting : Setting) (n : ℕ) (bytes : List ℕ) → OpensTag setting (take n bytes) → OpensTag setting bytes
opens_more setting zero bytes o = absurd o
opens_more setting (suc n) [] o = o
opens_more setting (suc n) (x ∷ bytes) o = o

-- the `<` of a tag is read where no token is begun
module _ (l : Reading) (m : l.pending.mark ≡ mark.Nothing) (held : l.held ≡ []) (page : l.place.at < l.setting.limits.page) (markup : has_markup l.setting.inside ≡ true) where
  abbrev begun : Reading
  begun = entries.with_begun l false mark.LessThan

  begins : entries.move_at l 60 ≡ move.Begins mark.LessThan
  begins =
      ap (λ (x : TokenState). entries.judged l.setting l.place.two 60 (marks.scan_move l.setting.syntax l.setting.inside x 60)) m
      ∙ ap (λ (x : TokenState). entries.judged l.setting l.place.two 60 (move.Begins x)) (opens_markup l.setting.inside markup)

  pub less_than_read : entries.ReadsByte l 60 (Ok what.Nothing) begun
  less_than_read =
      character_read l begun [] 60 60 (Ok what.Nothing) held (first_whole 60 (omega arith)) page refl (ap (λ (x : TokenState). entries.is_long l (known_tags.lies_in_tag x)) m)
      (ap (λ (x : TokenState). entries.is_long l (known_tags.is_tag_with l.setting.syntax l.setting.inside x (as_line_end 60))) m) (or_from _ _ (and-false (not l.place.started)) (and-false l.place.after_return))
      (subst (λ (x : Move). entries.Enters l 60 false x (Ok what.Nothing) begun) (sym begins) (refl, refl))

  -- and what stands whole behind it is the tag
  pub whole_taken : (bytes : List ℕ) (limit count : ℕ) → slice_get bytes 0 ≡ Some 60 → (limit ≡ 0 → ⊥) → limit ≤ length bytes → l.place.at + limit ≤ l.setting.limits.page → limit ≤ l.setting.limits.tag
      → l.place.starts ≡ l.place.at → ((setting : Setting) → OpensTag setting (take (limit - 1) (drop 1 bytes)))
      → (p : Pending) → TakesWhole (no_tag l.pending.tag.syntax) (take (limit - 1) (drop 1 bytes)) count p.tag → p ≡ record { mark = l.pending.mark; run = []; tag = p.tag }
      → (place : Position) → place ≡ fed (count - 1) (places.begun false l.place) → (new : Reading) → new ≡ entries.with_tag (record { setting = l.setting; place = place; held = l.held; pending = p; text = l.text; end = l.end }) false
      → ReadsWholeTag l bytes (count + 1) new
  whole_taken bytes limit count first some f page_is tag_is starts opens p t k place b new e = record {
    rest = drop 1 bytes;
    opens = first_is bytes 60 first;
    behind = count;
    count = refl;
    reads = record {
      between = m;
      held = held;
      page = page;
      markup = markup;
      opened = taken begun p (drop 1 bytes) (limit - 1) count refl refl (λ setting. opens_more setting (limit - 1) (drop 1 bytes) (opens setting)) (omega (arith, f, some, length-drop 1 bytes)) (λ _. omega (arith, page_is, some)) (λ _. omega (arith, tag_is, starts, some)) t l.pending.mark k new place b e;
    };
  }

-- behind so many bytes of a piece, of which the last one is its `<`, it is the next token
opened_took : (old l new : Reading) (s : reader.Scanning) (piece : List ℕ) (i n : ℕ) → i ≤ length piece → ReadsOn old s (take i piece) l → l.text.text ≡ [] → ReadsOpened l (drop i piece) n new → Took old s piece (i + n) what.Tag new
opened_took old l new s piece i n k r e t =
    let c = t.closes in
    let f = t.front.feeds in
    let inside : i + t.at < length piece = let q = c.fits in omega (arith, q, length-drop i piece, k) in
    let some : t.at ≡ 0 → ⊥ = λ z. none z t.front.begins in
    let front = front_read old t.before s l piece i t.at (let q = c.fits in omega (arith, q)) r (some_taken t.at _ _ some (of_opening t.front)) in
    let text : t.before.text.text ≡ [] = ap (λ (x : Reading). x.text.text) f.is ∙ e in
    let there : get_or (drop i piece) t.at 0 ≡ get_or piece (i + t.at) 0 = grind (arith, common_steps) in
    let byte : get_or piece (i + t.at) 0 ≡ 62 = sym there ∙ c.closes in
    let mark_is : t.before.pending.mark ≡ mark.Tag = ap (λ (x : Reading). x.pending.mark) f.is in
    let held_is : t.before.held ≡ [] = ap (λ (x : Reading). x.held) f.is in
    let reads = subst (λ (x : ℕ). entries.ReadsByte t.before x (Ok what.Tag) new) (sym byte) (ends_read t.before new mark_is held_is t.page t.tag t.ends) in
    let took = token_read old t.before new s piece (i + t.at) inside front what.Tag refl (inl text) reads in
    subst (λ (x : ℕ). Took old s piece x what.Tag new) (omega (arith, t.count)) took
  where
    none : t.at ≡ 0 → OpensTag l.setting (take t.at (drop i piece)) → ⊥
    none z b = subst (λ (x : ℕ). OpensTag l.setting (take x (drop i piece))) z b

-- at the front of a piece
pub tag_first : (old new : Reading) (s : reader.Scanning) (piece : List ℕ) (n : ℕ) → old.text.text ≡ [] → ReadsAs old s → ReadsWholeTag old piece n new → Took old s piece n what.Tag new
tag_first old new s piece n e h t =
    let b = t.reads in
    let first : get_or piece 0 0 ≡ 60 = ap (λ (x : List ℕ). get_or x 0 0) t.opens in
    let rest : drop 1 piece ≡ t.rest = ap (λ (x : List ℕ). drop 1 x) t.opens in
    let some : 0 < length piece = subst (λ (x : List ℕ). 0 < length x) (sym t.opens) (omega arith) in
    let reads = subst (λ (x : ℕ). entries.ReadsByte old x (Ok what.Nothing) (begun old b.between b.held b.page b.markup)) (sym first) (less_than_read old b.between b.held b.page b.markup) in
    let on = next_read old old (begun old b.between b.held b.page b.markup) s piece 0 some (reads_none old s e h) what.Nothing refl reads in
    let took = opened_took old (begun old b.between b.held b.page b.markup) new s piece 1 t.behind (omega (arith, some)) on e (subst (λ (x : List ℕ). ReadsOpened (begun old b.between b.held b.page b.markup) x t.behind new) (sym rest) b.opened) in
    subst (λ (x : ℕ). Took old s piece x what.Tag new) (omega (arith, t.count)) took
