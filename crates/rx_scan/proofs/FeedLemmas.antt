-- Characters of a tag that are taken at once are read like its bytes one after another, in the tag or behind its `<`.
use Rattle.rx_scan.proofs.Common.{◌≡◌, ◌∙◌, ℕ, ◌+◌, ◌≤◌, ◌<◌, Bool, true, false, List, [], ◌∷◌, ◌++◌, length, take, refl, ap, sym, subst, Ok, append_assoc, arith, length-take-le, eqb-true, zero, suc, ◌==◌, not, nat_le, MatchBool, ◌^◌, leb-true, and_parts, and_from, and_right, or_from, as_line_end, first_whole, TagState, is_printed, GoesTo, TagSoFar, MayStep, TakesMore, FeedsFront, with_state, fed, Reading, Pending, IsOfTag, OpensTag, OpensFront, with_tag_mark}
use Rattle.rx_scan.specs.declared.marks.TokenState.{TokenState}
use Rattle.rx_scan.specs.declared.marks.TokenState.TheVariants as mark
use Rattle.rx_scan.specs.declared.marks.Move.{Move}
use Rattle.rx_scan.specs.KnownTags as known_tags
use Rattle.rx_pages.specs.PageReader as reader
use Rattle.rx_tags.proofs.TakeLemmas.{is_none, goes_unfinished, chosen as some_taken, match_by}
use Rattle.rx_scan.specs.declared.answers.TokenKind.TheVariants as what
use Rattle.rx_scan.specs.declared.places.Position.{Position}
use Rattle.rx_scan.specs.Entries as entries
use Rattle.rx_scan.proofs.RunLemmas.{ReadsOn, reads_more}
use Rattle.rx_scan.specs.declared.places.Setting.{Setting}
use Rattle.rx_scan.proofs.ByteLemmas.{other_read, within_limit}

-- A byte that surely belongs to a tag is read as a tag's: in one, or behind its `<`.
module _ (l new : Reading) (b : ℕ) (m : TokenState) (at : l.pending.mark ≡ m) (begun : entries.token_from m l.place ≡ l.place.token) (k : IsOfTag l.setting m b) (t : FeedsFront (with_tag_mark l) (b ∷ []) new) where
  known : IsOfTag l.setting l.pending.mark b
  known = subst (λ (x : TokenState). IsOfTag l.setting x b) (sym at) k

  abbrev fed_tag : TagSoFar
  fed_tag = with_state l.pending.tag t.state

  tags : entries.Tags l b false (entries.with_mark mark.Tag l.pending) (Ok what.Nothing) new
  tags = (fed_tag, (subst (λ (x : TagState). GoesTo l.pending.tag.syntax l.pending.tag.state b x) (sym t.goes.2) t.goes.1, refl), t.is)

  not_long : (is : Bool) → entries.is_long l is ≡ false
  not_long = within_limit l (subst (λ (x : ℕ). l.place.at < x + l.setting.limits.tag) (sym (ap (λ (x : TokenState). entries.token_from x l.place) at ∙ begun)) (omega (arith, t.tag)))

  opens_one : entries.ReadsByte l b (Ok what.Nothing) new
  opens_one =
      other_read l new [] b b (Ok what.Nothing) t.held (first_whole b (let h = leb-true b 126 (and_parts (nat_le 32 b) (nat_le b 126) (and_parts (is_printed b) _ t.printed).0).1 in omega arith)) (omega (arith, t.page))
      known.some (not_long (known_tags.lies_in_tag l.pending.mark)) (not_long (known_tags.is_tag_with l.setting.syntax l.setting.inside l.pending.mark (as_line_end b)))
      (or_from _ _ (and_right (not l.place.started) _ known.unmarked) (and_right l.place.after_return _ known.goes_on)) known.on_a_line
      (subst (λ (x : Move). entries.Enters l b false x (Ok what.Nothing) new) (sym (ap (entries.judged l.setting l.place.two b) known.moves)) tags)

reads_one : (l new : Reading) (b : ℕ) → FeedsFront l (b ∷ []) new → entries.ReadsByte l b (Ok what.Nothing) new
reads_one l new b t =
    let printed : is_printed b ≡ true = (and_parts (is_printed b) _ t.printed).0 in
    let tagged : l ≡ with_tag_mark l = λ i. record { setting = l.setting; place = l.place; held = l.held; pending = record { mark = t.in_tag i; run = l.pending.run; tag = l.pending.tag }; text = l.text; end = l.end } in
    opens_one l new b mark.Tag t.in_tag refl
    (record { moves = refl; known = refl; some = is_none is_printed b 0 printed refl; unmarked = is_none is_printed b 65279 printed refl; on_a_line = is_none is_printed b 13 printed refl; goes_on = is_none is_printed b 10 printed refl })
    (subst (λ (x : Reading). FeedsFront x (b ∷ []) new) tagged t)

-- behind the first one
abbrev pub middle : Reading → TagState → Reading
middle l state = entries.with_parts l l.setting (fed 1 l.place) (record { mark = l.pending.mark; run = l.pending.run; tag = with_state l.pending.tag state }) l.text

fed_on : (m n : ℕ) (p : Position) → m ≡ n + 1 → fed m p ≡ fed n (fed 1 p)
fed_on m n p q =
    let e : p.at + m ≡ (p.at + 1) + n = omega (arith, q) in
    λ i. record { at = e i; starts = e i; token = p.token; started = true; after_return = false; two = p.two; last = p.last }

module _ (l new : Reading) (b d : ℕ) (front : List ℕ) (t : FeedsFront l (b ∷ d ∷ front) new) where
  pub first_feeds : FeedsFront l (b ∷ []) (middle l t.goes.0)
  first_feeds =
      record {
        in_tag = t.in_tag;
        held = t.held;
        printed = and_from (is_printed b) true (and_parts (is_printed b) _ t.printed).0 refl;
        page = omega (arith, t.page);
        tag = omega (arith, t.tag);
        state = t.goes.0;
        goes = (t.goes.0, t.goes.1, refl);
        is = refl;
      }

  pub rest_feeds : FeedsFront (middle l t.goes.0) (d ∷ front) new
  rest_feeds =
      record {
        in_tag = t.in_tag;
        held = refl;
        printed = (and_parts (is_printed b) _ t.printed).1;
        page = omega (arith, t.page);
        tag = omega (arith, t.tag);
        state = t.state;
        goes = t.goes.2;
        is = t.is
            ∙ ap (λ (p : Position). entries.with_parts l l.setting p (record { mark = l.pending.mark; run = l.pending.run; tag = with_state l.pending.tag t.state }) l.text)
            (fed_on (length (b ∷ d ∷ front)) (length (d ∷ front)) l.place (omega arith));
      }

pub feed_on : (old new : Reading) (s : reader.Scanning) (b : ℕ) (front : List ℕ) (l : Reading) (bytes : List ℕ) → ReadsOn old s bytes l → FeedsFront l (b ∷ front) new → ReadsOn old s (bytes ++ b ∷ front) new
feed_on old new s b [] l bytes r t = reads_more old l s bytes r b new (reads_one l new b t)
feed_on old new s b (d ∷ front) l bytes r t =
    let next : Reading = middle l t.goes.0 in
    subst (λ (x : List ℕ). ReadsOn old s x new) (append_assoc bytes (b ∷ []) (d ∷ front))
    (feed_on old new s d front next (bytes ++ b ∷ []) (reads_more old l s bytes r b next (reads_one l next b (first_feeds l new b d front t))) (rest_feeds l new b d front t))

-- the tag may go on
pub feeds_steps : (l new : Reading) (front : List ℕ) → FeedsFront l front new → MayStep l.pending.tag → MayStep new.pending.tag
feeds_steps l new front t m =
    subst (λ (x : Reading). MayStep x.pending.tag) (sym t.is)
    (record { unfinished = goes_unfinished l.pending.tag.syntax l.pending.tag.state t.state front t.goes m.unfinished; unrefused = m.unrefused })

-- there is room for the place behind it
pub fed_fits : (tag next : TagSoFar) (bytes : List ℕ) (limit n at : ℕ) → limit ≤ length bytes → TakesMore tag (take limit bytes) n next → at + limit < 2 ^ 64 → at + n < 2 ^ 64
fed_fits tag next bytes limit n at f t h = let k = t.front.fits in omega (arith, k, h, length-take-le limit bytes f)

pub open_on : (old new : Reading) (s : reader.Scanning) (b : ℕ) (front : List ℕ) (l : Reading) (bytes : List ℕ) → ReadsOn old s bytes l → OpensFront l (b ∷ front) new → ReadsOn old s (bytes ++ b ∷ front) new
open_on old new s b [] l bytes r t = reads_more old l s bytes r b new (opens_one l new b mark.LessThan t.opened refl t.begins t.feeds)
open_on old new s b (d ∷ front) l bytes r t =
    let tag : Reading = with_tag_mark l in
    let next : Reading = middle tag t.feeds.goes.0 in
    subst (λ (x : List ℕ). ReadsOn old s x new) (append_assoc bytes (b ∷ []) (d ∷ front))
    (feed_on old new s d front next (bytes ++ b ∷ []) (reads_more old l s bytes r b next (opens_one l next b mark.LessThan t.opened refl t.begins (first_feeds tag new b d front t.feeds))) (rest_feeds tag new b d front t.feeds))

-- the first of some bytes is that of a front
pub opens_taken : (setting : Setting) (bytes : List ℕ) (n : ℕ) → (n ≡ 0 → ⊥) → OpensTag setting bytes → OpensTag setting (take n bytes)
opens_taken setting bytes zero z t = absurd (z refl)
opens_taken setting [] (suc n) z t = absurd t
opens_taken setting (c ∷ bytes) (suc n) z t = t

-- where the mark was set before them
abbrev pub pending_as : Reading → Pending → Reading
pending_as v p = record { setting = v.setting; place = v.place; held = v.held; pending = p; text = v.text; end = v.end }

pub opened_by : (v old new : Reading) (p : Pending) (bytes : List ℕ) (n : ℕ) (P : Type 0) → v ≡ old → p ≡ entries.with_mark mark.Tag v.pending → (n ≡ 0 → ⊥) → old.pending.mark ≡ mark.LessThan → ((setting : Setting) → OpensTag setting bytes)
    → MatchBool (n == 0) (new ≡ pending_as v p) (FeedsFront (pending_as v p) (take n bytes) new) → MatchBool (n == 0) P (OpensFront old (take n bytes) new)
opened_by v old new p bytes n P e q z o k m =
    some_taken n P (OpensFront old (take n bytes) new) z
    (match_by (n == 0) _ _ m (λ t f. absurd (z (eqb-true n 0 t)))
    (λ t f. record { opened = o; begins = opens_taken old.setting bytes n z (k old.setting); feeds = subst (λ (x : Reading). FeedsFront x (take n bytes) new) (ap (pending_as v) q ∙ ap with_tag_mark e) f }))
