-- What a reading stands for: after one more character, and where only its setting changes.
use Rattle.rx_scan.proofs.Common.{◌≡◌, ◌∙◌, ℕ, ◌+◌, ◌-◌, Bool, true, false, List, [], ◌∷◌, ◌++◌, refl, ap, sym, subst, arith, Err, Chars, split, PlacedCharacter, Syntax, Token, character, values, is_strict_literal, Content, Scanning, first_of, starts_at, entering, scan_from, read_byte, values_append, take, Fault, Stop, TagSoFar, Buffered, entered, Pending, PendsAs, Reading, Scanner, reading_spot, ReadsAs, ScanStands, Prepared, Took, Faults, Runs, Advances, TellsTokens, setting_after, is_tag, moved_inside}
use Rattle.rx_grammar.specs.declared.contents.Content.TheVariants as content
use Rattle.rx_scan.specs.declared.marks.TokenState.{TokenState}
use Rattle.rx_scan.specs.declared.marks.TokenState.TheVariants as mark
use Rattle.rx_scan.specs.declared.places.Position.{Position}
use Rattle.rx_scan.specs.declared.places.Setting.{Setting}
use Rattle.rx_scan.specs.Entries.{token_from, with_parts}
use Rattle.rx_grammar.specs.declared.stops.Stop.TheVariants as stops
use Rattle.rx_scan.specs.declared.answers.TokenKind.{TokenKind}

-- characters are pending, so the mark isn't `Nothing`
pub some_mark : (s : Syntax) (i : Content) (m : TokenState) (run : Chars) (t : TagSoFar) (text : Chars) (x : ℕ) (more : Chars) (place : Position) → PendsAs s i m run t text → text ≡ x ∷ more → token_from m place ≡ place.token
some_mark s i mark.Nothing run t text x more place h e = absurd (let k = sym h ∙ e in cc)
some_mark s i _ run t text x more place h e = refl

pub no_values : (run : List PlacedCharacter) → values run ≡ [] → run ≡ []
no_values [] e = refl
no_values (x ∷ run) e = absurd (cc)

pub first_stays : (run : List PlacedCharacter) (entry : PlacedCharacter) (x : ℕ) (more : Chars) (a b : ℕ) → values run ≡ x ∷ more → first_of (run ++ entry ∷ []) a ≡ first_of run b
first_stays [] entry x more a b e = absurd (cc)
first_stays (y ∷ run) entry x more a b e = refl

pub starts_next : (at : ℕ) → (at + 1) - 0 ≡ at + 1
starts_next at = omega arith

module _ (v : Reading) (s : Scanning) (h : ReadsAs v s) (after_return : Bool) where
  -- behind a character that is entered, with this run left
  pub after : (setting : Setting) (place : Position) (p : Pending) (text : Buffered) (end from : ℕ) (run : List PlacedCharacter) (two last : Bool)
      → place ≡ record { at = v.place.at + 1; starts = v.place.at + 1; token = from; started = true; after_return = after_return; two = two; last = last } → token_from p.mark place ≡ first_of run (s.at + 1 - 0) → p.tag.syntax ≡ setting.syntax
      → PendsAs setting.syntax setting.inside p.mark p.run p.tag (values run) → ReadsAs (record { setting = setting; place = place; held = []; pending = p; text = text; end = end }) (entering after_return run two last s)
  after setting place p text end from run two last pl token y k =
      record {
        at = ap (λ (q : Position). q.at) pl ∙ ap (λ a. a + 1) h.at;
        starts = ap (λ (q : Position). q.starts) pl ∙ (ap (λ a. a + 1) h.at ∙ sym (starts_next s.at));
        held = refl;
        started = ap (λ (q : Position). q.started) pl;
        after_return = ap (λ (q : Position). q.after_return) pl;
        two = ap (λ (q : Position). q.two) pl;
        last = ap (λ (q : Position). q.last) pl;
        token = token;
        syntax = y;
        pends = k;
      }

  -- where no token was whole
  pub place_on : entered after_return v.place ≡ record { at = v.place.at + 1; starts = v.place.at + 1; token = v.place.token; started = true; after_return = after_return; two = s.two; last = s.last }
  place_on = λ i. record { at = v.place.at + 1; starts = v.place.at + 1; token = v.place.token; started = true; after_return = after_return; two = h.two i; last = h.last i }

  -- the token goes on
  pub went : (entry : PlacedCharacter) (p : Pending) (text : Chars) (x : ℕ) (more : Chars) → text ≡ values s.run → text ≡ x ∷ more → p.tag.syntax ≡ v.setting.syntax
      → PendsAs v.setting.syntax v.setting.inside p.mark p.run p.tag (text ++ entry.value ∷ []) → token_from v.pending.mark v.place ≡ v.place.token
      → ReadsAs (with_parts v v.setting (entered after_return v.place) p v.text) (entering after_return (s.run ++ entry ∷ []) s.two s.last s)
  went entry p text x more t e y k o =
      after v.setting (entered after_return v.place) p v.text v.end v.place.token (s.run ++ entry ∷ []) s.two s.last place_on
      (some_mark v.setting.syntax v.setting.inside p.mark p.run p.tag (text ++ entry.value ∷ []) x (more ++ entry.value ∷ []) (entered after_return v.place) k (ap (λ t. t ++ entry.value ∷ []) e)
      ∙ (sym o ∙ (h.token ∙ sym (first_stays s.run entry x more ((s.at + 1) - 0) (starts_at s) (sym t ∙ e)))))
      y (subst (λ (z : Chars). PendsAs v.setting.syntax v.setting.inside p.mark p.run p.tag z) (ap (λ z. z ++ entry.value ∷ []) t ∙ sym (values_append s.run (entry ∷ []))) k)

  -- a token begins
  pub begins : (entry : PlacedCharacter) (p : Pending) (setting : Setting) (text : Buffered) (place : Position) (two last : Bool) → entry.first ≡ starts_at s → setting.syntax ≡ v.setting.syntax → setting.inside ≡ v.setting.inside
      → place ≡ record { at = v.place.at + 1; starts = v.place.at + 1; token = v.place.starts; started = true; after_return = after_return; two = two; last = last }
      → p.tag.syntax ≡ v.setting.syntax → PendsAs v.setting.syntax v.setting.inside p.mark p.run p.tag (entry.value ∷ [])
      → ReadsAs (with_parts v setting place p text) (entering after_return (entry ∷ []) two last s)
  begins entry p setting text place two last f sy ins pl y k =
      after setting place p text v.end v.place.starts (entry ∷ []) two last pl
      (some_mark v.setting.syntax v.setting.inside p.mark p.run p.tag (entry.value ∷ []) entry.value [] place k refl ∙ (ap (λ (q : Position). q.token) pl ∙ (h.starts ∙ sym f)))
      (y ∙ sym sy) (subst (λ (z : Syntax). PendsAs z setting.inside p.mark p.run p.tag (entry.value ∷ [])) (sym sy) (subst (λ (z : Content). PendsAs v.setting.syntax z p.mark p.run p.tag (entry.value ∷ [])) (sym ins) k))

  -- a token is whole
  pub whole : (p : Pending) (setting : Setting) (text : Buffered) (place : Position) (end : ℕ) (two last : Bool) → setting.syntax ≡ v.setting.syntax → p.mark ≡ mark.Nothing → p.tag.syntax ≡ v.setting.syntax
      → place ≡ record { at = v.place.at + 1; starts = v.place.at + 1; token = v.place.token; started = true; after_return = after_return; two = two; last = last }
      → ReadsAs (record { setting = setting; place = place; held = []; pending = p; text = text; end = end }) (entering after_return [] two last s)
  whole p setting text place end two last sy m y pl =
      after setting place p text end v.place.token [] two last pl
      (ap (λ (z : TokenState). token_from z place) m ∙ (ap (λ (q : Position). q.starts) pl ∙ (ap (λ a. a + 1) h.at ∙ sym (starts_next s.at))))
      (y ∙ sym sy) (subst (λ (z : TokenState). PendsAs setting.syntax setting.inside z p.run p.tag []) (sym m) refl)

-- what is no literal character
abbrev pub is_character : Token → Bool
is_character (character c) = true
is_character _ = false

pub no_literal : (c : ℕ) (i : Content) (token : Token) → is_character token ≡ false → is_strict_literal c i token ≡ false
no_literal c content.Strict (character d) h = absurd (cc)
no_literal c _ _ h = refl

pub stands_inside : (inside : Content) (drops : Bool) (v : Scanner) (s : Scanning) → v.reading.pending.mark ≡ mark.Nothing → ScanStands v s → ScanStands (moved_inside inside drops v) s
stands_inside inside drops v s n h =
    let r = h.reads_as in
    let none = subst (λ (m : TokenState). PendsAs v.reading.setting.syntax v.reading.setting.inside m v.reading.pending.run v.reading.pending.tag (values s.run)) n r.pends in
    record {
      reads_as = record {
        at = r.at;
        starts = r.starts;
        held = r.held;
        started = r.started;
        after_return = r.after_return;
        two = r.two;
        last = r.last;
        token = r.token;
        syntax = r.syntax;
        pends = subst (λ (m : TokenState). PendsAs v.reading.setting.syntax inside m v.reading.pending.run v.reading.pending.tag (values s.run)) (sym n) none;
      };
      unfailed = h.unfailed;
      unspent = h.unspent;
    }

-- what is forgotten before a step changes nothing of it
pub prepared_reads : (old new : Scanner) (s : Scanning) → Prepared old new → ScanStands old s → ReadsAs new.reading s
prepared_reads old new s p h =
    let r = h.reads_as in
    let sy = ap (λ (x : Setting). x.syntax) p.setting in
    record {
      at = ap (λ (x : Position). x.at) p.place ∙ r.at;
      starts = ap (λ (x : Position). x.starts) p.place ∙ r.starts;
      held = p.held ∙ r.held;
      started = ap (λ (x : Position). x.started) p.place ∙ r.started;
      after_return = ap (λ (x : Position). x.after_return) p.place ∙ r.after_return;
      two = ap (λ (x : Position). x.two) p.place ∙ r.two;
      last = ap (λ (x : Position). x.last) p.place ∙ r.last;
      token = (λ i. token_from (p.mark_is i) (p.place i)) ∙ r.token;
      syntax = ap (λ (x : TagSoFar). x.syntax) p.tag
          ∙ (split (λ (x : TagSoFar). x.syntax ≡ old.reading.pending.tag.syntax) (is_tag old.what) _ _ (λ e. refl) (λ e. refl) ∙ (r.syntax ∙ sym sy));
      pends = rw (p.setting, p.mark_is, p.run, p.tag) (split (λ (x : TagSoFar). PendsAs old.reading.setting.syntax old.reading.setting.inside old.reading.pending.mark old.reading.pending.run x (values s.run)) (is_tag old.what) _ _
          (λ e. rw (p.between e) (rw (p.between e) at r.pends)) (λ e. r.pends));
    }

spot_same : (a b : Reading) → a.setting ≡ b.setting → reading_spot a ≡ reading_spot b
spot_same a b e = λ i. record { inside = (e i).inside; leads = (e i).leads }

pub took_same : (a b : Reading) (s : Scanning) (piece : List ℕ) (n : ℕ) (answer : TokenKind) (new : Reading) → a.setting ≡ b.setting → Took a s piece n answer new → Took b s piece n answer new
took_same a b s piece n answer new e t =
    record {
      fits = t.fits;
      scanned = t.scanned;
      read = (λ i. scan_from (sym e i).syntax (sym e i).limits (spot_same b a (sym e) i) s (take n piece)) ∙ t.read;
      reads_as = t.reads_as;
      tells = subst (λ (x : Setting). TellsTokens x.drops answer s (take n piece) t.scanned.items new) e t.tells;
      mark = t.mark;
      setting = t.setting ∙ ap (λ x. setting_after answer new x t.scanned.items) e;
      all = t.all;
      some = t.some;
    }

pub faults_same : (a b : Reading) (s : Scanning) (piece : List ℕ) (fault : Fault) → a.setting ≡ b.setting → Faults a s piece fault → Faults b s piece fault
faults_same a b s piece fault e t =
    let f = sym e in
    record {
      n = t.n;
      byte = t.byte;
      next = t.next;
      unmarked = t.unmarked;
      here = t.here;
      is = t.is;
      read = (λ i. scan_from (f i).syntax (f i).limits (spot_same b a f i) s (take t.n piece)) ∙ t.read;
      decides = (λ i. read_byte (f i).syntax (f i).limits (spot_same b a f i) t.byte t.next) ∙ t.decides;
      first = (λ i. scan_from (f i).syntax (f i).limits (spot_same b a f i) s piece) ∙ t.first;
    }

pub stop_same : (a : Reading) (old new : Scanner) (s : Scanning) (piece : List ℕ) (stop : Stop) (after : Reading) → a.setting ≡ old.reading.setting → Runs a s piece (Err stop) after → Advances old s piece (Err stop) new
stop_same a old new s piece (stops.Fault fault) after e r = faults_same a old.reading s piece fault e r
stop_same a old new s piece stops.NoMemory after e r = tt
