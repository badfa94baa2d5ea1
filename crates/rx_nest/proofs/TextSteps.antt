-- Tokens of text leave the elements as they are, and show their text.
use Rattle.rx_nest.proofs.Common.{◌≡◌, ◌∙◌, Bool, true, false, List, [], ◌∷◌, ◌++◌, refl, sym, ap, append_assoc, append-nil, Option, Some, Ok, ◌&&◌, if◌then◌else◌, map, map-append, and_from, Chars, untrue, Syntax, Token, character, reference, kept, section, comment, Item, text_of, is_line_feed, Phase, within, Limits, Spot, spot_of, is_none_left, steps_on, no_step, with_events, ℕ, Result, Err, Kind, Fault, Scanned, Progress, read_byte, progress_of, nested_items, telling, page_byte_on, fault_in, Nesting, Event, Step, going_on, told, text_step, step_by, nest_step, joined, texts_of, keeps_first, Sign, said, Flags, is_hidden, Sight, see, sees, nothing_seen, subst, page_on}
use Rattle.rx_pages.proofs.ScanSteps.{Stays, one_step}

pub sees_append : (sight : Sight) (a b : List Event) → sees sight (a ++ b) ≡ sees (sees sight a) b
sees_append sight [] b = refl
sees_append sight (e ∷ a) b = sees_append (see e sight.flags sight.signs) a b

-- what is seen with an event more
pub seen_on : (Is : Sight → Type 0) (events : List Event) (event : Event) → Is (see event (sees nothing_seen events).flags (sees nothing_seen events).signs) → Is (sees nothing_seen (events ++ event ∷ []))
seen_on Is events event h = subst Is (sym (sees_append nothing_seen events (event ∷ []))) h

-- what text shows
abbrev pub said_by : Phase → Bool → Chars → List Sign
said_by within hidden text = if hidden then [] else map said text
said_by _ hidden text = []

said_append : (phase : Phase) (hidden : Bool) (a b : Chars) → said_by phase hidden (a ++ b) ≡ said_by phase hidden a ++ said_by phase hidden b
said_append within false a b = map-append said a b
said_append _ _ a b = refl

said_none : (phase : Phase) (hidden : Bool) → said_by phase hidden [] ≡ []
said_none within true = refl
said_none _ _ = refl

-- the events of one text
told_seen : (phase : Phase) (text : Chars) (flags : Flags) (signs : List Sign) → sees (record { flags = flags; signs = signs }) (told phase text) ≡ record { flags = flags; signs = signs ++ said_by phase (is_hidden flags) text }
told_seen within text flags signs = by (is_hidden flags)
  where
    by : (hidden : Bool) → ◌≡◌ {A = Sight} (record { flags = flags; signs = if hidden then signs else signs ++ map said text }) (record { flags = flags; signs = signs ++ (if hidden then [] else map said text) })
    by true = ap (λ x. record { flags = flags; signs = x }) (sym (append-nil signs))
    by false = refl
told_seen _ text flags signs = ap (λ x. record { flags = flags; signs = x }) (sym (append-nil signs))

-- Tokens that leave the elements as they are, and show this.
pub record Quiet (syntax : Syntax) (limits : Limits) (spot : Spot) (n : Nesting) (items : List Item) (shown : Bool → List Sign) : Type 0 where
  pub step : Step
  pub is_step : steps_on syntax limits.depth (Ok (no_step n)) items ≡ Ok step
  pub stays : Stays syntax limits.depth spot n items
  pub line : step.next.line ≡ n.line
  pub phase : step.next.phase ≡ n.phase
  pub drops : step.next.drops ≡ (if is_none_left items then n.drops else false)
  pub shows : (flags : Flags) (signs : List Sign) → sees (record { flags = flags; signs = signs }) step.events ≡ record { flags = flags; signs = signs ++ shown (is_hidden flags) }

module _ (syntax : Syntax) (limits : Limits) (spot : Spot) where
  text_ok : (n : Nesting) (item : Item) (text : Chars) → text_of item.token ≡ Some text → nest_step syntax limits.depth n item ≡ Ok (text_step n (is_line_feed item.token) text)
  text_ok n item text h = by item.token refl h
    where
      some_is : (a b : Chars) → Some a ≡ Some b → a ≡ b
      some_is a b e = cc

      by : (token : Token) → item.token ≡ token → text_of token ≡ Some text → nest_step syntax limits.depth n item ≡ Ok (text_step n (is_line_feed token) text)
      by (character c) k e = ap (λ t. step_by syntax limits.depth n item t) k ∙ ap (λ x. Ok (text_step n (is_line_feed (character c)) x)) (some_is (c ∷ []) text e)
      by (reference c) k e = ap (λ t. step_by syntax limits.depth n item t) k ∙ ap (λ x. Ok (text_step n (is_line_feed (reference c)) x)) (some_is (c ∷ []) text e)
      by (kept x) k e = ap (λ t. step_by syntax limits.depth n item t) k ∙ ap (λ y. Ok (text_step n false y)) (some_is x text e)
      by (section x) k e = ap (λ t. step_by syntax limits.depth n item t) k ∙ ap (λ y. Ok (text_step n false y)) (some_is x text e)
      by _ k e = absurd (cc)

  -- the parts of a text
  record Parts (item : Item) (items : List Item) (text : Chars) : Type 0 where
    a : Chars
    b : Chars
    first : text_of item.token ≡ Some a
    rest : texts_of items ≡ Some b
    are : text ≡ a ++ b

  parts : (item : Item) (items : List Item) (text : Chars) → texts_of (item ∷ items) ≡ Some text → Parts item items text
  parts item items text h = by (text_of item.token) (texts_of items) refl refl h
    where
      by : (x y : Option Chars) → text_of item.token ≡ x → texts_of items ≡ y → joined x y ≡ Some text → Parts item items text
      by (Some a) (Some b) p q e = record { a = a; b = b; first = p; rest = q; are = (let w : a ++ b ≡ text = cc in sym w) }
      by _ _ p q e = absurd (cc)

  keeps_false : (items : List Item) → keeps_first false items ≡ true
  keeps_false [] = refl
  keeps_false (item ∷ items) = refl

  pub none_quiet : (n : Nesting) → spot_of syntax n ≡ spot → Quiet syntax limits spot n [] (λ hidden. [])
  none_quiet n s = record { step = no_step n; is_step = refl; stays = s; line = refl; phase = refl; drops = refl; shows = λ flags signs. ap (λ x. record { flags = flags; signs = x }) (sym (append-nil signs)) }

  pub texts_quiet : (items : List Item) (n : Nesting) (text : Chars) → spot_of syntax n ≡ spot → texts_of items ≡ Some text → keeps_first n.drops items ≡ true → Quiet syntax limits spot n items (λ hidden. said_by n.phase hidden text)
  texts_quiet [] n text s h k =
      let none : [] ≡ text = cc in
      record {
        step = no_step n;
        is_step = refl;
        stays = s;
        line = refl;
        phase = refl;
        drops = refl;
        shows = λ flags signs. ap (λ x. record { flags = flags; signs = x }) (sym (append-nil signs) ∙ ap (λ x. signs ++ x) (sym (said_none n.phase (is_hidden flags)) ∙ ap (λ x. said_by n.phase (is_hidden flags) x) none));
      }
  texts_quiet (item ∷ items) n text s h k =
      let p = parts item items text h in
      let ih = texts_quiet items (going_on n) p.b s p.rest (keeps_false items) in
      let kept_one : (n.drops && is_line_feed item.token) ≡ false = untrue (n.drops && is_line_feed item.token) k in
      let step : Step = record { next = going_on n; events = told n.phase p.a } in
      let ok : nest_step syntax limits.depth n item ≡ Ok step = text_ok n item p.a p.first ∙ ap (λ b. Ok (record { next = going_on n; events = if b then [] else told n.phase p.a })) kept_one in
      record {
        step = record { next = ih.step.next; events = told n.phase p.a ++ ih.step.events };
        is_step = one_step syntax limits spot n item items step ok ∙ ap (λ x. with_events (told n.phase p.a) x) ih.is_step;
        stays = (s, (step, (ok, ih.stays)));
        line = ih.line;
        phase = ih.phase;
        drops = ih.drops ∙ same_false items;
        shows = λ flags signs.
            sees_append (record { flags = flags; signs = signs }) (told n.phase p.a) ih.step.events
            ∙ (ap (λ x. sees x ih.step.events) (told_seen n.phase p.a flags signs)
            ∙ (ih.shows flags (signs ++ said_by n.phase (is_hidden flags) p.a)
            ∙ ap (λ x. record { flags = flags; signs = x }) (append_assoc signs (said_by n.phase (is_hidden flags) p.a) (said_by n.phase (is_hidden flags) p.b)
            ∙ ap (λ x. signs ++ x) (sym (said_append n.phase (is_hidden flags) p.a p.b) ∙ ap (λ x. said_by n.phase (is_hidden flags) x) (sym p.are)))));
      }
    where
      same_false : (items : List Item) → (if is_none_left items then false else false) ≡ false
      same_false [] = refl
      same_false (i ∷ items) = refl

  -- one token that shows nothing
  pub one_quiet : (n : Nesting) (item : Item) → spot_of syntax n ≡ spot → (step : Step) → nest_step syntax limits.depth n item ≡ Ok step → step.next ≡ going_on n → ((flags : Flags) (signs : List Sign) → sees (record { flags = flags; signs = signs }) step.events ≡ record { flags = flags; signs = signs }) → Quiet syntax limits spot n (item ∷ []) (λ hidden. [])
  one_quiet n item s step h e shows =
      record {
        step = record { next = step.next; events = step.events ++ [] };
        is_step = one_step syntax limits spot n item [] step h;
        stays = (s, (step, (h, ap (λ m. spot_of syntax m) e ∙ s)));
        line = ap (λ (m : Nesting). m.line) e;
        phase = ap (λ (m : Nesting). m.phase) e;
        drops = ap (λ (m : Nesting). m.drops) e;
        shows = λ flags signs. ap (λ x. sees (record { flags = flags; signs = signs }) x) (append-nil step.events) ∙ (shows flags signs ∙ ap (λ x. record { flags = flags; signs = x }) (sym (append-nil signs)));
      }

  pub comment_quiet : (n : Nesting) (item : Item) → spot_of syntax n ≡ spot → item.token ≡ comment → Quiet syntax limits spot n (item ∷ []) (λ hidden. [])
  comment_quiet n item s e = one_quiet n item s (record { next = going_on n; events = [] }) (ap (λ t. step_by syntax limits.depth n item t) e) refl (λ flags signs. refl)

  pub empty_quiet : (n : Nesting) (item : Item) → spot_of syntax n ≡ spot → item.token ≡ section [] → Quiet syntax limits spot n (item ∷ []) (λ hidden. [])
  empty_quiet n item s e =
      one_quiet n item s (text_step n false []) (ap (λ t. step_by syntax limits.depth n item t) e) refl (λ flags signs. by n.drops flags signs)
    where
      plain : (flags : Flags) (signs : List Sign) → sees (record { flags = flags; signs = signs }) (told n.phase []) ≡ record { flags = flags; signs = signs }
      plain flags signs = told_seen n.phase [] flags signs ∙ ap (λ x. record { flags = flags; signs = x }) (ap (λ x. signs ++ x) (said_none n.phase (is_hidden flags)) ∙ append-nil signs)

      by : (drops : Bool) (flags : Flags) (signs : List Sign) → sees (record { flags = flags; signs = signs }) (if drops && false then [] else told n.phase []) ≡ record { flags = flags; signs = signs }
      by true = plain
      by false = plain

  pub line_feed_quiet : (n : Nesting) (item : Item) → spot_of syntax n ≡ spot → n.drops ≡ true → is_line_feed item.token ≡ true → Quiet syntax limits spot n (item ∷ []) (λ hidden. [])
  line_feed_quiet n item s d l = by item.token refl l
    where
      dropped : (n.drops && is_line_feed item.token) ≡ true
      dropped = and_from n.drops (is_line_feed item.token) d l

      by : (token : Token) → item.token ≡ token → is_line_feed token ≡ true → Quiet syntax limits spot n (item ∷ []) (λ hidden. [])
      by (character c) k e = one_quiet n item s (record { next = going_on n; events = [] }) (text_ok n item (c ∷ []) (ap text_of k) ∙ ap (λ b. Ok (record { next = going_on n; events = if b then [] else told n.phase (c ∷ []) })) dropped) refl (λ flags signs. refl)
      by (reference c) k e = one_quiet n item s (record { next = going_on n; events = [] }) (text_ok n item (c ∷ []) (ap text_of k) ∙ ap (λ b. Ok (record { next = going_on n; events = if b then [] else told n.phase (c ∷ []) })) dropped) refl (λ flags signs. refl)
      by _ k e = absurd (cc)

-- What a byte leads to: what its tokens make of the elements, or a fault.
pub byte_goes : (syntax : Syntax) (limits : Limits) (p : Progress) (byte : ℕ) (G : Result Progress Fault → Type 0) → ((kind : Kind) → G (Err (fault_in p.now.scan kind)))
    → ((scanned : Scanned) (step : Step) → read_byte syntax limits (spot_of syntax p.now.nest) byte p.now.scan ≡ Ok scanned → steps_on syntax limits.depth (Ok (no_step p.now.nest)) scanned.items ≡ Ok step
    → G (Ok (record { now = record { scan = scanned.next; nest = step.next }; told = p.told ++ step.events }))) → G (page_byte_on syntax limits (Ok p) byte)
byte_goes syntax limits p byte G fails goes = by (read_byte syntax limits (spot_of syntax p.now.nest) byte p.now.scan) refl
  where
    on : (scanned : Scanned) → read_byte syntax limits (spot_of syntax p.now.nest) byte p.now.scan ≡ Ok scanned → (x : Result Step Kind) → steps_on syntax limits.depth (Ok (no_step p.now.nest)) scanned.items ≡ x → G (telling p.told (progress_of p.now.scan scanned.next x))
    on scanned e (Ok step) k = goes scanned step e k
    on scanned e (Err kind) k = fails kind

    by : (x : Result Scanned Kind) → read_byte syntax limits (spot_of syntax p.now.nest) byte p.now.scan ≡ x → G (telling p.told (nested_items syntax limits.depth p.now x))
    by (Ok scanned) e = on scanned e (steps_on syntax limits.depth (Ok (no_step p.now.nest)) scanned.items) refl
    by (Err kind) e = fails kind

-- What goes on with each byte that is read, whatever bytes are left, goes on over all.
pub bytes_go : (syntax : Syntax) (limits : Limits) (Is : List ℕ → Progress → Type 0) → ((byte : ℕ) (rest : List ℕ) (p : Progress) (scanned : Scanned) (step : Step) → read_byte syntax limits (spot_of syntax p.now.nest) byte p.now.scan ≡ Ok scanned
    → steps_on syntax limits.depth (Ok (no_step p.now.nest)) scanned.items ≡ Ok step → Is (byte ∷ rest) p → Is rest (record { now = record { scan = scanned.next; nest = step.next }; told = p.told ++ step.events }))
    → (bytes : List ℕ) (p q : Progress) → page_on syntax limits (Ok p) bytes ≡ Ok q → Is bytes p → Is [] q
bytes_go syntax limits Is on bytes p q e h = subst (At []) e (go bytes (Ok p) h)
  where
    At : List ℕ → Result Progress Fault → Type 0
    At rest (Ok x) = Is rest x
    At rest (Err fault) = Unit {0}

    go : (rest : List ℕ) (x : Result Progress Fault) → At rest x → At [] (page_on syntax limits x rest)
    go [] x k = k
    go (byte ∷ rest) (Err fault) k = go rest (Err fault) tt
    go (byte ∷ rest) (Ok x) k = go rest (page_byte_on syntax limits (Ok x) byte) (byte_goes syntax limits x byte (At rest) (λ kind. tt) (λ scanned step a b. on byte rest x scanned step a b k))
