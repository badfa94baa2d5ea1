-- What is read of a piece without `<` and `&` between two tokens: text.
use Rattle.rx_nest.proofs.Common.{◌≡◌, ◌∙◌, ℕ, zero, suc, ◌<◌, Bool, true, false, List, [], ◌∷◌, ◌++◌, map, take, drop, refl, sym, ap, ap₂, subst, Option, None, Some, Result, Ok, Err, eqb-true, lit<, append_assoc, append-nil, ◌&&◌, ◌||◌, ◌==◌, not, if◌then◌else◌, and_from, or_parts, append_cancel_left, map-append, less_than_sign, ampersand, greater_than_sign, Chars, by_test, split, both, untrue, Syntax, Char, answer_of, PlacedCharacter, carriage_return, as_line_end, Tag, tag, has_references, is_text, values, Item, is_literal, StartTag, Content, Kind, Limits, Verdict, goes_on, whole, ended, refused, verdict, first_verdict, Spot, spot_of, Scanning, starts_at, Scanned, is_doctype, item_of_run, completed, read_byte, Progress, steps_on, no_step, page_on, page_read, no_progress, page_append, Stop, token_of_item, equal, IsNoMemory, is_quiet, Nested, NestStepped, event_signs, IsBetween, Sign, said, Sight, is_hidden, sees, nothing_seen, finishing, OwesNone, is_calm, HasMemory}
use Rattle.rx_pages.specs.Nesting.{Event, begins, says, finishes, Nesting, Step}
use Rattle.rx_pages.specs.PageReader as reader
use Rattle.rx_grammar.specs.declared.stops.Stop.TheVariants as stop
use Rattle.rx_nest.specs.declared.nests.Event.{Event as Shown}
use Rattle.rx_nest.specs.declared.nests.Event.TheVariants as event
use Rattle.rx_nest.specs.declared.tree_tokens.PendingEvents.{PendingEvents}
use Rattle.rx_nest.specs.declared.lines.TagAction.{TagAction}
use Rattle.rx_nest.specs.declared.lines.TagAction.TheVariants as own
use Rattle.rx_nest.specs.Nests as nests
use Rattle.rx_nest.proofs.TextSteps.{sees_append, bytes_go}
use Rattle.rx_nest.proofs.PageWalks.{Behind, Tagged, all_weaker, items_hold}
use Rattle.rx_nest.proofs.TokenPlacing.{HasNoTag, IsOther, byte_by}
use Rattle.rx_scan.proofs.QuietLemmas.{last_byte, begins_line}

unlike : (held : List ℕ) (byte c d : ℕ) → (byte == d) ≡ false → answer_of (held ++ byte ∷ []) ≡ Char c → (10 == d) ≡ false → d < 128 → (as_line_end c == d) ≡ false
unlike held byte c d q e n l =
    by_test {G = (as_line_end c == d) ≡ false} (as_line_end c == d)
    (λ t. absurd (let same : c ≡ d = begins_line c d (eqb-true (as_line_end c) d t) n in let is : byte ≡ d = last_byte held byte d (e ∙ ap Char same) l in let w : true ≡ false = sym (equal d) ∙ (ap (λ (x : ℕ). x == d) (sym is) ∙ q) in cc)) (λ f. f)

abbrev Plain : Verdict → Type 0
Plain goes_on = ⊥
Plain (whole token) = (t : Tag) → token ≡ tag t → ⊥
Plain (ended token) = ⊥
Plain (refused kind) = Unit {0}

first_plain : (inside : Content) (c : ℕ) → (c == less_than_sign) ≡ false → (c == ampersand) ≡ false → Plain (first_verdict inside c)
first_plain inside c a b =
    split Plain (c == less_than_sign || (c == ampersand && has_references inside)) _ _ (λ t. absurd (let w : true ≡ false = sym t ∙ ap₂ (λ x y. x || (y && has_references inside)) a b in cc))
    (λ f. split Plain (is_text inside c) _ _ (λ t. λ u k. cc) (λ t. tt))

abbrev Calm : Result Scanned Kind → Type 0
Calm (Ok r) = (r.next.run ≡ []) × HasNoTag r.items
Calm (Err kind) = Unit {0}

module _ (syntax : Syntax) (limits : Limits) (spot : Spot) where
  completed_calm : (s : Scanning) (after_return : Bool) (item : Item) → ((t : Tag) → item.token ≡ tag t → ⊥) → Calm (completed syntax limits spot after_return item s)
  completed_calm s after_return item k =
      split Calm (s.two && is_literal greater_than_sign item) _ _ (λ e. tt) (λ e. split Calm (is_doctype item.token && not spot.leads) _ _ (λ d. tt) (λ d. (refl, (k, tt))))

  told_calm : (s : Scanning) (after_return : Bool) (entry : PlacedCharacter) (v : Verdict) → Plain v → Calm (reader.told syntax limits spot after_return entry s v)
  told_calm s after_return entry goes_on p = absurd p
  told_calm s after_return entry (whole token) p =
      completed_calm s after_return (item_of_run spot.inside token (s.run ++ entry ∷ [])) (λ t e. p t (sym (token_of_item spot.inside token (s.run ++ entry ∷ [])) ∙ e))
  told_calm s after_return entry (ended token) p = absurd p
  told_calm s after_return entry (refused kind) p = tt

  byte_calm : (s : Scanning) (byte : ℕ) → s.run ≡ [] → not (byte == 60 || byte == 38) ≡ true → Calm (read_byte syntax limits spot byte s)
  byte_calm s byte e q =
      let n = or_parts (byte == 60) (byte == 38) (untrue (byte == 60 || byte == 38) q) in
      byte_by syntax limits spot s byte Calm (λ kind. tt) (λ next r a. (r ∙ e, tt))
      (λ c k. told_calm s (c == carriage_return) (record { value = as_line_end c; first = starts_at s; last = s.at }) (verdict syntax spot.inside (values s.run) (as_line_end c))
      (subst (λ run. Plain (verdict syntax spot.inside (values run) (as_line_end c))) (sym e)
      (first_plain spot.inside (as_line_end c) (unlike s.held byte c 60 n.0 k refl (lit< tt)) (unlike s.held byte c 38 n.1 k refl (lit< tt)))))

-- what is told says text alone

abbrev pub AllSay : List Event → Type 0
AllSay [] = Unit {0}
AllSay (begins t hidden ∷ events) = ⊥
AllSay (says chars ∷ events) = AllSay events
AllSay (finishes ∷ events) = ⊥

say_append : (xs ys : List Event) → AllSay xs → AllSay ys → AllSay (xs ++ ys)
say_append [] ys a b = b
say_append (begins t hidden ∷ xs) ys a b = absurd a
say_append (says chars ∷ xs) ys a b = say_append xs ys a b
say_append (finishes ∷ xs) ys a b = absurd a

abbrev pub StepSays : Result Step Kind → Type 0
StepSays (Ok step) = AllSay step.events
StepSays (Err kind) = Unit {0}

-- tokens that are no tags say text alone
module _ (syntax : Syntax) (depth : ℕ) where
  abbrev deep_limits : Limits
  deep_limits = record { depth = depth; tag = 0; page = 0 }

  abbrev Saying : Nesting → List Event → Type 0
  Saying n events = AllSay events

  pub items_say : (items : List Item) → HasNoTag items → (x : Result Step Kind) → StepSays x → StepSays (steps_on syntax depth x items)
  items_say items none x s =
      out (steps_on syntax depth x items)
      (items_hold syntax deep_limits Saying
      (record { quiet = λ n d events h. say_append events [] h tt; saying = λ n events chars p h. say_append events (says chars ∷ []) h tt; standing = λ n events p h. say_append events [] h tt }) [] items
      (all_weaker (Tagged syntax deep_limits Saying) IsOther (λ item other t e. absurd (other t e)) items none) x (into x s))
    where
      into : (x : Result Step Kind) → StepSays x → Behind syntax deep_limits Saying [] x
      into (Ok step) s = s
      into (Err kind) s = tt

      out : (x : Result Step Kind) → Behind syntax deep_limits Saying [] x → StepSays x
      out (Ok step) s = s
      out (Err kind) s = tt

record Says (told new : List Event) : Type 0 where
  more : List Event
  is : new ≡ told ++ more
  say : AllSay more

module _ (syntax : Syntax) (limits : Limits) where
  abbrev Calmly : List Event → List ℕ → Progress → Type 0
  Calmly told rest q = (q.now.scan.run ≡ []) × Says told q.told × (is_quiet rest ≡ true)

  all_calm : (told : List Event) (bytes : List ℕ) (p q : Progress) → page_on syntax limits (Ok p) bytes ≡ Ok q → Calmly told bytes p → Calmly told [] q
  all_calm told =
      bytes_go syntax limits (Calmly told)
      (λ byte rest p scanned step e k h.
      let quiet = both (not (byte == 60 || byte == 38)) _ h.2 in
      let calm = subst Calm e (byte_calm syntax limits (spot_of syntax p.now.nest) p.now.scan byte h.0 quiet.0) in
      let told_so = subst StepSays k (items_say syntax limits.depth scanned.items calm.1 (Ok (no_step p.now.nest)) tt) in
      (calm.0, record { more = h.1.more ++ step.events; is = ap (λ es. es ++ step.events) h.1.is ∙ append_assoc told h.1.more step.events; say = say_append h.1.more step.events h.1.say told_so }, quiet.1))

  pub record IsSaid (old new : List Sign) : Type 0 where
    pub chars : Chars
    pub is : new ≡ old ++ map said chars

  seen_says : (events : List Event) (sight : Sight) → AllSay events → IsSaid sight.signs (sees sight events).signs
  seen_says [] sight a = record { chars = []; is = sym (append-nil sight.signs) }
  seen_says (begins t hidden ∷ events) sight a = absurd a
  seen_says (finishes ∷ events) sight a = absurd a
  seen_says (says text ∷ events) sight a = by (is_hidden sight.flags) (λ signs. seen_says events (record { flags = sight.flags; signs = signs }) a)
    where
      by : (b : Bool) → ((signs : List Sign) → IsSaid signs (sees (record { flags = sight.flags; signs = signs }) events).signs)
          → IsSaid sight.signs (sees (record { flags = sight.flags; signs = if b then sight.signs else sight.signs ++ map said text }) events).signs
      by true ih = ih sight.signs
      by false ih =
          let k = ih (sight.signs ++ map said text) in
          record { chars = text ++ k.chars; is = k.is ∙ (append_assoc sight.signs (map said text) (map said k.chars) ∙ ap (λ l. sight.signs ++ l) (sym (map-append said text k.chars))) }

  pub record Quietly (bytes piece : List ℕ) (p q : Progress) : Type 0 where
    pub run : q.now.scan.run ≡ []
    pub shows : IsSaid (sees nothing_seen p.told).signs (sees nothing_seen q.told).signs

  pub quiet_read : (bytes piece : List ℕ) (p q : Progress) → page_read syntax limits bytes ≡ Ok p → p.now.scan.run ≡ [] → is_quiet piece ≡ true → page_read syntax limits (bytes ++ piece) ≡ Ok q → Quietly bytes piece p q
  quiet_read bytes piece p q r e quiet s =
      let on : page_on syntax limits (Ok p) piece ≡ Ok q = ap (λ x. page_on syntax limits x piece) (sym r) ∙ (sym (page_append syntax limits (spot_of syntax p.now.nest) (Ok no_progress) bytes piece) ∙ s) in
      let c = all_calm p.told piece p q on (e, record { more = []; is = sym (append-nil p.told); say = tt }, quiet) in
      let seen = seen_says c.1.more (sees nothing_seen p.told) c.1.say in
      record {
        run = c.0;
        shows = record { chars = seen.chars; is = ap (λ es. (sees nothing_seen es).signs) c.1.is ∙ (ap (λ (x : Sight). x.signs) (sees_append nothing_seen p.told c.1.more) ∙ seen.is) };
      }

-- the parts of a quiet piece are quiet

pub quiet_take : (n : ℕ) (piece : List ℕ) → is_quiet piece ≡ true → is_quiet (take n piece) ≡ true
quiet_take (suc n) (x ∷ piece) q = let k = both (not (x == 60 || x == 38)) _ q in and_from (not (x == 60 || x == 38)) _ k.0 (quiet_take n piece k.1)
quiet_take _ _ q = refl

pub quiet_drop : (n : ℕ) (piece : List ℕ) → is_quiet piece ≡ true → is_quiet (drop n piece) ≡ true
quiet_drop (suc n) (x ∷ piece) q = quiet_drop n piece (both (not (x == 60 || x == 38)) _ q).1
quiet_drop _ _ q = q

-- nothing is due then, and no element begins or ends

record Rest (chars : Chars) (ys : List Sign) : Type 0 where
  rest : Chars
  is : ys ≡ map said rest

said_rest : (chars : Chars) (xs ys : List Sign) → map said chars ≡ xs ++ ys → Rest chars ys
said_rest chars [] ys e = record { rest = chars; is = sym e }
said_rest [] (x ∷ xs) ys e = absurd (cc)
said_rest (c ∷ chars) (x ∷ xs) ys e = let w : map said chars ≡ xs ++ ys = cc in let r = said_rest chars xs ys w in record { rest = r.rest; is = r.is }

none_owed : (owed : PendingEvents) (t : StartTag) (chars : Chars) → nests.owed_signs owed t ≡ map said chars → nests.owed_signs owed t ≡ []
none_owed owed t chars = by owed.ends owed.own chars
  where
    by : (k : ℕ) (o : Option TagAction) (chars : Chars) → finishing k ++ nests.owes_own o t ≡ map said chars → finishing k ++ nests.owes_own o t ≡ []
    by zero None chars e = refl
    by zero (Some own.Nothing) chars e = refl
    by _ _ [] e = absurd (cc)
    by _ _ (c ∷ chars) e = absurd (cc)

calm_event : (e : Shown) (chars : Chars) (ys : List Sign) → map said chars ≡ event_signs e ++ ys → is_calm e ≡ true
calm_event (event.Begin t) [] ys h = absurd (cc)
calm_event (event.Begin t) (c ∷ chars) ys h = absurd (cc)
calm_event event.Finish [] ys h = absurd (cc)
calm_event event.Finish (c ∷ chars) ys h = absurd (cc)
calm_event _ chars ys h = refl

-- what a step does on a quiet piece
pub record StepsQuietly (syntax : Syntax) (limits : Limits) (bytes piece : List ℕ) (n : ℕ) (e : Shown) (new : Nested) : Type 0 where
  pub calm : is_calm e ≡ true
  pub paid : OwesNone new
  pub between : IsBetween syntax limits (bytes ++ take n piece)

pub steps_quietly : (syntax : Syntax) (limits : Limits) (bytes piece : List ℕ) (signs : List Sign) (old new : Nested) (n : ℕ) (e : Shown) → nests.NestStands syntax limits old bytes signs → OwesNone old → IsBetween syntax limits bytes → is_quiet piece ≡ true
    → NestStepped syntax limits bytes signs piece n e new → StepsQuietly syntax limits bytes piece n e new
steps_quietly syntax limits bytes piece signs old new n e st paid b quiet s =
    let p : Progress = record { now = st.at.now; told = st.told } in
    let q : Progress = record { now = s.stands.at.now; told = s.stands.told } in
    let same : Ok b.now ≡ Ok p = sym b.read ∙ st.at.read in
    let is : b.now ≡ p = cc in
    let run : p.now.scan.run ≡ [] = ap (λ (x : Progress). x.now.scan.run) (sym is) ∙ b.none in
    let read = quiet_read syntax limits bytes (take n piece) p q st.at.read run (quiet_take n piece quiet) s.stands.at.read in
    let before : (sees nothing_seen st.told).signs ≡ signs = ap (λ (x : Sight). x.signs) st.sight ∙ (ap (λ x. signs ++ x) paid ∙ append-nil signs) in
    let owed : List Sign = nests.owed_signs new.owed (nests.last_tag new.scan) in
    let now : signs ++ map said read.shows.chars ≡ signs ++ (event_signs e ++ owed) =
    ap (λ x. x ++ map said read.shows.chars) (sym before) ∙ (sym read.shows.is ∙ (ap (λ (x : Sight). x.signs) s.stands.sight ∙ append_assoc signs (event_signs e) owed)) in
    let told : map said read.shows.chars ≡ event_signs e ++ owed = append_cancel_left signs _ _ now in
    let rest = said_rest read.shows.chars (event_signs e) owed told in
    record {
      calm = calm_event e read.shows.chars owed told;
      paid = none_owed new.owed (nests.last_tag new.scan) rest.rest rest.is;
      between = record { now = q; read = s.stands.at.read; none = read.run };
    }

pub no_want : (A : Type 0) (why : Stop) → IsNoMemory {A = A} (Err why) ≡ false → HasMemory why
no_want A (stop.Fault fault) h = tt
no_want A stop.NoMemory h = absurd (cc)
