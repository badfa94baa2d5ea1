-- The reader of bytes finds a fault that a character decides.
use Rattle.rx_pages.proofs.Words.{◌≡◌, ◌≢◌, ◌∙◌, ⊎_elim, ℕ, ◌+◌, ◌-◌, ◌<◌, Bool, true, false, List, [], ◌∷◌, ◌++◌, refl, sym, ap, subst, length, append_assoc, Some, None, Ok, Err, arith, nat_le, ◌&&◌, ◌||◌, ◌==◌, not, and_parts, and-false, or_parts, untrue, less_than_sign, ampersand, right_bracket, len_utf8, all_scalars, scalar, encode, encodes, encodes-append, as_line_end, by_test, and-true, Syntax, PlacedCharacter, Spells, Spelled, no_more, one, has_references, is_text, values, next_of, Item, is_literal, is_known_tag, Reached, has_no_nul, Line, inside_of, Phase, Content, Fault, Kind, Limits, Event, Nesting, content_at, Goes, stands, goes, IsAt, CharactersGoOn, first_of, page_on, page_read, no_progress}
use Rattle.rx_grammar.specs.declared.contents.Content.TheVariants as content
use Rattle.rx_pages.proofs.FaultWalk.{Decides, decided_on}
use Rattle.rx_pages.proofs.FrontRead.{front_is_read, some_of}
use Rattle.rx_pages.proofs.Below.{one_unknown, Stood, entry_step, first_same, all_parts, page_parted, len_positive, scalars_parts, other_next, kept_inside, stood, kept_goes_on, flags_behind, kept_literal, fronts_lead}

-- inside the root every character begins a token or is one
text_inside : (i : Content) (c : ℕ) → i ≢ content.Outside → (c == less_than_sign || (c == ampersand && has_references i)) ≡ false → is_text i c ≡ true
text_inside content.Outside c o h = absurd (o refl)
text_inside (content.Raw name) c o h = rw (or_parts (c == less_than_sign) (c == ampersand && false) h).0 refl
text_inside _ c o h = let n = or_parts (c == less_than_sign) (c == ampersand && true) h in rw (n.0, sym (and-true (c == ampersand)) ∙ n.1) refl

module _ (syntax : Syntax) (limits : Limits) where
  -- a character of text decides nothing
  text_passes : (n : Nesting) (events : List Event) (last : Bool) (e : PlacedCharacter) (kind : Kind) → content_at syntax n ≢ content.Outside → entry_step syntax limits (stood n events false last []) e ≡ Err kind → ⊥
  text_passes n events last e kind o h =
      by_test {G = ⊥} (e.value == less_than_sign || (e.value == ampersand && has_references (content_at syntax n))) (λ t. (let w = rw t at h in cc)) (λ t. (let w = rw (text_inside (content_at syntax n) e.value o t) at (rw t at h) in cc))

  -- What a character that decides a fault follows needn't be followed, since behind text that is kept none does.
  last_free : (c : ℕ) {meant : Nesting → Type 0} {n : Nesting} {front : List PlacedCharacter} {items : List Item} {events : List Event} (two last : Bool)
      → ((m : Nesting) → meant m → content_at syntax m ≢ content.Outside → (flags_behind items two last).0 ≡ false → ⊥) → Spelled syntax front (Some c) items → Goes syntax limits.depth meant n items events → Spelled syntax front None items
  last_free c two last none no_more g = no_more
  last_free c {meant = meant} {n = n} two last none (one d r rest item {items = items} sp f l more) (goes {events = events} item2 step ci st g) =
      one d r rest item (by more g none sp) f l (last_free c (last && is_literal right_bracket item) (is_literal right_bracket item) none more g)
    where
      by : {rest : List PlacedCharacter} {items : List Item} {events : List Event} → Spelled syntax rest (Some c) items → Goes syntax limits.depth meant step.next items events
          → ((m : Nesting) → meant m → content_at syntax m ≢ content.Outside → (flags_behind items (last && is_literal right_bracket item) (is_literal right_bracket item)).0 ≡ false → ⊥)
          → Spells syntax item.content (values (d ∷ r)) (next_of (values rest) (Some c)) item.token → Spells syntax item.content (values (d ∷ r)) (next_of (values rest) None) item.token
      by no_more (stands m p) none sp =
          other_next syntax item.content (values (d ∷ r)) None item.token
          (λ test minds b.
          let k = kept_inside minds in
          let same : content_at syntax step.next ≡ item.content = ap (λ m. content_at syntax m) (kept_goes_on syntax limits.depth n item step st k.0) ∙ sym ci in
          absurd (none m p (λ o. k.1 (sym same ∙ o)) (ap (λ b. last && b) (kept_literal right_bracket item k.0) ∙ and-false last)))
          sp
      by (one e other others i s2 f2 l2 more2) g none sp = sp

-- what a fault that the last character of a run decides is read as
module _ (syntax : Syntax) (limits : Limits) (whole : List ℕ) (items : List Item) (line : Line) (phase : Phase) (run : List PlacedCharacter) (c : PlacedCharacter) (f : Fault) (reached : Reached syntax limits whole items line phase (run ++ c ∷ []))
    (goes : CharactersGoOn syntax (inside_of syntax line).content [] (values run)) (page : c.last < limits.page) (short : is_known_tag syntax (inside_of syntax line).content (values run) ≡ true → c.last < first_of run 0 + limits.tag)
    (decide : (m : Nesting) → IsAt line phase m → (events : List Event) → Decides syntax limits (stood m events (flags_behind items false false).0 (flags_behind items false false).1 run) c f) where
  pub decided_is_read : (rest : List ℕ) → page_read syntax limits (whole ++ rest) ≡ Err f
  decided_is_read rest =
      let lead = fronts_lead syntax limits.depth items line phase reached.stands in
      let chars = reached.read.characters in
      let some = all_parts (λ (e : PlacedCharacter). not (e.value == 0)) (reached.front ++ run) (c ∷ []) (subst (λ es. has_no_nul es ≡ true) (sym (append_assoc reached.front run (c ∷ []))) reached.no_nul) in
      let p = page_parted chars (reached.front ++ run) c [] (sym reached.read.read ∙ sym (append_assoc reached.front run (c ∷ []))) in
      let start : ℕ = length (encodes p.before) in
      let last : c.last ≡ start + len_utf8 p.c - 1 = ap (λ (x : PlacedCharacter). x.last) p.is in
      let size = len_positive p.c in
      let scalars = scalars_parts p.before (p.c ∷ p.left) (sym (ap all_scalars p.are) ∙ reached.read.scalars) in
      let value : c.value ≡ as_line_end p.c = ap (λ (x : PlacedCharacter). x.value) p.is in
      let nonzero : (p.c == 0) ≡ false = untrue (p.c == 0) (some_of p.c (sym (ap (λ v. not (v == 0)) value) ∙ (and_parts (not (c.value == 0)) true some.1).0)) in
      let known : (m : Nesting) → IsAt line phase m → is_known_tag syntax (content_at syntax m) (values run) ≡ true → c.last < first_of run 0 + limits.tag = λ m q k. short (subst (λ (l : Line). is_known_tag syntax (inside_of syntax l).content (values run) ≡ true) q.line_is k) in
      let r =
      front_is_read syntax limits (encodes p.before) (IsAt line phase) reached.front run items lead.events (record { characters = p.before; scalars = scalars.0; forms = refl; read = sym p.read }) some.0 (spelled run refl reached.spelled)
      reached.fit reached.sections lead.going (omega arith) (λ m q. subst (λ (l : Line). CharactersGoOn syntax (inside_of syntax l).content [] (values run)) (sym q.line_is) goes) (λ m q k. (let w = known m q k in omega arith)) in
      let st : Stood = stood r.place lead.events (flags_behind items false false).0 (flags_behind items false false).1 run in
      let bytes : whole ++ rest ≡ encodes p.before ++ (encode p.c ++ (encodes p.left ++ rest)) =
      ap (λ b. b ++ rest) (sym reached.read.forms ∙ (ap encodes p.are ∙ encodes-append p.before (p.c ∷ p.left))) ∙ (append_assoc (encodes p.before) (encodes (p.c ∷ p.left)) rest ∙ ap (λ x. encodes p.before ++ x) (append_assoc (encode p.c) (encodes p.left) rest)) in
      ap (λ b. page_on syntax limits (Ok no_progress) b) bytes
      ∙ (r.is_read (encode p.c ++ (encodes p.left ++ rest))
      ∙ decided_on syntax limits p.c start (encodes p.left ++ rest) r.started r.after_return st f (and_parts (scalar p.c) (all_scalars p.left) scalars.1).0 nonzero (omega arith) (r.passes_as p.c ∙ p.enters)
      (λ k. (let w = known r.place r.is_meant k in let s = first_same syntax limits st 0 start k in omega arith)) (subst (λ x. Decides syntax limits st x f) p.is (decide r.place r.is_meant lead.events)))
    where
      spelled : (es : List PlacedCharacter) → run ≡ es → Spelled syntax reached.front (next_of (values (es ++ c ∷ [])) None) items → Spelled syntax reached.front (next_of (values es) None) items
      spelled [] e sp =
          last_free syntax limits c.value false false
          (λ m q o two.
          let d : Decides syntax limits (stood m [] false (flags_behind items false false).1 []) c f = subst (λ es. Decides syntax limits (stood m [] false (flags_behind items false false).1 es) c f) e (subst (λ b. Decides syntax limits (stood m [] b (flags_behind items false false).1 run) c f) two (decide m q [])) in
          ⊎_elim (λ w. one_unknown syntax (content_at syntax m) c.value (and_parts (is_known_tag syntax (content_at syntax m) (c.value ∷ [])) (nat_le (c.first + limits.tag) c.last) w.0).0) (λ w. text_passes syntax limits m [] (flags_behind items false false).1 c f.kind o w.1.0) d)
          sp (fronts_lead syntax limits.depth items line phase reached.stands).going
      spelled (x ∷ es) e sp = sp
