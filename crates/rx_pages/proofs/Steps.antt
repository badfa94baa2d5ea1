-- How one token steps: after a dropped line feed, and where it ends elements whose end tags are omitted.
use Rattle.rx_pages.proofs.Words.{cond-true, ◌≡◌, ◌∙◌, ℕ, Bool, true, false, cond, List, [], ◌∷◌, ◌++◌, Option, Some, None, refl, ap, sym, ◌&&◌, not, Ok, bytes_decides, Chars, both, not_both_ways, by_test, untrue, Syntax, same, is_among, Tag, Token, tag, character, reference, kept, section, is_alone, is_html, StartTag, Item, is_line_feed, enders, is_omissible, is_held, ends_by_token, Line, inside_of, parent_of, Phase, within, Rows, under_start, after_end, is_innermost, first_row, tag_rows, start_rows, end_rows, Kind, Event, finishes, Nesting, Step, ended_under, ended_by_end, over, begun_under, line_above, tag_passes, unless_refused, step_by}
use Rattle.rx_grammar.specs.declared.faults.Kind.TheVariants as kind
use Rattle.rx_pages.proofs.Contents.{same_is, AllHtml, omissible_html, plaintext_by, self_closed_by}

-- in open elements, where a line feed that comes next is dropped or isn't
abbrev pub inside_at : Line → Bool → Nesting
inside_at line drops = record { line = line; phase = within; drops = drops }

abbrev pub in_line : Line → Nesting
in_line line = inside_at line false

-- one more element ends before the step
abbrev pub after_one : Step → Step
after_one step = record { next = step.next; events = finishes ∷ step.events }

-- where no line feed is dropped the step is the same
pub undropped : (syntax : Syntax) (depth : ℕ) (line : Line) (phase : Phase) (d : Bool) (item : Item) (token : Token) → (d && is_line_feed token) ≡ false
    → step_by syntax depth (record { line = line; phase = phase; drops = d }) item token ≡ step_by syntax depth (record { line = line; phase = phase; drops = false }) item token
undropped syntax depth line phase d item (character c) h = rw h refl
undropped syntax depth line phase d item (reference c) h = rw h refl
undropped syntax depth line phase d item (kept chars) h = by_test {G = step_by syntax depth (record { line = line; phase = phase; drops = d }) item (kept chars) ≡ step_by syntax depth (record { line = line; phase = phase; drops = false }) item (kept chars)} d (λ e. rw e refl) (λ e. rw e refl)
undropped syntax depth line phase d item (section chars) h = by_test {G = step_by syntax depth (record { line = line; phase = phase; drops = d }) item (section chars) ≡ step_by syntax depth (record { line = line; phase = phase; drops = false }) item (section chars)} d (λ e. rw e refl) (λ e. rw e refl)
undropped syntax depth line phase d item _ h = refl

-- a dropped line feed tells nothing
pub dropped : (syntax : Syntax) (depth : ℕ) (line : Line) (item : Item) (token : Token) → is_line_feed token ≡ true
    → step_by syntax depth (inside_at line true) item token ≡ Ok (record { next = in_line line; events = [] })
dropped syntax depth line item (character c) h = rw h refl
dropped syntax depth line item (reference c) h = rw h refl
dropped syntax depth line item _ h = absurd (cc)

-- nothing was refused
pub record Passes (found : Option Kind) (passes step : Step) : Type 0 where
  pub none : found ≡ None
  pub is : passes ≡ step

pub passes : (found : Option Kind) (a b : Step) → unless_refused found a ≡ Ok b → Passes found a b
passes None a b h = record { none = refl; is = cc }
passes (Some kind) a b h = absurd (cc)

pub same_turned : (a b : Chars) → same a b ≡ false → same b a ≡ false
same_turned a b h = by_test {G = same b a ≡ false} (same b a) (λ e. absurd (not_both_ways (same a b) ((bytes_decides a b).1 (sym (same_is b a e))) h)) (λ e. e)

-- the step of a start tag, and of an end tag
pub of_start : (b : Bool) (x y : Rows) (p q : Step) → b ≡ false → unless_refused (first_row (cond b x y)) (cond b p q) ≡ unless_refused (first_row y) q
of_start b x y p q h = ap (λ b. unless_refused (first_row (cond b x y)) (cond b p q)) h

pub of_end : (b : Bool) (x y : Rows) (p q : Step) → b ≡ true → unless_refused (first_row (cond b x y)) (cond b p q) ≡ unless_refused (first_row x) p
of_end b x y p q h = ap (λ b. unless_refused (first_row (cond b x y)) (cond b p q)) h

-- nothing is refused
pub passing : (found : Option Kind) (step : Step) → found ≡ None → unless_refused found step ≡ Ok step
passing found step h = ap (λ o. unless_refused o step) h

-- the innermost element ends before this token, which steps then as it does without it
module _ (syntax : Syntax) (depth : ℕ) (t : StartTag) (line : Line) (item : Item) (u : Tag) (omits : is_omissible (inside_of syntax line) t.name ≡ true) where
  all : AllHtml syntax line t.name
  all = omissible_html syntax line t.name omits

  here : is_html (inside_of syntax line).content ≡ true
  here = ap is_html all.here

  inside : is_html (inside_of syntax (t ∷ line)).content ≡ true
  inside = ap is_html all.inside

  same_content : (inside_of syntax (t ∷ line)).content ≡ (inside_of syntax line).content
  same_content = all.inside ∙ sym all.here

  under_is : is_among (enders (inside_of syntax line) t.name) u.name ≡ true → under_start syntax u.name (t ∷ line) ≡ under_start syntax u.name line
  under_is among = cond-true _ _ _ inside ∙ (cond-true _ _ _ among ∙ sym (cond-true _ _ _ here))

  ended_is : is_among (enders (inside_of syntax line) t.name) u.name ≡ true → ended_under syntax u.name (t ∷ line) ≡ finishes ∷ ended_under syntax u.name line
  ended_is among = cond-true _ _ _ inside ∙ (cond-true _ _ _ among ∙ sym (ap (λ es. finishes ∷ es) (cond-true _ _ _ here)))

  one_more : (below : Line) (ended : List Event) → begun_under syntax item u below (finishes ∷ ended) ≡ after_one (begun_under syntax item u below ended)
  one_more below ended = by_test {G = begun_under syntax item u below (finishes ∷ ended) ≡ after_one (begun_under syntax item u below ended)} (is_alone syntax (inside_of syntax below) u) (λ e. rw e refl) (λ e. rw e refl)

  start_rows_are : is_among (enders (inside_of syntax line) t.name) u.name ≡ true → first_row (start_rows syntax depth (t ∷ line) within u) ≡ first_row (start_rows syntax depth line within u)
  start_rows_are among = rw (plaintext_by syntax (inside_of syntax (t ∷ line)) (inside_of syntax line) u same_content, self_closed_by syntax (inside_of syntax (t ∷ line)) (inside_of syntax line) u same_content, under_is among) refl

  starts : u.closing ≡ false → is_among (enders (inside_of syntax line) t.name) u.name ≡ true → (step : Step)
      → unless_refused (first_row (tag_rows syntax depth line within u)) (tag_passes syntax line item u) ≡ Ok step
      → unless_refused (first_row (tag_rows syntax depth (t ∷ line) within u)) (tag_passes syntax (t ∷ line) item u) ≡ Ok (after_one step)
  starts c among step e =
      let k = passes (first_row (start_rows syntax depth line within u)) (begun_under syntax item u (under_start syntax u.name line) (ended_under syntax u.name line)) step (sym (of_start u.closing _ _ _ _ c) ∙ e) in
      of_start u.closing _ _ _ _ c ∙ (passing _ _ (start_rows_are among ∙ k.none) ∙ ap Ok (ap (λ l. begun_under syntax item u l (ended_under syntax u.name (t ∷ line))) (under_is among)
      ∙ (ap (λ es. begun_under syntax item u (under_start syntax u.name line) es) (ended_is among) ∙ (one_more (under_start syntax u.name line) (ended_under syntax u.name line) ∙ ap after_one k.is))))

  omits_here : same u.name t.name ≡ false → is_held (parent_of line) t.name ≡ false → (is_omissible (inside_of syntax line) t.name && not (same t.name u.name) && not (is_held (parent_of line) t.name)) ≡ true
  omits_here apart free = rw (omits, same_turned u.name t.name apart, free) refl

  closed_rows : (above : Line) → first_row (end_rows syntax above u) ≡ None → first_row ((not (is_innermost u.name (after_end syntax u.name above)), kind.Mismatch) ∷ []) ≡ None
  closed_rows [] e = absurd (cc)
  closed_rows (x ∷ above) e = e

  ends : u.closing ≡ true → same u.name t.name ≡ false → is_held (parent_of line) t.name ≡ false → (step : Step)
      → unless_refused (first_row (tag_rows syntax depth line within u)) (tag_passes syntax line item u) ≡ Ok step
      → unless_refused (first_row (tag_rows syntax depth (t ∷ line) within u)) (tag_passes syntax (t ∷ line) item u) ≡ Ok (after_one step)
  ends c apart free step e =
      let closing : List Event → Line → Step = λ es l. record { next = over (line_above l); events = es ++ finishes ∷ [] } in
      let k = passes (first_row (end_rows syntax line u)) (closing (ended_by_end syntax u.name line) (after_end syntax u.name line)) step (sym (of_end u.closing _ _ _ _ c) ∙ e) in
      let below : after_end syntax u.name (t ∷ line) ≡ after_end syntax u.name line = cond-true _ _ _ (omits_here apart free) in
      let told_first : ended_by_end syntax u.name (t ∷ line) ≡ finishes ∷ ended_by_end syntax u.name line = cond-true _ _ _ (omits_here apart free) in
      of_end u.closing _ _ _ _ c ∙ (passing _ _ (ap (λ l. first_row ((not (is_innermost u.name l), kind.Mismatch) ∷ [])) below ∙ closed_rows line k.none)
      ∙ ap Ok (ap (λ es. closing es (after_end syntax u.name (t ∷ line))) told_first ∙ (ap (λ l. closing (finishes ∷ ended_by_end syntax u.name line) l) below ∙ ap after_one k.is)))

-- an element that is ended by a token ends, and the token steps as without it
pub ended : (syntax : Syntax) (depth : ℕ) (t : StartTag) (line : Line) (item : Item) (token : Token) → is_omissible (inside_of syntax line) t.name ≡ true → ends_by_token (inside_of syntax line) (parent_of line) t.name item.content token ≡ true → (step : Step)
    → step_by syntax depth (in_line line) item token ≡ Ok step → step_by syntax depth (in_line (t ∷ line)) item token ≡ Ok (after_one step)
ended syntax depth t line item (tag u) omits h step e =
    by_test {G = step_by syntax depth (in_line (t ∷ line)) item (tag u) ≡ Ok (after_one step)} u.closing
    (λ c. let k = both (not (same u.name t.name)) _ (rw c at h) in ends syntax depth t line item u omits c (untrue _ k.0) (untrue _ k.1) step e)
    (λ c. let k = both (is_html item.content) _ (rw c at h) in starts syntax depth t line item u omits c k.1 step e)
ended syntax depth t line item _ omits h step e = absurd (cc)
