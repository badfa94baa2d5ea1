-- The reader of bytes reads each front of a page.
use Rattle.rx_pages.proofs.Words.{◌≡◌, ◌∙◌, ℕ, ◌+◌, ◌<◌, ◌≤◌, Bool, true, false, List, [], ◌∷◌, ◌++◌, refl, sym, ap, subst, length, append-nil, None, Ok, arith, ◌==◌, not, encodes, and_parts, and_from, nat_tests, by_test, Syntax, PlacedCharacter, IsRead, byte_order_mark, line_feed, as_line_end, placed, preprocessed, without_mark, values, next_of, Item, Spelled, AllFit, no_section_end, has_no_nul, is_known_tag, Limits, Event, Nesting, content_at, Goes, CharactersGoOn, first_of, page_on, no_progress}
use Rattle.rx_pages.specs.Nesting.{not_begun}
use Rattle.rx_pages.proofs.Below.{known_front, progress_at, Fine, first_same, no_nuls, page_walk, passes, ends_return, is_started, page_entered, Within, page_within, stood, Bound, go_all, fine_append, RisesFrom, Rises, flags_behind, Finish, tokens_walk}

-- entries end below a bound
abbrev pub AllBelow : ℕ → List PlacedCharacter → Type 0
AllBelow hi [] = Unit {0}
AllBelow hi (e ∷ es) = (e.last < hi) × AllBelow hi es

pub below_behind : (hi : ℕ) (a b : List PlacedCharacter) → AllBelow hi (a ++ b) → AllBelow hi b
below_behind hi [] b h = h
below_behind hi (e ∷ a) b h = below_behind hi a b h.1

below_of : (lo hi : ℕ) (es : List PlacedCharacter) → Within lo hi es → AllBelow hi es
below_of lo hi [] w = tt
below_of lo hi (e ∷ es) w = (w.0.to, below_of (e.last + 1) hi es w.1)

-- places rise, each from where the one before ended
rises_from : (lo hi last : ℕ) (es : List PlacedCharacter) → last ≤ lo → Within lo hi es → RisesFrom last es
rises_from lo hi last [] l w = tt
rises_from lo hi last (e ∷ es) l w = ((let f = w.0.from in let o = w.0.order in omega arith), rises_from (e.last + 1) hi e.last es (omega arith) w.1)

rises_of : (lo hi : ℕ) (es : List PlacedCharacter) → Within lo hi es → Rises es
rises_of lo hi [] w = tt
rises_of lo hi (e ∷ es) w = rises_from (e.last + 1) hi e.last es (omega arith) w.1

pub page_below : (cs : List ℕ) → AllBelow (length (encodes cs)) (preprocessed false (without_mark (placed 0 cs)))
page_below cs = below_of 0 _ _ (page_within cs)

-- no character is U+0000 where no entry is
pub nul_entry : (c : ℕ) → (c == 0) ≡ true → (as_line_end c == 0) ≡ true
nul_entry c h = grind (arith, nat_tests)

pub line_feed_some : (c : ℕ) → (c == line_feed) ≡ true → (c == 0) ≡ false
line_feed_some c h = grind (arith, nat_tests)

pub mark_some : (c : ℕ) → (c == byte_order_mark) ≡ true → (c == 0) ≡ false
mark_some c h = grind (arith, nat_tests)

pub some_of : (c : ℕ) → not (as_line_end c == 0) ≡ true → not (c == 0) ≡ true
some_of c h = by_test (c == 0) (λ e. absurd (let q : false ≡ true = sym (ap not (nul_entry c e)) ∙ h in cc)) (λ e. rw e refl)

pub page_no_nul : (cs : List ℕ) → has_no_nul (preprocessed false (without_mark (placed 0 cs))) ≡ true → no_nuls cs ≡ true
page_no_nul =
    page_entered (λ after_return start cs es. has_no_nul es ≡ true → no_nuls cs ≡ true) (λ after_return start h. refl)
    (λ after_return start c cs es t some h. and_from (not (c == 0)) (no_nuls cs) (ap not (line_feed_some c (and_parts after_return (c == line_feed) t).1)) (some h))
    (λ after_return start c cs es t some h. let p = and_parts (not (as_line_end c == 0)) (has_no_nul es) h in and_from (not (c == 0)) (no_nuls cs) (some_of c p.0) (some p.1)) (λ cs es. has_no_nul es ≡ true → no_nuls cs ≡ true)
    (λ c cs es t some h. and_from (not (c == 0)) (no_nuls cs) (ap not (mark_some c t)) (some h)) (λ cs es u some. some)

-- what the reader has read of a front and of the run behind it
pub record FrontIsRead (syntax : Syntax) (limits : Limits) (whole : List ℕ) (meant : Nesting → Type 0) (items : List Item) (events : List Event) (run : List PlacedCharacter) (chars : List ℕ) : Type 0 where
  pub place : Nesting
  pub is_meant : meant place
  pub started : Bool
  pub after_return : Bool
  pub passes_as : (c : ℕ) → passes started after_return c ≡ passes (is_started chars) (ends_return false chars) c
  pub is_read : (rest : List ℕ) → page_on syntax limits (Ok no_progress) (whole ++ rest) ≡ page_on syntax limits (Ok (progress_at (length whole) [] started after_return (stood place events (flags_behind items false false).0 (flags_behind items false false).1 run))) rest

pub front_is_read : (syntax : Syntax) (limits : Limits) (whole : List ℕ) (meant : Nesting → Type 0) (front run : List PlacedCharacter) (items : List Item) (events : List Event) (read : IsRead whole (front ++ run)) → has_no_nul (front ++ run) ≡ true
    → Spelled syntax front (next_of (values run) None) items → AllFit limits.tag items → no_section_end items false false ≡ true → Goes syntax limits.depth meant not_begun items events
    → length whole ≤ limits.page → ((m : Nesting) → meant m → CharactersGoOn syntax (content_at syntax m) [] (values run)) → ((m : Nesting) → meant m → is_known_tag syntax (content_at syntax m) (values run) ≡ true → length whole ≤ first_of run 0 + limits.tag)
    → FrontIsRead syntax limits whole meant items events run read.characters
front_is_read syntax limits whole meant front run items events read nul spelled fit sections going size goes short =
    let chars = read.characters in
    let same : length (encodes chars) ≡ length whole = ap length read.forms in
    let hi = length (encodes chars) in
    let below : AllBelow hi run = below_behind hi front run (subst (λ es. AllBelow hi es) (sym read.read) (page_below chars)) in
    let bound : (m : Nesting) → meant m → (told : List Event) (two last : Bool) → Bound syntax limits m told two last run =
    λ m p told two last a e b h k. (
    let known = known_front syntax (content_at syntax m) run a e b h k in
    let s = short m p known in
    let l = (below_behind hi a (e ∷ b) (subst (λ x. AllBelow hi x) h below)).0 in
    omega arith) in
    let finish : Finish syntax limits hi run meant =
    λ m p told two last.
    subst (λ x. Fine syntax limits hi (stood m told two last []) x (stood m told two last run)) (append-nil run)
    (fine_append syntax limits hi (stood m told two last []) (stood m told two last run) (stood m told two last run) run []
    (go_all syntax limits m told two last run (bound m p told two last) [] run [] (sym (append-nil run)) (goes m p))
    (refl, λ k. (let s = short m p k in let f = first_same syntax limits (stood m told two last run) hi 0 k in omega arith))) in
    let w = tokens_walk syntax limits hi run meant spelled refl going fit false false sections (subst Rises (sym read.read) (rises_of 0 _ _ (page_within chars))) [] finish in
    record {
      place = w.place;
      is_meant = w.is_meant;
      started = is_started chars;
      after_return = ends_return false chars;
      passes_as = λ c. refl;
      is_read = λ rest.
          ap (λ b. page_on syntax limits (Ok no_progress) (b ++ rest)) (sym read.forms)
          ∙ (page_walk syntax limits chars rest (stood not_begun [] false false []) (stood w.place events (flags_behind items false false).0 (flags_behind items false false).1 run) read.scalars (page_no_nul chars (subst (λ es. has_no_nul es ≡ true) read.read nul)) (subst (λ x. x ≤ limits.page) (sym same) size)
          (subst (λ es. Fine syntax limits hi (stood not_begun [] false false []) es (stood w.place events (flags_behind items false false).0 (flags_behind items false false).1 run)) read.read w.fine)
          ∙ ap (λ x. page_on syntax limits (Ok (progress_at x [] (is_started chars) (ends_return false chars) (stood w.place events (flags_behind items false false).0 (flags_behind items false false).1 run))) rest) same);
    }
