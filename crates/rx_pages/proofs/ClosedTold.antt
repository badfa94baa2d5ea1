-- What the front of a page tells, and what it tells once it is closed.
use Rattle.rx_pages.proofs.Words.{◌≡◌, ◌∙◌, ℕ, ◌+◌, ◌≤◌, true, false, List, [], ◌∷◌, ◌++◌, Option, refl, ap, sym, subst, length, append-nil, length-append, arith, Event, content_at, Goes, IsAt, scalars-append}
use Rattle.rx_pages.proofs.Common.{not, ◌==◌, Ok, encode_utf8_all, encodes-append, PlacedCharacter, placed, Syntax, Item, Spelled, no_more, one, has_no_nul, Line, Phase, after, Limits, page_on, no_progress, closing, closed, IsWide, AllEnd, TellsEvents, FrontsTell}
use lib.Utf8.{encodes, encode}
use Rattle.rx_pages.specs.Nesting.{not_begun}
use Rattle.rx_pages.proofs.Closings.{page_entries, entered_tag, all_append, all_fit, last_within, Reaches, closes, as_meant, is_page, Fronted, fronted}
use Rattle.rx_pages.proofs.FrontRead.{AllBelow, below_behind, page_below, front_is_read}
use Rattle.rx_pages.proofs.Below.{progress_at, stood, flags_behind, one_unknown}

all_end : (syntax : Syntax) (end : ℕ) {entries : List PlacedCharacter} {next : Option ℕ} {items : List Item} → Spelled syntax entries next items → AllBelow end entries → AllEnd end items
all_end syntax end no_more w = tt
all_end syntax end (one c run rest item sp f l more) w =
    let last = last_within end c.last run rest w.0 w.1 in (omega (arith, last, l), all_end syntax end more (below_behind end run rest w.1))

less_than_encoded : encodes (60 ∷ []) ≡ 60 ∷ []
unfolding encode
less_than_encoded = refl

module _ (syntax : Syntax) (limits : Limits) (bytes : List ℕ) (line : Line) (phase : Phase) (f : Fronted syntax limits bytes line phase) where
  -- what the reader comes to behind a front and a `<`
  pub record FrontReads : Type 0 where
    pub tells : TellsEvents syntax limits (bytes ++ 60 ∷ []) f.events
    pub place : tells.now.now.nest ≡ f.reaches.place

  pub front_reads : length bytes + 1 ≤ limits.page → FrontReads
  front_reads h =
      let a = f.reaches.ahead in
      let run : List PlacedCharacter = placed (length (encodes f.characters)) (60 ∷ []) in
      let same : page_entries f.characters ++ run ≡ page_entries (f.characters ++ 60 ∷ []) = sym (entered_tag f.characters [] refl) in
      let forms : encodes (f.characters ++ 60 ∷ []) ≡ bytes ++ 60 ∷ [] = encodes-append f.characters (60 ∷ []) ∙ (ap (λ x. x ++ encodes (60 ∷ [])) f.forms ∙ ap (λ x. bytes ++ x) less_than_encoded) in
      let r =
      front_is_read syntax limits (bytes ++ 60 ∷ []) (λ m. m ≡ f.reaches.place) (page_entries f.characters) run f.reaches.items f.events
      (record { characters = f.characters ++ 60 ∷ []; scalars = scalars-append f.characters (60 ∷ []) a.scalars refl; forms = forms; read = same })
      (all_append (λ (x : PlacedCharacter). not (x.value == 0)) (page_entries f.characters) run a.no_nul refl) a.spelled f.fit a.sections a.going (let l = length-append bytes (60 ∷ []) in omega (arith, l, h))
      (λ m p. (refl, tt)) (λ m p k. absurd (one_unknown syntax (content_at syntax m) 60 k)) in
      record {
        tells = record {
          now = progress_at (length (bytes ++ 60 ∷ [])) [] r.started r.after_return (stood r.place f.events (flags_behind f.reaches.items false false).0 (flags_behind f.reaches.items false false).1 run);
          read = ap (λ b. page_on syntax limits (Ok no_progress) b) (sym (append-nil (bytes ++ 60 ∷ []))) ∙ r.is_read [];
          told = refl;
        };
        place = r.is_meant;
      }

whole_tells : (syntax : Syntax) (limits : Limits) (cs bytes : List ℕ) (events : List Event) → encodes cs ≡ bytes → Reaches syntax limits.depth cs [] after events → (wide : Limits) → IsWide limits wide (length bytes) → TellsEvents syntax wide bytes events
whole_tells syntax limits cs bytes events e r wide w =
    let a = r.ahead in
    let sp = a.last r.at.phase_is in
    let same : page_entries cs ++ [] ≡ page_entries cs = append-nil (page_entries cs) in
    let going : Goes syntax wide.depth (IsAt [] after) not_begun r.items events = subst (λ d. Goes syntax d (IsAt [] after) not_begun r.items events) (sym w.depth) (as_meant syntax limits.depth (IsAt [] after) r.place r.at a.going) in
    let fit = all_fit syntax wide.tag (length bytes) w.tag sp (subst (λ x. AllBelow (length x) (page_entries cs)) e (page_below cs)) in
    let s =
    front_is_read syntax wide bytes (IsAt [] after) (page_entries cs) [] r.items events (record { characters = cs; scalars = a.scalars; forms = e; read = same }) (subst (λ es. has_no_nul es ≡ true) (sym same) a.no_nul)
    sp fit a.sections going w.page (λ m p. tt) (λ m p k. absurd (cc)) in
    record {
      now = progress_at (length bytes) [] s.started s.after_return (stood s.place events (flags_behind r.items false false).0 (flags_behind r.items false false).1 []);
      read = ap (λ b. page_on syntax wide (Ok no_progress) b) (sym (append-nil bytes)) ∙ s.is_read [];
      told = refl;
    }

pub fronts_tell : FrontsTell
fronts_tell syntax limits bytes next line phase d b =
    let f = fronted syntax limits bytes next line phase b in
    let t = closes syntax limits.depth f.characters f.events d b.stands f.named f.reaches in
    let cs : List ℕ = f.characters ++ closing line phase in
    let forms : encodes cs ≡ closed bytes line phase = encodes-append f.characters (closing line phase) ∙ ap (λ x. x ++ encode_utf8_all (closing line phase)) f.forms in
    let p = is_page syntax limits.depth cs (closed bytes line phase) limits (f.events ++ t.more) refl forms t.reaches in
    record {
      items = f.reaches.items;
      ends = subst (λ x. AllEnd (length x) f.reaches.items) f.forms (all_end syntax (length (encodes f.characters)) f.reaches.ahead.spelled (page_below f.characters));
      place = f.reaches.place;
      events = f.events;
      going = f.reaches.ahead.going;
      front = λ h. (front_reads syntax limits bytes line phase f h).tells;
      more = t.more;
      bare = t.bare;
      tree = p.tree;
      page = p.page;
      whole = whole_tells syntax limits cs (closed bytes line phase) (f.events ++ t.more) forms t.reaches;
    }
