-- What is spelled from where nothing is unfinished is scanned so, byte by byte, and what is faulty is refused so.
use Rattle.rx_pages.proofs.Common.{◌≡◌, ◌≢◌, ◌∙◌, inl, inr, ⊎_elim, ℕ, ◌+◌, ◌-◌, ◌≤◌, ◌<◌, Bool, true, false, List, [], ◌∷◌, ◌++◌, refl, sym, ap, subst, length, append_assoc, append-nil, Ok, arith, Option, Some, None, Result, Err, nat_le, ◌&&◌, ◌||◌, ◌==◌, not, codes, all_scalars, encode, encodes, scalar, length-encode, and_parts, cond-true, cond-false, and_from, ne_eqb, and_left, by_test, or-false, and-false, greater_than_sign, Chars, length-append, Syntax, More, Char, Bad, answer_of, BeginsCharacter, IsCharacter, PlacedCharacter, carriage_return, as_line_end, values, Item, is_literal, is_strict_literal, has_no_nul, is_known_tag, Faulty, Html, Xhtml, Token, tag, doctype, Line, Phase, before, answer_is, character_of_form, Content, Limits, CharactersGoOn, Verdict, ended, refused, verdict, ReadAs, at_last, at_next, pending_goes, item_content, no_literal, Utf8Step, Fault, Kind, values_append, token_of_item, scan_fault, Fits, AllFit, no_section_end, no_more, one, Spelled, next_of, last_from, right_bracket, whole, goes_on, completed, item_first, item_last, IsKept, eqb-false, ◌⊎◌, if◌then◌else◌}
use Rattle.rx_scan.proofs.Common.{begins, begins_tag, Spot, Scanning, Scanned, first_of, starts_at, token_at, entering, is_too_long, told, read_char, read_answer, read_byte, with_items, scan_on, scan_from, fault_in, item_of_run, is_doctype, told_first, with_item, after_token, read_entry, occurs, passes, len_positive, no_mark, no_return, two_lasts, AllBefore, has_character, ends_in_return, ScanSpells, TokensAreWhole, Left, is_over, EntersCharacter, FitsWith, IsNoToken, RefusesByte, page_too_long, not_utf8, nul, tag_too_long, known_too_long, decided, section_end, late_doctype, FirstFault, ScansWhatIsSpelled, RefusesWhatIsFaulty, goes_at, not_whole, reads_each, known_more, MayCome, AllInside, brackets_behind, TagVerdict, a_tag, known_verdict, item_is, ended_kept}
use Rattle.rx_pages.proofs.FrontRead.{mark_some, line_feed_some, nul_entry}
use Rattle.rx_pages.proofs.ByteSteps.{not_le, not_long, is_le}
use Rattle.rx_scan.proofs.SpelledLemmas.{inside_snoc, come_snoc, first_known, passing_is, none_entered, same_content, all_so, whole_verdict, brackets_snoc, kept_flags, first_snoc, Fine, Has, has_of, told_of, state_is, size_more, state, brackets, entries_of, pass, new_entry, new_entries, entries_are, next_is}
use Rattle.rx_pages.proofs.Reading.{Last, no_last, a_last, last_of}
use Rattle.rx_pages.proofs.BytesOn.{encodes_more}
use Rattle.rx_pages.proofs.Snocs.{values_next, spelled_snoc}
use Rattle.rx_pages.proofs.Pending.{begun_goes, goes_front}
use Rattle.rx_pages.proofs.PendsOn.{spells_read}
use Rattle.rx_grammar.specs.declared.faults.Kind.TheVariants as kind
use Rattle.rx_grammar.specs.Spelling as spelling
use Rattle.rx_grammar.specs.PageFaults as faults
use Rattle.rx_pages.proofs.Refusals.{IsRefused, refuses_run, refuses_text, refuses_less_than, refuses_section, refuses_comment}
use Rattle.rx_pages.proofs.Openings.{refuses_opening}
use Rattle.rx_pages.proofs.DoctypeFaults.{refuses_doctype}
use Rattle.rx_pages.proofs.TagRuns.{tag_refused}
use Rattle.rx_scan.specs.Spelled as spelled
use Rattle.rx_pages.proofs.Judged.{strict_keeps}
use Rattle.rx_scan.proofs.RunLemmas.{on_append}

not_none : {A : Type 0} (xs : List A) (x : A) → xs ++ x ∷ [] ≢ []
not_none xs x e = omega (arith, ap length e, length-append xs (x ∷ []))

-- where the last one of two lists stands
data LastIn {A : Type 0} (front run all : List A) (x : A) : Type 0 where
  in_run : (left : List A) → run ≡ left ++ x ∷ [] → front ++ left ≡ all → LastIn front run all x
  in_front : run ≡ [] → front ≡ all ++ x ∷ [] → LastIn front run all x

last_in : {A : Type 0} (front run all : List A) (x : A) → front ++ run ≡ all ++ x ∷ [] → LastIn front run all x
last_in [] run all x e = in_run all e refl
last_in (y ∷ []) [] [] x e = in_front refl e
last_in (y ∷ []) (z ∷ run) [] x e = absurd (cc)
last_in (y ∷ w ∷ front) run [] x e = absurd (cc)
last_in (y ∷ front) run (z ∷ all) x e =
    let h : y ≡ z = cc in
    elim (last_in front run all x (cc)) [
      | in_run left r w ↦ in_run left r (ap (λ c. c ∷ (front ++ left)) h ∙ ap (λ c. z ∷ c) w)
      | in_front r w ↦ in_front r (ap (λ c. c ∷ front) h ∙ ap (λ c. z ∷ c) w)
    ]

-- what holds of a list holds of the front before its last one
before_last : (limit at : ℕ) (bytes : List ℕ) (byte : ℕ) → AllBefore limit at (bytes ++ byte ∷ []) → AllBefore limit at bytes × (at + length bytes < limit)
before_last limit at [] byte a = (tt, let l = a.0 in omega arith)
before_last limit at (b ∷ bytes) byte a = let r = before_last limit (at + 1) bytes byte a.1 in ((a.0, r.0), let l = r.1 in omega arith)

fit_last : (limit : ℕ) (items : List Item) (item : Item) → AllFit limit (items ++ item ∷ []) → AllFit limit items × Fits limit item item.token
fit_last limit [] item a = (tt, a.0)
fit_last limit (i ∷ items) item a = let r = fit_last limit items item a.1 in ((a.0, r.0), r.1)

sec_first : (a x : Bool) → (if a then false else x) ≡ true → (a ≡ false) × (x ≡ true)
sec_first true x h = absurd (cc)
sec_first false x h = (refl, h)

sections_last : (items : List Item) (item : Item) (two last : Bool) → no_section_end (items ++ item ∷ []) two last ≡ true → (no_section_end items two last ≡ true) × (((brackets_behind items two last).0 && is_literal greater_than_sign item) ≡ false)
sections_last [] item two last h = (refl, (sec_first (two && is_literal greater_than_sign item) true h).0)
sections_last (i ∷ items) item two last h =
    let p = sec_first (two && is_literal greater_than_sign i) (no_section_end (items ++ item ∷ []) (last && is_literal right_bracket i) (is_literal right_bracket i)) h in
    let r = sections_last items item (last && is_literal right_bracket i) (is_literal right_bracket i) p.1 in
    (cond-false _ _ _ p.0 ∙ r.0, r.1)

scalars_last : (cs : List ℕ) (c : ℕ) → all_scalars (cs ++ c ∷ []) ≡ true → (all_scalars cs ≡ true) × (scalar c ≡ true)
scalars_last [] c h = (refl, (and_parts (scalar c) true h).0)
scalars_last (d ∷ cs) c h =
    let p = and_parts (scalar d) (all_scalars (cs ++ c ∷ [])) h in let r = scalars_last cs c p.1 in (and_from (scalar d) (all_scalars cs) p.0 r.0, r.1)

no_nul_last : (es : List PlacedCharacter) (e : PlacedCharacter) → has_no_nul (es ++ e ∷ []) ≡ true → (has_no_nul es ≡ true) × (not (e.value == 0) ≡ true)
no_nul_last [] e h = (refl, (and_parts (not (e.value == 0)) true h).0)
no_nul_last (d ∷ es) e h =
    let p = and_parts (not (d.value == 0)) (has_no_nul (es ++ e ∷ [])) h in let r = no_nul_last es e p.1 in (and_from (not (d.value == 0)) (has_no_nul es) p.0 r.0, r.1)

not_late : (leads : Bool) (token : Token) → MayCome leads token → (is_doctype token && not leads) ≡ false
not_late leads doctype m = ap not m
not_late leads _ m = refl

fits_of : (limit : ℕ) (v : Verdict) (item : Item) → TagVerdict v → v ≡ whole item.token → Fits limit item item.token → item.last + 1 ≤ item.first + limit
fits_of limit _ item (a_tag t) h f = let same : tag t ≡ item.token = cc in subst (λ token. Fits limit item token) (sym same) f
fits_of limit _ item _ h f = absurd (cc)

no_tag : (v : Verdict) (token : Token) → TagVerdict v → v ≡ ended token → ⊥
no_tag _ token (a_tag t) h = cc
no_tag _ token _ h = cc

-- a token that is read before a character is read whatever comes next, or ends at it
read_or_ended : (s : Syntax) (i : Content) (text : Chars) (c : ℕ) (token : Token) → ReadAs s i text (Some c) token → ReadAs s i text None token ⊎ (CharactersGoOn s i [] text × (verdict s i text c ≡ ended token))
read_or_ended s i _ _ _ (at_last f d t go v) = inl (at_last f d t go v)
read_or_ended s i _ _ _ (at_next x d t go v) = inr (go, v)

module _ (syntax : Syntax) where
  -- some tokens by the last one
  data ByLast (next : Option ℕ) : List PlacedCharacter → List Item → Type 0 where
    nothing : ByLast next [] []
    behind : (front : List PlacedCharacter) (c : PlacedCharacter) (r : List PlacedCharacter) (others : List Item) (item : Item) → Spelled syntax front (Some c.value) others → spelling.Spells syntax item.content (values (c ∷ r)) next item.token
        → item.first ≡ c.first → item.last ≡ last_from c.last r → ByLast next (front ++ (c ∷ r)) (others ++ item ∷ [])

  by_last : {es : List PlacedCharacter} {next : Option ℕ} {items : List Item} → Spelled syntax es next items → ByLast next es items
  by_last no_more = nothing
  by_last {next = next} (one c run rest item {items = items} sp f l more) = by rest items (by_last more) sp
    where
      by : (rest : List PlacedCharacter) (items : List Item) → ByLast next rest items → spelling.Spells syntax item.content (values (c ∷ run)) (next_of (values rest) next) item.token → ByLast next ((c ∷ run) ++ rest) (item ∷ items)
      by _ _ nothing sp = subst (λ es. ByLast next es (item ∷ [])) (sym (append-nil (c ∷ run))) (behind [] c run [] item no_more sp f l)
      by _ _ (behind front d r others it s q g m) sp =
          subst (λ es. ByLast next es (item ∷ (others ++ it ∷ []))) (append_assoc (c ∷ run) front (d ∷ r))
          (behind ((c ∷ run) ++ front) d r (item ∷ others) it (one c run front item (subst (λ n. spelling.Spells syntax item.content (values (c ∷ run)) n item.token) (values_next front d r next) sp) f l s) q g m)

  module _ (inside : Content) (o : occurs syntax inside ≡ true) (e : ℕ) where
    -- Tokens that an entry of this value comes behind: they are whole without it, or the last one is text that ends at it.
    data Standing : List PlacedCharacter → List PlacedCharacter → List Item → Type 0 where
      still : {run front : List PlacedCharacter} {items : List Item} → Spelled syntax front (next_of (values run) None) items → Standing run front items
      was_text : (front : List PlacedCharacter) (c : PlacedCharacter) (r : List PlacedCharacter) (others : List Item) (item : Item) → Spelled syntax front (Some c.value) others → CharactersGoOn syntax inside [] (values (c ∷ r))
          → verdict syntax inside (values (c ∷ r)) e ≡ ended item.token → item_of_run inside item.token (c ∷ r) ≡ item → Standing [] (front ++ (c ∷ r)) (others ++ item ∷ [])

    standing : (run front : List PlacedCharacter) (items : List Item) → AllInside inside items → Spelled syntax front (next_of (values run) (Some e)) items → Standing run front items
    standing (d ∷ run) front items i sp = still sp
    standing [] front items i sp = by front items (by_last sp) i
      where
        by : (front : List PlacedCharacter) (items : List Item) → ByLast (Some e) front items → AllInside inside items → Standing [] front items
        by _ _ nothing i = still no_more
        by _ _ (behind front c r others item s q g m) i =
            let here = ((inside_snoc inside others item).0 i).1 in
            elim (read_or_ended syntax inside (values (c ∷ r)) e item.token (reads_each syntax inside (values (c ∷ r)) (Some e) item.token (subst (λ x. spelling.Spells syntax x (values (c ∷ r)) (Some e) item.token) here q))) [
              | inl k ↦ still (spelled_snoc syntax c r None item s refl (subst (λ x. spelling.Spells syntax x (values (c ∷ r)) None item.token) (sym here) (spells_read syntax inside o (values (c ∷ r)) None item.token k)) g m)
              | inr k ↦ was_text front c r others item s k.0 k.1 (item_is inside item c r here g m)
            ]

-- characters that are no token, and have a fault whatever stands before, are refused at their last one
refused_by : (s : Syntax) (i : Content) → occurs s i ≡ true → (depth : ℕ) (line : Line) (phase : Phase) {found : Kind} {chars : Chars} → Faulty s depth [] line phase i found chars → IsNoToken s i chars → IsRefused s i found chars
refused_by s i o depth line phase {found = found} (faults.in_tag text h f) n = tag_refused s i text found h f
refused_by s i o depth line phase (faults.no_markup text c z m b k t) n =
    subst (λ x. IsRefused x i kind.BadTag (60 ∷ (text ++ c ∷ []))) (sym z) (refuses_opening i m text c b k (subst (λ x. begins (begins_tag x) (text ++ c ∷ []) ≡ false) z t))
refused_by s i o depth line phase {found = found} (faults.in_run run r f) n = refuses_run s i r (λ z. strict_keeps i (subst (λ x. occurs x i ≡ true) z o)) found run f
refused_by s i o depth line phase (faults.in_comment text c z m f k) n = subst (λ x. IsRefused x i kind.StrictText (60 ∷ (codes "!--" ++ (text ++ c ∷ [])))) (sym z) (refuses_comment i m text c f k)
refused_by s i o depth line phase (faults.section_end e b) n = absurd (cc)
refused_by s i o depth line phase (faults.no_doctype word text c m w b k) n = refuses_doctype s i m word text c w b k
refused_by s i o depth line phase (faults.late_doctype text m d k) n = absurd (n doctype (spelling.a_doctype text m d))
refused_by s i o depth line phase (faults.outside_text c e w k) n = subst (λ x. IsRefused s x kind.Outside (c ∷ [])) (sym e) (refuses_text s c w k)
refused_by s i o depth line phase (faults.outside_less_than c z e b) n =
    subst (λ y. IsRefused y i kind.Outside (60 ∷ c ∷ [])) (sym z) (subst (λ x. IsRefused Html x kind.Outside (60 ∷ c ∷ [])) (sym e) (refuses_less_than c b))
refused_by s i o depth line phase (faults.outside_section z e) n =
    subst (λ y. IsRefused y i kind.Outside (codes "<![CDATA[")) (sym z) (subst (λ x. IsRefused Xhtml x kind.Outside (codes "<![CDATA[")) (sym e) refuses_section)
refused_by s i o depth line phase (faults.at_tag chars t sp h) n = absurd (n (tag t) sp)

-- and one that goes on is over at the next one
ended_verdict : (s : Syntax) (i : Content) (text : Chars) (c : ℕ) (token : Token) → CharactersGoOn s i [] text → ReadAs s i text (Some c) token → verdict s i text c ≡ ended token
ended_verdict s i _ _ _ g (at_last f d t go v) = absurd (not_whole s i _ t (goes_at s i [] f d [] g) v)
ended_verdict s i _ _ _ g (at_next x d t go v) = v

too_long : (known : Bool) (bound at : ℕ) → known ≡ true → bound ≤ at → (known && nat_le bound at) ≡ true
too_long known bound at k l = and_from known (nat_le bound at) k (is_le bound at l)

module _ (syntax : Syntax) (limits : Limits) (spot : Spot) (next : Scanning) (byte : ℕ) where
  abbrev content_there : Content
  content_there = spot.inside

  abbrev with_byte : List ℕ
  with_byte = next.held ++ byte ∷ []

  abbrev byte_read : Result Scanned Kind
  byte_read = read_byte syntax limits spot byte next

  by_answer : (answer : Utf8Step) → next.at < limits.page → answer ≡ answer_of with_byte → byte_read ≡ read_answer syntax limits spot with_byte next answer
  by_answer answer p h = cond-false _ _ _ (not_le limits.page next.at p) ∙ ap (λ x. read_answer syntax limits spot with_byte next x) (sym h)

  by_char : (c : ℕ) → next.at < limits.page → IsCharacter with_byte c → c ≢ 0 → is_too_long syntax limits spot next.run (token_at next) next.at ≡ false → byte_read ≡ read_char syntax limits spot c next
  by_char c p is n l = by_answer (Char c) p (answer_is with_byte (Char c) is) ∙ (cond-false _ _ _ (ne_eqb c 0 n) ∙ cond-false _ _ _ l)

  module _ (c : ℕ) (ent : EntersCharacter limits next byte c) where
    abbrev value : ℕ
    value = as_line_end c

    abbrev entry : PlacedCharacter
    entry = record { value = value; first = starts_at next; last = next.at }

    abbrev known_with : Bool
    known_with = is_known_tag syntax content_there (values (next.run ++ entry ∷ []))

    with_is : is_known_tag syntax content_there (values next.run ++ value ∷ []) ≡ known_with
    with_is = ap (λ x. is_known_tag syntax content_there x) (sym (values_append next.run (entry ∷ [])))

    abbrev tells : Verdict → Result Scanned Kind
    tells v = told syntax limits spot (c == carriage_return) entry next v

    by_entry : is_too_long syntax limits spot next.run (token_at next) next.at ≡ false → byte_read ≡ read_entry syntax limits spot (c == carriage_return) entry next
    by_entry l = by_char c ent.page ent.is ent.no_nul l ∙ cond-false _ _ _ ent.enters

    module _ (fw : FitsWith syntax limits spot next c) where
      by_told : byte_read ≡ tells (verdict syntax content_there (values next.run) value)
      by_told =
          by_entry (not_long (is_known_tag syntax content_there (values next.run)) (token_at next + limits.tag) next.at (λ k. fw (known_more syntax content_there (values next.run) (value ∷ []) k)))
          ∙ cond-false _ _ _ (not_long known_with (token_at next + limits.tag) next.at (λ k. fw (with_is ∙ k)))

      abbrev item : Token → Item
      item token = item_of_run content_there token (next.run ++ entry ∷ [])

      literal_is : (d : ℕ) (token : Token) → is_literal d (item token) ≡ is_strict_literal d content_there token
      literal_is d token = ap (λ t. is_strict_literal d (item token).content t) (token_of_item content_there token (next.run ++ entry ∷ [])) ∙ ap (λ i. is_strict_literal d i token) (item_content content_there token next.run entry)

      at_fault : CharactersGoOn syntax content_there [] (values next.run) → (found : Kind) (run : Chars) → Left syntax content_there (values next.run) value run → verdict syntax content_there run value ≡ refused found → byte_read ≡ Err found
      at_fault g found _ spelled.goes_on v = by_told ∙ ap tells v
      at_fault g found _ (is_over token sp) v =
          by_told
          ∙ (ap tells (ended_verdict syntax content_there (values next.run) value token g (reads_each syntax content_there (values next.run) (Some value) token sp))
          ∙ ap (λ x. with_item syntax limits spot (item_of_run content_there token next.run) (told_first syntax limits spot (c == carriage_return) entry (after_token syntax limits spot next) x)) v)

  pub refused_read : {found : Kind} → occurs syntax content_there ≡ true → CharactersGoOn syntax content_there [] (values next.run) → RefusesByte syntax limits spot next byte found → byte_read ≡ Err found
  refused_read o g (page_too_long l) = cond-true _ _ _ (is_le limits.page next.at l)
  refused_read o g (not_utf8 p n) = by_answer Bad p (answer_is with_byte Bad n)
  refused_read o g (nul p is) = by_answer (Char 0) p (answer_is with_byte (Char 0) is)
  refused_read o g (tag_too_long p k l (faults.begins_one b)) = by_answer More p (answer_is with_byte More b) ∙ cond-true _ _ _ (too_long (is_known_tag syntax content_there (values next.run)) (token_at next + limits.tag) next.at k l)
  refused_read o g (tag_too_long p k l (faults.is_one c is n)) =
      by_answer (Char c) p (answer_is with_byte (Char c) is) ∙ (cond-false _ _ _ (ne_eqb c 0 n) ∙ cond-true _ _ _ (too_long (is_known_tag syntax content_there (values next.run)) (token_at next + limits.tag) next.at k l))
  refused_read o g (known_too_long c ent u k l) =
      by_entry c ent (and_left (is_known_tag syntax content_there (values next.run)) _ u) ∙ cond-true _ _ _ (too_long (known_with c ent) (token_at next + limits.tag) next.at (sym (with_is c ent) ∙ k) l)
  refused_read {found = found} o g (decided c run ent fw left n f) =
      let r = refused_by syntax content_there o 0 [] (before false) (f 0 [] [] (before false)) n in
      let p = two_lasts r.front run r.c (as_line_end c) (sym r.are) in
      at_fault c ent fw g found run left (subst (λ x. verdict syntax content_there x (as_line_end c) ≡ refused found) p.0 (subst (λ x. verdict syntax content_there r.front x ≡ refused found) p.1 r.refuses))
  refused_read o g (section_end c token ent fw sp l two) =
      by_told c ent fw
      ∙ (ap (tells c ent) (whole_verdict syntax content_there (values next.run) (as_line_end c) token sp)
      ∙ cond-true _ _ _ (and_from next.two (is_literal greater_than_sign (item c ent fw token)) two (literal_is c ent fw greater_than_sign token ∙ l)))
  refused_read o g (late_doctype c ent fw sp l) =
      by_told c ent fw
      ∙ (ap (tells c ent) (whole_verdict syntax content_there (values next.run) (as_line_end c) doctype sp)
      ∙ (cond-false _ _ _ (ap (λ b. next.two && b) (literal_is c ent fw greater_than_sign doctype ∙ no_literal greater_than_sign content_there doctype (λ d e. cc)) ∙ and-false next.two)
      ∙ cond-true _ _ _ (and_from (is_doctype (item c ent fw doctype).token) (not spot.leads) (ap is_doctype (token_of_item content_there doctype (next.run ++ entry c ent ∷ []))) (ap not l))))

module _ (syntax : Syntax) (limits : Limits) (spot : Spot) (o : occurs syntax spot.inside ≡ true) (s : Scanning) where
  abbrev inside : Content
  inside = spot.inside

  abbrev Are : List Item → Type 0
  Are items = Fine syntax limits spot o s items

  abbrev known : List PlacedCharacter → Bool
  known run = is_known_tag syntax inside (values run)

  abbrev enters_as : List ℕ → List PlacedCharacter
  enters_as cs = entries_of syntax limits spot o s cs

  abbrev flags : List Item → Bool × Bool
  flags items = brackets syntax limits spot o s items

  abbrev there : List ℕ → List ℕ → List ℕ → List PlacedCharacter → Bool × Bool → Scanning
  there bytes cs part run b = state syntax limits spot o s bytes cs part run b

  fine_last : (items : List Item) (item : Item) → Are (items ++ item ∷ []) → Are items
  fine_last items item f =
      record { inside_is = ((inside_snoc inside items item).0 f.inside_is).0; come = ((come_snoc spot.leads items item).0 f.come).0; fit = (fit_last limits.tag items item f.fit).0; sections = (sections_last items item s.two s.last f.sections).0 }

  -- bytes, and one more
  module _ (bytes : List ℕ) (byte : ℕ) (final : Scanned) (t : ScanSpells syntax limits spot s (bytes ++ byte ∷ []) final) where
    -- what the bytes before it spell, and that it leads on from there
    record Before : Type 0 where
      mid : Scanned
      told : ScanSpells syntax limits spot s bytes mid
      items : List Item
      reads : read_byte syntax limits spot byte mid.next ≡ Ok (record { next = final.next; items = items })
      are : final.items ≡ mid.items ++ items

    abbrev at : ℕ
    at = s.at + length bytes

    h : Has syntax limits spot o s (bytes ++ byte ∷ []) t.characters t.part t.front final.next.run final.items
    h = has_of syntax limits spot o s (bytes ++ byte ∷ []) final t

    final_is : there (bytes ++ byte ∷ []) t.characters t.part final.next.run (flags final.items) ≡ final.next
    final_is = sym (state_is syntax limits spot o s (bytes ++ byte ∷ []) final t)

    within : AllBefore limits.page s.at bytes × (at < limits.page)
    within = before_last limits.page s.at bytes byte t.within

    room : (from : ℕ) → known final.next.run ≡ true → at < first_of final.next.run from + limits.tag
    room from k = omega (arith, h.short from k, size_more syntax limits spot o s bytes byte)

    stays : (from : ℕ) → known final.next.run ≡ true → at ≤ first_of final.next.run from + limits.tag
    stays from k = let a = room from k in omega arith

    -- they are these characters and a part of one
    module _ (cs part : List ℕ) (are : bytes ≡ encodes cs ++ part) (scalars : all_scalars cs ≡ true) (begun : BeginsCharacter part) (some : has_no_nul (enters_as cs) ≡ true) where
      before_with : (front run : List PlacedCharacter) (items left : List Item) → front ++ run ≡ enters_as cs → Spelled syntax front (next_of (values run) None) items → Are items → CharactersGoOn syntax inside [] (values run) → ((from : ℕ) → known run ≡ true → at ≤ first_of run from + limits.tag)
          → read_byte syntax limits spot byte (there bytes cs part run (flags items)) ≡ Ok (record { next = final.next; items = left }) → final.items ≡ items ++ left → Before
      before_with front run items left read sp f g short reads e =
          record {
            mid = record { next = there bytes cs part run (flags items); items = items };
            told = told_of syntax limits spot o s bytes cs part front run items (record { are = are; scalars = scalars; within = within.0; is_part = inr begun; read = read; no_nul = some; spelled = sp; fine = f; goes = g; short = short });
            items = left;
            reads = reads;
            are = e;
          }

    -- the byte belongs to a character that isn't whole
    held : (part : List ℕ) (x : ℕ) → t.part ≡ part ++ x ∷ [] → Before
    held part x e =
        let p = two_lasts bytes (encodes t.characters ++ part) byte x (t.are ∙ (ap (λ y. encodes t.characters ++ y) e ∙ sym (append_assoc (encodes t.characters) part (x ∷ [])))) in
        let begins : BeginsCharacter (part ++ byte ∷ []) = subst (λ y. BeginsCharacter (part ++ y ∷ [])) (sym p.1) (⊎_elim (λ h. absurd (not_none part x (sym e ∙ h))) (λ b. subst BeginsCharacter e b) t.is_part) in
        before_with t.characters part p.0 t.scalars (record { more = byte ∷ begins.more; value = begins.value; longer = λ h. cc; character = subst (λ y. IsCharacter y begins.value) (append_assoc part (byte ∷ []) begins.more) begins.character }) h.no_nul
        t.front final.next.run final.items [] t.read t.spelled h.fine h.goes stays
        (by_answer syntax limits spot (there bytes t.characters part final.next.run (flags final.items)) byte More within.1 (answer_is (part ++ byte ∷ []) More begins)
        ∙ (cond-false _ _ _ (not_long _ (first_of final.next.run (at - length part) + limits.tag) at (room (at - length part)))
        ∙ ap (λ n. Ok (record { next = n; items = [] }))
        ((λ i. record { at = size_more syntax limits spot o s bytes byte i; held = (ap (λ y. part ++ y ∷ []) p.1 ∙ sym e) i; started = s.started || has_character t.characters; after_return = ends_in_return s.after_return t.characters; run = final.next.run; two = (flags final.items).0; last = (flags final.items).1 }) ∙ final_is)))
        (sym (append-nil final.items))

    -- the last byte of a character
    module _ (cs : List ℕ) (c : ℕ) (ce : t.characters ≡ cs ++ c ∷ []) (pe : t.part ≡ []) (part : List ℕ) (x : ℕ) (whole_form : encode c ≡ part ++ x ∷ []) where
      split_is : (bytes ≡ encodes cs ++ part) × (byte ≡ x)
      split_is =
          two_lasts bytes (encodes cs ++ part) byte x
          (t.are ∙ ((λ i. encodes (ce i) ++ pe i) ∙ (append-nil (encodes (cs ++ c ∷ [])) ∙ (encodes_more cs c ∙ (ap (λ y. encodes cs ++ y) whole_form ∙ sym (append_assoc (encodes cs) part (x ∷ [])))))))

      form : encode c ≡ part ++ byte ∷ []
      form = whole_form ∙ ap (λ y. part ++ y ∷ []) (sym split_is.1)

      scalars : (all_scalars cs ≡ true) × (scalar c ≡ true)
      scalars = scalars_last cs c (ap all_scalars (sym ce) ∙ t.scalars)

      is : IsCharacter (part ++ byte ∷ []) c
      is = subst (λ y. IsCharacter y c) form (character_of_form c scalars.1)

      begun : BeginsCharacter part
      begun = record { more = byte ∷ []; value = c; longer = λ h. cc; character = is }

      abbrev mid : List PlacedCharacter → Bool × Bool → Scanning
      mid run b = there bytes cs part run b

      abbrev does_pass : Bool
      does_pass = pass syntax limits spot o s bytes byte cs part c split_is.0 form

      read : t.front ++ final.next.run ≡ enters_as cs ++ new_entries syntax limits spot o s bytes byte cs part c split_is.0 form
      read = t.read ∙ (ap enters_as ce ∙ entries_are syntax limits spot o s bytes byte cs part c split_is.0 form)

      leads_on : (after_return : Bool) (old run : List PlacedCharacter) (two last : Bool) (b : Bool × Bool) (left : List Item) → after_return ≡ (c == carriage_return) → run ≡ final.next.run → (two, last) ≡ flags final.items
          → ◌≡◌ {A = Result Scanned Kind} (Ok (record { next = entering after_return run two last (mid old b); items = left })) (Ok (record { next = final.next; items = left }))
      leads_on after_return old run two last b left a r f =
          ap (λ n. Ok (record { next = n; items = left }))
          (next_is syntax limits spot o s bytes byte cs part c split_is.0 form after_return old run two last (flags final.items) b a f
          ∙ ((λ i. there (bytes ++ byte ∷ []) (sym ce i) (sym pe i) (r i) (flags final.items)) ∙ final_is))

      passed_on : does_pass ≡ true → Before
      passed_on p =
          let same : t.front ++ final.next.run ≡ enters_as cs = read ∙ (ap (λ z. enters_as cs ++ z) (cond-true _ _ _ p) ∙ append-nil (enters_as cs)) in
          before_with cs part split_is.0 scalars.0 begun (sym (ap has_no_nul same) ∙ t.no_nul) t.front final.next.run final.items [] same t.spelled h.fine h.goes stays
          (by_char syntax limits spot (mid final.next.run (flags final.items)) byte c within.1 is (eqb-false c 0 (passing_is _ _ c ((c == 0) ≡ false) p (mark_some c) (line_feed_some c)))
          (not_long _ (first_of final.next.run (at - length part) + limits.tag) at (room (at - length part)))
          ∙ (cond-true _ _ _ p ∙ leads_on false final.next.run final.next.run (flags final.items).0 (flags final.items).1 (flags final.items) [] (sym (passing_is _ _ c ((c == carriage_return) ≡ false) p (no_mark c) (no_return c))) refl refl))
          (sym (append-nil final.items))

      -- one that is entered
      module _ (enters : does_pass ≡ false) where
        abbrev e : PlacedCharacter
        e = new_entry syntax limits spot o s bytes byte cs part c split_is.0 form

        grown : t.front ++ final.next.run ≡ enters_as cs ++ e ∷ []
        grown = read ∙ ap (λ z. enters_as cs ++ z) (cond-false _ _ _ enters)

        no_nul : (has_no_nul (enters_as cs) ≡ true) × (not (e.value == 0) ≡ true)
        no_nul = no_nul_last (enters_as cs) e (sym (ap has_no_nul grown) ∙ t.no_nul)

        ent : (run : List PlacedCharacter) (b : Bool × Bool) → EntersCharacter limits (mid run b) byte c
        ent run b = record { page = within.1; is = is; no_nul = λ z. (let w : false ≡ true = sym (ap not (nul_entry c (ap (λ y. y == 0) z))) ∙ no_nul.1 in cc); enters = enters }

        -- what it says of these tokens and this run
        at_entry : (run front : List PlacedCharacter) (others items : List Item) (v : Verdict) → Standing syntax inside o e.value run front others → front ++ run ≡ enters_as cs → Are others → CharactersGoOn syntax inside [] (values run)
            → ((from : ℕ) → is_known_tag syntax inside (values run ++ e.value ∷ []) ≡ true → at < first_of (run ++ e ∷ []) from + limits.tag) → verdict syntax inside (values run) e.value ≡ v
            → ((n : Scanning) → told syntax limits spot (c == carriage_return) e n v ≡ told_first syntax limits spot (c == carriage_return) e n v) → ((b : Bool × Bool) → b ≡ flags others → told_first syntax limits spot (c == carriage_return) e (mid run b) v ≡ Ok (record { next = final.next; items = items })) → final.items ≡ others ++ items → Before
        at_entry run front others items v (still sp) whole_front f g fits v_is n first are =
            let k : is_known_tag syntax inside (values run ++ e.value ∷ []) ≡ true → at < first_of run e.first + limits.tag = λ k. subst (λ z. at < z + limits.tag) (first_snoc run e 0) (fits 0 k) in
            before_with cs part split_is.0 scalars.0 begun no_nul.0 front run others items whole_front sp f g
            (λ from w. let m = k (known_more syntax inside (values run) (e.value ∷ []) w) in let z = first_known syntax inside run from e.first w in omega arith)
            (by_told syntax limits spot (mid run (flags others)) byte c (ent run (flags others)) k
            ∙ (ap (λ w. told syntax limits spot (c == carriage_return) e (mid run (flags others)) w) v_is ∙ (n (mid run (flags others)) ∙ first (flags others) refl))) are
        at_entry _ _ _ items v (was_text front d r others item sp go w is_item) whole_front f g fits v_is n first are =
            let unknown : is_known_tag syntax inside (values (d ∷ r) ++ e.value ∷ []) ≡ true → ⊥ = λ k. no_tag _ item.token (known_verdict syntax inside (values (d ∷ r)) e.value k) w in
            let kept_is : IsKept item.token = subst IsKept (ap (λ (x : Item). x.token) is_item) (subst IsKept (sym (token_of_item inside item.token (d ∷ r))) (ended_kept syntax inside (values (d ∷ r)) e.value item.token w)) in
            before_with cs part split_is.0 scalars.0 begun no_nul.0 front (d ∷ r) others (item ∷ items) (sym (append-nil (front ++ (d ∷ r))) ∙ whole_front) sp (fine_last others item f) go (λ from k. absurd (unknown (known_more syntax inside (values (d ∷ r)) (e.value ∷ []) k)))
            (by_told syntax limits spot (mid (d ∷ r) (flags others)) byte c (ent (d ∷ r) (flags others)) (λ k. absurd (unknown k))
            ∙ (ap (λ w. told syntax limits spot (c == carriage_return) e (mid (d ∷ r) (flags others)) w) w
            ∙ (ap (λ y. with_item syntax limits spot (item_of_run inside item.token (d ∷ r)) (told_first syntax limits spot (c == carriage_return) e (mid [] (false, false)) y)) v_is
            ∙ (ap (λ y. with_item syntax limits spot (item_of_run inside item.token (d ∷ r)) y) (first (false, false) (sym (kept_flags others item s.two s.last kept_is))) ∙ ap (λ y. Ok (record { next = final.next; items = y ∷ items })) is_item))))
            (are ∙ append_assoc others (item ∷ []) items)

        -- it goes on
        on_run : (run : List PlacedCharacter) → final.next.run ≡ run ++ e ∷ [] → t.front ++ run ≡ enters_as cs → Before
        on_run run re q =
            let text_is : values final.next.run ≡ values run ++ e.value ∷ [] = ap values re ∙ values_append run (e ∷ []) in
            let on : CharactersGoOn syntax inside [] (values run ++ e.value ∷ []) = subst (λ x. CharactersGoOn syntax inside [] x) text_is h.goes in
            at_entry run t.front final.items [] goes_on
            (standing syntax inside o e.value run t.front final.items t.inside_is (subst (λ n. Spelled syntax t.front n final.items) (ap (λ z. next_of (values z) None) re ∙ values_next run e [] None) t.spelled))
            q h.fine (goes_front syntax inside [] (values run) (e.value ∷ []) on)
            (λ from k. subst (λ z. at < first_of z from + limits.tag) re (room from (ap (λ x. is_known_tag syntax inside x) text_is ∙ k)))
            (goes_at syntax inside [] (values run) e.value [] on) (λ n. refl)
            (λ b f. leads_on (c == carriage_return) run (run ++ e ∷ []) b.0 b.1 b [] refl (sym re) f) (sym (append-nil final.items))

        -- it is the last one of a token
        on_token : final.next.run ≡ [] → (front : List PlacedCharacter) (items : List Item) → ByLast syntax None front items → front ≡ enters_as cs ++ e ∷ [] → final.items ≡ items → Are items → Before
        on_token re _ _ nothing q i f = absurd (not_none (enters_as cs) e (sym q))
        on_token re _ _ (behind front d r others item sp k first last) q i f = by (last_in front (d ∷ r) (enters_as cs) e q)
          where
            by : LastIn front (d ∷ r) (enters_as cs) e → Before
            by (in_front z w) = absurd (cc)
            by (in_run run unit w) =
                let here = ((inside_snoc inside others item).0 f.inside_is).1 in
                let it : item_of_run inside item.token (run ++ e ∷ []) ≡ item = ap (λ z. item_of_run inside item.token z) (sym unit) ∙ item_is inside item d r here first last in
                let spells : spelling.Spells syntax inside (values run ++ e.value ∷ []) None item.token = subst (λ x. spelling.Spells syntax inside x None item.token) (ap values unit ∙ values_append run (e ∷ [])) (subst (λ x. spelling.Spells syntax x (values (d ∷ r)) None item.token) here k) in
                let v = whole_verdict syntax inside (values run) e.value item.token spells in
                at_entry run front others (item ∷ []) (whole item.token)
                (standing syntax inside o e.value run front others (fine_last others item f).inside_is (subst (λ n. Spelled syntax front n others) (ap (λ z. next_of (values z) None) unit ∙ values_next run e [] None) sp))
                w (fine_last others item f) (begun_goes syntax inside (values run) e.value [] None item.token spells)
                (λ from k. let m = fits_of limits.tag _ item (known_verdict syntax inside (values run) e.value k) v (fit_last limits.tag others item f.fit).1 in
                let a : item.first ≡ first_of run e.first = ap (λ (x : Item). x.first) (sym it) ∙ item_first inside item.token run e in
                let b : item.last ≡ at = ap (λ (x : Item). x.last) (sym it) ∙ item_last inside item.token run e in
                let z = first_snoc run e from in
                omega arith)
                v (λ n. refl)
                (λ b g.
                ap (λ z. completed syntax limits spot (c == carriage_return) z (mid run b)) it
                ∙ (cond-false _ _ _ (ap (λ (p : Bool × Bool). p.0 && is_literal greater_than_sign item) g ∙ (sections_last others item s.two s.last f.sections).1)
                ∙ (cond-false _ _ _ (not_late spot.leads item.token ((come_snoc spot.leads others item).0 f.come).1)
                ∙ leads_on (c == carriage_return) run [] (b.1 && is_literal right_bracket item) (is_literal right_bracket item) b (item ∷ []) refl (sym re)
                (ap (λ (p : Bool × Bool). (p.1 && is_literal right_bracket item, is_literal right_bracket item)) g ∙ sym (ap (λ z. flags z) i ∙ brackets_snoc others item s.two s.last)))))
                i

        entered_on : Before
        entered_on = elim (last_in t.front final.next.run (enters_as cs) e grown) [
          | in_run run re q ↦ on_run run re q
          | in_front re q ↦ on_token re t.front final.items (by_last syntax (subst (λ z. Spelled syntax t.front (next_of (values z) None) final.items) re t.spelled)) q refl h.fine
        ]

    byte_before : Before
    byte_before = by (last_of t.part) (last_of t.characters)
      where
        in_char : t.part ≡ [] → (cs : List ℕ) (c : ℕ) → t.characters ≡ cs ++ c ∷ [] → Last (encode c) → Before
        in_char pe cs c ce (no_last z) = absurd (omega (arith, ap length z, length-encode c, len_positive c))
        in_char pe cs c ce (a_last part x form) =
            by_test {G = Before} (passes (s.started || has_character cs) (ends_in_return s.after_return cs) c) (λ p. passed_on cs c ce pe part x form p) (λ p. entered_on cs c ce pe part x form p)

        by : Last t.part → Last t.characters → Before
        by (a_last part x e) _ = held part x e
        by (no_last pe) (a_last cs c ce) = in_char pe cs c ce (last_of (encode c))
        by (no_last pe) (no_last ce) = absurd (not_none bytes byte (t.are ∙ (ap (λ y. encodes y ++ t.part) ce ∙ pe)))

  abbrev Scans : List ℕ → Type 0
  Scans bytes = (final : Scanned) → ScanSpells syntax limits spot s bytes final → scan_from syntax limits spot s bytes ≡ Ok final

  -- nothing is spelled by no bytes
  no_tokens : (front run : List PlacedCharacter) {next : Option ℕ} {items : List Item} → Spelled syntax front next items → front ++ run ≡ [] → (run ≡ []) × (items ≡ [])
  no_tokens _ run no_more e = (e, refl)
  no_tokens _ run (one c r rest item sp f l more) e = absurd (cc)

  from_none : TokensAreWhole s → Scans []
  from_none b final t = by t.characters t.part t.are refl refl
    where
      by : (cs part : List ℕ) → [] ≡ encodes cs ++ part → t.characters ≡ cs → t.part ≡ part → scan_from syntax limits spot s [] ≡ Ok final
      by (c ∷ cs) part e ce pe = absurd (omega (arith, ap length e, length-append (encodes (c ∷ cs)) part, length-append (encode c) (encodes cs), length-encode c, len_positive c))
      by [] part e ce pe =
          let n = no_tokens t.front final.next.run t.spelled (t.read ∙ (ap enters_as ce ∙ none_entered s.started s.after_return s.at)) in
          let at_is : s.at ≡ s.at + 0 = omega arith in
          ap (λ n. Ok (record { next = n; items = [] }))
          ((λ i. record { at = at_is i; held = b.held i; started = sym (or-false s.started) i; after_return = s.after_return; run = b.run i; two = s.two; last = s.last })
          ∙ ((λ i. there [] (sym ce i) ((e ∙ sym pe) i) (sym n.0 i) (flags (sym n.1 i))) ∙ sym (state_is syntax limits spot o s [] final t)))
          ∙ ap (λ x. Ok (record { next = final.next; items = x })) (sym n.1)

  -- one byte after another
  scans_more : (bytes rest : List ℕ) → Scans bytes → Scans (bytes ++ rest)
  scans_more bytes [] h = subst Scans (sym (append-nil bytes)) h
  scans_more bytes (byte ∷ rest) h =
      subst Scans (append_assoc bytes (byte ∷ []) rest) (scans_more (bytes ++ byte ∷ []) rest (λ final t. let b = byte_before bytes byte final t in
      on_append syntax limits spot (Ok (record { next = s; items = [] })) bytes (byte ∷ [])
      ∙ (ap (λ x. scan_on syntax limits spot x (byte ∷ [])) (h b.mid b.told) ∙ (ap (λ x. with_items b.mid.next b.mid.items x) b.reads ∙ ap (λ x. Ok (record { next = final.next; items = x })) (sym b.are)))))

  pub spelled_back : TokensAreWhole s → (bytes : List ℕ) → Scans bytes
  spelled_back b bytes = scans_more [] bytes (from_none b)

refused_back : (syntax : Syntax) (limits : Limits) (spot : Spot) (s : Scanning) (bytes : List ℕ) (fault : Fault) → occurs syntax spot.inside ≡ true → TokensAreWhole s → FirstFault syntax limits spot s bytes fault → scan_from syntax limits spot s bytes ≡ Err fault
refused_back syntax limits spot s bytes fault o b f =
    ap (λ x. scan_from syntax limits spot s x) f.are
    ∙ (on_append syntax limits spot (Ok (record { next = s; items = [] })) f.front (f.byte ∷ f.rest)
    ∙ (ap (λ x. scan_on syntax limits spot x (f.byte ∷ f.rest)) (spelled_back syntax limits spot o s b f.front f.scanned f.spells)
    ∙ (ap (λ x. scan_on syntax limits spot (with_items f.scanned.next f.scanned.items x) f.rest) (refused_read syntax limits spot f.scanned.next f.byte o (pending_goes syntax spot.inside (values f.scanned.next.run) f.spells.pending) f.refuses)
    ∙ (scan_fault syntax limits spot (fault_in f.scanned.next fault.kind) f.rest ∙ ap (λ x. Err x) same))))
  where
    at : f.scanned.next.at ≡ fault.at
    at = f.spells.at_is ∙ sym f.at_is

    same : fault_in f.scanned.next fault.kind ≡ fault
    same = λ i. record { kind = fault.kind; token = sym f.token_is i; at = at i }

pub scans_what_is_spelled : ScansWhatIsSpelled
scans_what_is_spelled syntax limits spot s bytes scanned i b =
    (λ h. all_so syntax limits spot s bytes (Ok scanned) i b h, λ sp. spelled_back syntax limits spot (sym (same_content syntax spot.inside) ∙ i) s b bytes scanned sp)

pub refuses_what_is_faulty : RefusesWhatIsFaulty
refuses_what_is_faulty syntax limits spot s bytes fault i b =
    (λ h. all_so syntax limits spot s bytes (Err fault) i b h, λ f. refused_back syntax limits spot s bytes fault (sym (same_content syntax spot.inside) ∙ i) b f)
