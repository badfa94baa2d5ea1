-- Unfinished characters go on, and faults are decided as the tables say, both ways.
use Rattle.rx_pages.proofs.Words.{◌≡◌, ◌≢◌, ◌∙◌, ℕ, Bool, true, false, List, [], ◌∷◌, ◌++◌, Option, Some, None, refl, ap, sym, subst, inl, inr, ◌⊎◌, ◌&&◌, codes, Err, Chars, split, Syntax, Html, Xhtml, same, is_among, name_of_raw, Token, tag, doctype, in_html, inside_html, html_in_svg, Place, raw_place, raw_names, rcdata_names, inside_at, place_inside, has_markup, raw_name, Spells, keeps_runs, a_doctype, begins, begins_tag, Item, Line, inside_of, Phase, before, Content, RawName, Kind, reads_on, Unfinished, tag_rows, first_row, Faulty, token_begun, tag_begun, run_begun, opening_begun, no_markup, in_comment, section_end, no_doctype, late_doctype, outside_text, outside_less_than, outside_section, at_tag, Nesting, Step, unless_refused, tag_passes, doctype_step, step_by, nest_step, IsAt, CharactersGoOn, ReadAs, at_last, at_next, Decides, by_character, by_token, by_section_end, UnfinishedGoesOn, SpellsEachToken, FaultsAreDecided, append-nil}
use Rattle.rx_grammar.specs.PageFaults.{in_tag, in_run}
use Rattle.rx_grammar.specs.declared.contents.Content.TheVariants as content
use Rattle.rx_grammar.specs.declared.faults.Kind.TheVariants as kind
use Rattle.rx_pages.proofs.Spellings.{reads_each}
use Rattle.rx_pages.proofs.Texts.{run_goes}
use Rattle.rx_pages.proofs.Openings.{opening_goes, refuses_opening}
use Rattle.rx_pages.proofs.DoctypeFaults.{refuses_doctype}
use Rattle.rx_pages.proofs.Pends.{occurs}
use Rattle.rx_pages.proofs.PendsOn.{pends, unfinished, spells_read, faulty_read}
use Rattle.rx_pages.proofs.Below.{same_is, begun_goes, IsRefused, refuses_run, refuses_comment, refuses_text, refuses_less_than, refuses_section, tag_refused, front_goes, known}

-- Inside of an element of this name the content is one of the syntax, with tags, or with the element's own end tag alone.
abbrev pub IsEndable : Chars → Place → Type 0
IsEndable name place = (has_markup place.content ≡ true) ⊎ (raw_name place.content ≡ Some name)

abbrev Fits : Chars → Place → Type 0
Fits name place = (occurs Html place.content ≡ true) × IsEndable name place

raw_fits : (as_content : RawName → Content) → ((r : RawName) → (occurs Html (as_content r) ≡ true) × (raw_name (as_content r) ≡ Some (name_of_raw r))) → (names : List RawName) (name : Chars) (other : Place) → Fits name other → Fits name (raw_place as_content names name other)
raw_fits as_content f [] name other h = h
raw_fits as_content f (r ∷ names) name other h =
    split (Fits name) (same name (name_of_raw r)) _ _ (λ e. ((f r).0, inr ((f r).1 ∙ ap (λ x. Some x) (sym (same_is name (name_of_raw r) e))))) (λ e. raw_fits as_content f names name other h)

html_fits : (name : Chars) → Fits name (inside_html name)
html_fits name =
    split (Fits name) (same name (codes "svg")) _ _ (λ e. (refl, inl refl))
    (λ e. split (Fits name) (same name (codes "math")) _ _ (λ f. (refl, inl refl))
    (λ f. raw_fits content.Raw (λ r. (refl, refl)) raw_names name _ (raw_fits content.Rcdata (λ r. (refl, refl)) rcdata_names name in_html (refl, inl refl))))

inside_fits : (c : Content) (in_svg : Bool) (name : Chars) → Fits name (inside_at c in_svg name)
inside_fits content.Foreign in_svg name = split (Fits name) (in_svg && is_among html_in_svg name) _ _ (λ e. (refl, inl refl)) (λ e. (refl, inl refl))
inside_fits _ in_svg name = html_fits name

pub endable : (s : Syntax) (place : Place) (name : Chars) → IsEndable name (place_inside s place name)
endable Html place name = (inside_fits place.content place.in_svg name).1
endable Xhtml place name = inl refl

pub inside_occurs : (s : Syntax) (line : Line) → occurs s (inside_of s line).content ≡ true
inside_occurs Xhtml [] = refl
inside_occurs Html (t ∷ above) = (inside_fits (inside_of Html above).content (inside_of Html above).in_svg t.name).0
inside_occurs _ _ = refl

-- what is unfinished goes on
pub goes : (s : Syntax) (i : Content) (run : Chars) → Unfinished s i run → CharactersGoOn s i [] run
goes s i _ (token_begun c d run rest {next = next} token sp) = begun_goes s i (c ∷ run) d rest next token sp
goes s i _ (tag_begun text h b) = front_goes s i text (known s i text h) text [] (sym (append-nil text)) (reads_on s text b)
goes s i _ (run_begun run r b) = run_goes s i run r b
goes s i _ (opening_begun text z m b) = subst (λ x. CharactersGoOn x i [] (60 ∷ text)) (sym z) (opening_goes i m text b)

pub unfinished_goes_on : UnfinishedGoesOn
unfinished_goes_on s line c run =
    let i = (inside_of s line).content in
    (λ u. goes s i (c ∷ run) u, λ g. unfinished s i (inside_occurs s line) (pends s i (inside_occurs s line) (c ∷ run) g) (λ e. cc))

pub spells_each_token : SpellsEachToken
spells_each_token s line text next token r = spells_read s (inside_of s line).content (inside_occurs s line) text next token r

pub strict_keeps : (i : Content) → occurs Xhtml i ≡ true → keeps_runs i ≡ false
strict_keeps content.Outside o = refl
strict_keeps content.Strict o = refl
strict_keeps _ o = absurd (cc)

abbrev at_place : Line → Phase → Nesting
at_place line phase = record { line = line; phase = phase; drops = false }

abbrev an_item : Token → Content → Item
an_item token inside = record { token = token; content = inside; first = 0; last = 0 }

late : (phase : Phase) → phase ≢ before false → doctype_step phase ≡ Err kind.BadDoctype
late (before false) n = absurd (n refl)
late _ n = refl

-- the row that refuses
pub refused_row : (o : Option Kind) (step : Step) (found : Kind) → unless_refused o step ≡ Err found → o ≡ Some found
refused_row None step found h = absurd (cc)
refused_row (Some k) step found h = let q : k ≡ found = cc in ap Some q

pub not_first : (found : Kind) (p : Phase) → doctype_step p ≡ Err found → (found ≡ kind.BadDoctype) × (p ≢ before false)
not_first found (before false) h = absurd (cc)
not_first found _ h = (cc, λ e. cc)

module _ (s : Syntax) (depth : ℕ) (items : List Item) (line : Line) (phase : Phase) (i : Content) (o : occurs s i ≡ true) where
  abbrev D : Kind → Chars → Type 0
  D found chars = Decides s depth items line phase i found chars

  refused_so : (found : Kind) (chars : Chars) → IsRefused s i found chars → D found chars
  refused_so found chars r = subst (D found) (sym r.are) (by_character r.front r.c r.go r.refuses)

  -- a token that nothing has to follow is whole at its last character
  whole_so : (found : Kind) (chars : Chars) (token : Token) → ReadAs s i chars None token → nest_step s depth (at_place line phase) (an_item token i) ≡ Err found → D found chars
  whole_so found chars token r h = by chars None token r refl refl
    where
      by : (x : Chars) (n : Option ℕ) (t : Token) → ReadAs s i x n t → n ≡ None → t ≡ token → D found x
      by _ _ _ (at_last run c t g v) e q = by_token run c (at_place line phase) (an_item t i) g v (record { line_is = refl; phase_is = refl }) (subst (λ y. nest_step s depth (at_place line phase) (an_item y i) ≡ Err found) (sym q) h)
      by _ _ _ (at_next x c t g v) e q = absurd (cc)

  strict : s ≡ Xhtml → keeps_runs i ≡ false
  strict z = strict_keeps i (subst (λ x. occurs x i ≡ true) z o)

  decided : {found : Kind} {chars : Chars} → Faulty s depth items line phase i found chars → D found chars
  decided {found = found} (in_tag text h f) = refused_so found _ (tag_refused s i text found h f)
  decided (no_markup text c z m b n t) = refused_so kind.BadTag _ (subst (λ x. IsRefused x i kind.BadTag (60 ∷ (text ++ c ∷ []))) (sym z) (refuses_opening i m text c b n (subst (λ x. begins (begins_tag x) (text ++ c ∷ []) ≡ false) z t)))
  decided {found = found} (in_run run r f) = refused_so found _ (refuses_run s i r strict found run f)
  decided (in_comment text c z m f n) = refused_so kind.StrictText _ (subst (λ x. IsRefused x i kind.StrictText (60 ∷ (codes "!--" ++ (text ++ c ∷ [])))) (sym z) (refuses_comment i m text c f n))
  decided (section_end e b) = by_section_end e b
  decided (no_doctype word text c m w b n) = refused_so kind.BadDoctype _ (refuses_doctype s i m word text c w b n)
  decided (late_doctype text m d n) = whole_so kind.BadDoctype _ doctype (reads_each s i (60 ∷ 33 ∷ text) None doctype (a_doctype text m d)) (late phase n)
  decided (outside_text c e w n) = refused_so kind.Outside _ (subst (λ x. IsRefused s x kind.Outside (c ∷ [])) (sym e) (refuses_text s c w n))
  decided (outside_less_than c z e b) = refused_so kind.Outside _ (subst (λ y. IsRefused y i kind.Outside (60 ∷ c ∷ [])) (sym z) (subst (λ x. IsRefused Html x kind.Outside (60 ∷ c ∷ [])) (sym e) (refuses_less_than c b)))
  decided (outside_section z e) = refused_so kind.Outside _ (subst (λ y. IsRefused y i kind.Outside (codes "<![CDATA[")) (sym z) (subst (λ x. IsRefused Xhtml x kind.Outside (codes "<![CDATA[")) (sym e) refuses_section))
  decided {found = found} (at_tag chars t sp h) = whole_so found chars (tag t) (reads_each s i chars None (tag t) sp) (ap (λ x. unless_refused x (tag_passes s line (an_item (tag t) i) t)) h)

  -- a document type that doesn't stand first
  doctype_inside : (chars : Chars) (token : Token) → Spells s i chars None token → token ≡ doctype → phase ≢ before false → Faulty s depth items line phase i kind.BadDoctype chars
  doctype_inside _ _ (a_doctype text m d) e n = late_doctype text m d n
  doctype_inside _ _ _ e n = absurd (cc)

  at_line : (found : Kind) (item : Item) (n : Nesting) (chars : Chars) (token : Token) → item.token ≡ token → IsAt line phase n → Spells s i chars None token → step_by s depth n item token ≡ Err found → Faulty s depth items line phase i found chars
  at_line found item n chars (tag t) q at sp h =
      at_tag chars t sp (ap (λ l. first_row (tag_rows s depth l phase t)) (sym at.line_is) ∙ (ap (λ p. first_row (tag_rows s depth n.line p t)) (sym at.phase_is) ∙ refused_row _ (tag_passes s n.line item t) found h))
  at_line found item n chars doctype q at sp h =
      let k = not_first found n.phase h in
      subst (λ x. Faulty s depth items line phase i x chars) (sym k.0) (doctype_inside chars doctype sp refl (λ e. k.1 (at.phase_is ∙ e)))
  at_line found item n chars _ q at sp h = absurd (cc)

  faulty : {found : Kind} {chars : Chars} → D found chars → Faulty s depth items line phase i found chars
  faulty {found = found} (by_character run c g h) = faulty_read s i o run c found g h depth items line phase
  faulty {found = found} (by_token run c n item g v at h) = at_line found item n (run ++ c ∷ []) item.token refl at (spells_read s i o (run ++ c ∷ []) None item.token (at_last run c item.token g v)) h
  faulty (by_section_end e b) = section_end e b

pub faults_are_decided : FaultsAreDecided
faults_are_decided s depth items line phase found chars =
    let i = (inside_of s line).content in
    (λ f. decided s depth items line phase i (inside_occurs s line) f, λ d. faulty s depth items line phase i (inside_occurs s line) d)
