-- The seeking knows the base exactly over the bytes of which a front decides it.
use Rattle.rx_pages.proofs.Common.{⊎_elim, ◌≡◌, ◌∙◌, ℕ, ◌+◌, ◌≤◌, Bool, true, false, List, [], ◌∷◌, ◌++◌, map, length, refl, sym, ap, subst, append_assoc, append-nil, Option, None, Result, Ok, Err, arith, if◌then◌else◌, length-map, Chars, Syntax, start_tag_of, Tree, end, element, Page, Line, Phase, Fault, Limits, closing, closed, IsWide, Event, says, spot_of, Progress, page_byte_on, page_on, page_read, no_progress, fault_stays, page_append, nothing_unfinished}
use Rattle.rx_rdfa.proofs.Common.{root_href, read_tag, tags_of}
use Rattle.std.specs.Str.{encode_utf8_all}
use Rattle.rx_pages.proofs.Closings.{fronts_close}
use Rattle.rx_nest.specs.Fronts.{Lie}
use Rattle.rx_nest.specs.ShownLines.{shown_line, open_after}
use Rattle.rx_nest.specs.Signs.{Sign, said, is_hidden, Sight, see, sees, nothing_seen, signs_of}
use Rattle.rx_nest.proofs.FaultPlacing.{page_shows}
use Rattle.rx_nest.proofs.ShownLines.{page_held}
use Rattle.rx_nest.proofs.TextSteps.{sees_append}
use Rattle.rx_nest.proofs.TagPlaces.{shows_more}
use Rattle.rx_base.specs.Lines.{line_of}
use Rattle.rx_base.specs.Seekings.{Seeking, first_child, base_child, known, seeks, sought}
use Rattle.rx_base.specs.KnownBases.{is_decided, IsKnownOver, KnowsOverBytes}
use Rattle.rx_base.proofs.Lines.{line_is, seeks_append, said_seeks}
use Rattle.rx_base.proofs.Found.{known_stays}
use Rattle.rx_base.proofs.CutTrees.{prefix, Gives, sought_cut}
use Rattle.rx_nest.proofs.WideReading.{read_wide}
use Rattle.rx_nest.proofs.Depths.{deep_or_none}
use Rattle.rx_nest.proofs.QuietReading.{AllSay}
use Rattle.rx_base.proofs.TagEnds.{Settles, settled, says_more, byte_settles}

abbrev shown : Progress → List Sign
shown p = (sees nothing_seen p.told).signs

-- with more signs what is known stays
pub known_more : (signs more : List Sign) (href : Option Chars) → sought signs ≡ known href → sought (signs ++ more) ≡ known href
known_more signs more href e =
    seeks_append [] first_child signs more ∙ (ap (λ s. seeks (line_of [] signs) s more) e ∙ known_stays (line_of [] signs) href more)

-- text is no matter
said_sought : (b : Bool) (signs : List Sign) (chars : Chars) → sought (if b then signs else signs ++ map said chars) ≡ sought signs
said_sought true signs chars = refl
said_sought false signs chars = seeks_append [] first_child signs (map said chars) ∙ said_seeks (line_of [] signs) (sought signs) chars

says_sought : (events : List Event) (sight : Sight) → AllSay events → sought (sees sight events).signs ≡ sought sight.signs
says_sought [] sight s = refl
says_sought (says chars ∷ events) sight s = says_sought events (see (says chars) sight.flags sight.signs) s ∙ said_sought (is_hidden sight.flags) sight.signs chars
says_sought _ sight s = elim s [ ]

module _ (syntax : Syntax) (limits : Limits) where
  -- ---- a front that decides the base

  abbrev wide_for : ℕ → Limits
  wide_for size = record { depth = limits.depth; tag = limits.tag + size; page = limits.page + size }

  module _ (front : List ℕ) (now : Progress) (read : page_read syntax limits front ≡ Ok now) (line : Line) (phase : Phase) (line_here : now.now.nest.line ≡ line) (tree : Tree)
      (page : (wide : Limits) → IsWide limits wide (length (closed front line phase)) → Page syntax wide (closed front line phase) tree) where
    abbrev size : ℕ
    size = length (closed front line phase)

    abbrev wide : Limits
    wide = wide_for size

    the_page : Page syntax wide (closed front line phase) tree
    the_page = page wide (record { depth = refl; tag = omega arith; page = omega arith })

    open_length : length (line_of [] (shown now)) ≡ length (shown_line syntax line)
    open_length =
        ap length (line_is [] (shown now)) ∙ (length-map (open_after [] (shown now)) read_tag
        ∙ (ap length (page_held syntax limits front now read).marks.open_are ∙ ap (λ x. length (shown_line syntax x)) line_here))

    front_gives : Gives (is_decided (length front) (length (shown_line syntax line)) tree) (root_href (tags_of tree)) (sought (shown now))
    front_gives =
        let d = the_page.document in
        let p = page_shows syntax wide (closed front line phase) tree the_page in
        let here : page_read syntax wide front ≡ Ok now = read_wide syntax limits wide refl (omega arith) (omega arith) front now read in
        let more = shows_more syntax wide front (encode_utf8_all (closing line phase)) now p.final here p.read in
        let some = shows_more syntax limits [] front no_progress now refl read in
        let whole : shown now ++ more.signs ≡ signs_of (element (start_tag_of d.root d.t) d.inside end) = sym more.are ∙ (p.signs_are ∙ ap signs_of d.tree_is) in
        let lies : Lie 0 (length front) (shown now) = subst (λ x. Lie 0 (length front) x) (sym some.are) some.lie in
        let pre = prefix (length front) (length (closed front line phase)) (element (start_tag_of d.root d.t) d.inside end) (shown now) more.signs whole lies more.lie in
        let gives = sought_cut (length front) (start_tag_of d.root d.t) d.inside (shown now) pre in
        subst (λ n. Gives (is_decided (length front) n tree) (root_href (tags_of tree)) (sought (shown now))) open_length
        (subst (λ t. Gives (is_decided (length front) (length (line_of [] (shown now))) t) (root_href (tags_of t)) (sought (shown now))) (sym d.tree_is) gives)

  -- ---- the first front with which it is known

  pub record First (bytes : List ℕ) (href : Option Chars) : Type 0 where
    pub front : List ℕ
    pub rest : List ℕ
    pub are : bytes ≡ front ++ rest
    pub now : Progress
    pub read : page_read syntax limits front ≡ Ok now
    pub run : now.now.scan.run ≡ []
    pub held : now.now.scan.held ≡ []
    pub is : sought (shown now) ≡ known href

  abbrev Unknown : Progress → Type 0
  Unknown p = (href : Option Chars) → sought (shown p) ≡ known href → ⊥

  find : (rest init : List ℕ) (p q : Progress) (href : Option Chars) → page_read syntax limits init ≡ Ok p → Unknown p → page_on syntax limits (Ok p) rest ≡ Ok q → sought (shown q) ≡ known href → First (init ++ rest) href
  find [] init p q href r none e k = absurd (none href (let is : p ≡ q = cc in ap (λ (x : Progress). sought (shown x)) is ∙ k))
  find (byte ∷ rest) init p q href r none e k = by (λ x a b c. find rest (init ++ byte ∷ []) x q href a b c k) (page_byte_on syntax limits (Ok p) byte) refl e
    where
      first_read : (x : Progress) → page_byte_on syntax limits (Ok p) byte ≡ Ok x → page_read syntax limits (init ++ byte ∷ []) ≡ Ok x
      first_read x a = page_append syntax limits (spot_of syntax p.now.nest) (Ok no_progress) init (byte ∷ []) ∙ (ap (λ z. page_on syntax limits z (byte ∷ [])) r ∙ a)

      all : (init ++ byte ∷ []) ++ rest ≡ init ++ byte ∷ rest
      all = append_assoc init (byte ∷ []) rest

      here : (x : Progress) (other : Option Chars) → page_byte_on syntax limits (Ok p) byte ≡ Ok x → page_on syntax limits (Ok x) rest ≡ Ok q → sought (shown x) ≡ known other → Settles p x → First (init ++ byte ∷ rest) href
      here x other a w s (says_more events told alone) =
          absurd (none other (sym (ap (λ es. sought (sees nothing_seen es).signs) told ∙ (ap (λ (y : Sight). sought y.signs) (sees_append nothing_seen p.told events) ∙ says_sought events (sees nothing_seen p.told) alone)) ∙ s))
      here x other a w s (settled run held) =
          let read = first_read x a in
          let later : page_read syntax limits ((init ++ byte ∷ []) ++ rest) ≡ Ok q = page_append syntax limits (spot_of syntax p.now.nest) (Ok no_progress) (init ++ byte ∷ []) rest ∙ (ap (λ z. page_on syntax limits z rest) read ∙ w) in
          let more = shows_more syntax limits (init ++ byte ∷ []) rest x q read later in
          let same : known other ≡ known href = sym (ap sought more.are ∙ known_more (shown x) more.signs other s) ∙ k in
          let href_is : other ≡ href = cc in
          record { front = init ++ byte ∷ []; rest = rest; are = sym all; now = x; read = read; run = run; held = held; is = s ∙ ap (λ h. known h) href_is }

      by : ((x : Progress) → page_read syntax limits (init ++ byte ∷ []) ≡ Ok x → Unknown x → page_on syntax limits (Ok x) rest ≡ Ok q → First ((init ++ byte ∷ []) ++ rest) href)
          → (x : Result Progress Fault) → page_byte_on syntax limits (Ok p) byte ≡ x → page_on syntax limits x rest ≡ Ok q → First (init ++ byte ∷ rest) href
      by ih (Err fault) a w = absurd (let z : Err fault ≡ Ok q = sym (fault_stays syntax limits fault rest) ∙ w in cc)
      by ih (Ok x) a w = on (sought (shown x)) refl
        where
          later : Unknown x → First (init ++ byte ∷ rest) href
          later u = subst (λ b. First b href) all (ih x (first_read x a) u w)

          on : (s : Seeking) → sought (shown x) ≡ s → First (init ++ byte ∷ rest) href
          on first_child n = later (λ h m. (let z : first_child ≡ known h = sym n ∙ m in cc))
          on base_child n = later (λ h m. (let z : base_child ≡ known h = sym n ∙ m in cc))
          on (known other) n = here x other a w n (byte_settles syntax limits byte p x a)

  -- ---- both ways

  is_true : (b : Bool) (href other : Option Chars) (s : Seeking) → Gives b href s → s ≡ known other → (b ≡ true) × (href ≡ other)
  is_true true href other s g k = (refl, (let e : known href ≡ known other = sym g ∙ k in cc))
  is_true false href other s g k = absurd (g other k)

  is_so : (b : Bool) (href : Option Chars) (s : Seeking) → b ≡ true → Gives b href s → s ≡ known href
  is_so true href s e g = g
  is_so false href s e g = absurd (cc)

  has_level : (bytes : List ℕ) (href : Option Chars) (q : Progress) → page_read syntax limits bytes ≡ Ok q → sought (shown q) ≡ known href → 1 ≤ limits.depth
  has_level bytes href q r k =
      ⊎_elim (λ d. d) (λ e. (let w : first_child ≡ known href = sym (ap (λ es. sought (sees nothing_seen es).signs) e) ∙ k in absurd (cc))) (deep_or_none syntax limits bytes q r)

  pub known_over : (bytes : List ℕ) (href : Option Chars) (q : Progress) → page_read syntax limits bytes ≡ Ok q → sought (shown q) ≡ known href → IsKnownOver syntax limits bytes href
  known_over bytes href q r k =
      let f = find bytes [] no_progress q href refl (λ h m. cc) r k in
      let n = f.now.now.nest in
      let begun = (nothing_unfinished syntax limits f.front n.line n.phase).1 (record { now = f.now; read = f.read; is_at = record { line_is = refl; phase_is = refl }; run_is = f.run; part_is = f.held }) in
      let c = fronts_close syntax limits f.front None n.line n.phase (has_level bytes href q r k) begun in
      let g = is_true (is_decided (length f.front) (length (shown_line syntax n.line)) c.tree) (root_href (tags_of c.tree)) href (sought (shown f.now)) (front_gives f.front f.now f.read n.line n.phase refl c.tree c.page) f.is in
      record { front = f.front; rest = f.rest; are = f.are; line = n.line; phase = n.phase; begun = begun; tree = c.tree; page = c.page; decided = g.0; href_is = g.1 }

  pub over_known : (bytes : List ℕ) (href : Option Chars) (q : Progress) → page_read syntax limits bytes ≡ Ok q → IsKnownOver syntax limits bytes href → sought (shown q) ≡ known href
  over_known bytes href q r k =
      let t = (nothing_unfinished syntax limits k.front k.line k.phase).0 k.begun in
      let s = is_so (is_decided (length k.front) (length (shown_line syntax k.line)) k.tree) (root_href (tags_of k.tree)) (sought (shown t.now)) k.decided (front_gives k.front t.now t.read k.line k.phase t.is_at.line_is k.tree k.page) in
      let more = shows_more syntax limits k.front k.rest t.now q t.read (ap (λ b. page_read syntax limits b) (sym k.are) ∙ r) in
      ap sought more.are ∙ (known_more (shown t.now) more.signs (root_href (tags_of k.tree)) s ∙ ap (λ h. known h) k.href_is)

pub knows_over_bytes : KnowsOverBytes
knows_over_bytes syntax limits nest bytes signs href st paid =
    let here : Progress = record { now = st.at.now; told = st.told } in
    let same : shown here ≡ signs = ap (λ (x : Sight). x.signs) st.sight ∙ (ap (λ x. signs ++ x) paid ∙ append-nil signs) in
    (λ e. known_over syntax limits bytes href here st.at.read (ap sought same ∙ e), λ k. ap sought (sym same) ∙ over_known syntax limits bytes href here st.at.read k)
