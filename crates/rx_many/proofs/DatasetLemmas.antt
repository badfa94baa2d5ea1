-- What the document of several pages denotes.
use Rattle.rx_many.proofs.Common.{◌≡◌, ◌⊎◌, ℕ, zero, suc, ◌+◌, ◌<◌, ◌^◌, Bool, true, false, List, [], ◌∷◌, ◌++◌, flat_map, codes, Some, refl, sym, ap, ap₂, ◌∙◌, inl, inr, subst, arith, if◌then◌else◌, chars, Chars, Among, contains, Node, Iri, Blank, Term, Resource, Literal, Triple, blank_of_node, blank_of_term, blanks_of, place_in, rename_node, rename_term, rename, Fault, without_fragment, WritableText, lacks, lacks_append, lacks_any, Gives, HasBlank, GivesQuad, DenotesPages, QuadLine, PageBlank, comment, statement, statement_at, at_place, lines_by, lines_of, lines_from, line_blanks, same_blank, blank_table, rename_line, numbered_lines, same_line, kept_after, distinct_lines, JudgedPage, Judgement, refused, accepted, accepted_page, WritableComment, WritableLine, SpellsLines, comment_text, dataset_line, kind_name}
use Rattle.rx_model.proofs.Common.{chars-encodes, line_feed, is_forbidden, decimal, decimal_is_IsNumeral, Among_cases, Among_left, Among_right, Among_map, Among_of_map, Among_flat_map, Among_of_flat_map, Among_distinct, place_tells}
use Rattle.rx_pieces.proofs.Scalars.{joined, literally}
use Rattle.rx_nquads.specs.Quads.{Quad, quad_of}
use Rattle.rx_nquads.specs.Document.{Nquads}
use Rattle.rx_nquads.proofs.OneMeaning.{digits_lack}
use Rattle.rx_nquads.proofs.Denoting.{line_writable}
use Rattle.rx_nquads.proofs.Joining.{denotes_none, denotes_comment, denotes_line, denotes_both}
use Rattle.rx_many.proofs.CommentLemmas.{names, ascii_decimal}
use Rattle.rx_many.proofs.FreshLemmas.{contained, GivenHere, line_here}
use Rattle.rx_many.proofs.KeyLemmas.{exact_blanks}
use Rattle.rx_many.proofs.PageLemmas.{triple_blanks, twice}

-- ---- a line

abbrev pub line_quad : QuadLine ℕ → List Quad
line_quad (comment address fault) = []
line_quad (statement name t) = quad_of (Some name) t ∷ []

number_lacks : (n : ℕ) → n < 2 ^ 64 → lacks line_feed (decimal n) ≡ true
number_lacks n fits = digits_lack line_feed refl (decimal n) (decimal_is_IsNumeral n fits).0.1

comment_lacks : (address : Chars) (fault : Fault) → WritableComment address fault → lacks line_feed (comment_text address fault) ≡ true
comment_lacks address fault w =
    let last : Chars = codes " of " ++ address in
    let token : Chars = decimal fault.token ++ last in
    let behind : Chars = codes " in token " ++ token in
    let at : Chars = decimal fault.at ++ behind in
    let place : Chars = codes " at byte " ++ at in
    lacks_append line_feed (codes "# refused: ") (kind_name fault.kind ++ place) refl
    (lacks_append line_feed (kind_name fault.kind) place (names fault.kind).1
    (lacks_append line_feed (codes " at byte ") at refl
    (lacks_append line_feed (decimal fault.at) behind (number_lacks fault.at w.at)
    (lacks_append line_feed (codes " in token ") token refl
    (lacks_append line_feed (decimal fault.token) last (number_lacks fault.token w.token)
    (lacks_append line_feed (codes " of ") address refl (lacks_any is_forbidden line_feed refl address w.iri.is_iri.clean)))))))

line_denotes : (l : QuadLine ℕ) → WritableLine l → Nquads (dataset_line l) (line_quad l)
line_denotes (comment address fault) w =
    denotes_comment (codes " refused: " ++ (kind_name fault.kind ++ (codes " at byte " ++ (decimal fault.at ++ (codes " in token " ++ (decimal fault.token ++ (codes " of " ++ address))))))) (comment_lacks address fault w)
line_denotes (statement name t) w = denotes_line (Some name) t w

comment_writable : (address : Chars) (fault : Fault) → WritableComment address fault → WritableText (dataset_line (comment address fault))
comment_writable address fault w =
    joined
    (joined (literally (codes "# refused: ") refl) (joined (literally (kind_name fault.kind) (names fault.kind).0) (joined (literally (codes " at byte ") refl)
    (joined (literally (decimal fault.at) (ascii_decimal fault.at w.at)) (joined (literally (codes " in token ") refl)
    (joined (literally (decimal fault.token) (ascii_decimal fault.token w.token)) (joined (literally (codes " of ") refl) w.iri.text)))))))
    (literally (codes "\n") refl)

text_writable : (l : QuadLine ℕ) → WritableLine l → WritableText (dataset_line l)
text_writable (comment address fault) w = comment_writable address fault w
text_writable (statement name t) w = line_writable (Some name) t w

-- ---- lines

lines_denote : (lines : List (QuadLine ℕ)) → ((l : QuadLine ℕ) → Among lines l → WritableLine l) → Nquads (flat_map dataset_line lines) (flat_map line_quad lines)
lines_denote [] w = denotes_none
lines_denote (l ∷ lines) w = denotes_both (dataset_line l) (flat_map dataset_line lines) (line_quad l) (flat_map line_quad lines) (line_denotes l (w l (inl refl))) (lines_denote lines (λ m h. w m (inr h)))

texts_writable : (lines : List (QuadLine ℕ)) → ((l : QuadLine ℕ) → Among lines l → WritableLine l) → WritableText (flat_map dataset_line lines)
texts_writable [] w = literally [] refl
texts_writable (l ∷ lines) w = joined (text_writable l (w l (inl refl))) (texts_writable lines (λ m h. w m (inr h)))

-- ---- what is kept is all that is stated

here_or_earlier : (earlier lines : List (QuadLine ℕ)) (y x : QuadLine ℕ) → y ≡ x → Among earlier x ⊎ Among (kept_after earlier (y ∷ lines)) x
here_or_earlier earlier lines y x e = subst (λ (z : QuadLine ℕ). Among earlier z ⊎ Among (kept_after earlier (y ∷ lines)) z) e (go (contains same_line earlier y) refl)
  where
    go : (b : Bool) → contains same_line earlier y ≡ b → Among earlier y ⊎ Among ((if b then [] else y ∷ []) ++ kept_after (earlier ++ y ∷ []) lines) y
    go true e = inl (contained earlier y e)
    go false e = inr (inl refl)

all_kept : (earlier lines : List (QuadLine ℕ)) (x : QuadLine ℕ) → Among lines x → Among earlier x ⊎ Among (kept_after earlier lines) x
all_kept earlier [] x m = absurd m
all_kept earlier (y ∷ lines) x (inl e) = here_or_earlier earlier lines y x e
all_kept earlier (y ∷ lines) x (inr m) = elim (all_kept (earlier ++ y ∷ []) lines x m) [
  | inl k ↦ elim (Among_cases earlier (y ∷ []) x k) [
    | inl h ↦ inl h
    | inr h ↦ elim h [ inl e ↦ here_or_earlier earlier lines y x e | inr n ↦ absurd n ]
  ]
  | inr k ↦ inr (Among_right (if contains same_line earlier y then [] else y ∷ []) (kept_after (earlier ++ y ∷ []) lines) x k)
]

kept_among : (earlier lines : List (QuadLine ℕ)) (x : QuadLine ℕ) → Among (kept_after earlier lines) x → Among lines x
kept_among earlier [] x m = absurd m
kept_among earlier (y ∷ lines) x m =
    elim (Among_cases (if contains same_line earlier y then [] else y ∷ []) (kept_after (earlier ++ y ∷ []) lines) x m) [
      | inl k ↦ one (contains same_line earlier y) k
      | inr k ↦ inr (kept_among (earlier ++ y ∷ []) lines x k)
    ]
  where
    one : (b : Bool) → Among (if b then [] else y ∷ []) x → Among (y ∷ lines) x
    one true n = absurd n
    one false (inl e) = inl e
    one false (inr n) = absurd n

-- ---- what the pages give, and their lines

gives_line : (start : ℕ) (pages : List JudgedPage) (place : ℕ) (name : Chars) (t : Triple ℕ) → Gives pages place name t → Among (lines_from start pages) (statement_at (start + place) name t)
gives_line start [] place name t g = absurd (let none = g.at in cc)
gives_line start (page ∷ pages) zero name t g =
    let same : page ≡ accepted_page g.address g.triples = (let it = g.at in cc) in
    let here : start ≡ start + 0 = omega arith in
    let among : Among (lines_of start (accepted_page g.address g.triples)) (statement_at start (without_fragment g.address) t) = Among_map (statement_at start (without_fragment g.address)) g.triples t g.given in
    let line : statement_at start (without_fragment g.address) t ≡ statement_at (start + 0) name t = ap₂ (λ n m. statement_at n m t) here (sym g.named) in
    Among_left (lines_of start page) (lines_from (suc start) pages) (statement_at (start + 0) name t)
    (subst (λ (z : JudgedPage). Among (lines_of start z) (statement_at (start + 0) name t)) (sym same) (subst (λ (z : QuadLine PageBlank). Among (lines_of start (accepted_page g.address g.triples)) z) line among))
gives_line start (page ∷ pages) (suc place) name t g =
    let there : suc start + place ≡ start + suc place = omega arith in
    let less : Gives pages place name t = record { address = g.address; triples = g.triples; at = g.at; named = g.named; given = g.given } in
    Among_right (lines_of start page) (lines_from (suc start) pages) (statement_at (start + suc place) name t)
    (subst (λ (n : ℕ). Among (lines_from (suc start) pages) (statement_at n name t)) there (gives_line (suc start) pages place name t less))

-- the triple that a line states is given by a page
record GivenBy (start : ℕ) (pages : List JudgedPage) (name : Chars) (u : Triple PageBlank) : Type 0 where
  place : ℕ
  triple : Triple ℕ
  gives : Gives pages place name triple
  is : u ≡ rename (at_place (start + place)) triple

line_given : (start : ℕ) (pages : List JudgedPage) (name : Chars) (u : Triple PageBlank) → Among (lines_from start pages) (statement name u) → GivenBy start pages name u
line_given start [] name u m = absurd m
line_given start (page ∷ pages) name u m =
    elim (Among_cases (lines_of start page) (lines_from (suc start) pages) (statement name u) m) [
      | inl k ↦ first (line_here start page.address page.judgement name u k)
      | inr k ↦ later (line_given (suc start) pages name u k)
    ]
  where
    first : GivenHere start page.address page.judgement name u → GivenBy start (page ∷ pages) name u
    first h =
        let same : page ≡ accepted_page page.address h.triples = (let j = h.accepts in λ i. record { address = page.address; judgement = j i }) in
        let here : start ≡ start + 0 = omega arith in
        record {
          place = 0;
          triple = h.triple;
          gives = record { address = page.address; triples = h.triples; at = ap Some same; named = h.named; given = h.given };
          is = h.is ∙ ap (λ n. rename (at_place n) h.triple) here;
        }

    later : GivenBy (suc start) pages name u → GivenBy start (page ∷ pages) name u
    later g =
        let there : suc start + g.place ≡ start + suc g.place = omega arith in
        record {
          place = suc g.place;
          triple = g.triple;
          gives = record { address = g.gives.address; triples = g.gives.triples; at = g.gives.at; named = g.gives.named; given = g.gives.given };
          is = g.is ∙ ap (λ n. rename (at_place n) g.triple) there;
        }

-- ---- blank nodes that are renamed

blank_renamed : (f : ℕ → PageBlank) (t : Triple ℕ) (b : ℕ) → Among (blanks_of t) b → Among (blanks_of (rename f t)) (f b)
blank_renamed f t b m = subst (λ (z : List PageBlank). Among z (f b)) (sym (triple_blanks f t)) (Among_map f (blanks_of t) b m)

-- ---- the document

module _ (pages : List JudgedPage) where
  name_of_blank : ℕ → ℕ → ℕ
  name_of_blank place blank = place_in same_blank (blank_table (lines_from 0 pages)) (at_place place blank)

  stands_first : (place : ℕ) (name : Chars) (t : Triple ℕ) → Gives pages place name t → Among (lines_from 0 pages) (statement_at place name t)
  stands_first place name t g =
      let here : 0 + place ≡ place = omega arith in
      subst (λ (n : ℕ). Among (lines_from 0 pages) (statement_at n name t)) here (gives_line 0 pages place name t g)

  in_table : (place blank : ℕ) → HasBlank pages place blank → Among (blank_table (lines_from 0 pages)) (at_place place blank)
  in_table place blank h =
      Among_distinct same_blank exact_blanks (flat_map line_blanks (lines_from 0 pages)) (at_place place blank)
      (Among_flat_map line_blanks (lines_from 0 pages) (statement_at place h.name h.triple) (at_place place blank) (stands_first place h.name h.triple h.gives)
      (blank_renamed (at_place place) h.triple blank h.has))

  apart : (place blank other_place other : ℕ) → HasBlank pages place blank → HasBlank pages other_place other → name_of_blank place blank ≡ name_of_blank other_place other → (place ≡ other_place) × (blank ≡ other)
  unfolding name_of_blank
  apart place blank other_place other h k e =
      let same : at_place place blank ≡ at_place other_place other = place_tells same_blank exact_blanks (blank_table (lines_from 0 pages)) (at_place place blank) (at_place other_place other) (in_table place blank h) (in_table other_place other k) e in
      (ap (λ (b : PageBlank). b.0) same, ap (λ (b : PageBlank). b.1) same)

  quad_written : (q : Quad) → GivesQuad pages name_of_blank q → Among (flat_map line_quad (distinct_lines (numbered_lines (lines_from 0 pages)))) q
  unfolding name_of_blank
  quad_written q g =
      let p : PageBlank → ℕ = place_in same_blank (blank_table (lines_from 0 pages)) in
      let x : QuadLine ℕ = statement g.name (rename p (rename (at_place g.place) g.triple)) in
      let there : Among (numbered_lines (lines_from 0 pages)) x = Among_map (rename_line p) (lines_from 0 pages) (statement_at g.place g.name g.triple) (stands_first g.place g.name g.triple g.gives) in
      let is : quad_of (Some g.name) (rename p (rename (at_place g.place) g.triple)) ≡ q = ap (quad_of (Some g.name)) (twice (at_place g.place) p g.triple) ∙ sym g.is in
      Among_flat_map line_quad (distinct_lines (numbered_lines (lines_from 0 pages))) x q (kept_all (numbered_lines (lines_from 0 pages)) x there) (inl is)
    where
      kept_all : (lines : List (QuadLine ℕ)) (x : QuadLine ℕ) → Among lines x → Among (distinct_lines lines) x
      kept_all lines x m = elim (all_kept [] lines x m) [ inl n ↦ absurd n | inr k ↦ k ]

  given_of : (name : Chars) (u : Triple ℕ) (q : Quad) (l : QuadLine PageBlank) → Among (lines_from 0 pages) l → rename_line (place_in same_blank (blank_table (lines_from 0 pages))) l ≡ statement name u → quad_of (Some name) u ≡ q → GivesQuad pages name_of_blank q
  unfolding name_of_blank
  given_of name u q (comment a f) m e is = absurd (cc)
  given_of name u q (statement n t) m e is =
      let p : PageBlank → ℕ = place_in same_blank (blank_table (lines_from 0 pages)) in
      let g = line_given 0 pages n t m in
      let here : 0 + g.place ≡ g.place = omega arith in
      let names_same : n ≡ name = cc in
      let triples_same : rename p t ≡ u = cc in
      let whole : u ≡ rename (λ b. p (at_place g.place b)) g.triple = sym triples_same ∙ ap (rename p) (g.is ∙ ap (λ k. rename (at_place k) g.triple) here) ∙ twice (at_place g.place) p g.triple in
      record { place = g.place; name = n; triple = g.triple; gives = g.gives; is = sym is ∙ ap₂ (λ m v. quad_of (Some m) v) (sym names_same) whole }

  quad_given : (q : Quad) → Among (flat_map line_quad (distinct_lines (numbered_lines (lines_from 0 pages)))) q → GivesQuad pages name_of_blank q
  quad_given q m = let s = Among_of_flat_map line_quad (distinct_lines (numbered_lines (lines_from 0 pages))) q m in by s.0 s.1 s.2
    where
      by : (l : QuadLine ℕ) → Among (distinct_lines (numbered_lines (lines_from 0 pages))) l → Among (line_quad l) q → GivesQuad pages name_of_blank q
      by (comment a f) k n = absurd n
      by (statement name u) k (inr n) = absurd n
      by (statement name u) k (inl e) =
          let s = Among_of_map (rename_line (place_in same_blank (blank_table (lines_from 0 pages)))) (lines_from 0 pages) (statement name u) (kept_among [] (numbered_lines (lines_from 0 pages)) (statement name u) k) in
          given_of name u q s.0 s.1 s.2 e

  pub denotes_pages : (text : List ℕ) → SpellsLines text (numbered_lines (lines_from 0 pages)) → DenotesPages (chars text) pages
  denotes_pages text k =
      let lines : List (QuadLine ℕ) = distinct_lines (numbered_lines (lines_from 0 pages)) in
      let whole : Chars = flat_map dataset_line lines in
      let read : chars text ≡ whole = ap chars k.spelled ∙ chars-encodes whole (texts_writable lines k.writable).scalars in
      record {
        to = name_of_blank;
        one_to_one = apart;
        quads = flat_map line_quad lines;
        denotes = subst (λ (z : Chars). Nquads z (flat_map line_quad lines)) (sym read) (lines_denote lines k.writable);
        each = λ q. (quad_given q, quad_written q);
      }
