-- Behind `<!` and `<?`, and in a document type, a move says what the verdict is.
use Rattle.rx_scan.proofs.Common.{◌≡◌, ◌∙◌, ℕ, Bool, true, false, [], ◌∷◌, ◌++◌, refl, ap, sym, subst, append_assoc, append-nil, eqb-true, ◌+◌, arith, Option, Some, None, length, ◌&&◌, ◌||◌, ◌==◌, if◌then◌else◌, ◌-◌, take, codes, cond-true, cond-false, nat_tests, less_than_sign, is_white_space, Chars, split, both, Syntax, same, comment, section, ends_with, ends_comment, cased_char, Content, length-append, BadDoctype, may_close, after_dash, after_bang, in_comment, after_strict_dash, after_strict, in_instruction, in_bogus, after_section, at_bracket, are_two, Pending, PendsAs, Behind, judge_of, CommentEnds, is_start, is_start_dash, has_dash, has_dashes, has_bang, StrictEnds, has_strict_dash, has_strict_dashes, SectionEnds, bracket_text, DoctypeIs, DoctypeEnds, is_one, Means, Goes, section_text}
use Rattle.rx_pages.specs.Scanner as told
use Rattle.rx_scan.specs.declared.marks.CommentPhase.{CommentPhase}
use Rattle.rx_scan.specs.declared.marks.CommentPhase.TheVariants as comments
use Rattle.rx_scan.specs.declared.marks.StrictPhase.{StrictPhase}
use Rattle.rx_scan.specs.declared.marks.StrictPhase.TheVariants as strict
use Rattle.rx_scan.specs.declared.marks.Brackets.{Brackets}
use Rattle.rx_scan.specs.declared.marks.Brackets.TheVariants as brackets
use Rattle.rx_scan.specs.declared.marks.TokenState.{TokenState}
use Rattle.rx_scan.specs.declared.marks.TokenState.TheVariants as mark
use Rattle.rx_scan.specs.declared.marks.Move.{Move}
use Rattle.rx_scan.proofs.Snoc.{snoc_same, ends_snoc, ends_one, empty_snoc, lone_snoc, either_way, head_of, word_at}
use Rattle.rx_scan.specs.declared.marks.DoctypePhase.{DoctypePhase}
use Rattle.rx_scan.specs.declared.marks.DoctypePhase.TheVariants as phases
use Rattle.rx_scan.specs.declared.marks.Whole.TheVariants as whole
use Rattle.rx_scan.specs.declared.marks.Move.TheVariants as move
use Rattle.rx_scan.specs.Marks as marks

-- what stands behind the front grows by the character
pub grown : (text front rest : Chars) (c : ℕ) → text ≡ less_than_sign ∷ (front ++ rest) → text ++ c ∷ [] ≡ less_than_sign ∷ (front ++ (rest ++ c ∷ []))
grown text front rest c e = ap (λ x. x ++ c ∷ []) e ∙ ap (λ x. less_than_sign ∷ x) (append_assoc front rest (c ∷ []))

-- the phase of a comment after one more character
abbrev next_phase : CommentPhase → ℕ → CommentPhase
next_phase p c = if c == 45 then after_dash p else if c == 33 then after_bang p else comments.Text

-- how a comment's phases follow each other, where the character is `-`, `!` or neither
record Follows (p q : CommentPhase) (dash bang : Bool) : Type 0 where
  start : is_start q ≡ false
  start_dash : (is_start p && dash) ≡ is_start_dash q
  has_dash_is : dash ≡ has_dash q
  has_dashes_is : (dash && has_dash p) ≡ has_dashes q
  has_bang_is : (bang && has_dashes p) ≡ has_bang q

follows : (dash bang : Bool) (p : CommentPhase) → (dash && bang) ≡ false → Follows p (if dash then after_dash p else if bang then after_bang p else comments.Text) dash bang
follows true true p h = absurd (cc)
follows true false comments.Start h = record { start = refl; start_dash = refl; has_dash_is = refl; has_dashes_is = refl; has_bang_is = refl }
follows false true comments.Start h = record { start = refl; start_dash = refl; has_dash_is = refl; has_dashes_is = refl; has_bang_is = refl }
follows false false comments.Start h = record { start = refl; start_dash = refl; has_dash_is = refl; has_dashes_is = refl; has_bang_is = refl }
follows _ _ _ h = record { start = refl; start_dash = refl; has_dash_is = refl; has_dashes_is = refl; has_bang_is = refl }

comment_grows : (p : CommentPhase) (rest : Chars) (c : ℕ) → CommentEnds p rest → CommentEnds (next_phase p c) (rest ++ c ∷ [])
comment_grows p rest c h =
    let f = follows (c == 45) (c == 33) p (grind (arith, nat_tests)) in
    record {
      empty = empty_snoc rest c ∙ sym f.start;
      lone = lone_snoc 45 rest c ∙ (ap (λ b. b && (c == 45)) h.empty ∙ f.start_dash);
      dash = ends_one 45 rest c ∙ (either_way 45 c ∙ f.has_dash_is);
      dashes = ends_snoc (45 ∷ []) 45 rest c ∙ (ap (λ b. b && ends_with (45 ∷ []) rest) (either_way 45 c) ∙ (ap (λ b. (c == 45) && b) h.dash ∙ f.has_dashes_is));
      bang = ends_snoc (45 ∷ 45 ∷ []) 33 rest c ∙ (ap (λ b. b && ends_with (45 ∷ 45 ∷ []) rest) (either_way 33 c) ∙ (ap (λ b. (c == 33) && b) h.dashes ∙ f.has_bang_is));
    }

comment_closes : (p : CommentPhase) (rest : Chars) (c : ℕ) → CommentEnds p rest → ends_comment (rest ++ c ∷ []) ≡ ((c == 62) && may_close p)
comment_closes p rest c h =
    ap (λ b. b || same (rest ++ c ∷ []) (codes "->") || ends_with (codes "-->") (rest ++ c ∷ []) || ends_with (codes "--!>") (rest ++ c ∷ [])) (lone_snoc 62 rest c ∙ ap (λ b. b && (c == 62)) h.empty)
    ∙ (ap (λ b. (is_start p && (c == 62)) || b || ends_with (codes "-->") (rest ++ c ∷ []) || ends_with (codes "--!>") (rest ++ c ∷ [])) (snoc_same (45 ∷ []) 62 rest c ∙ ap (λ b. b && (c == 62)) h.lone)
    ∙ (ap (λ b. (is_start p && (c == 62)) || (is_start_dash p && (c == 62)) || b || ends_with (codes "--!>") (rest ++ c ∷ [])) (ends_snoc (45 ∷ 45 ∷ []) 62 rest c ∙ (ap (λ b. b && ends_with (45 ∷ 45 ∷ []) rest) (either_way 62 c) ∙ ap (λ b. (c == 62) && b) h.dashes))
    ∙ (ap (λ b. (is_start p && (c == 62)) || (is_start_dash p && (c == 62)) || ((c == 62) && has_dashes p) || b) (ends_snoc (45 ∷ 45 ∷ 33 ∷ []) 62 rest c ∙ (ap (λ b. b && ends_with (45 ∷ 45 ∷ 33 ∷ []) rest) (either_way 62 c) ∙ ap (λ b. (c == 62) && b) h.bang))
    ∙ all (c == 62) p)))
  where
    all : (g : Bool) (p : CommentPhase) → ((is_start p && g) || (is_start_dash p && g) || (g && has_dashes p) || (g && has_bang p)) ≡ (g && may_close p)
    all true comments.Start = refl
    all false comments.Start = refl
    all _ _ = refl

abbrev next_strict : StrictPhase → ℕ → StrictPhase
next_strict q c = if c == 45 then after_strict_dash q else strict.Text

strict_grows : (q : StrictPhase) (rest : Chars) (c : ℕ) → StrictEnds q rest → has_strict_dashes q ≡ false → StrictEnds (next_strict q c) (rest ++ c ∷ [])
strict_grows q rest c h n =
    record {
      dash = ends_one 45 rest c ∙ (either_way 45 c ∙ dash (c == 45) q);
      dashes = ends_snoc (45 ∷ []) 45 rest c ∙ (ap (λ b. b && ends_with (45 ∷ []) rest) (either_way 45 c) ∙ (ap (λ b. (c == 45) && b) h.dash ∙ dashes (c == 45) q n));
    }
  where
    dash : (b : Bool) (q : StrictPhase) → b ≡ has_strict_dash (if b then after_strict_dash q else strict.Text)
    dash true strict.Text = refl
    dash _ _ = refl

    dashes : (b : Bool) (q : StrictPhase) → has_strict_dashes q ≡ false → (b && has_strict_dash q) ≡ has_strict_dashes (if b then after_strict_dash q else strict.Text)
    dashes true strict.Dashes n = absurd (cc)
    dashes _ _ n = refl

bracket_ends : (b next : Brackets) (kept more rest : Chars) → SectionEnds b kept rest → rest ++ 93 ∷ [] ≡ more ++ bracket_text next → true ≡ is_one next → is_one b ≡ are_two next → SectionEnds next more (rest ++ 93 ∷ [])
bracket_ends b next kept more rest h are one two = record { are = are; one = ends_one 93 rest 93 ∙ one; two = ends_snoc (93 ∷ []) 93 rest 93 ∙ (h.one ∙ two) }

plain_text : (b : Brackets) (kept rest : Chars) (c : ℕ) → SectionEnds b kept rest → (c == 93) ≡ false → SectionEnds brackets.None ((kept ++ bracket_text b) ++ c ∷ []) (rest ++ c ∷ [])
plain_text b kept rest c h n =
    record {
      are = ap (λ x. x ++ c ∷ []) h.are ∙ sym (append-nil ((kept ++ bracket_text b) ++ c ∷ []));
      one = ends_one 93 rest c ∙ (either_way 93 c ∙ n);
      two = ends_snoc (93 ∷ []) 93 rest c ∙ ap (λ t. t && ends_with (93 ∷ []) rest) (either_way 93 c ∙ n);
    }

section_closes : (b : Brackets) (kept rest : Chars) (c : ℕ) → SectionEnds b kept rest → ends_with (codes "]]>") (rest ++ c ∷ []) ≡ ((c == 62) && are_two b)
section_closes b kept rest c h = ends_snoc (93 ∷ 93 ∷ []) 62 rest c ∙ (ap (λ t. t && ends_with (93 ∷ 93 ∷ []) rest) (either_way 62 c) ∙ ap (λ t. (c == 62) && t) h.two)

module _ (s : Syntax) (i : Content) (p : Pending) (text : Chars) (c : ℕ) where
  -- the verdict behind a front, and that the token goes on
  pub judged_at : (judge : Chars → ℕ → told.Verdict) (Is : Chars → Type 0) (b : Behind s i judge Is text) → told.verdict s i text c ≡ judge b.rest c
  judged_at judge Is b = ap (λ x. told.verdict s i x c) b.are ∙ b.judges.judged b.rest c

  pub behind_more : (judge : Chars → ℕ → told.Verdict) (Is More : Chars → Type 0) (b : Behind s i judge Is text) → More (b.rest ++ c ∷ []) → Behind s i judge More (text ++ c ∷ [])
  behind_more judge Is More b m = record { front = b.front; rest = b.rest ++ c ∷ []; are = grown text b.front b.rest c b.are; judges = b.judges; is = m }

  pub goes_by : (judge : Chars → ℕ → told.Verdict) (Is : Chars → Type 0) (b : Behind s i judge Is text) (m : TokenState) (run : Chars) → judge b.rest c ≡ told.goes_on → PendsAs s i m run p.tag (text ++ c ∷ []) → Goes s i p text c m run
  goes_by judge Is b m run e h = record { first = 60; more = b.front ++ b.rest; some = b.are; goes = judged_at judge Is b ∙ e; pends = h }

  -- it ends a comment where it passes a test, or goes on
  ends_or_goes : (judge : Chars → ℕ → told.Verdict) (Is : Chars → Type 0) (b : Behind s i judge Is text) (test : Bool) (m : TokenState) → judge b.rest c ≡ told.whole_if test comment → PendsAs s i m p.run p.tag (text ++ c ∷ [])
      → Means s i p text c (if test then move.Ends whole.Comment else move.Continue m)
  ends_or_goes judge Is b test m e k =
      split (λ (x : Move). Means s i p text c x) test _ _ (λ h. judged_at judge Is b ∙ (e ∙ ap (λ t. told.whole_if t comment) h)) (λ h. goes_by judge Is b m p.run (e ∙ ap (λ t. told.whole_if t comment) h) k)

  pub in_comment_means : (q : CommentPhase) → PendsAs s i (mark.Comment q) p.run p.tag text → Means s i p text c (in_comment q c)
  in_comment_means q b =
      let judge = judge_of s i (mark.Comment q) in
      ends_or_goes judge (CommentEnds q) b (c == 62 && may_close q) (mark.Comment (next_phase q c)) (ap (λ t. told.whole_if t comment) (comment_closes q b.rest c b.is))
      (behind_more judge (CommentEnds q) (CommentEnds (next_phase q c)) b (comment_grows q b.rest c b.is))

  pub in_strict_means : (q : StrictPhase) → PendsAs s i (mark.StrictComment q) p.run p.tag text → Means s i p text c (after_strict q c)
  in_strict_means strict.Dashes b =
      let judge = judge_of s i (mark.StrictComment strict.Dashes) in
      split (λ (m : Move). Means s i p text c m) (c == 62) _ _
      (λ h. judged_at judge (StrictEnds strict.Dashes) b ∙ (cond-true _ _ _ b.is.dashes ∙ cond-true _ _ _ h))
      (λ h. judged_at judge (StrictEnds strict.Dashes) b ∙ (cond-true _ _ _ b.is.dashes ∙ cond-false _ _ _ h))
  in_strict_means q b =
      let judge = judge_of s i (mark.StrictComment q) in
      goes_by judge (StrictEnds q) b (mark.StrictComment (next_strict q c)) p.run (cond-false _ _ _ b.is.dashes) (behind_more judge (StrictEnds q) (StrictEnds (next_strict q c)) b (strict_grows q b.rest c b.is refl))

  abbrev any_text : Chars → Type 0
  any_text rest = Unit {0}

  pub in_bogus_means : PendsAs s i mark.Bogus p.run p.tag text → Means s i p text c (in_bogus c)
  in_bogus_means b = let judge = judge_of s i mark.Bogus in ends_or_goes judge any_text b (c == 62) mark.Bogus refl (behind_more judge any_text any_text b tt)

  pub in_instruction_means : (asked : Bool) → PendsAs s i (mark.Instruction asked) p.run p.tag text → Means s i p text c (in_instruction asked c)
  in_instruction_means asked b =
      let judge = judge_of s i (mark.Instruction asked) in
      let Asked : Bool → Chars → Type 0 = λ a rest. ends_with (codes "?") rest ≡ a in
      let closes : ends_with (codes "?>") (b.rest ++ c ∷ []) ≡ ((c == 62) && asked) = ends_snoc (63 ∷ []) 62 b.rest c ∙ (ap (λ t. t && ends_with (63 ∷ []) b.rest) (either_way 62 c) ∙ ap (λ t. (c == 62) && t) b.is) in
      ends_or_goes judge (Asked asked) b (c == 62 && asked) (mark.Instruction (c == 63)) (ap (λ t. told.whole_if t comment) closes) (behind_more judge (Asked asked) (Asked (c == 63)) b (ends_one 63 b.rest c ∙ either_way 63 c))

  pub in_section_means : (q : Brackets) → PendsAs s i (mark.Section q) p.run p.tag text → Means s i p text c (after_section q c)
  in_section_means q b =
      split (λ (m : Move). Means s i p text c m) (c == 93) _ _
      (λ h. bracket q b (eqb-true c 93 h) (judged_at judge (SectionEnds q p.run) b ∙ ap (λ t. told.whole_if t (section (take (length b.rest - 2) b.rest))) (section_closes q p.run b.rest c b.is ∙ ap (λ (x : ℕ). (x == 62) && are_two q) (eqb-true c 93 h))))
      (λ n. split (λ (m : Move). Means s i p text c m) (c == 62 && are_two q) _ _
      (λ h. judged_at judge (SectionEnds q p.run) b ∙ (ap (λ t. told.whole_if t (section (take (length b.rest - 2) b.rest))) (section_closes q p.run b.rest c b.is ∙ h) ∙ ap (λ x. told.whole (section x)) (kept q b (both (c == 62) (are_two q) h).1)))
      (λ h. goes_by judge (SectionEnds q p.run) b (mark.Section brackets.None) ((p.run ++ bracket_text q) ++ c ∷ []) (ap (λ t. told.whole_if t (section (take (length b.rest - 2) b.rest))) (section_closes q p.run b.rest c b.is ∙ h))
      (behind_more judge (SectionEnds q p.run) (SectionEnds brackets.None ((p.run ++ bracket_text q) ++ c ∷ [])) b (plain_text q p.run b.rest c b.is n))))
    where
      judge : Chars → ℕ → told.Verdict
      judge = told.in_section

      goes_to : (q next : Brackets) (run : Chars) (b : PendsAs s i (mark.Section q) p.run p.tag text) → told.verdict s i text c ≡ told.goes_on → SectionEnds next run (b.rest ++ c ∷ []) → Goes s i p text c (mark.Section next) run
      goes_to q next run b v h = record { first = 60; more = b.front ++ b.rest; some = b.are; goes = v; pends = behind_more judge (SectionEnds q p.run) (SectionEnds next run) b h }

      bracket : (q : Brackets) → PendsAs s i (mark.Section q) p.run p.tag text → c ≡ 93 → told.verdict s i text c ≡ told.goes_on → Means s i p text c (at_bracket q)
      bracket brackets.None b e v =
          goes_to brackets.None brackets.One p.run b v (rw e (bracket_ends brackets.None brackets.One p.run p.run b.rest b.is (ap (λ x. x ++ 93 ∷ []) (b.is.are ∙ append-nil p.run)) refl refl))
      bracket brackets.One b e v =
          goes_to brackets.One brackets.Two p.run b v (rw e (bracket_ends brackets.One brackets.Two p.run p.run b.rest b.is (ap (λ x. x ++ 93 ∷ []) b.is.are ∙ append_assoc p.run (93 ∷ []) (93 ∷ [])) refl refl))
      bracket brackets.Two b e v =
          goes_to brackets.Two brackets.Two (p.run ++ c ∷ []) b v
          (rw e (bracket_ends brackets.Two brackets.Two p.run (p.run ++ 93 ∷ []) b.rest b.is (ap (λ x. x ++ 93 ∷ []) b.is.are ∙ (append_assoc p.run (93 ∷ 93 ∷ []) (93 ∷ []) ∙ sym (append_assoc p.run (93 ∷ []) (93 ∷ 93 ∷ [])))) refl refl))

      kept : (q : Brackets) (b : Behind s i (judge_of s i (mark.Section q)) (SectionEnds q p.run) text) → are_two q ≡ true → take (length b.rest - 2) b.rest ≡ p.run
      kept brackets.Two b h = ap (λ x. take (length x - 2) x) b.is.are ∙ section_text p.run
      kept _ b h = absurd (cc)

pub doctype_snoc : (s : Syntax) (reached : Option told.DoctypePhase) (text : Chars) (c : ℕ) → told.doctype_on s reached (text ++ c ∷ []) ≡ told.doctype_move_on s (told.doctype_on s reached text) c
doctype_snoc s reached [] c = refl
doctype_snoc s reached (d ∷ text) c = doctype_snoc s (told.doctype_move_on s reached d) text c

module _ (s : Syntax) (i : Content) (p : Pending) (text : Chars) (c : ℕ) where
  -- what the verdict is, by the next phase
  judged : (q : DoctypePhase) (b : Behind s i (judge_of s i (mark.Doctype q)) (DoctypeEnds s q) text) → told.verdict s i text c ≡ told.told_of_doctype (told.doctype_move s b.is.phase c)
  judged q b = judged_at s i p text c (judge_of s i (mark.Doctype q)) (DoctypeEnds s q) b ∙ ap told.told_of_doctype (doctype_snoc s (Some told.keyword) b.rest c ∙ ap (λ o. told.doctype_move_on s o c) b.is.read)

  goes_on : (r q : DoctypePhase) (b : Behind s i (judge_of s i (mark.Doctype q)) (DoctypeEnds s q) text) (next : told.DoctypePhase) → told.doctype_move s b.is.phase c ≡ Some next → told.told_of_doctype (Some next) ≡ told.goes_on → DoctypeIs r next → Means s i p text c (move.Continue (mark.Doctype r))
  goes_on r q b next e g h =
      record {
        first = 60;
        more = b.front ++ b.rest;
        some = b.are;
        goes = judged q b ∙ (ap told.told_of_doctype e ∙ g);
        pends = behind_more s i p text c (judge_of s i (mark.Doctype q)) (DoctypeEnds s q) (DoctypeEnds s r) b (record { phase = next; read = doctype_snoc s (Some told.keyword) b.rest c ∙ (ap (λ o. told.doctype_move_on s o c) b.is.read ∙ e); is = h });
      }

  refuses : (q : DoctypePhase) (b : Behind s i (judge_of s i (mark.Doctype q)) (DoctypeEnds s q) text) → told.doctype_move s b.is.phase c ≡ None → Means s i p text c (move.Refuses BadDoctype)
  refuses q b e = judged q b ∙ ap told.told_of_doctype e

  ends : (q : DoctypePhase) (b : Behind s i (judge_of s i (mark.Doctype q)) (DoctypeEnds s q) text) → told.doctype_move s b.is.phase c ≡ Some told.closed → Means s i p text c (move.Ends whole.Doctype)
  ends q b e = judged q b ∙ ap told.told_of_doctype e

  -- in the name, of which `left` is to come
  in_name_means : (q : DoctypePhase) (b : Behind s i (judge_of s i (mark.Doctype q)) (DoctypeEnds s q) text) (read left : Chars) (n : ℕ) → codes "html" ≡ read ++ left → length read ≡ n → told.doctype_move s b.is.phase c ≡ told.in_name s left c → Means s i p text c (marks.in_doctype_name s (head_of left) n c)
  in_name_means q b read [] n are count e =
      split (λ (m : Move). Means s i p text c m) (is_white_space c) _ _
      (λ h. goes_on phases.Passed q b told.passed (e ∙ cond-true _ _ _ h) refl refl)
      (λ h. split (λ (m : Move). Means s i p text c m) (c == 62) _ _ (λ k. ends q b (e ∙ (cond-false _ _ _ h ∙ cond-true _ _ _ k))) (λ k. refuses q b (e ∙ (cond-false _ _ _ h ∙ cond-false _ _ _ k))))
  in_name_means q b read (d ∷ left) n are count e =
      split (λ (m : Move). Means s i p text c m) (cased_char s c == d) _ _
      (λ h. goes_on (phases.Name (n + 1)) q b (told.naming left) (e ∙ cond-true _ _ _ h) refl (record { read = read ++ d ∷ []; left = left; are = are ∙ sym (append_assoc read (d ∷ []) left); count = length-append read (d ∷ []) ∙ ap (λ k. k + 1) count; phase = refl }))
      (λ h. refuses q b (e ∙ cond-false _ _ _ h))

  pub in_doctype_means : (q : DoctypePhase) → PendsAs s i (mark.Doctype q) p.run p.tag text → Means s i p text c (marks.doctype_char s q c)
  in_doctype_means phases.Keyword b =
      let e = ap (λ x. told.doctype_move s x c) b.is.is in
      split (λ (m : Move). Means s i p text c m) (is_white_space c) _ _
      (λ h. goes_on phases.Spaces phases.Keyword b told.spaces (e ∙ cond-true _ _ _ h) refl refl)
      (λ h. refuses phases.Keyword b (e ∙ cond-false _ _ _ h))
  in_doctype_means phases.Spaces b =
      let e = ap (λ x. told.doctype_move s x c) b.is.is in
      split (λ (m : Move). Means s i p text c m) (is_white_space c) _ _
      (λ h. goes_on phases.Spaces phases.Spaces b told.spaces (e ∙ cond-true _ _ _ h) refl refl)
      (λ h. in_name_means phases.Spaces b [] (codes "html") 0 refl refl (e ∙ cond-false _ _ _ h))
  in_doctype_means (phases.Name n) b =
      let l = b.is.is in
      subst (λ (o : Option ℕ). Means s i p text c (marks.in_doctype_name s o n c)) (sym (word_at (codes "html") l.read l.left n l.are l.count))
      (in_name_means (phases.Name n) b l.read l.left n l.are l.count (ap (λ x. told.doctype_move s x c) l.phase))
  in_doctype_means phases.Passed b =
      let e = ap (λ x. told.doctype_move s x c) b.is.is in
      split (λ (m : Move). Means s i p text c m) (c == 62) _ _
      (λ h. ends phases.Passed b (e ∙ cond-true _ _ _ h))
      (λ h. split (λ (m : Move). Means s i p text c m) (c == 91) _ _ (λ k. refuses phases.Passed b (e ∙ (cond-false _ _ _ h ∙ cond-true _ _ _ k))) (λ k. goes_on phases.Passed phases.Passed b told.passed (e ∙ (cond-false _ _ _ h ∙ cond-false _ _ _ k)) refl refl))
