-- Behind `<!` a move says what the verdict is: by the words that may stand there, as texts.
use Rattle.rx_scan.proofs.Common.{◌==◌, ◌&&◌, not, ◌||◌, codes, drop, cond-true, cond-false, or_from, or_left, or_right, ne_eqb, and_right, length-map, map-append, length-append, lowered_char, Chars, begins_with, lowered, split, by_test, both, untrue, not_both_ways, and-false, list_all, drop-append_seam, Syntax, Html, Xhtml, comment, has_markup, has_sections, begins_declaration, is_known_tag, meets_opening, Content, BadTag, Outside, equal, begins_append, ◌≡◌, ◌∙◌, ℕ, ◌+◌, Bool, true, false, [], ◌∷◌, ◌++◌, refl, ap, sym, subst, Option, append_assoc, append-nil, eqb-true, cond, length, map, arith, slice_get, eq-eqb, markup_is, bogus_at, Pending, PendsAs, InOpened, InOpening, Behind, judge_of, SectionEnds, DoctypeEnds, CommentEnds, StrictEnds, Means, Goes}
use Rattle.std.proofs.lemmas.List.{map-id}
use Rattle.rx_pages.specs.Scanner as told
use Rattle.rx_scan.specs.declared.marks.Word.{Word}
use Rattle.rx_scan.specs.declared.marks.Word.TheVariants as word
use Rattle.rx_scan.specs.declared.marks.CommentPhase.TheVariants as comments
use Rattle.rx_scan.specs.declared.marks.StrictPhase.TheVariants as strict
use Rattle.rx_scan.specs.declared.marks.DoctypePhase.TheVariants as phases
use Rattle.rx_scan.specs.declared.marks.Brackets.TheVariants as brackets
use Rattle.rx_scan.specs.declared.marks.TokenState.{TokenState}
use Rattle.rx_scan.specs.declared.marks.TokenState.TheVariants as mark
use Rattle.rx_scan.specs.declared.marks.Move.{Move}
use Rattle.rx_scan.specs.declared.marks.Move.TheVariants as move
use Rattle.rx_scan.specs.Marks as marks
use Rattle.rx_scan.proofs.Snoc.{ends_one, either_way, cancel, word_at, short, all_at}

-- HTML alone lowers the word of a document type
abbrev pub plain_text : Syntax → Word → Chars → Chars
plain_text Html word.Doctype text = lowered text
plain_text s w text = text

pub plain_is : (s : Syntax) (w : Word) (text : Chars) → map (marks.opening_char s w) text ≡ plain_text s w text
plain_is Html word.Doctype text = refl
plain_is _ _ text = map-id text

abbrev pub begins_word : Syntax → Word → Chars → Bool
begins_word s w text = begins_with (marks.opening_text s w) (plain_text s w text)

module _ (s : Syntax) (w : Word) (t : Chars) (next : ℕ) (left : Chars) (e : marks.opening_text s w ≡ map (marks.opening_char s w) t ++ next ∷ left) where
  -- the word with one more character, and as it is
  pub word_more : (c : ℕ) (more : Chars) → begins_word s w (t ++ c ∷ more) ≡ ((next == marks.opening_char s w c) && begins_with left (map (marks.opening_char s w) more))
  word_more c more =
      ap (begins_with (marks.opening_text s w)) (sym (plain_is s w (t ++ c ∷ more)) ∙ map-append (marks.opening_char s w) t (c ∷ more))
      ∙ (ap (λ x. begins_with x (map (marks.opening_char s w) t ++ map (marks.opening_char s w) (c ∷ more))) e ∙ cancel (map (marks.opening_char s w) t) (next ∷ left) (map (marks.opening_char s w) (c ∷ more)))

  pub word_short : begins_word s w t ≡ false
  word_short =
      ap (begins_with (marks.opening_text s w)) (sym (plain_is s w t)) ∙ (ap (λ x. begins_with x (map (marks.opening_char s w) t)) e ∙ short (map (marks.opening_char s w) t) next left)

  pub word_unlike : (c : ℕ) (more : Chars) → marks.continues_word s w next c ≡ false → begins_word s w (t ++ c ∷ more) ≡ false
  word_unlike c more h = word_more c more ∙ ap (λ b. b && begins_with left (map (marks.opening_char s w) more)) (either_way next (marks.opening_char s w c) ∙ h)

-- a character that is lowered to `d` isn't another one of no letter
pub lowered_other : (c d x : ℕ) → lowered_char c ≡ d → lowered_char x ≡ x → (x == d) ≡ false → (x == c) ≡ false
lowered_other c d x e l n = by_test {G = (x == c) ≡ false} (x == c) (λ h. absurd (let q : x ≡ c = eqb-true x c h in let k : x ≡ d = sym l ∙ (ap lowered_char q ∙ e) in let z : (d == d) ≡ false = ap (λ (y : ℕ). y == d) (sym k) ∙ n in let u : true ≡ false = sym (equal d) ∙ z in cc)) (λ h. h)

abbrev pub head_list : Chars → Chars
head_list [] = []
head_list (d ∷ left) = d ∷ []

-- HTML: what begins as a word, and isn't that word, is no declaration
pub undeclared : (i : Content) (w : Word) (first : ℕ) (rest : Chars) → marks.opening_char Html w first ∷ [] ≡ head_list (marks.opening_text Html w) → begins_word Html w (first ∷ rest) ≡ false → begins_declaration i (first ∷ rest) ≡ false
undeclared i word.Dashes first rest e h = let q : first ≡ 45 = cc in rw q (or_from _ _ (or_from _ _ (rw q at h) refl) (and-false (has_sections i)))
undeclared i word.Section first rest e h = let q : first ≡ 91 = cc in rw q (or_from _ _ refl (and_right (has_sections i) _ (rw q at h)))
undeclared i word.Doctype first rest e h =
    let q : lowered_char first ≡ 100 = cc in
    or_from _ _ (or_from _ _ (ap (λ b. b && begins_with (codes "-") rest) (lowered_other first 100 45 q refl refl)) h)
    (ap (λ b. has_sections i && (b && begins_with (codes "CDATA[") rest)) (lowered_other first 100 91 q refl refl) ∙ and-false (has_sections i))

-- no word has a `>`
pub no_greater : (s : Syntax) (w : Word) → list_all (λ d. not (d == 62)) (marks.opening_text s w) ≡ true
no_greater Html word.Dashes = refl
no_greater Xhtml word.Dashes = refl
no_greater _ _ = refl

-- the next character of a word is no `>`
pub next_no_greater : (s : Syntax) (w : Word) (t : Chars) (next : ℕ) (left : Chars) (c : ℕ) → marks.opening_text s w ≡ map (marks.opening_char s w) t ++ next ∷ left → marks.opening_char s w c ≡ next → (c == 62) ≡ false
next_no_greater s w t next left c e q =
    ne_eqb c 62 (λ k. let n : next ≡ 62 = sym q ∙ (ap (marks.opening_char s w) k ∙ greater_same s w) in
    not_both_ways (next == 62) (ap (λ x. x == 62) n) (untrue (next == 62) (all_at (λ d. not (d == 62)) (map (marks.opening_char s w) t) next left (ap (list_all (λ d. not (d == 62))) (sym e) ∙ no_greater s w))))
  where
    greater_same : (s : Syntax) (w : Word) → marks.opening_char s w 62 ≡ 62
    greater_same Html word.Dashes = refl
    greater_same _ _ = refl

-- XHTML: the text begins with no word
pub record NoWord (x : Chars) : Type 0 where
  pub dashes : begins_with (codes "--") x ≡ false
  pub doctype : begins_with (codes "DOCTYPE") x ≡ false
  pub section : begins_with (codes "[CDATA[") x ≡ false

-- with the first character of a word it begins with no other one
pub no_word : (w : Word) (first : ℕ) (rest : Chars) → marks.opening_char Xhtml w first ∷ [] ≡ head_list (marks.opening_text Xhtml w) → begins_word Xhtml w (first ∷ rest) ≡ false → NoWord (first ∷ rest)
no_word word.Dashes first rest e h = let q : first ≡ 45 = cc in rw q (record { dashes = rw q at h; doctype = refl; section = refl })
no_word word.Doctype first rest e h = let q : first ≡ 68 = cc in rw q (record { dashes = refl; doctype = rw q at h; section = refl })
no_word word.Section first rest e h = let q : first ≡ 91 = cc in rw q (record { dashes = refl; doctype = refl; section = rw q at h })

-- what begins a word
pub begins_some : (w : Word) (x : Chars) → begins_with x (marks.opening_text Xhtml w) ≡ true → meets_opening (33 ∷ x) ≡ true
begins_some word.Dashes x h = or_left _ _ (or_left _ _ h)
begins_some word.Section x h = or_right (begins_with x (codes "--") || begins_with (codes "--") x) _ (or_left _ _ (or_left _ _ h))
begins_some word.Doctype x h =
    or_right (begins_with x (codes "--") || begins_with (codes "--") x) _ (or_right (begins_with x (codes "[CDATA[") || begins_with (codes "[CDATA[") x) _ (or_left _ _ (or_left _ _ h)))

-- and what begins none
pub begins_none : (w : Word) (first : ℕ) (rest : Chars) → marks.opening_char Xhtml w first ∷ [] ≡ head_list (marks.opening_text Xhtml w) → begins_with (first ∷ rest) (marks.opening_text Xhtml w) ≡ false → begins_with (marks.opening_text Xhtml w) (first ∷ rest) ≡ false → meets_opening (33 ∷ first ∷ rest) ≡ false
begins_none word.Dashes first rest e h k = let q : first ≡ 45 = cc in rw q (or_from _ _ (or_from _ _ (rw q at h) (rw q at k)) refl)
begins_none word.Doctype first rest e h k = let q : first ≡ 68 = cc in rw q (or_from _ _ (or_from _ _ (rw q at h) (rw q at k)) refl)
begins_none word.Section first rest e h k = let q : first ≡ 91 = cc in rw q (or_from _ _ (or_from _ _ (rw q at h) (rw q at k)) refl)

pub same_char : (w : Word) (c : ℕ) → marks.opening_char Xhtml w c ≡ c
same_char word.Dashes c = refl
same_char _ c = refl

pub strict_plain : (w : Word) (x : Chars) → plain_text Xhtml w x ≡ x
strict_plain word.Dashes x = refl
strict_plain _ x = refl

-- the word is whole, or isn't
pub word_length : (s : Syntax) (w : Word) (t : Chars) (next : ℕ) (left : Chars) → marks.opening_text s w ≡ map (marks.opening_char s w) t ++ next ∷ left → length (marks.opening_text s w) ≡ length t + (length left + 1)
word_length s w t next left e =
    ap length e ∙ (length-append (map (marks.opening_char s w) t) (next ∷ left) ∙ ap (λ k. k + length (next ∷ left)) (length-map t (marks.opening_char s w)) ∙ (omega arith))

-- the characters of a word that is whole
pub exact : (s : Syntax) (w : Word) (t : Chars) (c next : ℕ) (left : Chars) → marks.opening_text s w ≡ map (marks.opening_char s w) t ++ next ∷ left → marks.opening_char s w c ≡ next → left ≡ [] → marks.opening_text s w ≡ plain_text s w (t ++ c ∷ [])
exact s w t c next left e q l =
    e ∙ (ap (λ x. map (marks.opening_char s w) t ++ next ∷ x) l ∙ (ap (λ x. map (marks.opening_char s w) t ++ x ∷ []) (sym q) ∙ (sym (map-append (marks.opening_char s w) t (c ∷ [])) ∙ plain_is s w (t ++ c ∷ []))))

-- in markup what begins with `<!` is no tag
pub no_tag : (s : Syntax) (i : Content) (more : Chars) → has_markup i ≡ true → is_known_tag s i (60 ∷ 33 ∷ more) ≡ false
no_tag Html i more h = cond-true _ _ _ h
no_tag Xhtml i more h = cond-true _ _ _ h

-- the verdict behind `<!`
pub behind_mark : (s : Syntax) (i : Content) (text : Chars) (c : ℕ) → has_markup i ≡ true → told.verdict s i (60 ∷ 33 ∷ text) c ≡ told.after_mark s i text c
behind_mark s i text c h = markup_is s i (33 ∷ text) c h

bogus_verdict : (i : Content) (t : Chars) (c : ℕ) → has_markup i ≡ true → begins_declaration i t ≡ false → told.verdict Html i (60 ∷ 33 ∷ t) c ≡ told.whole_if (c == 62) comment
bogus_verdict i t c m h = behind_mark Html i t c m ∙ (bogus_at i t c h ∙ ap (λ b. told.whole_if b comment) (ends_one 62 t c ∙ either_way 62 c))

-- in HTML `<!` and what begins nothing else
module _ (i : Content) (p : Pending) (t : Chars) (c : ℕ) (m : has_markup i ≡ true) where
  in_bogus_after : begins_declaration i t ≡ false → ((more : Chars) → begins_declaration i (t ++ c ∷ more) ≡ false) → (text : Chars) → text ≡ 60 ∷ 33 ∷ t → Means Html i p text c (marks.in_bogus c)
  in_bogus_after h n text e =
      let v : told.verdict Html i text c ≡ told.whole_if (c == 62) comment = ap (λ x. told.verdict Html i x c) e ∙ bogus_verdict i t c m h in
      split (λ (k : Move). Means Html i p text c k) (c == 62) _ _
      (λ g. v ∙ ap (λ b. told.whole_if b comment) g)
      (λ g. record {
        first = 60;
        more = 33 ∷ t;
        some = e;
        goes = v ∙ ap (λ b. told.whole_if b comment) g;
        pends = record {
          front = 33 ∷ (t ++ c ∷ []);
          rest = [];
          are = ap (λ x. x ++ c ∷ []) e ∙ ap (λ x. 60 ∷ 33 ∷ x) (sym (append-nil (t ++ c ∷ [])));
          judges = record {
            judged = λ more d. bogus_verdict i ((t ++ c ∷ []) ++ more) d m (ap (begins_declaration i) (append_assoc t (c ∷ []) more) ∙ n more);
            no_tag = λ more. no_tag Html i ((t ++ c ∷ []) ++ more) m;
          };
          is = tt;
        };
      })

strict_verdict : (i : Content) (t : Chars) (c : ℕ) → has_markup i ≡ true → NoWord t → told.verdict Xhtml i (60 ∷ 33 ∷ t) c ≡ told.in_opening i (t ++ c ∷ [])
strict_verdict i t c m n = behind_mark Xhtml i t c m ∙ (cond-false _ _ _ n.dashes ∙ (cond-false _ _ _ n.doctype ∙ cond-false _ _ _ n.section))

module _ (s : Syntax) (i : Content) (p : Pending) (text : Chars) (c : ℕ) (w : Word) (n : ℕ) (h : InOpening s i w n p.run text) where
  abbrev t : Chars
  t = h.first ∷ h.chars

  -- the word goes on
  longer : (d : ℕ) (left : Chars) → h.left ≡ d ∷ left → marks.opening_char s w c ≡ h.next → told.verdict s i text c ≡ told.goes_on → Means s i p text c (move.Continue (mark.Opening w (n + 1)))
  longer d left l q v =
      record {
        first = 60;
        more = 33 ∷ t;
        some = h.are;
        goes = v;
        pends = record {
          none = h.none;
          first = h.first;
          chars = h.chars ++ c ∷ [];
          are = ap (λ x. x ++ c ∷ []) h.are;
          markup = h.markup;
          looked = h.looked;
          count = length-append t (c ∷ []) ∙ ap (λ k. k + 1) h.count;
          next = d;
          left = left;
          word = h.word ∙ (ap (λ x. map (marks.opening_char s w) t ++ h.next ∷ x) l ∙ (ap (λ x. map (marks.opening_char s w) t ++ x ∷ d ∷ left) (sym q) ∙ (sym (append_assoc (map (marks.opening_char s w) t) (marks.opening_char s w c ∷ []) (d ∷ left)) ∙ ap (λ x. x ++ d ∷ left) (sym (map-append (marks.opening_char s w) t (c ∷ []))))));
        };
      }

  whole_word : h.left ≡ [] → (n + 1 == length (marks.opening_text s w)) ≡ true
  whole_word l = eq-eqb (n + 1) (length (marks.opening_text s w)) (sym (word_length s w t h.next h.left h.word ∙ (ap (λ x. length t + (length x + 1)) l ∙ ap (λ k. k + 1) h.count)))

  part_word : (d : ℕ) (left : Chars) → h.left ≡ d ∷ left → (n + 1 == length (marks.opening_text s w)) ≡ false
  part_word d left l =
      ap (λ k. n + 1 == k) (word_length s w t h.next h.left h.word ∙ (ap (λ x. length t + (length x + 1)) l ∙ ap (λ k. k + (length (d ∷ left) + 1)) h.count)) ∙ ne_eqb (n + 1) (n + (length (d ∷ left) + 1)) (λ e. omega arith)

  more_means : (left : Chars) → h.left ≡ left → marks.opening_char s w c ≡ h.next → (h.left ≡ [] → Means s i p text c (marks.begun_word s i w)) → ((d : ℕ) (more : Chars) → h.left ≡ d ∷ more → told.verdict s i text c ≡ told.goes_on) → Means s i p text c (marks.more_of_word s i w (n + 1))
  more_means [] l q begun v = subst (λ (b : Bool). Means s i p text c (cond b (marks.begun_word s i w) (move.Continue (mark.Opening w (n + 1))))) (sym (whole_word l)) (begun l)
  more_means (d ∷ left) l q begun v = subst (λ (b : Bool). Means s i p text c (cond b (marks.begun_word s i w) (move.Continue (mark.Opening w (n + 1))))) (sym (part_word d left l)) (longer d left l q (v d left l))

  by_next : (marks.opening_char s w c ≡ h.next → Means s i p text c (marks.more_of_word s i w (n + 1))) → (marks.continues_word s w h.next c ≡ false → Means s i p text c (marks.unlike s c)) → Means s i p text c (marks.in_word s i w (slice_get (marks.opening_text s w) n) n c)
  by_next f g = subst (λ (o : Option ℕ). Means s i p text c (marks.in_word s i w o n c)) (sym (word_at (marks.opening_text s w) (map (marks.opening_char s w) t) (h.next ∷ h.left) n h.word (length-map t (marks.opening_char s w) ∙ h.count)))
      (split (λ (m : Move). Means s i p text c m) (marks.continues_word s w h.next c) _ _ (λ k. f (eqb-true (marks.opening_char s w c) h.next k)) g)

  -- the first one
  begins_as : marks.opening_char s w h.first ∷ [] ≡ head_list (marks.opening_text s w)
  begins_as = sym (ap head_list h.word)

-- a word that is whole, and the mark behind it
module _ (s : Syntax) (i : Content) (p : Pending) (text : Chars) (c : ℕ) (t : Chars) (are : text ≡ 60 ∷ 33 ∷ t) (markup : has_markup i ≡ true) where
  begun_means : (word : Chars) → t ++ c ∷ [] ≡ word → (judge : Chars → ℕ → told.Verdict) (Is : Chars → Type 0) → ((more : Chars) (d : ℕ) → told.after_mark s i (word ++ more) d ≡ judge more d) → Is [] → Behind s i judge Is (text ++ c ∷ [])
  begun_means word e judge Is j is =
      record {
        front = 33 ∷ word;
        rest = [];
        are = ap (λ x. x ++ c ∷ []) are ∙ ap (λ x. 60 ∷ 33 ∷ x) (e ∙ sym (append-nil word));
        judges = record { judged = λ more d. behind_mark s i (word ++ more) d markup ∙ j more d; no_tag = λ more. no_tag s i (word ++ more) markup };
        is = is;
      }

  goes_behind : (m : TokenState) → told.verdict s i text c ≡ told.goes_on → PendsAs s i m p.run p.tag (text ++ c ∷ []) → Goes s i p text c m p.run
  goes_behind m v h = record { first = 60; more = 33 ∷ t; some = are; goes = v; pends = h }

section_start : (kept : Chars) → kept ≡ [] → SectionEnds brackets.None kept []
section_start kept e = record { are = sym (append-nil kept ∙ e); one = refl; two = refl }

doctype_start : (s : Syntax) → DoctypeEnds s phases.Keyword []
doctype_start s = record { phase = told.keyword; read = refl; is = refl }

-- HTML
module _ (i : Content) (p : Pending) (text : Chars) (c : ℕ) where
  html_verdict : (w : Word) (n : ℕ) (h : InOpening Html i w n p.run text) → marks.opening_char Html w c ≡ h.next → told.verdict Html i text c ≡ told.goes_on
  html_verdict w n h q =
      let t = h.first ∷ h.chars in
      ap (λ x. told.verdict Html i x c) h.are
      ∙ (bogus_verdict i t c h.markup (undeclared i w h.first h.chars (begins_as Html i p text c w n h) (word_short Html w t h.next h.left h.word))
      ∙ ap (λ b. told.whole_if b comment) (next_no_greater Html w t h.next h.left c h.word q))

  html_begun : (w : Word) (n : ℕ) (h : InOpening Html i w n p.run text) → marks.opening_char Html w c ≡ h.next → h.left ≡ [] → Means Html i p text c (marks.begun_word Html i w)
  html_begun word.Dashes n h q l =
      let t = h.first ∷ h.chars in
      goes_behind Html i p text c t h.are h.markup (mark.Comment comments.Start) (html_verdict word.Dashes n h q)
      (begun_means Html i p text c t h.are h.markup (codes "--") (sym (exact Html word.Dashes t c h.next h.left h.word q l)) (judge_of Html i (mark.Comment comments.Start)) (CommentEnds comments.Start) (λ more d. refl) (record { empty = refl; lone = refl; dash = refl; dashes = refl; bang = refl }))
  html_begun word.Section n h q l =
      let t = h.first ∷ h.chars in
      subst (λ (b : Bool). Means Html i p text c (cond b (move.Continue (mark.Section brackets.None)) (move.Refuses Outside))) (sym h.looked)
      (goes_behind Html i p text c t h.are h.markup (mark.Section brackets.None) (html_verdict word.Section n h q)
      (begun_means Html i p text c t h.are h.markup (codes "[CDATA[") (sym (exact Html word.Section t c h.next h.left h.word q l)) (judge_of Html i (mark.Section brackets.None)) (SectionEnds brackets.None p.run) (λ more d. cond-true _ _ _ (ap (λ b. b && true) h.looked)) (section_start p.run h.none)))
  html_begun word.Doctype n h q l =
      let t = h.first ∷ h.chars in
      let x = t ++ c ∷ [] in
      let first : lowered_char h.first ∷ [] ≡ 100 ∷ [] = begins_as Html i p text c word.Doctype n h in
      let low : lowered_char h.first ≡ 100 = cc in
      let size : length x ≡ 7 = sym (length-map x lowered_char) ∙ ap length (sym (exact Html word.Doctype t c h.next h.left h.word q l)) in
      goes_behind Html i p text c t h.are h.markup (mark.Doctype phases.Keyword) (html_verdict word.Doctype n h q)
      (begun_means Html i p text c t h.are h.markup x refl (judge_of Html i (mark.Doctype phases.Keyword)) (DoctypeEnds Html phases.Keyword)
      (λ more d. cond-false _ _ _ (ap (λ b. b && begins_with (codes "-") (h.chars ++ c ∷ [] ++ more)) (lowered_other h.first 100 45 low refl refl))
      ∙ (cond-true _ _ _ (begun more) ∙ ap (λ y. told.in_doctype Html y d) (ap (λ k. drop k (x ++ more)) (sym size) ∙ drop-append_seam x more)))
      (doctype_start Html))
    where
      begun : (more : Chars) → begins_with (codes "doctype") (lowered ((h.first ∷ h.chars ++ c ∷ []) ++ more)) ≡ true
      begun more =
          ap (λ y. begins_with (codes "doctype") (lowered y)) (append_assoc (h.first ∷ h.chars) (c ∷ []) more)
          ∙ (word_more Html word.Doctype (h.first ∷ h.chars) h.next h.left h.word c more ∙ (ap (λ x. (h.next == x) && begins_with h.left (map lowered_char more)) q ∙ (ap (λ b. b && begins_with h.left (map lowered_char more)) (equal h.next) ∙ ap (λ x. begins_with x (map lowered_char more)) l)))

  html_word_means : (w : Word) (n : ℕ) (h : InOpening Html i w n p.run text) → Means Html i p text c (marks.in_word Html i w (slice_get (marks.opening_text Html w) n) n c)
  html_word_means w n h =
      let t = h.first ∷ h.chars in
      by_next Html i p text c w n h
      (λ q. more_means Html i p text c w n h h.left refl q (html_begun w n h q) (λ d more l. html_verdict w n h q))
      (λ k. in_bogus_after i p t c h.markup (undeclared i w h.first h.chars (begins_as Html i p text c w n h) (word_short Html w t h.next h.left h.word))
      (λ more. undeclared i w h.first (h.chars ++ c ∷ more) (begins_as Html i p text c w n h) (word_unlike Html w t h.next h.left h.word c more k)) text h.are)

-- XHTML
module _ (i : Content) (p : Pending) (text : Chars) (c : ℕ) where
  strict_at : (w : Word) (n : ℕ) (h : InOpening Xhtml i w n p.run text) → told.verdict Xhtml i text c ≡ told.in_opening i ((h.first ∷ h.chars) ++ c ∷ [])
  strict_at w n h =
      let t = h.first ∷ h.chars in
      ap (λ x. told.verdict Xhtml i x c) h.are ∙ strict_verdict i t c h.markup (no_word w h.first h.chars (begins_as Xhtml i p text c w n h) (word_short Xhtml w t h.next h.left h.word))

  -- the text of the word
  text_is : (w : Word) (n : ℕ) (h : InOpening Xhtml i w n p.run text) → marks.opening_text Xhtml w ≡ (h.first ∷ h.chars) ++ h.next ∷ h.left
  text_is w n h = h.word ∙ ap (λ x. x ++ h.next ∷ h.left) (plain_is Xhtml w (h.first ∷ h.chars) ∙ strict_plain w (h.first ∷ h.chars))

  strict_goes : (w : Word) (n : ℕ) (h : InOpening Xhtml i w n p.run text) → marks.opening_char Xhtml w c ≡ h.next → (d : ℕ) (more : Chars) → h.left ≡ d ∷ more → told.verdict Xhtml i text c ≡ told.goes_on
  strict_goes w n h q d more l =
      let t = h.first ∷ h.chars in
      let x = t ++ c ∷ [] in
      let yet : begins_word Xhtml w x ≡ false = word_more Xhtml w t h.next h.left h.word c [] ∙ (ap (λ y. (h.next == marks.opening_char Xhtml w c) && begins_with y []) l ∙ and-false (h.next == marks.opening_char Xhtml w c)) in
      let front : marks.opening_text Xhtml w ≡ x ++ h.left = text_is w n h ∙ (ap (λ y. t ++ y ∷ h.left) (sym q ∙ same_char w c) ∙ sym (append_assoc t (c ∷ []) h.left)) in
      strict_at w n h
      ∙ (cond-false _ _ _ (ap (λ b. b && not (has_sections i)) (no_word w h.first (h.chars ++ c ∷ []) (begins_as Xhtml i p text c w n h) yet).section)
      ∙ cond-true _ _ _ (begins_some w x (ap (begins_with x) front ∙ begins_append x h.left)))

  strict_refuses : (w : Word) (n : ℕ) (h : InOpening Xhtml i w n p.run text) → marks.continues_word Xhtml w h.next c ≡ false → told.verdict Xhtml i text c ≡ told.refused BadTag
  strict_refuses w n h k =
      let t = h.first ∷ h.chars in
      let x = t ++ c ∷ [] in
      let other : (c == h.next) ≡ false = ap (λ y. y == h.next) (sym (same_char w c)) ∙ k in
      let none : begins_word Xhtml w x ≡ false = word_unlike Xhtml w t h.next h.left h.word c [] k in
      strict_at w n h
      ∙ (cond-false _ _ _ (ap (λ b. b && not (has_sections i)) (no_word w h.first (h.chars ++ c ∷ []) (begins_as Xhtml i p text c w n h) none).section)
      ∙ cond-false _ _ _ (begins_none w h.first (h.chars ++ c ∷ []) (begins_as Xhtml i p text c w n h)
      (ap (begins_with x) (text_is w n h) ∙ (cancel t (c ∷ []) (h.next ∷ h.left) ∙ ap (λ b. b && true) other))
      (ap (begins_with (marks.opening_text Xhtml w)) (sym (strict_plain w x)) ∙ none)))

  strict_begun : (w : Word) (n : ℕ) (h : InOpening Xhtml i w n p.run text) → marks.opening_char Xhtml w c ≡ h.next → h.left ≡ [] → Means Xhtml i p text c (marks.begun_word Xhtml i w)
  strict_begun word.Dashes n h q l =
      let t = h.first ∷ h.chars in
      let e : t ++ c ∷ [] ≡ codes "--" = sym (exact Xhtml word.Dashes t c h.next h.left h.word q l) in
      goes_behind Xhtml i p text c t h.are h.markup (mark.StrictComment strict.Text) (strict_at word.Dashes n h ∙ ap (told.in_opening i) e)
      (begun_means Xhtml i p text c t h.are h.markup (codes "--") e (judge_of Xhtml i (mark.StrictComment strict.Text)) (StrictEnds strict.Text) (λ more d. refl) (record { dash = refl; dashes = refl }))
  strict_begun word.Doctype n h q l =
      let t = h.first ∷ h.chars in
      let e : t ++ c ∷ [] ≡ codes "DOCTYPE" = sym (exact Xhtml word.Doctype t c h.next h.left h.word q l) in
      goes_behind Xhtml i p text c t h.are h.markup (mark.Doctype phases.Keyword) (strict_at word.Doctype n h ∙ ap (told.in_opening i) e)
      (begun_means Xhtml i p text c t h.are h.markup (codes "DOCTYPE") e (judge_of Xhtml i (mark.Doctype phases.Keyword)) (DoctypeEnds Xhtml phases.Keyword) (λ more d. refl) (doctype_start Xhtml))
  strict_begun word.Section n h q l =
      let t = h.first ∷ h.chars in
      let e : t ++ c ∷ [] ≡ codes "[CDATA[" = sym (exact Xhtml word.Section t c h.next h.left h.word q l) in
      let v = strict_at word.Section n h ∙ ap (told.in_opening i) e in
      split (λ (m : Move). Means Xhtml i p text c m) (has_sections i) _ _
      (λ k. goes_behind Xhtml i p text c t h.are h.markup (mark.Section brackets.None) (v ∙ cond-false _ _ _ (ap not k))
      (begun_means Xhtml i p text c t h.are h.markup (codes "[CDATA[") e (judge_of Xhtml i (mark.Section brackets.None)) (SectionEnds brackets.None p.run) (λ more d. refl) (section_start p.run h.none)))
      (λ k. v ∙ cond-true _ _ _ (ap not k))

pub in_word_means : (s : Syntax) (i : Content) (p : Pending) (text : Chars) (c : ℕ) (w : Word) (n : ℕ) (h : InOpening s i w n p.run text) → Means s i p text c (marks.in_word s i w (slice_get (marks.opening_text s w) n) n c)
in_word_means Html i p text c w n h = html_word_means i p text c w n h
in_word_means Xhtml i p text c w n h =
    by_next Xhtml i p text c w n h (λ q. more_means Xhtml i p text c w n h h.left refl q (strict_begun i p text c w n h q) (strict_goes i p text c w n h q)) (strict_refuses i p text c w n h)

-- behind `<!` alone
module _ (s : Syntax) (i : Content) (p : Pending) (text : Chars) (c : ℕ) (h : InOpened s i p.run text) where
  opened : (w : Word) (next : ℕ) (left : Chars) → marks.opening_text s w ≡ marks.opening_char s w c ∷ next ∷ left → marks.looks_for s i w ≡ true → told.verdict s i text c ≡ told.goes_on → Means s i p text c (move.Continue (mark.Opening w 1))
  opened w next left e l v =
      record {
        first = 60;
        more = 33 ∷ [];
        some = h.are;
        goes = v;
        pends = record { none = h.none; first = c; chars = []; are = ap (λ x. x ++ c ∷ []) h.are; markup = h.markup; looked = l; count = refl; next = next; left = left; word = e };
      }

pub at_opened_means : (s : Syntax) (i : Content) (p : Pending) (text : Chars) (c : ℕ) → InOpened s i p.run text → Means s i p text c (marks.at_opened s i c)
at_opened_means Html i p text c h =
    let v : (c == 62) ≡ false → told.verdict Html i text c ≡ told.goes_on = λ n. ap (λ x. told.verdict Html i x c) h.are ∙ (bogus_verdict i [] c h.markup (and-false (has_sections i)) ∙ ap (λ b. told.whole_if b comment) n) in
    split (λ (m : Move). Means Html i p text c m) (c == 45) _ _
    (λ k. let e : c ≡ 45 = eqb-true c 45 k in opened Html i p text c h word.Dashes 45 [] (ap (λ x. x ∷ 45 ∷ []) (sym e)) refl (v (ap (λ x. x == 62) e)))
    (λ a. split (λ (m : Move). Means Html i p text c m) (lowered_char c == 100) _ _
    (λ k. let e : lowered_char c ≡ 100 = eqb-true (lowered_char c) 100 k in opened Html i p text c h word.Doctype 111 (codes "ctype") (ap (λ x. x ∷ codes "octype") (sym e)) refl (v (either_way c 62 ∙ lowered_other c 100 62 e refl refl)))
    (λ b. split (λ (m : Move). Means Html i p text c m) (c == 91 && has_sections i) _ _
    (λ k. let q = both (c == 91) (has_sections i) k in let e : c ≡ 91 = eqb-true c 91 q.0 in opened Html i p text c h word.Section 67 (codes "DATA[") (ap (λ x. x ∷ codes "CDATA[") (sym e)) q.1 (v (ap (λ x. x == 62) e)))
    (λ d. in_bogus_after i p [] c h.markup (and-false (has_sections i)) (λ more. undeclared_at more a b d) text h.are)))
  where
    swapped : (a b d : Bool) → (b && a) ≡ false → (a && (b && d)) ≡ false
    swapped true true d h = absurd (cc)
    swapped _ _ d h = refl

    undeclared_at : (more : Chars) → (c == 45) ≡ false → (lowered_char c == 100) ≡ false → (c == 91 && has_sections i) ≡ false → begins_declaration i (c ∷ more) ≡ false
    undeclared_at more a b d =
        or_from _ _ (or_from _ _ (ap (λ t. t && begins_with (codes "-") more) (either_way 45 c ∙ a)) (ap (λ t. t && begins_with (codes "octype") (lowered more)) (either_way 100 (lowered_char c) ∙ b)))
        (swapped (has_sections i) (91 == c) (begins_with (codes "CDATA[") more) (ap (λ t. t && has_sections i) (either_way 91 c) ∙ d))
at_opened_means Xhtml i p text c h =
    let v : told.verdict Xhtml i text c ≡ told.in_opening i (c ∷ []) = ap (λ x. told.verdict Xhtml i x c) h.are ∙ strict_verdict i [] c h.markup (record { dashes = refl; doctype = refl; section = refl }) in
    split (λ (m : Move). Means Xhtml i p text c m) (c == 45) _ _
    (λ k. let e : c ≡ 45 = eqb-true c 45 k in opened Xhtml i p text c h word.Dashes 45 [] (ap (λ x. x ∷ 45 ∷ []) (sym e)) refl (v ∙ ap (λ x. told.in_opening i (x ∷ [])) e))
    (λ a. split (λ (m : Move). Means Xhtml i p text c m) (c == 68) _ _
    (λ k. let e : c ≡ 68 = eqb-true c 68 k in opened Xhtml i p text c h word.Doctype 79 (codes "CTYPE") (ap (λ x. x ∷ codes "OCTYPE") (sym e)) refl (v ∙ ap (λ x. told.in_opening i (x ∷ [])) e))
    (λ b. split (λ (m : Move). Means Xhtml i p text c m) (c == 91 && true) _ _
    (λ k. let e : c ≡ 91 = eqb-true c 91 (both (c == 91) true k).0 in opened Xhtml i p text c h word.Section 67 (codes "DATA[") (ap (λ x. x ∷ codes "CDATA[") (sym e)) refl (v ∙ ap (λ x. told.in_opening i (x ∷ [])) e))
    (λ d. v ∙ (cond-false _ _ _ (ap (λ t. (t && false) && not (has_sections i)) (either_way 91 c) ∙ ap (λ t. t && not (has_sections i)) (and-false (c == 91))) ∙ cond-false _ _ _ (none a b d)))))
  where
    none : (c == 45) ≡ false → (c == 68) ≡ false → (c == 91 && true) ≡ false → meets_opening (33 ∷ c ∷ []) ≡ false
    none a b d =
        or_from _ _ (or_from _ _ (ap (λ t. t && true) a) (ap (λ t. t && false) (either_way 45 c ∙ a)))
        (or_from _ _ (or_from _ _ d (ap (λ t. t && false) (either_way 91 c) ∙ and-false (c == 91)))
        (or_from _ _ (or_from _ _ (ap (λ t. t && true) b) (ap (λ t. t && false) (either_way 68 c ∙ b))) refl))
