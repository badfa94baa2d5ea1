-- Between tokens, behind `<`, and in raw text a move says what the verdict is.
use Rattle.rx_scan.proofs.Common.{◌≡◌, ◌∙◌, ℕ, true, false, [], ◌∷◌, ◌++◌, refl, ap, sym, subst, Option, Ok, Err, append_assoc, append-nil, eqb-true, ◌+◌, Bool, Some, length, map, take, drop, slice_get, inl, inr, arith, add-one, ◌==◌, ◌&&◌, ◌||◌, not, cond-true, cond-false, or_left, or_right, or_from, and_from, or_parts, Chars, begins_with, lowered, split, by_test, both, either, list_all, nat_tests, length-map, map-append, length-append, less_than_sign, solidus, lowered_char, is_letter, is_white_space, between, and-false, Syntax, Html, Xhtml, name_of_raw, same, meaning, begins_tag, is_tag_char, ends_name, begins, comment, kept, has_markup, has_references, has_less_than, is_text, begins_markup, raw_name, begins_end, stops_end, is_known_tag, is_known_raw, is_known_end, cased_char, Content, BadTag, is_html_syntax, is_last, move_of, TagState, fresh, tag_step, moved, checked, tag_on, drop-append_seam, take-append_seam, RawName, tag_on-append, equal, same_self, markup_is, raw_is, TagSoFar, no_tag, MayStep, Pending, first_char, PendsAs, InLessThan, InTag, InRawEnd, end_phase, Means}
use Rattle.rx_grammar.specs.declared.contents.Content.TheVariants as content
use Rattle.rx_pages.specs.Scanner as told
use Rattle.rx_scan.specs.declared.marks.TokenState.TheVariants as mark
use Rattle.rx_scan.specs.declared.marks.First.{First}
use Rattle.rx_scan.specs.declared.marks.Move.{Move}
use Rattle.rx_scan.specs.declared.marks.Move.TheVariants as move
use Rattle.rx_scan.specs.Marks as marks
use Rattle.rx_scan.proofs.Snoc.{ends_one, either_way, head_of, cancel, all_at, word_at}
use Rattle.rx_chars.specs.NcName.{is_nc_start, is_nc, is_from_to}
use Rattle.rx_grammar.specs.declared.contents.RawName.TheVariants.{Script}
use Rattle.rx_reader.specs.declared.phases.TagPhase.{TagPhase}
use Rattle.rx_reader.specs.declared.phases.TagPhase.TheVariants as phase
use Rattle.rx_pages.proofs.RawEnds.{solidus_of}

fresh_steps : (s : Syntax) (t : TagSoFar) → t ≡ no_tag s → MayStep t
fresh_steps s t e = subst (λ (x : TagSoFar). MayStep x) (sym e) (record { unfinished = refl; unrefused = refl })

fresh_state : (s : Syntax) (t : TagSoFar) → t ≡ no_tag s → t.state ≡ fresh
fresh_state s t e = ap (λ (x : TagSoFar). x.state) e

-- `<` between tokens
less_than_begins : (s : Syntax) (i : Content) (t : TagSoFar) → t ≡ no_tag s → PendsAs s i (marks.less_than_mark i) [] t (60 ∷ [])
less_than_begins s (content.Raw name) t e =
    record { name = name_of_raw name; raw = refl; are = refl; count = refl; left = marks.end_word (content.Raw name); word = refl; read = ap Ok (sym (fresh_state s t e)); phase_is = ap (λ (x : TagState). x.phase) (fresh_state s t e); may_step = fresh_steps s t e }
less_than_begins s (content.Rcdata name) t e =
    record { name = name_of_raw name; raw = refl; are = refl; count = refl; left = marks.end_word (content.Rcdata name); word = refl; read = ap Ok (sym (fresh_state s t e)); phase_is = ap (λ (x : TagState). x.phase) (fresh_state s t e); may_step = fresh_steps s t e }
less_than_begins s _ t e = record { are = refl; none = refl; markup = refl; state = fresh_state s t e; may_step = fresh_steps s t e }

module _ (s : Syntax) (i : Content) (p : Pending) (text : Chars) (c : ℕ) where
  pub at_nothing_means : text ≡ [] → Means s i p text c (marks.of_first (marks.at_first i c))
  at_nothing_means e =
      let v : told.verdict s i text c ≡ told.first_verdict i c = ap (λ x. told.verdict s i x c) e in
      split (λ (f : First). Means s i p text c (marks.of_first f)) (c == 60) _ _
      (λ k. record { none = e; goes = v ∙ cond-true _ _ _ (or_left _ _ k); pends = λ t n. subst (λ (x : ℕ). PendsAs s i (marks.less_than_mark i) [] t (x ∷ [])) (sym (eqb-true c 60 k)) (less_than_begins s i t n) })
      (λ a. split (λ (f : First). Means s i p text c (marks.of_first f)) (c == 38 && has_references i) _ _
      (λ k. record { none = e; goes = v ∙ cond-true _ _ _ (or_right (c == 60) _ k); pends = λ t n. record { are = ap (λ x. x ∷ []) (eqb-true c 38 (both (c == 38) _ k).0); phase = refl } })
      (λ b. split (λ (f : First). Means s i p text c (marks.of_first f)) (is_text i c) _ _
      (λ k. (e, v ∙ (cond-false _ _ _ (or_from _ _ a b) ∙ cond-true _ _ _ k)))
      (λ k. v ∙ (cond-false _ _ _ (or_from _ _ a b) ∙ cond-false _ _ _ k))))

  -- a tag's character
  pub in_tag_means : (h : InTag s i p.tag text) → Means s i p text c move.Tags
  in_tag_means h =
      record {
        chars = h.chars;
        some = h.are;
        goes = ap (λ x. told.verdict s i x c) h.are ∙ (ap (λ x. told.verdict s i (60 ∷ x) c) (sym (append-nil h.chars)) ∙ (h.judged [] c ∙ ap (λ x. told.in_tag s x c) (append-nil h.chars)));
        read = h.read;
        may_step = h.may_step;
        pends = λ t r m. record {
          chars = h.chars ++ c ∷ [];
          are = ap (λ x. x ++ c ∷ []) h.are;
          judged = λ more d. ap (λ x. told.verdict s i (60 ∷ x) d) (append_assoc h.chars (c ∷ []) more) ∙ (h.judged (c ∷ more) d ∙ ap (λ x. told.in_tag s x d) (sym (append_assoc h.chars (c ∷ []) more)));
          known = λ more. ap (λ x. is_known_tag s i (60 ∷ x)) (append_assoc h.chars (c ∷ []) more) ∙ h.known (c ∷ more);
          read = r;
          may_step = m;
        };
      }

question_no_tag : (s : Syntax) (i : Content) (more : Chars) → has_markup i ≡ true → is_known_tag s i (60 ∷ 63 ∷ more) ≡ false
question_no_tag Html i more h = cond-true _ _ _ h
question_no_tag Xhtml i more h = cond-true _ _ _ h

question_begins : (s : Syntax) (i : Content) (run : Chars) (tag : TagSoFar) → has_markup i ≡ true → PendsAs s i (marks.question s) run tag (60 ∷ 63 ∷ [])
question_begins Html i run tag h =
    record { front = 63 ∷ []; rest = []; are = refl; judges = record { judged = λ more d. markup_is Html i (63 ∷ more) d h ∙ ap (λ b. told.whole_if b comment) (ends_one 62 more d ∙ either_way 62 d); no_tag = λ more. question_no_tag Html i more h }; is = tt }
question_begins Xhtml i run tag h =
    record { front = 63 ∷ []; rest = []; are = refl; judges = record { judged = λ more d. markup_is Xhtml i (63 ∷ more) d h; no_tag = λ more. question_no_tag Xhtml i more h }; is = refl }

-- a tag's first character begins a name or is a `/`
begins_markup_tag : (s : Syntax) (means : Chars → Option ℕ) (c : ℕ) (st : TagState) → tag_step s means fresh c ≡ Ok st → (c == 47 || begins_tag s c) ≡ true
begins_markup_tag s means c st e =
    by_test {G = (c == 47 || begins_tag s c) ≡ true} (begins_tag s c) (λ h. or_right (c == 47) _ h)
    (λ h. by_test {G = (c == 47 || begins_tag s c) ≡ true} (c == 47) (λ k. or_left _ _ k)
    (λ k. absurd (let q : tag_step s means fresh c ≡ Err BadTag = ap (λ o. checked s (moved s means fresh c o)) (cond-false _ _ _ h ∙ cond-false _ _ _ k) in let z = sym e ∙ q in cc)))

module _ (s : Syntax) (i : Content) (p : Pending) (text : Chars) (c : ℕ) (h : InLessThan s i p.run p.tag text) (m : p.mark ≡ mark.LessThan) where
  verdict_is : told.verdict s i text c ≡ told.in_markup s i [] c
  verdict_is = ap (λ x. told.verdict s i x c) h.are ∙ markup_is s i [] c h.markup

  grows : (d : ℕ) → c ≡ d → text ++ c ∷ [] ≡ 60 ∷ d ∷ []
  grows d e = ap (λ x. x ++ c ∷ []) h.are ∙ ap (λ x. 60 ∷ x ∷ []) e

  less_than_stops : (told.verdict s i text c ≡ told.less_than_text i) → Means s i p text c (marks.less_than_stops i)
  less_than_stops v =
      split (λ (k : Move). Means s i p text c k) (has_less_than i) _ _
      (λ k. record {
        goes = v ∙ (cond-true _ _ _ k ∙ ap (λ x. told.ended (kept x)) (sym (ap (λ x. first_char x ∷ p.run) m ∙ ap (λ x. 60 ∷ x) h.none)));
        some = h.are ∙ sym (ap (λ x. first_char x ∷ p.run) m ∙ ap (λ x. 60 ∷ x) h.none);
      })
      (λ k. v ∙ cond-false _ _ _ k)

  pub at_less_than_means : Means s i p text c (marks.at_less_than s i c)
  at_less_than_means =
      split (λ (k : Move). Means s i p text c k) (c == 33) _ _
      (λ k. record {
        first = 60;
        more = [];
        some = h.are;
        goes = verdict_is ∙ cond-true _ _ _ (or_left _ _ k);
        pends = record { are = grows 33 (eqb-true c 33 k); none = h.none; markup = h.markup };
      })
      (λ a. split (λ (k : Move). Means s i p text c k) (c == 63) _ _
      (λ k. record {
        first = 60;
        more = [];
        some = h.are;
        goes = verdict_is ∙ cond-true _ _ _ (or_right (c == 33) _ k);
        pends = subst (λ (x : Chars). PendsAs s i (marks.question s) p.run p.tag x) (sym (grows 63 (eqb-true c 63 k))) (question_begins s i p.run p.tag h.markup);
      })
      (λ b. let u = verdict_is ∙ cond-false _ _ _ (or_from _ _ a b) in
      split (λ (k : Move). Means s i p text c k) (is_html_syntax s && not (begins_markup c)) _ _
      (λ k. less_than_stops (u ∙ cond-true _ _ _ k))
      (λ k. record {
        chars = [];
        some = h.are;
        goes = u ∙ cond-false _ _ _ k;
        read = ap Ok (sym h.state);
        may_step = h.may_step;
        pends = λ t r n. record {
          chars = c ∷ [];
          are = ap (λ x. x ++ c ∷ []) h.are;
          judged = λ more d. markup_is s i (c ∷ more) d h.markup ∙ (cond-false _ _ _ a ∙ cond-false _ _ _ b);
          known = λ more. cond-true _ _ _ h.markup ∙ begins_markup_tag s (meaning s) c t.state r;
          read = r;
          may_step = n;
        };
      })))

-- a letter begins a tag's name, and stands in one
letter_start : (c : ℕ) → is_letter c ≡ true → is_nc_start c ≡ true
letter_start c h =
    wide _ _ _ _ _ _ _ _ _ _ _ _ _ (elim (either (between 65 90 c) (between 97 122 c) h) [ inl a ↦ or_left (is_from_to 65 90 c || c == 95) (is_from_to 97 122 c) (or_left (is_from_to 65 90 c) (c == 95) a) | inr b ↦ or_right (is_from_to 65 90 c || c == 95) (is_from_to 97 122 c) b ])
  where
    wide : (x a b d e f g h i j k l m : Bool) → x ≡ true → (x || a || b || d || e || f || g || h || i || j || k || l || m) ≡ true
    wide x a b d e f g h i j k l m q = rw q refl

begins_letter : (s : Syntax) (c : ℕ) → is_letter c ≡ true → begins_tag s c ≡ true
begins_letter Html c h = h
begins_letter Xhtml c h = or_left (is_nc_start c) _ (letter_start c h)

-- a letter ends no name
letter_goes : (c : ℕ) → is_letter c ≡ true → (is_white_space c || c == solidus || c == 62) ≡ false
letter_goes c h = grind (arith, nat_tests)

stands_letter : (s : Syntax) (c : ℕ) → is_letter c ≡ true → is_tag_char s c ≡ true
stands_letter Html c h = ap not (letter_goes c h)
stands_letter Xhtml c h = or_left (is_nc c) _ (wide (is_nc_start c) _ _ _ _ _ _ (letter_start c h))
  where
    wide : (x a b d e f g : Bool) → x ≡ true → (x || a || b || d || e || f || g) ≡ true
    wide x a b d e f g q = rw q refl

-- the raw element's name, in lower case
raw_lower : (r : RawName) → list_all (between 97 122) (name_of_raw r) ≡ true
raw_lower Script = refl
raw_lower _ = refl

pub record IsRaw (i : Content) (name : Chars) : Type 0 where
  pub word : marks.end_word i ≡ solidus ∷ name
  pub lower : list_all (between 97 122) name ≡ true
  pub markup : has_markup i ≡ false

pub raw_content : (i : Content) (name : Chars) → raw_name i ≡ Some name → IsRaw i name
raw_content (content.Raw r) name e = let k : name_of_raw r ≡ name = cc in record { word = ap (λ x. solidus ∷ x) k; lower = ap (list_all (between 97 122)) (sym k) ∙ raw_lower r; markup = refl }
raw_content (content.Rcdata r) name e = let k : name_of_raw r ≡ name = cc in record { word = ap (λ x. solidus ∷ x) k; lower = ap (list_all (between 97 122)) (sym k) ∙ raw_lower r; markup = refl }
raw_content _ name e = absurd (cc)

-- what is lowered to a small letter is a letter
letter_of : (c d : ℕ) → lowered_char c ≡ d → between 97 122 d ≡ true → is_letter c ≡ true
letter_of c d e h =
    by_test {G = is_letter c ≡ true} (between 65 90 c) (λ k. or_left _ _ k)
    (λ k. or_right (between 65 90 c) _ (ap (between 97 122) (sym (cond-false _ _ _ k) ∙ e) ∙ h))

-- the state after one more character of the end tag's name
record EndSteps (s : Syntax) (st : TagState) (c : ℕ) (next : TagPhase) : Type 0 where
  state : TagState
  step : tag_step s (meaning s) st c ≡ Ok state
  phase_is : state.phase ≡ next

module _ (s : Syntax) (st : TagState) (c : ℕ) where
  stepped : (p : TagPhase) (state : TagState) → st.phase ≡ p → checked s (moved s (meaning s) st c (move_of s p c)) ≡ Ok state → EndSteps s st c state.phase
  stepped p state e h = record { state = state; step = ap (λ x. checked s (moved s (meaning s) st c (move_of s x c))) e ∙ h; phase_is = refl }

  at_solidus : st.phase ≡ phase.Start → c ≡ 47 → EndSteps s st c phase.EndStart
  at_solidus e q =
      stepped phase.Start (record { phase = phase.EndStart; name = st.name; attributes = st.attributes; key = st.key; value = st.value }) e (ap (λ (x : ℕ). checked s (moved s (meaning s) st c (move_of s phase.Start x))) q ∙ by s)
    where
      by : (s : Syntax) → checked s (moved s (meaning s) st c (move_of s phase.Start 47)) ≡ Ok (record { phase = phase.EndStart; name = st.name; attributes = st.attributes; key = st.key; value = st.value })
      by Html = refl
      by Xhtml = refl

  abbrev named : TagState
  named = record { phase = phase.EndName; name = st.name ++ cased_char s c ∷ []; attributes = st.attributes; key = st.key; value = st.value }

-- with one more character of the word
end_steps : (s : Syntax) (st : TagState) (name word left : Chars) (d c : ℕ) → st.phase ≡ end_phase word → solidus ∷ name ≡ map lowered_char word ++ d ∷ left → list_all (between 97 122) name ≡ true → lowered_char c ≡ d → EndSteps s st c (end_phase (word ++ c ∷ []))
end_steps s st name [] left d c e w l q = at_solidus s st c e (solidus_of c (q ∙ first d left w))
  where
    first : (d : ℕ) (left : Chars) → solidus ∷ name ≡ d ∷ left → d ≡ 47
    first d left w = cc
end_steps s st name (x ∷ []) left d c e w l q =
    let n : name ≡ d ∷ left = cc in
    let letter = letter_of c d q (all_at (between 97 122) [] d left (ap (list_all (between 97 122)) (sym n) ∙ l)) in
    stepped s st c phase.EndStart (named s st c) e (ap (λ x. checked s (moved s (meaning s) st c x)) (cond-true _ _ _ (begins_letter s c letter)))
end_steps s st name (x ∷ y ∷ word) left d c e w l q =
    let n : name ≡ (lowered_char y ∷ map lowered_char word) ++ d ∷ left = cc in
    let letter = letter_of c d q (all_at (between 97 122) (lowered_char y ∷ map lowered_char word) d left (ap (list_all (between 97 122)) (sym n) ∙ l)) in
    let k = or_parts (is_white_space c || c == solidus) (c == 62) (letter_goes c letter) in
    let w = or_parts (is_white_space c) (c == solidus) k.0 in
    stepped s st c phase.EndName (named s st c) e (ap (λ x. checked s (moved s (meaning s) st c x)) (cond-false _ _ _ w.0 ∙ (cond-false _ _ _ k.1 ∙ cond-true _ _ _ (stands_letter s c letter))))

end_unfinished : (word : Chars) → is_last (end_phase word) ≡ false
end_unfinished (x ∷ []) = refl
end_unfinished _ = refl

-- behind the end tag's name
pub end_known : (name run z : Chars) → solidus ∷ name ≡ lowered run → is_known_end name (run ++ z) ≡ begins ends_name z
end_known name run z w =
    ap (λ k. same (lowered (take k (run ++ z))) (solidus ∷ name) && begins ends_name (drop k (run ++ z))) (add-one (length name) ∙ (ap length w ∙ length-map run lowered_char))
    ∙ ((λ i. same (lowered (take-append_seam run z i)) (solidus ∷ name) && begins ends_name (drop-append_seam run z i)) ∙ ap (λ b. b && begins ends_name z) (ap (same (lowered run)) w ∙ same_self (lowered run)))

same_longer : (a : Chars) (d : ℕ) (b : Chars) → same a (a ++ d ∷ b) ≡ false
same_longer [] d b = refl
same_longer (x ∷ a) d b = ap (λ t. t && same a (a ++ d ∷ b)) (equal x) ∙ same_longer a d b

module _ (s : Syntax) (i : Content) (p : Pending) (text : Chars) (c : ℕ) (n : ℕ) (h : InRawEnd s i n p.run p.tag text) (m : p.mark ≡ mark.RawEnd n) where
  is_raw : IsRaw i h.name
  is_raw = raw_content i h.name h.raw

  word_is : solidus ∷ h.name ≡ map lowered_char p.run ++ h.left
  word_is = sym is_raw.word ∙ h.word

  raw_verdict : told.verdict s i text c ≡ told.in_raw s h.name p.run c
  raw_verdict = ap (λ x. told.verdict s i x c) h.are ∙ raw_is s i p.run h.name c h.raw

  -- the front with more, against the word
  front_with : (more : Chars) → begins_end h.name (p.run ++ more) ≡ begins_with (lowered more) h.left
  front_with more =
      ap (λ x. begins_with x (solidus ∷ h.name)) (map-append lowered_char p.run more) ∙ (ap (begins_with (lowered p.run ++ lowered more)) word_is ∙ cancel (lowered p.run) (lowered more) h.left)

  first_is : first_char p.mark ≡ less_than_sign
  first_is = ap first_char m

  stopped : begins_end h.name (p.run ++ c ∷ []) ≡ false → (same (lowered p.run) (solidus ∷ h.name) && ends_name c) ≡ false → Means s i p text c move.Reconsume
  stopped a b =
      record {
        goes = raw_verdict ∙ (cond-false _ _ _ a ∙ (cond-true _ _ _ (and_from (begins_end h.name p.run) (stops_end h.name p.run c) (ap (begins_end h.name) (sym (append-nil p.run)) ∙ front_with []) (and_from (not (begins_end h.name (p.run ++ c ∷ []))) _ (ap not a) (ap not b))) ∙ ap (λ x. told.ended (kept (x ∷ p.run))) (sym first_is)));
        some = h.are ∙ ap (λ x. x ∷ p.run) (sym first_is);
      }

  keeps : (d : ℕ) (left : Chars) → h.left ≡ d ∷ left → lowered_char c ≡ d → Means s i p text c (move.KeepsTag (n + 1))
  keeps d left l q =
      let w : solidus ∷ h.name ≡ map lowered_char p.run ++ d ∷ left = word_is ∙ ap (λ x. map lowered_char p.run ++ x) l in
      let e = end_steps s p.tag.state h.name p.run left d c h.phase_is w is_raw.lower q in
      record {
        more = p.run;
        some = h.are;
        goes = raw_verdict ∙ cond-true _ _ _ (front_with (c ∷ []) ∙ (ap (begins_with (lowered_char c ∷ [])) l ∙ (ap (λ x. (x == d) && true) q ∙ ap (λ b. b && true) (equal d))));
        state = e.state;
        step = e.step;
        unfinished = ap is_last e.phase_is ∙ end_unfinished (p.run ++ c ∷ []);
        may_step = h.may_step;
        pends = λ t r k. record {
          name = h.name;
          raw = h.raw;
          are = ap (λ x. x ++ c ∷ []) h.are;
          count = length-append p.run (c ∷ []) ∙ ap (λ x. x + 1) h.count;
          left = left;
          word = h.word ∙ (ap (λ x. map lowered_char p.run ++ x) l ∙ (ap (λ x. map lowered_char p.run ++ x ∷ left) (sym q) ∙ (sym (append_assoc (map lowered_char p.run) (lowered_char c ∷ []) left) ∙ ap (λ x. x ++ left) (sym (map-append lowered_char p.run (c ∷ []))))));
          read = tag_on-append s (meaning s) (Ok fresh) p.run (c ∷ []) ∙ (ap (λ o. tag_on s (meaning s) o (c ∷ [])) h.read ∙ (e.step ∙ ap Ok (sym r)));
          phase_is = ap (λ (x : TagState). x.phase) r ∙ e.phase_is;
          may_step = k;
        };
      }

  -- behind the whole name
  tags : h.left ≡ [] → ends_name c ≡ true → Means s i p text c move.Tags
  tags l q =
      record {
        chars = p.run;
        some = h.are;
        goes = raw_verdict ∙ (cond-false _ _ _ (past (c ∷ []) l) ∙ cond-false _ _ _ no_stop);
        read = h.read;
        may_step = h.may_step;
        pends = λ t r k. record {
          chars = p.run ++ c ∷ [];
          are = ap (λ x. x ++ c ∷ []) h.are;
          judged = λ more d. raw_is s i ((p.run ++ c ∷ []) ++ more) h.name d h.raw
              ∙ (cond-false _ _ _ (ap (begins_end h.name) (append_assoc (p.run ++ c ∷ []) more (d ∷ []) ∙ append_assoc p.run (c ∷ []) (more ++ d ∷ [])) ∙ past (c ∷ (more ++ d ∷ [])) l)
              ∙ cond-false _ _ _ (ap (λ b. b && stops_end h.name ((p.run ++ c ∷ []) ++ more) d) (ap (begins_end h.name) (append_assoc p.run (c ∷ []) more) ∙ past (c ∷ more) l)));
          known = λ more. cond-false _ _ _ is_raw.markup ∙ (ap (λ o. is_known_raw o ((p.run ++ c ∷ []) ++ more)) h.raw
              ∙ (ap (is_known_end h.name) (append_assoc p.run (c ∷ []) more) ∙ (end_known h.name p.run (c ∷ more) word_whole ∙ q)));
          read = r;
          may_step = k;
        };
      }
    where
      word_whole : solidus ∷ h.name ≡ lowered p.run
      word_whole = word_is ∙ (ap (λ x. map lowered_char p.run ++ x) l ∙ append-nil (map lowered_char p.run))

      past : (z : Chars) → h.left ≡ [] → begins_end h.name (p.run ++ z) ≡ begins_with (lowered z) []
      past z l = front_with z ∙ ap (begins_with (lowered z)) l

      no_stop : (begins_end h.name p.run && stops_end h.name p.run c) ≡ false
      no_stop =
          ap (λ b. begins_end h.name p.run && (not (begins_end h.name (p.run ++ c ∷ [])) && not b)) (and_from (same (lowered p.run) (solidus ∷ h.name)) (ends_name c) (ap (same (lowered p.run)) word_whole ∙ same_self (lowered p.run)) q)
          ∙ (ap (λ b. begins_end h.name p.run && b) (and-false (not (begins_end h.name (p.run ++ c ∷ [])))) ∙ and-false (begins_end h.name p.run))

  pub in_end_means : Means s i p text c (marks.in_end (slice_get (marks.end_word i) n) n c)
  in_end_means =
      subst (λ (o : Option ℕ). Means s i p text c (marks.in_end o n c)) (sym (word_at (marks.end_word i) (map lowered_char p.run) h.left n h.word (length-map p.run lowered_char ∙ h.count))) (by h.left refl)
    where
      by : (left : Chars) → h.left ≡ left → Means s i p text c (marks.in_end (head_of left) n c)
      by [] l =
          let a : begins_end h.name (p.run ++ c ∷ []) ≡ false = front_with (c ∷ []) ∙ ap (begins_with (lowered_char c ∷ [])) l in
          split (λ (k : Move). Means s i p text c k) (ends_name c) _ _
          (λ k. tags l k)
          (λ k. stopped a (ap (λ b. same (lowered p.run) (solidus ∷ h.name) && b) k ∙ and-false (same (lowered p.run) (solidus ∷ h.name))))
      by (d ∷ left) l =
          let w : solidus ∷ h.name ≡ map lowered_char p.run ++ d ∷ left = word_is ∙ ap (λ x. map lowered_char p.run ++ x) l in
          split (λ (k : Move). Means s i p text c k) (lowered_char c == d) _ _
          (λ k. keeps d left l (eqb-true (lowered_char c) d k))
          (λ k. stopped (front_with (c ∷ []) ∙ (ap (begins_with (lowered_char c ∷ [])) l ∙ ap (λ b. b && true) k)) (ap (λ b. b && ends_name c) (ap (same (lowered p.run)) w ∙ same_longer (lowered p.run) d left)))
