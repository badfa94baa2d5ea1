-- The table says what the verdicts are: of each mark and each character.
use Rattle.rx_scan.proofs.Common.{◌≡◌, ◌∙◌, ℕ, false, [], ◌∷◌, ◌++◌, refl, ap, sym, append-nil, length, map, arith, add-one, ◌&&◌, ◌==◌, ◌≤◌, ◌+◌, drop, take, cond-true, cond-false, and_right, length-map, length-append, lowered_char, solidus, Chars, lowered, and-false, Syntax, same, name_of_raw, ends_name, begins, is_known_tag, is_known_after, is_known_raw, is_known_end, Content, common_steps, TagSoFar, Pending, PendsAs, Pends, InRawEnd, Means, end_word, run_move}
use Rattle.rx_grammar.specs.declared.contents.Content.TheVariants as content
use Rattle.rx_scan.specs.declared.marks.TokenState.{TokenState}
use Rattle.rx_scan.specs.declared.marks.TokenState.TheVariants as mark
use Rattle.rx_scan.specs.Marks as marks
use Rattle.rx_scan.specs.KnownTags.{lies_in_tag, is_tag_with, ends_word}
use Rattle.rx_scan.proofs.Behinds.{grown, in_comment_means, in_strict_means, in_bogus_means, in_instruction_means, in_section_means, in_doctype_means}
use Rattle.rx_scan.proofs.Snoc.{head_of, word_at}
use Rattle.rx_scan.proofs.Openings.{in_word_means, at_opened_means, no_tag}
use Rattle.rx_scan.proofs.Markup.{at_nothing_means, at_less_than_means, in_tag_means, in_end_means, raw_content, end_known}
use Rattle.rx_scan.proofs.References.{in_run_means}

module _ (s : Syntax) (i : Content) (p : Pending) (text : Chars) (c : ℕ) where
  at_mark : (m : TokenState) → p.mark ≡ m → PendsAs s i m p.run p.tag text → Means s i p text c (marks.scan_move s i m c)
  at_mark mark.Nothing e h = at_nothing_means s i p text c h
  at_mark mark.LessThan e h = at_less_than_means s i p text c h e
  at_mark (mark.RawEnd n) e h = in_end_means s i p text c n h e
  at_mark mark.Tag e h = in_tag_means s i p text c h
  at_mark (mark.Run q) e h = in_run_means s i p text c q h e (run_move q c) refl
  at_mark mark.Opened e h = at_opened_means s i p text c h
  at_mark (mark.Opening w n) e h = in_word_means s i p text c w n h
  at_mark (mark.Comment q) e h = in_comment_means s i p text c q h
  at_mark (mark.StrictComment q) e h = in_strict_means s i p text c q h
  at_mark mark.Bogus e h = in_bogus_means s i p text c h
  at_mark (mark.Instruction asked) e h = in_instruction_means s i p text c asked h
  at_mark (mark.Doctype q) e h = in_doctype_means s i p text c q h
  at_mark (mark.Section q) e h = in_section_means s i p text c q h

  pub simulates : Pends s i p text → Means s i p text c (marks.scan_move s i p.mark c)
  simulates h = at_mark p.mark refl h

-- a front of the end tag's name, and what isn't longer than the name
short_end : (name x : Chars) → length x ≤ length name + 1 → is_known_end name x ≡ false
short_end name x h = ap (λ z. same (lowered (take (length name + 1) x)) (solidus ∷ name) && begins ends_name z) (drop-past (length name + 1) x h) ∙ and-false (same (lowered (take (length name + 1) x)) (solidus ∷ name))
  where
    drop-past : (n : ℕ) (x : Chars) → length x ≤ n → drop n x ≡ []
    drop-past n x h = grind (arith, common_steps)

-- nothing behind `<` is no tag yet
none_after : (s : Syntax) (i : Content) → is_known_after s i [] ≡ false
none_after s (content.Raw r) = short_end (name_of_raw r) [] (omega arith)
none_after s (content.Rcdata r) = short_end (name_of_raw r) [] (omega arith)
none_after s _ = refl

module _ (s : Syntax) (i : Content) (run : Chars) (tag : TagSoFar) (text : Chars) where
  raw_length : (n : ℕ) (h : InRawEnd s i n run tag text) → length h.name + 1 ≡ length run + length h.left
  raw_length n h =
      let k = raw_content i h.name h.raw in
      add-one (length h.name) ∙ (ap length (sym k.word ∙ h.word) ∙ (length-append (map lowered_char run) h.left ∙ ap (λ z. z + length h.left) (length-map run lowered_char)))

  raw_known : (n : ℕ) (h : InRawEnd s i n run tag text) (x : Chars) → is_known_tag s i (60 ∷ x) ≡ is_known_end h.name x
  raw_known n h x = cond-false _ _ _ (raw_content i h.name h.raw).markup ∙ ap (λ o. is_known_raw o x) h.raw

  pub known : (m : TokenState) → PendsAs s i m run tag text → is_known_tag s i text ≡ lies_in_tag m
  known mark.Nothing h = ap (is_known_tag s i) h
  known mark.LessThan h = ap (is_known_tag s i) h.are ∙ none_after s i
  known (mark.RawEnd n) h = ap (is_known_tag s i) h.are ∙ (raw_known n h run ∙ short_end h.name run (let k = raw_length n h in omega arith))
  known mark.Tag h = ap (is_known_tag s i) (h.are ∙ ap (λ x. 60 ∷ x) (sym (append-nil h.chars))) ∙ h.known []
  known (mark.Run q) h = ap (is_known_tag s i) h.are
  known mark.Opened h = ap (is_known_tag s i) h.are ∙ no_tag s i [] h.markup
  known (mark.Opening w n) h = ap (is_known_tag s i) h.are ∙ no_tag s i (h.first ∷ h.chars) h.markup
  known _ h = ap (is_known_tag s i) h.are ∙ h.judges.no_tag h.rest

  raw_known_with : (n : ℕ) (c : ℕ) (h : InRawEnd s i n run tag text) (left : Chars) → h.left ≡ left → is_known_tag s i (text ++ c ∷ []) ≡ ends_word (head_of left) c
  raw_known_with n c h [] l =
      let k = raw_content i h.name h.raw in
      let whole : solidus ∷ h.name ≡ lowered run = sym k.word ∙ (h.word ∙ (ap (λ x. map lowered_char run ++ x) l ∙ append-nil (map lowered_char run))) in
      ap (λ x. is_known_tag s i (x ++ c ∷ [])) h.are
      ∙ (raw_known n h (run ++ c ∷ [])
      ∙ end_known h.name run (c ∷ []) whole)
  raw_known_with n c h (d ∷ left) l =
      let size : length h.name + 1 ≡ length run + length (d ∷ left) = raw_length n h ∙ ap (λ x. length run + length x) l in
      let grows : length (run ++ c ∷ []) ≡ length run + 1 = length-append run (c ∷ []) in
      ap (λ x. is_known_tag s i (x ++ c ∷ [])) h.are ∙ (raw_known n h (run ++ c ∷ []) ∙ short_end h.name (run ++ c ∷ []) (omega arith))

  pub known_with : (m : TokenState) (c : ℕ) → PendsAs s i m run tag text → is_known_tag s i (text ++ c ∷ []) ≡ is_tag_with s i m c
  known_with mark.Nothing c h = ap (λ x. is_known_tag s i (x ++ c ∷ [])) h ∙ and_right (c == 60) _ (none_after s i)
  known_with mark.LessThan c h = ap (λ x. is_known_tag s i (x ++ c ∷ [])) h.are ∙ cond-true _ _ _ h.markup
  known_with (mark.RawEnd n) c h =
      raw_known_with n c h h.left refl
      ∙ ap (λ o. ends_word o c) (sym (word_at (end_word i) (map lowered_char run) h.left n h.word (length-map run lowered_char ∙ h.count)))
  known_with mark.Tag c h = ap (λ x. is_known_tag s i (x ++ c ∷ [])) h.are ∙ h.known (c ∷ [])
  known_with (mark.Run q) c h = ap (λ x. is_known_tag s i (x ++ c ∷ [])) h.are
  known_with mark.Opened c h = ap (λ x. is_known_tag s i (x ++ c ∷ [])) h.are ∙ no_tag s i (c ∷ []) h.markup
  known_with (mark.Opening w n) c h = ap (λ x. is_known_tag s i (x ++ c ∷ [])) h.are ∙ no_tag s i ((h.first ∷ h.chars) ++ c ∷ []) h.markup
  known_with _ c h = ap (is_known_tag s i) (grown text h.front h.rest c h.are) ∙ h.judges.no_tag (h.rest ++ c ∷ [])
