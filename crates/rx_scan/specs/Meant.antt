-- What a move says of the characters since the last token and the next one.
use Rattle.std.proofs.Common.{◌≡◌, ℕ, false, [], ◌∷◌, ◌++◌, Ok}
use Rattle.std.specs.Prelude.{encode_utf8_all, if◌then◌else◌}
use Rattle.rx_grammar.specs.Common.{less_than_sign, Chars, Syntax, meaning, is_name, character, kept, section, comment, doctype}
use Rattle.rx_grammar.specs.declared.contents.Content.{Content}
use Rattle.rx_grammar.specs.declared.faults.Kind.TheVariants.{UnknownReference, BadReference}
use Rattle.rx_reader.specs.Tables.{is_last}
use Rattle.rx_reader.specs.Values.{no_meaning}
use Rattle.rx_reader.specs.TagReader.{TagState, fresh, tag_on, tag_step}
use Rattle.rx_pages.specs.Scanner as told
use Rattle.rx_tags.specs.TagBufs.{TagSoFar, no_tag, MayStep}
use Rattle.rx_scan.specs.declared.marks.Brackets.TheVariants as brackets
use Rattle.rx_scan.specs.declared.marks.TokenState.{TokenState}
use Rattle.rx_scan.specs.declared.marks.TokenState.TheVariants as mark
use Rattle.rx_scan.specs.declared.marks.Whole.{Whole}
use Rattle.rx_scan.specs.declared.marks.Whole.TheVariants as whole
use Rattle.rx_scan.specs.declared.marks.Move.{Move}
use Rattle.rx_scan.specs.declared.marks.Move.TheVariants as move
use Rattle.rx_scan.specs.Pending.{Pending, first_char, phase_of, PendsAs, InTag, InRawEnd, bracket_text}

module _ (s : Syntax) (i : Content) (p : Pending) (text : Chars) (c : ℕ) where
  pub record Begins (m : TokenState) : Type 0 where
    pub none : text ≡ []
    pub goes : told.verdict s i text c ≡ told.goes_on
    pub pends : (t : TagSoFar) → t ≡ no_tag s → PendsAs s i m [] t (c ∷ [])

  -- the token goes on
  pub record Goes (m : TokenState) (run : Chars) : Type 0 where
    pub first : ℕ
    pub more : Chars
    pub some : text ≡ first ∷ more
    pub goes : told.verdict s i text c ≡ told.goes_on
    pub pends : PendsAs s i m run p.tag (text ++ c ∷ [])

  pub record Tags : Type 0 where
    pub chars : Chars
    pub some : text ≡ less_than_sign ∷ chars
    pub goes : told.verdict s i text c ≡ told.in_tag s chars c
    pub read : tag_on s (meaning s) (Ok fresh) chars ≡ Ok p.tag.state
    pub may_step : MayStep p.tag
    pub pends : (t : TagSoFar) → tag_on s (meaning s) (Ok fresh) (chars ++ c ∷ []) ≡ Ok t.state → MayStep t → InTag s i t (text ++ c ∷ [])

  pub record KeepsTag (n : ℕ) : Type 0 where
    pub more : Chars
    pub some : text ≡ less_than_sign ∷ more
    pub goes : told.verdict s i text c ≡ told.goes_on
    pub state : TagState
    pub step : tag_step s (meaning s) p.tag.state c ≡ Ok state
    pub unfinished : is_last state.phase ≡ false
    pub may_step : MayStep p.tag
    pub pends : (t : TagSoFar) → t.state ≡ state → MayStep t → InRawEnd s i n (p.run ++ c ∷ []) t (text ++ c ∷ [])

  pub record Closes : Type 0 where
    pub goes : told.verdict s i text c ≡ told.told_of_reference p.run (meaning s p.run)
    pub first : ℕ
    pub more : Chars
    pub some : text ≡ first ∷ more
    pub ascii : encode_utf8_all p.run ≡ p.run
    pub kind : (if is_name p.run then UnknownReference else BadReference) ≡ no_meaning (phase_of p.mark)

  pub record Stops : Type 0 where
    pub goes : told.verdict s i text c ≡ told.ended (kept (first_char p.mark ∷ p.run))
    pub some : text ≡ first_char p.mark ∷ p.run

  abbrev pub Ends : Whole → Type 0
  Ends whole.Comment = told.verdict s i text c ≡ told.whole comment
  Ends whole.Doctype = told.verdict s i text c ≡ told.whole doctype
  Ends whole.Section = told.verdict s i text c ≡ told.whole (section p.run)

  abbrev pub Means : Move → Type 0
  Means (move.Begins m) = Begins m
  Means (move.Continue m) = Goes m p.run
  Means (move.Keeps m) = Goes m (p.run ++ c ∷ [])
  Means (move.KeepsAfter b) = Goes (mark.Section brackets.None) ((p.run ++ bracket_text b) ++ c ∷ [])
  Means move.Tags = Tags
  Means (move.KeepsTag n) = KeepsTag n
  Means move.EmitText = (text ≡ []) × (told.verdict s i text c ≡ told.whole (character c))
  Means (move.Ends w) = Ends w
  Means move.Closes = Closes
  Means move.Reconsume = Stops
  Means (move.Refuses kind) = told.verdict s i text c ≡ told.refused kind
