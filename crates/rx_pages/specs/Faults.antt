-- How a character decides a fault, behind whole tokens.
use Rattle.std.specs.Prelude.{◌≡◌, ℕ, true, List, [], ◌∷◌, ◌++◌, Err}
use Rattle.rx_grammar.specs.Common.{greater_than_sign, Chars, Syntax, Item, Line, Phase, ends_in_brackets}
use Rattle.rx_grammar.specs.declared.contents.Content.{Content}
use Rattle.rx_grammar.specs.declared.contents.Content.TheVariants.{Strict}
use Rattle.rx_grammar.specs.declared.faults.Kind.{Kind}
use Rattle.rx_grammar.specs.declared.faults.Kind.TheVariants.{StrictText}
use Rattle.rx_pages.specs.Nesting.{Nesting, nest_step, IsAt}
use Rattle.rx_pages.specs.Scanner.{whole, refused, verdict, CharactersGoOn}

-- After these tokens, with these elements open, the last of the characters decides the fault: it is refused, it ends a
-- token that doesn't nest, or it is the `>` of a `]]>` in text of XHTML.
pub data Decides (syntax : Syntax) (depth : ℕ) (items : List Item) (line : Line) (phase : Phase) (inside : Content) : Kind → Chars → Type 0 where
  by_character : {found : Kind} (run : Chars) (c : ℕ) → CharactersGoOn syntax inside [] run → verdict syntax inside run c ≡ refused found
      → Decides syntax depth items line phase inside found (run ++ c ∷ [])
  by_token : {found : Kind} (run : Chars) (c : ℕ) (n : Nesting) (item : Item) → CharactersGoOn syntax inside [] run → verdict syntax inside run c ≡ whole item.token
      → IsAt line phase n → nest_step syntax depth n item ≡ Err found
      → Decides syntax depth items line phase inside found (run ++ c ∷ [])
  by_section_end : inside ≡ Strict → ends_in_brackets items ≡ true → Decides syntax depth items line phase inside StrictText (greater_than_sign ∷ [])
