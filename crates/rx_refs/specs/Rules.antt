-- The rules of 5.2.4 as a relation: which output the loop ends with, from which buffers.
use Rattle.std.specs.Prelude.{◌≡◌, false, ◌||◌, [], ◌++◌, codes}
use Rattle.rx_terms.specs.Text.{Chars, begins_with}
use Rattle.rx_refs.specs.Dots.{is, first_segment, behind_first_segment, without_last_segment, without_dots}

-- none of A to D
pub record IsOther (input : Chars) : Type 0 where
  pub a_parent : begins_with (codes "../") input ≡ false
  pub a_here : begins_with (codes "./") input ≡ false
  pub b_inside : begins_with (codes "/./") input ≡ false
  pub b_last : is (codes "/.") input ≡ false
  pub c_inside : begins_with (codes "/../") input ≡ false
  pub c_last : is (codes "/..") input ≡ false
  pub d : (is (codes ".") input || is (codes "..") input) ≡ false

-- `EndsWith input output result`
pub data EndsWith : Chars → Chars → Chars → Type 0 where
  at_end : (output : Chars) → EndsWith [] output output
  a_parent : (rest output result : Chars) → EndsWith rest output result → EndsWith (codes "../" ++ rest) output result
  a_here : (rest output result : Chars) → EndsWith rest output result → EndsWith (codes "./" ++ rest) output result
  b_inside : (rest output result : Chars) → EndsWith (codes "/" ++ rest) output result → EndsWith (codes "/./" ++ rest) output result
  b_last : (output result : Chars) → EndsWith (codes "/") output result → EndsWith (codes "/.") output result
  c_inside : (rest output result : Chars) → EndsWith (codes "/" ++ rest) (without_last_segment output) result → EndsWith (codes "/../" ++ rest) output result
  c_last : (output result : Chars) → EndsWith (codes "/") (without_last_segment output) result → EndsWith (codes "/..") output result
  d_here : (output : Chars) → EndsWith (codes ".") output output
  d_parent : (output : Chars) → EndsWith (codes "..") output output
  e_other : (input output result : Chars) → IsOther input → EndsWith (behind_first_segment input) (output ++ first_segment input) result
      → EndsWith input output result

-- The function and the rules agree: a path has one end, and it is this one.
pub record RulesEnd (path : Chars) : Type 0 where
  pub some_end : EndsWith path [] (without_dots path)
  pub one_end : (result : Chars) → EndsWith path [] result → result ≡ without_dots path

abbrev pub DotsByRules : Type 0
DotsByRules = (path : Chars) → RulesEnd path
