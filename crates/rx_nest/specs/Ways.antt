-- How a page is read, and which of its start tags are refused for what they mean.
use Rattle.std.specs.Prelude.{◌≡◌, ◌⊎◌, List, [], ◌∷◌, ◌++◌, Option, Some, None}
use Rattle.std.proofs.Common.{refl, sym, subst}
use Rattle.rx_grammar.specs.Common.{Syntax, StartTag}
use Rattle.rx_grammar.specs.declared.faults.Fault.{Fault}
use Rattle.rx_grammar.specs.declared.limits.Limits.{Limits}
use Rattle.rx_nest.specs.Signs.{Sign, begun, said, finished}

-- a page's syntax and limits, and the fault of the first start tag among some signs of it that is refused
pub record Way : Type 0 where
  pub syntax : Syntax
  pub limits : Limits
  pub refused : List Sign → Option Fault

-- a fault at a start tag
pub record IsAtTag (fault : Fault) (t : StartTag) : Type 0 where
  pub token : fault.token ≡ t.token
  pub at : fault.at ≡ t.at

-- it is one of these
abbrev pub IsAtOne : Fault → List Sign → Type 0
IsAtOne fault [] = ⊥
IsAtOne fault (begun t ∷ signs) = IsAtTag fault t ⊎ IsAtOne fault signs
IsAtOne fault (said c ∷ signs) = IsAtOne fault signs
IsAtOne fault (finished ∷ signs) = IsAtOne fault signs

-- What refuses start tags, one after another: the first that is refused stays so, whatever follows, and its fault lies at it. No element is refused
-- that has no attributes.
pub record IsRefusal (refused : List Sign → Option Fault) : Type 0 where
  pub none : refused [] ≡ None
  pub stays : (signs more : List Sign) (fault : Fault) → refused signs ≡ Some fault → refused (signs ++ more) ≡ Some fault
  pub lies : (signs more : List Sign) (fault : Fault) → refused signs ≡ None → refused (signs ++ more) ≡ Some fault → IsAtOne fault more
  pub bare : (signs : List Sign) (t : StartTag) → t.attributes ≡ [] → refused signs ≡ None → refused (signs ++ begun t ∷ []) ≡ None

-- no start tag is refused for what it means
abbrev pub refuses_none : List Sign → Option Fault
refuses_none signs = None

abbrev pub IsSome : Option Fault → Type 0
IsSome None = ⊥
IsSome (Some fault) = Unit {0}

pub none_refuses : IsRefusal refuses_none
none_refuses = record {
  none = refl;
  stays = λ signs more fault e. e;
  lies = λ signs more fault n e. absurd (subst IsSome (sym e) tt);
  bare = λ signs t b n. n;
}
