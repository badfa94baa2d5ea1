-- Signs of a page in which no start tag is refused, and the names in force behind them.
use Rattle.std.specs.Prelude.{◌≡◌, List, [], ◌++◌, None, Result}
use Rattle.rx_rdfa.specs.Common.{Context, Stop}
use Rattle.rx_names.specs.Lines as names
use Rattle.rx_names.specs.Lines.{KeptNames}
use Rattle.rx_nest.specs.Fronts.{IsFront}
use Rattle.rx_nest.specs.Signs.{Sign}
use Rattle.rx_nest.specs.Listening.{Hears}
use Rattle.rx_walk.specs.declared.scopes.CheckingListener.{CheckingListener}
use Rattle.rx_base.specs.Lines.{line_of}
use Rattle.rx_walk.specs.Refused.{refused_in}
use Rattle.rx_walk.specs.Settings.{Setting, way_of}
use Rattle.rx_walk.specs.Courses.{AllAbsolute}

-- Nothing is refused in these signs, and the names in force are those of the elements that they leave open.
pub record Accepts (context : Context) (kept : KeptNames) (signs : List Sign) : Type 0 where
  pub names_are : names.NamesStand kept (line_of [] signs)
  pub context_is : kept.context ≡ context
  pub absolute : AllAbsolute (line_of [] signs)
  pub accepted : refused_in context [] signs ≡ None

-- a check's names, as it was made with a setting
abbrev pub accepts_at : Setting → CheckingListener → List Sign → Type 0
accepts_at setting scope signs = Accepts setting.context scope.names signs

-- what becomes of a check's names with these signs, or which of them is refused
abbrev pub CheckHears : CheckingListener → List Sign → Result (Unit {0}) Stop → CheckingListener → Type 0
CheckHears old more result new =
    (setting : Setting) (signs : List Sign) → accepts_at setting old signs
    → Hears (way_of setting).refused (accepts_at setting) signs more result new

-- the same of signs of which none can be refused
abbrev pub AcceptsOn : CheckingListener → List Sign → CheckingListener → Type 0
AcceptsOn old more new =
    (setting : Setting) (signs : List Sign) → accepts_at setting old signs
    → IsFront setting.limits.depth (signs ++ more) → accepts_at setting new (signs ++ more)
