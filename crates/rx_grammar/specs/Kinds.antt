-- The kinds of faults: their names, and which of them are no matter of the grammar.
use Rattle.std.specs.Prelude.{ℕ, Bool, true, false, List, ◌++◌, codes}
use Rattle.std.specs.Fmt.{decimal}
use Rattle.rx_terms.specs.Text.{Chars}
use Rattle.rx_grammar.specs.declared.faults.Fault.{Fault}
use Rattle.rx_grammar.specs.declared.faults.Kind.{Kind}
use Rattle.rx_grammar.specs.declared.faults.Kind.TheVariants as kind

abbrev pub kind_name : Kind → Chars
kind_name kind.NotUtf8 = codes "NotUtf8"
kind_name kind.Nul = codes "Nul"
kind_name kind.BadTag = codes "BadTag"
kind_name kind.Mismatch = codes "Mismatch"
kind_name kind.NothingOpen = codes "NothingOpen"
kind_name kind.SelfClosed = codes "SelfClosed"
kind_name kind.UnknownReference = codes "UnknownReference"
kind_name kind.BadReference = codes "BadReference"
kind_name kind.TooDeep = codes "TooDeep"
kind_name kind.TagTooLong = codes "TagTooLong"
kind_name kind.Outside = codes "Outside"
kind_name kind.RootNotHtml = codes "RootNotHtml"
kind_name kind.BadDoctype = codes "BadDoctype"
kind_name kind.Unended = codes "Unended"
kind_name kind.RepeatedAttribute = codes "RepeatedAttribute"
kind_name kind.StrictText = codes "StrictText"
kind_name kind.Plaintext = codes "Plaintext"
kind_name kind.PageTooLong = codes "PageTooLong"
kind_name kind.RelativeVocab = codes "RelativeVocab"
kind_name kind.XmlLiteral = codes "XmlLiteral"
kind_name kind.HtmlLiteral = codes "HtmlLiteral"
kind_name kind.Cycle = codes "Cycle"
kind_name kind.ItemsTooNested = codes "ItemsTooNested"
kind_name kind.ItemsTooMany = codes "ItemsTooMany"

-- faults of what a start tag says to RDFa
abbrev pub is_of_meaning : Kind → Bool
is_of_meaning kind.RelativeVocab = true
is_of_meaning kind.XmlLiteral = true
is_of_meaning kind.HtmlLiteral = true
is_of_meaning _ = false

-- the line that tells of a refused page
abbrev pub refused_line : Fault → List ℕ
refused_line fault =
    codes "refused: " ++ kind_name fault.kind ++ codes " at byte " ++ decimal fault.at ++ codes " in token " ++ decimal fault.token ++ codes "\n"
