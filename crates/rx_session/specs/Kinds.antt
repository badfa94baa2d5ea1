-- The numbers of the kinds of faults.
use Rattle.std.specs.Prelude.{ℕ}
use Rattle.rx_grammar.specs.declared.faults.Kind.{Kind}
use Rattle.rx_grammar.specs.declared.faults.Kind.TheVariants as kind

-- in the order in which the grammar lists them
abbrev pub kind_number : Kind → ℕ
kind_number kind.NotUtf8 = 1
kind_number kind.Nul = 2
kind_number kind.BadTag = 3
kind_number kind.Mismatch = 4
kind_number kind.NothingOpen = 5
kind_number kind.SelfClosed = 6
kind_number kind.UnknownReference = 7
kind_number kind.BadReference = 8
kind_number kind.TooDeep = 9
kind_number kind.TagTooLong = 10
kind_number kind.Outside = 11
kind_number kind.RootNotHtml = 12
kind_number kind.BadDoctype = 13
kind_number kind.Unended = 14
kind_number kind.RepeatedAttribute = 15
kind_number kind.StrictText = 16
kind_number kind.Plaintext = 17
kind_number kind.PageTooLong = 18
kind_number kind.RelativeVocab = 19
kind_number kind.XmlLiteral = 20
kind_number kind.HtmlLiteral = 21
kind_number kind.Cycle = 22
kind_number kind.ItemsTooNested = 23
kind_number kind.ItemsTooMany = 24
