use Rattle.std.proofs.Common.{◌∙◌, sym}
use Rattle.rx_names.proofs.MarkLemmas.{declares_none}
use Rattle.rx_names.proofs.attributes.Attributes.may_declare.Goals as goal

pub returns : goal.returns
returns c none =
    declares_none c.args.self.now c.self.inside.namespaces c.may_have-prefix.result c.may_have-vocab.result c.may_have-xml_lang.result c.may_have-lang.result (rw (← c.self.view_is) c.self.invariant.none)
    c.may_have-prefix.ensures c.may_have-vocab.ensures c.may_have-xml_lang.ensures c.may_have-lang.ensures (sym c.is_any.ensures ∙ none)
