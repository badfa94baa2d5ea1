use Rattle.rx_names.proofs.Common.{◌∙◌, sym, ap, ascii-chars, has_mark}
use Rattle.rx_names.proofs.attributes.Attributes.may_have.Goals as goal

pub returns : goal.returns
returns c none =
    rw (← c.self.view_is) (c.self.invariant.marked c.args.name.now (ap (has_mark c.self.inside.marks) (sym (ascii-chars c.args.name.now c.requires)) ∙ sym c.has_mark.ensures ∙ none))
