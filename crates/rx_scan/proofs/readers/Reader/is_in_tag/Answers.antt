use Rattle.rx_scan.proofs.Common.{◌∙◌, ap, subst, IsOfTag, Reading}
use Rattle.rx_scan.proofs.readers.Reader.is_in_tag.Goals as goal

pub returns : goal.returns
returns c = λ e. subst (λ m. IsOfTag c.args.self.now.setting m c.args.c) (c.mark.ensures ∙ ap (λ (v : Reading). v.pending.mark) c.self.view_is) (c.is_of_tag.ensures e c.args.self.now.setting)
