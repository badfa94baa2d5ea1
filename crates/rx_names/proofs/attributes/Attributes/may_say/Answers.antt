use Rattle.std.proofs.Common.{◌∙◌, sym, false}
use Rattle.rx_names.proofs.MarkLemmas.{none_of_all}
use Rattle.rx_names.proofs.attributes.Attributes.may_say.Goals as goal

pub returns : goal.returns
returns c none =
    let all = none_of_all c.is_any-resources.result c.is_any-predicates.result c.is_any-values.result false false (sym c.is_any.ensures ∙ none) in
    let resources = none_of_all c.may_have-about.result c.may_have-resource.result c.may_have-href.result c.may_have-src.result c.may_have-vocab.result (sym c.is_any-resources.ensures ∙ all.0) in
    let predicates = none_of_all c.may_have-rel.result c.may_have-rev.result c.may_have-property.result c.may_have-types.result c.may_have-inlist.result (sym c.is_any-predicates.ensures ∙ all.1) in
    let values = none_of_all c.may_have-content.result c.may_have-datetime.result c.may_have-datatype.result false false (sym c.is_any-values.ensures ∙ all.2) in
    record {
      about = c.may_have-about.ensures resources.0;
      resource = c.may_have-resource.ensures resources.1;
      href = c.may_have-href.ensures resources.2;
      src = c.may_have-src.ensures resources.3;
      rel = c.may_have-rel.ensures predicates.0;
      rev = c.may_have-rev.ensures predicates.1;
      property = c.may_have-property.ensures predicates.2;
      types = c.may_have-types.ensures predicates.3;
      content = c.may_have-content.ensures values.0;
      datetime = c.may_have-datetime.ensures values.1;
      datatype = c.may_have-datatype.ensures values.2;
      inlist = c.may_have-inlist.ensures predicates.4;
      vocab = c.may_have-vocab.ensures resources.4;
    }
