use Rattle.rx_rdfa.proofs.Common.{◌∙◌, ap, option_map, is_some, option_and_then, trimmed, cleaned}
use Rattle.rx_rdfa.specs.Facts as the
use Rattle.rx_names.specs.Views.{names_seen}
use Rattle.rx_curie.proofs.FactLemmas.{is_some-seen, link-is}
use Rattle.rx_curie.proofs.facts.Facts.read_all.Goals as goal

pub returns : goal.returns
returns c = λ line stands.
    let context = (names_seen c.args.names.now).context in
    let beside = c.is_some-beside.ensures ∙ is_some-seen c.value-property.result ∙ ap is_some c.value-property.ensures in
    let kind = c.kind_of-self.ensures ∙ ap the.kind_of c.name.ensures in
    let about = c.in_ok-put_resource.ensures line stands ∙ ap (option_and_then (the.resource_of context line)) c.value.ensures in
    let resource = c.in_ok-put_resource-2.ensures line stands ∙ ap (option_and_then (the.resource_of context line)) c.value-2.ensures in
    let href = c.in_ok-put_reference.ensures ∙ ap (option_map the.RelativeRef) c.value-3.ensures in
    let src = c.in_ok-put_reference-2.ensures ∙ ap (option_map the.RelativeRef) c.value-4.ensures in
    let rel = link-is context line _ _ _ _ _ (c.in_ok-put_link.ensures line stands) beside c.value-5.ensures in
    let rev = link-is context line _ _ _ _ _ (c.in_ok-put_link-2.ensures line stands) beside c.value-6.ensures in
    let property = c.in_ok-put_properties.ensures line stands ∙ ap (option_map (the.predicates context line)) c.value-property.ensures in
    let types = c.in_ok-put_types.ensures line stands ∙ ap (option_map (the.types_of context line)) c.value-7.ensures in
    let content = c.in_ok-put_text.ensures ∙ c.value-8.ensures in
    let datetime = c.in_ok-put_text-2.ensures ∙ c.value-9.ensures in
    let datatype = c.in_ok-put_datatype.ensures line stands ∙ ap (option_map (λ value. the.attribute_datatype (the.predicate context line (trimmed value)))) c.value-10.ensures in
    let inlist = c.is_some-self.ensures ∙ is_some-seen c.value-11.result ∙ ap is_some c.value-11.ensures in
    let vocab = c.in_ok-put_vocabulary.ensures ∙ ap (option_map cleaned) c.own_vocabulary.ensures in
    let lang = c.in_ok-put_language.ensures line stands in
    λ i. record {
      kind = kind i;
      about = about i;
      resource = resource i;
      href = href i;
      src = src i;
      rel = rel i;
      rev = rev i;
      property = property i;
      types = types i;
      content = content i;
      datetime = datetime i;
      datatype = datatype i;
      inlist = inlist i;
      vocab = vocab i;
      lang = lang i;
    }
