use Rattle.rx_terms.proofs.Common.{◌∙◌, ◌++◌, ap, take, chars, chars-append, IsUtf8-append, ascii-chars, ascii-utf8}
use Rattle.rx_tags.proofs.TakeLemmas.{small_ascii}
use Rattle.rx_tags.proofs.tag_name.TagName.put.Goals as goal

pub invariant_of-self-2 : goal.invariant_of-self-2
invariant_of-self-2 c =
    let front = take c.args.count c.args.bytes.now in
    rw c.in_ok-push_front.ensures.ok (IsUtf8-append c.self.inside.text.items front c.self.invariant (ascii-utf8 front (small_ascii front c.requires.small)))

pub returns-clause-ok : goal.returns-clause-ok
returns-clause-ok c =
    let front = take c.args.count c.args.bytes.now in
    record {
      small = c.requires.small;
      is = rw (← c.self.view_is) (
          ap chars c.in_ok-push_front.ensures.ok ∙ chars-append c.self.inside.text.items front c.self.invariant
          ∙ ap (λ t. chars c.self.inside.text.items ++ t) (ascii-chars front (small_ascii front c.requires.small)));
    }
