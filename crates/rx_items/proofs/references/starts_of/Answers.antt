use Rattle.rx_terms.proofs.Common.{ℕ, Contains, ◌↔◌, Chars, tokens, IfOk, filter_map}
use Rattle.rx_items.proofs.ReferenceLemmas.{of_word}
use Rattle.rx_items.proofs.references.starts_of.Goals as goal

pub returns-in-Some : goal.returns-in-Some
returns-in-Some c look asked word shown =
    of_word c.args.words.now c.in-Some.span c.text_of.result.now word (λ (text : Chars). IfOk c.starts_in.result (λ list. (n : ℕ) → Contains list.items n ↔ Contains (filter_map look (tokens text)) n))
    c.text_of.ensures (rw c.in-Some.is at shown) (c.starts_in.ensures look (asked c.in-Some.span c.in-Some.is))
