use Rattle.rx_words.proofs.TokenLemmas.{no-tokens, end-boundary, tokens-first, first-token}
use Rattle.rx_words.proofs.tokens.first_token.Goals as goal

pub returns-then-is_empty-clause-token : goal.returns-then-is_empty-clause-token
returns-then-is_empty-clause-token c = no-tokens c.args.text.now c.trim_ascii_start-text.result.now _ c.utf8.text c.trim_ascii_start-text.utf8 c.trim_ascii_start-text.ensures.value c.is_empty.ensures c.if-is_empty.true

pub split_at-requires : goal.split_at-requires
split_at-requires c = end-boundary c.trim_ascii_start-text.result.now c.token_end-end.result c.token_end-end.ensures

pub returns-clause-token : goal.returns-clause-token
returns-clause-token c = tokens-first _ _ _ (first-token c.args.text.now c.trim_ascii_start-text.result.now _ _ c.token_end-end.result _ c.utf8.text c.trim_ascii_start-text.utf8 c.trim_ascii_start-text.ensures.value c.is_empty.ensures c.if-is_empty.false c.token_end-end.ensures c.split_at.ensures.front c.split_at.ensures.back).0

pub returns-clause-parts : goal.returns-clause-parts
returns-clause-parts c = (first-token c.args.text.now c.trim_ascii_start-text.result.now _ _ c.token_end-end.result _ c.utf8.text c.trim_ascii_start-text.utf8 c.trim_ascii_start-text.ensures.value c.is_empty.ensures c.if-is_empty.false c.token_end-end.ensures c.split_at.ensures.front c.split_at.ensures.back).0

pub returns-clause-shorter : goal.returns-clause-shorter
returns-clause-shorter c = (first-token c.args.text.now c.trim_ascii_start-text.result.now _ _ c.token_end-end.result _ c.utf8.text c.trim_ascii_start-text.utf8 c.trim_ascii_start-text.ensures.value c.is_empty.ensures c.if-is_empty.false c.token_end-end.ensures c.split_at.ensures.front c.split_at.ensures.back).1
