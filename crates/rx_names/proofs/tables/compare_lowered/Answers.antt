use Rattle.rx_names.proofs.Common.{◌≡◌, ◌∙◌, map, ap, ap₂, refl, sym, rules, chars, to_ascii_lowercase, slice_cmp, encodes-chars, bytes_rest, nat_cmp}
use Rattle.std.proofs.lemmas.Iterator.{YieldsList-from_map}
use Rattle.std.proofs.lemmas.Iterator.Adapters.{YieldsList-from_bytes}
use Rattle.std.proofs.lemmas.Iterator.Search.{cmp_from_yields_List}
use Rattle.rx_words.proofs.CaseLemmas.{encodes-lower}
use Rattle.rx_names.proofs.tables.compare_lowered.Goals as goal

pub returns : goal.returns
returns c =
    cmp_from_yields_List (λ x y. y ≡ x) c.map.result nat_cmp c.cmp.result c.cmp.ensures.ran (YieldsList-from_bytes c.args.text.now c.bytes.ensures.rest)
    (λ it b. rw b (YieldsList-from_map _ to_ascii_lowercase (YieldsList-from_bytes c.args.name.now (ap bytes_rest c.map.ensures.source ∙ c.bytes-2.ensures.rest)) c.map.ensures.closure (λ x r q k. search rules)))
    (λ x y. refl)
    ∙ ap₂ (slice_cmp nat_cmp) (sym (encodes-chars c.args.text.now c.utf8.text))
    (ap (map to_ascii_lowercase) (sym (encodes-chars c.args.name.now c.utf8.name)) ∙ encodes-lower (chars c.args.name.now))
