-- The elements of a page, and so its properties, stand in tree order.
use Rattle.rx_grammar.proofs.Common.{◌<◌, Bool, List, [], ◌∷◌, filter, None, All-weaker, All-filter, cond_both, Tree}
use Rattle.rx_microdata.specs.Elements.{Placed, elements_of}
use Rattle.rx_microdata.specs.Properties.{is_property, starts_of}
use Rattle.rx_microdata.specs.Laws.{Rise, PropertiesRise}
use Rattle.rx_microdata.proofs.Scopes.{Before, Ordered, ordered}

pub rise_filter : (p : Placed → Bool) (xs : List Placed) → Rise xs → Rise (filter p xs)
rise_filter p [] r = r
rise_filter p (x ∷ xs) r =
    let rest = rise_filter p xs r.1 in
    cond_both (p x) (x ∷ filter p xs) (filter p xs) Rise (λ _. (All-filter p (λ (later : Placed). x.place < later.place) xs r.0, rest)) (λ _. rest)

rise_of : (xs : List Placed) → Ordered xs → Rise xs
rise_of [] r = tt
rise_of (x ∷ xs) r = (All-weaker (Before x) (λ (later : Placed). x.place < later.place) (λ y h. h.0) xs r.0, rise_of xs r.1)

pub placed_rise : (tree : Tree) → Rise (elements_of tree)
placed_rise tree = rise_of (elements_of tree) (ordered None 0 tree)

pub rise : PropertiesRise
rise tree root = rise_filter (is_property (elements_of tree) root (starts_of (elements_of tree) root)) (elements_of tree) (placed_rise tree)
