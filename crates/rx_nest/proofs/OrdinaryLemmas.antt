-- Names that stand in no table, or in one alone.
use Rattle.rx_nest.proofs.Common.{◌≡◌, true, List, [], ◌∷◌, sym, subst, ⊎_elim, Chars, or_cases, is_among, same, rules, IsPlain, IsOrdinary, ordinary_names, omissible_names}
use Rattle.rx_pages.proofs.Contents.{same_is}

abbrev pub AllAre : (Chars → Type 0) → List Chars → Type 0
AllAre Holds [] = Unit {0}
AllAre Holds (word ∷ words) = Holds word × AllAre Holds words

pub each : (Holds : Chars → Type 0) (words : List Chars) → AllAre Holds words → (name : Chars) → is_among words name ≡ true → Holds name
each Holds [] all name h = absurd (cc)
each Holds (word ∷ words) all name h =
    ⊎_elim (λ e. subst Holds (sym (same_is name word e)) all.0) (λ e. each Holds words all.1 name e) (or_cases (same name word) (is_among words name) h)

pub ordinary : (name : Chars) → is_among ordinary_names name ≡ true → IsOrdinary name
ordinary name h = each IsOrdinary ordinary_names (search rules depth 60) name h

pub plain : (name : Chars) → is_among omissible_names name ≡ true → IsPlain name
plain name h = each IsPlain omissible_names (search rules depth 60) name h
