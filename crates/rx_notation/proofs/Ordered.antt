-- Contexts whose names rise in byte order.
use Rattle.rx_model.proofs.Common.{◌≡◌, ◌∙◌, Bool, true, false, [], ◌∷◌, filter, encode_utf8_all, refl, sym, ap, subst, inl, inr, true≢false, list_all, and_parts, and_from, Chars, by_test, Among, contains}
use Rattle.std.specs.Ordering.{is_lt, ordering_reverse, nat_cmp}
use Rattle.std.specs.Cmp.Lexicographic.{slice_cmp, nat_list_cmp_total}
use Rattle.std.specs.declared.cmp.Ordering.{Ordering}
use Rattle.std.specs.declared.cmp.Ordering.TheVariants.{Greater}
use Rattle.rx_notation.specs.Short.{Prefix, Prefixes, is_byte_less, names_rise}
use Rattle.rx_notation.specs.Layout.{used, same_prefix, those_among, prefix_placed, in_byte_order}
use Rattle.rx_notation.specs.Laws.{RisingContexts}
use Rattle.rx_notation.proofs.Chosen.{Apart, apart_names}

pub not_after : (a b : Chars) → is_byte_less a b ≡ true → is_byte_less b a ≡ false
not_after a b h = ap is_lt (nat_list_cmp_total.antisymm (encode_utf8_all b) (encode_utf8_all a)) ∙ reversed (slice_cmp nat_cmp (encode_utf8_all a) (encode_utf8_all b)) h
  where
    reversed : (o : Ordering) → is_lt o ≡ true → is_lt (ordering_reverse o) ≡ false
    reversed Greater k = absurd (true≢false (sym k))
    reversed _ k = refl

-- the prefix comes before all of these
abbrev pub before_all : Prefix → Prefixes → Bool
before_all p ps = list_all (λ (later : Prefix). is_byte_less p.0 later.0) ps

placed_first : (p : Prefix) (ps : Prefixes) → before_all p ps ≡ true → prefix_placed p ps ≡ p ∷ ps
placed_first p [] h = refl
placed_first p (first ∷ more) h = rw (not_after p.0 first.0 (and_parts _ _ h).0) refl

ordered_stays : (ps : Prefixes) → names_rise ps ≡ true → in_byte_order ps ≡ ps
ordered_stays [] h = refl
ordered_stays (p ∷ ps) h = ap (prefix_placed p) (ordered_stays ps (and_parts _ _ h).1) ∙ placed_first p ps (and_parts _ _ h).0

filter_passes : (test keep : Prefix → Bool) (ps : Prefixes) → list_all test ps ≡ true → list_all test (filter keep ps) ≡ true
filter_passes test keep [] h = refl
filter_passes test keep (p ∷ ps) h =
    let rest = filter_passes test keep ps (and_parts _ _ h).1 in by_test (keep p) (λ e. rw e (and_from _ _ (and_parts _ _ h).0 rest)) (λ e. rw e rest)

filter_rises : (keep : Prefix → Bool) (ps : Prefixes) → names_rise ps ≡ true → names_rise (filter keep ps) ≡ true
filter_rises keep [] h = refl
filter_rises keep (p ∷ ps) h =
    let rest = filter_rises keep ps (and_parts _ _ h).1 in
    by_test (keep p) (λ e. rw e (and_from _ _ (filter_passes (λ (later : Prefix). is_byte_less p.0 later.0) keep ps (and_parts _ _ h).0) rest)) (λ e. rw e rest)

pub passes : (p q : Prefix) (ps : Prefixes) → before_all p ps ≡ true → Among ps q → is_byte_less p.0 q.0 ≡ true
passes p q [] h m = absurd m
passes p q (first ∷ more) h (inl e) = subst (λ (z : Prefix). is_byte_less p.0 z.0 ≡ true) e (and_parts _ _ h).0
passes p q (first ∷ more) h (inr m) = passes p q more (and_parts _ _ h).1 m

rising_apart : (ps : Prefixes) → names_rise ps ≡ true → Apart ps
rising_apart [] h = tt
rising_apart (p ∷ ps) h = (
  λ q m e. let before : is_byte_less p.0 p.0 ≡ true = subst (λ (z : Chars). is_byte_less p.0 z ≡ true) (sym e) (passes p q ps (and_parts _ _ h).0 m) in true≢false (sym before ∙ not_after p.0 p.0 before),
  rising_apart ps (and_parts _ _ h).1,
)

pub rising : RisingContexts
rising = record {
  once = λ context h. apart_names context (rising_apart context h);
  in_order = λ context list h. ordered_stays (those_among (used context list) context) (filter_rises (contains same_prefix (used context list)) context h);
}
