-- The visits of a page without its JSON, step by step.
use Rattle.rx_items.proofs.Common.{◌≡◌, ◌∙◌, ◌+◌, ◌-◌, ◌<◌, ◌≤◌, ℕ, zero, suc, true, false, List, [], ◌∷◌, ◌++◌, map, length, take, get_or, flat_map, refl, sym, ap, subst, arith, append_assoc, append-nil, Chars, Result, Stop, Placed, is_item, names_of, Visit, visits_from, properties_in, ShowsTokens, NoFault, FaultIs, HasFault, GivesUnlessFault, with_name, steps_of, steps_in, visits_in, again, token_count}
use Rattle.rx_grammar.specs.declared.stops.Stop.TheVariants as stop
use Rattle.rx_items.specs.declared.kept.Tokens.{Tokens}
use Rattle.rx_items.specs.declared.kept.Tokens.TheVariants as tokens
use Rattle.rx_items.proofs.FoundLemmas.{none_then, then_fault, fault_then, none_at_all, no_visits, only, each_steps, one_fault, all_none}

-- ---- the same visits so many times

again_both : (n m : ℕ) (vs : List Visit) → again (n + m) vs ≡ again n vs ++ again m vs
again_both zero m vs = let plain : 0 + m ≡ m = omega arith in ap (λ k. again k vs) plain
again_both (suc n) m vs =
    let next : suc n + m ≡ suc (n + m) = omega arith in
    ap (λ k. again k vs) next ∙ ap (λ (l : List Visit). vs ++ l) (again_both n m vs) ∙ sym (append_assoc vs (again n vs) (again m vs))

pub times_err : (start middle n i : ℕ) (vs : List Visit) (x : Stop) → i < n → NoFault start (again i vs) middle → HasFault middle vs x → HasFault start (again n vs) x
times_err start middle n i vs stop.NoMemory lt p f = tt
times_err start middle n i vs (stop.Fault fault) lt p f =
    let cut : n ≡ i + suc (n - (i + 1)) = omega (arith, lt) in
    subst (λ (l : List Visit). FaultIs start l fault) (sym (ap (λ k. again k vs) cut ∙ again_both i (suc (n - (i + 1))) vs))
    (then_fault start middle (again i vs) (vs ++ again (n - (i + 1)) vs) fault p (fault_then middle vs (again (n - (i + 1)) vs) fault f))

pub times_on : (start middle after i : ℕ) (vs : List Visit) → NoFault start (again i vs) middle → NoFault middle vs after → NoFault start (again (i + 1) vs) after
times_on start middle after i vs p q = subst (λ (l : List Visit). NoFault start l after) (sym (again_both i 1 vs ∙ ap (λ (l : List Visit). again i vs ++ l) (append-nil vs))) (none_then start middle after (again i vs) vs p q)

pub times_end : (start after n i : ℕ) (vs : List Visit) → i ≤ n → n ≤ i → NoFault start (again i vs) after → NoFault start (again n vs) after
times_end start after n i vs within over p = let same : i ≡ n = omega (arith, within, over) in subst (λ (k : ℕ). NoFault start (again k vs) after) same p

pub counted : (words : Chars) (ts : Tokens) (texts : List Chars) → ShowsTokens words ts texts → token_count ts ≡ length texts
counted words (tokens.One span) texts s = sym (ap (λ (l : List Chars). length l) s.1)
counted words (tokens.Many list) texts s = ap (λ (l : List Chars). length l) s

module _ (rows : List Placed) (base : Chars) (above : Visit) (left : ℕ) where
  item_again : (e : Placed) (names : List Chars) → is_item e ≡ true → visits_in rows base above left (map (with_name e) names) ≡ again (length names) (visits_from (properties_in rows) (suc left) above e)
  item_again e [] item = refl
  item_again e (name ∷ names) item = (λ i. only rows base above left e (item i) ++ item_again e names item i)

  pub item_passed : (e : Placed) (before after count : ℕ) (r : Result (Unit {0}) Stop) → count ≡ length (names_of e) → is_item e ≡ true
      → GivesUnlessFault before (again count (visits_from (properties_in rows) (suc left) above e)) after (λ done. Unit {0}) r → GivesUnlessFault before (visits_in rows base above left (steps_of e)) after (λ done. Unit {0}) r
  item_passed e before after count r is item f =
      subst (λ (vs : List Visit). GivesUnlessFault {X = Unit {0}} before vs after (λ done. Unit {0}) r)
      (ap (λ (n : ℕ). again n (visits_from (properties_in rows) (suc left) above e)) is ∙ sym (item_again e (names_of e) item)) f

  pub plain_passed : (e : Placed) (n : ℕ) → is_item e ≡ false → NoFault n (visits_in rows base above left (steps_of e)) n
  plain_passed e n plain = subst (λ (vs : List Visit). NoFault n vs n) (sym (no_visits rows base above left e (names_of e) plain)) (none_at_all n)

  -- ---- properties in a row

  pub each_stop : (start middle : ℕ) (es : List Placed) (i : ℕ) (e : Placed) (x : Stop) → i < length es → e ≡ get_or es i e
      → NoFault start (flat_map (λ (e : Placed). visits_in rows base above left (steps_of e)) (take i es)) middle
      → HasFault middle (visits_in rows base above left (steps_of e)) x → HasFault start (visits_in rows base above left (steps_in es)) x
  each_stop start middle es i e x lt is p f =
      subst (λ (vs : List Visit). HasFault start vs x) (sym (each_steps rows base above left es)) (one_fault (λ (e : Placed). visits_in rows base above left (steps_of e)) es i e lt is start middle x p f)

  pub each_end : (start after : ℕ) (es : List Placed) (i : ℕ) → length es ≤ i → NoFault start (flat_map (λ (e : Placed). visits_in rows base above left (steps_of e)) (take i es)) after
      → NoFault start (visits_in rows base above left (steps_in es)) after
  each_end start after es i over p =
      subst (λ (vs : List Visit). NoFault start vs after) (sym (each_steps rows base above left es)) (all_none (λ (e : Placed). visits_in rows base above left (steps_of e)) es i start after over p)
