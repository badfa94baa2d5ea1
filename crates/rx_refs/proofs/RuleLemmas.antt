-- The loop of 5.2.4 and its rules.
use Rattle.rx_refs.proofs.Common.{◌≡◌, ◌∙◌, ℕ, zero, suc, ◌<◌, ◌≤◌, Bool, true, false, [], ◌∷◌, ◌++◌, length, sym, ap, subst, refl, arith, length-append, ◌||◌, Chars, begins_with, by_test, codes, is, without_last_segment, begins-front}
use Rattle.rx_refs.specs.Dots.{first_segment, behind_first_segment, step, without_dots}
use Rattle.rx_refs.specs.Rules.{IsOther, EndsWith, DotsByRules}
use Rattle.rx_refs.specs.Rules.EndsWith.{at_end, a_parent, a_here, b_inside, b_last, c_inside, c_last, d_here, d_parent, e_other}
use Rattle.rx_refs.specs.Segments.{reduced}
use Rattle.rx_refs.proofs.DotLemmas.{at, from_first-shorter, reduced-step, same}

step-other : (input output : Chars) → IsOther input → step (at input output) ≡ at (behind_first_segment input) (output ++ first_segment input)
unfolding step
step-other input output o = rw (o.a_parent, o.a_here, o.b_inside, o.b_last, o.c_inside, o.c_last, o.d) refl

pub reduced-end : (output : Chars) → reduced (at [] output) ≡ output
unfolding reduced
reduced-end output = refl

-- an end by the rules is the loop's
one : (input output result : Chars) → EndsWith input output result → result ≡ reduced (at input output)
unfolding step
one _ _ _ (at_end output) = sym (reduced-end output)
one _ _ _ (a_parent rest output result next) = one rest output result next ∙ sym (reduced-step (codes "../" ++ rest) output)
one _ _ _ (a_here rest output result next) = one rest output result next ∙ sym (reduced-step (codes "./" ++ rest) output)
one _ _ _ (b_inside rest output result next) = one (codes "/" ++ rest) output result next ∙ sym (reduced-step (codes "/./" ++ rest) output)
one _ _ _ (b_last output result next) = one (codes "/") output result next ∙ sym (reduced-step (codes "/.") output)
one _ _ _ (c_inside rest output result next) = one (codes "/" ++ rest) (without_last_segment output) result next ∙ sym (reduced-step (codes "/../" ++ rest) output)
one _ _ _ (c_last output result next) = one (codes "/") (without_last_segment output) result next ∙ sym (reduced-step (codes "/..") output)
one _ _ _ (d_here output) = sym (reduced-step (codes ".") output ∙ reduced-end output)
one _ _ _ (d_parent output) = sym (reduced-step (codes "..") output ∙ reduced-end output)
one _ _ _ (e_other input output result o next) =
    one (behind_first_segment input) (output ++ first_segment input) result next ∙ sym (reduced-step input output ∙ ap reduced (step-other input output o))

-- and the loop's is one by the rules
abbrev Ends : Chars → Chars → Type 0
Ends input output = EndsWith input output (reduced (at input output))

or_parts : (a b : Bool) → (a || b) ≡ true → a ≡ false → b ≡ true
or_parts true b h f = absurd (cc f)
or_parts false b h f = h

moved : (input output next left : Chars) → step (at input output) ≡ at next left → (EndsWith next left (reduced (at next left)) → EndsWith input output (reduced (at next left))) → Ends next left → Ends input output
moved input output next left s rule ends = subst (EndsWith input output) (sym (reduced-step input output ∙ ap reduced s)) (rule ends)

within : (n : ℕ) (input front rest : Chars) → length input ≤ suc n → input ≡ front ++ rest → 0 < length front → length rest ≤ n
within n input front rest l whole some = omega (arith, ap length whole, length-append front rest)

ends : (n : ℕ) (input output : Chars) → length input ≤ n → Ends input output
unfolding step
ends n [] output l = subst (EndsWith [] output) (sym (reduced-end output)) (at_end output)
ends zero (c ∷ input) output l = absurd (omega arith)
ends (suc n) (c ∷ input) output l =
    let s = c ∷ input in
    let back : (x : Chars) → s ≡ x → Ends x output → Ends s output = λ x is_x h. subst (λ (y : Chars). Ends y output) (sym is_x) h in
    by_test (begins_with (codes "../") s) (λ t.
    let r = begins-front (codes "../") s t in
    back _ r.1 (moved (codes "../" ++ r.0) output r.0 output refl (a_parent r.0 output _) (ends n r.0 output (within n s (codes "../") r.0 l r.1 (omega arith))))) (λ a1.
    by_test (begins_with (codes "./") s) (λ t.
    let r = begins-front (codes "./") s t in
    back _ r.1 (moved (codes "./" ++ r.0) output r.0 output refl (a_here r.0 output _) (ends n r.0 output (within n s (codes "./") r.0 l r.1 (omega arith))))) (λ a2.
    by_test (begins_with (codes "/./") s) (λ t.
    let r = begins-front (codes "/./") s t in
    back _ r.1 (moved (codes "/./" ++ r.0) output (codes "/" ++ r.0) output refl (b_inside r.0 output _) (ends n (codes "/" ++ r.0) output (within n s (codes "/.") (codes "/" ++ r.0) l r.1 (omega arith))))) (λ b1.
    by_test (is (codes "/.") s) (λ t.
    let r = same (codes "/.") s t in
    back _ r (moved (codes "/.") output (codes "/") output refl (b_last output _) (ends n (codes "/") output (omega (arith, ap length r))))) (λ b2.
    by_test (begins_with (codes "/../") s) (λ t.
    let r = begins-front (codes "/../") s t in
    back _ r.1 (moved (codes "/../" ++ r.0) output (codes "/" ++ r.0) (without_last_segment output) refl (c_inside r.0 output _) (ends n (codes "/" ++ r.0) (without_last_segment output) (within n s (codes "/..") (codes "/" ++ r.0) l r.1 (omega arith))))) (λ c1.
    by_test (is (codes "/..") s) (λ t.
    let r = same (codes "/..") s t in
    back _ r (moved (codes "/..") output (codes "/") (without_last_segment output) refl (c_last output _) (ends n (codes "/") (without_last_segment output) (omega (arith, ap length r))))) (λ c2.
    by_test (is (codes ".") s || is (codes "..") s) (λ t.
    by_test (is (codes ".") s) (λ d. back _ (same (codes ".") s d) (subst (EndsWith (codes ".") output) (sym (reduced-step (codes ".") output ∙ reduced-end output)) (d_here output))) (λ d.
    back _ (same (codes "..") s (or_parts (is (codes ".") s) (is (codes "..") s) t d)) (subst (EndsWith (codes "..") output) (sym (reduced-step (codes "..") output ∙ reduced-end output)) (d_parent output)))) (λ d.
    let o : IsOther s = record { a_parent = a1; a_here = a2; b_inside = b1; b_last = b2; c_inside = c1; c_last = c2; d = d } in
    let next = behind_first_segment s in
    let left = output ++ first_segment s in
    let shorter = from_first-shorter 47 input in
    moved s output next left (step-other s output o) (e_other s output _ o) (ends n next left (omega arith)))))))))

pub dots-by-rules : DotsByRules
unfolding reduced without_dots
dots-by-rules path = record { some_end = ends (length path) path [] (omega arith); one_end = λ result h. one path [] result h }
