-- The loop of 5.2.4, segment by segment.
use Rattle.rx_refs.proofs.Common.{◌≡◌, ◌∙◌, ℕ, zero, suc, ◌≤◌, Bool, true, false, [], ◌∷◌, ◌++◌, length, drop, sym, ap, refl, arith, ◌==◌, ◌||◌, if◌then◌else◌, codes, bytes_decides, nat_tests, Chars, begins_with, by_test, and-false, length-drop, append-nil, append_assoc, from_first, is, holds, without_last_segment, Grown, slashed, segment_pushed, cut_back, after_segment, after_last, Takes}
use Rattle.rx_refs.specs.Dots.{Buffers, step, after_steps, without_dots}
use Rattle.rx_refs.specs.Segments.{buffers_at, reduced}
use Rattle.rx_refs.proofs.PartLemmas.{cut-at, uncut}

abbrev pub at : Chars → Chars → Buffers
at input output = record { input = input; output = output }

-- One pass makes the input shorter

chosen : (n : ℕ) (b : Bool) (x y : Buffers) → (b ≡ true → length x.input ≤ n) → (b ≡ false → length y.input ≤ n) → length (if b then x else y).input ≤ n
chosen n true x y f g = f refl
chosen n false x y f g = g refl

pub from_first-shorter : (mark : ℕ) (text : Chars) → length (from_first mark text) ≤ length text
from_first-shorter mark [] = omega arith
from_first-shorter mark (c ∷ text) =
    let h = from_first-shorter mark text in
    by_test (c == mark) (λ t. rw t (omega arith)) (λ t. rw t (omega arith))

shorter : (c : ℕ) (input output : Chars) → length (step (record { input = c ∷ input; output = output })).input ≤ length input
unfolding step
shorter c input output =
    let n = length input in
    let s = c ∷ input in
    chosen n (begins_with (codes "../") s) (at (drop 3 s) output) _ (λ e. omega (arith, length-drop 2 input)) (λ e.
    chosen n (begins_with (codes "./") s) (at (drop 2 s) output) _ (λ e. omega (arith, length-drop 1 input)) (λ e.
    chosen n (begins_with (codes "/./") s) (at (drop 2 s) output) _ (λ e. omega (arith, length-drop 1 input)) (λ e.
    chosen n (is (codes "/.") s) (at (codes "/") output) _ (λ e. let h = ap length ((bytes_decides (codes "/.") s).0 e) in omega (arith, h)) (λ e.
    chosen n (begins_with (codes "/../") s) (at (drop 3 s) (without_last_segment output)) _ (λ e. omega (arith, length-drop 2 input)) (λ e.
    chosen n (is (codes "/..") s) (at (codes "/") (without_last_segment output)) _ (λ e. let h = ap length ((bytes_decides (codes "/..") s).0 e) in omega (arith, h)) (λ e.
    chosen n (is (codes ".") s || is (codes "..") s) (at [] output) _ (λ e. omega arith) (λ e. from_first-shorter 47 input)))))))

-- and an empty one is left

step-empty : (output : Chars) → step (record { input = []; output = output }) ≡ record { input = []; output = output }
unfolding step
step-empty output = let m : Chars → Buffers = λ o. record { input = []; output = o } in ap m (append-nil output)

after_steps-empty : (n : ℕ) (output : Chars) → after_steps n (record { input = []; output = output }) ≡ record { input = []; output = output }
after_steps-empty zero output = refl
after_steps-empty (suc n) output = ap (after_steps n) (step-empty output) ∙ after_steps-empty n output

-- so more passes than characters give the same
settled : (n m : ℕ) (input output : Chars) → length input ≤ n → length input ≤ m
    → after_steps n (record { input = input; output = output }) ≡ after_steps m (record { input = input; output = output })
settled n m [] output h k = after_steps-empty n output ∙ sym (after_steps-empty m output)
settled zero m (c ∷ input) output h k = absurd (omega arith)
settled (suc n) zero (c ∷ input) output h k = absurd (omega arith)
settled (suc n) (suc m) (c ∷ input) output h k =
    let s = step (record { input = c ∷ input; output = output }) in
    let l = shorter c input output in
    settled n m s.input s.output (omega arith) (omega arith)

pub reduced-step : (input output : Chars) → reduced (record { input = input; output = output }) ≡ reduced (step (record { input = input; output = output }))
unfolding reduced
reduced-step [] output = ap reduced (sym (step-empty output))
reduced-step (c ∷ input) output =
    let s = step (record { input = c ∷ input; output = output }) in
    ap (λ (b : Buffers). b.output) (settled (length input) (length s.input) s.input s.output (shorter c input output) (omega arith))

-- The tests of the rules, of an input that begins with a segment

test_false : (c mark : ℕ) (text : Chars) → holds mark (c ∷ text) ≡ false → ((c == mark) ≡ false) × (holds mark text ≡ false)
test_false c mark text h = by_test (c == mark) (λ t. let g : true ≡ false = rw t at h in absurd (cc g)) (λ t. (t, rw t at h))

begins-closed : (w segment rest : Chars) → holds 47 w ≡ false → holds 47 segment ≡ false → begins_with (w ++ 47 ∷ []) (segment ++ 47 ∷ rest) ≡ is w segment
begins-closed [] [] rest h k = refl
begins-closed [] (c ∷ segment) rest h k =
    let other : (47 == c) ≡ false = let e = (test_false c 47 segment k).0 in grind (arith, nat_tests) in
    rw other refl
begins-closed (a ∷ w) [] rest h k = rw (test_false a 47 w h).0 refl
begins-closed (a ∷ w) (c ∷ segment) rest h k =
    rw (begins-closed w segment rest (test_false a 47 w h).1 (test_false c 47 segment k).1) refl

begins-open : (w segment : Chars) → holds 47 segment ≡ false → begins_with (w ++ 47 ∷ []) segment ≡ false
begins-open [] [] k = refl
begins-open (a ∷ w) [] k = refl
begins-open [] (c ∷ segment) k =
    let other : (47 == c) ≡ false = let e = (test_false c 47 segment k).0 in grind (arith, nat_tests) in
    rw other refl
begins-open (a ∷ w) (c ∷ segment) k = rw (begins-open w segment (test_false c 47 segment k).1) (and-false (a == c))

is-closed : (w segment rest : Chars) → holds 47 w ≡ false → is w (segment ++ 47 ∷ rest) ≡ false
is-closed [] [] rest h = refl
is-closed [] (c ∷ segment) rest h = refl
is-closed (a ∷ w) [] rest h = rw (test_false a 47 w h).0 refl
is-closed (a ∷ w) (c ∷ segment) rest h = rw (is-closed w segment rest (test_false a 47 w h).1) (and-false (a == c))

-- One pass on a segment that is no dot segment

step-slashed : (segment rest output : Chars) → holds 47 segment ≡ false → is (codes ".") segment ≡ false → is (codes "..") segment ≡ false
    → step (at (47 ∷ (segment ++ 47 ∷ rest)) output) ≡ at (47 ∷ rest) (output ++ 47 ∷ segment)
unfolding step
step-slashed segment rest output h one two =
    let a = begins-closed (codes ".") segment rest refl h ∙ one in
    let b = is-closed (codes ".") segment rest refl in
    let d = begins-closed (codes "..") segment rest refl h ∙ two in
    let e = is-closed (codes "..") segment rest refl in
    let g = cut-at 47 segment rest h in
    rw (a, b, d, e, g.0, g.1) refl

step-bare : (c : ℕ) (segment rest output : Chars) → holds 47 (c ∷ segment) ≡ false → is (codes ".") (c ∷ segment) ≡ false → is (codes "..") (c ∷ segment) ≡ false
    → step (at (c ∷ (segment ++ 47 ∷ rest)) output) ≡ at (47 ∷ rest) (output ++ c ∷ segment)
unfolding step
step-bare c segment rest output h one two =
    let other : (47 == c) ≡ false = let e = (test_false c 47 segment h).0 in grind (arith, nat_tests) in
    let a = begins-closed (codes "..") (c ∷ segment) rest refl h ∙ two in
    let b = begins-closed (codes ".") (c ∷ segment) rest refl h ∙ one in
    let d = is-closed (codes ".") (c ∷ segment) rest refl in
    let e = is-closed (codes "..") (c ∷ segment) rest refl in
    let g = cut-at 47 segment rest (test_false c 47 segment h).1 in
    rw (a, b, other, d, e, g.0, g.1) refl

last-slashed : (segment output : Chars) → holds 47 segment ≡ false → is (codes ".") segment ≡ false → is (codes "..") segment ≡ false
    → step (at (47 ∷ segment) output) ≡ at [] (output ++ 47 ∷ segment)
unfolding step
last-slashed segment output h one two =
    let a = begins-open (codes ".") segment h in
    let d = begins-open (codes "..") segment h in
    let g = uncut 47 segment h in
    rw (a, one, d, two, g.0, g.1) refl

last-bare : (c : ℕ) (segment output : Chars) → holds 47 (c ∷ segment) ≡ false → is (codes ".") (c ∷ segment) ≡ false → is (codes "..") (c ∷ segment) ≡ false
    → step (at (c ∷ segment) output) ≡ at [] (output ++ c ∷ segment)
unfolding step
last-bare c segment output h one two =
    let other : (47 == c) ≡ false = let e = (test_false c 47 segment h).0 in grind (arith, nat_tests) in
    let a = begins-open (codes "..") (c ∷ segment) h in
    let b = begins-open (codes ".") (c ∷ segment) h in
    let g = uncut 47 segment (test_false c 47 segment h).1 in
    rw (a, b, other, one, two, g.0, g.1) refl

-- What a segment does

pub same : (text segment : Chars) → is text segment ≡ true → segment ≡ text
same text segment e = sym ((bytes_decides text segment).0 e)

-- a dot segment that a `/` follows
one-closed : (slash : Bool) (rest output : Chars) → reduced (at (slashed slash (46 ∷ 47 ∷ rest)) output) ≡ reduced (at (slashed slash rest) output)
unfolding step
one-closed true rest output = reduced-step (47 ∷ 46 ∷ 47 ∷ rest) output
one-closed false rest output = reduced-step (46 ∷ 47 ∷ rest) output

two-closed : (front : Chars) (slash : Bool) (rest output : Chars)
    → reduced (at (slashed slash (46 ∷ 46 ∷ 47 ∷ rest)) output) ≡ reduced (buffers_at (cut_back (record { front = front; path = output; slash = slash })) rest)
unfolding step
two-closed front true rest output = reduced-step (47 ∷ 46 ∷ 46 ∷ 47 ∷ rest) output
two-closed front false rest output = reduced-step (46 ∷ 46 ∷ 47 ∷ rest) output

other-closed : (slash : Bool) (segment rest output : Chars) → holds 47 segment ≡ false → is (codes ".") segment ≡ false → is (codes "..") segment ≡ false
    → reduced (at (slashed slash (segment ++ 47 ∷ rest)) output) ≡ reduced (at (47 ∷ rest) (output ++ slashed slash segment))
other-closed true segment rest output h one two = reduced-step (47 ∷ (segment ++ 47 ∷ rest)) output ∙ ap reduced (step-slashed segment rest output h one two)
other-closed false [] rest output h one two = ap (λ (o : Chars). reduced (at (47 ∷ rest) o)) (sym (append-nil output))
other-closed false (c ∷ segment) rest output h one two = reduced-step (c ∷ (segment ++ 47 ∷ rest)) output ∙ ap reduced (step-bare c segment rest output h one two)

pub reduced-closed : (grown : Grown) (segment rest : Chars) → holds 47 segment ≡ false
    → reduced (buffers_at grown (segment ++ 47 ∷ rest)) ≡ reduced (buffers_at (after_segment grown segment) rest)
reduced-closed grown segment rest h =
    by_test (is (codes ".") segment) (λ one. rw one (rw (same (codes ".") segment one) (one-closed grown.slash rest grown.path))) (λ one.
    by_test (is (codes "..") segment) (λ two. rw (one, two) (rw (same (codes "..") segment two) (two-closed grown.front grown.slash rest grown.path))) (λ two.
    rw (one, two) (other-closed grown.slash segment rest grown.path h one two)))

one-last : (slash : Bool) (output : Chars) → reduced (at (slashed slash (46 ∷ [])) output) ≡ output ++ slashed slash []
unfolding step reduced
one-last true output = refl
one-last false output = sym (append-nil output)

two-last : (front : Chars) (slash : Bool) (output : Chars)
    → reduced (at (slashed slash (46 ∷ 46 ∷ [])) output) ≡ (segment_pushed (cut_back (record { front = front; path = output; slash = slash })) []).path
unfolding step reduced
two-last front true output = append-nil (without_last_segment output ++ 47 ∷ [])
two-last front false output = refl

other-last : (slash : Bool) (segment output : Chars) → holds 47 segment ≡ false → is (codes ".") segment ≡ false → is (codes "..") segment ≡ false
    → reduced (at (slashed slash segment) output) ≡ output ++ slashed slash segment
unfolding reduced
other-last true segment output h one two = reduced-step (47 ∷ segment) output ∙ ap reduced (last-slashed segment output h one two)
other-last false [] output h one two = sym (append-nil output)
other-last false (c ∷ segment) output h one two = reduced-step (c ∷ segment) output ∙ ap reduced (last-bare c segment output h one two)

pub reduced-last : (grown : Grown) (segment : Chars) → holds 47 segment ≡ false → reduced (buffers_at grown segment) ≡ (after_last grown segment).path
reduced-last grown segment h =
    by_test (is (codes ".") segment) (λ one. rw one (rw (same (codes ".") segment one) (one-last grown.slash grown.path))) (λ one.
    by_test (is (codes "..") segment) (λ two. rw (one, two) (rw (same (codes "..") segment two) (two-last grown.front grown.slash grown.path))) (λ two.
    rw (one, two) (other-last grown.slash segment grown.path h one two)))

-- Takes, one after another

pub takes-none : (grown : Grown) → Takes grown grown []
takes-none grown = record { same_front = refl; leads = λ rest. refl }

pub takes-segment : (old grown : Grown) (taken segment : Chars) → holds 47 segment ≡ false → Takes old grown taken → Takes old (after_segment grown segment) (taken ++ (segment ++ 47 ∷ []))
takes-segment old grown taken segment h t = record {
  same_front = front-stays ∙ t.same_front;
  leads = λ rest.
      let whole : (taken ++ (segment ++ 47 ∷ [])) ++ rest ≡ taken ++ (segment ++ 47 ∷ rest) = simp append_assoc in
      ap (λ (x : Chars). reduced (buffers_at old x)) whole ∙ t.leads (segment ++ 47 ∷ rest) ∙ reduced-closed grown segment rest h;
} where
  front-stays : (after_segment grown segment).front ≡ grown.front
  front-stays = by_test (is (codes ".") segment) (λ one. rw one refl) (λ one. by_test (is (codes "..") segment) (λ two. rw (one, two) refl) (λ two. rw (one, two) refl))

pub takes-both : (old mid new : Grown) (a b : Chars) → Takes old mid a → Takes mid new b → Takes old new (a ++ b)
takes-both old mid new a b s t = record {
  same_front = t.same_front ∙ s.same_front;
  leads = λ rest. ap (λ (x : Chars). reduced (buffers_at old x)) (append_assoc a b rest) ∙ s.leads (b ++ rest) ∙ t.leads rest;
}

-- the whole path: what was taken, and the last segment
pub reduced-whole : (text : Chars) (new : Grown) (taken last : Chars) → holds 47 last ≡ false
    → Takes (record { front = text; path = []; slash = false }) new taken → without_dots (taken ++ last) ≡ (after_last new last).path
unfolding reduced without_dots
reduced-whole text new taken last h t = t.leads last ∙ reduced-last new last h

pub after_last-front : (grown : Grown) (last : Chars) → (after_last grown last).front ≡ grown.front
after_last-front grown last = by_test (is (codes ".") last) (λ one. rw one refl) (λ one. by_test (is (codes "..") last) (λ two. rw (one, two) refl) (λ two. rw (one, two) refl))

-- what is written once the last segment is taken too
pub written : (text : Chars) (start new end : Grown) (path taken last : Chars) → start ≡ record { front = text; path = []; slash = false } → Takes start new taken
    → path ≡ taken ++ last → holds 47 last ≡ false → end ≡ after_last new last → end.front ++ end.path ≡ text ++ without_dots path
written text start new end path taken last s t whole h e =
    let from_start : Takes (record { front = text; path = []; slash = false }) new taken = rw s at t in
    let front : end.front ≡ text = ap (λ (g : Grown). g.front) e ∙ after_last-front new last ∙ from_start.same_front in
    let rest : end.path ≡ without_dots path = ap (λ (g : Grown). g.path) e ∙ sym (ap without_dots whole ∙ reduced-whole text new taken last h from_start) in
    ap (λ (x : Chars). x ++ end.path) front ∙ ap (λ (x : Chars). text ++ x) rest
