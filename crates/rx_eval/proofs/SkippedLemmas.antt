-- The frames of all open elements, where the skipped ones are counted.
use Rattle.rx_eval.proofs.Common.{◌≡◌, ◌∙◌, ◌<◌, ◌-◌, ◌+◌, ℕ, zero, suc, false, List, [], ◌∷◌, ◌++◌, length, refl, sym, ap, arith, append_assoc, length-append, Inherited, context_seen, around_in, handed_on, Frame, frame_seen, gathers_some, skipped_frame, skipped_frames, all_frames, IsRooted}
use Rattle.rx_eval.specs.declared.contexts.EvaluationContext.{EvaluationContext}
use Rattle.rx_eval.specs.declared.frames.Frame.{Frame as CodeFrame}

-- one more with a frame of its own, inside as many skipped ones as it counts, and so many skipped ones in it
pub counted_all : (a : Inherited ℕ ℕ) (fs : List CodeFrame) (f : CodeFrame) (m : ℕ)
    → all_frames a (fs ++ f ∷ []) m ≡ all_frames a fs f.skipped ++ frame_seen f ∷ skipped_frames (context_seen f.context) m
counted_all a [] f m = refl
counted_all a (x ∷ fs) f m =
    ap (λ (l : List Frame). skipped_frames a x.skipped ++ frame_seen x ∷ l) (counted_all (context_seen x.context) fs f m)
    ∙ sym (append_assoc (skipped_frames a x.skipped) (frame_seen x ∷ all_frames (context_seen x.context) fs f.skipped) (frame_seen f ∷ skipped_frames (context_seen f.context) m))

-- ---- the context behind the frames

pub handed_skipped : (a : Inherited ℕ ℕ) (n : ℕ) → handed_on a (skipped_frames a n) ≡ a
handed_skipped a zero = refl
handed_skipped a (suc n) = handed_skipped a n

pub handed_joined : (a : Inherited ℕ ℕ) (xs ys : List Frame) → handed_on a (xs ++ ys) ≡ handed_on (handed_on a xs) ys
handed_joined a [] ys = refl
handed_joined a (x ∷ xs) ys = handed_joined x.context xs ys

pub handed_all : (page : EvaluationContext) (fs : List CodeFrame) (n : ℕ) → handed_on (context_seen page) (all_frames (context_seen page) fs n) ≡ context_seen (around_in page fs)
handed_all page [] n = handed_skipped (context_seen page) n
handed_all page (x ∷ fs) n =
    handed_joined (context_seen page) (skipped_frames (context_seen page) x.skipped) (frame_seen x ∷ all_frames (context_seen x.context) fs n)
    ∙ handed_all x.context fs n

-- ---- one skipped more

pub skipped_more : (a : Inherited ℕ ℕ) (n : ℕ) → skipped_frames a (suc n) ≡ skipped_frames a n ++ skipped_frame a ∷ []
skipped_more a zero = refl
skipped_more a (suc n) = ap (λ (l : List Frame). skipped_frame a ∷ l) (skipped_more a n)

counted_more : (page : EvaluationContext) (fs : List CodeFrame) (n : ℕ)
    → all_frames (context_seen page) fs (suc n) ≡ all_frames (context_seen page) fs n ++ skipped_frame (context_seen (around_in page fs)) ∷ []
counted_more page [] n = skipped_more (context_seen page) n
counted_more page (x ∷ fs) n =
    ap (λ (l : List Frame). skipped_frames (context_seen page) x.skipped ++ frame_seen x ∷ l) (counted_more x.context fs n)
    ∙ sym (append_assoc (skipped_frames (context_seen page) x.skipped) (frame_seen x ∷ all_frames (context_seen x.context) fs n) (skipped_frame (context_seen (around_in x.context fs)) ∷ []))

pub one_more : (page : EvaluationContext) (fs : List CodeFrame) (m n : ℕ) → m ≡ suc n
    → all_frames (context_seen page) fs m
    ≡ all_frames (context_seen page) fs n ++ skipped_frame (handed_on (context_seen page) (all_frames (context_seen page) fs n)) ∷ []
one_more page fs m n e =
    ap (all_frames (context_seen page) fs) e ∙ counted_more page fs n ∙ ap (λ (a : Inherited ℕ ℕ). all_frames (context_seen page) fs n ++ skipped_frame a ∷ []) (sym (handed_all page fs n))

-- ---- how many there are

pub length_skipped : (a : Inherited ℕ ℕ) (n : ℕ) → length (skipped_frames a n) ≡ n
length_skipped a zero = refl
length_skipped a (suc n) = ap suc (length_skipped a n)

-- so many more are skipped
pub counted_length : (a : Inherited ℕ ℕ) (fs : List CodeFrame) (m : ℕ) → length (all_frames a fs m) ≡ length (all_frames a fs 0) + m
counted_length a [] m = omega (arith, length_skipped a m)
counted_length a (x ∷ fs) m =
    let l = length-append (skipped_frames a x.skipped) (frame_seen x ∷ all_frames (context_seen x.context) fs m) in
    let k = length-append (skipped_frames a x.skipped) (frame_seen x ∷ all_frames (context_seen x.context) fs 0) in
    omega (arith, l, k, counted_length (context_seen x.context) fs m)

-- inside a skipped element that isn't the root
pub rooted_above : (a : Inherited ℕ ℕ) (fs : List CodeFrame) (n : ℕ) → IsRooted fs n → 0 < n → 0 < length (all_frames a fs (n - 1))
rooted_above a [] n r h = absurd (omega (arith, r, h))
rooted_above a (x ∷ fs) n r h =
    let l = length-append (skipped_frames a x.skipped) (frame_seen x ∷ all_frames (context_seen x.context) fs (n - 1)) in omega (arith, l)

pub rooted_more : (fs : List CodeFrame) (f : CodeFrame) → IsRooted fs f.skipped → IsRooted (fs ++ f ∷ []) 0
rooted_more [] f r = r
rooted_more (x ∷ fs) f r = r

pub rooted_less : (fs : List CodeFrame) (f : CodeFrame) (n : ℕ) → IsRooted (fs ++ f ∷ []) n → IsRooted fs f.skipped
rooted_less [] f n r = r
rooted_less (x ∷ fs) f n r = r

pub rooted_in : (a : Inherited ℕ ℕ) (fs : List CodeFrame) (n m : ℕ) → IsRooted fs n → 0 < length (all_frames a fs n) → IsRooted fs m
rooted_in a [] n m r h = let l = length_skipped a n in absurd (omega (arith, l, r, h))
rooted_in a (x ∷ fs) n m r h = r

-- ---- which gather their text

pub none_gathers : (a : Inherited ℕ ℕ) (n : ℕ) → gathers_some (skipped_frames a n) ≡ false
none_gathers a zero = refl
none_gathers a (suc n) = none_gathers a n

pub others_gather : (a : Inherited ℕ ℕ) (n : ℕ) (fs : List Frame) → gathers_some (skipped_frames a n ++ fs) ≡ gathers_some fs
others_gather a zero fs = refl
others_gather a (suc n) fs = others_gather a n fs
