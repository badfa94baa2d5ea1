-- Which text is kept.
use Rattle.rx_eval.proofs.Common.{◌≡◌, ◌∙◌, ℕ, suc, ◌<◌, ◌≤◌, ◌-◌, ◌+◌, Bool, true, false, List, [], ◌∷◌, ◌++◌, length, Option, Some, None, option_map, refl, sym, ap, subst, arith, length-append, true≢false, is_some, ◌||◌, ◌==◌, if◌then◌else◌, nat_tests, Chars, by_test, frame_seen, text_seen, Inherited, context_seen, all_frames, IsRooted, gathers_some, first_gathering, outermost_place, is_place, IsSound}
use Rattle.rx_eval.specs.declared.frames.Frame.{Frame as CodeFrame}
use Rattle.rx_eval.specs.declared.frames.Gathered.{Gathered}
use Rattle.rx_eval.proofs.ListLemmas.{suc_is}
use Rattle.rx_eval.proofs.NumberLemmas.{none_is}
use Rattle.rx_eval.proofs.SkippedLemmas.{counted_all, counted_length, rooted_more, rooted_less, rooted_in, none_gathers, others_gather}

-- one more frame
pub first_more : (fs : List CodeFrame) (f : CodeFrame) → first_gathering (fs ++ f ∷ []) ≡ outermost_place (first_gathering fs) (is_some f.gathered) (length fs)
first_more [] f = by_test (is_some f.gathered) (λ t. rw t refl) (λ n. rw n refl)
first_more (x ∷ fs) f = by_test (is_some x.gathered) (λ t. rw t refl) (λ n. rw n (ap (option_map suc) (first_more fs f) ∙ past (first_gathering fs) (is_some f.gathered) (length fs)))
  where
    past : (m : Option ℕ) (b : Bool) (n : ℕ) → option_map suc (outermost_place m b n) ≡ outermost_place (option_map suc m) b (suc n)
    past None true n = refl
    past _ _ n = refl

-- the place is one of the frames
bounded : (fs : List CodeFrame) (m : ℕ) → first_gathering fs ≡ Some m → m < length fs
bounded [] m h = absurd (cc)
bounded (x ∷ fs) m h =
    by_test (is_some x.gathered) (λ t. let z : 0 ≡ m = cc (rw t at h) in omega (arith, z))
    (λ n. let k = suc_is (first_gathering fs) m (rw n at h) in let l = bounded fs k.0 k.1 in let z = k.2 in omega (arith, l, z))

-- the last one is gone
pub first_less : (fs : List CodeFrame) (f : CodeFrame) (old : Option ℕ) → old ≡ first_gathering (fs ++ f ∷ []) → (if is_place old (length fs) then None else old) ≡ first_gathering fs
first_less fs f old e = ap (λ (o : Option ℕ). if is_place o (length fs) then None else o) (e ∙ first_more fs f) ∙ back (first_gathering fs) refl (is_some f.gathered)
  where
    back : (r : Option ℕ) → first_gathering fs ≡ r → (b : Bool) → (if is_place (outermost_place r b (length fs)) (length fs) then None else outermost_place r b (length fs)) ≡ r
    back None e true = let z : (length fs == length fs) ≡ true = grind (arith, nat_tests) in rw z refl
    back None e false = refl
    back (Some m) e b = let l = bounded fs m e in let z : (m == length fs) ≡ false = grind (arith, nat_tests) in rw z refl

pub some_gathers : (a : Inherited ℕ ℕ) (fs : List CodeFrame) (n : ℕ) → gathers_some (all_frames a fs n) ≡ is_some (first_gathering fs)
some_gathers a [] n = none_gathers a n
some_gathers a (x ∷ fs) n =
    others_gather a x.skipped (frame_seen x ∷ all_frames (context_seen x.context) fs n) ∙ case x.gathered (some_gathers (context_seen x.context) fs n)
  where
    past : (r : Option ℕ) → is_some r ≡ is_some (option_map suc r)
    past None = refl
    past (Some m) = refl

    case : (g : Option Gathered) → gathers_some (all_frames (context_seen x.context) fs n) ≡ is_some (first_gathering fs)
        → (is_some (option_map text_seen g) || gathers_some (all_frames (context_seen x.context) fs n)) ≡ is_some (if is_some g then Some 0 else option_map suc (first_gathering fs))
    case None h = h ∙ past (first_gathering fs)
    case (Some g) h = refl

kept_by : (b : Bool) (old r : Option ℕ) (kept : Chars) → (if b then None else old) ≡ r → (old ≡ None → kept ≡ []) → (if b then [] else kept) ≡ (if is_some r then kept else [])
kept_by false None r kept e q = q refl ∙ ap (λ (o : Option ℕ). if is_some o then kept else []) e
kept_by _ _ r kept e q = ap (λ (o : Option ℕ). if is_some o then kept else []) e

quiet_by : (b : Bool) (old : Option ℕ) (kept : Chars) → (old ≡ None → kept ≡ []) → (if b then None else old) ≡ None → (if b then [] else kept) ≡ []
quiet_by true old kept q e = refl
quiet_by false old kept q e = q e

was_none : (old : Option ℕ) (b : Bool) (n : ℕ) → outermost_place old b n ≡ None → old ≡ None
was_none None b n e = refl
was_none (Some m) b n e = e

-- the same frames, with so many skipped elements in them
sound_with : {levels depth : ℕ} {a : Inherited ℕ ℕ} {fs : List CodeFrame} {skipped : ℕ} {place : Option ℕ} {kept : Chars} → IsSound levels depth a fs skipped place kept → 0 < depth
    → (m : ℕ) {d : ℕ} → d ≤ levels → d ≡ length (all_frames a fs m) → IsSound levels d a fs m place kept
sound_with {a = a} {fs = fs} {skipped = skipped} s h m r e = record {
  room = r;
  deep = e;
  within = omega (arith, e, counted_length a fs m);
  rooted = rooted_in a fs skipped m s.rooted (omega (arith, h, s.deep));
  first = s.first;
  quiet = s.quiet;
}

module _ {levels depth : ℕ} {a : Inherited ℕ ℕ} {fs : List CodeFrame} {skipped : ℕ} {place : Option ℕ} {kept : Chars} (s : IsSound levels depth a fs skipped place kept) where
  pub gathers_is : gathers_some (all_frames a fs skipped) ≡ is_some place
  gathers_is = some_gathers a fs skipped ∙ ap (λ (o : Option ℕ). is_some o) (sym s.first)

  -- where nothing gathers, nothing is kept
  pub kept_is : (n : ℕ) → kept ≡ (if gathers_some (all_frames a fs n) then kept else [])
  kept_is n =
      let text : Bool → Chars = λ b. if b then kept else [] in
      kept_by false place (first_gathering fs) kept s.first s.quiet ∙ ap text (sym (some_gathers a fs n))

  -- the same by the frames
  pub quiet_is : gathers_some (all_frames a fs skipped) ≡ false → kept ≡ []
  quiet_is h = s.quiet (none_is place (sym gathers_is ∙ h))

  -- text is pushed where some frame gathers
  pub sound_grown : (now : Chars) (b : Bool) → b ≡ gathers_some (all_frames a fs skipped) → b ≡ true → IsSound levels depth a fs skipped place now
  sound_grown now b g t = record { room = s.room; deep = s.deep; within = s.within; rooted = s.rooted; first = s.first; quiet = λ z. absurd (true≢false (sym t ∙ g ∙ gathers_is ∙ ap (λ (o : Option ℕ). is_some o) z)) }

  -- a frame more
  pub sound_more : {n : ℕ} {more : List CodeFrame} (f : CodeFrame) {after : Option ℕ} → depth < levels → f.skipped ≡ skipped → more ≡ fs ++ f ∷ [] → n ≡ length fs
      → after ≡ outermost_place place (is_some f.gathered) n → IsSound levels (depth + 1) a more 0 after kept
  sound_more {n} {more} f {after} r k e l h = record {
    room = omega (arith, r);
    deep =
        let c : length (all_frames a more 0) ≡ length (all_frames a fs skipped ++ frame_seen f ∷ []) =
        ap length (ap (λ (x : List CodeFrame). all_frames a x 0) e ∙ counted_all a fs f 0 ∙ ap (λ (x : ℕ). all_frames a fs x ++ frame_seen f ∷ []) k) in
        omega (arith, c, s.deep, length-append (all_frames a fs skipped) (frame_seen f ∷ []));
    within = omega arith;
    rooted = subst (λ (x : List CodeFrame). IsRooted x 0) (sym e) (rooted_more fs f (subst (IsRooted fs) (sym k) s.rooted));
    first =
        h ∙ ap (outermost_place place (is_some f.gathered)) l ∙ ap (λ (o : Option ℕ). outermost_place o (is_some f.gathered) (length fs)) s.first ∙ sym (first_more fs f)
        ∙ ap first_gathering (sym e);
    quiet = λ z. s.quiet (was_none place (is_some f.gathered) n (sym h ∙ z));
  }

  -- a frame more, and so many skipped elements in it
  pub sound_framed : {n : ℕ} (m : ℕ) {more : List CodeFrame} (f : CodeFrame) {after : Option ℕ} → depth + 1 + m ≤ levels → 0 < depth → f.skipped ≡ skipped → more ≡ fs ++ f ∷ [] → n ≡ length fs
      → after ≡ outermost_place place (is_some f.gathered) n → IsSound levels (depth + (1 + m)) a more m after kept
  sound_framed {n} m {more} f {after} r d k e l h =
      let t : IsSound levels (depth + 1) a more 0 after kept = sound_more f (omega (arith, r)) k e l h in
      sound_with t (omega arith) m {d = depth + (1 + m)} (omega (arith, r)) (omega (arith, t.deep, counted_length a more m))

  -- a skipped element more
  pub sound_counted : depth < levels → 0 < depth → IsSound levels (depth + 1) a fs (skipped + 1) place kept
  sound_counted r h = sound_with s h (skipped + 1) (omega (arith, r)) (omega (arith, s.deep, counted_length a fs (skipped + 1), counted_length a fs skipped))

  -- a skipped element is gone
  pub sound_uncounted : 0 < skipped → IsSound levels (depth - 1) a fs (skipped - 1) place kept
  sound_uncounted h =
      sound_with s (omega (arith, h, s.deep, counted_length a fs skipped)) (skipped - 1) (omega (arith, s.room)) (omega (arith, s.deep, counted_length a fs skipped, counted_length a fs (skipped - 1), h))

-- the last frame f was taken from the old ones
module _ {levels depth : ℕ} {a : Inherited ℕ ℕ} {old : List CodeFrame} {skipped : ℕ} {place : Option ℕ} {kept : Chars} (s : IsSound levels depth a old skipped place kept) (k : skipped ≡ 0)
    {n : ℕ} (fs : List CodeFrame) (f : CodeFrame) {was : Bool} (e : old ≡ fs ++ f ∷ []) (l : n ≡ length fs) (w : was ≡ is_place place n) where
  first_left : (if was then None else place) ≡ first_gathering fs
  first_left =
      ap (λ (b : Bool). if b then None else place) (w ∙ ap (is_place place) l) ∙ first_less fs f place (s.first ∙ ap first_gathering e)

  pub frames_left : all_frames a old skipped ≡ all_frames a fs f.skipped ++ frame_seen f ∷ []
  frames_left = ap (all_frames a old) k ∙ ap (λ (x : List CodeFrame). all_frames a x 0) e ∙ counted_all a fs f 0

  -- text that nothing gathers any more is dropped
  pub kept_left : {now : Chars} → now ≡ (if was then [] else kept) → now ≡ (if gathers_some (all_frames a fs f.skipped) then kept else [])
  kept_left {now} h =
      let text : Bool → Chars = λ b. if b then kept else [] in
      h ∙ kept_by was place (first_gathering fs) kept first_left s.quiet ∙ ap text (sym (some_gathers a fs f.skipped))

  pub depth_left : depth - 1 ≡ length (all_frames a fs f.skipped)
  depth_left =
      let c : length (all_frames a old skipped) ≡ length (all_frames a fs f.skipped ++ frame_seen f ∷ []) = ap length frames_left in
      omega (arith, c, s.deep, length-append (all_frames a fs f.skipped) (frame_seen f ∷ []))

  pub sound_left : {after : Option ℕ} {now : Chars} → after ≡ (if was then None else place) → now ≡ (if was then [] else kept) → IsSound levels (depth - 1) a fs f.skipped after now
  sound_left {after} {now} o h = record {
    room = omega (arith, s.room);
    deep = depth_left;
    within = omega (arith, depth_left, counted_length a fs f.skipped);
    rooted = rooted_less fs f skipped (subst (λ (x : List CodeFrame). IsRooted x skipped) e s.rooted);
    first = o ∙ first_left;
    quiet = λ z. h ∙ quiet_by was place kept s.quiet (sym o ∙ z);
  }
