-- The start of an element on the stack.
use Rattle.rx_eval.proofs.Common.{◌≡◌, ◌∙◌, ℕ, suc, Bool, true, ◌+◌, ◌<◌, ◌^◌, List, [], ◌∷◌, map, length, Option, Some, None, option_map, refl, sym, ap, arith, is_some, IfSome, ◌==◌, nat_tests, Chars, Facts, Inherited, Owning, Gathers, resources_by, places_at, Numbered, Drawn, context_seen, waiting_seen, around_in, all_frames, handed_on, text_seen, Wait, wait_seen, wait_by, zero, ◌-◌, ◌≤◌, get_or}
use Rattle.rx_eval.specs.declared.places.Level.{Level}
use Rattle.rx_eval.specs.declared.contexts.EvaluationContext.{EvaluationContext}
use Rattle.rx_eval.specs.declared.frames.Frame.{Frame as CodeFrame}
use Rattle.rx_eval.specs.declared.frames.Gathered.{Gathered}
use Rattle.rx_eval.specs.declared.contexts.IncompleteTriple.{IncompleteTriple}
use Rattle.rx_eval.proofs.DrawLemmas.{drawn_most}
use Rattle.rx_eval.proofs.SkippedLemmas.{handed_all}
use Rattle.rx_eval.specs.declared.contexts.IncompleteTriple.TheVariants as code

-- the last frame
last_context : (page : EvaluationContext) (frames : List CodeFrame) (n : ℕ) (f : CodeFrame) → length frames ≡ suc n → f ≡ get_or frames n f → f.context ≡ around_in page frames
last_context page (x ∷ []) zero f e h = ap (λ (y : CodeFrame). y.context) h
last_context page (x ∷ []) (suc n) f e h = absurd (omega arith)
last_context page (x ∷ y ∷ frames) (suc n) f e h = last_context x.context (y ∷ frames) n f (omega arith) h
last_context page _ _ f e h = absurd (omega arith)

pub around_last : (page : EvaluationContext) (frames : List CodeFrame) (f : CodeFrame) → 1 ≤ length frames → f ≡ get_or frames (length frames - 1) f → f.context ≡ around_in page frames
around_last page [] f e h = absurd (omega arith)
around_last page (x ∷ frames) f e h =
    let z : length (x ∷ frames) - 1 ≡ length frames = omega arith in
    last_context page (x ∷ frames) (length frames) f refl (h ∙ ap (λ (n : ℕ). get_or (x ∷ frames) n f) z)

pub around_is : (page around : EvaluationContext) (frames items : List CodeFrame) (n : ℕ) → around ≡ around_in page frames → frames ≡ items
    → context_seen around ≡ handed_on (context_seen page) (all_frames (context_seen page) items n)
around_is page around frames items n e f = ap context_seen (e ∙ ap (around_in page) f) ∙ sym (handed_all page items n)

pub text_is : (g : Option Gathered) → is_some (option_map text_seen g) ≡ is_some g
text_is None = refl
text_is (Some g) = refl

pub opened_text : (labels : Numbered) (fresh : ℕ) (base : Chars) (facts : Facts) (owners : List (Option Owning)) (l m : Level) (a b : Inherited ℕ ℕ) (n k : ℕ) (g : Option Gathered) → l ≡ m → a ≡ b → n ≡ k
    → IfSome g (λ x. Gathers facts (resources_by labels fresh base l a facts) (places_at labels fresh base l a facts owners) n (text_seen x))
    → IfSome (option_map text_seen g) (Gathers facts (resources_by labels fresh base m b facts) (places_at labels fresh base m b facts owners) k)
opened_text labels fresh base facts owners l m a b n k None d e f h = tt
opened_text labels fresh base facts owners l m a b n k (Some x) d e f h = rw (sym d, sym e, sym f) h

-- the numbers of one element's labels and of its new node
pub fresh_room : (old new : Numbered) (next fresh : ℕ) (labels : List Chars) → Drawn old next labels new fresh → next + 1 + length labels < 2 ^ 64 → fresh + 1 < 2 ^ 64
fresh_room old new next fresh labels d h = omega (arith, drawn_most old new next fresh labels d, h)

waits_are : (ws : List IncompleteTriple) → map wait_seen ws ≡ map wait_by (map waiting_seen ws)
waits_are [] = refl
waits_are (code.Forward p ∷ ws) = ap (λ (l : List Wait). wait_seen (code.Forward p) ∷ l) (waits_are ws)
waits_are (code.Reverse p ∷ ws) = ap (λ (l : List Wait). wait_seen (code.Reverse p) ∷ l) (waits_are ws)
waits_are (code.InList o p ∷ ws) = ap (λ (l : List Wait). wait_seen (code.InList o p) ∷ l) (waits_are ws)

pub shown_waits : (around : EvaluationContext) (ws : List IncompleteTriple) (context : Inherited ℕ ℕ) → ws ≡ around.hanging → context_seen around ≡ context → map wait_seen ws ≡ map wait_by context.hanging
shown_waits around ws context e a = ap (map wait_seen) e ∙ waits_are around.hanging ∙ ap (λ (x : Inherited ℕ ℕ). map wait_by x.hanging) a

pub none_hangs : (around : EvaluationContext) (ws : List IncompleteTriple) (context : Inherited ℕ ℕ) (b : Bool) → ws ≡ around.hanging → context_seen around ≡ context → b ≡ (length ws == 0) → b ≡ true → context.hanging ≡ []
none_hangs around [] context b e a h t = sym (ap (λ (x : Inherited ℕ ℕ). x.hanging) a) ∙ ap (map waiting_seen) (sym e)
none_hangs around (w ∷ ws) context b e a h t = absurd (let z : (suc (length ws) == 0) ≡ true = sym h ∙ t in grind (arith, nat_tests))
