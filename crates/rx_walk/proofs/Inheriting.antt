-- When what is inherited is shown.
use Rattle.std.proofs.lemmas.List.{nil_from_length}
use Rattle.rx_walk.proofs.Common.{◌≡◌, ◌≢◌, ◌∙◌, ℕ, true, false, List, [], length, refl, sym, ap, subst, Option, Some, None, ◌||◌, is_some, Chars, State, has_failed, line_of, known, sought, calls_of, Staged, Setting, Walked, WalkStands, HasBase, ShowsOnceKnown}
use Rattle.rx_base.proofs.KnownOver.{knows_over_bytes}
use Rattle.rx_eval.specs.declared.inherited.Inherited.{Inherited}
use Rattle.rx_walk.specs.declared.stages.PendingBase.{PendingBase}
use Rattle.rx_walk.proofs.Wholes.{open_is, no_sought, known_at}
use Rattle.rx_walk.specs.declared.stages.Stage.TheVariants as stage

-- a walk that stands for some bytes hasn't failed
stands_well : (setting : Setting) (address : Chars) (walk : Walked) (bytes : List ℕ) → WalkStands setting address walk bytes → has_failed walk ≡ false
stands_well setting address walk bytes s = ap (λ f. is_some f || walk.out_of_memory) s.unfailed ∙ s.unspent

-- nothing is shown, since one of the two is missing
shows_none : (walk : Walked) → ((setting : Setting) (address : Chars) (bytes : List ℕ) (s : WalkStands setting address walk bytes) → line_of [] s.goes.signs ≢ [] → (href : Option Chars) → sought s.goes.signs ≡ known href → ⊥) → ShowsOnceKnown walk None
shows_none walk never =
    record {
      failed = λ e. refl;
      line = λ setting address bytes s line phase run part u. (
        λ e. absurd (cc),
        λ h.
            absurd
            (never setting address bytes s (λ e. h.0 (sym (open_is setting address walk bytes s line phase run part u) ∙ e)) (h.1).href
            ((knows_over_bytes setting.syntax setting.limits walk.nest bytes s.goes.signs (h.1).href s.goes.shown s.paid).1 (h.1).known)),
      );
    }

pub failed_shows : (walk : Walked) → has_failed walk ≡ true → ShowsOnceKnown walk None
failed_shows walk f = shows_none walk (λ setting address bytes s n href k. (let w : true ≡ false = sym f ∙ stands_well setting address walk bytes s in cc))

pub closed_shows : (walk : Walked) → walk.listener.count ≡ 0 → ShowsOnceKnown walk None
closed_shows walk c = shows_none walk (λ setting address bytes s n href k. n (nil_from_length (line_of [] s.goes.signs) (sym s.goes.known.count_is ∙ c)))

pub seeking_shows : (walk : Walked) (head : PendingBase) → walk.listener.stage ≡ stage.Seeking head → ShowsOnceKnown walk None
seeking_shows walk head e =
    shows_none walk
    (λ setting address bytes s n href k.
    no_sought head.sought href ((subst (λ x. Staged address setting.limits.depth (sought s.goes.signs) (calls_of setting.context [] s.goes.signs) x) e s.goes.known.staged).sought ∙ k))

pub found_shows : (walk : Walked) (state : State) (shown : Inherited) → has_failed walk ≡ false → (walk.listener.count ≡ 0 → ⊥) → walk.listener.stage ≡ stage.Found state → ShowsOnceKnown walk (Some shown)
found_shows walk state shown f c e =
    record {
      failed = λ t. absurd (let w : true ≡ false = sym t ∙ f in cc);
      line = λ setting address bytes s line phase run part u.
          (λ k. (λ l. c (s.goes.known.count_is ∙ ap length (open_is setting address walk bytes s line phase run part u ∙ l)), base setting address bytes s), λ h. refl);
    }
  where
    base : (setting : Setting) (address : Chars) (bytes : List ℕ) → WalkStands setting address walk bytes → HasBase setting bytes
    base setting address bytes s =
        let k = known_at address setting.limits.depth (sought s.goes.signs) (calls_of setting.context [] s.goes.signs) (stage.Found state) state (subst (λ x. Staged address setting.limits.depth (sought s.goes.signs) (calls_of setting.context [] s.goes.signs) x) e s.goes.known.staged) refl in
        record { href = k.href; known = (knows_over_bytes setting.syntax setting.limits walk.nest bytes s.goes.signs k.href s.goes.shown s.paid).0 k.is }
