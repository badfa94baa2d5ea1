-- The text that is kept is that of the outermost element that gathers.
use Rattle.std.proofs.lemmas.List.{length-take-le}
use Rattle.rx_walk.proofs.Common.{by_test, length-map, ◌≡◌, ◌∙◌, ℕ, suc, ◌+◌, ◌-◌, List, [], ◌∷◌, ◌++◌, map, length, take, refl, sym, ap, subst, arith, length-append, is_some, if◌then◌else◌, Chars, Context, ElementTag, gathers_some, begun_state, State, Frame, Sign, begun, said, finished, line_on, call_of, calls_of, sought, StepsByCall, Leads, false, Some, Result, Ok, Err, IsOk, OnOk, Call, read_text, Seeking, Staged, found_state}
use Rattle.rx_walk.specs.KeptTexts.{texts_on, texts_after, gathered_text, KeepsOneText}
use Rattle.rx_walk.proofs.Wholes.{known_at}
use Rattle.rx_terms.specs.declared.texts.NoMemory.{NoMemory}
use Rattle.rx_walk.specs.declared.stages.Stage.{Stage}
use Rattle.rx_walk.specs.Quiets.{IsIdle}
use Rattle.rx_walk.proofs.Making.{all_rest}
use Rattle.rx_walk.specs.declared.stages.Stage.TheVariants as stage

-- the lists of frames and of texts, as elements begin, speak and end

with_one : (frames : List Frame) (texts : List Chars) (frame : Frame) → length frames ≡ length texts → gathered_text (frames ++ frame ∷ []) (texts ++ [] ∷ []) ≡ gathered_text frames texts
with_one [] [] frame e = by_test (is_some frame.text) (λ t. rw t refl) (λ f. rw f refl)
with_one [] (t ∷ texts) frame e = absurd (omega (arith, e))
with_one (f ∷ frames) [] frame e = absurd (omega (arith, e))
with_one (f ∷ frames) (t ∷ texts) frame e = ap (λ x. if is_some f.text then t else x) (with_one frames texts frame (omega (arith, e)))

with_more : (frames : List Frame) (texts : List Chars) (chars : Chars) → length frames ≡ length texts
    → (if gathers_some frames then gathered_text frames texts ++ chars else gathered_text frames texts) ≡ gathered_text frames (map (λ text. text ++ chars) texts)
with_more [] texts chars e = refl
with_more (f ∷ frames) [] chars e = absurd (omega (arith, e))
with_more (f ∷ frames) (t ∷ texts) chars e = by_test (is_some f.text) (λ s. rw s refl) (λ n. rw n (with_more frames texts chars (omega (arith, e))))

all_but : (t : Chars) (texts : List Chars) (n : ℕ) → length texts ≡ suc n → take (length (t ∷ texts) - 1) (t ∷ texts) ≡ t ∷ take (length texts - 1) texts
all_but t texts n e = let k : length (t ∷ texts) - 1 ≡ suc (length texts - 1) = omega (arith, e) in ap (λ m. take m (t ∷ texts)) k

with_less : (frames : List Frame) (texts : List Chars) (frame : Frame) → length texts ≡ length frames + 1
    → (if gathers_some frames then gathered_text (frames ++ frame ∷ []) texts else []) ≡ gathered_text frames (take (length texts - 1) texts)
with_less [] texts frame e = refl
with_less (f ∷ frames) [] frame e = absurd (omega (arith, e))
with_less (f ∷ frames) (t ∷ texts) frame e =
    let here : (if gathers_some (f ∷ frames) then gathered_text (f ∷ frames ++ frame ∷ []) (t ∷ texts) else []) ≡ gathered_text (f ∷ frames) (t ∷ take (length texts - 1) texts) =
    by_test (is_some f.text) (λ s. rw s refl) (λ n. rw n (with_less frames texts frame (omega (arith, e)))) in
    here ∙ ap (gathered_text (f ∷ frames)) (sym (all_but t texts (length frames) (omega (arith, e))))

-- as many texts as frames, and that one is kept
record Kept (state : State) (texts : List Chars) : Type 0 where
  many : length state.frames ≡ length texts
  kept : state.kept ≡ gathered_text state.frames texts

one_kept : (context : Context) (line : List ElementTag) (texts : List Chars) (sign : Sign) (old new : State) → StepsByCall (call_of context line sign) old new → Kept old texts → Kept new (texts_on texts sign)
one_kept context line texts (begun t) old new s k =
    let o = s.1 in
    let size : length new.frames ≡ length old.frames + 1 = ap length o.pushed ∙ length-append old.frames (o.frame ∷ []) in
    record {
      many = omega (arith, size, k.many, length-append texts ([] ∷ []));
      kept = o.rest.4 ∙ (k.kept ∙ (sym (with_one old.frames texts o.frame k.many) ∙ ap (λ fs. gathered_text fs (texts ++ [] ∷ [])) (sym o.pushed)));
    }
one_kept context line texts (said c) old new s k =
    let same : new.frames ≡ old.frames = ap (λ (z : State). z.frames) s in
    record {
      many = ap length same ∙ (k.many ∙ sym (length-map texts (λ text. text ++ c ∷ [])));
      kept =
          ap (λ (z : State). z.kept) s ∙ (ap (λ x. if gathers_some old.frames then x ++ c ∷ [] else x) k.kept
          ∙ (with_more old.frames texts (c ∷ []) k.many ∙ ap (λ fs. gathered_text fs (map (λ text. text ++ c ∷ []) texts)) (sym same)));
    }
one_kept context line texts finished old new c k =
    let size : length old.frames ≡ length new.frames + 1 = ap length c.popped ∙ length-append new.frames (c.frame ∷ []) in
    let less : length (take (length texts - 1) texts) ≡ length texts - 1 = length-take-le (length texts - 1) texts (omega arith) in
    record {
      many = omega (arith, size, less, k.many);
      kept =
          c.kept ∙ (ap (λ x. if gathers_some new.frames then x else []) (k.kept ∙ ap (λ fs. gathered_text fs texts) c.popped)
          ∙ with_less new.frames texts c.frame (omega (arith, size, k.many)));
    }

all_kept : (context : Context) (line : List ElementTag) (texts : List Chars) (signs : List Sign) (old new : State) → Leads (calls_of context line signs) old new → Kept old texts → Kept new (texts_after texts signs)
all_kept context line texts [] old new h k = subst (λ z. Kept z texts) (sym h) k
all_kept context line texts (sign ∷ signs) old new h k =
    all_kept context (line_on line sign) (texts_on texts sign) signs h.0 new h.2 (one_kept context line texts sign old h.0 h.1 k)

pub keeps_one_text : KeepsOneText
keeps_one_text setting address walk bytes s state e =
    let known = known_at address setting.limits.depth (sought s.goes.signs) (calls_of setting.context [] s.goes.signs) walk.listener.stage state s.goes.known.staged e in
    let begun : Kept (begun_state _ setting.limits.depth) [] = record { many = refl; kept = refl } in
    (all_kept setting.context [] [] s.goes.signs (begun_state _ setting.limits.depth) state known.led.leads begun).kept

-- where no open element gathers its text a stage is idle, and text leaves it so
read_idle : (chars : Chars) (old new : State) → new ≡ read_text chars old → old.out_of_memory ≡ false → gathers_some old.frames ≡ false → IsIdle (stage.Found new)
read_idle chars old new e s g = (ap (λ (z : State). z.out_of_memory) e ∙ s, ap (λ (z : State). gathers_some z.frames) e ∙ g)

pub text_idle : (chars : Chars) (r : Result (Unit {0}) NoMemory) (old new : State) → IsOk r → OnOk r (new ≡ read_text chars old) → old.out_of_memory ≡ false → gathers_some old.frames ≡ false → IsOk r × IsIdle (stage.Found new)
text_idle chars (Ok done) old new k e s g = (k, read_idle chars old new e s g)
text_idle chars (Err why) old new k e s g = absurd (cc)

pub idle_at : (address : Chars) (levels : ℕ) (seeking : Seeking) (list : List Call) (x : Stage) (state : State) → Staged address levels seeking list x → found_state x ≡ Some state → gathers_some state.frames ≡ false → IsIdle x
idle_at address levels seeking list (stage.Seeking head) state s e g = absurd (cc)
idle_at address levels seeking list (stage.Found other) state s e g =
    let is : other ≡ state = cc in
    ((all_rest list (begun_state _ levels) other s.led.leads).1, ap (λ (z : State). gathers_some z.frames) is ∙ g)
