-- Events one behind another.
use Rattle.rx_terms.proofs.Common.{◌≡◌, ◌∙◌, ◌+◌, ◌<◌, ◌≤◌, suc, List, [], ◌∷◌, ◌++◌, length, map, drop, drop-cons, drop_of_length-le, get_or, refl, sym, ap, arith, append_assoc, append-nil, Some, None, ℕ}
use Rattle.serde.specs.Event as event
use Rattle.serde.specs.Event.{Event, Log, Logs}
use Rattle.serde.specs.declared.name.Case.TheVariants.{AsIs}
use Rattle.serde_json.specs.Data.{Data, array, object, Members}
use Rattle.serde_json.specs.View.{items_of}
use Rattle.rx_json.specs.Events.{Grows, data_events, items_events, members_events, each_events}

same_events : (a b : List Event) → Some a ≡ Some b → a ≡ b
same_events a b e = cc

pub one : (old new : Log) (e : Event) → Logs old new e → Grows old new (e ∷ [])
one None new e l before is = absurd (cc)
one (Some es) new e l before is = l ∙ ap (λ xs. Some (xs ++ e ∷ [])) (same_events es before is)

pub none : (log : Log) → Grows log log []
none log before is = is ∙ ap Some (sym (append-nil before))

pub both : {a b c : Log} {es fs : List Event} → Grows a b es → Grows b c fs → Grows a c (es ++ fs)
both {a} {b} {c} {es} {fs} g h before is = h (before ++ es) (g before is) ∙ ap Some (append_assoc before es fs)

pub told_as : {a b : Log} (es fs : List Event) → es ≡ fs → Grows a b es → Grows a b fs
told_as es fs same g before is = g before is ∙ ap (λ xs. Some (before ++ xs)) same

-- whatever comes to the rest from here comes to all from there
abbrev pub Left : Log → Log → List Event → List Event → Type 0
Left old now rest all = (new : Log) → Grows now new rest → Grows old new all

-- one part more
pub turn : {old now next : Log} {part rest whole all : List Event} → part ++ rest ≡ whole → Left old now whole all → Grows now next part → Left old next rest all
turn {old} {now} {next} {part} {rest} {whole} {all} same left step new more = left new (told_as (part ++ rest) whole same (both step more))

-- nothing is left
pub ends_at : {old now : Log} {all : List Event} (rest : List Event) → rest ≡ [] → Left old now rest all → Grows old now all
ends_at {old} {now} rest done left = left now (told_as [] rest (sym done) (none now))

-- ---- the marks around a value

pub each_items : (ds : List Data) → items_events (items_of ds) ≡ each_events ds
each_items [] = refl
each_items (d ∷ ds) = ap (λ es. data_events d ++ es) (each_items ds)

pub each_more : (xs ys : List Data) → each_events (xs ++ ys) ≡ each_events xs ++ each_events ys
each_more [] ys = refl
each_more (x ∷ xs) ys = ap (λ es. data_events x ++ es) (each_more xs ys) ∙ sym (append_assoc (data_events x) (each_events xs) (each_events ys))

-- some values more at the end
pub each_turn : {start old new : Log} (front more whole : List Data) → front ++ more ≡ whole → Grows start old (each_events front) → Grows old new (each_events more) → Grows start new (each_events whole)
each_turn front more whole is was turn = told_as (each_events front ++ each_events more) (each_events whole) (sym (each_more front more) ∙ ap each_events is) (both was turn)

-- an object, of what stands in it
pub object_made : {old begun each new : Log} (es : List Event) (ms : Members) → es ≡ members_events ms → Logs old begun (event.map_begins None) → Grows begun each es → Logs each new event.map_ends
    → Grows old new (data_events (object ms))
object_made {old} {begun} {each} {new} es ms is b g e =
    told_as (event.map_begins None ∷ (es ++ event.map_ends ∷ [])) (data_events (object ms)) (ap (λ xs. event.map_begins None ∷ (xs ++ event.map_ends ∷ [])) is)
    (both (one old begun (event.map_begins None) b) (both g (one each new event.map_ends e)))

-- an array, of its values
pub array_made : {old begun each new : Log} (ds : List Data) → Logs old begun (event.seq_begins None) → Grows begun each (each_events ds) → Logs each new event.seq_ends → Grows old new (data_events (array (items_of ds)))
array_made {old} {begun} {each} {new} ds b g e =
    told_as (event.seq_begins None ∷ (each_events ds ++ event.seq_ends ∷ [])) (data_events (array (items_of ds))) (ap (λ xs. event.seq_begins None ∷ (xs ++ event.seq_ends ∷ [])) (sym (each_items ds)))
    (both (one old begun (event.seq_begins None) b) (both g (one each new event.seq_ends e)))

-- a key before it
pub group_made : {old begun each new : Log} (keyed : Log) (name : List ℕ) (ds : List Data) → Logs old keyed (event.field_key name AsIs) → Logs keyed begun (event.seq_begins None) → Grows begun each (each_events ds)
    → Logs each new event.seq_ends → Grows old new (event.field_key name AsIs ∷ data_events (array (items_of ds)))
group_made {old} {begun} {each} {new} keyed name ds k b g e = both (one old keyed (event.field_key name AsIs) k) (array_made ds b g e)

-- ---- values in a row: one more is written, and none is left

pub cut : {A : Type 0} (xs : List A) (i : ℕ) (x : A) → i < length xs → drop i xs ≡ get_or xs i x ∷ drop (i + 1) xs
cut xs i x lt = let next : suc i ≡ i + 1 = omega arith in drop-cons xs i x lt ∙ ap (λ (n : ℕ). get_or xs i x ∷ drop n xs) next

pub row_turn : {A : Type 0} (f : A → Data) (xs : List A) (i : ℕ) (x : A) → i < length xs
    → data_events (f (get_or xs i x)) ++ each_events (map f (drop (i + 1) xs)) ≡ each_events (map f (drop i xs))
row_turn {A} f xs i x lt = sym (ap (λ (ys : List A). each_events (map f ys)) (cut xs i x lt))

pub row_end : {A : Type 0} (f : A → Data) (xs : List A) (i : ℕ) → length xs ≤ i → each_events (map f (drop i xs)) ≡ []
row_end {A} f xs i done = ap (λ (ys : List A). each_events (map f ys)) (drop_of_length-le xs done)
