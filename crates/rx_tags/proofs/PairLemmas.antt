-- What the moves of a value do is what the reader does.
use Rattle.rx_reader.proofs.Common.{◌≡◌, ◌∙◌, sym, ap, subst, refl, Some, None, ℕ, true, false, [], ◌∷◌, ◌++◌, Option, Result, Ok, Err, arith, ◌==◌, if◌then◌else◌, nat_tests, and_parts, and_from, list_all, ascii-same, ampersand, number_sign, semicolon, is_ascii, is_letter, is_digit, is_letter_or_digit, Chars, by_test, split, encode_utf8_all, OnOk, OnErr, Syntax, Html, Xhtml, is_plain, is_x, is_hexadecimal_digit, Kind, StrictText, run_move, PartialValue, no_meaning, known_as, plain_step, meant, run_step, value_step, value_end, is_run}
use Rattle.std.proofs.lemmas.List.{append-nil, append_assoc}
use Rattle.std.specs.Result.{is_err}
use Rattle.rx_terms.specs.declared.texts.NoMemory.{NoMemory}
use Rattle.rx_reader.specs.declared.phases.RunPhase.{RunPhase}
use Rattle.rx_reader.specs.declared.phases.RunPhase.TheVariants as run
use Rattle.rx_reader.specs.declared.phases.RunMove.{RunMove}
use Rattle.rx_reader.specs.declared.phases.RunMove.TheVariants as reader
use Rattle.rx_tags.specs.declared.values.ValueMove.{ValueMove}
use Rattle.rx_tags.specs.declared.values.ValueMove.TheVariants.{Begins, Is, Goes, Closes, Bad}
use Rattle.rx_tags.specs.ValueMoves.{plain_move, of_run, value_move}
use Rattle.rx_tags.specs.Pairs.{after_first, IsPendingRun, may_end}

-- what a move does to a value; `text` is the value with a run before the character
abbrev pub applied : (Chars → Option ℕ) → PartialValue → Chars → ℕ → ValueMove → Result PartialValue Kind
applied means value text c Begins = Ok (record { phase = run.Ampersand; known = text; run = [] })
applied means value text c (Is given) = Ok (known_as (text ++ given ∷ []))
applied means value text c (Goes phase) = Ok (record { phase = phase; known = value.known; run = value.run ++ c ∷ [] })
applied means value text c Closes = meant value (means value.run)
applied means value text c Bad = Err StrictText

plain_law : (s : Syntax) (means : Chars → Option ℕ) (value : PartialValue) (text : Chars) (c : ℕ) → plain_step s text c ≡ applied means value text c (plain_move s c)
plain_law s means value text c =
    by_test (c == ampersand) (λ e. rw (e) refl) (λ e. by_test (is_plain s c) (λ f. rw (e, f) refl) (λ f. rw (e, f) refl))

of_run_law : (s : Syntax) (means : Chars → Option ℕ) (value : PartialValue) (text : Chars) (c : ℕ) (m : RunMove) → value.known ++ ampersand ∷ value.run ≡ text
    → run_step s means value c m ≡ applied means value text c (of_run s c m)
of_run_law s means value text c (reader.Goes q) e = refl
of_run_law Html means value text c reader.Stops e = ap (λ t. plain_step Html t c) e ∙ plain_law Html means value text c
of_run_law _ means value text c _ e = refl

in_run : (known pending : Chars) → pending ≡ ampersand ∷ after_first pending → known ++ ampersand ∷ after_first pending ≡ known ++ pending
in_run known pending e = ap (λ rest. known ++ rest) (sym e)

pub step_law : (s : Syntax) (means : Chars → Option ℕ) (p : RunPhase) (known pending : Chars) (c : ℕ) → IsPendingRun p pending
    → value_step s means (record { phase = p; known = known; run = after_first pending }) c
    ≡ applied means (record { phase = p; known = known; run = after_first pending }) (known ++ pending) c (value_move s p c)
step_law s means run.Plain known pending c h =
    let e : known ≡ known ++ pending = sym (append-nil known) ∙ ap (λ rest. known ++ rest) (sym h) in
    ap (λ t. plain_step s t c) e ∙ plain_law s means (record { phase = run.Plain; known = known; run = after_first pending }) (known ++ pending) c
step_law s means run.Ampersand known pending c h = of_run_law s means (record { phase = run.Ampersand; known = known; run = after_first pending }) (known ++ pending) c (run_move run.Ampersand c) (in_run known pending h.0)
step_law s means run.Named known pending c h = of_run_law s means (record { phase = run.Named; known = known; run = after_first pending }) (known ++ pending) c (run_move run.Named c) (in_run known pending h.0)
step_law s means run.Hash known pending c h = of_run_law s means (record { phase = run.Hash; known = known; run = after_first pending }) (known ++ pending) c (run_move run.Hash c) (in_run known pending h.0)
step_law s means run.Decimal known pending c h = of_run_law s means (record { phase = run.Decimal; known = known; run = after_first pending }) (known ++ pending) c (run_move run.Decimal c) (in_run known pending h.0)
step_law s means run.Mark known pending c h = of_run_law s means (record { phase = run.Mark; known = known; run = after_first pending }) (known ++ pending) c (run_move run.Mark c) (in_run known pending h.0)
step_law s means run.Hexadecimal known pending c h = of_run_law s means (record { phase = run.Hexadecimal; known = known; run = after_first pending }) (known ++ pending) c (run_move run.Hexadecimal c) (in_run known pending h.0)

pub record Grows (p q : RunPhase) (c : ℕ) : Type 0 where
  pub ascii : is_ascii c ≡ true
  pub from : is_run p ≡ true
  pub to : is_run q ≡ true

abbrev GrowsBy : RunPhase → ℕ → RunMove → Type 0
GrowsBy p c (reader.Goes q) = Grows p q c
GrowsBy p c _ = Unit {0}

grows : (p : RunPhase) (c : ℕ) → GrowsBy p c (run_move p c)
grows run.Plain c = tt
grows run.Ampersand c = split (GrowsBy run.Ampersand c) (is_letter c) (reader.Goes run.Named) (if c == number_sign then (reader.Goes run.Hash) else reader.Stops) (λ e. record { ascii = grind (arith, nat_tests); from = refl; to = refl }) (λ e. split (GrowsBy run.Ampersand c) (c == number_sign) (reader.Goes run.Hash) reader.Stops (λ f. record { ascii = grind (arith, nat_tests); from = refl; to = refl }) (λ f. tt))
grows run.Named c = split (GrowsBy run.Named c) (is_letter_or_digit c) (reader.Goes run.Named) (if c == semicolon then reader.Closes else reader.Stops) (λ e. record { ascii = grind (arith, nat_tests); from = refl; to = refl }) (λ e. split (GrowsBy run.Named c) (c == semicolon) reader.Closes reader.Stops (λ f. tt) (λ f. tt))
grows run.Hash c = split (GrowsBy run.Hash c) (is_digit c) (reader.Goes run.Decimal) (if is_x c then (reader.Goes run.Mark) else reader.Stops) (λ e. record { ascii = grind (arith, nat_tests); from = refl; to = refl }) (λ e. split (GrowsBy run.Hash c) (is_x c) (reader.Goes run.Mark) reader.Stops (λ f. record { ascii = grind (arith, nat_tests); from = refl; to = refl }) (λ f. tt))
grows run.Decimal c = split (GrowsBy run.Decimal c) (is_digit c) (reader.Goes run.Decimal) (if c == semicolon then reader.Closes else reader.Stops) (λ e. record { ascii = grind (arith, nat_tests); from = refl; to = refl }) (λ e. split (GrowsBy run.Decimal c) (c == semicolon) reader.Closes reader.Stops (λ f. tt) (λ f. tt))
grows run.Mark c = split (GrowsBy run.Mark c) (is_hexadecimal_digit c) (reader.Goes run.Hexadecimal) reader.Stops (λ e. record { ascii = grind (arith, nat_tests); from = refl; to = refl }) (λ e. tt)
grows run.Hexadecimal c = split (GrowsBy run.Hexadecimal c) (is_hexadecimal_digit c) (reader.Goes run.Hexadecimal) (if c == semicolon then reader.Closes else reader.Stops) (λ e. record { ascii = grind (arith, nat_tests); from = refl; to = refl }) (λ e. split (GrowsBy run.Hexadecimal c) (c == semicolon) reader.Closes reader.Stops (λ f. tt) (λ f. tt))

abbrev GrowsByMove : RunPhase → ℕ → ValueMove → Type 0
GrowsByMove p c (Goes q) = Grows p q c
GrowsByMove p c _ = Unit {0}

plain_no_run : (s : Syntax) (p : RunPhase) (c : ℕ) → GrowsByMove p c (plain_move s c)
plain_no_run s p c = split (GrowsByMove p c) (c == ampersand) _ _ (λ e. tt) (λ e. split (GrowsByMove p c) (is_plain s c) _ _ (λ f. tt) (λ f. tt))

of_run_grows : (s : Syntax) (p : RunPhase) (c : ℕ) (m : RunMove) → GrowsBy p c m → GrowsByMove p c (of_run s c m)
of_run_grows s p c (reader.Goes q) h = h
of_run_grows Html p c reader.Stops h = plain_no_run Html p c
of_run_grows _ p c _ h = tt

pub move_grows : (s : Syntax) (p : RunPhase) (c : ℕ) → GrowsByMove p c (value_move s p c)
move_grows s p c = split (GrowsByMove p c) (is_run p) _ _ (λ e. of_run_grows s p c (run_move p c) (grows p c)) (λ e. plain_no_run s p c)

pub pending_of : (p : RunPhase) (pending : Chars) → is_run p ≡ true → IsPendingRun p pending → (pending ≡ ampersand ∷ after_first pending) × (list_all is_ascii (after_first pending) ≡ true)
pending_of run.Plain pending h k = absurd (cc)
pending_of _ pending h k = k

pending_from : (p : RunPhase) (pending : Chars) → is_run p ≡ true → (pending ≡ ampersand ∷ after_first pending) × (list_all is_ascii (after_first pending) ≡ true) → IsPendingRun p pending
pending_from run.Plain pending h k = absurd (cc)
pending_from _ pending h k = k

all_more : (text : Chars) (c : ℕ) → list_all is_ascii text ≡ true → is_ascii c ≡ true → list_all is_ascii (text ++ c ∷ []) ≡ true
all_more [] c h k = rw k refl
all_more (d ∷ text) c h k = let p = and_parts (is_ascii d) _ h in and_from (is_ascii d) _ p.0 (all_more text c p.1 k)

after_more : (pending : Chars) (c : ℕ) → pending ≡ ampersand ∷ after_first pending → after_first (pending ++ c ∷ []) ≡ after_first pending ++ c ∷ []
after_more [] c h = absurd (cc)
after_more (d ∷ pending) c h = refl

pub goes_pending : (s : Syntax) (p q : RunPhase) (pending : Chars) (c : ℕ) → IsPendingRun p pending → value_move s p c ≡ Goes q
    → IsPendingRun q (pending ++ c ∷ []) × (after_first (pending ++ c ∷ []) ≡ after_first pending ++ c ∷ [])
goes_pending s p q pending c h e =
    let g : Grows p q c = subst (GrowsByMove p c) e (move_grows s p c) in
    let k = pending_of p pending g.from h in
    let a = after_more pending c k.0 in
    (pending_from q (pending ++ c ∷ []) g.to (ap (λ t. t ++ c ∷ []) k.0 ∙ ap (λ t. ampersand ∷ t) (sym a), rw a (all_more (after_first pending) c k.1 g.ascii)), a)

abbrev ClosesRun : RunPhase → ValueMove → Type 0
ClosesRun p Closes = is_run p ≡ true
ClosesRun p _ = Unit {0}

plain_open : (s : Syntax) (p : RunPhase) (c : ℕ) → ClosesRun p (plain_move s c)
plain_open s p c = split (ClosesRun p) (c == ampersand) _ _ (λ e. tt) (λ e. split (ClosesRun p) (is_plain s c) _ _ (λ f. tt) (λ f. tt))

of_run_closes : (s : Syntax) (p : RunPhase) (c : ℕ) (m : RunMove) → is_run p ≡ true → ClosesRun p (of_run s c m)
of_run_closes s p c reader.Closes h = h
of_run_closes Html p c reader.Stops h = plain_open Html p c
of_run_closes _ p c _ h = tt

closes_run : (s : Syntax) (p : RunPhase) (c : ℕ) → ClosesRun p (value_move s p c)
closes_run s p c = split (ClosesRun p) (is_run p) _ _ (λ e. of_run_closes s p c (run_move p c) e) (λ e. plain_open s p c)

-- where a run closes, its bytes are its characters
pub run_is : (s : Syntax) (p : RunPhase) (pending : Chars) (c : ℕ) → IsPendingRun p pending → value_move s p c ≡ Closes → encode_utf8_all pending ≡ ampersand ∷ after_first pending
run_is s p pending c h e =
    let r : is_run p ≡ true = subst (ClosesRun p) e (closes_run s p c) in
    let k = pending_of p pending r h in
    let all : list_all is_ascii (ampersand ∷ after_first pending) ≡ true = k.1 in
    ap encode_utf8_all k.0 ∙ (ascii-same (ampersand ∷ after_first pending) all).0

pub on_ok : {P : Type 0} (r : Result (Unit {0}) NoMemory) → false ≡ is_err r → OnOk r P → P
on_ok (Ok x) e h = h
on_ok (Err x) e h = absurd (cc)

pub on_err : {P : Type 0} (r : Result (Unit {0}) NoMemory) → true ≡ is_err r → OnErr r P → P
on_err (Ok x) e h = absurd (cc)
on_err (Err x) e h = h

pub pushed_value : (known pending : Chars) (c : ℕ) → known_as ((known ++ pending) ++ c ∷ []) ≡ record { phase = run.Plain; known = known ++ (pending ++ c ∷ []); run = [] }
pushed_value known pending c = ap known_as (append_assoc known pending (c ∷ []))

-- the value that ends
pub ends_as : (s : Syntax) (p : RunPhase) (known pending : Chars) → IsPendingRun p pending → may_end s p ≡ true → value_end s (record { phase = p; known = known; run = after_first pending }) ≡ Ok (known ++ pending)
ends_as s run.Plain known pending h k = ap Ok (sym (append-nil known) ∙ ap (λ rest. known ++ rest) (sym h))
ends_as Xhtml run.Ampersand known pending h k = absurd (cc)
ends_as Xhtml run.Named known pending h k = absurd (cc)
ends_as Xhtml run.Hash known pending h k = absurd (cc)
ends_as Xhtml run.Decimal known pending h k = absurd (cc)
ends_as Xhtml run.Mark known pending h k = absurd (cc)
ends_as Xhtml run.Hexadecimal known pending h k = absurd (cc)
ends_as Html _ known pending h k = ap Ok (in_run known pending h.0)

-- a reference that stands for nothing, and for a character
pub closes_none : (s : Syntax) (means : Chars → Option ℕ) (p : RunPhase) (known pending body : Chars) (c : ℕ) → IsPendingRun p pending → value_move s p c ≡ Closes → body ≡ after_first pending → means body ≡ None
    → value_step s means (record { phase = p; known = known; run = after_first pending }) c ≡ Err (no_meaning p)
closes_none s means p known pending body c h e b n =
    step_law s means p known pending c h ∙ ap (applied means (record { phase = p; known = known; run = after_first pending }) (known ++ pending) c) e
    ∙ ap (meant (record { phase = p; known = known; run = after_first pending })) (ap means (sym b) ∙ n)

pub closes_some : (s : Syntax) (means : Chars → Option ℕ) (p : RunPhase) (known pending body : Chars) (c given : ℕ) → IsPendingRun p pending → value_move s p c ≡ Closes → body ≡ after_first pending → means body ≡ Some given
    → value_step s means (record { phase = p; known = known; run = after_first pending }) c ≡ Ok (known_as (known ++ given ∷ []))
closes_some s means p known pending body c given h e b n =
    step_law s means p known pending c h ∙ ap (applied means (record { phase = p; known = known; run = after_first pending }) (known ++ pending) c) e
    ∙ ap (meant (record { phase = p; known = known; run = after_first pending })) (ap means (sym b) ∙ n)
