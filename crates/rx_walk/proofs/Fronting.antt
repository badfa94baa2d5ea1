-- What the signs of one element say of the calls for them.
use Rattle.rx_walk.proofs.Common.{◌≡◌, ◌∙◌, ℕ, zero, suc, ◌≤◌, ◌<◌, Bool, true, false, List, [], ◌∷◌, ◌++◌, map, length, refl, sym, ap, subst, Option, Some, None, arith, nat_tests, nat_le, if◌then◌else◌, Chars, Context, ElementTag, StartTag, Sign, begun, said, finished, Front, unbegun, inside, over, levels_of, goes, goes_on, IsFront, line_on, line_of, call_of, calls_of, singles, moves, within, move_all, MayBe}
use Rattle.rx_walk.proofs.Moving.{none_moves, move_append, within_some}
use Rattle.rx_walk.proofs.Signed.{calls_append, said_calls}

none_goes : (signs : List Sign) → goes_on None signs ≡ None
none_goes [] = refl
none_goes (sign ∷ signs) = refl

goes_append : (front : Option Front) (xs ys : List Sign) → goes_on front (xs ++ ys) ≡ goes_on (goes_on front xs) ys
goes_append front [] ys = refl
goes_append None (x ∷ xs) ys = sym (none_goes ys)
goes_append (Some front) (x ∷ xs) ys = goes_append (goes front x) xs ys

goes_same : (context : Context) (line : List ElementTag) (front : Front) (sign : Sign) → moves front (call_of context line sign) ≡ goes front sign
goes_same context line unbegun (begun t) = refl
goes_same context line (inside zero) finished = refl
goes_same context line (inside (suc n)) (said c) = refl
goes_same context line over (begun t) = refl
goes_same _ _ _ _ = refl

-- moves within the levels are moves
same_front : (context : Context) (levels : ℕ) (line : List ElementTag) (signs : List Sign) (front : Option Front) (last : Front)
    → move_all levels front (calls_of context line signs) ≡ Some last → goes_on front signs ≡ Some last
same_front context levels line [] front last e = e
same_front context levels line (sign ∷ signs) None last e = absurd (cc)
same_front context levels line (sign ∷ signs) (Some front) last e =
    by (λ x. same_front context levels (line_on line sign) signs x last) (goes front sign) (goes_same context line front sign)
  where
    by : ((x : Option Front) → move_all levels x (calls_of context (line_on line sign) signs) ≡ Some last → goes_on x signs ≡ Some last)
        → (x : Option Front) → moves front (call_of context line sign) ≡ x → goes_on x signs ≡ Some last
    by ih None k = absurd (let w : None ≡ Some last = sym (none_moves levels (calls_of context (line_on line sign) signs)) ∙ (sym (ap (λ y. move_all levels (within levels y) (calls_of context (line_on line sign) signs)) k) ∙ e) in cc)
    by ih (Some next) k = ih (Some next) (within_some levels next (calls_of context (line_on line sign) signs) last (sym (ap (λ y. move_all levels (within levels y) (calls_of context (line_on line sign) signs)) k) ∙ e)).1

abbrev has_begun : Front → Bool
has_begun unbegun = false
has_begun _ = true

-- as many elements are open as the line has, and what has begun stays so
walked : (signs : List Sign) (line : List ElementTag) (front last : Front) → levels_of front ≡ length line → goes_on (Some front) signs ≡ Some last → (levels_of last ≡ length (line_of line signs)) × (has_begun front ≡ true → has_begun last ≡ true)
walked [] line front last c e = let is : front ≡ last = cc in (ap levels_of (sym is) ∙ c, subst (λ f. has_begun f ≡ true) is)
walked (begun t ∷ signs) line unbegun last c e = let w = walked signs (line_on line (begun t)) (inside 0) last (ap suc c) e in (w.0, λ b. w.1 refl)
walked (begun t ∷ signs) line (inside n) last c e = let w = walked signs (line_on line (begun t)) (inside (suc n)) last (ap suc c) e in (w.0, λ b. w.1 refl)
walked (said x ∷ signs) line (inside n) last c e = walked signs line (inside n) last c e
walked (finished ∷ signs) (t ∷ line) (inside zero) last c e = let w = walked signs line over last (omega (arith, c)) e in (w.0, λ b. w.1 refl)
walked (finished ∷ signs) (t ∷ line) (inside (suc n)) last c e = let w = walked signs line (inside n) last (omega (arith, c)) e in (w.0, λ b. w.1 refl)
walked (finished ∷ signs) [] (inside n) last c e = absurd (cc)
walked (x ∷ signs) line front last c e = absurd (let w : None ≡ Some last = sym (none_goes signs) ∙ e in cc)

pub front_counts : (levels : ℕ) (signs : List Sign) → IsFront levels signs → length (line_of [] signs) ≤ levels
front_counts levels signs f = let c = (walked signs [] unbegun f.front refl f.leads).0 in omega (arith, c, f.level)

-- one sign more
one_more : (levels : ℕ) (next last : Front) → goes_on (Some next) [] ≡ Some last → levels_of last ≤ levels → within levels (Some next) ≡ Some last
one_more levels next last e l =
    let is : next ≡ last = cc in
    let t : nat_le (levels_of next) levels ≡ true = subst (λ f. nat_le (levels_of f) levels ≡ true) (sym is) (grind (arith, nat_tests)) in
    ap (λ b. if b then Some next else None) t ∙ ap Some is

after_one : (context : Context) (levels : ℕ) (line : List ElementTag) (front last : Front) (sign : Sign) → goes_on (Some front) (sign ∷ []) ≡ Some last → levels_of last ≤ levels
    → move_all levels (Some front) (call_of context line sign ∷ []) ≡ Some last
after_one context levels line front last sign e l = ap (within levels) (goes_same context line front sign) ∙ by (goes front sign) e
  where
    by : (x : Option Front) → goes_on x [] ≡ Some last → within levels x ≡ Some last
    by None k = absurd (cc)
    by (Some next) k = one_more levels next last k l

said_stays : (n : ℕ) (chars : Chars) → goes_on (Some (inside n)) (map said chars) ≡ Some (inside n)
said_stays n [] = refl
said_stays n (c ∷ chars) = said_stays n chars

singles_stay : (levels n : ℕ) (chars : Chars) → suc n ≤ levels → move_all levels (Some (inside n)) (singles chars) ≡ Some (inside n)
singles_stay levels n [] l = refl
singles_stay levels n (c ∷ chars) l =
    let t : nat_le (suc n) levels ≡ true = grind (arith, nat_tests) in
    ap (λ b. move_all levels (if b then Some (inside n) else None) (singles chars)) t ∙ singles_stay levels n chars l

after_said : (levels : ℕ) (front last : Front) (chars : Chars) → goes_on (Some front) (map said chars) ≡ Some last → levels_of last ≤ levels → move_all levels (Some front) (singles chars) ≡ Some last
after_said levels front last [] e l = e
after_said levels (inside n) last (c ∷ chars) e l =
    let is : Some (inside n) ≡ Some last = sym (said_stays n chars) ∙ e in
    let same : inside n ≡ last = cc in
    singles_stay levels n (c ∷ chars) (subst (λ f. levels_of f ≤ levels) (sym same) l) ∙ is
after_said levels _ last (c ∷ chars) e l = absurd (let w : None ≡ Some last = sym (none_goes (map said chars)) ∙ e in cc)

module _ (context : Context) (levels : ℕ) (signs : List Sign) (m : MayBe levels (calls_of context [] signs)) where
  reached : goes_on (Some unbegun) signs ≡ Some m.front
  reached = same_front context levels [] signs (Some unbegun) m.front m.leads

  pub may_more : (sign : Sign) → IsFront levels (signs ++ sign ∷ []) → MayBe levels (calls_of context [] (signs ++ sign ∷ []))
  may_more sign f =
      let on : goes_on (Some m.front) (sign ∷ []) ≡ Some f.front = ap (λ x. goes_on x (sign ∷ [])) (sym reached) ∙ (sym (goes_append (Some unbegun) signs (sign ∷ [])) ∙ f.leads) in
      record {
        front = f.front;
        leads =
            ap (move_all levels (Some unbegun)) (calls_append context [] signs (sign ∷ []))
            ∙ move_append levels (Some unbegun) (calls_of context [] signs) (call_of context (line_of [] signs) sign ∷ [])
            ∙ ap (λ x. move_all levels x (call_of context (line_of [] signs) sign ∷ [])) m.leads
            ∙ after_one context levels (line_of [] signs) m.front f.front sign on f.level;
      }

  pub may_say : (chars : Chars) → IsFront levels (signs ++ map said chars) → MayBe levels (calls_of context [] (signs ++ map said chars))
  may_say chars f =
      let on : goes_on (Some m.front) (map said chars) ≡ Some f.front = ap (λ x. goes_on x (map said chars)) (sym reached) ∙ (sym (goes_append (Some unbegun) signs (map said chars)) ∙ f.leads) in
      record {
        front = f.front;
        leads =
            ap (move_all levels (Some unbegun)) (calls_append context [] signs (map said chars) ∙ ap (λ l. calls_of context [] signs ++ l) (said_calls context (line_of [] signs) chars))
            ∙ move_append levels (Some unbegun) (calls_of context [] signs) (singles chars)
            ∙ ap (λ x. move_all levels x (singles chars)) m.leads
            ∙ after_said levels m.front f.front chars on f.level;
      }

-- an element ends only where one is open
pub front_left : (levels : ℕ) (signs : List Sign) → IsFront levels (signs ++ finished ∷ []) → 0 < length (line_of [] signs)
front_left levels signs f = by (goes_on (Some unbegun) signs) refl (sym (goes_append (Some unbegun) signs (finished ∷ [])) ∙ f.leads)
  where
    on : (m : Front) → levels_of m ≡ length (line_of [] signs) → goes_on (Some m) (finished ∷ []) ≡ Some f.front → 0 < length (line_of [] signs)
    on unbegun c e = absurd (cc)
    on (inside n) c e = omega (arith, c)
    on over c e = absurd (cc)

    by : (x : Option Front) → goes_on (Some unbegun) signs ≡ x → goes_on x (finished ∷ []) ≡ Some f.front → 0 < length (line_of [] signs)
    by None k e = absurd (cc)
    by (Some m) k e = on m (walked signs [] unbegun m refl k).0 e

-- as many elements are open as the line has, where the calls may be
pub may_counts : (context : Context) (levels : ℕ) (signs : List Sign) (m : MayBe levels (calls_of context [] signs)) → levels_of m.front ≡ length (line_of [] signs)
may_counts context levels signs m = (walked signs [] unbegun m.front refl (reached context levels signs m)).0

-- where all elements have ended, the root has
pub root_ended : (context : Context) (levels : ℕ) (t : StartTag) (signs : List Sign) (m : MayBe levels (calls_of context [] (begun t ∷ signs))) → length (line_of [] (begun t ∷ signs)) ≡ 0 → m.front ≡ over
root_ended context levels t signs m none = by m.front (may_counts context levels (begun t ∷ signs) m) ((walked signs (line_on [] (begun t)) (inside 0) m.front refl (reached context levels (begun t ∷ signs) m)).1 refl)
  where
    by : (f : Front) → levels_of f ≡ length (line_of [] (begun t ∷ signs)) → has_begun f ≡ true → f ≡ over
    by unbegun c b = absurd (cc)
    by (inside n) c b = absurd (omega (arith, c, none))
    by over c b = refl
