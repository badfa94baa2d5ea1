-- Stacks of tasks, and what is pushed on them.
use Rattle.rx_turtle.proofs.Common.{◌≡◌, ◌∙◌, ◌↔◌, ℕ, zero, suc, ◌+◌, ◌-◌, ◌<◌, ◌≤◌, ◌==◌, Bool, true, false, true≢false, List, [], ◌∷◌, ◌++◌, map, length, Bor, slice_get, Option, Some, None, option_to_list, IsSome, MatchOption, refl, sym, ap, ap₂, arith, append_assoc, if◌then◌else◌, nat_tests, Node, Term, Triple, Keyed, group_key, has_key, put_before, runs, Fixed, IriOrLabel, Verb, Due, Say, Object, task_seen, due_on, behind, object_due, line_due, lines_due, verb_due, behind_due, tail_due, next_due, first_due, tail_at, bracket_due, item_due, rest_due, statement_due}
use Rattle.rx_terms.proofs.Bools.{by_test}
use Rattle.rx_terms.specs.declared.triples.Triple.{Triple as CodeTriple}
use Rattle.rx_turtle.specs.declared.stack.Task.{Task}
use Rattle.rx_turtle.specs.declared.tokens.Words.{Words}
use Rattle.rx_turtle.specs.declared.tokens.Words.TheVariants as fixed
use Rattle.rx_turtle.specs.declared.keys.By.TheVariants as by
use Rattle.rx_turtle.proofs.GroupLemmas.{lent_seen}
use Rattle.rx_turtle.proofs.ArrangedLemmas.{first_key, seen_length}

-- ---- the stack

last_due : (tasks : List Task) (t : Task) → due_on (tasks ++ t ∷ []) ≡ task_seen t ∷ due_on tasks
last_due [] t = refl
last_due (x ∷ tasks) t = ap (λ z. z ++ task_seen x ∷ []) (last_due tasks t)

pub pushed_due : (old new : List Task) (t : Task) → new ≡ old ++ t ∷ [] → due_on new ≡ task_seen t ∷ due_on old
pushed_due old new t e = ap due_on e ∙ last_due old t

pub some_tasks : (m n : ℕ) (b : Bool) → b ≡ false → b ≡ (m == 0) → m ≡ n → 0 < n
some_tasks m n b none is same =
    let test : (m == 0) ≡ false = sym is ∙ none in
    let some : 0 < m = grind (arith, nat_tests, test) in
    omega (arith, some, same)

pub popped : (r : Option Task) (old new : List Task) (n : ℕ) → old ≡ new ++ option_to_list r → (IsSome r ↔ (0 < n)) → 0 < n
    → MatchOption r ((due_on old ≡ []) × (due_on new ≡ [])) (λ t. due_on old ≡ task_seen t ∷ due_on new)
popped (Some t) old new n e some h = pushed_due new old t e
popped None old new n e some h = absurd (true≢false (sym (some.1 h)))

-- ---- triples, the last one first

module _ (gap : Words) where
  none_behind : (list : List (Triple ℕ)) (i : ℕ) → length list ≤ suc i → tail_at gap i list ≡ []
  none_behind (s ∷ t ∷ more) zero past = absurd (omega (arith, past))
  none_behind (s ∷ t ∷ more) (suc i) past = let less : length (t ∷ more) ≤ suc i = omega (arith, past) in none_behind (t ∷ more) i less
  none_behind (s ∷ []) zero past = refl
  none_behind _ _ past = refl

  pub tail_start : (list : List (Bor CodeTriple)) (i : ℕ) (start : List Due) → i ≡ length list - 1 → start ≡ tail_at gap i (map lent_seen list) ++ start
  tail_start list i start last =
      let size : length (map lent_seen list) ≡ length list = seen_length list in
      ap (λ z. z ++ start) (sym (none_behind (map lent_seen list) i (omega (arith, size, last))))

  one_behind : (list : List (Triple ℕ)) (i : ℕ) → tail_at gap i list ≡ next_due gap i list ++ tail_at gap (suc i) list
  one_behind (s ∷ t ∷ more) zero = refl
  one_behind (s ∷ more) (suc i) = one_behind more i
  one_behind _ _ = refl

  pub tail_turn : (list : List (Triple ℕ)) (n i : ℕ) (old new start : List Due) → n ≡ suc i → new ≡ next_due gap i list ++ old → old ≡ tail_at gap n list ++ start → new ≡ tail_at gap i list ++ start
  tail_turn list n i old new start up turn before =
      turn ∙ ap (λ z. next_due gap i list ++ z) (before ∙ ap (λ m. tail_at gap m list ++ start) up)
      ∙ sym (append_assoc (next_due gap i list) (tail_at gap (suc i) list) start) ∙ ap (λ z. z ++ start) (sym (one_behind list i))

  pub next_is : (list : List (Triple ℕ)) (i : ℕ) (s t : Triple ℕ) → slice_get list i ≡ Some s → slice_get list (i + 1) ≡ Some t → behind_due gap s t ≡ next_due gap i list
  next_is list i s t at next = let up : suc i ≡ i + 1 = omega arith in go list i at (ap (slice_get list) up ∙ next)
    where
      go : (list : List (Triple ℕ)) (i : ℕ) → slice_get list i ≡ Some s → slice_get list (suc i) ≡ Some t → behind_due gap s t ≡ next_due gap i list
      go (x ∷ y ∷ more) zero at next = let first : x ≡ s = cc in let second : y ≡ t = cc in ap₂ (λ a b. behind_due gap a b) (sym first) (sym second)
      go (x ∷ more) (suc i) at next = go more i at next
      go _ i at next = absurd (cc)

  -- the objects of the first predicate behind its first one, and the other predicates
  tail_is : (t : Triple ℕ) (more : List (Triple ℕ)) → (objects : List (Triple ℕ)) × (groups : List Keyed) × (runs by.Predicate (t ∷ more) ≡ (group_key by.Predicate t, t ∷ objects) ∷ groups)
      × (tail_due gap t more ≡ behind object_due fixed.Comma objects ++ behind line_due gap groups)
  tail_is t [] = ([], [], refl, refl)
  tail_is t (u ∷ more) =
      let rest = tail_is u more in
      let turn : runs by.Predicate (t ∷ u ∷ more) ≡ put_before by.Predicate t ((group_key by.Predicate u, u ∷ rest.0) ∷ rest.1) = ap (put_before by.Predicate t) rest.2 in
      by_test (has_key by.Predicate (group_key by.Predicate u) t)
      (λ e. (u ∷ rest.0, rest.1, turn ∙ rw e refl, rw e (ap (λ z. Say (Fixed fixed.Comma) ∷ Object u.object ∷ z) rest.3)))
      (λ e. (
        [],
        (group_key by.Predicate u, u ∷ rest.0) ∷ rest.1,
        turn ∙ rw e refl,
        rw e (ap (λ z. Say (Fixed gap) ∷ Say (Verb (group_key by.Predicate u)) ∷ Say (Fixed fixed.Space) ∷ Object u.object ∷ z) rest.3),
      ))

  pub lines_are : (list : List (Triple ℕ)) → first_due list ++ tail_at gap 0 list ≡ lines_due gap (runs by.Predicate list)
  lines_are [] = refl
  lines_are (t ∷ more) = let tail = tail_is t more in ap (λ z. first_due (t ∷ more) ++ z) tail.3 ∙ ap (lines_due gap) (sym tail.2)

  pub lines_pushed : (list : List (Triple ℕ)) (i : ℕ) (start old new : List Due) → i ≡ 0 → new ≡ first_due list ++ old → old ≡ tail_at gap i list ++ start → new ≡ lines_due gap (runs by.Predicate list) ++ start
  lines_pushed list i start old new none last before =
      last ∙ ap (λ z. first_due list ++ z) (before ∙ ap (λ n. tail_at gap n list ++ start) none) ∙ sym (append_assoc (first_due list) (tail_at gap 0 list) start)
      ∙ ap (λ z. z ++ start) (lines_are list)

-- ---- what is pushed, from the last to the first

-- an inner part, and what stands before and behind it
pub enclosed : (first last : Due) (inner old mid new : List Due) → mid ≡ last ∷ old → new ≡ inner ++ mid → first ∷ new ≡ (first ∷ (inner ++ last ∷ [])) ++ old
enclosed first last inner old mid new e h = ap (λ z. first ∷ z) (h ∙ ap (λ z. inner ++ z) e ∙ sym (append_assoc inner (last ∷ []) old))

pub some_brackets : (list : List (Triple ℕ)) (old mid new : List Due) → 0 < length list → mid ≡ Say (Fixed fixed.Close) ∷ old → new ≡ lines_due fixed.InsideGap (runs by.Predicate list) ++ mid
    → Say (Fixed fixed.Open) ∷ new ≡ bracket_due (runs by.Predicate list) ++ old
some_brackets [] old mid new some e h = absurd (omega (arith, some))
some_brackets (t ∷ list) old mid new some e h =
    let first = first_key by.Predicate t (runs by.Predicate list) in
    ap (λ z. Say (Fixed fixed.Open) ∷ z) (h ∙ ap (λ (z : List Keyed). lines_due fixed.InsideGap z ++ mid) first.2)
    ∙ enclosed (Say (Fixed fixed.Open)) (Say (Fixed fixed.Close)) (lines_due fixed.InsideGap ((group_key by.Predicate t, first.0) ∷ first.1)) old mid _ e refl
    ∙ ap (λ (z : List Keyed). bracket_due z ++ old) (sym first.2)

pub said_pushed : (node : Node ℕ) (groups : List Keyed) (old end lines space new : List Due) → end ≡ Say (Fixed fixed.End) ∷ old → lines ≡ lines_due fixed.LineGap groups ++ end
    → space ≡ Say (Fixed fixed.Space) ∷ lines → new ≡ Say (IriOrLabel node) ∷ space → new ≡ statement_due node groups ++ old
said_pushed node groups old end lines space new a b c d =
    d ∙ ap (λ z. Say (IriOrLabel node) ∷ z) (c ∙ enclosed (Say (Fixed fixed.Space)) (Say (Fixed fixed.End)) (lines_due fixed.LineGap groups) old end lines a b)

pub cell_pushed : (item after a b : Option (Term ℕ)) (old mid new : List Due) → mid ≡ rest_due b ++ old → new ≡ item_due a ++ mid → a ≡ item → b ≡ after
    → new ≡ (item_due item ++ rest_due after) ++ old
cell_pushed item after a b old mid new e h first second =
    h ∙ ap (λ z. item_due a ++ z) e ∙ ap (λ z. item_due z ++ (rest_due b ++ old)) first ∙ ap (λ z. item_due item ++ (rest_due z ++ old)) second
    ∙ sym (append_assoc (item_due item) (rest_due after) old)
