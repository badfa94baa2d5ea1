-- The laws of frames and of calls, for any names.
use Rattle.rx_rdfa.specs.Common.{Chars, Nodes, Path, Naming, model, Facts, Standing, inherited, up, Machine, Call, Enter, Read, Leave, calls, after, line_after, no_line, FramesAreContexts, CallsRead}
use Rattle.rx_terms.proofs.Common.{◌≡◌, suc, List, [], ◌∷◌, ◌++◌, length, refl, sym, ap, ◌∙◌, subst₂, arith, length-map}
use Rattle.rx_grammar.specs.Trees.{end, element, text}
use Rattle.rx_rdfa.specs.Machine.{inherit, enter, read, leave, leave_with, machine_begun, run}
use Rattle.rx_rdfa.specs.Calls.{step, FactsLine, closed_line, move, FramesAt}

module _ {B O : Type 0} (n : Naming B O) (base : Chars) where
  pub after-append : (xs ys : List Call) (m : Machine B O) → after n base (xs ++ ys) m ≡ after n base ys (after n base xs m)
  after-append [] ys m = refl
  after-append (x ∷ xs) ys m = after-append xs ys (step n base x m)

  pub after_is_run : (nodes : Nodes Facts) (m : Machine B O) → after n base (calls nodes) m ≡ run n base nodes m
  unfolding run
  after_is_run end m = refl
  after_is_run (text chars rest) m = after_is_run rest (read chars m)
  after_is_run (element facts inside rest) m =
      after-append (calls inside) (Leave ∷ calls rest) (enter n base facts m)
      ∙ ap (λ z. after n base (calls rest) (leave n base z)) (after_is_run inside (enter n base facts m))
      ∙ after_is_run rest (leave n base (run n base inside (enter n base facts m)))

  -- what each element of a line stands in
  abbrev pub standings_of : List Facts → Path → List (Standing B O)
  standings_of [] path = []
  standings_of (facts ∷ above) path = record { facts = facts; path = path; around = inherited n base above (up path) } ∷ standings_of above (up path)

  pub inherit-standings_of : (line : List Facts) (path : Path) → inherit n base (standings_of line path) ≡ inherited n base line path
  inherit-standings_of [] path = refl
  inherit-standings_of (facts ∷ above) path = refl

  pub length-standings_of : (line : List Facts) (path : Path) → length (standings_of line path) ≡ length line
  length-standings_of [] path = refl
  length-standings_of (facts ∷ above) path = ap suc (length-standings_of above (up path))

  -- the machine stands at the line
  pub record At (m : Machine B O) (line : FactsLine) : Type 0 where
    pub standings : m.standings ≡ standings_of line.facts line.path
    pub path : m.path ≡ line.path
    pub next : m.next ≡ line.next
    pub texts : length m.texts ≡ length line.facts
    pub deep : length line.path ≡ length line.facts

  leave_at : (m : Machine B O) (line : FactsLine) → At m line → (facts : List Facts) (path : Path) (texts : List Chars) → line.facts ≡ facts → line.path ≡ path
      → length texts ≡ length facts → length path ≡ length facts → At (leave_with n base m (standings_of facts path) texts) (closed_line line facts path)
  leave_at m line h [] path texts e q t d = h
  leave_at m line h (f ∷ above) (i ∷ path) (chars ∷ texts) e q t d = record { standings = refl; path = refl; next = refl; texts = omega arith; deep = omega arith }
  leave_at m line h (f ∷ above) _ _ e q t d = absurd (omega arith)

  pub at_step : (call : Call) (m : Machine B O) (line : FactsLine) → At m line → At (step n base call m) (move call line)
  at_step (Enter facts) m line h = record {
    standings = λ k. record { facts = facts; path = h.next k ∷ h.path k; around = (ap (inherit n base) h.standings ∙ inherit-standings_of line.facts line.path) k } ∷ h.standings k;
    path = λ k. h.next k ∷ h.path k;
    next = refl;
    texts = ap suc h.texts;
    deep = ap suc h.deep;
  }
  at_step (Read chars) m line h = record { standings = h.standings; path = h.path; next = h.next; texts = length-map m.texts (λ t. t ++ chars) ∙ h.texts; deep = h.deep }
  at_step Leave m line h = subst₂ (λ s t. At (leave_with n base m s t) (closed_line line line.facts line.path)) (sym h.standings) refl
      (leave_at m line h line.facts line.path m.texts refl refl h.texts h.deep)

  pub at_after : (list : List Call) (m : Machine B O) (line : FactsLine) → At m line → At (after n base list m) (line_after list line)
  at_after [] m line h = h
  at_after (call ∷ list) m line h = at_after list (step n base call m) (move call line) (at_step call m line h)

  pub at_begun : At machine_begun no_line
  at_begun = record { standings = refl; path = refl; next = refl; texts = refl; deep = refl }

  pub frames_at : (list : List Call) → FramesAt n base list
  frames_at list =
      let h = at_after list machine_begun no_line at_begun in
      let line : FactsLine = line_after list no_line in
      record {
        open_elements = ap length h.standings ∙ length-standings_of line.facts line.path;
        context = ap (inherit n base) h.standings ∙ inherit-standings_of line.facts line.path;
      }

pub calls_read : CallsRead
calls_read base tree m = after_is_run model base tree m

pub frames_are_contexts : FramesAreContexts
frames_are_contexts base list = frames_at model base list
