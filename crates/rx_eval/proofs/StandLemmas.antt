-- What the calls keep, and what they come to.
use Rattle.rx_eval.proofs.Common.{length-map, nil_from_length, Chars, Among, Node, Iri, Blank, Term, Resource, Literal, Triple, rename_node, rename_term, rename, blanks_of, blanks, Bnode, Owner, model, Facts, Inherited, made, rename_inherited, labels, after-append, frames_at, calls_read, ◌≡◌, ◌∙◌, ℕ, suc, ◌+◌, ◌≤◌, ◌^◌, Bool, true, false, List, [], ◌∷◌, ◌++◌, map, length, Option, Some, None, refl, sym, ap, ap₂, subst, subst₂, arith, unwrap_or, Nodes, Machine, enter, inherit, machine_begun, finished, Call, Enter, Read, Leave, calls, after, FactsLine, move, line_after, no_line, Numbered, State, handed_on, Opens, begun_state, read_text, Numbering, Name, Number, Itself, name_by, numbered_name, Numbers, owner_place, Layer, LayersStand, frames_in, open_in, EvaluatorRuns, RunsOrIsOver, EvaluatorStands, StandsOn, page_context, no_numbers, number_under, Makes, HandsOn, Among_of_map, Among_map, map-append}
use Rattle.rx_model.proofs.Renamings.{all_twice, triple_blanks}
use Rattle.rx_grammar.specs.Trees.{end, element, text}
use Rattle.rx_rdfa.specs.Lists.{cells}
use Rattle.rx_rdfa.proofs.Machine.{reading_makes}
use Rattle.rx_eval.proofs.LayerLemmas.{frames_length, handed_now}
use Rattle.rx_eval.proofs.LeavesLemmas.{text_read}
use Rattle.rx_eval.proofs.BeginLemmas.{entered_runs}

-- ---- before the root

no_label : Numbers no_numbers [] 0 (2 ^ 61)
no_label = record { label = λ l. refl; bounded = λ b n e. absurd (cc e); one_to_one = λ a b n e f. absurd (cc e); low = omega arith; high = omega arith }

pub begun_stands : (base : Chars) (levels : ℕ) → EvaluatorStands no_numbers [] (begun_state base levels)
begun_stands base levels = record {
  page = refl;
  phase = record {
    layers = [];
    slots = [];
    by = record {
      numbers = no_label;
      frames = refl;
      standings = refl;
      texts = refl;
      path = refl;
      each = tt;
      by_names = refl;
      tables = refl;
      waiting = tt;
      unmade = λ r c. refl;
      uncelled = λ o h p i. refl;
      unbegun = λ o h e. refl;
      out = refl;
      rootless = λ e. refl;
    };
  };
}

-- ---- a start tag, and text

module _ (to : Numbering) (list : List Call) (state : State) where
  abbrev machine : Machine Bnode Owner
  machine = after model state.base list machine_begun

  enter_in : (facts : Facts) (new : State) (b : Bool) → state.ended ≡ b → b ≡ false → RunsOrIsOver b to machine state → Opens state facts new → state.page ≡ page_context state.base → state.drawn + 1 + length (labels facts) ≤ 2 ^ 61
      → StandsOn to (list ++ Enter facts ∷ []) new
  enter_in facts new true e f p o page room = absurd (cc f)
  enter_in facts new false e f p o page room =
      let x = entered_runs to machine state facts new p.layers p.slots p.by o page room in
      let more : after model new.base (list ++ Enter facts ∷ []) machine_begun ≡ enter model state.base facts machine =
      ap (λ (b : Chars). after model b (list ++ Enter facts ∷ []) machine_begun) o.rest.0 ∙ after-append model state.base list (Enter facts ∷ []) machine_begun in
      record {
        now = x.numbers;
        grown = x.grown;
        stands = record {
          page = o.rest.2 ∙ page ∙ ap page_context (sym o.rest.0);
          phase = subst₂ (λ (b : Bool) (m : Machine Bnode Owner). RunsOrIsOver b x.numbers m new) (sym (o.rest.5 ∙ e)) (sym more) (record { layers = x.layers_after; slots = x.slots_after; by = x.runs });
        };
      }

  pub enter_stands : (facts : Facts) (new : State) → Opens state facts new → state.ended ≡ false → state.drawn + 1 + length (labels facts) ≤ 2 ^ 61 → EvaluatorStands to list state → StandsOn to (list ++ Enter facts ∷ []) new
  enter_stands facts new o e room s = enter_in facts new state.ended refl e s.phase o s.page room

  pub text_stands : (chars : Chars) → EvaluatorStands to list state → EvaluatorStands to (list ++ Read chars ∷ []) (read_text chars state)
  text_stands chars s = record {
    page = s.page;
    phase = subst (λ (m : Machine Bnode Owner). RunsOrIsOver state.ended to m (read_text chars state)) (sym (after-append model state.base list (Read chars ∷ []) machine_begun)) (text_read to machine state chars state.ended s.phase);
  }

  -- ---- the frames

  hands_by : (layers : List Layer) → state.frames ≡ frames_in layers → machine.standings ≡ map (λ l. l.at) layers → LayersStand to state.base state.kept layers → state.page ≡ page_context state.base → HandsOn to list state
  hands_by layers f s each page = record {
    own = owner_place (open_in state.base layers);
    path =
        ap₂ (λ (c : Inherited ℕ ℕ) (f : List _). rename_inherited Number Number (handed_on c f)) page f
        ∙ handed_now to state.base state.kept layers each
        ∙ ap (rename_inherited (numbered_name to) (numbered_name (owner_place (open_in state.base layers)))) (ap (inherit model state.base) (sym s) ∙ (frames_at model state.base list).context);
  }

  hands_in : (b : Bool) → RunsOrIsOver b to machine state → state.page ≡ page_context state.base → HandsOn to list state
  hands_in true p = hands_by [] p.frames p.standings tt
  hands_in false p = hands_by p.layers p.by.frames p.by.standings p.by.each

  pub hands_on : EvaluatorStands to list state → HandsOn to list state
  hands_on s = hands_in state.ended s.phase s.page

  depth_in : (b : Bool) → RunsOrIsOver b to machine state → length state.frames ≡ length (line_after list no_line).facts
  depth_in true p = ap length p.frames ∙ ap length (sym p.standings) ∙ (frames_at model state.base list).open_elements
  depth_in false p =
      ap length p.by.frames ∙ frames_length p.layers ∙ sym (length-map p.layers (λ l. l.at)) ∙ ap length (sym p.by.standings) ∙ (frames_at model state.base list).open_elements

  pub depth_stands : EvaluatorStands to list state → length state.frames ≡ length (line_after list no_line).facts
  depth_stands s = depth_in state.ended s.phase

-- ---- the end

line_then : (xs ys : List Call) (line : FactsLine) → line_after (xs ++ ys) line ≡ line_after ys (line_after xs line)
line_then [] ys line = refl
line_then (x ∷ xs) ys line = line_then xs ys (move x line)

-- a tree's calls leave no element open
balanced : (nodes : Nodes Facts) (line : FactsLine) → (k : ℕ) × (line_after (calls nodes) line ≡ record { facts = line.facts; path = line.path; next = k })
balanced end line = (line.next, refl)
balanced (text chars rest) line = balanced rest line
balanced (element facts inside rest) line =
    let a = balanced inside (record { facts = facts ∷ line.facts; path = line.next ∷ line.path; next = 0 }) in
    let b = balanced rest (record { facts = line.facts; path = line.path; next = suc line.next }) in
    (b.0, line_then (calls inside) (Leave ∷ calls rest) (move (Enter facts) line) ∙ ap (λ (l : FactsLine). line_after (calls rest) (move Leave l)) a.1 ∙ b.1)

abbrev number_only : Name Bnode → ℕ
number_only (Number n) = n
number_only (Itself b) = 0

node_back : (x : Node ℕ) → rename_node number_only (rename_node Number x) ≡ x
node_back (Iri iri) = refl
node_back (Blank n) = refl

term_back : (x : Term ℕ) → rename_term number_only (rename_term Number x) ≡ x
term_back (Resource node) = ap Resource (node_back node)
term_back (Literal lexical kind) = refl

back : (xs : List (Triple ℕ)) → map (rename number_only) (map (rename Number) xs) ≡ xs
back [] = refl
back (t ∷ xs) = λ i. record { subject = node_back t.subject i; predicate = t.predicate; object = term_back t.object i } ∷ back xs i

renamed_blanks : {A B : Type 0} (f : A → B) (xs : List (Triple A)) → blanks (map (rename f) xs) ≡ map f (blanks xs)
renamed_blanks f [] = refl
renamed_blanks f (t ∷ xs) = ap₂ ◌++◌ (triple_blanks f t) (renamed_blanks f xs) ∙ sym (map-append f (blanks_of t) (blanks xs))

module _ (to : Numbering) where
  number_is : (b : Bnode) (o : Option ℕ) → number_only (name_by b o) ≡ unwrap_or o 0
  number_is b None = refl
  number_is b (Some n) = refl

  list_numbered : (xs : List (Triple ℕ)) (ys : List (Triple Bnode)) → map (rename Number) xs ≡ map (rename (numbered_name to)) ys → xs ≡ map (rename (number_under to)) ys
  list_numbered xs ys e = sym (back xs) ∙ ap (map (rename number_only)) e ∙ all_twice (numbered_name to) number_only (number_under to) ys (λ b a. number_is b (to b))

  has_number : (b : Bnode) (o : Option ℕ) (n : ℕ) → Number n ≡ name_by b o → o ≡ Some (unwrap_or o 0)
  has_number b None n e = absurd (cc)
  has_number b (Some m) n e = refl

  all_numbered : (xs : List (Triple ℕ)) (ys : List (Triple Bnode)) → map (rename Number) xs ≡ map (rename (numbered_name to)) ys → (b : Bnode) → Among (blanks ys) b → to b ≡ Some (number_under to b)
  all_numbered xs ys e b a =
      let names : map (numbered_name to) (blanks ys) ≡ map Number (blanks xs) = sym (renamed_blanks (numbered_name to) ys) ∙ ap blanks (sym e) ∙ renamed_blanks Number xs in
      let r = Among_of_map Number (blanks xs) (numbered_name to b) (subst (λ (l : List (Name Bnode)). Among l (numbered_name to b)) names (Among_map (numbered_name to) (blanks ys) b a)) in
      has_number b (to b) r.0 r.2

  makes : (base : Chars) (tree : Nodes Facts) (xs : List (Triple ℕ)) (labels : Numbered) (drawn cells : ℕ) → Numbers to labels drawn cells → map (rename Number) xs ≡ map (rename (numbered_name to)) (made model base tree) → Makes to base tree xs
  makes base tree xs labels drawn cells n e =
      let has = all_numbered xs (made model base tree) e in
      record {
        list = list_numbered xs (made model base tree) e;
        numbered = has;
        one_to_one = λ a b h k q. n.one_to_one a b (number_under to a) (has a h) (has b k ∙ ap Some (sym q));
      }

  -- with no root there are no triples
  rootless_made : (state : State) (tree : Nodes Facts) → EvaluatorRuns to (after model state.base (calls tree) machine_begun) state → finished model state.base (after model state.base (calls tree) machine_begun) ≡ (after model state.base (calls tree) machine_begun).out
  unfolding cells
  rootless_made state tree p = ap (finished model state.base) e ∙ ap (λ (m : Machine Bnode Owner). m.out) (sym e)
    where
      e : after model state.base (calls tree) machine_begun ≡ machine_begun
      e = p.by.rootless (nil_from_length p.layers (sym (length-map p.layers (λ l. l.at)) ∙ ap length (sym p.by.standings) ∙ (frames_at model state.base (calls tree)).open_elements ∙ ap (λ (l : FactsLine). length l.facts) (balanced tree no_line).1))

  list_is : (base : Chars) (tree : Nodes Facts) → finished model base (after model base (calls tree) machine_begun) ≡ made model base tree
  list_is base tree = ap (finished model base) (calls_read base tree machine_begun) ∙ reading_makes base tree

  finish_in : (state : State) (tree : Nodes Facts) (b : Bool) → RunsOrIsOver b to (after model state.base (calls tree) machine_begun) state → Makes to state.base tree state.out
  finish_in state tree false p =
      makes state.base tree state.out state.labels state.drawn state.cells p.by.numbers (p.by.out ∙ ap (map (rename (numbered_name to))) (sym (rootless_made state tree p) ∙ list_is state.base tree))
  finish_in state tree true p = makes state.base tree state.out state.labels state.drawn state.cells p.numbers (p.out ∙ ap (map (rename (numbered_name to))) (list_is state.base tree))

  -- after the calls for a tree the triples are the tree's
  pub finish_makes : (state : State) (tree : Nodes Facts) → EvaluatorStands to (calls tree) state → Makes to state.base tree state.out
  finish_makes state tree s = finish_in state tree state.ended s.phase

-- ---- as the calls say it

pub begun_as : (base : Chars) (levels : ℕ) (new : State) → new ≡ begun_state base levels → EvaluatorStands no_numbers [] new
begun_as base levels new e = subst (EvaluatorStands no_numbers []) (sym e) (begun_stands base levels)

pub text_as : (to : Numbering) (list : List Call) (state : State) (chars : Chars) (new : State) → new ≡ read_text chars state → EvaluatorStands to list state → EvaluatorStands to (list ++ Read chars ∷ []) new
text_as to list state chars new e s = subst (EvaluatorStands to (list ++ Read chars ∷ [])) (sym e) (text_stands to list state chars s)
