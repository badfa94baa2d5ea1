-- A walk's blank nodes have numbers as the rules ask for.
use Rattle.rx_walk.proofs.Common.{◌≡◌, ◌∙◌, suc, List, [], ◌∷◌, length, refl, sym, ap, arith, Facts, facts, Path, Context, ElementTag, no_numbers, begun_state, base_by, read_tag, begun_stands, line_after, no_line, Sign, begun, said, finished, around, line_on, line_of, call_of, calls_of, sought}
use Rattle.rx_rdfa.specs.Calls.{FactsLine, closed_line, move}
use Rattle.rx_eval.proofs.ShownLemmas.{shows_after}
use Rattle.rx_walk.specs.Numberings.{facts_along, WalkIsNumbered}
use Rattle.rx_walk.proofs.Making.{all_on}
use Rattle.rx_walk.proofs.Wholes.{known_at}

-- the line of facts is that of the open elements
record Fits (context : Context) (line : List ElementTag) (l : FactsLine) : Type 0 where
  facts_are : l.facts ≡ facts_along context line
  deep : length l.path ≡ length l.facts

module _ (context : Context) where
  ended : (line : List ElementTag) (l : FactsLine) (fs : List Facts) (path : Path) → l.facts ≡ fs → l.path ≡ path → Fits context line l → Fits context (around line) (closed_line l fs path)
  ended [] l [] path e p f = f
  ended (t ∷ line) l [] path e p f = absurd (let w : [] ≡ facts_along context (t ∷ line) = sym e ∙ f.facts_are in cc)
  ended line l (g ∷ above) [] e p f = absurd (let w : length l.path ≡ 0 = ap length p in let v : length l.facts ≡ suc (length above) = ap length e in let d = f.deep in omega (arith, w, v, d))
  ended [] l (g ∷ above) (i ∷ path) e p f = absurd (let w : g ∷ above ≡ [] = sym e ∙ f.facts_are in cc)
  ended (t ∷ line) l (g ∷ above) (i ∷ path) e p f =
      let w : g ∷ above ≡ facts_along context (t ∷ line) = sym e ∙ f.facts_are in
      let same : above ≡ facts_along context line = cc in
      let size : length l.path ≡ suc (length path) = ap length p in
      let many : length l.facts ≡ suc (length above) = ap length e in
      let d = f.deep in
      record { facts_are = same; deep = omega (arith, size, many, d) }

  one_fits : (line : List ElementTag) (sign : Sign) (l : FactsLine) → Fits context line l → Fits context (line_on line sign) (move (call_of context line sign) l)
  one_fits line (begun t) l f = record { facts_are = ap (λ fs. facts context line (read_tag t) ∷ fs) f.facts_are; deep = ap suc f.deep }
  one_fits line (said c) l f = f
  one_fits line finished l f = ended line l l.facts l.path refl refl f

  all_fit : (line : List ElementTag) (signs : List Sign) (l : FactsLine) → Fits context line l → Fits context (line_of line signs) (line_after (calls_of context line signs) l)
  all_fit line [] l f = f
  all_fit line (sign ∷ signs) l f = all_fit (line_on line sign) signs (move (call_of context line sign) l) (one_fits line sign l f)

  pub facts_line : (signs : List Sign) → (line_after (calls_of context [] signs) no_line).facts ≡ facts_along context (line_of [] signs)
  facts_line signs = (all_fit [] signs no_line (record { facts_are = refl; deep = refl })).facts_are

pub is_numbered : WalkIsNumbered
is_numbered setting address walk bytes s state e =
    let known = known_at address setting.limits.depth (sought s.goes.signs) (calls_of setting.context [] s.goes.signs) walk.listener.stage state s.goes.known.staged e in
    let base = base_by known.href address in
    let some = all_on (calls_of setting.context [] s.goes.signs) [] no_numbers (begun_state base setting.limits.depth) state known.led.leads (begun_stands base setting.limits.depth) in
    record {
      to = some.now;
      by = record {
        stands = some.stands;
        line = facts_line setting.context s.goes.signs;
        shows = λ shown h. shows_after some.now (calls_of setting.context [] s.goes.signs) state shown h some.stands;
      };
    }
