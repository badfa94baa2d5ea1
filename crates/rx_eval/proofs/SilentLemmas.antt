-- An element of which nothing is said, below the root, by the rules: it is skipped, adds nothing and has no label.
use Rattle.rx_eval.proofs.Common.{◌≡◌, ◌∙◌, ◌<◌, ℕ, zero, suc, true, false, List, [], ◌∷◌, ◌++◌, length, None, refl, sym, ap, append-nil, arith, ◌==◌, if◌then◌else◌, is_none, nat_tests, Chars, both, Triple, Facts, claims_nothing, says_nothing, Numbered, says_no_more, moment, level_at, path_at, standing_by, Closes, gathers_some, handed_on, skipped_state, Opens, skipped_frame, State, Frame, subst}
use Rattle.rx_rdfa.specs.Resources.{Inherited, Standing, Resources, resources, is_root}
use Rattle.rx_rdfa.specs.Element.{start_of}
use Rattle.rx_eval.proofs.EnterLemmas.{below_as}
use Rattle.rx_model.proofs.Copied.{of_none}

-- the facts where nothing is said but for href
abbrev pub referring : Facts → Facts
referring facts = record facts { about = None; resource = None; src = None; rel = None; rev = None; property = None; types = None; vocab = None }

pub no_more : (facts : Facts) → says_no_more facts ≡ true → referring facts ≡ facts
no_more facts h =
    let parts = both (claims_nothing facts) _ h in
    let rel = both (is_none facts.rel) _ parts.0 in
    let rev = both (is_none facts.rev) _ rel.1 in
    let property = both (is_none facts.property) _ rev.1 in
    let types = both (is_none facts.types) _ property.1 in
    let about = both (is_none facts.about) _ parts.1 in
    let resource = both (is_none facts.resource) _ about.1 in
    λ i. record facts {
      about = sym (of_none facts.about about.0) i;
      resource = sym (of_none facts.resource resource.0) i;
      src = sym (of_none facts.src resource.1) i;
      rel = sym (of_none facts.rel rel.0) i;
      rev = sym (of_none facts.rev rev.0) i;
      property = sym (of_none facts.property property.0) i;
      types = sym (of_none facts.types types.0) i;
      vocab = sym (of_none facts.vocab types.1) i;
    }

-- where nothing is said
abbrev silent : Facts → Facts
silent facts = record (referring facts) { href = None }

is_silent : (facts : Facts) → says_nothing facts ≡ true → silent facts ≡ facts
is_silent facts h =
    let parts = both (claims_nothing facts) _ h in
    let about = both (is_none facts.about) _ parts.1 in
    let resource = both (is_none facts.resource) _ about.1 in
    let href = both (is_none facts.href) _ resource.1 in
    λ i. record (no_more facts (rw (parts.0, about.0, resource.0, href.1) refl) i) { href = sym (of_none facts.href href.0) i }

no_root : (depth : ℕ) → 0 < depth → is_root (path_at (level_at depth)) ≡ false
no_root zero h = absurd (omega (arith, h))
no_root (suc zero) h = refl
no_root (suc (suc n)) h = refl

module _ (drawn : Numbered) (fresh : ℕ) (base : Chars) (depth : ℕ) (around : Inherited ℕ ℕ) (facts : Facts) (h : 0 < depth) where
  abbrev at : Standing ℕ ℕ
  at = standing_by (level_at depth) around (silent facts)

  skips : (resources (moment drawn fresh 0 0) base at).skipped ≡ true
  unfolding resources
  skips = rw (no_root depth h) refl

  nothing : start_of (moment drawn fresh 0 0) base at ≡ []
  unfolding start_of resources
  nothing = rw (no_root depth h) refl

-- ---- on the stack

opens_silent : (old : State) (facts : Facts) → 0 < length old.frames → Opens old (silent facts) (skipped_state old)
opens_silent old facts h =
    let depth : ℕ = length old.frames in
    let around : Inherited ℕ ℕ = handed_on old.page old.frames in
    let at : Standing ℕ ℕ = standing_by (level_at depth) around (silent facts) in
    let here : Resources ℕ = resources (moment old.labels old.drawn 0 0) old.base at in
    let skip : here.skipped ≡ true = skips old.labels old.drawn old.base depth around facts h in
    record {
      frame = skipped_frame around;
      fresh = old.drawn;
      drawing = refl;
      pushed = refl;
      context = rw (below_as old.labels old.drawn old.base at here (length old.owners), skip) refl;
      start = sym (ap (λ (l : List (Triple ℕ)). old.out ++ l) (nothing old.labels old.drawn old.base depth around facts h) ∙ append-nil old.out);
      lists = rw skip refl;
      gathers = rw skip refl;
      text = tt;
      own = rw skip refl;
      below_own = rw skip refl;
      counted = refl;
      rest = (refl, refl, refl, refl, refl, refl, refl);
    }

pub skipped_opens : (old : State) (facts : Facts) → says_nothing facts ≡ true → 0 < length old.frames → Opens old facts (skipped_state old)
skipped_opens old facts says h = subst (λ (f : Facts). Opens old f (skipped_state old)) (is_silent facts says) (opens_silent old facts h)

-- the last one is gone again, which isn't the root
pub skipped_closes : (old : State) (frames : List Frame) (a : Inherited ℕ ℕ) → old.frames ≡ frames ++ skipped_frame a ∷ [] → 0 < length frames
    → old.kept ≡ (if gathers_some frames then old.kept else []) → Closes old (record old { frames = frames })
skipped_closes old frames a e h k =
    let z : (length frames == 0) ≡ false = grind (arith, nat_tests) in
    record {
      frame = skipped_frame a;
      popped = e;
      endings = λ front chars at. rw z refl;
      kept = k;
      ended = rw z refl;
      rest = (refl, refl, refl, refl, refl, refl);
    }
