-- A tag that stands whole is read like its characters one after another.
use Rattle.rx_reader.proofs.Common.{◌≡◌, ◌∙◌, ℕ, ◌+◌, ◌-◌, ◌≤◌, ◌<◌, Bool, List, length, take, drop, refl, ap, sym, subst, arith, get_or, length-drop, take_rest, solidus, greater_than_sign, Chars, common_steps, Syntax, Html, Xhtml, has_repeat, go, move_of, TagState}
use Rattle.rx_reader.specs.declared.phases.TagPhase.{TagPhase}
use Rattle.rx_reader.specs.declared.phases.TagPhase.TheVariants as phase
use Rattle.rx_reader.specs.declared.phases.TagAction.TheVariants as action
use Rattle.rx_tags.specs.Fronts.{GainsName, TakesFront}
use Rattle.rx_tags.specs.Lists.{ClosesAt, TakesList, TakesBehind, TakesTag}
use Rattle.rx_tags.specs.Pairs.{Pairs, no_pairs}
use Rattle.rx_tags.specs.TagBufs.{TakesWhole}
use Rattle.rx_tags.specs.TagReads.{TagRead, state_of}
use Rattle.rx_tags.proofs.EndLemmas.{closes}
use Rattle.rx_tags.proofs.OnLemmas.{skips}
use Rattle.rx_tags.proofs.TakeLemmas.{chosen, name_front, takes_then}
use Rattle.rx_tags.proofs.WholeLemmas.{taken_at}

pub get_behind : (bytes : List ℕ) (i n : ℕ) → get_or (drop i bytes) n 0 ≡ get_or bytes (i + n) 0
get_behind bytes i n = grind (arith, common_steps)

-- a `>` behind some bytes
closes_behind : (bytes : List ℕ) (i n : ℕ) → ClosesAt (take (length bytes - i) (drop i bytes)) n → ClosesAt bytes (i + n)
closes_behind bytes i n c =
    let k : ClosesAt (drop i bytes) n = subst (λ (x : List ℕ). ClosesAt x n) (take_rest bytes i) c in
    record { fits = omega (arith, k.fits, length-drop i bytes); closes = sym (get_behind bytes i n) ∙ k.closes }

-- no attribute behind the name
pub bare_behind : (bytes : List ℕ) (count : ℕ) (new : Pairs) → new ≡ no_pairs → ClosesAt bytes count → TakesBehind bytes count count new
bare_behind bytes count new e c = record {
  closes = c;
  last = phase.Name;
  ends = record { move = λ x. refl; whole = refl; outside = refl };
  reads = λ s name start f. subst (λ (x : Pairs). TakesFront s start bytes count (state_of phase.Name name x)) (sym e) f;
  apart = ap (λ (x : Pairs). has_repeat x.whole) e;
  settled = ap (λ (x : Pairs). x.value) e;
}

-- a list behind the name and a space
pub list_behind : (bytes : List ℕ) (count n : ℕ) (new : Pairs) → count < length bytes → get_or bytes count 0 ≡ 32 → TakesList (take (length bytes - (count + 1)) (drop (count + 1) bytes)) n new → TakesBehind bytes count (count + 1 + n) new
list_behind bytes count n new k e t = record {
  closes = closes_behind bytes (count + 1) n t.closes;
  last = phase.AfterValue;
  ends = record { move = λ x. refl; whole = refl; outside = refl };
  reads = λ s name start f.
      let space = taken_at s start (state_of phase.Name name no_pairs) (state_of phase.Gap name no_pairs) bytes count 32 k e f refl
      (skips s phase.Name phase.Gap name no_pairs 32 (record { move = λ x. refl; unfinished = refl; printed = refl; outside = refl })) in
      takes_then s start (state_of phase.Gap name no_pairs) (state_of phase.AfterValue name new) bytes (count + 1) n (omega (arith, k)) space
      (subst (λ (x : Pairs). TakesFront s (state_of phase.Gap name no_pairs) (take (length bytes - (count + 1)) (drop (count + 1) bytes)) n (state_of phase.AfterValue name x)) (sym t.is) (t.lists s name));
  apart = t.apart;
  settled = ap (λ (x : Pairs). x.value) t.is;
}

slash_move : (s : Syntax) → move_of s phase.Start solidus ≡ go phase.EndStart action.Skip
slash_move Html = refl
slash_move Xhtml = refl

-- nothing was read but of the name
module _ (p : TagPhase) (name : Chars) (old : Pairs) (e : state_of p name old ≡ state_of phase.Start name no_pairs) where
  pub none_read : old ≡ no_pairs
  none_read = λ i. record { whole = (e i).attributes; key = (e i).key; value = (e i).value }

  pub start_tag : (s : Syntax) (more : Chars) (new : Pairs) (bytes : List ℕ) (count end : ℕ) → (count ≡ 0 → ⊥) → (end ≡ 0 → ⊥) → count ≤ length bytes → GainsName name (take count bytes) more → TakesBehind bytes count end new
      → TakesTag (record { syntax = s; state = state_of p name old }) bytes (end + 1) (state_of phase.Opened more new)
  start_tag s more new bytes count end z y k g t =
      subst (λ (x : TagState). TakesTag (record { syntax = s; state = x }) bytes (end + 1) (state_of phase.Opened more new)) (sym e) (record {
        at = end;
        count = refl;
        some = omega (arith, y);
        closes = t.closes;
        before = state_of t.last more new;
        front = t.reads s more (state_of phase.Start name no_pairs) (name_front s phase.Start name more no_pairs bytes count refl z k (chosen count _ _ z g));
        ends = closes s t.last phase.Opened greater_than_sign more new refl t.ends t.apart;
      })

  pub end_tag : (s : Syntax) (more : Chars) (bytes : List ℕ) (count : ℕ) → 0 < length bytes → get_or bytes 0 0 ≡ solidus → (count ≡ 0 → ⊥) → ClosesAt (take (length bytes - 1) (drop 1 bytes)) count
      → GainsName name (take count (take (length bytes - 1) (drop 1 bytes))) more → TakesTag (record { syntax = s; state = state_of p name old }) bytes (count + 2) (state_of phase.Closed more old)
  end_tag s more bytes count k f z c g =
      let begun : TakesFront s (state_of phase.Start name no_pairs) bytes 0 (state_of phase.Start name no_pairs) = record { fits = omega arith; printed = refl; goes = refl } in
      let first = taken_at s (state_of phase.Start name no_pairs) (state_of phase.Start name no_pairs) (state_of phase.EndStart name no_pairs) bytes 0 47 k f begun refl
      (skips s phase.Start phase.EndStart name no_pairs 47 (record { move = slash_move; unfinished = refl; printed = refl; outside = refl })) in
      let letters = name_front s phase.EndStart name more no_pairs (take (length bytes - 1) (drop 1 bytes)) count refl z (let q = c.fits in omega (arith, q)) (chosen count _ _ z g) in
      subst (λ (x : TagState). TakesTag (record { syntax = s; state = x }) bytes (count + 2) (state_of phase.Closed more old)) (sym e)
      (subst (λ (x : Pairs). TakesTag (record { syntax = s; state = state_of phase.Start name no_pairs }) bytes (count + 2) (state_of phase.Closed more x)) (sym none_read) (record {
        at = 1 + count;
        count = omega arith;
        some = omega arith;
        closes = closes_behind bytes 1 count c;
        before = state_of phase.EndName more no_pairs;
        front = takes_then s (state_of phase.Start name no_pairs) (state_of phase.EndStart name no_pairs) (state_of phase.EndName more no_pairs) bytes 1 count (omega (arith, k)) first letters;
        ends = closes s phase.EndName phase.Closed greater_than_sign more no_pairs refl (record { move = λ x. refl; whole = refl; outside = refl }) refl;
      }))

-- and so it is of the buffer
pub whole_buf : (old new : TagRead) (refused : Bool) (bytes : List ℕ) (n : ℕ) → new.syntax ≡ old.syntax → TakesTag old bytes n new.state
    → TakesWhole (record { syntax = old.syntax; state = old.state; refused = refused }) bytes n (record { syntax = new.syntax; state = new.state; refused = refused })
whole_buf old new refused bytes n e t = record {
  at = t.at;
  count = t.count;
  some = t.some;
  closes = t.closes;
  before = record { syntax = old.syntax; state = t.before; refused = refused };
  front = record { front = t.front; is = refl };
  ends = (t.ends, λ i. record { syntax = e i; state = new.state; refused = refused });
}
