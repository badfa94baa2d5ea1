-- What is taken at once is read like its bytes one after another: text with its references, and characters of a tag.
use Rattle.rx_scan.proofs.Common.{◌≡◌, ◌∙◌, ℕ, ◌+◌, ◌-◌, ◌≤◌, ◌<◌, false, List, [], ◌∷◌, ◌++◌, length, take, drop, ap, sym, subst, arith, eqb-true, take-add, length-take-le, inl, inr, ◌⊎◌, Bool, true, refl, Option, Some, None, append_assoc, encode_utf8_all, length-drop, ◌==◌, MatchBool, IfSome, codes, eqb-false, cases_lt, and_parts, take_rest, list_all, all_scalars, Chars, begins_with, split, chars_from_encodes, Syntax, Html, Xhtml, meaning, MayStep, ReadsFront, of_text, of_tag, of_opening, with_tag_mark, Pending, run_on, Reading, ReadsAs, TellsFront, text_passed, is_plain_char}
use Rattle.rx_scan.specs.declared.marks.TokenState.TheVariants as mark
use Rattle.rx_pages.specs.PageReader as reader
use Rattle.rx_scan.proofs.FeedLemmas.{feed_on, feeds_steps, open_on}
use Rattle.rx_scan.proofs.RunLemmas.{ReadsOn, reads_none}
use Rattle.rx_chars.specs.Named.{named, named_table}
use Rattle.rx_reader.specs.declared.phases.RunPhase.TheVariants as run
use Rattle.rx_reader.specs.declared.phases.RunMove.TheVariants as run_moves
use Rattle.rx_tags.proofs.TakeLemmas.{chosen as some_taken, some_count, match_by}
use Rattle.rx_scan.specs.Entries as entries
use Rattle.rx_scan.specs.WholeReferences.{usual_reference, IsReference, BeginsReference, TellsOne, of_plain, of_reference, of_line_end, TellsText, one, more}
use Rattle.rx_scan.proofs.PlainLemmas.{chars_plain}
use Rattle.rx_scan.proofs.ReferenceLemmas.{reference_on}
use Rattle.rx_scan.proofs.SaidLemmas.{TellsChars, chars_on, line_end_on}

-- what stands at the front
begins_taken : (front text : List ℕ) → begins_with front text ≡ true → (take (length front) text ≡ front) × (length front ≤ length text)
begins_taken [] text h = (refl, omega arith)
begins_taken (c ∷ front) [] h = absurd (cc)
begins_taken (c ∷ front) (d ∷ text) h =
    let k = and_parts (c == d) _ h in
    let r = begins_taken front text k.1 in
    (λ i. sym (eqb-true c d k.0) i ∷ r.0 i, omega (arith, r.1))

-- the usual names
usual_are : (named (codes "amp") ≡ Some 38) × (named (codes "lt") ≡ Some 60) × (named (codes "gt") ≡ Some 62) × (named (codes "quot") ≡ Some 34)
unfolding named_table
usual_are = (refl, refl, refl, refl)

means_in : (syntax : Syntax) (name : Chars) (c : ℕ) → meaning Html name ≡ Some c → meaning Xhtml name ≡ Some c → meaning syntax name ≡ Some c
means_in Html name c h x = h
means_in Xhtml name c h x = x

module _ (syntax : Syntax) where
  usual : (name : Chars) (c : ℕ) → run_on (run_moves.Goes run.Ampersand) name ≡ run_moves.Goes run.Named → meaning Html name ≡ Some c → meaning Xhtml name ≡ Some c → IsReference syntax c (38 ∷ (name ++ 59 ∷ []))
  usual name c goes h x = record { body = name; are = refl; last = run.Named; goes = goes; closes = refl; means = means_in syntax name c h x }

  stands_there : (bytes front : List ℕ) (c : ℕ) → 4 ≤ length front → IsReference syntax c front → begins_with front bytes ≡ true → BeginsReference syntax bytes c (length front)
  stands_there bytes front c k r h =
      let t = begins_taken front bytes h in
      record { is = subst (λ (x : List ℕ). IsReference syntax c x) (sym t.0) r; some = k; fits = t.1 }

  abbrev Is : List ℕ → Option (ℕ × ℕ) → Type 0
  Is bytes o = IfSome o (λ r. BeginsReference syntax bytes r.0 r.1)

  -- what is found is a reference
  pub usual_is : (bytes : List ℕ) → IfSome (usual_reference bytes) (λ r. BeginsReference syntax bytes r.0 r.1)
  usual_is bytes =
      split (Is bytes) (begins_with (codes "&amp;") bytes) (Some (38, 5)) _ (stands_there bytes (codes "&amp;") 38 (omega arith) (usual (codes "amp") 38 refl usual_are.0 refl))
      (λ _. split (Is bytes) (begins_with (codes "&lt;") bytes) (Some (60, 4)) _ (stands_there bytes (codes "&lt;") 60 (omega arith) (usual (codes "lt") 60 refl usual_are.1 refl))
      (λ _. split (Is bytes) (begins_with (codes "&gt;") bytes) (Some (62, 4)) _ (stands_there bytes (codes "&gt;") 62 (omega arith) (usual (codes "gt") 62 refl usual_are.2 refl))
      (λ _. split (Is bytes) (begins_with (codes "&quot;") bytes) (Some (34, 6)) None (stands_there bytes (codes "&quot;") 34 (omega arith) (usual (codes "quot") 34 refl usual_are.3 refl)) (λ _. tt))))

-- text that is told at once is its characters
tells_chars : (l new : Reading) (front cs : List ℕ) → all_scalars cs ≡ true → encode_utf8_all cs ≡ front → TellsFront l front new → TellsChars l cs new
tells_chars l new front cs k e t =
    record {
      may = record { between = t.may.between; inside = t.may.may.inside; undropped = t.may.may.undropped; started = t.may.may.started; on_a_line = t.may.may.on_a_line };
      held = t.may.may.held;
      plain = chars_plain cs (ap (list_all is_plain_char) e ∙ t.may.plain);
      scalars = k;
      page = subst (λ (x : List ℕ). l.place.at + length x ≤ l.setting.limits.page) (sym e) t.may.page;
      text = t.text ∙ ap (λ x. l.text.text ++ x) (sym (chars_from_encodes cs front t.may.text e));
      size = t.size ∙ ap (λ x. l.text.size + length x) (sym e);
      room = t.room;
      is = subst (λ (x : List ℕ). new ≡ entries.with_parts l (entries.undropped l.setting) (text_passed (length x) l.place) l.pending new.text) (sym e) t.is;
    }

module _ (old : Reading) (s : reader.Scanning) where
  plain_on : (new : Reading) (front : List ℕ) (l : Reading) (bytes : List ℕ) → 0 < length front → ReadsOn old s bytes l → TellsFront l front new → ReadsOn old s (bytes ++ front) new
  plain_on new front l bytes k r t = let u = t.may.text in by u.0 u.1.0 u.1.1
    where
      by : (cs : List ℕ) → all_scalars cs ≡ true → encode_utf8_all cs ≡ front → ReadsOn old s (bytes ++ front) new
      by [] q e = absurd (omega (arith, ap length e))
      by (c ∷ cs) q e = subst (λ (x : List ℕ). ReadsOn old s (bytes ++ x) new) e (chars_on old s new cs c l bytes r (tells_chars l new front (c ∷ cs) q e t))

  one_on : (new : Reading) (front : List ℕ) (l : Reading) (bytes : List ℕ) → 0 < length front → ReadsOn old s bytes l → TellsOne l front new → ReadsOn old s (bytes ++ front) new
  one_on new front l bytes k r (of_plain t) = plain_on new front l bytes k r t
  one_on new front l bytes k r (of_reference t) = reference_on old s new front l bytes r t
  one_on new front l bytes k r (of_line_end t) = line_end_on old s new front l bytes r t

  -- all of it
  pub text_on : (l : Reading) (bytes : List ℕ) → ReadsOn old s bytes l → (front : List ℕ) (new : Reading) → TellsText l front new → ReadsOn old s (bytes ++ front) new
  text_on l bytes r front new (one k t) = one_on new front l bytes k r t
  text_on l bytes r _ new (more {front} {next} {middle} t k u) =
      subst (λ (x : List ℕ). ReadsOn old s x new) (append_assoc bytes front next) (one_on new next middle (bytes ++ front) k (text_on l bytes r front middle t) u)

-- no token is begun before or behind what is told
one_between : (l new : Reading) (front : List ℕ) → TellsOne l front new → (new.pending ≡ l.pending) × (l.pending.mark ≡ mark.Nothing)
one_between l new front (of_plain t) = (ap (λ (x : Reading). x.pending) t.is, t.may.between)
one_between l new front (of_reference t) = (ap (λ (x : Reading). x.pending) t.is, t.between)
one_between l new front (of_line_end t) = (ap (λ (x : Reading). x.pending) t.is, t.between)

text_between : (l : Reading) (front : List ℕ) (new : Reading) → TellsText l front new → (new.pending ≡ l.pending) × (l.pending.mark ≡ mark.Nothing)
text_between l front new (one k t) = one_between l new front t
text_between l _ new (more {front} {next} {middle} t k u) = let first = text_between l front middle t in ((one_between middle new next u).0 ∙ first.0, first.1)

pub one_kept : (l new : Reading) (front : List ℕ) (n : ℕ) → MatchBool (n == 0) (new ≡ l) (TellsOne l front new) → new.pending ≡ l.pending
one_kept l new front n m = match_by (n == 0) _ _ m (λ b e. ap (λ (x : Reading). x.pending) e) (λ b t. (one_between l new front t).0)

pub plain_one : (b : Bool) (old l : Reading) (front : List ℕ) → MatchBool b (l ≡ old) (TellsFront old front l) → MatchBool b (l ≡ old) (TellsOne old front l)
plain_one true old l front m = m
plain_one false old l front m = of_plain m

-- what is taken of the bytes, where it is some
pub one_text : (old l : Reading) (bytes : List ℕ) (n : ℕ) → n ≤ length bytes → MatchBool (n == 0) (l ≡ old) (TellsOne old (take n bytes) l) → MatchBool (n == 0) (l ≡ old) (TellsText old (take n bytes) l)
one_text old l bytes n f m =
    match_by {G = MatchBool (n == 0) (l ≡ old) (TellsText old (take n bytes) l)} (n == 0) _ _ m
    (λ b e. subst (λ (x : Bool). MatchBool x (l ≡ old) (TellsText old (take n bytes) l)) (sym b) e)
    (λ b t. some_taken n (l ≡ old) (TellsText old (take n bytes) l) (eqb-false n 0 b) (one (subst (λ (x : ℕ). 0 < x) (sym (length-take-le n bytes f)) (let z = eqb-false n 0 b in omega (arith, z))) t))

text_both : (old l : Reading) (front : List ℕ) → TellsText old front l → (next : List ℕ) (new : Reading) → TellsText l next new → TellsText old (front ++ next) new
text_both old l front t next new (one k u) = more t k u
text_both old l front t _ new (more {front = a} {next = b} {middle} u k w) = subst (λ (x : List ℕ). TellsText old x new) (append_assoc front a b) (more (text_both old l front t a middle u) k w)

-- Text behind text, where a slice is what is left.
pub text_sum : (old l new : Reading) (bytes : List ℕ) (i n : ℕ) → MatchBool (i == 0) (l ≡ old) (TellsText old (take i bytes) l) → MatchBool (n == 0) (new ≡ l) (TellsText l (take n (take (length bytes - i) (drop i bytes))) new)
    → MatchBool (i + n == 0) (new ≡ old) (TellsText old (take (i + n) bytes) new)
text_sum old l new bytes i n m k =
    match_by {G = MatchBool (i + n == 0) (new ≡ old) (TellsText old (take (i + n) bytes) new)} (i == 0) _ _ m
    (λ b e. match_by (n == 0) _ _ rest
    (λ c f. let z : 0 ≡ i + n = omega (arith, eqb-true i 0 b, eqb-true n 0 c) in subst (λ (x : ℕ). MatchBool (x == 0) (new ≡ old) (TellsText old (take x bytes) new)) z (f ∙ e))
    (λ c u. let z : i ≡ 0 = eqb-true i 0 b in
    some_taken (i + n) (new ≡ old) _ (λ q. eqb-false n 0 c (omega (arith, q)))
    (subst (λ (x : List ℕ). TellsText old x new) (ap (λ x. take n (drop x bytes)) z ∙ ap (λ x. take x bytes) (omega (arith, z)))
    (subst (λ (x : Reading). TellsText x (take n (drop i bytes)) new) e u))))
    (λ b t. match_by (n == 0) _ _ rest
    (λ c f. let z : i ≡ i + n = omega (arith, eqb-true n 0 c) in
    some_taken (i + n) (new ≡ old) _ (λ q. eqb-false i 0 b (omega (arith, q)))
    (subst (λ (x : ℕ). TellsText old (take x bytes) new) z (subst (λ (x : Reading). TellsText old (take i bytes) x) (sym f) t)))
    (λ c u. some_taken (i + n) (new ≡ old) _ (λ q. eqb-false n 0 c (omega (arith, q)))
    (subst (λ (x : List ℕ). TellsText old x new) (sym (take-add i n bytes)) (text_both old l (take i bytes) t (take n (drop i bytes)) new u))))
  where
    rest : MatchBool (n == 0) (new ≡ l) (TellsText l (take n (drop i bytes)) new)
    rest = subst (λ (x : List ℕ). MatchBool (n == 0) (new ≡ l) (TellsText l (take n x) new)) (take_rest bytes i) k

module _ (old new : Reading) (s : reader.Scanning) where
  some_front : (front : List ℕ) (l : Reading) (bytes : List ℕ) → 0 < length front → ReadsOn old s bytes l → ReadsFront l front new → ReadsOn old s (bytes ++ front) new
  some_front front l bytes k r (of_text t) = text_on old s l bytes r front new t
  some_front (b ∷ front) l bytes k r (of_tag t) = feed_on old new s b front l bytes r t
  some_front (b ∷ front) l bytes k r (of_opening t) = open_on old new s b front l bytes r t
  some_front [] l bytes k r _ = absurd (omega arith)

  -- what is taken at once behind so many bytes of a piece
  pub front_read : (l : Reading) (piece : List ℕ) (i n : ℕ) → n ≤ length (drop i piece) → ReadsOn old s (take i piece) l → MatchBool (n == 0) (new ≡ l) (ReadsFront l (take n (drop i piece)) new) → ReadsOn old s (take (i + n) piece) new
  front_read l piece i n k r m =
      match_by (n == 0) _ _ m
      (λ z e. subst (λ (x : ℕ). ReadsOn old s (take x piece) new) (let q : n ≡ 0 = eqb-true n 0 z in omega arith) (subst (λ (x : Reading). ReadsOn old s (take i piece) x) (sym e) r))
      (λ z t. subst (λ (x : List ℕ). ReadsOn old s x new) (sym (take-add i n piece)) (some_front (take n (drop i piece)) l (take i piece) (subst (λ (x : ℕ). 0 < x) (sym (length-take-le n (drop i piece) k)) (some_count n (eqb-false n 0 z))) r t))

-- what it leaves as it was
pub record IsKept (l : Reading) (n : ℕ) (new : Reading) : Type 0 where
  pub between : l.pending.mark ≡ mark.Nothing → new.pending.mark ≡ mark.Nothing
  pub steps : MayStep l.pending.tag → MayStep new.pending.tag
  pub apart : (new.text.text ≡ l.text.text) ⊎ (l.pending.mark ≡ mark.Nothing)
  pub none : n ≡ 0 → new.text.text ≡ l.text.text

some_kept : (l new : Reading) (n : ℕ) → (n == 0) ≡ false → (l.pending.mark ≡ mark.Nothing → new.pending.mark ≡ mark.Nothing) → (MayStep l.pending.tag → MayStep new.pending.tag) → (new.text.text ≡ l.text.text) ⊎ (l.pending.mark ≡ mark.Nothing) → IsKept l n new
some_kept l new n z b s a = record { between = b; steps = s; apart = a; none = λ q. absurd (eqb-false n 0 z q) }

pub kept : (l new : Reading) (front : List ℕ) (n : ℕ) → MatchBool (n == 0) (new ≡ l) (ReadsFront l front new) → IsKept l n new
kept l new front n m =
    match_by (n == 0) _ _ m
    (λ z e. record {
      between = λ m. ap (λ (x : Reading). x.pending.mark) e ∙ m;
      steps = λ k. subst (λ (x : Reading). MayStep x.pending.tag) (sym e) k;
      apart = inl (ap (λ (x : Reading). x.text.text) e);
      none = λ q. ap (λ (x : Reading). x.text.text) e;
    })
    (λ z t. by z t)
  where
    by : (n == 0) ≡ false → ReadsFront l front new → IsKept l n new
    by z (of_text t) =
        some_kept l new n z (λ m. ap (λ (x : Pending). x.mark) (text_between l front new t).0 ∙ m)
        (λ k. subst (λ (x : Pending). MayStep x.tag) (sym (text_between l front new t).0) k) (inr (text_between l front new t).1)
    by z (of_tag t) = some_kept l new n z (λ m. ap (λ (x : Reading). x.pending.mark) t.is ∙ m) (λ k. feeds_steps l new front t k) (inl (ap (λ (x : Reading). x.text.text) t.is))
    by z (of_opening t) =
        some_kept l new n z (λ m. absurd (let e = sym t.opened ∙ m in cc)) (λ k. feeds_steps (with_tag_mark l) new front t.feeds k) (inl (ap (λ (x : Reading). x.text.text) t.feeds.is))

module _ (l new : Reading) (n : ℕ) (k : IsKept l n new) where
  pub apart_on : (l.text.text ≡ []) ⊎ (l.pending.mark ≡ mark.Nothing) → (new.text.text ≡ []) ⊎ (new.pending.mark ≡ mark.Nothing)
  apart_on o = elim k.apart [ inl e ↦ elim o [ inl x ↦ inl (e ∙ x) | inr m ↦ inr (k.between m) ] | inr m ↦ inr (k.between m) ]

  pub later_on : (i : ℕ) → ((l.text.text ≡ [] → ⊥) → 0 < i) → (new.text.text ≡ [] → ⊥) → 0 < i + n
  later_on i h x = elim (cases_lt 0 n) [ inl a ↦ omega (arith, a) | inr b ↦ let p = h (λ z. x (k.none (omega (arith, b)) ∙ z)) in omega (arith, p) ]

-- at the first byte of a piece
pub front_first : (old new : Reading) (s : reader.Scanning) (piece : List ℕ) (n : ℕ) → old.text.text ≡ [] → n ≤ length piece → ReadsAs old s → MatchBool (n == 0) (new ≡ old) (ReadsFront old (take n piece) new) → ReadsOn old s (take n piece) new
front_first old new s piece n e k h m = subst (λ (x : ℕ). ReadsOn old s (take x piece) new) (omega arith) (front_read old new s old piece 0 n k (reads_none old s e h) m)

-- and further on, where a slice is what is left
pub front_next : (old l new : Reading) (s : reader.Scanning) (piece : List ℕ) (i n : ℕ) → n ≤ length (take (length piece - i) (drop i piece)) → ReadsOn old s (take i piece) l → MatchBool (n == 0) (new ≡ l) (ReadsFront l (take n (take (length piece - i) (drop i piece))) new) → ReadsOn old s (take (i + n) piece) new
front_next old l new s piece i n k r m =
    let rest = take_rest piece i in
    front_read old new s l piece i n (subst (λ (x : List ℕ). n ≤ length x) rest k) r (subst (λ (x : List ℕ). MatchBool (n == 0) (new ≡ l) (ReadsFront l (take n x) new)) rest m)

pub front_within : (piece : List ℕ) (i n : ℕ) → i ≤ length piece → n ≤ length (take (length piece - i) (drop i piece)) → i + n ≤ length piece
front_within piece i n h k = let q = subst (λ (x : List ℕ). n ≤ length x) (take_rest piece i) k in omega (arith, q, length-drop i piece)
