-- The sample page as it is fed.
use Rattle.rx_command.proofs.Common.{◌≡◌, ◌∙◌, ℕ, suc, nat_eq, ◌+◌, ◌≤◌, ◌<◌, ◌⊎◌, inl, inr, ⊎_elim, List, [], ◌++◌, length, refl, sym, ap, subst, arith, None, Result, Ok, Err, IfOk, OnOk, encode_utf8_all, append_assoc, append-nil, length-append, nat_lt, nat_tests, Chars, Html, Limits, Context, Fault, copied, numbered, Triple, Way, standard_limits, setting_for, rdfa_way, most_items, head, item_before, item_behind, items_to, cut_in, sample_page, behind_items, HasDepth, IsCut, in_item, at_end, IsDeepest, sample_setting, sample_address, triples_in, line_with, line_for, IsSample, Refuses, Stops, page_has_none, not_longer, refusal_laws}
use Rattle.rx_items.proofs.Common.{length-map, cases_lt, FaultAt, triples_seen, read_tag}
use Rattle.rx_pages.proofs.Common.{split, reads_what_is_underway}
use Rattle.rx_terms.specs.declared.triples.Triple.{Triple as CodeTriple}
use Rattle.rx_nquads.specs.Writing.{nquads}
use Rattle.rx_rdfa.specs.Standard as names
use Rattle.rx_nest.specs.ShownLines.{shown_line}
use Rattle.rx_nest.proofs.ShownLines.{stands_underway}
use Rattle.rx_walk.specs.Walks.{Walked, WalkStands, WalkEnded, DepthGives}
use Rattle.rx_command.specs.Feeding.{Fed, FedTo, FedWhole, FeedsSample, TakesPiece, larger, Deepens, IsDeepestTo}
use Rattle.rx_command.specs.declared.samples.Feeding.{Feeding}
use Rattle.rx_pages.proofs.OneOf.{not_both}
use Rattle.rx_page.proofs.MadeLemmas.{list_written}
use Rattle.rx_command.proofs.SampleTokens.{samples_are_pages}
use Rattle.rx_page.specs.Readers.{shown_read}

-- how a sample page is read
abbrev pub sample_way : Way
sample_way = rdfa_way Html names.standard

-- ---- no fault is found

-- a page of a sample has no fault
no_fault : (count : ℕ) (fault : Fault) → count ≤ most_items → Refuses sample_way (sample_page count) fault → ⊥
no_fault count fault few r = let page = samples_are_pages count few in page_has_none sample_way (refusal_laws names.standard) (sample_page count) page.0 (page.1).page (page.1).accepted fault r

-- nor has what is fed of it
pub no_stop : (s : Feeding) (lent : List ℕ) (fault : Fault) (d : FeedsSample s) → lent ≡ s.piece.items → Stops sample_way (d.bytes ++ lent) fault → ⊥
no_stop s lent fault d e stops =
    no_fault d.count fault d.few
    (subst (λ p. Refuses sample_way p fault) d.due (subst (λ p. Refuses sample_way ((d.bytes ++ p) ++ d.rest) fault) e (stops.stays d.rest)))

pub no_fault_at_end : (count : ℕ) (fault : Fault) → count ≤ most_items → FaultAt Html standard_limits (sample_page count) fault → ⊥
no_fault_at_end count fault few f = let page = samples_are_pages count few in not_both Html standard_limits (sample_page count) page.0 fault (page.1).page f

-- ---- behind a piece

-- so many elements as the walk says
depth_here : (walk : Walked) (bytes : List ℕ) (depth : ℕ) → WalkStands sample_setting sample_address walk bytes → DepthGives walk depth → HasDepth bytes depth
depth_here walk bytes depth s d =
    let u = stands_underway Html standard_limits walk.nest bytes s.goes.signs s.goes.shown in
    let is = (d sample_setting sample_address bytes s u.line u.phase u.run u.part u.underway).0 in
    record { line = u.line; phase = u.phase; run = u.run; part = u.part; underway = u.underway; is = is ∙ length-map (shown_line Html u.line) read_tag }

-- bytes have one depth
one_depth : (bytes : List ℕ) (m n : ℕ) → HasDepth bytes m → HasDepth bytes n → m ≡ n
one_depth bytes m n a b =
    let x = (reads_what_is_underway Html standard_limits bytes a.line a.phase a.run a.part).0 a.underway in
    let y = (reads_what_is_underway Html standard_limits bytes b.line b.phase b.run b.part).0 b.underway in
    let both : Ok x.now ≡ Ok y.now = sym x.read ∙ y.read in
    let same : x.now ≡ y.now = (cc) in
    let lines : a.line ≡ b.line = sym x.is_at.line_is ∙ (ap (λ p. p.now.nest.line) same ∙ y.is_at.line_is) in
    a.is ∙ (ap (λ l. length (shown_line Html l)) lines ∙ sym b.is)

-- so the page's depth is one
pub one_deepest : (count m n : ℕ) → IsDeepest count m → IsDeepest count n → m ≡ n
one_deepest count m n a b =
    let x = b.most a.bytes a.cut in
    let y = a.most b.bytes b.cut in
    let left = one_depth a.bytes m x.0 a.has x.1 in
    let right = one_depth b.bytes n y.0 b.has y.1 in
    omega (arith, left, right, x.2, y.2)

record IsLarger (m n k : ℕ) : Type 0 where
  pub left : m ≤ k
  pub right : n ≤ k
  pub is : (k ≡ m) ⊎ (k ≡ n)

larger_is : (m n : ℕ) → IsLarger m n (larger m n)
larger_is m n =
    split (λ k. IsLarger m n k) (nat_lt m n) n m (λ t. let l : m ≤ n = grind (arith, nat_tests) in record { left = l; right = omega arith; is = inr refl })
    (λ t. let l : n ≤ m = grind (arith, nat_tests) in record { left = omega arith; right = l; is = inl refl })

none_deep : IsDeepestTo 0 0
none_deep = record { each = λ i l. absurd (omega (arith, l)); one = inl refl }

-- one piece more
deeper_to : (i before after : ℕ) → IsDeepestTo i before → Deepens (cut_in i) before after → IsDeepestTo (suc i) after
deeper_to i before after d (now, has, k) =
    let is_larger = subst (λ x. IsLarger before now x) (sym k) (larger_is before now) in
    let OneOf : ℕ → Type 0 = λ x. (x ≡ 0) ⊎ ((n : ℕ) × (n < suc i) × HasDepth (cut_in n) x) in
    let wider : OneOf before = ⊎_elim (λ e. inl e) (λ o. inr (o.0, omega (arith, o.1), o.2)) d.one in
    record {
      each = λ n l. ⊎_elim (λ below. let o = d.each n below in (o.0, o.1, omega (arith, o.2, is_larger.left))) (λ from. let same : i ≡ n = omega (arith, l, from) in (now, subst (λ x. HasDepth (cut_in x) now) same has, is_larger.right)) (cases_lt n i);
      one = ⊎_elim (λ e. subst OneOf (sym e) wider) (λ e. inr (i, omega arith, subst (λ x. HasDepth (cut_in i) x) (sym e) has)) is_larger.is;
    }

-- and the last one
deepest_whole : (count before after : ℕ) → IsDeepestTo count before → Deepens (sample_page count) before after → IsDeepest count after
deepest_whole count before after d (now, has, k) = ⊎_elim earlier (λ e. at_last e) is_larger.is where
  is_larger : IsLarger before now after
  is_larger = subst (λ x. IsLarger before now x) (sym k) (larger_is before now)

  most : (others : List ℕ) → IsCut count others → (other : ℕ) × HasDepth others other × (other ≤ after)
  most others (in_item i l) = let o = d.each i l in (o.0, o.1, omega (arith, o.2, is_larger.left))
  most others at_end = (now, has, is_larger.right)

  at_last : after ≡ now → IsDeepest count after
  at_last e = record { bytes = sample_page count; cut = at_end; has = subst (λ x. HasDepth (sample_page count) x) (sym e) has; most = most }

  earlier : after ≡ before → IsDeepest count after
  earlier e =
      ⊎_elim (λ none. at_last (omega (arith, none, e, is_larger.right)))
      (λ o. record { bytes = cut_in o.0; cut = in_item o.0 o.1; has = subst (λ x. HasDepth (cut_in o.0) x) (sym e) o.2; most = most }) d.one

pub size_fits : (walk : Walked) (bytes : List ℕ) → WalkStands sample_setting sample_address walk bytes → length bytes ≤ 1073741824
size_fits walk bytes s = not_longer sample_way bytes (shown_read sample_way bytes walk.nest s.goes.signs s.goes.shown s.paid s.goes.known.accepted)

-- ---- the line

said_so : (count size : ℕ) (depth : ℕ) (list : List CodeTriple) (line : List ℕ) → size ≡ length (sample_page count) → IsDeepest count depth
    → WalkEnded sample_setting sample_address (sample_page count) list
    → line ≡ line_with count size (length (numbered nat_eq (copied nat_eq (triples_seen list)))) (length (encode_utf8_all (nquads (numbered nat_eq (copied nat_eq (triples_seen list))) None))) depth
    → IsSample count line
said_so count size depth list line s d e spelled =
    let made : numbered nat_eq (copied nat_eq (triples_seen list)) ≡ triples_in e.tree = list_written sample_address names.standard e.tree list e.made in
    record {
      tree = e.tree;
      is = record { page = e.page; accepted = e.accepted };
      depth = depth;
      deepest = d;
      spelled =
          spelled ∙ (ap (λ n. line_with count n (length (numbered nat_eq (copied nat_eq (triples_seen list)))) (length (encode_utf8_all (nquads (numbered nat_eq (copied nat_eq (triples_seen list))) None))) depth) s
          ∙ ap (λ (ts : List (Triple ℕ)). line_for count depth ts) made);
    }

pub if_sample : {V E : Type 0} (items : V → List ℕ) (count size : ℕ) (depth : ℕ) (list : List CodeTriple) (r : Result V E) → size ≡ length (sample_page count) → IsDeepest count depth → WalkEnded sample_setting sample_address (sample_page count) list
    → IfOk r (λ line. items line ≡ line_with count size (length (numbered nat_eq (copied nat_eq (triples_seen list)))) (length (encode_utf8_all (nquads (numbered nat_eq (copied nat_eq (triples_seen list))) None))) depth)
    → IfOk r (λ line. IsSample count (items line))
if_sample items count size depth list (Ok line) s d e h = said_so count size depth list (items line) s d e h
if_sample items count size depth list (Err error) s d e h = tt

-- ---- feeding

-- before the first item nothing is fed
pub none_fed : (s : Feeding) → WalkStands sample_setting sample_address s.walk [] → s.size ≡ 0 → s.depth ≡ 0 → s.piece.items ≡ head → FedTo 0 s
none_fed s stands size depth piece = record { bytes = []; fed = record { stands = stands; size = size }; due = piece; depth = subst (λ n. IsDeepestTo 0 n) (sym depth) none_deep }

-- the piece was fed
pub fed_piece : (bytes piece lent : List ℕ) (old new : Feeding) (n : ℕ) → Fed bytes old → lent ≡ piece → WalkStands sample_setting sample_address new.walk (bytes ++ lent) → n ≡ length lent → new.size ≡ old.size + n → Fed (bytes ++ piece) new
fed_piece bytes piece lent old new n f e s l k =
    record { stands = subst (λ p. WalkStands sample_setting sample_address new.walk (bytes ++ p)) e s; size = omega (arith, k, l, ap length e, f.size, length-append bytes piece) }

pub fits_on : (bytes piece lent : List ℕ) (old : Feeding) (walk : Walked) (n : ℕ) → Fed bytes old → lent ≡ piece → WalkStands sample_setting sample_address walk (bytes ++ lent) → n ≡ length lent → old.size + n ≤ 1073741824
fits_on bytes piece lent old walk n f e s l = omega (arith, size_fits walk (bytes ++ lent) s, length-append bytes lent, l, f.size)

pub deepens : (walk : Walked) (bytes piece lent : List ℕ) (depth now then : ℕ) → lent ≡ piece → WalkStands sample_setting sample_address walk (bytes ++ lent) → DepthGives walk now → then ≡ larger depth now → Deepens (bytes ++ piece) depth then
deepens walk bytes piece lent depth now then e s d t = (now, subst (λ p. HasDepth (bytes ++ p) now) e (depth_here walk (bytes ++ lent) now s d), t)

-- the cut in the item
pub cut_is : (i : ℕ) (bytes piece before lent : List ℕ) → bytes ++ piece ≡ items_to i → before ≡ item_before i → lent ≡ piece ++ before → bytes ++ lent ≡ cut_in i
cut_is i bytes piece before lent due e l = ap (λ p. bytes ++ p) (l ∙ ap (λ b. piece ++ b) e) ∙ (sym (append_assoc bytes piece (item_before i)) ∙ ap (λ p. p ++ item_before i) due)

-- an item was fed up to its cut, and what is behind is due
pub item_fed : (i depth : ℕ) (bytes : List ℕ) (s : Feeding) → Fed bytes s → bytes ≡ cut_in i → s.piece.items ≡ item_behind → IsDeepestTo i depth → Deepens bytes depth s.depth → FedTo (suc i) s
item_fed i depth bytes s f e p d k =
    record {
      bytes = bytes;
      fed = f;
      due = ap (λ x. bytes ++ x) p ∙ (ap (λ x. x ++ item_behind) e ∙ append_assoc (items_to i) (item_before i) item_behind);
      depth = deeper_to i depth s.depth d (subst (λ x. Deepens x depth s.depth) e k);
    }

pub started : (walk : Walked) (context : Context) (address : Chars) (l : Limits) (bytes : List ℕ) → l ≡ standard_limits → context ≡ names.standard → address ≡ sample_address → WalkStands (record { syntax = Html; limits = l; context = context }) address walk bytes → WalkStands sample_setting sample_address walk bytes
started walk context address l bytes limits context_is address_is s =
    subst (λ a. WalkStands sample_setting a walk bytes) address_is
    (subst (λ (k : Context). WalkStands (setting_for Html k) address walk bytes) context_is (subst (λ (x : Limits). WalkStands (record { syntax = Html; limits = x; context = context }) address walk bytes) limits s))

-- the last piece was fed
pub whole_fed : (count : ℕ) (bytes : List ℕ) (old new : Feeding) → bytes ++ old.piece.items ≡ sample_page count → IsDeepestTo count old.depth → TakesPiece bytes old new → FedWhole count new
whole_fed count bytes old new e d t =
    record { fed = subst (λ p. Fed p new) e t.fed; depth = deepest_whole count old.depth new.depth d (subst (λ p. Deepens p old.depth new.depth) e t.depth) }

pub if_whole : {E : Type 0} (count : ℕ) (bytes : List ℕ) (old new : Feeding) (r : Result (Unit {0}) E) → bytes ++ old.piece.items ≡ sample_page count → IsDeepestTo count old.depth → OnOk r (TakesPiece bytes old new) → OnOk r (FedWhole count new)
if_whole count bytes old new (Ok done) e d t = whole_fed count bytes old new e d t
if_whole count bytes old new (Err error) e d t = tt

pub tail_due : (count : ℕ) (bytes piece lent : List ℕ) → bytes ++ piece ≡ items_to count → lent ≡ piece ++ behind_items → bytes ++ lent ≡ sample_page count
tail_due count bytes piece lent due l = ap (λ p. bytes ++ p) l ∙ (sym (append_assoc bytes piece behind_items) ∙ ap (λ p. p ++ behind_items) due)

-- what is fed up to a cut begins the page that ends with this item
cut_due : (i : ℕ) → cut_in i ++ (item_behind ++ behind_items) ≡ sample_page (suc i)
cut_due i = sym (append_assoc (cut_in i) item_behind behind_items) ∙ ap (λ p. p ++ behind_items) (append_assoc (items_to i) (item_before i) item_behind)

pub item_due : (i : ℕ) (bytes : List ℕ) (s : Feeding) → i < most_items → Fed bytes s → bytes ++ s.piece.items ≡ cut_in i → FeedsSample s
item_due i bytes s few f e = record { bytes = bytes; fed = f; count = suc i; few = omega (arith, few); rest = item_behind ++ behind_items; due = ap (λ p. p ++ (item_behind ++ behind_items)) e ∙ cut_due i }

pub whole_due : (count : ℕ) (bytes : List ℕ) (s : Feeding) → count ≤ most_items → Fed bytes s → bytes ++ s.piece.items ≡ sample_page count → FeedsSample s
whole_due count bytes s few f e = record { bytes = bytes; fed = f; count = count; few = few; rest = []; due = append-nil (bytes ++ s.piece.items) ∙ e }

-- what is behind the cut stands in the empty piece
pub behind_is : (before now : List ℕ) → before ≡ [] → now ≡ before ++ item_behind → now ≡ item_behind
behind_is before now e k = k ∙ ap (λ p. p ++ item_behind) e

pub head_is : (before now : List ℕ) → before ≡ [] → now ≡ before ++ head → now ≡ head
head_is before now e k = k ∙ ap (λ p. p ++ head) e
