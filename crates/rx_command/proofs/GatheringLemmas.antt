-- Several pages that are read one after another.
use Rattle.rx_command.proofs.Common.{◌≡◌, ◌∙◌, ◌+◌, ◌-◌, ◌≤◌, ◌⊎◌, inl, inr, ℕ, zero, suc, nat_eq, List, [], ◌∷◌, ◌++◌, length, take, drop, sym, ap, subst, refl, arith, Option, Some, None, encode_utf8_all, append_assoc, length-append, Chars, slice_get, Rose, file_of, ShelfContent, WhereKnown, Lacks, moves_then, Syntax, Fault, copied, numbered, Renamed, Triple, set_of, Context, graph_of, Gathering, Listed, Way, rdfa_way, HasFirst, GivesList, page_limit, ReadsWhole, FindsFault, TakesToFirst, TakesOf, size_of, ContextHolds, LacksContext, TakesContext, ReadsContext, TellsThat, LacksPage, LacksOne, base_in, facts_in, approach_way, FileList, GivesTriples, GivesGraph, IsJudged, Judges, JudgesEach, IsPartRead, AreParts, total, TakesGathering, IsThat, TakesPart, TakesParts, ReadsListed, ReadsEach, GathersPage, AddsPages, GathersPages, as_read}
use Rattle.std.proofs.lemmas.List.{take_more}
use Rattle.rx_items.proofs.Common.{append-nil, get_or_from_slice_get, slice_get_within, take_all, take-append-drop, triples_seen, written_denotes}
use Rattle.rx_terms.specs.declared.triples.Triple.{Triple as CodeTriple}
use Rattle.rx_many.specs.Pages.{JudgedPage, Judgement, refused, accepted, refused_page, accepted_page}
use Rattle.rx_command.specs.declared.pages.Approach.{Approach}
use Rattle.rx_command.proofs.InputLemmas.{one_context, has_context, rose_before}
use Rattle.rx_page.proofs.MadeLemmas.{list_written, written_read}

-- ---- lists

front_more : {A : Type 0} (xs : List A) (i : ℕ) (x : A) → slice_get xs i ≡ Some x → take i xs ++ x ∷ [] ≡ take (i + 1) xs
front_more xs i x e = ap (λ z. take i xs ++ z ∷ []) (sym (get_or_from_slice_get xs i x x e)) ∙ sym (take_more xs i x (slice_get_within xs i x e))

-- ---- parts

total_both : (a b : List ℕ) → total (a ++ b) ≡ total a + total b
total_both [] b = omega arith
total_both (n ∷ a) b = let t : total (a ++ b) ≡ total a + total b = total_both a b in omega (arith, t)

-- nothing of each page
abbrev none_of : List Listed → List ℕ
none_of [] = []
none_of (listed ∷ more) = 0 ∷ none_of more

total_none : (listed : List Listed) → total (none_of listed) ≡ 0
total_none [] = refl
total_none (one ∷ more) = let rest : total (none_of more) ≡ 0 = total_none more in omega (arith, rest)

module _ (holds : Context → Type 0) (syntax : Syntax) (files : FileList) where
  nothing_of : (one : Listed) → IsPartRead holds syntax files one 0
  nothing_of one = record { size = omega arith; most = omega arith; to_fault = λ context h bytes f fault first. omega arith }

  are_none : (listed : List Listed) → AreParts holds syntax files listed (none_of listed)
  are_none [] = tt
  are_none (one ∷ more) = (nothing_of one, are_none more)

  parts_both : (listed more : List Listed) (parts rest : List ℕ) → AreParts holds syntax files listed parts → AreParts holds syntax files more rest → AreParts holds syntax files (listed ++ more) (parts ++ rest)
  parts_both [] more [] rest a b = b
  parts_both (one ∷ listed) more (n ∷ parts) rest a b = (a.0, parts_both listed more parts rest a.1 b)
  parts_both _ more _ rest a b = absurd a

  -- under other contexts
  parts_under : (other : Context → Type 0) → ((k : Context) → other k → holds k) → (listed : List Listed) (parts : List ℕ) → AreParts holds syntax files listed parts → AreParts other syntax files listed parts
  parts_under other f [] [] a = tt
  parts_under other f [] (n ∷ parts) a = absurd a
  parts_under other f (one ∷ listed) [] a = absurd a
  parts_under other f (one ∷ listed) (n ∷ parts) a =
      (record { size = (a.0).size; most = (a.0).most; to_fault = λ k h. (a.0).to_fault k (f k h) }, parts_under other f listed parts a.1)

-- ---- judgements

module _ (gives : Syntax → Context → Chars → List ℕ → List (Triple ℕ) → Type 0) (syntax : Syntax) (context : Context) (files : FileList) where
  judges_both : (listed more : List Listed) (pages rest : List JudgedPage) → JudgesEach gives syntax context files listed pages → JudgesEach gives syntax context files more rest → JudgesEach gives syntax context files (listed ++ more) (pages ++ rest)
  judges_both [] more [] rest a b = b
  judges_both (one ∷ listed) more (page ∷ pages) rest a b = (a.0, judges_both listed more pages rest a.1 b)
  judges_both _ more _ rest a b = absurd a

-- what is written denotes the page's graph
judged_graph : (syntax : Syntax) (context : Context) (address : Chars) (bytes : List ℕ) (judgement : Judgement) → IsJudged GivesTriples syntax context address bytes judgement → IsJudged GivesGraph syntax context address bytes judgement
judged_graph syntax context address bytes (refused fault) h = h
judged_graph syntax context address bytes (accepted triples) h = record {
  tree = h.tree;
  is = h.is;
  renamed =
      subst (λ (ts : List (Triple ℕ)). Renamed (graph_of (base_in address h.tree) (facts_in context h.tree)) (set_of ts)) (sym h.given) (written_denotes (base_in address h.tree) (facts_in context h.tree));
  proper = subst (λ (ts : List (Triple ℕ)). as_read ts ≡ ts) (sym h.given) (written_read (base_in address h.tree) (facts_in context h.tree));
}

pub judged_graphs : (syntax : Syntax) (context : Context) (files : FileList) (listed : List Listed) (pages : List JudgedPage) → JudgesEach GivesTriples syntax context files listed pages → JudgesEach GivesGraph syntax context files listed pages
judged_graphs syntax context files [] [] a = tt
judged_graphs syntax context files [] (page ∷ pages) a = absurd a
judged_graphs syntax context files (one ∷ listed) [] a = absurd a
judged_graphs syntax context files (one ∷ listed) (page ∷ pages) a =
    let j = a.0 in
    (record { bytes = j.bytes; file = j.file; address = j.address; judged = judged_graph syntax context one.address j.bytes page.judgement j.judged }, judged_graphs syntax context files listed pages a.1)

-- ---- a page

both_moves : {first second : ShelfContent → ShelfContent → Type 0} {a b : Option ShelfContent} (both : ShelfContent → ShelfContent → Type 0) → ((x y : ShelfContent) → first x y → second x y → both x y) → WhereKnown first a b → WhereKnown second a b → WhereKnown both a b
both_moves both f m n = record { same = m.same; taken = λ x y p q. f x y (m.taken x y p q) (n.taken x y p q) }

pub takes_nothing : (context : Context) (syntax : Syntax) (one : Listed) (x : ShelfContent) → TakesPart context syntax one x x
takes_nothing context syntax one x = record { files = refl; part = 0; is = nothing_of (IsThat context) syntax x.files one; taken = omega arith; starts = omega arith }

-- nor of any of them
pub none_taken : (context : Context) (syntax : Syntax) (listed : List Listed) (x : ShelfContent) → TakesParts context syntax listed x x
none_taken context syntax listed x =
    let none : total (none_of listed) ≡ 0 = total_none listed in
    record { files = refl; parts = none_of listed; are = are_none (IsThat context) syntax x.files listed; taken = omega (arith, none); starts = omega arith }

module _ (a : Approach) (syntax : Syntax) (context : Context) (address page name : List ℕ) (s : a.syntax ≡ syntax) (k : a.context ≡ context) (n : a.address ≡ address) (named : name ≡ encode_utf8_all page) where
  abbrev One : Listed
  One = record { address = address; page = page }

  same_approach : a ≡ record { syntax = syntax; context = context; address = address }
  same_approach = λ i. record { syntax = s i; context = k i; address = n i }

  same_way : approach_way a ≡ rdfa_way syntax context
  same_way = ap (λ (b : Approach). approach_way b) same_approach

  -- how much of it was read
  part_of : (x y : ShelfContent) → TakesOf name page_limit x y → TakesToFirst (approach_way a) name x y → TakesPart context syntax One x y
  part_of x y t f =
      let size : size_of (file_of x.files name) ≡ size_of (file_of x.files (encode_utf8_all page)) = ap (λ z. size_of (file_of x.files z)) named in
      record {
        files = t.files;
        part = y.taken - x.taken;
        is = record {
          size = omega (arith, t.file, size);
          most = omega (arith, t.most);
          to_fault = λ other h bytes g fault first.
              let under : HasFirst (rdfa_way syntax context) bytes fault = subst (λ (c : Context). HasFirst (rdfa_way syntax c) bytes fault) (sym h) first in
              let here : HasFirst (approach_way a) bytes fault = subst (λ (w : Way). HasFirst w bytes fault) (sym same_way) under in
              let most = f bytes (ap (λ z. file_of x.files z) named ∙ g) fault here in
              omega (arith, most);
        };
        taken = omega arith;
        starts = t.starts;
      }

  pub page_takes : (told now : Option ShelfContent) → WhereKnown (TakesOf name page_limit) told now → WhereKnown (TakesToFirst (approach_way a) name) told now → WhereKnown (TakesPart context syntax One) told now
  page_takes told now t f = both_moves (TakesPart context syntax One) (λ x y p q. part_of x y p q) t f

  -- what it gives
  gives_triples : (list : List CodeTriple) (x y : ShelfContent) → ReadsWhole (GivesList a.syntax a.context a.address) name list x y → Judges GivesTriples syntax context x.files One (accepted_page address (numbered nat_eq (copied nat_eq (triples_seen list))))
  gives_triples list x y c =
      let triples : List (Triple ℕ) = numbered nat_eq (copied nat_eq (triples_seen list)) in
      let own : GivesTriples a.syntax a.context a.address c.bytes triples =
      record { tree = c.gives.tree; is = record { page = c.gives.page; accepted = c.gives.accepted }; given = list_written a.address a.context c.gives.tree list c.gives.made } in
      record {
        bytes = c.bytes;
        file = ap (λ z. file_of x.files z) (sym named) ∙ c.file;
        address = refl;
        judged = subst (λ (b : Approach). GivesTriples b.syntax b.context b.address c.bytes triples) same_approach own;
      }

  gives_fault : (fault : Fault) (x y : ShelfContent) → FindsFault (approach_way a) name fault x y → Judges GivesTriples syntax context x.files One (refused_page address fault)
  gives_fault fault x y c = record {
    bytes = c.bytes;
    file = ap (λ z. file_of x.files z) (sym named) ∙ c.file;
    address = refl;
    judged = subst (λ (w : Way). HasFirst w c.bytes fault) same_way c.is;
  }

  pub adds_accepted : (told now : Option ShelfContent) (before after : List JudgedPage) (list : List CodeTriple) → WhereKnown (TakesOf name page_limit) told now → WhereKnown (TakesToFirst (approach_way a) name) told now
      → WhereKnown (ReadsWhole (GivesList a.syntax a.context a.address) name list) told now → after ≡ before ++ accepted_page address (numbered nat_eq (copied nat_eq (triples_seen list))) ∷ [] → GathersPage context syntax One before after told now
  adds_accepted told now before after list t f m e =
      let page : JudgedPage = accepted_page address (numbered nat_eq (copied nat_eq (triples_seen list))) in
      record { page = page; adds = e; reads = both_moves (ReadsListed context syntax One page) (λ x y c p. record { judged = gives_triples list x y c; takes = p; starts = c.starts }) m (page_takes told now t f) }

  pub adds_refused : (told now : Option ShelfContent) (before after : List JudgedPage) (fault : Fault) → WhereKnown (TakesOf name page_limit) told now → WhereKnown (TakesToFirst (approach_way a) name) told now
      → WhereKnown (FindsFault (approach_way a) name fault) told now → after ≡ before ++ refused_page address fault ∷ [] → GathersPage context syntax One before after told now
  adds_refused told now before after fault t f m e =
      let page : JudgedPage = refused_page address fault in
      record { page = page; adds = e; reads = both_moves (ReadsListed context syntax One page) (λ x y c p. record { judged = gives_fault fault x y c; takes = p; starts = c.starts }) m (page_takes told now t f) }

-- ---- page after page

module _ (context : Context) (syntax : Syntax) where
  part_then : (listed : List Listed) (one : Listed) (x y z : ShelfContent) → TakesParts context syntax listed x y → TakesPart context syntax one y z → TakesParts context syntax (listed ++ one ∷ []) x z
  part_then listed one x y z p q =
      let is : IsPartRead (IsThat context) syntax x.files one q.part = subst (λ (f : FileList). IsPartRead (IsThat context) syntax f one q.part) p.files q.is in
      let sum : total (p.parts ++ q.part ∷ []) ≡ total p.parts + (q.part + 0) = total_both p.parts (q.part ∷ []) in
      record {
        files = q.files ∙ p.files;
        parts = p.parts ++ q.part ∷ [];
        are = parts_both (IsThat context) syntax x.files listed (one ∷ []) p.parts (q.part ∷ []) p.are (is, tt);
        taken = omega (arith, p.taken, q.taken, sum);
        starts = omega (arith, p.starts, q.starts, length-append listed (one ∷ []));
      }

  -- nothing of those behind
  part_alone : (listed rest : List Listed) (x y : ShelfContent) → TakesParts context syntax listed x y → TakesParts context syntax (listed ++ rest) x y
  part_alone listed rest x y p =
      let sum : total (p.parts ++ none_of rest) ≡ total p.parts + total (none_of rest) = total_both p.parts (none_of rest) in
      record {
        files = p.files;
        parts = p.parts ++ none_of rest;
        are = parts_both (IsThat context) syntax x.files listed rest p.parts (none_of rest) p.are (are_none (IsThat context) syntax x.files rest);
        taken = omega (arith, p.taken, sum);
        starts = omega (arith, p.starts, length-append listed rest);
      }

  read_then : (listed : List Listed) (one : Listed) (pages : List JudgedPage) (page : JudgedPage) (x y z : ShelfContent) → ReadsEach context syntax listed pages x y → ReadsListed context syntax one page y z → ReadsEach context syntax (listed ++ one ∷ []) (pages ++ page ∷ []) x z
  read_then listed one pages page x y z r q =
      let judged : Judges GivesTriples syntax context x.files one page = subst (λ (f : FileList). Judges GivesTriples syntax context f one page) r.takes.files q.judged in
      record { judged = judges_both GivesTriples syntax context x.files listed (one ∷ []) pages (page ∷ []) r.judged (judged, tt); takes = part_then listed one x y z r.takes q.takes; starts = omega (arith, r.starts, q.starts, length-append listed (one ∷ [])) }

  reads_none : (x : ShelfContent) → ReadsEach context syntax [] [] x x
  reads_none x = record { judged = tt; takes = record { files = refl; parts = []; are = tt; taken = omega arith; starts = omega arith }; starts = omega arith }

  -- before the first
  pub none_added : (now : List JudgedPage) (told : Option ShelfContent) → AddsPages context syntax [] now now told told
  none_added now told = record { pages = []; adds = sym (append-nil now); reads = record { same = refl; taken = λ x y p q. at x y (some_told x y (sym p ∙ q)) } }
    where
      some_told : (x y : ShelfContent) → ◌≡◌ {A = Option ShelfContent} (Some x) (Some y) → x ≡ y
      some_told x y e = cc

      at : (x y : ShelfContent) → x ≡ y → ReadsEach context syntax [] [] x y
      at x y e = subst (λ (z : ShelfContent). ReadsEach context syntax [] [] x z) e (reads_none x)

  -- one more
  pub next_added : (listed : List Listed) (i : ℕ) (one : Listed) (before now next : List JudgedPage) (told mid late : Option ShelfContent) → slice_get listed i ≡ Some one → AddsPages context syntax (take i listed) before now told mid → GathersPage context syntax one now next mid late
      → AddsPages context syntax (take (i + 1) listed) before next told late
  next_added listed i one before now next told mid late at a p =
      subst (λ (ls : List Listed). AddsPages context syntax ls before next told late) (front_more listed i one at)
      (record {
        pages = a.pages ++ p.page ∷ [];
        adds = p.adds ∙ ap (λ z. z ++ p.page ∷ []) a.adds ∙ append_assoc before a.pages (p.page ∷ []);
        reads = moves_then (ReadsEach context syntax (take i listed ++ one ∷ []) (a.pages ++ p.page ∷ [])) (λ x y z r q. read_then (take i listed) one a.pages p.page x y z r q) a.reads p.reads;
      })

  -- all
  pub all_added : (listed : List Listed) (i : ℕ) (before now : List JudgedPage) (told late : Option ShelfContent) → length listed ≤ i → AddsPages context syntax (take i listed) before now told late → AddsPages context syntax listed before now told late
  all_added listed i before now told late l a = subst (λ (ls : List Listed). AddsPages context syntax ls before now told late) (take_all i listed l) a

  pub all_taken : (listed : List Listed) (i : ℕ) (before now : List JudgedPage) (told late : Option ShelfContent) → length listed ≤ i → AddsPages context syntax (take i listed) before now told late → WhereKnown (TakesParts context syntax listed) told late
  all_taken listed i before now told late l a = let all = all_added listed i before now told late l a in record { same = all.reads.same; taken = λ x y p q. (all.reads.taken x y p q).takes }

  -- those so far, and some of one more
  pub some_taken : (listed : List Listed) (i : ℕ) (one : Listed) (before now : List JudgedPage) (told mid late : Option ShelfContent) → slice_get listed i ≡ Some one → AddsPages context syntax (take i listed) before now told mid → WhereKnown (TakesPart context syntax one) mid late
      → WhereKnown (TakesParts context syntax listed) told late
  some_taken listed i one before now told mid late at a p =
      moves_then (TakesParts context syntax listed)
      (λ x y z r q.
      subst (λ (ls : List Listed). TakesParts context syntax ls x z) (take-append-drop (i + 1) listed)
      (part_alone (take (i + 1) listed) (drop (i + 1) listed) x z
      (subst (λ (ls : List Listed). TakesParts context syntax ls x z) (front_more listed i one at) (part_then (take i listed) one x y z r.takes q)))) a.reads p

lacks_at : (files : FileList) (listed : List Listed) (i : ℕ) (one : Listed) → slice_get listed i ≡ Some one → file_of files (encode_utf8_all one.page) ≡ None → LacksPage files listed
lacks_at files [] i one e f = absurd (cc)
lacks_at files (first ∷ listed) zero one e f = let same : first ≡ one = (cc) in inl (ap (λ (k : Listed). file_of files (encode_utf8_all k.page)) same ∙ f)
lacks_at files (first ∷ listed) (suc i) one e f = inr (lacks_at files listed i one e f)

lacks_listed : (context : Context) (syntax : Syntax) (front listed : List Listed) (pages : List JudgedPage) (i : ℕ) (one : Listed) (told mid : Option ShelfContent) → slice_get listed i ≡ Some one → WhereKnown (ReadsEach context syntax front pages) told mid → Lacks mid (encode_utf8_all one.page)
    → TellsThat (λ t. LacksPage t.files listed) told
lacks_listed context syntax front listed pages i one told None at m l = absurd l
lacks_listed context syntax front listed pages i one None (Some y) at m l = let e = m.same in absurd (cc)
lacks_listed context syntax front listed pages i one (Some x) (Some y) at m l =
    let r = m.taken x y refl refl in
    lacks_at x.files listed i one at (sym (ap (λ f. file_of f (encode_utf8_all one.page)) r.takes.files) ∙ l)

-- a page that could not be read
pub listed_failed : (context : Context) (syntax : Syntax) (listed : List Listed) (i : ℕ) (one : Listed) (before now : List JudgedPage) (told mid : Option ShelfContent) (m n k : ℕ) → slice_get listed i ≡ Some one → AddsPages context syntax (take i listed) before now told mid → m ≤ n
    → Rose n k ⊎ Lacks mid (encode_utf8_all one.page) → Rose m k ⊎ TellsThat (λ t. LacksPage t.files listed) told
listed_failed context syntax listed i one before now told mid m n k at a low (inl rose) = inl (rose_before m n k low rose)
listed_failed context syntax listed i one before now told mid m n k at a low (inr lacks) = inr (lacks_listed context syntax (take i listed) listed a.pages i one told mid at a.reads lacks)

-- ---- the context file before them

module _ (g : Gathering) where
  pub context_taken : (x y : ShelfContent) → TakesContext g.context x y → TakesGathering g x y
  context_taken x y t =
      let none : total (none_of g.pages) ≡ 0 = total_none g.pages in
      record {
        files = t.files;
        parts = none_of g.pages;
        are = are_none (ContextHolds g.context x) g.syntax x.files g.pages;
        size = omega (arith, t.size, none);
        most = omega (arith, t.most, none);
        starts = omega (arith, t.starts);
      }

  gathering_taken : (context : Context) (x y z : ShelfContent) → ReadsContext g.context context x y → TakesParts context g.syntax g.pages y z → TakesGathering g x z
  gathering_taken context x y z r p =
      let here : AreParts (IsThat context) g.syntax x.files g.pages p.parts = subst (λ (f : FileList). AreParts (IsThat context) g.syntax f g.pages p.parts) r.takes.files p.are in
      record {
        files = p.files ∙ r.takes.files;
        parts = p.parts;
        are = parts_under (IsThat context) g.syntax x.files (ContextHolds g.context x) (λ k h. one_context g.context x context k r.is h) g.pages p.parts here;
        size = omega (arith, p.taken, r.takes.size);
        most = omega (arith, p.taken, r.takes.most);
        starts = omega (arith, p.starts, r.takes.starts);
      }

  pub gathering_takes : (context : Context) (told mid late : Option ShelfContent) → WhereKnown (ReadsContext g.context context) told mid → WhereKnown (TakesParts context g.syntax g.pages) mid late → WhereKnown (TakesGathering g) told late
  gathering_takes context told mid late r p = moves_then (TakesGathering g) (λ x y z c q. gathering_taken context x y z c q) r p

  pub gathers_pages : (context : Context) (before now : List JudgedPage) (told mid late : Option ShelfContent) → before ≡ [] → WhereKnown (ReadsContext g.context context) told mid → AddsPages context g.syntax g.pages before now mid late → WhereKnown (GathersPages g now) told late
  gathers_pages context before now told mid late none r a =
      let same : a.pages ≡ now = sym (a.adds ∙ ap (λ b. b ++ a.pages) none) in
      moves_then (GathersPages g now)
      (λ x y z c q. record {
        context = context;
        holds = c.is;
        judged =
            subst (λ (ps : List JudgedPage). JudgesEach GivesTriples g.syntax context x.files g.pages ps) same
            (subst (λ (f : FileList). JudgesEach GivesTriples g.syntax context f g.pages a.pages) c.takes.files q.judged);
        starts = omega (arith, c.starts, q.starts);
      }) r a.reads

  context_lacks : (told : Option ShelfContent) → TellsThat (LacksContext g.context) told → TellsThat (LacksOne g) told
  context_lacks None l = l
  context_lacks (Some x) l = inl l

  pub context_failed : (told : Option ShelfContent) (m n : ℕ) → Rose m n ⊎ TellsThat (LacksContext g.context) told → Rose m n ⊎ TellsThat (LacksOne g) told
  context_failed told m n (inl rose) = inl rose
  context_failed told m n (inr lacks) = inr (context_lacks told lacks)

  page_lacks : (context : Context) (told mid : Option ShelfContent) → WhereKnown (ReadsContext g.context context) told mid → TellsThat (λ t. LacksPage t.files g.pages) mid → TellsThat (LacksOne g) told
  page_lacks context told None r l = absurd l
  page_lacks context None (Some y) r l = let e = r.same in absurd (cc)
  page_lacks context (Some x) (Some y) r l =
      let c = r.taken x y refl refl in
      inr (has_context g.context x context c.is, subst (λ (f : FileList). LacksPage f g.pages) c.takes.files l)

  pub gathering_failed : (context : Context) (told mid : Option ShelfContent) (m n k : ℕ) → WhereKnown (ReadsContext g.context context) told mid → m ≤ n → Rose n k ⊎ TellsThat (λ t. LacksPage t.files g.pages) mid → Rose m k ⊎ TellsThat (LacksOne g) told
  gathering_failed context told mid m n k r low (inl rose) = inl (rose_before m n k low rose)
  gathering_failed context told mid m n k r low (inr lacks) = inr (page_lacks context told mid r lacks)
