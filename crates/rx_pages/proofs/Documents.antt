-- The tokens of a whole page lead to its end, and tell its tree.
use Rattle.rx_grammar.proofs.Common.{◌≡◌, ◌∙◌, ℕ, suc, ◌+◌, Bool, true, false, List, [], ◌∷◌, ◌++◌, Some, refl, ap, sym, subst, arith, append-nil, not, Ok, bytes_decides, Chars, Syntax, Tag, Token, tag, character, comment, doctype, Place, outside, place_inside, is_alone, hides, drops_line_feed, StartTag, Tree, end, element, after_text, has_element, Item, start_tag_of, text_of, enders, is_ended_by, Phase, before, after}
use Rattle.rx_grammar.specs.Pages.{IsStartTag, IsEndTag, Drops, shown, Holds, nothing, a_text, alone, closed, unclosed, Lead, root_name, Document, a_comment, is_between, passed, a_doctype}
use Rattle.rx_grammar.specs.Pages as pages
use Rattle.rx_pages.specs.Nesting.{Event, begins, finishes, Nesting, not_begun, over, step_by, told, Goes, stands, goes, with_element, told_trees}
use Rattle.rx_pages.proofs.Nested.{Ready, Reads, Careless, not_deeper, of_token, text_steps, alone_goes, close_goes, whole, runs, nothing_shown}

-- outside the root
abbrev pub outside_at : Phase → Nesting
outside_at phase = record { line = []; phase = phase; drops = false }

abbrev pub IsOutside : Phase → Type 0
IsOutside phase = (chars : Chars) → told phase chars ≡ []

pub between_steps : (syntax : Syntax) (depth : ℕ) (phase : Phase) (item : Item) (token : Token) → IsOutside phase → is_between token ≡ true → step_by syntax depth (outside_at phase) item token ≡ Ok (record { next = outside_at phase; events = [] })
between_steps syntax depth phase item (character c) o h = ap (λ es. Ok (record { next = outside_at phase; events = es })) (o (c ∷ []))
between_steps syntax depth phase item comment o h = refl
between_steps syntax depth phase item _ o h = absurd (cc)

-- text outside the root tells nothing
text_passes : (syntax : Syntax) (depth : ℕ) (phase : Phase) (item : Item) (token : Token) (chars : Chars) → IsOutside phase → text_of token ≡ Some chars → step_by syntax depth (outside_at phase) item token ≡ Ok (record { next = outside_at phase; events = [] })
text_passes syntax depth phase item token chars o h = text_steps syntax depth [] phase item token chars h ∙ ap (λ es. Ok (record { next = outside_at phase; events = es })) (o chars)

no_nodes : (chars : Chars) (nodes : Tree) → after_text chars nodes ≡ end → nodes ≡ end
no_nodes [] nodes e = e
no_nodes (c ∷ chars) end e = refl
no_nodes (c ∷ chars) _ e = absurd (cc)

module _ (syntax : Syntax) (depth : ℕ) (meant : Nesting → Type 0) where
  -- white space and comments
  pub lead_goes : {xs : List Item} {stood : Bool} → Lead xs stood → stood ≡ false → (phase : Phase) → IsOutside phase → (rest : List Item) (later : List Event) → Goes syntax depth meant (outside_at phase) rest later → Goes syntax depth meant (outside_at phase) (xs ++ rest) later
  lead_goes pages.no_more e phase o rest later g = g
  lead_goes (passed item c h more) e phase o rest later g = goes item (record { next = outside_at phase; events = [] }) c (between_steps syntax depth phase item item.token o h) (lead_goes more e phase o rest later g)
  lead_goes (a_doctype item c h more) e phase o rest later g = absurd (cc)

  -- what stands before the root
  pub lead_reads : {xs : List Item} {stood : Bool} → Lead xs stood → (rest : List Item) (later : List Event) → Goes syntax depth meant (outside_at (before stood)) rest later → Goes syntax depth meant (outside_at (before false)) (xs ++ rest) later
  lead_reads pages.no_more rest later g = g
  lead_reads (passed item c h more) rest later g = goes item (record { next = outside_at (before false); events = [] }) c (between_steps syntax depth (before false) item item.token (λ chars. refl) h) (lead_reads more rest later g)
  lead_reads (a_doctype item c h more) rest later g =
      goes item (record { next = outside_at (before true); events = [] }) c (of_token syntax depth (outside_at (before false)) item doctype _ h refl) (lead_goes more refl (before true) (λ chars. refl) rest later g)

  -- no nodes stand behind the root
  trails : {left : ℕ} {place : Place} {parent : Chars} {from to : List Item} {nodes : Tree} → Holds syntax left place parent from to nodes → place ≡ outside → nodes ≡ end → (later : List Event) → Goes syntax depth meant (over []) to later → Goes syntax depth meant (over []) from later
  trails nothing p e later g = g
  trails (a_text {nodes = nodes} item chars c h hs) p e later g = goes item (record { next = over []; events = [] }) (c ∙ ap (λ x. x.content) p) (text_passes syntax depth after item item.token chars (λ x. refl) h) (trails hs p (no_nodes chars nodes e) later g)
  trails (a_comment item c h hs) p e later g = goes item (record { next = over []; events = [] }) (c ∙ ap (λ x. x.content) p) (of_token syntax depth (over []) item comment _ h refl) (trails hs p e later g)
  trails _ p e later g = absurd (cc)

pub no_end_outside : (parent name : Chars) (items : List Item) → is_ended_by outside parent name items ≡ false
no_end_outside parent name [] = refl
no_end_outside parent name (item ∷ items) = refl

module _ (syntax : Syntax) (depth : ℕ) (meant : Nesting → Type 0) (careless : Careless meant) where
  pub root_ready : (stood : Bool) (name : Chars) → name ≡ root_name → Ready (before stood) name
  root_ready stood name e = record { not_ended = refl; named = ap not ((bytes_decides name root_name).1 e) }

  room : (left : ℕ) → suc left ≡ depth → 0 + suc left ≡ depth
  room left d = omega arith

  -- what is equal where two elements are
  record IsElement (s t : StartTag) (inside other behind : Tree) : Type 0 where
    is_name : s.name ≡ t.name
    ends : behind ≡ end
    is : element s inside end ≡ element t other end

  is_element : (s t : StartTag) (inside other behind : Tree) → element s inside behind ≡ element t other end → IsElement s t inside other behind
  is_element s t inside other behind e =
      let same_tag : s ≡ t = cc in
      let none : behind ≡ end = cc in
      record { is_name = ap (λ x. x.name) same_tag; ends = none; is = ap (λ b. element s inside b) (sym none) ∙ e }

  -- the root, with the tree that is its element
  pub root_reads : {left : ℕ} {place : Place} {parent : Chars} {from to : List Item} {nodes : Tree} (root : Item) (t : Tag) (inside : Tree) (stood : Bool) → Holds syntax left place parent (root ∷ from) to nodes → place ≡ outside → left ≡ depth
      → root.token ≡ tag t → t.name ≡ root_name → nodes ≡ element (start_tag_of root t) inside end → (later : List Event) → Goes syntax depth meant (over []) to later → told_trees later ≡ end ∷ []
      → Reads syntax depth meant (outside_at (before stood)) (root ∷ from) later (element (start_tag_of root t) inside end)
  root_reads root t inside stood nothing p d k n e later g told = absurd (cc)
  root_reads root t inside stood (a_text item chars c h hs) p d k n e later g told = absurd (let w : text_of (tag t) ≡ Some chars = sym (ap text_of k) ∙ h in cc)
  root_reads root t inside stood (a_comment item c h hs) p d k n e later g told = absurd (let w : tag t ≡ comment = sym k ∙ h in cc)
  root_reads root t inside stood (alone {left = left} {from = from} {nodes = nodes} item u o is hs) p d k n e later g told =
      let f = is_element (start_tag_of root u) (start_tag_of root t) end inside nodes e in
      subst (λ x. Reads syntax depth meant (outside_at (before stood)) (root ∷ from) later x) f.is (record {
        events = begins (start_tag_of root u) (hides outside u) ∷ finishes ∷ later;
        going = alone_goes syntax depth meant careless [] (before stood) root u from later (subst (λ x. IsStartTag syntax x root u) p o) refl (not_deeper depth 0 left (room left d)) (root_ready stood u.name (f.is_name ∙ n)) (sym (ap (λ x. is_alone syntax x u) p) ∙ is)
            (trails syntax depth meant hs p f.ends later g);
        tells = λ more e2. ap (λ ts. with_element (start_tag_of root u) (hides outside u) (end ∷ ts)) e2 ∙ ap (λ x. element (start_tag_of root u) x end ∷ more) (nothing_shown syntax depth meant careless (hides outside u));
      })
  root_reads root t inside stood (closed {left = left} {place = place} {from = from} {inner = inner} {after = rest} {inside = inner_tree} {nodes = nodes} item close u o isnt drop hin no_row c hs) p d k n e later g told =
      let f = is_element (start_tag_of root u) (start_tag_of root t) (shown (hides place u) inner_tree) inside nodes e in
      let g2 = close_goes syntax depth meant careless [] (start_tag_of root u) close rest later (subst (λ x. IsEndTag (place_inside syntax x u.name).content u.name close) p c) (trails syntax depth meant hs p f.ends later g) in
      let i = runs syntax depth meant careless hin (start_tag_of root u) [] (ap (λ x. place_inside syntax x u.name) p) refl (omega arith) (sym (ap (λ x. has_element (enders x u.name) inner_tree) p) ∙ no_row) (finishes ∷ later) g2 in
      subst (λ x. Reads syntax depth meant (outside_at (before stood)) (root ∷ from) later x) f.is
      (whole syntax depth meant careless [] (before stood) left root u from inner inner_tree end later later i (subst (λ x. IsStartTag syntax x root u) p o) refl (room left d) (root_ready stood u.name (f.is_name ∙ n)) (sym (ap (λ x. is_alone syntax x u) p) ∙ isnt)
      (subst (λ x. Drops (drops_line_feed x u) (place_inside syntax x u.name).content from inner) p drop) (ap (λ x. hides x u) p) (λ more e2. e2))
  root_reads root t inside stood (unclosed {parent = parent} {after = rest} item u o isnt drop hin no_row omits hs) p d k n e later g told = absurd (let q : false ≡ true = sym (no_end_outside parent u.name rest) ∙ (sym (ap (λ x. is_ended_by x parent u.name rest) p) ∙ omits) in cc)

-- what a page's tokens tell
pub record TellsTree (syntax : Syntax) (depth : ℕ) (meant : Nesting → Type 0) (items : List Item) (tree : Tree) : Type 0 where
  pub events : List Event
  pub going : Goes syntax depth meant not_begun items events
  pub tree_is : told_trees events ≡ tree ∷ []

pub document_tells : (syntax : Syntax) (depth : ℕ) (meant : Nesting → Type 0) → Careless meant → meant (over []) → (items : List Item) (tree : Tree) → Document syntax depth items tree → TellsTree syntax depth meant items tree
document_tells syntax depth meant careless at_end items tree d =
    let last : Goes syntax depth meant (over []) d.after [] = subst (λ xs. Goes syntax depth meant (over []) xs []) (append-nil d.after) (lead_goes syntax depth meant d.trail refl after (λ chars. refl) [] [] (stands (over []) at_end)) in
    let r = root_reads syntax depth meant careless d.root d.t d.inside d.doctype_stands d.holds refl refl d.opens.token d.named d.tree_is [] last refl in
    record {
      events = r.events;
      going = subst (λ xs. Goes syntax depth meant not_begun xs r.events) (sym d.are) (lead_reads syntax depth meant d.lead (d.root ∷ d.from) r.events r.going);
      tree_is = r.tells [] refl ∙ ap (λ x. x ∷ []) (sym d.tree_is);
    }
