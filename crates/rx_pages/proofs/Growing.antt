-- How the front of a page grows: what is open is extended, ended and closed.
use Rattle.rx_reader.proofs.Common.{◌≡◌, ◌≢◌, ◌∙◌, ℕ, suc, Bool, true, false, List, [], ◌∷◌, ◌++◌, refl, ap, sym, subst, append_assoc, inl, inr, ◌⊎◌, ◌||◌, ◌&&◌, Chars, both, not_both_ways, Syntax, is_among, Place, outside, hides, StartTag, Tree, end, element, after_text, has_element, Item, is_line_feed, start_tag_of, enders, is_ended_by, Line, inside_of, parent_of, enders_of, Open, a_root, a_child, Content}
use Rattle.rx_grammar.specs.Pages.{IsStartTag, IsEndTag, Drops, shown, Holds, nothing, a_text, alone, closed, unclosed, Lead, Document, a_line_feed, another, no_more, a_comment}
use Rattle.rx_grammar.specs.Pages as pages
use Rattle.rx_pages.proofs.Below.{has_after_text, no_end_outside, none_among}

or_groups : (a b c : Bool) → (a || (b || c)) ≡ ((a || b) || c)
or_groups true b c = refl
or_groups false b c = refl

module _ (syntax : Syntax) where
  not_empty : {left : ℕ} {place : Place} {parent : Chars} {from to : List Item} {nodes : Tree} → Holds syntax left place parent from to nodes → from ≡ [] → to ≡ []
  not_empty nothing e = e
  not_empty _ e = absurd (cc)

  drop_suffix : {d : Bool} {content : Content} {from inner : List Item} (ys : List Item) → Drops d content from inner → inner ≢ [] → Drops d content (from ++ ys) (inner ++ ys)
  drop_suffix ys (a_line_feed item h c l) n = a_line_feed item h c l
  drop_suffix ys (another item h) n = another item h
  drop_suffix ys no_more n = absurd (n refl)

  still_ended : (place : Place) (parent name : Chars) (after ys : List Item) → is_ended_by place parent name after ≡ true → is_ended_by place parent name (after ++ ys) ≡ true
  still_ended place parent name [] ys h = absurd (cc)
  still_ended place parent name (item ∷ items) ys h = h

  something : (place : Place) (parent name : Chars) (after : List Item) → is_ended_by place parent name after ≡ true → after ≢ []
  something place parent name [] h e = absurd (cc)
  something place parent name (item ∷ items) h e = cc

  -- the same nodes before more tokens
  pub suffix : {left : ℕ} {place : Place} {parent : Chars} {from to : List Item} {nodes : Tree} (ys : List Item) → Holds syntax left place parent from to nodes → Holds syntax left place parent (from ++ ys) (to ++ ys) nodes
  suffix ys nothing = nothing
  suffix ys (a_text item chars c h hs) = a_text item chars c h (suffix ys hs)
  suffix ys (a_comment item c h hs) = a_comment item c h (suffix ys hs)
  suffix ys (alone item t o is hs) = alone item t o is (suffix ys hs)
  suffix ys (closed {after = after} item close t o isnt drop hin no_row c hs) = closed item close t o isnt (drop_suffix ys drop (λ e. let k = not_empty hin e in cc)) (suffix ys hin) no_row c (suffix ys hs)
  suffix ys (unclosed {place = place} {parent = parent} {after = after} item t o isnt drop hin no_row omits hs) =
      unclosed item t o isnt (drop_suffix ys drop (λ e. something place parent t.name after omits (not_empty hin e))) (suffix ys hin) no_row (still_ended place parent t.name after ys omits) (suffix ys hs)

  -- nodes behind nodes
  pub record Joined (left : ℕ) (place : Place) (parent : Chars) (from to : List Item) (some others : Tree) : Type 0 where
    pub nodes : Tree
    pub holds : Holds syntax left place parent from to nodes
    pub has : (names : List Chars) → has_element names nodes ≡ (has_element names some || has_element names others)

  pub follow : {left : ℕ} {place : Place} {parent : Chars} {from mid to : List Item} {some others : Tree} → Holds syntax left place parent from mid some → Holds syntax left place parent mid to others → Joined left place parent from to some others
  follow {others = others} nothing h = record { nodes = others; holds = h; has = λ names. refl }
  follow {others = others} (a_text {nodes = nodes} item chars c k hs) h =
      let j = follow hs h in
      record { nodes = after_text chars j.nodes; holds = a_text item chars c k j.holds; has = λ names. has_after_text names chars j.nodes ∙ (j.has names ∙ ap (λ b. b || has_element names others) (sym (has_after_text names chars nodes))) }
  follow (a_comment item c k hs) h = let j = follow hs h in record { nodes = j.nodes; holds = a_comment item c k j.holds; has = j.has }
  follow (alone item t o is hs) h =
      let j = follow hs h in
      record { nodes = element (start_tag_of item t) end j.nodes; holds = alone item t o is j.holds; has = λ names. ap (λ b. is_among names t.name || b) (j.has names) ∙ or_groups (is_among names t.name) _ _ }
  follow (closed {place = place} {inside = inside} item close t o isnt drop hin no_row c hs) h =
      let j = follow hs h in
      record { nodes = element (start_tag_of item t) (shown (hides place t) inside) j.nodes; holds = closed item close t o isnt drop hin no_row c j.holds; has = λ names. ap (λ b. is_among names t.name || b) (j.has names) ∙ or_groups (is_among names t.name) _ _ }
  follow (unclosed {place = place} {inside = inside} item t o isnt drop hin no_row omits hs) h =
      let j = follow hs h in
      record { nodes = element (start_tag_of item t) (shown (hides place t) inside) j.nodes; holds = unclosed item t o isnt drop hin no_row omits j.holds; has = λ names. ap (λ b. is_among names t.name || b) (j.has names) ∙ or_groups (is_among names t.name) _ _ }

  -- more nodes in the innermost element
  pub extend : {left : ℕ} {all to more : List Item} {line : Line} {nodes : Tree} → Open syntax left all to line → Holds syntax left (inside_of syntax line) (parent_of line) to more nodes → has_element (enders_of syntax line) nodes ≡ false → Open syntax left all more line
  extend (a_root lead item t l o named isnt drop hs) h n = let j = follow hs h in a_root lead item t l o named isnt drop j.holds
  extend (a_child {line = line} item t op o isnt among drop hs no_row) h n =
      let j = follow hs h in a_child item t op o isnt among drop j.holds (j.has (enders (inside_of syntax line) t.name) ∙ rw (no_row, n) refl)

  -- the same elements are open before more tokens
  pub open_suffix : {left : ℕ} {all to : List Item} {line : Line} (ys : List Item) → Open syntax left all to line → to ≢ [] → Open syntax left (all ++ ys) (to ++ ys) line
  open_suffix {left = left} {to = to} ys (a_root {from = from} lead item t l o named isnt drop hs) n =
      subst (λ xs. Open syntax left xs (to ++ ys) (start_tag_of item t ∷ [])) (sym (append_assoc lead (item ∷ from) ys)) (a_root lead item t l o named isnt (drop_suffix ys drop (λ e. n (not_empty hs e))) (suffix ys hs))
  open_suffix ys (a_child item t op o isnt among drop hs no_row) n = a_child item t (open_suffix ys op (λ e. cc)) o isnt among (drop_suffix ys drop (λ e. n (not_empty hs e))) (suffix ys hs) no_row

  -- an element is ended by the next token
  pub pops : {left : ℕ} {all to : List Item} {s : StartTag} {line : Line} → Open syntax left all to (s ∷ line) → is_ended_by (inside_of syntax line) (parent_of line) s.name to ≡ true → Open syntax (suc left) all to line
  pops {to = to} (a_root lead item t l o named isnt drop hs) h = absurd (not_both_ways _ h (no_end_outside [] t.name to))
  pops (a_child item t op o isnt among drop hs no_row) h = extend op (unclosed item t o isnt drop hs no_row h nothing) (rw among refl)

  -- one more token: a line feed that is dropped, or what follows
  drop_grows : {d : Bool} {content : Content} {from inner : List Item} → Drops d content from inner → (item : Item) → item.content ≡ content
      → (Drops d content (from ++ item ∷ []) (inner ++ item ∷ [])) ⊎ ((is_line_feed item.token ≡ true) × Drops d content (from ++ item ∷ []) inner)
  drop_grows (a_line_feed i h c l) item e = inl (a_line_feed i h c l)
  drop_grows (another i h) item e = inl (another i h)
  drop_grows {d = d} {content = content} no_more item e = by (d && is_line_feed item.token) refl
    where
      by : (b : Bool) → (d && is_line_feed item.token) ≡ b → (Drops d content (item ∷ []) (item ∷ [])) ⊎ ((is_line_feed item.token ≡ true) × Drops d content (item ∷ []) [])
      by true h = let k = both d _ h in inr (k.1, a_line_feed item k.0 e k.1)
      by false h = inl (another item h)

  abbrev pub Grown : ℕ → List Item → List Item → Line → Item → Type 0
  Grown left all to line item = (Open syntax left (all ++ item ∷ []) (to ++ item ∷ []) line) ⊎ ((is_line_feed item.token ≡ true) × Open syntax left (all ++ item ∷ []) to line)

  pub grow : {left : ℕ} {all to : List Item} {line : Line} → Open syntax left all to line → (item : Item) → item.content ≡ (inside_of syntax line).content → Grown left all to line item
  grow {left = left} {to = to} (a_root {from = from} lead first t l o named isnt drop hs) item e = elim (drop_grows drop item e) [
    | inl k ↦ inl (subst (λ xs. Open syntax left xs (to ++ item ∷ []) (start_tag_of first t ∷ [])) (sym (append_assoc lead (first ∷ from) (item ∷ []))) (a_root lead first t l o named isnt k (suffix (item ∷ []) hs)))
    | inr k ↦ inr (k.0, subst (λ xs. Open syntax left xs to (start_tag_of first t ∷ [])) (sym (append_assoc lead (first ∷ from) (item ∷ []))) (a_root lead first t l o named isnt k.1 hs))
  ]
  grow (a_child first t op o isnt among drop hs no_row) item e = elim (drop_grows drop item e) [
    | inl k ↦ inl (a_child first t (open_suffix (item ∷ []) op (λ e. cc)) o isnt among k (suffix (item ∷ []) hs) no_row)
    | inr k ↦ inr (k.0, a_child first t (open_suffix (item ∷ []) op (λ e. cc)) o isnt among k.1 hs no_row)
  ]

  pub no_open : {left : ℕ} {all to : List Item} {line : Line} → Open syntax left all to line → line ≡ [] → ⊥
  no_open (a_root lead item t l o named isnt drop hs) e = cc
  no_open (a_child item t op o isnt among drop hs no_row) e = cc

  -- an end tag closes the innermost element
  pub closes_child : {left : ℕ} {all to : List Item} {s : StartTag} {line : Line} (item : Item) → Open syntax left all (item ∷ to) (s ∷ line) → IsEndTag (inside_of syntax (s ∷ line)).content s.name item → line ≢ [] → Open syntax (suc left) all to line
  closes_child item (a_root lead first t l o named isnt drop hs) c n = absurd (n refl)
  closes_child item (a_child first t op o isnt among drop hs no_row) c n = extend op (closed first item t o isnt drop hs no_row c nothing) (rw among refl)

  pub closes_root : {left : ℕ} {all : List Item} {s : StartTag} {line : Line} (depth : ℕ) (item : Item) → Open syntax left all (item ∷ []) (s ∷ line) → IsEndTag (inside_of syntax (s ∷ line)).content s.name item → line ≡ [] → suc left ≡ depth → (tree : Tree) × Document syntax depth all tree
  closes_root depth item (a_child first t op o isnt among drop hs no_row) c n d = absurd (no_open op n)
  closes_root {left = left} depth item (a_root {from = from} {inside = inside} {stood = stood} lead first t l o named isnt drop hs) c n d = (
    element (start_tag_of first t) (shown (hides outside t) inside) end,
    record {
      before = lead;
      root = first;
      from = from;
      after = [];
      doctype_stands = stood;
      t = t;
      inside = shown (hides outside t) inside;
      are = refl;
      lead = l;
      opens = o;
      named = named;
      tree_is = refl;
      holds = subst (λ x. Holds syntax x outside [] (first ∷ from) [] (element (start_tag_of first t) (shown (hides outside t) inside) end)) d (closed first item t o isnt drop hs (none_among inside) c nothing);
      trail = pages.no_more;
    },
  )
