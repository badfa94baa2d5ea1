-- The nodes of tokens that are written one after another, of which no start tag is refused.
use Rattle.rx_pages.proofs.Common.{◌≡◌, ◌∙◌, ℕ, suc, ◌+◌, false, List, [], ◌∷◌, ◌++◌, map, length, refl, sym, ap, subst, Option, None, append_assoc, append-nil, option_or, Chars, option_map, Html, Place, in_html, place_inside, is_alone, is_self_closed, is_plaintext, hides, drops_line_feed, Tag, tag, Tree, StartTag, end, element, text, after_text, has_element, Item, start_tag_of, enders, Content, Fault}
use Rattle.rx_eval.proofs.Common.{facts, Context, Refusal, refusal, read_tag}
use Rattle.rx_grammar.specs.Pages.{Drops, Holds, nothing, a_text, closed, shown, another, no_more}
use Rattle.rx_grammar.specs.declared.contents.Content.TheVariants as content
use Rattle.rx_rdfa.specs.Tree.{ElementTag as RulesTag}
use Rattle.rx_nest.specs.Signs.{Sign, said, finished, signs_of}
use Rattle.rx_walk.specs.Refused.{refusal_fault, refused_in}
use Rattle.rx_command.proofs.WrittenTokens.{Written, item_of, items_at, letters, start_token, end_tag, end_run, end_token}

-- ---- start tags that aren't refused

-- whatever the elements around the nodes, what is refused is behind the nodes
abbrev pub Taken : Tree → Type 0
Taken tree = (context : Context) (line : List RulesTag) (more : List Sign) → refused_in context line (signs_of tree ++ more) ≡ refused_in context line more

pub taken_all : (tree : Tree) → Taken tree → (context : Context) → ◌≡◌ {A = Option Fault} (refused_in context [] (signs_of tree)) None
taken_all tree h context = ap (λ s. refused_in context [] s) (sym (append-nil (signs_of tree))) ∙ h context [] []

said_taken : (chars : Chars) (context : Context) (line : List RulesTag) (more : List Sign) → refused_in context line (map said chars ++ more) ≡ refused_in context line more
said_taken [] context line more = refl
said_taken (c ∷ chars) context line more = said_taken chars context line more

text_taken : (chars : Chars) (tree : Tree) → Taken tree → Taken (text chars tree)
text_taken chars tree h context line more = ap (λ s. refused_in context line s) (append_assoc (map said chars) (signs_of tree) more) ∙ (said_taken chars context line (signs_of tree ++ more) ∙ h context line more)

-- text is passed over, also where it joins other text
after_text_taken : (chars : Chars) (tree : Tree) → Taken tree → Taken (after_text chars tree)
after_text_taken [] tree h = h
after_text_taken (c ∷ chars) end h = text_taken (c ∷ chars) end h
after_text_taken (c ∷ chars) (element t inside rest) h = text_taken (c ∷ chars) (element t inside rest) h
after_text_taken (c ∷ chars) (text others rest) h =
    text_taken (c ∷ (chars ++ others)) rest (λ context line more. sym (said_taken others context line (signs_of rest ++ more)) ∙ (ap (λ s. refused_in context line s) (sym (append_assoc (map said others) (signs_of rest) more)) ∙ h context line more))

pub element_taken : (t : StartTag) (inside rest : Tree) → ((context : Context) (line : List RulesTag) → refusal (facts context line (read_tag t)) ≡ None) → Taken inside → Taken rest → Taken (element t inside rest)
element_taken t inside rest n h k context line more =
    ap (λ (o : Option Refusal). option_or (option_map (refusal_fault t) o) (refused_in context (read_tag t ∷ line) ((signs_of inside ++ (finished ∷ signs_of rest)) ++ more))) (n context line)
    ∙ (ap (λ s. refused_in context (read_tag t ∷ line) s) (append_assoc (signs_of inside) (finished ∷ signs_of rest) more)
    ∙ (h context (read_tag t ∷ line) (finished ∷ (signs_of rest ++ more)) ∙ k context line more))

-- ---- an element

no_names : (tree : Tree) → has_element [] tree ≡ false
no_names end = refl
no_names (element t inside rest) = no_names rest
no_names (text chars rest) = no_names rest

undropped : (inner : Content) (items : List Item) → Drops false inner items items
undropped inner [] = no_more
undropped inner (item ∷ items) = another item refl

-- A start tag of an element of HTML that ends with its own end tag alone, holds HTML and isn't refused.
pub record Encloses (place : Place) (t : Tag) : Type 0 where
  pub start : t.closing ≡ false
  pub allowed : is_self_closed Html place t ≡ false
  pub known : is_plaintext Html place t ≡ false
  pub several : is_alone Html place t ≡ false
  pub undropped : drops_line_feed place t ≡ false
  pub inside : place_inside Html place t.name ≡ in_html
  pub seen : hides place t ≡ false
  pub closed : enders place t.name ≡ []
  pub taken : (context : Context) (line : List RulesTag) → refusal (facts context line (record { name = t.name; attributes = t.attributes })) ≡ None

pub enclosed : (left : ℕ) (place : Place) (parent : Chars) (item close : Item) (t : Tag) (inner after to : List Item) (inside nodes : Tree) → Encloses place t
    → item.content ≡ place.content → item.token ≡ tag t → close.content ≡ content.Html → close.token ≡ tag (end_tag t.name)
    → Holds Html left in_html t.name inner (close ∷ after) inside → Holds Html (suc left) place parent after to nodes
    → Holds Html (suc left) place parent (item ∷ inner) to (element (start_tag_of item t) inside nodes)
enclosed left place parent item close t inner after to inside nodes e c k d m h rest =
    subst (λ b. Holds Html (suc left) place parent (item ∷ inner) to (element (start_tag_of item t) (shown b inside) nodes)) e.seen
    (closed item close t (record { content = c; token = k; start = e.start; allowed = e.allowed; known = e.known }) e.several
    (subst (λ b. Drops b (place_inside Html place t.name).content inner inner) (sym e.undropped) (undropped (place_inside Html place t.name).content inner))
    (subst (λ (p : Place). Holds Html left p t.name inner (close ∷ after) inside) (sym e.inside) h)
    (ap (λ names. has_element names inside) e.closed ∙ no_names inside)
    (record { t = end_tag t.name; content = d ∙ ap (λ (p : Place). p.content) (sym e.inside); token = m; end = refl; same = refl })
    rest)

-- ---- nodes whose place doesn't matter

-- From a place on the tokens are some nodes of an element of HTML, and behind them stand the rest.
pub record Held (left : ℕ) (parent : Chars) (at : ℕ) (ws rest : List Written) : Type 0 where
  pub to : ℕ
  pub tree : Tree
  pub holds : Holds Html left in_html parent (items_at at ws) (items_at to rest) tree
  pub taken : Taken tree

abbrev pub HeldAnywhere : ℕ → Chars → List Written → List Written → Type 0
HeldAnywhere left parent ws rest = (at : ℕ) → Held left parent at ws rest

pub held_none : (left : ℕ) (parent : Chars) (ws : List Written) → HeldAnywhere left parent ws ws
held_none left parent ws at = record { to = at; tree = end; holds = nothing; taken = λ context line more. refl }

pub held_letters : (left : ℕ) (parent : Chars) (chars : Chars) (ws rest : List Written) → HeldAnywhere left parent ws rest → HeldAnywhere left parent (letters chars ws) rest
held_letters left parent [] ws rest h at = h at
held_letters left parent (c ∷ chars) ws rest h at =
    let r = held_letters left parent chars ws rest h (at + 1 + 0) in
    record { to = r.to; tree = after_text (c ∷ []) r.tree; holds = a_text _ (c ∷ []) refl refl r.holds; taken = after_text_taken (c ∷ []) r.tree r.taken }

pub held_element : (left : ℕ) (parent : Chars) (t : Tag) (run : Chars) (inner after rest : List Written) → Encloses in_html t → HeldAnywhere left t.name inner (end_token t.name ∷ after) → HeldAnywhere (suc left) parent after rest
    → HeldAnywhere (suc left) parent (start_token t run ∷ inner) rest
held_element left parent t run inner after rest e h k at =
    let i = h (at + 1 + length run) in
    let r = k (i.to + 1 + length (end_run t.name)) in
    record {
      to = r.to;
      tree = element (start_tag_of (item_of at (start_token t run)) t) i.tree r.tree;
      holds = enclosed left in_html parent _ _ t _ _ _ i.tree r.tree e refl refl refl refl i.holds r.holds;
      taken = element_taken (start_tag_of (item_of at (start_token t run)) t) i.tree r.tree e.taken i.taken r.taken;
    }
