-- In which pieces text comes makes no difference.
use Rattle.rx_walk.proofs.Common.{map_then, ◌≡◌, ◌∙◌, Bool, true, false, List, [], ◌∷◌, ◌++◌, map, refl, sym, ap, subst, append_assoc, append-nil, if◌then◌else◌, Chars, Bnode, Owner, model, Machine, read, after-append, gathers_some, read_text, State, Call, Read, after, singles, singly, Leads, PiecesLeadAlike}
use Rattle.rx_rdfa.specs.Calls.{step}

-- for the machine of the rules

none_more : (texts : List Chars) → map (λ t. t ++ []) texts ≡ texts
none_more [] = refl
none_more (t ∷ texts) = λ i. append-nil t i ∷ none_more texts i

both_more : (a b : Chars) (texts : List Chars) → map (λ t. t ++ b) (map (λ t. t ++ a) texts) ≡ map (λ t. t ++ (a ++ b)) texts
both_more a b texts = sym (map_then (λ t. t ++ (a ++ b)) (λ t. t ++ b) (λ t. t ++ a) (λ t. sym (append_assoc t a b)) texts)

abbrev with_texts : Machine Bnode Owner → List Chars → Machine Bnode Owner
with_texts m texts = record { standings = m.standings; path = m.path; next = m.next; texts = texts; slots = m.slots; out = m.out }

after_singles : (base chars : Chars) (m : Machine Bnode Owner) → after model base (singles chars) m ≡ read chars m
after_singles base [] m = sym (ap (with_texts m) (none_more m.texts))
after_singles base (c ∷ chars) m = after_singles base chars (read (c ∷ []) m) ∙ ap (with_texts m) (both_more (c ∷ []) chars m.texts)

pub pieces_alike : (base : Chars) (list : List Call) (m : Machine Bnode Owner) → after model base (singly list) m ≡ after model base list m
pieces_alike base [] m = refl
pieces_alike base (Read chars ∷ list) m =
    after-append model base (singles chars) (singly list) m ∙ ap (after model base (singly list)) (after_singles base chars m) ∙ pieces_alike base list (read chars m)
pieces_alike base (call ∷ list) m = pieces_alike base list (step model base call m)

-- for an evaluator's state

abbrev with_kept : State → Chars → State
with_kept old chars = record old { kept = chars }

kept_none : (b : Bool) (kept : Chars) → (if b then kept ++ [] else kept) ≡ kept
kept_none true kept = append-nil kept
kept_none false kept = refl

kept_both : (b : Bool) (kept a c : Chars) → (if b then (if b then kept ++ a else kept) ++ c else (if b then kept ++ a else kept)) ≡ (if b then kept ++ (a ++ c) else kept)
kept_both true kept a c = append_assoc kept a c
kept_both false kept a c = refl

pub reads_none : (old : State) → read_text [] old ≡ old
reads_none old = ap (with_kept old) (kept_none (gathers_some old.frames) old.kept)

pub reads_both : (a c : Chars) (old : State) → read_text c (read_text a old) ≡ read_text (a ++ c) old
reads_both a c old = ap (with_kept old) (kept_both (gathers_some old.frames) old.kept a c)

-- text read at once is read in single characters, whatever follows
pub leads_singles : (chars : Chars) (list : List Call) (old new : State) → Leads list (read_text chars old) new → Leads (singles chars ++ list) old new
leads_singles [] list old new h = subst (λ s. Leads list s new) (reads_none old) h
leads_singles (c ∷ chars) list old new h =
    (read_text (c ∷ []) old, refl, leads_singles chars list (read_text (c ∷ []) old) new (subst (λ s. Leads list s new) (sym (reads_both (c ∷ []) chars old)) h))

pub singles_lead : (chars : Chars) (list : List Call) (old new : State) → Leads (singles chars ++ list) old new → Leads list (read_text chars old) new
singles_lead [] list old new h = subst (λ s. Leads list s new) (sym (reads_none old)) h
singles_lead (c ∷ chars) list old new h =
    subst (λ s. Leads list s new) (ap (read_text chars) h.1 ∙ reads_both (c ∷ []) chars old) (singles_lead chars list h.0 new h.2)

pub pieces_lead : PiecesLeadAlike
pieces_lead [] old new = (λ h. h, λ h. h)
pieces_lead (Read chars ∷ list) old new = (
  λ h. (read_text chars old, refl, (pieces_lead list (read_text chars old) new).0 (singles_lead chars (singly list) old new h)),
  λ h. leads_singles chars (singly list) old new (subst (λ s. Leads (singly list) s new) h.1 ((pieces_lead list h.0 new).1 h.2)),
)
pieces_lead (call ∷ list) old new = (λ h. (h.0, h.1, (pieces_lead list h.0 new).0 h.2), λ h. (h.0, h.1, (pieces_lead list h.0 new).1 h.2))

-- one after another
pub leads_then : (xs ys : List Call) (a b c : State) → Leads xs a b → Leads ys b c → Leads (xs ++ ys) a c
leads_then [] ys a b c h k = subst (λ s. Leads ys s c) h k
leads_then (x ∷ xs) ys a b c h k = (h.0, h.1, leads_then xs ys h.0 b c h.2 k)
