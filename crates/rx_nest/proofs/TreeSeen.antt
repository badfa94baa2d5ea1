-- The events of a page end each element that they begin, so what they show is the tree.
use Rattle.rx_nest.proofs.Common.{◌≡◌, ℕ, Bool, true, List, [], ◌∷◌, ◌++◌, refl, sym, ap, subst, length, append_assoc, append-nil, Result, Ok, Err, ◌&&◌, Syntax, hides, Tree, start_tag_of, Line, inside_of, Phase, after, Page, Fault, Unended, Limits, Progress, page_read, page_ended, page_may_end, fault_in, is_none_left, read_page, Event, begins, says, finishes, over, sees, nothing_seen, signs_of, split, inl, inr, ◌⊎◌}
use Rattle.rx_nest.proofs.PageWalks.{Sound, page_held}
use Rattle.rx_nest.proofs.SeenTrees.{Ends, tree_is_seen}
use Rattle.rx_pages.specs.PageReader as reader

pub over_line : (line : Line) → (over line).line ≡ line
over_line [] = refl
over_line (t ∷ above) = refl

-- what ends the open elements ends all that were told to begin
abbrev Closes : Bool → Line → List Event → Type 0
Closes b line events = (rest : List Event) → Ends (length line) rest → Ends 0 (events ++ rest)

page_closes : (syntax : Syntax) (limits : Limits) (bytes : List ℕ) (q : Progress) → page_read syntax limits bytes ≡ Ok q → q.now.nest.phase ≡ after → Ends 0 q.told
page_closes syntax limits bytes q e over =
    let h =
    page_held syntax limits Closes (λ u line events chars h. one (u ∷ line) (u ∷ line) events (says chars) h (λ rest k. k))
    (λ item t. record {
      finish = λ u line events h. one (u ∷ line) line events finishes h (λ rest k. k);
      begin = λ b line events some none l h. one line (start_tag_of item t ∷ line) events (begins (start_tag_of item t) (hides (inside_of syntax line) t)) h (λ rest k. k);
    }) (λ rest k. k) bytes q e in
    subst (Ends 0) (append-nil q.told) (h.holds [] (ap length (subst (λ p. Sound p q.now.nest.line) over h.sound)))
  where
    one : (line next : Line) (events : List Event) (event : Event) → ((rest : List Event) → Ends (length line) rest → Ends 0 (events ++ rest)) → ((rest : List Event) → Ends (length next) rest → Ends (length line) (event ∷ rest))
        → (rest : List Event) → Ends (length next) rest → Ends 0 ((events ++ event ∷ []) ++ rest)
    one line next events event h k rest w = subst (Ends 0) (sym (append_assoc events (event ∷ []) rest)) (h (event ∷ rest) (k rest w))

-- a page is over at the end of its bytes, or has a fault: that of a byte, or that it is unended
abbrev pub EndOf : Result Progress Fault → Result Progress Fault → Type 0
EndOf x (Ok final) = (x ≡ Ok final) × (final.now.nest.phase ≡ after)
EndOf x (Err fault) = (x ≡ Err fault) ⊎ ((q : Progress) × (x ≡ Ok q) × (fault_in q.now.scan Unended ≡ fault))

pub end_cases : (x : Result Progress Fault) → EndOf x (page_ended x)
end_cases (Err fault) = inl refl
end_cases (Ok p) = split (EndOf (Ok p)) (page_may_end p.now) _ _ (λ t. (refl, over (is_none_left p.now.scan.held) (is_none_left p.now.scan.run) p.now.nest.phase t)) (λ t. inr (p, refl, refl))
  where
    over : (a b : Bool) (phase : Phase) → (a && b && reader.is_over phase) ≡ true → phase ≡ after
    over true true after e = refl
    over _ _ _ e = absurd (cc)

pub end_so : (syntax : Syntax) (limits : Limits) (bytes : List ℕ) (end : Result Progress Fault) → page_ended (page_read syntax limits bytes) ≡ end → EndOf (page_read syntax limits bytes) end
end_so syntax limits bytes end e = subst (EndOf (page_read syntax limits bytes)) e (end_cases (page_read syntax limits bytes))

-- A page that was read to its end shows its tree.
pub record Whole (syntax : Syntax) (limits : Limits) (bytes : List ℕ) (final : Progress) : Type 0 where
  pub tree : Tree
  pub page : Page syntax limits bytes tree
  pub shows : sees nothing_seen final.told ≡ record { flags = []; signs = signs_of tree }

pub whole : (syntax : Syntax) (limits : Limits) (bytes : List ℕ) (final : Progress) → page_ended (page_read syntax limits bytes) ≡ Ok final → Whole syntax limits bytes final
whole syntax limits bytes final h =
    let r = read_page syntax limits bytes final h in
    let o = end_so syntax limits bytes (Ok final) h in
    record { tree = r.tree; page = r.page; shows = tree_is_seen final.told r.tree (page_closes syntax limits bytes final o.0 o.1) r.trees }
