-- The end of one owner: its lists are written and it is forgotten.
use Rattle.rx_eval.proofs.Common.{◌≡◌, ◌∙◌, ℕ, suc, ◌+◌, List, [], ◌∷◌, ◌++◌, map, length, Option, Some, None, refl, sym, ap, ap₂, subst, append-nil, IfSome, map-append, Chars, Node, Triple, rename_node, rename, false_unless, Path, Bnode, Made, Cell, Owner, same_owner, model, ListEntry, map_entry, of_owner, cells, Slot, settle, rename_slot, exact_owners, Numbered, Owning, owning, open_seen, cells_seen, ended_by, forgotten_seen, Ending, cells_count, end_owner, Numbering, Number, numbered_name, KeepsNumbers, Numbers, OwnedSlots, OpenOwners, table_in, owners_of, Waiter, FillUp, Within, begun_by}
use Rattle.rx_eval.proofs.NameLemmas.{grown_same, slots_later, triples_later}
use Rattle.rx_eval.proofs.FillLemmas.{fill_up_both, owners_more}
use Rattle.rx_eval.proofs.CellLemmas.{AllFull, cell_number, with_cells, grown_cells, numbers_cells, rows, ended_now, cells_meet, cells_size, nothing_written}

-- what the triples, the owners and the numbers come to, while owners end one after another
pub record Midway (to : Numbering) (open_owners : OpenOwners) (waiters : List Waiter) (labels : Numbered) (drawn : ℕ) (e : Ending) (slots : OwnedSlots) (names : List (ListEntry Owner (Slot Bnode))) (out : List (Triple Bnode)) : Type 0 where
  pub numbers : Numbers to labels drawn e.cells
  pub by_names : map (map_entry (rename_slot Number)) slots ≡ map (map_entry (rename_slot (numbered_name to))) names
  pub tables : FillUp open_owners waiters e.owners slots
  pub written : map (rename Number) e.out ≡ map (rename (numbered_name to)) out

pub tables_now : (open_owners : OpenOwners) (waiters : List Waiter) (owners : List (Option Owning)) (slots : OwnedSlots) → FillUp open_owners waiters owners slots → owners ≡ owners_of slots open_owners
tables_now open_owners [] owners slots h = h
tables_now open_owners (w ∷ waiters) owners slots h = h.0

pub owners_length : (slots : OwnedSlots) (open_owners : OpenOwners) → length (owners_of slots open_owners) ≡ length open_owners
owners_length slots [] = refl
owners_length slots (x ∷ xs) = ap suc (owners_length slots xs)

pub last_seen : (xs : List (Option Owning)) (x : Option Owning) → open_seen (xs ++ x ∷ []) (length xs) ≡ x
last_seen [] x = refl
last_seen (y ∷ xs) x = last_seen xs x

last_forgotten : (slots : OwnedSlots) (open_owners : OpenOwners) (x : Option Owning) → forgotten_seen (owners_of slots open_owners ++ x ∷ []) (length (owners_of slots open_owners)) ≡ owners_of slots open_owners
last_forgotten slots [] x = refl
last_forgotten slots (y ∷ ys) x = ap (ended_by (Some (owning y.1 (table_in slots y.0)))) (last_forgotten slots ys x)

-- the owner has ended
pub record Ended (to : Numbering) (o : Owner) (open_owners : OpenOwners) (waiters : List Waiter) (labels : Numbered) (drawn : ℕ) (e : Ending) (slots : OwnedSlots) (names : List (ListEntry Owner (Slot Bnode))) (out : List (Triple Bnode)) : Type 0 where
  pub now : Numbering
  pub grown : KeepsNumbers to now
  pub made : (r : Path) → now (Made r) ≡ to (Made r)
  pub others : (w : Owner) → ¬ (w ≡ o) → (p : Chars) (i : ℕ) → now (Cell w p i) ≡ to (Cell w p i)
  pub midway : Midway now open_owners waiters labels drawn e slots names out

module _ (to : Numbering) (o : Owner) (s : Node ℕ) (subject : Node Bnode) (open_owners : OpenOwners) (waiters : List Waiter) (labels : Numbered) (drawn : ℕ) (e : Ending) (slots : OwnedSlots) (names : List (ListEntry Owner (Slot Bnode))) (out : List (Triple Bnode)) where
  -- one that the element didn't begin has nothing
  not_begun : of_owner same_owner o slots ≡ [] → Midway to open_owners waiters labels drawn e slots names out
      → Ended to o open_owners waiters labels drawn e slots names (out ++ cells model (settle names) o subject)
  not_begun none m = record {
    now = to;
    grown = grown_same to;
    made = λ r. refl;
    others = λ w n p i. refl;
    midway = record {
      numbers = m.numbers;
      by_names = m.by_names;
      tables = m.tables;
      written = m.written ∙ ap (map (rename (numbered_name to))) (sym (append-nil out) ∙ ap (λ (l : List (Triple Bnode)). out ++ l) (sym (nothing_written to o slots names subject none m.by_names)));
    };
  }

  was_begun : (n : ℕ) → n ≡ length open_owners → ((p : Chars) (i : ℕ) → to (Cell o p i) ≡ None) → AllFull (of_owner same_owner o slots) → rename_node Number s ≡ rename_node (numbered_name to) subject
      → Within (length open_owners) waiters → Midway to (open_owners ++ (o, s) ∷ []) waiters labels drawn e slots names out
      → Ended to o open_owners waiters labels drawn (end_owner (Some n) e) slots names (out ++ cells model (settle names) o subject)
  was_begun n q free full same b m =
      let x : Option Owning = Some (owning s (table_in slots o)) in
      let before : List (Option Owning) = owners_of slots open_owners in
      let table : e.owners ≡ before ++ x ∷ [] = tables_now (open_owners ++ (o, s) ∷ []) waiters e.owners slots m.tables ∙ owners_more slots open_owners o s in
      let count : n ≡ length before = q ∙ sym (owners_length slots open_owners) in
      let seen : open_seen e.owners n ≡ x = ap₂ open_seen table count ∙ last_seen before x in
      let gone : forgotten_seen e.owners n ≡ before = ap₂ forgotten_seen table count ∙ last_forgotten slots open_owners x in
      let r : List (Chars × ℕ) = rows to o free e.cells s slots subject names in
      let now : Numbering = ended_now to o free e.cells s slots subject names in
      let g = grown_cells to o free e.cells r in
      record {
        now = now;
        grown = g;
        made = λ w. refl;
        others = λ w k p i. others w k p i;
        midway = record {
          numbers = subst (Numbers now labels drawn) (ap (λ (k : ℕ). e.cells + k) (cells_size to o free e.cells s slots subject names full ∙ ap cells_count (sym seen))) (numbers_cells to o free e.cells r labels drawn m.numbers);
          by_names = slots_later to now g slots names m.by_names;
          tables = subst (λ (l : List (Option Owning)). FillUp open_owners waiters l slots) (sym gone)
              ((fill_up_both open_owners o s (of_owner same_owner o slots) full waiters before slots refl (subst (λ (k : ℕ). Within k waiters) (sym (owners_length slots open_owners)) b)).1
              (subst (λ (l : List (Option Owning)). FillUp (open_owners ++ (o, s) ∷ []) waiters l slots) table m.tables));
          written =
              map-append (rename Number) e.out (cells_seen e.cells (open_seen e.owners n))
              ∙ ap₂ ◌++◌ (triples_later to now g e.out out m.written)
              (ap (λ (y : Option Owning). map (rename Number) (cells_seen e.cells y)) seen ∙ cells_meet to o free e.cells s slots subject names full same m.by_names)
              ∙ sym (map-append (rename (numbered_name now)) out (cells model (settle names) o subject));
        };
      }
    where
      others : (w : Owner) → ¬ (w ≡ o) → (p : Chars) (i : ℕ) → with_cells to o (cell_number e.cells (rows to o free e.cells s slots subject names)) (Cell w p i) ≡ to (Cell w p i)
      others w k p i = rw (false_unless (same_owner w o) (λ t. k ((exact_owners w o).0 t))) refl

  pub owner_ends : (own : Option ℕ) → IfSome own (λ n. n ≡ length open_owners) → ((p : Chars) (i : ℕ) → to (Cell o p i) ≡ None) → (own ≡ None → of_owner same_owner o slots ≡ [])
      → AllFull (of_owner same_owner o slots) → IfSome own (λ n. rename_node Number s ≡ rename_node (numbered_name to) subject)
      → Within (length open_owners) waiters → Midway to (open_owners ++ begun_by own o s) waiters labels drawn e slots names out
      → Ended to o open_owners waiters labels drawn (end_owner own e) slots names (out ++ cells model (settle names) o subject)
  owner_ends None q free none full same b m = not_begun (none refl) (subst (λ (l : OpenOwners). Midway to l waiters labels drawn e slots names out) (append-nil open_owners) m)
  owner_ends (Some n) q free none full same b m = was_begun n q free full same b m
