-- What becomes of a reading, turn by turn.
use Rattle.rx_nest.proofs.Common.{◌+◌, ◌≡◌, ◌∙◌, ℕ, zero, suc, ◌<◌, true, List, [], ◌++◌, length, take, drop, refl, sym, ap, subst, Option, Some, None, Ok, Err, arith, length-append, length-take, append-nil, append_assoc, take_all, Fault, StartTag, Stop, take-append-drop, Sign, Sight, signs_of, Way, IsRefusal, Hears, for_form, for_meaning, StopGives, ReaderRefuses}
use Rattle.rx_grammar.specs.declared.stops.Stop.TheVariants as stop
use Rattle.rx_nest.specs.declared.nests.Event.{Event}
use Rattle.rx_nest.specs.declared.tree_tokens.PendingEvents.{PendingEvents}
use Rattle.rx_nest.specs.declared.lines.TagAction.{TagAction}
use Rattle.rx_nest.specs.declared.lines.TagAction.TheVariants as own
use Rattle.rx_nest.specs.Nests as nests
use Rattle.rx_nest.specs.Nests.{Nested, NestStepped, NestStepGives, event_signs, is_more, left, own_left}
use Rattle.rx_nest.specs.declared.turns.Turn.TheVariants as turn
use Rattle.rx_nest.specs.Readings.{ListenerStands, Somewhere, OwesNone, TurnGives, PieceGives, Whole, EndsWithinPage}
use Rattle.rx_nest.proofs.Firsts.{meaning_first, meaning_within, no_meaning}
use Rattle.rx_nest.proofs.Meanings.{meant, read_as_meant}

-- where nothing is due, nothing more is shown
pub paid_up : (owed : PendingEvents) (t : StartTag) → left owed ≡ 0 → nests.owed_signs owed t ≡ []
paid_up owed t h = by owed.ends owed.own h
  where
    by : (k : ℕ) (o : Option TagAction) → k + own_left o ≡ 0 → nests.owed_signs (record { ends = k; own = o }) t ≡ []
    by zero None e = refl
    by zero (Some own.Nothing) e = refl
    by zero _ e = absurd (cc)
    by (suc k) o e = absurd (omega (arith, e))

module _ {L : Type 0} (way : Way) (knows : L → List Sign → Type 0) (law : IsRefusal way.refused) where
  -- one turn

  module _ (bytes piece : List ℕ) (signs : List Sign) (n : ℕ) (e : Event) (nest : Nested) (s : NestStepped way.syntax way.limits bytes signs piece n e nest) where
    pub took : (listener : L) → knows listener (signs ++ event_signs e) → TurnGives way knows bytes piece (Ok (turn.Took n)) nest listener
    took listener k = record { signs = signs ++ event_signs e; shown = s.stands; known = k }

    pub done : (listener : L) → knows listener (signs ++ event_signs e) → is_more e ≡ true → left nest.owed ≡ 0 → TurnGives way knows bytes piece (Ok turn.Done) nest listener
    done listener k m p = (
      subst (λ l. ListenerStands way knows nest listener (bytes ++ l)) (ap (λ k. take k piece) (s.all m) ∙ take_all (length piece) piece (omega arith)) (took listener k),
      paid_up nest.owed (nests.last_tag nest.scan) p,
    )

    abbrev heard_meaning : (rest : List ℕ) (fault : Fault) → way.refused (signs ++ event_signs e) ≡ Some fault → ReaderRefuses way ((bytes ++ piece) ++ rest) fault
    heard_meaning rest fault r = record {
      front = bytes ++ take n piece;
      rest = drop n piece ++ rest;
      are =
          ap (λ l. l ++ rest) (ap (λ l. bytes ++ l) (sym (take-append-drop n piece)) ∙ sym (append_assoc bytes (take n piece) (drop n piece)))
          ∙ append_assoc (bytes ++ take n piece) (drop n piece) rest;
      now = record { now = s.stands.at.now; told = s.stands.told };
      read = s.stands.at.read;
      refused =
          ap (λ (x : Sight). way.refused x.signs) s.stands.sight
          ∙ law.stays (signs ++ event_signs e) (nests.owed_signs nest.owed (nests.last_tag nest.scan)) fault r;
    }

    heard_fault : (fault : Fault) → way.refused (signs ++ event_signs e) ≡ Some fault → StopGives way (bytes ++ piece) (stop.Fault fault)
    heard_fault fault r =
        record {
          stays = λ rest. for_meaning (meant way law ((bytes ++ piece) ++ rest) fault (heard_meaning rest fault r)) (meaning_first way law ((bytes ++ piece) ++ rest) fault (heard_meaning rest fault r));
          within =
              let l : fault.at < length (bytes ++ take n piece) = meaning_within way law ((bytes ++ piece) ++ []) fault (heard_meaning [] fault r) in
              omega (arith, l, length-append bytes (take n piece), length-append bytes piece, length-take n piece);
        }

    pub heard_stop : (why : Stop) (listener : L) → Hears way.refused knows signs (event_signs e) (Err why) listener → StopGives way (bytes ++ piece) why
    heard_stop (stop.Fault fault) listener h = heard_fault fault h
    heard_stop stop.NoMemory listener h = tt

  pub step_stop : (bytes piece : List ℕ) (nest new : Nested) (listener : L) (g : ListenerStands way knows nest listener bytes) → way.refused g.signs ≡ None → (why : Stop)
      → NestStepGives way.syntax way.limits bytes g.signs piece (Err why) new → StopGives way (bytes ++ piece) why
  step_stop bytes piece nest new listener g a (stop.Fault fault) s =
      record {
        stays = λ rest. for_form (s.0.stays rest)
            (λ other m. no_meaning way law bytes piece g.signs fault g.shown.at.read s.0 s.2 a rest other (read_as_meant way law ((bytes ++ piece) ++ rest) other m));
        within = s.0.within;
      }
  step_stop bytes piece nest new listener g a stop.NoMemory s = tt

-- what holds behind the parts of a piece
module _ {L : Type 0} (Is : Nested → L → List ℕ → Type 0) where
  pub none_took : (bytes piece : List ℕ) (n : ℕ) (nest : Nested) (listener : L) → n ≡ 0 → Is nest listener (bytes ++ take n piece) → Is nest listener bytes
  none_took bytes piece n nest listener e g = subst (λ b. Is nest listener b) (ap (λ k. bytes ++ take k piece) e ∙ append-nil bytes) g

  pub record Taken (bytes piece rest : List ℕ) (nest : Nested) (listener : L) : Type 0 where
    pub front : List ℕ
    pub are : piece ≡ front ++ rest
    pub goes : Is nest listener (bytes ++ front)

  pub taken_start : (bytes piece : List ℕ) (nest : Nested) (listener : L) → Is nest listener bytes → Taken bytes piece piece nest listener
  taken_start bytes piece nest listener g = record { front = []; are = refl; goes = subst (λ b. Is nest listener b) (sym (append-nil bytes)) g }

  pub taken_more : (bytes piece rest : List ℕ) (n : ℕ) (nest new : Nested) (listener next : L) (t : Taken bytes piece rest nest listener) → Is new next ((bytes ++ t.front) ++ take n rest) → Taken bytes piece (drop n rest) new next
  taken_more bytes piece rest n nest new listener next t g =
      record {
        front = t.front ++ take n rest;
        are = t.are ∙ (ap (λ x. t.front ++ x) (sym (take-append-drop n rest)) ∙ sym (append_assoc t.front (take n rest) (drop n rest)));
        goes = subst (λ b. Is new next b) (append_assoc bytes t.front (take n rest)) g;
      }

module _ {L : Type 0} (way : Way) (knows : L → List Sign → Type 0) where
  -- many turns

  whole : (bytes piece rest front : List ℕ) → piece ≡ front ++ rest → (bytes ++ front) ++ rest ≡ bytes ++ piece
  whole bytes piece rest front e = append_assoc bytes front rest ∙ ap (λ x. bytes ++ x) (sym e)

  pub taken_whole : (bytes piece rest : List ℕ) (nest new : Nested) (listener next : L) (t : Taken (ListenerStands way knows) bytes piece rest nest listener)
      → TurnGives way knows (bytes ++ t.front) rest (Ok turn.Done) new next → PieceGives way knows bytes piece (Ok tt) new next
  taken_whole bytes piece rest nest new listener next t g = (subst (λ b. ListenerStands way knows new next b) (whole bytes piece rest t.front t.are) g.0, g.1)

  pub taken_stop : (bytes piece rest : List ℕ) (nest new : Nested) (listener next : L) (why : Stop) (t : Taken (ListenerStands way knows) bytes piece rest nest listener)
      → TurnGives way knows (bytes ++ t.front) rest (Err why) new next → PieceGives way knows bytes piece (Err why) new next
  taken_stop bytes piece rest nest new listener next why t g = subst (λ b. StopGives way b why) (whole bytes piece rest t.front t.are) g

  -- the page's end

  pub ends_whole : (nest : Nested) (listener : L) (bytes : List ℕ) (g : ListenerStands way knows nest listener bytes) → way.refused g.signs ≡ None → OwesNone nest
      → nests.NestEnded way.syntax way.limits bytes g.signs (nests.owed_signs nest.owed (nests.last_tag nest.scan)) → Whole way knows bytes listener
  ends_whole nest listener bytes g a none e =
      let shown : g.signs ≡ signs_of e.tree = sym (append-nil g.signs) ∙ (ap (λ x. g.signs ++ x) (sym none) ∙ e.shown) in
      record { tree = e.tree; page = e.page; accepted = subst (λ x. way.refused x ≡ None) shown a; known = subst (knows listener) shown g.known }

pub end_stops : (way : Way) (bytes : List ℕ) (signs : List Sign) (old new : Nested) (why : Stop) → nests.NestEndGives way.syntax way.limits bytes signs old (Err why) new → EndsWithinPage way bytes why
end_stops way bytes signs old new (stop.Fault fault) g = g
end_stops way bytes signs old new stop.NoMemory g = g

-- what was read stays so
module _ {S L : Type 0} (way : S → Way) (knows : S → L → List Sign → Type 0) where
  abbrev pub GoesOn : Nested → L → Nested → L → Type 0
  GoesOn nest listener new next = (setting : S) (bytes : List ℕ) → ListenerStands (way setting) (knows setting) nest listener bytes → ListenerStands (way setting) (knows setting) new next bytes

  pub somewhere_on : (nest new : Nested) (listener next : L) → GoesOn nest listener new next → Somewhere way knows nest listener → Somewhere way knows new next
  somewhere_on nest new listener next on s = record { setting = s.setting; bytes = s.bytes; goes = on s.setting s.bytes s.goes }

  abbrev pub TakenBy : Nested → L → List ℕ → List ℕ → Nested → L → Type 0
  TakenBy nest listener piece rest new next = (setting : S) (bytes : List ℕ) → ListenerStands (way setting) (knows setting) nest listener bytes → Taken (ListenerStands (way setting) (knows setting)) bytes piece rest new next

  pub somewhere_taken : (nest new : Nested) (listener next : L) (piece rest : List ℕ) → TakenBy nest listener piece rest new next → Somewhere way knows nest listener → Somewhere way knows new next
  somewhere_taken nest new listener next piece rest on s =
      let t = on s.setting s.bytes s.goes in
      record { setting = s.setting; bytes = s.bytes ++ t.front; goes = t.goes }
