-- Bytes handed over to a sink, one part after another.
use Rattle.rx_model.proofs.Common.{◌≡◌, ◌∙◌, ℕ, ◌+◌, ◌≤◌, Bool, true, false, List, [], ◌++◌, length, take, drop, Option, refl, sym, ap, ap₂, subst, append_assoc, append-nil, length-append, take-append-drop, Result, Ok, Err, OnOk, OnErr, is_err, take-add, Some, arith, take_at, drop_at, take-append-le}
use Rattle.rx_ports.specs.Counts.{Rose}
use Rattle.rx_ports.specs.Shelves.{WhereKnown, GrowsBy, GrowsByPart}
use Rattle.rx_ports.specs.declared.shelf.Failed.{Failed}
use Rattle.rx_ports.proofs.MoveLemmas.{moves_same, moves_then, moves_weaker}
use Rattle.rx_pieces.specs.Underway.{Underway, Delivery, delivery, nothing_waits, keeps, SentBut, IsHandedOver, AddsBytes}

-- ---- what one sink holds

take_past : (xs ys : List ℕ) (n : ℕ) → take (length xs + n) (xs ++ ys) ≡ xs ++ take n ys
take_past xs ys n = take-add (length xs) n (xs ++ ys) ∙ ap₂ (λ a b. a ++ take n b) (take_at xs ys (length xs) refl) (drop_at xs ys (length xs) refl)

-- a proper front of a text is one of any longer text
part_longer : (text more old new : List ℕ) → GrowsByPart text old new → GrowsByPart (text ++ more) old new
part_longer text more old new (n, below, e) =
    (n, omega (arith, below, length-append text more), e ∙ ap (λ z. old ++ z) (sym (take-append-le n text more (omega (arith, below)))))

more_waits : (failed : Bool) (waiting text more old new : List ℕ) → SentBut failed waiting text old new → SentBut failed (waiting ++ more) (text ++ more) old new
more_waits true waiting text more old new s = part_longer text more old new s
more_waits false waiting text more old new (sent, e, f) = (sent, e, ap (λ z. z ++ more) f ∙ append_assoc sent waiting more)

all_sent : (waiting text x y z : List ℕ) → SentBut false waiting text x y → GrowsBy waiting y z → SentBut false [] text x z
all_sent waiting text x y z (sent, e, f) g =
    (sent ++ waiting, g ∙ ap (λ h. h ++ waiting) e ∙ append_assoc x sent waiting, f ∙ sym (append-nil (sent ++ waiting)))

part_sent : (waiting text x y z : List ℕ) → SentBut false waiting text x y → GrowsByPart waiting y z → GrowsByPart text x z
part_sent waiting text x y z (sent, e, f) (n, below, g) = (
  length sent + n,
  omega (arith, below, ap length f, length-append sent waiting),
  g ∙ ap (λ h. h ++ take n waiting) e ∙ append_assoc x sent (take n waiting) ∙ ap (λ h. x ++ h) (sym (ap (take (length sent + n)) f ∙ take_past sent waiting n)),
)

-- ---- counts of faults

later_rose : (a b c : ℕ) → a ≤ b → Rose b c → Rose a c
later_rose a b c h k = omega (arith, h, k)

-- ---- the steps of pieces

stands_by : {start : Option (List ℕ)} {before : ℕ} {text other : List ℕ} {now : Delivery} → text ≡ other → IsHandedOver start before text now → IsHandedOver start before other now
stands_by {start} {before} {text} {other} {now} e s = subst (λ (z : List ℕ). IsHandedOver start before z now) e s

pub bytes_then : {a b c : Delivery} {x y : List ℕ} → AddsBytes a b x → AddsBytes b c y → AddsBytes a c (x ++ y)
bytes_then {x = x} {y = y} h k = record { stands = λ start before text s. stands_by (append_assoc text x y) (k.stands start before (text ++ x) (h.stands start before text s)) }

pub bytes_nothing : (a : Delivery) → AddsBytes a a []
bytes_nothing a = record { stands = λ start before text s. stands_by (sym (append-nil text)) s }

pub bytes_by : {a b : Delivery} {x y : List ℕ} → x ≡ y → AddsBytes a b x → AddsBytes a b y
bytes_by {a} {b} e h = subst (AddsBytes a b) e h

-- what is added once the sink failed is lost
lost : {start : Option (List ℕ)} {before : ℕ} {text : List ℕ} {now : Delivery} (more : List ℕ) → now.underway.failed ≡ true → IsHandedOver start before text now → IsHandedOver start before (text ++ more) now
lost {start} {before} {text} {now} more failed s = record {
  told = moves_weaker _ (λ x y p.
      let part : GrowsByPart text x y = subst (λ (b : Bool). SentBut b now.underway.waiting text x y) failed p in
      subst (λ (b : Bool). SentBut b now.underway.waiting (text ++ more) x y) (sym failed) (part_longer text more x y part)) s.told;
  later = s.later;
  steady = s.steady;
  cause = s.cause;
}

-- where the sink failed, anything more may be said to be handed over
pub bytes_failed : {a b : Delivery} {x : List ℕ} (y : List ℕ) → b.underway.failed ≡ true → AddsBytes a b x → AddsBytes a b (x ++ y)
bytes_failed {x = x} y failed h = record { stands = λ start before text s. stands_by (append_assoc text x y) (lost y failed (h.stands start before text s)) }

-- bytes that wait too
pub kept : (old new : Underway) (held : Option (List ℕ)) (faults : ℕ) (bytes : List ℕ) → new ≡ keeps old bytes → AddsBytes (delivery old held faults) (delivery new held faults) bytes
kept old new held faults bytes e = subst (λ (u : Underway). AddsBytes (delivery old held faults) (delivery u held faults) bytes) (sym e) (record {
  stands = λ start before text s. record {
    told = moves_weaker _ (more_waits old.failed old.waiting text bytes) s.told;
    later = s.later;
    steady = s.steady;
    cause = s.cause;
  };
})

module _ (now : Underway) (held next : Option (List ℕ)) (faults after : ℕ) (fine : now.failed ≡ false) (later : faults ≤ after) where
  sent_as : (grows : List ℕ → List ℕ → Type 0) (failed : Bool) → ((text x y z : List ℕ) → SentBut false now.waiting text x y → grows y z → SentBut failed [] text x z) → WhereKnown grows held next → (failed ≡ false → after ≡ faults) → (failed ≡ true → Rose faults after)
      → AddsBytes (delivery now held faults) (delivery (nothing_waits failed) next after) []
  sent_as grows failed then moves same rose = record {
    stands = λ start before text s. stands_by (sym (append-nil text)) (record {
      told = moves_then _ (λ x y z p q. then text x y z (subst (λ (b : Bool). SentBut b now.waiting text x y) fine p) q) s.told moves;
      later = omega (arith, s.later, later);
      steady = λ e. same e ∙ s.steady fine;
      cause = λ e. later_rose before faults after s.later (rose e);
    });
  }

  -- what waited was given to the sink
  pub sent : (r : Result (Unit {0}) Failed) → OnOk r (WhereKnown (GrowsBy now.waiting) held next) → OnErr r (WhereKnown (GrowsByPart now.waiting) held next) → OnOk r (after ≡ faults) → OnErr r (Rose faults after)
      → AddsBytes (delivery now held faults) (delivery (nothing_waits (is_err r)) next after) []
  sent (Ok u) whole part same rose = sent_as (GrowsBy now.waiting) false (all_sent now.waiting) whole (λ e. same) (λ e. absurd (cc))
  sent (Err f) whole part same rose = sent_as (GrowsByPart now.waiting) true (part_sent now.waiting) part (λ e. absurd (cc)) (λ e. rose)

-- a sink that failed is given nothing
pub sent_nothing : (now : Underway) (held : Option (List ℕ)) (faults : ℕ) → now.failed ≡ true → AddsBytes (delivery now held faults) (delivery (nothing_waits true) held faults) []
sent_nothing now held faults failed = record {
  stands = λ start before text s. stands_by (sym (append-nil text)) (record {
    told = subst (λ (b : Bool). WhereKnown (SentBut b now.waiting text) start held) failed s.told;
    later = s.later;
    steady = λ e. absurd (cc);
    cause = λ _. s.cause failed;
  });
}

-- ---- bytes of which pieces are made

-- some of the bytes were handed over, and these are left
pub record HandedOver (old now : Delivery) (bytes rest : List ℕ) : Type 0 where
  pub front : List ℕ
  pub adds : AddsBytes old now front
  pub whole : bytes ≡ front ++ rest

pub more_over : {old now filled next : Delivery} {bytes rest front behind : List ℕ} → HandedOver old now bytes rest → rest ≡ front ++ behind → AddsBytes now filled front → AddsBytes filled next [] → HandedOver old next bytes behind
more_over {front = front} {behind = behind} h e k s = record {
  front = h.front ++ front;
  adds = bytes_by (append-nil (h.front ++ front)) (bytes_then (bytes_then h.adds k) s);
  whole = h.whole ∙ ap (λ z. h.front ++ z) e ∙ sym (append_assoc h.front front behind);
}

pub all_over : {old now next : Delivery} {bytes rest : List ℕ} → HandedOver old now bytes rest → AddsBytes now next rest → AddsBytes old next bytes
all_over h k = bytes_by (sym h.whole) (bytes_then h.adds k)

pub cut_at : (n : ℕ) (rest front behind : List ℕ) → front ≡ take n rest → behind ≡ drop n rest → rest ≡ front ++ behind
cut_at n rest front behind e f = sym (ap₂ ◌++◌ e f ∙ take-append-drop n rest)

-- ---- the end

-- nothing was handed over yet
start_stands : (first : Underway) (held : Option (List ℕ)) (faults : ℕ) → first ≡ nothing_waits false → IsHandedOver held faults [] (delivery first held faults)
start_stands first held faults e = subst (λ (u : Underway). IsHandedOver held faults [] (delivery u held faults)) (sym e) (record {
  told = moves_same _ (λ x. ([], sym (append-nil x), refl)) held;
  later = omega arith;
  steady = λ f. refl;
  cause = λ f. absurd (cc);
})

-- a text was handed over, and then all was sent that waited
pub end_stands : {first : Underway} {held : Option (List ℕ)} {faults : ℕ} {text : List ℕ} {filled last : Delivery} → first ≡ nothing_waits false → AddsBytes (delivery first held faults) filled text → AddsBytes filled last []
    → IsHandedOver held faults text last
end_stands {first} {held} {faults} {text} e h k = stands_by (append-nil text) ((bytes_then h k).stands held faults [] (start_stands first held faults e))

pub whole_sent : {held next : Option (List ℕ)} {faults after : ℕ} (text : List ℕ) → IsHandedOver held faults text (delivery (nothing_waits false) next after) → WhereKnown (GrowsBy text) held next
whole_sent text s = moves_weaker _ (λ x y (sent, e, f). e ∙ ap (λ z. x ++ z) (sym (f ∙ append-nil sent))) s.told

-- a sink that held nothing, and tells what it holds, holds the text
pub holds_text : (x y text : List ℕ) → x ≡ [] → WhereKnown (GrowsBy text) (Some x) (Some y) → y ≡ text
holds_text x y text e m = m.taken x y refl refl ∙ ap (λ z. z ++ text) e
