-- How a program names blank nodes and owners when it enters one element.
use Rattle.std.specs.Prelude.{ℕ, unwrap_or, nat_eq}
use Rattle.rx_rdfa.specs.Naming.{Naming}
use Rattle.rx_eval.specs.Labels.{Numbered, label_number}

-- an author's label has the number that it drew, a new node the next one, and the element's owners the next ones; the
-- page's owner is the first
abbrev pub moment : Numbered → ℕ → ℕ → ℕ → Naming ℕ ℕ
moment numbered fresh of below = record {
  author = λ label. unwrap_or (label_number numbered label) 0;
  made = λ path. fresh;
  cell = λ owner predicate i. 0;
  of = λ path. of;
  below = λ path. below;
  first = 0;
  same = nat_eq;
  same_owner = nat_eq;
}

-- the labels alone, where nothing is made
abbrev pub labelled : Numbered → Naming ℕ ℕ
labelled numbered = moment numbered 0 0 0
