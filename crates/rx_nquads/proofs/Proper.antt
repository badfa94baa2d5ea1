-- A literal that is no typed xsd:string stays as it is.
use Rattle.rx_model.proofs.Common.{◌≡◌, ◌≢◌, ℕ, refl, ap, bytes_eq, by_test, xsd_string, Kind, Plain, Tagged, Typed, Term, Resource, Literal, exact_texts}
use Rattle.rx_nquads.specs.Quads.{proper_kind, proper_term, ProperStays}
use Rattle.rx_model.specs.Terms.{IsProper}

kind_stays : (kind : Kind) → kind ≢ Typed xsd_string → proper_kind kind ≡ kind
kind_stays Plain h = refl
kind_stays (Tagged tag) h = refl
kind_stays (Typed datatype) h = by_test (bytes_eq datatype xsd_string) (λ e. absurd (h (ap Typed ((exact_texts datatype xsd_string).0 e)))) (λ e. rw e refl)

term_stays : (term : Term ℕ) → IsProper term → proper_term term ≡ term
term_stays (Resource node) h = refl
term_stays (Literal text kind) h = ap (Literal text) (kind_stays kind h)

pub proper_stays : ProperStays
proper_stays name t h = let o = term_stays t.object h in λ i. record { subject = t.subject; predicate = t.predicate; object = o i }
