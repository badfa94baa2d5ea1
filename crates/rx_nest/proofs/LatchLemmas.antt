-- What was answered comes again, and nothing is promised after it but that.
use Rattle.rx_nest.proofs.Common.{◌≡◌, ◌≢◌, ◌∙◌, true, false, None, Some, Result, Ok, Err, refl, sym, ap, Stop, IsNoMemory, Latched, Repeats, latched_by, FallsBy, HasMemory}
use Rattle.rx_grammar.specs.declared.stops.Stop.TheVariants as stop

pub falls_by : (why : Stop) → FallsBy why (latched_by why).failed (latched_by why).out_of_memory
falls_by (stop.Fault fault) = (refl, refl)
falls_by stop.NoMemory = refl

pub has_fallen : {P : Type 0} (why : Stop) (new : Latched) → new ≡ latched_by why → new.failed ≡ None → new.out_of_memory ≡ false → P
has_fallen (stop.Fault fault) new e unfailed unspent = absurd (let w : None ≡ Some fault = sym unfailed ∙ ap (λ (l : Latched). l.failed) e in cc)
has_fallen stop.NoMemory new e unfailed unspent = absurd (let w : false ≡ true = sym unspent ∙ ap (λ (l : Latched). l.out_of_memory) e in cc)

-- nothing is answered again where nothing was answered
pub goes_on : (l : Latched) (r : Result (Unit {0}) Stop) → Repeats l r → ((why : Stop) → r ≢ Err why) → (l.failed ≡ None) × (l.out_of_memory ≡ false)
goes_on l (Ok done) again none = again
goes_on l (Err why) again none = absurd (none why refl)

pub no_want : (why : Stop) → HasMemory why → IsNoMemory {A = Unit {0}} (Err why) ≡ false
no_want (stop.Fault fault) has = refl
no_want stop.NoMemory has = absurd has
