-- Texts as JSON.
use Rattle.rx_items.proofs.Common.{◌≡◌, ◌∙◌, ℕ, List, [], refl, sym, ap, unwrap_or, Option, Some, None, slice_get, chars, chars-nil, Chars, Written, said, string_of}
use Rattle.rx_values.specs.Marks.{CutAt}
use Rattle.rx_microdata.specs.Facts as facts

pub cut_at_start : (text : Chars) → CutAt text 0 [] text
cut_at_start text = record { whole = refl; size = refl }

pub found_time : (times : List Chars) (number : ℕ) (time text : Chars) → slice_get times number ≡ Some time → text ≡ time → string_of text ≡ string_of (unwrap_or (slice_get times number) [])
found_time times number time text found is = ap string_of (is ∙ sym (ap (λ (o : Option Chars). unwrap_or o []) found))

pub no_time : (times : List Chars) (number : ℕ) → slice_get times number ≡ None → string_of (chars []) ≡ string_of (unwrap_or (slice_get times number) [])
no_time times number none = ap string_of (chars-nil ∙ sym (ap (λ (o : Option Chars). unwrap_or o []) none))

pub empty_value : (base : Chars) (v : facts.Value) → v ≡ Written [] → string_of (chars []) ≡ string_of (said base v)
empty_value base v is = ap string_of (chars-nil ∙ sym (ap (said base) is))
