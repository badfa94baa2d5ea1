-- The cases of 5.2.2 on what the code holds.
use Rattle.rx_refs.proofs.Common.{◌≡◌, ℕ, true, false, List, ◌∷◌, ◌++◌, refl, Option, Some, None, ◌&&◌, is_some, codes, option_or, Chars, begins_with, is_empty, seen_slice, Bor, Components, through_last_slash, relative_path}
use Rattle.rx_refs.specs.Dots.{without_dots}

pub seen-some : (slice : Option (Bor (List ℕ))) → is_some (seen_slice slice) ≡ is_some slice
seen-some None = refl
seen-some (Some s) = refl

pub seen-or : (a b : Option (Bor (List ℕ))) → seen_slice (option_or a b) ≡ option_or (seen_slice a) (seen_slice b)
seen-or None b = refl
seen-or (Some s) b = refl

pub relative-bare : (base : Components) (path : Chars) → begins_with (codes "/") path ≡ false → (is_some base.authority && is_empty base.path) ≡ true → relative_path base path ≡ without_dots (47 ∷ path)
relative-bare base path h b = rw (h, b) refl

pub relative-merged : (base : Components) (path : Chars) → begins_with (codes "/") path ≡ false → (is_some base.authority && is_empty base.path) ≡ false → relative_path base path ≡ without_dots (through_last_slash base.path ++ path)
relative-merged base path h b = rw (h, b) refl
