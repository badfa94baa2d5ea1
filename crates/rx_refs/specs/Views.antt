-- What the code's values stand for.
use Rattle.std.specs.Prelude.{◌≡◌, ◌++◌, List, ℕ, String, string_bytes}
use Rattle.rx_terms.specs.Common.{chars, Chars, seen_slice}
use Rattle.rx_refs.specs.Parts.{Components}
use Rattle.rx_refs.specs.Dots.{without_dots}
use Rattle.rx_refs.specs.Resolve.{through_last_slash}
use Rattle.rx_refs.specs.declared.parts.Parts.{Parts}
use Rattle.rx_refs.specs.declared.targets.Target.{Target}
use Rattle.rx_refs.specs.declared.targets.TargetPath.{TargetPath}
use Rattle.rx_refs.specs.declared.targets.TargetPath.TheVariants.{Kept, Reduced, Merged}

abbrev pub seen : Parts → Components
seen parts = record {
  scheme = seen_slice parts.scheme;
  authority = seen_slice parts.authority;
  path = chars parts.path.now;
  query = seen_slice parts.query;
  fragment = seen_slice parts.fragment;
}

abbrev pub seen_path : TargetPath → Chars
seen_path (Kept path) = chars path.now
seen_path (Reduced path) = without_dots (chars path.now)
seen_path (Merged base path) = without_dots (through_last_slash (chars base.now) ++ chars path.now)

abbrev pub seen_target : Target → Components
seen_target target = record {
  scheme = seen_slice target.scheme;
  authority = seen_slice target.authority;
  path = seen_path target.path;
  query = seen_slice target.query;
  fragment = seen_slice target.fragment;
}

-- the new buffer is the old one with this text behind it
abbrev pub GainsText : {Z : Type 0} → String Z → String Z → Chars → Type 0
GainsText old new more = chars (string_bytes new) ≡ chars (string_bytes old) ++ more

-- what stood there is the front of what stands there now
abbrev pub Keeps : List ℕ → List ℕ → Type 0
Keeps old new = (more : List ℕ) × (new ≡ old ++ more)
