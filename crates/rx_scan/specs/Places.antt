-- Where the scanner stands, after each kind of byte.
use Rattle.std.specs.Prelude.{◌+◌, ℕ, Bool, true, false, ◌&&◌}
use Rattle.rx_scan.specs.declared.places.Position.{Position}

abbrev pub page_start : Position
page_start = record { at = 0; starts = 0; token = 0; started = false; after_return = false; two = false; last = false }

abbrev pub byte_held : Position → Position
byte_held p = record { at = p.at + 1; starts = p.starts; token = p.token; started = p.started; after_return = p.after_return; two = p.two; last = p.last }

abbrev pub entered : Bool → Position → Position
entered after_return p = record { at = p.at + 1; starts = p.at + 1; token = p.token; started = true; after_return = after_return; two = p.two; last = p.last }

abbrev pub begun : Bool → Position → Position
begun after_return p = record { at = p.at + 1; starts = p.at + 1; token = p.starts; started = true; after_return = after_return; two = p.two; last = p.last }

abbrev pub ended : Bool → Bool → Position → Position
ended after_return bracket p = record { at = p.at + 1; starts = p.at + 1; token = p.token; started = true; after_return = after_return; two = p.last && bracket; last = bracket }

abbrev pub cut : Position → Position
cut p = record { at = p.at; starts = p.starts; token = p.token; started = p.started; after_return = p.after_return; two = false; last = false }

-- behind so many characters of a tag
abbrev pub fed : ℕ → Position → Position
fed n p = record { at = p.at + n; starts = p.at + n; token = p.token; started = true; after_return = false; two = p.two; last = p.last }

-- behind so many bytes of text of which none is a `]`
abbrev pub text_passed : ℕ → Position → Position
text_passed n p = record { at = p.at + n; starts = p.at + n; token = p.token; started = true; after_return = false; two = false; last = false }
