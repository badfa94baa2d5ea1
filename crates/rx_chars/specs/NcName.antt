-- The characters of names without colons (Namespaces in XML 1.0, NCName; XML 1.0, NameStartChar and NameChar).
use Rattle.std.specs.Prelude.{ℕ, Bool, ◌||◌, ◌&&◌, ◌==◌, nat_le}

abbrev pub is_from_to : ℕ → ℕ → ℕ → Bool
is_from_to low high c = nat_le low c && nat_le c high

-- XML 1.0, 2.3 [4] NameStartChar, without the colon
abbrev pub is_nc_start : ℕ → Bool
is_nc_start c =
    is_from_to 0x41 0x5A c  -- A to Z
    || c == 0x5F  -- `_`
    || is_from_to 0x61 0x7A c  -- a to z
    || is_from_to 0xC0 0xD6 c
    || is_from_to 0xD8 0xF6 c
    || is_from_to 0xF8 0x2FF c
    || is_from_to 0x370 0x37D c
    || is_from_to 0x37F 0x1FFF c
    || is_from_to 0x200C 0x200D c
    || is_from_to 0x2070 0x218F c
    || is_from_to 0x2C00 0x2FEF c
    || is_from_to 0x3001 0xD7FF c
    || is_from_to 0xF900 0xFDCF c
    || is_from_to 0xFDF0 0xFFFD c
    || is_from_to 0x10000 0xEFFFF c

-- XML 1.0, 2.3 [4a] NameChar, without the colon
abbrev pub is_nc : ℕ → Bool
is_nc c =
    is_nc_start c
    || c == 0x2D  -- `-`
    || c == 0x2E  -- `.`
    || is_from_to 0x30 0x39 c  -- 0 to 9
    || c == 0xB7
    || is_from_to 0x300 0x36F c
    || is_from_to 0x203F 0x2040 c
