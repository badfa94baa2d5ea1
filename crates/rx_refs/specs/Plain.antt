-- References that only take the place of the base's end: nothing in them is worked out.
use Rattle.std.specs.Prelude.{◌≡◌, ℕ, zero, suc, ◌+◌, Bool, true, false, not, ◌||◌, ◌&&◌, ◌==◌, nat_lt, List, [], ◌∷◌, ◌++◌, length, codes, Option, Some, None, if◌then◌else◌, IfSome, drop, ◌≤◌}
use Rattle.rx_terms.specs.Common.{list_all, colon, solidus, question_mark, number_sign, full_stop, Chars, begins_with, is_forbidden, has_forbidden, is_scheme}
use Rattle.rx_refs.specs.Dots.{without_last_segment}
use Rattle.rx_refs.specs.declared.plain.Split.{Split}

-- no segment begins with `.`, where `start` says whether one begins here
abbrev pub no_dots : Bool → Chars → Bool
no_dots start [] = true
no_dots start (c ∷ text) = not (start && c == full_stop) && no_dots (c == solidus) text

abbrev pub ends_path : ℕ → Bool
ends_path c = c == number_sign || c == question_mark

-- Nothing is forbidden, no segment of the path begins with `.`, and none before the first `/` has a `:`, where `first`
-- says whether that one is still read.
abbrev pub is_plain_from : Bool → Bool → Chars → Bool
is_plain_from first start [] = true
is_plain_from first start (c ∷ text) =
    if is_forbidden c then false
    else if ends_path c then not (has_forbidden text)
    else if first && c == colon then false
    else if start && c == full_stop then false
    else is_plain_from (if c == solidus then false else first) (c == solidus) text

abbrev pub is_plain_reference : Chars → Bool
is_plain_reference text = is_plain_from true true text

-- a byte before the path of a base
abbrev pub is_site_byte : ℕ → Bool
is_site_byte c = nat_lt c 128 && not (c == solidus || ends_path c)

abbrev pub is_scheme_byte : ℕ → Bool
is_scheme_byte c = nat_lt c 128 && not (c == colon)

-- Of the bytes of a base, so many stand up to the `:` behind its scheme, that one included.
pub record IsSchemeEnd (base : List ℕ) (end_of_scheme : ℕ) : Type 0 where
  pub scheme : List ℕ
  pub rest : List ℕ
  pub whole : base ≡ scheme ++ 58 ∷ rest
  pub size : end_of_scheme ≡ length scheme + 1
  pub before_colon : list_all is_scheme_byte scheme ≡ true

-- Of the bytes of a base, so many stand before a path that begins with `/`.
pub record IsSite (base : List ℕ) (site : ℕ) : Type 0 where
  pub scheme : List ℕ
  pub authority : List ℕ
  pub rest : List ℕ
  pub whole : base ≡ (scheme ++ 58 ∷ 47 ∷ 47 ∷ authority) ++ 47 ∷ rest
  pub size : site ≡ length (scheme ++ 58 ∷ 47 ∷ 47 ∷ authority)
  pub before_colon : list_all is_scheme_byte scheme ≡ true
  pub before_path : list_all is_site_byte authority ≡ true

-- The place behind the last `/` of a path without dot segments, which ends before a `?` or `#`: `here` is the place
-- that is read, `folder` the one behind the last `/` so far, and `start` whether a segment begins here.
abbrev pub folder_from : ℕ → ℕ → Bool → List ℕ → Option ℕ
folder_from here folder start [] = Some folder
folder_from here folder start (c ∷ text) =
    if ends_path c then Some folder
    else if not (nat_lt c 128) then None
    else if start && c == full_stop then None
    else folder_from (suc here) (if c == solidus then suc here else folder) (c == solidus) text

-- So a base may be cut: where its path begins, and how much of the path stands up to its last `/`.
pub record IsSplit (base : List ℕ) (split : Split) : Type 0 where
  pub site : IsSite base split.site
  pub fits : split.site ≤ length base
  pub folder : split.folder ≡ folder_from 0 0 false (drop split.site base)
  pub within : IfSome split.folder (λ n. n ≤ length (drop split.site base))

abbrev pub is_one_slash : Chars → Bool
is_one_slash text = begins_with (codes "/") text && not (begins_with (codes "//") text)

-- the text begins with a segment
abbrev pub begins_path : Chars → Bool
begins_path [] = false
begins_path (c ∷ text) = not (ends_path c || c == solidus)

-- the text is empty or a fragment
abbrev pub keeps_all : Chars → Bool
keeps_all [] = true
keeps_all (c ∷ text) = c == number_sign

-- The place of the first `#`, or the end, where all before it is ASCII
abbrev pub fragment_from : ℕ → List ℕ → Option ℕ
fragment_from here [] = Some here
fragment_from here (c ∷ text) =
    if c == number_sign then Some here
    else if not (nat_lt c 128) then None
    else fragment_from (suc here) text

-- the text is a query, and a fragment behind it or none
abbrev pub begins_query : Chars → Bool
begins_query [] = false
begins_query (c ∷ text) = c == question_mark

-- The place of the first `?` or `#`, or the end, where all before it is ASCII
abbrev pub path_end_from : ℕ → List ℕ → Option ℕ
path_end_from here [] = Some here
path_end_from here (c ∷ text) =
    if ends_path c then Some here
    else if not (nat_lt c 128) then None
    else path_end_from (suc here) text

-- A reference with a scheme that stands alone: behind its first `:` nothing is worked out.
pub record IsPlainAbsolute (text : List ℕ) : Type 0 where
  pub scheme : List ℕ
  pub rest : List ℕ
  pub whole : text ≡ scheme ++ 58 ∷ rest
  pub before_colon : list_all is_scheme_byte scheme ≡ true
  pub is_scheme : is_scheme scheme ≡ true
  pub is_rest : is_plain_from false true rest ≡ true

-- so many `../`
abbrev pub climbs : ℕ → Chars
climbs zero = []
climbs (suc k) = 46 ∷ 46 ∷ 47 ∷ climbs k

-- a path without so many of its last segments
abbrev pub ups : ℕ → Chars → Chars
ups zero path = path
ups (suc k) path = ups k (without_last_segment path)

-- how many `../` stand at the front
abbrev pub parent_steps : List ℕ → ℕ
parent_steps [] = 0
parent_steps (a ∷ []) = 0
parent_steps (a ∷ b ∷ []) = 0
parent_steps (a ∷ b ∷ c ∷ text) = if a == 46 && (b == 46 && c == 47) then suc (parent_steps text) else 0

-- the place of the last `/`, where `last` is the one so far
abbrev pub last_solidus : ℕ → ℕ → List ℕ → ℕ
last_solidus here last [] = last
last_solidus here last (c ∷ text) = last_solidus (suc here) (if c == solidus then here else last) text

abbrev pub begins_climb : List ℕ → Bool
begins_climb [] = false
begins_climb (a ∷ []) = false
begins_climb (a ∷ b ∷ []) = false
begins_climb (a ∷ b ∷ c ∷ text) = a == 46 && (b == 46 && c == 47)
