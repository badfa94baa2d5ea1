-- The first token of a text: HTML Standard, 2.3.7 (space-separated tokens).
use Rattle.std.specs.Prelude.{◌≡◌, ◌≢◌, ℕ, Bool, true, not, [], ◌++◌}
use Rattle.rx_terms.specs.Common.{list_all, is_white_space, Chars, ends_token}

-- no white space
abbrev pub is_filled : ℕ → Bool
is_filled c = not (is_white_space c)

-- white space, the token and the rest, one behind another, are the text; the token isn't empty and has no white space,
-- and the rest is empty or begins with some
pub record IsFirstToken (text token rest : Chars) : Type 0 where
  pub front : Chars
  pub whole : text ≡ front ++ (token ++ rest)
  pub white : list_all is_white_space front ≡ true
  pub some : token ≢ []
  pub filled : list_all is_filled token ≡ true
  pub ends : ends_token rest ≡ true
