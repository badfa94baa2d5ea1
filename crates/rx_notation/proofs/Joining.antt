-- Texts of tokens, joined.
use Rattle.rx_notation.proofs.Common.{◌≡◌, true, List, [], ◌∷◌, ◌++◌, refl, sym, ap, subst, append_assoc, Chars, TurtleToken, SpellsToken, is_spacing, SpellsBehind, SpellsTokens}

-- the text begins with the first of some tokens
abbrev pub Opens : Chars → List TurtleToken → Type 0
Opens text [] = ⊥
Opens text (token ∷ more) = (spelling rest : Chars) × SpellsToken spelling token × SpellsBehind rest more × (text ≡ spelling ++ rest)

-- the text begins with a token, and puts tokens before those that what follows it spells
pub record Puts (text : Chars) (f : List TurtleToken → List TurtleToken) : Type 0 where
  pub puts : (rest : Chars) (ts : List TurtleToken) → SpellsBehind rest ts → Opens (text ++ rest) (f ts)

-- the same of a text that begins with a gap, or is empty
pub record Adds (text : Chars) (f : List TurtleToken → List TurtleToken) : Type 0 where
  pub adds : (rest : Chars) (ts : List TurtleToken) → SpellsBehind rest ts → SpellsBehind (text ++ rest) (f ts)

pub all_tokens : (text : Chars) (ts : List TurtleToken) → Opens text ts → SpellsTokens text ts
all_tokens text [] h = absurd h
all_tokens text (t ∷ ts) h = h

pub behind_gap : (gap text : Chars) (ts : List TurtleToken) → is_spacing gap ≡ true → Opens text ts → SpellsBehind (gap ++ text) ts
behind_gap gap text [] g h = absurd h
behind_gap gap text (t ∷ ts) g (spelling, rest, s, b, e) = (gap, spelling, rest, g, s, b, ap (λ z. gap ++ z) e)

pub opens_token : (text : Chars) (t : TurtleToken) → SpellsToken text t → (rest : Chars) (ts : List TurtleToken) → SpellsBehind rest ts → Opens (text ++ rest) (t ∷ ts)
opens_token text t h rest ts b = (text, rest, h, b, refl)

pub behind_token : (gap text : Chars) (t : TurtleToken) → is_spacing gap ≡ true → SpellsToken text t → (rest : Chars) (ts : List TurtleToken) → SpellsBehind rest ts → SpellsBehind (gap ++ (text ++ rest)) (t ∷ ts)
behind_token gap text t g h rest ts b = (gap, text, rest, g, h, b, refl)

pub puts_token : (text : Chars) (t : TurtleToken) → SpellsToken text t → Puts text (λ ts. t ∷ ts)
puts_token text t h = record { puts = opens_token text t h }

pub puts_then : {a b : Chars} {f g : List TurtleToken → List TurtleToken} → Puts a f → Adds b g → Puts (a ++ b) (λ ts. f (g ts))
puts_then {a} {b} {f} {g} p q = record { puts = λ rest ts k. subst (λ z. Opens z (f (g ts))) (sym (append_assoc a b rest)) (p.puts (b ++ rest) (g ts) (q.adds rest ts k)) }

pub adds_gap : (gap : Chars) {a : Chars} {f : List TurtleToken → List TurtleToken} → is_spacing gap ≡ true → Puts a f → Adds (gap ++ a) f
adds_gap gap {a} {f} g p = record { adds = λ rest ts k. subst (λ z. SpellsBehind z (f ts)) (sym (append_assoc gap a rest)) (behind_gap gap (a ++ rest) (f ts) g (p.puts rest ts k)) }
