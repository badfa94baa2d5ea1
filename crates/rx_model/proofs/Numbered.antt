-- The law of numbering.
use Rattle.std.proofs.Common.{◌≡◌, suc, Bool, true, false, cond, List, [], ◌∷◌, ◌++◌, refl, sym, ◌∙◌, inl, inr, true≢false}
use Rattle.rx_model.specs.Sets.{Among, IsExact, distinct}
use Rattle.rx_model.specs.Terms.{Triple}
use Rattle.rx_model.specs.Numbered.{blank_of_node, blank_of_term, blanks, place_in, rename, Has, NumbersOneToOne}
use Rattle.rx_model.proofs.Sets.{Among_distinct, Among_map, Among_of_map, Among_flat_map}

module _ {B : Type 0} (same : B → B → Bool) (exact : IsExact same) where
  -- the place tells which it is
  pub place_tells : (xs : List B) (a b : B) → Among xs a → Among xs b → place_in same xs a ≡ place_in same xs b → a ≡ b
  place_tells [] a b h k e = absurd h
  place_tells (x ∷ xs) a b h k e = go (same x a) refl (same x b) refl e (place_tells xs a b)
    where
      tail_of : (c : B) → same x c ≡ false → Among (x ∷ xs) c → Among xs c
      tail_of c n (inl q) = absurd (true≢false (sym ((exact x c).1 q) ∙ n))
      tail_of c n (inr m) = m

      go : (s : Bool) → same x a ≡ s → (t : Bool) → same x b ≡ t → cond s 0 (suc (place_in same xs a)) ≡ cond t 0 (suc (place_in same xs b)) → (Among xs a → Among xs b → place_in same xs a ≡ place_in same xs b → a ≡ b) → a ≡ b
      go true p true q e ih = sym ((exact x a).0 p) ∙ (exact x b).0 q
      go true p false q e ih = cc
      go false p true q e ih = cc
      go false p false q e ih = ih (tail_of a p h) (tail_of b q k) (cc)

  has_place : (list : List (Triple B)) (b : B) → Has (Among list) b → Among (distinct same (blanks list)) b
  has_place list b (t, m, h) = Among_distinct same exact (blanks list) b (Among_flat_map (λ t. blank_of_node t.subject ++ blank_of_term t.object) list t b m h)

  pub numbers_one_to_one : NumbersOneToOne same
  numbers_one_to_one list = record {
    to = place_in same (distinct same (blanks list));
    one_to_one = λ a b h k e. place_tells (distinct same (blanks list)) a b (has_place list a h) (has_place list b k) e;
    forth = λ t h. Among_map (rename (place_in same (distinct same (blanks list)))) list t h;
    back = λ u h. Among_of_map (rename (place_in same (distinct same (blanks list)))) list u h;
  }
