-- Which characters belong to no two classes.
use Rattle.rx_grammar.proofs.Common.{◌≡◌, ℕ, Bool, true, false, eqb-true, refl, sym, inl, inr, subst, ◌||◌, ◌==◌, not, is_white_space, solidus, equals_sign, greater_than_sign, either, not_both_ways, Syntax, Html, Xhtml, ends_name, begins_attribute, continues_attribute, is_tag_char, is_strict_char, is_strict_start, is_attribute_char}

-- what holds of the five holds of white space
pub of_white : (P : ℕ → Type 0) (c : ℕ) → is_white_space c ≡ true → P 9 → P 10 → P 12 → P 13 → P 32 → P c
of_white P c h p9 p10 p12 p13 p32 =
    elim (either (c == 9 || c == 10 || c == 12 || c == 13) (c == 32) h) [
      | inr e ↦ subst P (sym (eqb-true c 32 e)) p32
      | inl h ↦ elim (either (c == 9 || c == 10 || c == 12) (c == 13) h) [
        | inr e ↦ subst P (sym (eqb-true c 13 e)) p13
        | inl h ↦ elim (either (c == 9 || c == 10) (c == 12) h) [
          | inr e ↦ subst P (sym (eqb-true c 12 e)) p12
          | inl h ↦ elim (either (c == 9) (c == 10) h) [
            | inr e ↦ subst P (sym (eqb-true c 10 e)) p10
            | inl e ↦ subst P (sym (eqb-true c 9 e)) p9
          ]
        ]
      ]
    ]

pub of_one : (P : ℕ → Type 0) (c d : ℕ) → (c == d) ≡ true → P d → P c
of_one P c d h p = subst P (sym (eqb-true c d h)) p

-- and what stands between attributes, or ends a name
pub of_between : (P : ℕ → Type 0) (c : ℕ) → (is_white_space c || c == solidus) ≡ true → P 9 → P 10 → P 12 → P 13 → P 32 → P solidus → P c
of_between P c h p9 p10 p12 p13 p32 p47 = elim (either (is_white_space c) (c == solidus) h) [ inr e ↦ of_one P c solidus e p47 | inl e ↦ of_white P c e p9 p10 p12 p13 p32 ]

pub of_end : (P : ℕ → Type 0) (c : ℕ) → ends_name c ≡ true → P 9 → P 10 → P 12 → P 13 → P 32 → P solidus → P greater_than_sign → P c
of_end P c h p9 p10 p12 p13 p32 p47 p62 = elim (either (is_white_space c || c == solidus) _ h) [ inr e ↦ of_one P c greater_than_sign e p62 | inl e ↦ of_between P c e p9 p10 p12 p13 p32 p47 ]

-- a test that fails at white space, at `=`, at `/` and at `>`
pub record Apart (c : ℕ) : Type 0 where
  pub white : is_white_space c ≡ false
  pub equals : (c == equals_sign) ≡ false
  pub slash : (c == solidus) ≡ false
  pub greater : (c == greater_than_sign) ≡ false

pub unless : (test : ℕ → Bool) (c : ℕ) (b : Bool) → test c ≡ true → (b ≡ true → test c ≡ false) → b ≡ false
unless test c true h k = absurd (not_both_ways (test c) h (k refl))
unless test c false h k = refl

apart_by : (test : ℕ → Bool) (c : ℕ) → test c ≡ true → test 9 ≡ false → test 10 ≡ false → test 12 ≡ false → test 13 ≡ false → test 32 ≡ false → test 61 ≡ false → test 47 ≡ false → test 62 ≡ false → Apart c
apart_by test c h p9 p10 p12 p13 p32 p61 p47 p62 =
    let P : ℕ → Type 0 = λ x. test x ≡ false in
    record {
      white = unless test c (is_white_space c) h (λ e. of_white P c e p9 p10 p12 p13 p32);
      equals = unless test c (c == equals_sign) h (λ e. of_one P c 61 e p61);
      slash = unless test c (c == solidus) h (λ e. of_one P c 47 e p47);
      greater = unless test c (c == greater_than_sign) h (λ e. of_one P c 62 e p62);
    }

pub begins_apart : (s : Syntax) (c : ℕ) → begins_attribute s c ≡ true → Apart c
begins_apart Html c h = apart_by is_attribute_char c h refl refl refl refl refl refl refl refl
begins_apart Xhtml c h = apart_by is_strict_start c h refl refl refl refl refl refl refl refl

pub continues_apart : (s : Syntax) (c : ℕ) → continues_attribute s c ≡ true → Apart c
continues_apart Html c h = apart_by is_attribute_char c h refl refl refl refl refl refl refl refl
continues_apart Xhtml c h = apart_by is_strict_char c h refl refl refl refl refl refl refl refl

-- the characters of a tag's name end none
pub record Named (c : ℕ) : Type 0 where
  pub white : is_white_space c ≡ false
  pub slash : (c == solidus) ≡ false
  pub greater : (c == greater_than_sign) ≡ false

named_by : (test : ℕ → Bool) (c : ℕ) → test c ≡ true → test 9 ≡ false → test 10 ≡ false → test 12 ≡ false → test 13 ≡ false → test 32 ≡ false → test 47 ≡ false → test 62 ≡ false → Named c
named_by test c h p9 p10 p12 p13 p32 p47 p62 =
    let P : ℕ → Type 0 = λ x. test x ≡ false in
    record {
      white = unless test c (is_white_space c) h (λ e. of_white P c e p9 p10 p12 p13 p32);
      slash = unless test c (c == solidus) h (λ e. of_one P c 47 e p47);
      greater = unless test c (c == greater_than_sign) h (λ e. of_one P c 62 e p62);
    }

pub tag_char_named : (s : Syntax) (c : ℕ) → is_tag_char s c ≡ true → Named c
tag_char_named Html c h = named_by (λ x. not (ends_name x)) c h refl refl refl refl refl refl refl
tag_char_named Xhtml c h = named_by is_strict_char c h refl refl refl refl refl refl refl
