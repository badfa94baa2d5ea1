-- Faults that a character decides outside tags and document types are refused at it.
use Rattle.rx_pages.proofs.Words.{◌≡◌, ◌≢◌, ◌∙◌, ℕ, true, false, [], ◌∷◌, ◌++◌, None, refl, ap, eqb-true, ◌&&◌, ◌==◌, not, codes, cond-true, cond-false, or_from, or_parts, ampersand, semicolon, less_than_sign, greater_than_sign, is_white_space, Chars, both, untrue, by_test, and-false, Syntax, Html, Xhtml, is_body, is_begun, meaning, RunFault, unknown, bad, no_reference, ends_with, IsFirst, has_markup, has_references, keeps_runs, begins_markup, Content, Kind, Outside, StrictText, UnknownReference, BadReference, refused, told_of_reference, is_markup_sign, in_markup, verdict, CharactersGoOn, body_begun, name_body}
use Rattle.rx_grammar.specs.declared.contents.Content.TheVariants as content
use Rattle.rx_pages.proofs.Reading.{all_go, go_append, markup_is}
use Rattle.rx_pages.proofs.Texts.{run_goes, semicolon_stops}

-- All characters but the last go on, and the last one is refused.
pub record IsRefused (syntax : Syntax) (inside : Content) (found : Kind) (chars : Chars) : Type 0 where
  pub front : Chars
  pub c : ℕ
  pub are : chars ≡ front ++ c ∷ []
  pub go : CharactersGoOn syntax inside [] front
  pub refuses : verdict syntax inside front c ≡ refused found

module _ (s : Syntax) (i : Content) (references : has_references i ≡ true) where
  unmeant : (body : Chars) (kind : Kind) → is_body body ≡ true → meaning s body ≡ None → told_of_reference body None ≡ refused kind → IsRefused s i kind (ampersand ∷ (body ++ semicolon ∷ []))
  unmeant body kind b m e =
      record {
        front = 38 ∷ body;
        c = 59;
        are = refl;
        go = run_goes s i body references (body_begun s (meaning s) body b);
        refuses = cond-false _ _ _ (semicolon_stops body) ∙ (cond-true _ _ _ b ∙ (ap (told_of_reference body) m ∙ e));
      }

  -- in XHTML no run is kept
  pub refuses_run : (s ≡ Xhtml → keeps_runs i ≡ false) → (kind : Kind) (run : Chars) → RunFault s kind run → IsRefused s i kind (ampersand ∷ run)
  refuses_run strict _ _ (unknown name n m) = unmeant name UnknownReference (name_body name n) m (rw n refl)
  refuses_run strict _ _ (bad body b n m) = unmeant body BadReference b m (rw n refl)
  refuses_run strict _ _ (no_reference run c x b h) =
      let p = both (not (is_begun (run ++ c ∷ []))) _ h in
      record { front = 38 ∷ run; c = c; are = refl; go = run_goes s i run references b; refuses = cond-false _ _ _ (untrue _ p.0) ∙ (cond-false _ _ _ (untrue _ p.1) ∙ cond-false _ _ _ (strict x)) }

other_than : (c d : ℕ) → c ≢ d → (c == d) ≡ false
other_than c d n = by_test {G = (c == d) ≡ false} (c == d) (λ e. absurd (n (eqb-true c d e))) (λ e. e)

-- `--` in a comment of XHTML
pub refuses_comment : (i : Content) → has_markup i ≡ true → (text : Chars) (c : ℕ) → IsFirst (ends_with (codes "--")) text → c ≢ greater_than_sign → IsRefused Xhtml i StrictText (less_than_sign ∷ (codes "!--" ++ (text ++ c ∷ [])))
refuses_comment i markup text c f n =
    record {
      front = codes "<!--" ++ text;
      c = c;
      are = refl;
      go = go_append Xhtml i [] (codes "<!--") text (refl, (at [] 33, (at (33 ∷ []) 45, (at (33 ∷ 45 ∷ []) 45, tt))))
          (all_go Xhtml i (codes "<!--") text (λ a d more e. at (33 ∷ 45 ∷ 45 ∷ a) d ∙ cond-false _ _ _ (f.first a (d ∷ more) e (λ h. cc))));
      refuses = at (33 ∷ 45 ∷ 45 ∷ text) c ∙ (cond-true _ _ _ f.whole ∙ cond-false _ _ _ (other_than c 62 n));
    }
  where
    at : (text : Chars) (c : ℕ) → verdict Xhtml i (60 ∷ text) c ≡ in_markup Xhtml i text c
    at text c = markup_is Xhtml i text c markup

-- outside the root
pub refuses_text : (s : Syntax) (c : ℕ) → is_white_space c ≡ false → c ≢ less_than_sign → IsRefused s content.Outside Outside (c ∷ [])
refuses_text s c w n =
    record { front = []; c = c; are = refl; go = tt; refuses = cond-false _ _ _ (or_from (c == 60) (c == 38 && false) (other_than c 60 n) (and-false (c == 38))) ∙ cond-false _ _ _ w }

pub refuses_less_than : (c : ℕ) → begins_markup c ≡ false → IsRefused Html content.Outside Outside (less_than_sign ∷ c ∷ [])
refuses_less_than c h =
    record { front = 60 ∷ []; c = c; are = refl; go = (refl, tt); refuses = cond-false _ _ _ no_mark ∙ cond-true _ _ _ (ap not h) }
  where
    no_mark : is_markup_sign c ≡ false
    no_mark =
        let a = or_parts _ (c == 63) h in
        let b = or_parts _ (c == 33) a.0 in
        or_from (c == 33) (c == 63) b.1 a.1

pub refuses_section : IsRefused Xhtml content.Outside Outside (codes "<![CDATA[")
refuses_section = record { front = codes "<![CDATA"; c = 91; are = refl; go = (refl, (refl, (refl, (refl, (refl, (refl, (refl, (refl, tt)))))))); refuses = refl }
