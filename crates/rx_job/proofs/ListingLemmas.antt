-- Pages of words, pair by pair.
use Rattle.rx_terms.proofs.Common.{◌≡◌, ◌∙◌, ◌<◌, length, arith, true, false, List, [], ◌∷◌, ◌++◌, ap, refl, sym, append_assoc, append-nil, Option, Some, None, option_map, ◌&&◌, ◌==◌, option_and_then, list_all, and_from, nat_tests, list_all-append, Chars}
use Rattle.rx_chars.specs.declared.syntax.Syntax.{Syntax}
use Rattle.rx_job.specs.declared.errors.JobError.{JobError}
use Rattle.rx_job.specs.declared.errors.JobError.TheVariants as error
use Rattle.rx_job.specs.Jobs.{FailsPage, FailsPages}
use Rattle.rx_job.specs.Words.{Given, Listed, gathering, gathering_with, gathers, if_listed, is_file_if_any, leading, may_be_listed, options_given, pages_listed, paired, several, syntax_of, words_behind}

abbrev page_at : Chars → Chars → Listed
page_at address page = record { address = address; page = page }

-- these pages stand at the front of the words, and these words are left
pub record Lists (words left : List Chars) (pages : List Listed) : Type 0 where
  so : paired words ≡ option_map (λ more. pages ++ more) (paired left)
  each : list_all may_be_listed pages ≡ true

pub none_yet : (words : List Chars) → Lists words words []
none_yet words = record { so = by (paired words); each = refl }
  where
    by : (x : Option (List Listed)) → x ≡ option_map (λ more. [] ++ more) x
    by None = refl
    by (Some pages) = refl

module _ (words left rest : List Chars) (pages : List Listed) (address page : Chars) (l : Lists words left pages) (e : left ≡ address ∷ (page ∷ rest)) where
  goes_on : paired words ≡ option_map (λ more. pages ++ (page_at address page ∷ more)) (paired rest)
  goes_on = l.so ∙ (ap (λ x. option_map (λ more. pages ++ more) (paired x)) e ∙ by (paired rest))
    where
      by : (x : Option (List Listed)) → option_map (λ more. pages ++ more) (option_map (λ more. page_at address page ∷ more) x) ≡ option_map (λ more. pages ++ (page_at address page ∷ more)) x
      by None = refl
      by (Some more) = refl

  -- one more page
  pub one_more : may_be_listed (page_at address page) ≡ true → Lists words rest (pages ++ page_at address page ∷ [])
  one_more good =
      record {
        so = goes_on ∙ by (paired rest);
        each = list_all-append may_be_listed pages (page_at address page ∷ []) ∙ and_from _ _ l.each (and_from _ _ good refl);
      }
    where
      by : (x : Option (List Listed)) → option_map (λ more. pages ++ (page_at address page ∷ more)) x ≡ option_map (λ more. (pages ++ page_at address page ∷ []) ++ more) x
      by None = refl
      by (Some more) = ap Some (sym (append_assoc pages (page_at address page ∷ []) more))

  -- a page that isn't one
  pub not_listed : may_be_listed (page_at address page) ≡ false → pages_listed words ≡ None
  not_listed bad = ap (λ x. option_and_then if_listed x) goes_on ∙ by (paired rest)
    where
      none_all : (more : List Listed) → list_all may_be_listed (pages ++ (page_at address page ∷ more)) ≡ false
      none_all more = list_all-append may_be_listed pages (page_at address page ∷ more) ∙ (ap (λ b. b && list_all may_be_listed (page_at address page ∷ more)) l.each ∙ ap (λ b. b && list_all may_be_listed more) bad)

      by : (x : Option (List Listed)) → option_and_then if_listed (option_map (λ more. pages ++ (page_at address page ∷ more)) x) ≡ None
      by None = refl
      by (Some more) = rw (none_all more) refl

  pub fails : (why : JobError) → FailsPage (page_at address page) why → FailsPages words why
  fails error.Usage bad = not_listed bad
  fails error.NoMemory want = want

-- the end of the words
pub all_listed : (words left : List Chars) (pages : List Listed) → Lists words left pages → (length left == 0) ≡ true → pages_listed words ≡ Some pages
all_listed words [] pages l none = ap (λ x. option_and_then if_listed x) (l.so ∙ ap (λ p. Some p) (append-nil pages)) ∙ rw l.each refl
all_listed words (word ∷ left) pages l none = absurd (grind (arith, nat_tests))

pub one_left : (words left : List Chars) (pages : List Listed) → Lists words left pages → length left < 2 → (length left == 0) ≡ false → pages_listed words ≡ None
one_left words [] pages l short some = absurd (cc)
one_left words (word ∷ []) pages l short some = ap (λ x. option_and_then if_listed x) l.so
one_left words (word ∷ other ∷ left) pages l short some = absurd (omega arith)

-- a context file without a name
pub no_file : (words : List Chars) (options : Given) → options_given (leading words) ≡ Some options → is_file_if_any options.context ≡ false → option_map gathers (several words) ≡ None
no_file words options given none =
    ap (λ o. option_map gathers (option_and_then (gathering (words_behind words)) o)) given
    ∙ ap (λ o. option_map gathers o) (by (syntax_of options.syntax) options.format options.graph options.base (pages_listed (words_behind words)))
  where
    by : (s : Option Syntax) (f g b : Option Chars) (pages : Option (List Listed)) → gathering_with s f g b options.context pages ≡ None
    by None f g b pages = refl
    by (Some s) (Some f) g b pages = refl
    by (Some s) None (Some g) b pages = refl
    by (Some s) None None (Some b) pages = refl
    by (Some s) None None None None = refl
    by (Some s) None None None (Some pages) = rw none refl
