-- The options at the front of words, one after another.
use Rattle.rx_terms.proofs.Common.{◌≡◌, ◌∙◌, ◌<◌, length, arith, true, false, Bool, List, [], ◌∷◌, ◌++◌, ap, refl, sym, subst, append_assoc, append-nil, Option, Some, None, is_some, ◌||◌, if◌then◌else◌, bytes_decides, Chars, by_test}
use Rattle.rx_job.specs.declared.options.Name.{Name}
use Rattle.rx_job.specs.declared.options.Name.TheVariants as name
use Rattle.rx_job.specs.Options.{NoOption, word_of, option_named, option_put, option_value, with_option, none_given}
use Rattle.rx_job.specs.Words.{Given, leading, words_behind, option_values, is_option, at_most_one, all_given, options_given, is_word, syntax_word, format_word, graph_word, context_word, base_word}

abbrev one_or_none : Option Chars → List Chars
one_or_none None = []
one_or_none (Some text) = text ∷ []

-- the words begin with options whose values these are, and these words are left
pub record Reads (words left : List Chars) (seen : Given) : Type 0 where
  before : List (Chars × Chars)
  leads : leading words ≡ before ++ leading left
  stays : words_behind words ≡ words_behind left
  each : (n : Name) → option_values (word_of n) before ≡ one_or_none (option_value n seen)

none_value : (n : Name) → [] ≡ one_or_none (option_value n none_given)
none_value name.Syntax = refl
none_value name.Format = refl
none_value name.Graph = refl
none_value name.Context = refl
none_value name.Base = refl

pub reads_all : (words : List Chars) → Reads words words none_given
reads_all words = record { before = []; leads = refl; stays = refl; each = none_value }

-- the option that a word names
abbrev chain : Bool → Bool → Bool → Bool → Bool → Option Name
chain a b d f g =
    if a then Some name.Syntax else if b then Some name.Format else if d then Some name.Graph else if f then Some name.Context else if g then Some name.Base else None

pub names_it : (word : Chars) (n : Name) → option_named word ≡ Some n → word ≡ word_of n
names_it word n e = by (is_word word syntax_word) refl (is_word word format_word) refl (is_word word graph_word) refl (is_word word context_word) refl (is_word word base_word) refl e
  where
    is : (m : Name) → is_word word (word_of m) ≡ true → ◌≡◌ {A = Option Name} (Some m) (Some n) → word ≡ word_of n
    is m t w = let same : m ≡ n = cc in (bytes_decides word (word_of m)).0 t ∙ ap word_of same

    by : (a : Bool) → is_word word syntax_word ≡ a → (b : Bool) → is_word word format_word ≡ b → (d : Bool) → is_word word graph_word ≡ d → (f : Bool) → is_word word context_word ≡ f → (g : Bool) → is_word word base_word ≡ g
        → chain a b d f g ≡ Some n → word ≡ word_of n
    by true t b q d r f s g u e = is name.Syntax t e
    by false p true t d r f s g u e = is name.Format t e
    by false p false q true t f s g u e = is name.Graph t e
    by false p false q false r true t g u e = is name.Context t e
    by false p false q false r false s true t e = is name.Base t e
    by false p false q false r false s false u e = absurd (cc)

names_none : (word : Chars) → option_named word ≡ None → is_option word ≡ false
names_none word e = by (is_word word syntax_word) (is_word word format_word) (is_word word graph_word) (is_word word context_word) (is_word word base_word) e
  where
    by : (a b d f g : Bool) → chain a b d f g ≡ None → (a || b || d || f || g) ≡ false
    by true b d f g e = absurd (cc)
    by false true d f g e = absurd (cc)
    by false false true f g e = absurd (cc)
    by false false false true g e = absurd (cc)
    by false false false false true e = absurd (cc)
    by false false false false false e = refl

-- words that begin with no option
pub no_pair : (words : List Chars) → length words < 2 → NoOption words
no_pair [] l = record { leads = refl; stays = refl }
no_pair (word ∷ []) l = record { leads = refl; stays = refl }
no_pair (word ∷ value ∷ rest) l = absurd (omega arith)

pub no_name : (words rest : List Chars) (word value : Chars) → words ≡ word ∷ (value ∷ rest) → option_named word ≡ None → NoOption words
no_name words rest word value e n =
    subst NoOption (sym e) (let none : is_option word ≡ false = names_none word n in record { leads = rw none refl; stays = rw none refl })

-- one more option
leads_with : (n : Name) (value : Chars) (rest : List Chars) → leading (word_of n ∷ (value ∷ rest)) ≡ (word_of n, value) ∷ leading rest
leads_with name.Syntax value rest = refl
leads_with name.Format value rest = refl
leads_with name.Graph value rest = refl
leads_with name.Context value rest = refl
leads_with name.Base value rest = refl

goes_behind : (n : Name) (value : Chars) (rest : List Chars) → words_behind (word_of n ∷ (value ∷ rest)) ≡ words_behind rest
goes_behind name.Syntax value rest = refl
goes_behind name.Format value rest = refl
goes_behind name.Graph value rest = refl
goes_behind name.Context value rest = refl
goes_behind name.Base value rest = refl

values_append : (n : Chars) (xs ys : List (Chars × Chars)) → option_values n (xs ++ ys) ≡ option_values n xs ++ option_values n ys
values_append n [] ys = refl
values_append n (x ∷ xs) ys = by_test (is_word x.0 n) (λ t. rw t (ap (λ v. x.1 ∷ v) (values_append n xs ys))) (λ t. rw t (values_append n xs ys))

-- what an option adds to the values of each
module _ (value : Chars) where
  one_added : (n m : Name) (seen : Given) → option_value n seen ≡ None → one_or_none (option_value m seen) ++ option_values (word_of m) ((word_of n, value) ∷ []) ≡ one_or_none (option_value m (with_option n value seen))
  one_added name.Syntax name.Syntax seen e = rw e refl
  one_added name.Syntax name.Format seen e = append-nil (one_or_none seen.format)
  one_added name.Syntax name.Graph seen e = append-nil (one_or_none seen.graph)
  one_added name.Syntax name.Context seen e = append-nil (one_or_none seen.context)
  one_added name.Syntax name.Base seen e = append-nil (one_or_none seen.base)
  one_added name.Format name.Syntax seen e = append-nil (one_or_none seen.syntax)
  one_added name.Format name.Format seen e = rw e refl
  one_added name.Format name.Graph seen e = append-nil (one_or_none seen.graph)
  one_added name.Format name.Context seen e = append-nil (one_or_none seen.context)
  one_added name.Format name.Base seen e = append-nil (one_or_none seen.base)
  one_added name.Graph name.Syntax seen e = append-nil (one_or_none seen.syntax)
  one_added name.Graph name.Format seen e = append-nil (one_or_none seen.format)
  one_added name.Graph name.Graph seen e = rw e refl
  one_added name.Graph name.Context seen e = append-nil (one_or_none seen.context)
  one_added name.Graph name.Base seen e = append-nil (one_or_none seen.base)
  one_added name.Context name.Syntax seen e = append-nil (one_or_none seen.syntax)
  one_added name.Context name.Format seen e = append-nil (one_or_none seen.format)
  one_added name.Context name.Graph seen e = append-nil (one_or_none seen.graph)
  one_added name.Context name.Context seen e = rw e refl
  one_added name.Context name.Base seen e = append-nil (one_or_none seen.base)
  one_added name.Base name.Syntax seen e = append-nil (one_or_none seen.syntax)
  one_added name.Base name.Format seen e = append-nil (one_or_none seen.format)
  one_added name.Base name.Graph seen e = append-nil (one_or_none seen.graph)
  one_added name.Base name.Context seen e = append-nil (one_or_none seen.context)
  one_added name.Base name.Base seen e = rw e refl

not_given : (o : Option Chars) → is_some o ≡ false → o ≡ None
not_given None e = refl
not_given (Some x) e = absurd (cc)

reads_on : (words left rest : List Chars) (seen : Given) (n : Name) (value : Chars) → Reads words left seen → left ≡ word_of n ∷ (value ∷ rest) → is_some (option_value n seen) ≡ false → Reads words rest (with_option n value seen)
reads_on words left rest seen n value r e free =
    record {
      before = r.before ++ (word_of n, value) ∷ [];
      leads = r.leads ∙ (ap (λ l. r.before ++ leading l) e ∙ (ap (λ options. r.before ++ options) (leads_with n value rest) ∙ sym (append_assoc r.before ((word_of n, value) ∷ []) (leading rest))));
      stays = r.stays ∙ (ap words_behind e ∙ goes_behind n value rest);
      each = λ m. values_append (word_of m) r.before ((word_of n, value) ∷ []) ∙ (ap (λ v. v ++ option_values (word_of m) ((word_of n, value) ∷ [])) (r.each m) ∙ one_added value n m seen (not_given (option_value n seen) free));
    }

-- an option that comes twice
none_if : (n : Name) (options : List (Chars × Chars)) → at_most_one (option_values (word_of n) options) ≡ None → options_given options ≡ None
none_if n options e = by n e (at_most_one (option_values syntax_word options)) refl (at_most_one (option_values format_word options)) refl (at_most_one (option_values graph_word options)) refl (at_most_one (option_values context_word options)) refl (at_most_one (option_values base_word options)) refl
  where
    by : (n : Name) → at_most_one (option_values (word_of n) options) ≡ None
        → (s : Option (Option Chars)) → at_most_one (option_values syntax_word options) ≡ s → (f : Option (Option Chars)) → at_most_one (option_values format_word options) ≡ f → (g : Option (Option Chars)) → at_most_one (option_values graph_word options) ≡ g
        → (c : Option (Option Chars)) → at_most_one (option_values context_word options) ≡ c → (b : Option (Option Chars)) → at_most_one (option_values base_word options) ≡ b → all_given s f g c b ≡ None
    by n e None i f j g k c l b m = refl
    by n e (Some s) i None j g k c l b m = refl
    by n e (Some s) i (Some f) j None k c l b m = refl
    by n e (Some s) i (Some f) j (Some g) k None l b m = refl
    by n e (Some s) i (Some f) j (Some g) k (Some c) l None m = refl
    by name.Syntax e (Some s) i (Some f) j (Some g) k (Some c) l (Some b) m = absurd (let w : None ≡ Some s = sym e ∙ i in cc)
    by name.Format e (Some s) i (Some f) j (Some g) k (Some c) l (Some b) m = absurd (let w : None ≡ Some f = sym e ∙ j in cc)
    by name.Graph e (Some s) i (Some f) j (Some g) k (Some c) l (Some b) m = absurd (let w : None ≡ Some g = sym e ∙ k in cc)
    by name.Context e (Some s) i (Some f) j (Some g) k (Some c) l (Some b) m = absurd (let w : None ≡ Some c = sym e ∙ l in cc)
    by name.Base e (Some s) i (Some f) j (Some g) k (Some c) l (Some b) m = absurd (let w : None ≡ Some b = sym e ∙ m in cc)

two_values : (n : Name) (before after : List (Chars × Chars)) (old : Option Chars) (value : Chars) → option_values (word_of n) before ≡ one_or_none old → is_some old ≡ true → at_most_one (option_values (word_of n) (before ++ (word_of n, value) ∷ after)) ≡ None
two_values n before after None value e s = absurd (cc)
two_values n before after (Some old) value e s =
    ap at_most_one
    (values_append (word_of n) before ((word_of n, value) ∷ after) ∙ (ap (λ v. v ++ option_values (word_of n) ((word_of n, value) ∷ after)) e ∙ ap (λ v. old ∷ v) (one n)))
  where
    one : (n : Name) → option_values (word_of n) ((word_of n, value) ∷ after) ≡ value ∷ option_values (word_of n) after
    one name.Syntax = refl
    one name.Format = refl
    one name.Graph = refl
    one name.Context = refl
    one name.Base = refl

given_twice : (words left rest : List Chars) (seen : Given) (n : Name) (value : Chars) → Reads words left seen → left ≡ word_of n ∷ (value ∷ rest) → is_some (option_value n seen) ≡ true → options_given (leading words) ≡ None
given_twice words left rest seen n value r e s =
    none_if n (leading words)
    (ap (λ options. at_most_one (option_values (word_of n) options)) (r.leads ∙ (ap (λ l. r.before ++ leading l) e ∙ ap (λ options. r.before ++ options) (leads_with n value rest)))
    ∙ two_values n r.before (leading rest) (option_value n seen) value (r.each n) s)

-- an option and its value
pub puts : (words left rest : List Chars) (seen next : Given) (n : Name) (value : Chars) → Reads words left seen → left ≡ word_of n ∷ (value ∷ rest) → option_put n value seen ≡ Some next → Reads words rest next
puts words left rest seen next n value r e p = on (is_some (option_value n seen)) refl p
  where
    some_same : (a b : Given) → ◌≡◌ {A = Option Given} (Some a) (Some b) → a ≡ b
    some_same a b e = cc

    on : (t : Bool) → is_some (option_value n seen) ≡ t → (if t then None else Some (with_option n value seen)) ≡ Some next → Reads words rest next
    on true t w = absurd (cc)
    on false t w = subst (λ x. Reads words rest x) (some_same (with_option n value seen) next w) (reads_on words left rest seen n value r e t)

pub puts_none : (words left rest : List Chars) (seen : Given) (n : Name) (value : Chars) → Reads words left seen → left ≡ word_of n ∷ (value ∷ rest) → option_put n value seen ≡ None → options_given (leading words) ≡ None
puts_none words left rest seen n value r e p = on (is_some (option_value n seen)) refl p
  where
    on : (t : Bool) → is_some (option_value n seen) ≡ t → (if t then None else Some (with_option n value seen)) ≡ None → options_given (leading words) ≡ None
    on true t w = given_twice words left rest seen n value r e t
    on false t w = absurd (cc)

-- the end of the options
the_one : (value : Option Chars) → at_most_one (one_or_none value) ≡ Some value
the_one None = refl
the_one (Some value) = refl

pub all_read : (words left : List Chars) (seen : Given) → Reads words left seen → NoOption left
    → options_given (leading words) ≡ Some (record { syntax = seen.syntax; format = seen.format; graph = seen.graph; context = seen.context; base = seen.base })
all_read words left seen r none =
    ap options_given (r.leads ∙ (ap (λ options. r.before ++ options) none.leads ∙ append-nil r.before))
    ∙ rw (r.each name.Syntax, r.each name.Format, r.each name.Graph, r.each name.Context, r.each name.Base, the_one seen.syntax, the_one seen.format, the_one seen.graph, the_one seen.context, the_one seen.base) refl

pub all_behind : (words left : List Chars) (seen : Given) → Reads words left seen → NoOption left → words_behind words ≡ left
all_behind words left seen r none = r.stays ∙ none.stays
