-- The table after some signs, and the base that is known then.
use Rattle.rx_items.proofs.Common.{◌≡◌, ℕ, suc, ◌-◌, Bool, true, false, cond, List, [], ◌∷◌, ◌++◌, map, length, refl, sym, ap, subst, ◌∙◌, Chars, arith, StartTag, Tree, end, element, text, Sign, signs_of, is_marked, tag_in, after, nothing_grown, MicrodataSetting, after_sign, told_all, BaseIs, BaseMoves, Collects}
use Rattle.std.proofs.lemmas.List.{length-append, length-take-le, append-nil, append_assoc}
use Rattle.rx_rdfa.specs.Tree.{ElementTag}
use Rattle.rx_terms.proofs.Bools.{by_test}
use Rattle.rx_nest.specs.Signs as sign
use Rattle.rx_base.specs.Lines.{line_of, line_on}
use Rattle.rx_base.specs.Seekings.{seek, sought, first_child}
use Rattle.rx_base.proofs.Lines.{seeks_append, said_seeks}
use Rattle.rx_items.specs.Growing.{Growing, innermost, text_gathered, element_ended, element_begun}
use Rattle.rx_items.specs.declared.collectors.Base.{Base}
use Rattle.rx_items.specs.declared.collectors.Collector.{Collector}
use Rattle.rx_items.specs.declared.rows.Open.{Open}
use Rattle.rx_items.proofs.SaidLemmas.{said_nothing, said_twice}

-- ---- text in pieces

nothing_more : (b : Bool) (chars : Chars) → cond b (chars ++ []) chars ≡ chars
nothing_more true chars = append-nil chars
nothing_more false chars = refl

more_text : (t : Bool) (chars a b : Chars) → cond t (cond t (chars ++ a) chars ++ b) (cond t (chars ++ a) chars) ≡ cond t (chars ++ (a ++ b)) chars
more_text true chars a b = append_assoc chars a b
more_text false chars a b = refl

said_none : (g : Growing) → text_gathered g [] ≡ g
said_none g = λ i. record g { text = nothing_more (innermost g.line).gathers g.text i; times = said_nothing (innermost g.line).own g.times i }

said_both : (g : Growing) (a b : Chars) → text_gathered (text_gathered g a) b ≡ text_gathered g (a ++ b)
said_both g a b = λ i. record g { text = more_text (innermost g.line).gathers g.text a b i; times = said_twice (innermost g.line).own a b g.times i }

pub told_said : (g : Growing) (chars : Chars) → told_all g (map sign.said chars) ≡ text_gathered g chars
told_said g [] = sym (said_none g)
told_said g (c ∷ chars) = told_said (text_gathered g (c ∷ [])) chars ∙ said_both g (c ∷ []) chars

-- ---- signs one after another, and those of a tree

pub told_append : (g : Growing) (xs ys : List Sign) → told_all g (xs ++ ys) ≡ told_all (told_all g xs) ys
told_append g [] ys = refl
told_append g (x ∷ xs) ys = told_append (after_sign g x) xs ys

pub told_tree : (g : Growing) (tree : Tree) → told_all g (signs_of tree) ≡ after g tree
told_tree g end = refl
told_tree g (text chars more) =
    told_append g (map sign.said chars) (signs_of more)
    ∙ ap (λ x. told_all x (signs_of more)) (told_said g chars)
    ∙ told_tree (text_gathered g chars) more
told_tree g (element t inner more) =
    told_append (element_begun g (tag_in t) t.token t.at) (signs_of inner) (sign.finished ∷ signs_of more)
    ∙ ap (λ x. told_all (element_ended x) (signs_of more)) (told_tree (element_begun g (tag_in t) t.token t.at) inner)
    ∙ told_tree (element_ended (after (element_begun g (tag_in t) t.token t.at) inner)) more

-- ---- how many elements are open

longer : (line : List Open) (o : Open) → length (line ++ (o ∷ [])) ≡ suc (length line)
longer line o = let e = length-append line (o ∷ []) in omega (arith, e)

begun_longer : (g : Growing) (t : StartTag) → length (element_begun g (tag_in t) t.token t.at).line ≡ suc (length g.line)
begun_longer g t = by_test (is_marked t.attributes) (λ e. rw e (longer g.line _)) (λ e. rw e (longer g.line _))

finished_shorter : (g : Growing) → length (element_ended g).line ≡ length g.line - 1
finished_shorter g = length-take-le (length g.line - 1) g.line (omega arith)

same_count : (g : Growing) (line : List ElementTag) (signs : List Sign) → length g.line ≡ length line → length (told_all g signs).line ≡ length (line_of line signs)
same_count g line [] e = e
same_count g line (sign.begun t ∷ signs) e = same_count (element_begun g (tag_in t) t.token t.at) (line_on line (sign.begun t)) signs (begun_longer g t ∙ ap suc e)
same_count g line (sign.said c ∷ signs) e = same_count (text_gathered g (c ∷ [])) line signs e
same_count g [] (sign.finished ∷ signs) e = same_count (element_ended g) [] signs (finished_shorter g ∙ (omega (arith, e)))
same_count g (t ∷ line) (sign.finished ∷ signs) e = same_count (element_ended g) line signs (finished_shorter g ∙ (omega (arith, e)))

pub open_count : (signs : List Sign) → length (told_all nothing_grown signs).line ≡ length (line_of [] signs)
open_count signs = same_count nothing_grown [] signs refl

-- ---- what is sought after one more sign

pub sought_next : (signs : List Sign) (next : Sign) → sought (signs ++ next ∷ []) ≡ seek (length (line_of [] signs)) (sought signs) next
sought_next signs next = seeks_append [] first_child signs (next ∷ [])

pub sought_said : (signs : List Sign) (chars : Chars) → sought (signs ++ map sign.said chars) ≡ sought signs
sought_said signs chars = seeks_append [] first_child signs (map sign.said chars) ∙ said_seeks (line_of [] signs) (sought signs) chars

-- ---- what a collector stands for

-- one sign more
pub collects_next : (setting : MicrodataSetting) (old new : Collector) (signs : List Sign) (next : Sign) (count : ℕ) → count ≡ length old.table.line
    → new.address ≡ old.address → new.table ≡ after_sign old.table next → BaseMoves old.address (λ seeking. seek count seeking next) old.base new.base
    → Collects setting old signs → Collects setting new (signs ++ next ∷ [])
collects_next setting old new signs next count counted address table base c =
    let lines : count ≡ length (line_of [] signs) = counted ∙ ap (λ (g : Growing). length g.line) c.table_is ∙ open_count signs in
    let moved : BaseIs old.address (seek count (sought signs) next) new.base = base (sought signs) (subst (λ a. BaseIs a (sought signs) old.base) (sym c.address_is) c.base_is) in
    let there : BaseIs setting.address (seek count (sought signs) next) new.base = subst (λ a. BaseIs a (seek count (sought signs) next) new.base) c.address_is moved in
    record {
      address_is = address ∙ c.address_is;
      table_is = table ∙ ap (λ (g : Growing). after_sign g next) c.table_is ∙ sym (told_append nothing_grown signs (next ∷ []));
      base_is = subst (λ s. BaseIs setting.address s new.base) (ap (λ n. seek n (sought signs) next) lines ∙ sym (sought_next signs next)) there;
    }

-- text
pub collects_said : (setting : MicrodataSetting) (old new : Collector) (signs : List Sign) (chars : Chars) → new.address ≡ old.address → new.base ≡ old.base → new.table ≡ text_gathered old.table chars
    → Collects setting old signs → Collects setting new (signs ++ map sign.said chars)
collects_said setting old new signs chars address base table c = record {
  address_is = address ∙ c.address_is;
  table_is =
      table ∙ ap (λ (g : Growing). text_gathered g chars) c.table_is ∙ sym (told_said (told_all nothing_grown signs) chars)
      ∙ sym (told_append nothing_grown signs (map sign.said chars));
  base_is = subst (λ (b : Base). BaseIs setting.address (sought (signs ++ map sign.said chars)) b) (sym base)
      (subst (λ s. BaseIs setting.address s old.base) (sym (sought_said signs chars)) c.base_is);
}
