-- From what was read of the files to what comes of the page.
use Rattle.rx_command.proofs.Common.{◌≡◌, ◌≢◌, ◌∙◌, ℕ, ◌⊎◌, ◌≤◌, inl, inr, List, [], ◌∷◌, sym, ap, subst, refl, Option, Some, None, true, false, encode_utf8_all, arith, option_and_then, codes, option_map, Rose, ShelfContent, WhereKnown, Stays, file_of, moves_same, moves_weaker, Fault, Asked, Gathering, Job, reads, gathers, samples, count_of, sampling, several, extraction, itemization, checking, arguments_given, is_word, most_items, job, page_in, page_asked, HasContext, HasWrongContext, LacksContext, IsLacking, JobLacks, JobText, JobRefused, TellsThat, SampleEnds, ReadCause, TakesFiles, TakesJob, TakesToFault, ReadsAll, reads_files}
use Rattle.rx_terms.proofs.Bools.{split}
use Rattle.rx_job.proofs.NumberLemmas.{few_counted}
use Rattle.rx_page.specs.Contexts.{is_context}
use Rattle.rx_command.proofs.GatheringLemmas.{context_taken}
use Rattle.rx_page.specs.declared.outcomes.Outcome.{Outcome}
use Rattle.rx_command.specs.declared.statuses.Status.{Status}
use Rattle.rx_command.specs.declared.statuses.Status.TheVariants as status

pub one_shelf : (told : Option ShelfContent) (x y : ShelfContent) → told ≡ Some x → told ≡ Some y → x ≡ y
one_shelf told x y e f = let both : Some x ≡ Some y = sym e ∙ f in (cc)

-- the job in which a page is asked for
job_of : (k : Option Job) (asked : Asked) → page_in k ≡ Some asked → k ≡ Some (reads asked)
job_of (Some (reads a)) asked p = let same : a ≡ asked = (cc) in ap (λ (z : Asked). Some (reads z)) same
job_of _ asked p = absurd (cc)

pub page_job : (words : List (List ℕ)) (asked : Asked) → page_asked words ≡ Some asked → job words ≡ Some (reads asked)
page_job words asked p = job_of (job words) asked p

-- ---- a sample

no_reading : (asked : Option Asked) (count : ℕ) → option_map reads asked ≡ Some (samples count) → ⊥
no_reading None count e = cc
no_reading (Some asked) count e = cc

no_gathering : (found : Option Gathering) (count : ℕ) → option_map gathers found ≡ Some (samples count) → ⊥
no_gathering None count e = cc
no_gathering (Some g) count e = cc

sampled : (number : Option ℕ) (count : ℕ) → option_map samples number ≡ Some (samples count) → number ≡ Some count
sampled None count e = absurd (cc)
sampled (Some n) count e = cc

few_sampled : (words : List (List ℕ)) (count : ℕ) → sampling words ≡ Some (samples count) → count ≤ most_items
few_sampled (word ∷ []) count e = few_counted word count (sampled (count_of word) count e)
few_sampled _ count e = absurd (cc)

abbrev IsFew : ℕ → Option Job → Type 0
IsFew count found = ◌≡◌ {A = Option Job} found (Some (samples count)) → count ≤ most_items

-- a sample that is asked for has no more items than any may have
pub few_asked : (words : List (List ℕ)) (count : ℕ) → job words ≡ Some (samples count) → count ≤ most_items
few_asked [] count e = absurd (cc)
few_asked (task ∷ words) count e =
    split (IsFew count) (is_word task (codes "sample")) (sampling words) _ (λ t k. few_sampled words count k)
    (λ f. split (IsFew count) (is_word task (codes "many")) (option_map gathers (several words)) _ (λ t k. absurd (no_gathering (several words) count k))
    (λ f. split (IsFew count) (is_word task (codes "extract")) (option_map reads (option_and_then extraction (arguments_given words))) _ (λ t k. absurd (no_reading (option_and_then extraction (arguments_given words)) count k))
    (λ f. split (IsFew count) (is_word task (codes "items")) (option_map reads (option_and_then itemization (arguments_given words))) _ (λ t k. absurd (no_reading (option_and_then itemization (arguments_given words)) count k))
    (λ f. split (IsFew count) (is_word task (codes "check")) (option_map reads (option_and_then checking (arguments_given words))) None (λ t k. absurd (no_reading (option_and_then checking (arguments_given words)) count k)) (λ f k. absurd (cc))))))
    e

pub sample_nothing : (count : ℕ) (s : Status) (old new : Option (List ℕ)) (before now : ℕ) → SampleEnds count s old new before now → s ≢ status.Done → s ≢ status.WriteFault → WhereKnown Stays old new
sample_nothing count status.Done old new before now e d w = absurd (d refl)
sample_nothing count status.WriteFault old new before now e d w = absurd (w refl)
sample_nothing count status.Memory old new before now e d w = e
sample_nothing count _ old new before now e d w = absurd e

-- a file isn't there and missing
pub there : (file : Option (List ℕ)) (bytes : List ℕ) → file ≡ Some bytes → file ≡ None → ⊥
there file bytes e f = let g : None ≡ Some bytes = sym f ∙ e in absurd (cc)

-- a context file is one of a context, one of another shape, or missing
pub not_other : (file : Option (List ℕ)) (shelf : ShelfContent) → HasContext file shelf → HasWrongContext file shelf → ⊥
not_other None shelf h o = o
not_other (Some name) shelf h o =
    let both : Some h.bytes ≡ Some o.bytes = sym h.file ∙ o.file in
    let same : h.bytes ≡ o.bytes = (cc) in
    let differ : true ≡ false = sym h.tested ∙ ap is_context same ∙ o.tested in
    absurd (cc)

pub not_missing : (file : Option (List ℕ)) (shelf : ShelfContent) → HasContext file shelf → LacksContext file shelf → ⊥
not_missing None shelf h l = l
not_missing (Some name) shelf h l = there _ h.bytes h.file l

pub not_lack : (asked : Asked) (bytes : List ℕ) (x : ShelfContent) → HasContext asked.context x → file_of x.files (encode_utf8_all asked.page) ≡ Some bytes → IsLacking asked x → ⊥
not_lack asked bytes x c f (inl l) = not_missing asked.context x c l
not_lack asked bytes x c f (inr l) = there _ bytes f l.1

pub read_cause : (words : List (List ℕ)) (told : Option ShelfContent) (k : Option Job) (before now : ℕ) → job words ≡ k → reads_files k ≡ true → Rose before now ⊎ TellsThat (JobLacks k) told → ReadCause words told before now
read_cause words told k before now j asks (inl rose) = record { asks = ap reads_files j ∙ asks; cause = inl rose }
read_cause words None k before now j asks (inr lacks) = absurd lacks
read_cause words (Some t) k before now j asks (inr lacks) = record { asks = ap reads_files j ∙ asks; cause = inr (record { shelf = t; tells = refl; holds = subst (λ z. JobLacks z t) (sym j) lacks }) }

-- ---- how much was taken

pub reads_all : (words : List (List ℕ)) (asked : Asked) (found : Outcome) (told now : Option ShelfContent) → job words ≡ Some (reads asked) → WhereKnown (JobText asked found) told now → WhereKnown (ReadsAll (job words)) told now
reads_all words asked text told now a m =
    subst (λ k. WhereKnown (ReadsAll k) told now) (sym a) (moves_weaker (ReadsAll (Some (reads asked))) (λ x y j. record { starts = j.starts; left = j.page.left }) m)

-- a sample reads no file
pub sample_reads_all : (words : List (List ℕ)) (count : ℕ) (told : Option ShelfContent) → job words ≡ Some (samples count) → WhereKnown (ReadsAll (job words)) told told
sample_reads_all words count told j = subst (λ k. WhereKnown (ReadsAll k) told told) (sym j) (moves_same (ReadsAll (Some (samples count))) (λ x. record { starts = omega arith; left = tt }) told)

pub to_fault : (words : List (List ℕ)) (asked : Asked) (fault same : Fault) (old new : Option ShelfContent) → job words ≡ Some (reads asked) → fault ≡ same → WhereKnown (JobRefused asked fault) old new → WhereKnown (TakesToFault (page_asked words) same) old new
to_fault words asked fault same old new a e m =
    subst (λ k. WhereKnown (TakesToFault (page_in k) same) old new) (sym a) (subst (λ f. WhereKnown (TakesToFault (Some asked) f) old new) e (moves_weaker (TakesToFault (Some asked) fault) (λ x y j. j.reads) m))

no_file_taken : (asked : Option Asked) (x : ShelfContent) → TakesFiles asked x x
no_file_taken asked x = record { files = refl; size = omega arith; most = omega arith; starts = omega arith }

none_taken : (k : Option Job) (x : ShelfContent) → TakesJob k x x
none_taken (Some (reads asked)) x = no_file_taken (Some asked) x
none_taken (Some (gathers g)) x = context_taken g x x (record { files = refl; size = omega arith; most = omega arith; starts = omega arith })
none_taken _ x = no_file_taken None x

-- nothing was read
pub took_nothing : (words : List (List ℕ)) (told : Option ShelfContent) → WhereKnown (TakesJob (job words)) told told
took_nothing words told = moves_same (TakesJob (job words)) (λ x. none_taken (job words) x) told
