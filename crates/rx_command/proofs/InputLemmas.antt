-- From what was read of the files that a job names to what they are.
use Rattle.std.proofs.lemmas.Result.{IfOk-weaker}
use Rattle.std.specs.Prelude.{IsErrOf}
use Rattle.rx_command.proofs.Common.{⊎_elim, nat_eq, ◌≡◌, ◌∙◌, ◌+◌, ◌≤◌, ◌<◌, ◌⊎◌, inl, inr, ℕ, true, false, List, [], ◌++◌, length, sym, ap, subst, refl, arith, Option, Some, None, Result, Ok, Err, IfOk, encode_utf8_all, length-append, append-nil, nat_le, ◌&&◌, is_some, nat_tests, Rose, file_of, ShelfContent, WhereKnown, Lacks, moves_same, moves_at, moves_then, Syntax, Fault, copied, numbered, Context, Asked, Task, Extraction, extracts, itemizes, checks, Way, largest_piece, page_limit, ReadsWhole, FindsFault, ReadsClean, IsClean, PageFails, HasFirst, GivesList, GivesRight, refuses_so, refuses_first, ReadsFile, TakesOf, size_of, IsContextFile, ContextHolds, HasContext, TakesContext, ReadsContext, context_size, PageText, PageRefused, JobText, JobRefused, TellsThat, WhereTold, IsRight, way_in, IsLacking, ReadsAtMost, as_read, ok_line, TakesFiles, StopsCleanly, Chars, Tree, Itemization, JsonText, HasItems, PageHasItems}
use Rattle.rx_model.proofs.Common.{by_test, triples_seen}
use Rattle.rx_names.specs.ContextFiles.{context_of}
use Rattle.rx_terms.specs.declared.triples.Triple.{Triple as CodeTriple}
use Rattle.rx_rdfa.specs.Standard.{standard}
use Rattle.rx_command.specs.declared.errors.InputError.{InputError}
use Rattle.rx_command.proofs.ReadLemmas.{unread_clean}
use Rattle.rx_page.specs.Contexts.{largest_context, is_context}
use Rattle.rx_page.proofs.ContextLemmas.{short, too_long}
use Rattle.rx_page.specs.Forms.{form_in, IsFormText, FormDenotes}
use Rattle.rx_page.specs.Written.{output_text, Denoted}
use Rattle.rx_page.specs.declared.forms.Form.{Form}
use Rattle.rx_page.specs.declared.outcomes.Outcome.{Outcome, Outcome as Found}
use Rattle.rx_page.proofs.MadeLemmas.{text_made}
use Rattle.rx_items.proofs.Common.{Refused, outcome, standard_bounds}
use Rattle.rx_items.specs.declared.kept.Kept.{Kept}
use Rattle.rx_page.specs.JsonTexts.{AreItems}
use Rattle.rx_page.proofs.ItemLemmas.{item_of_items}
use Rattle.rx_command.specs.declared.errors.InputError.TheVariants as error
use Rattle.rx_page.specs.declared.outcomes.Outcome.TheVariants as found

-- ---- the context file

fits : (n : ℕ) → nat_le n largest_context ≡ true → n ≤ largest_context
fits n e = grind (arith, nat_tests)

over : (n : ℕ) → nat_le n largest_context ≡ false → largest_context < n
over n e = grind (arith, nat_tests)

-- bytes that are no context, of a file that was read to its end, or past the largest
none_is : (bytes left : List ℕ) → (length bytes ≤ largest_context → left ≡ []) → is_context bytes ≡ false → is_context (bytes ++ left) ≡ false
none_is bytes left whole none =
    by_test (nat_le (length bytes) largest_context) (λ small. ap is_context (ap (λ l. bytes ++ l) (whole (fits (length bytes) small)) ∙ append-nil bytes) ∙ none)
    (λ past.
    let more : largest_context < length bytes = over (length bytes) past in
    too_long (bytes ++ left) (omega (arith, more, length-append bytes left)))

pub was_none : (told now : Option ShelfContent) (file name bytes : List ℕ) → name ≡ encode_utf8_all file → WhereKnown (ReadsFile name largest_context bytes) told now
    → is_context bytes ≡ false → WhereTold (IsContextFile file false) told
was_none None now file name bytes named m none = tt
was_none (Some t) now file name bytes named m none =
    let r = moves_at t m refl in
    record {
      bytes = bytes ++ (r.0).left;
      file = ap (file_of t.files) (sym named) ∙ (r.1).read.file;
      tested = none_is bytes (r.0).left (r.1).whole none;
    }

pub takes_context : (file name : List ℕ) → name ≡ encode_utf8_all file → (x y : ShelfContent) → TakesOf name (largest_context + 1) x y → TakesContext (Some file) x y
takes_context file name named x y t =
    let size : size_of (file_of x.files name) ≡ size_of (file_of x.files (encode_utf8_all file)) = ap (λ n. size_of (file_of x.files n)) named in
    record { files = t.files; size = omega (arith, t.file, size); most = t.most; starts = t.starts }

pub was_context : (told now : Option ShelfContent) (file name bytes : List ℕ) (context : Context) → name ≡ encode_utf8_all file → WhereKnown (ReadsFile name largest_context bytes) told now
    → WhereKnown (TakesContext (Some file)) told now → length bytes ≤ largest_context → context_of bytes ≡ Some context → WhereKnown (ReadsContext (Some file) context) told now
was_context told now file name bytes context named m t small e = record {
  same = m.same;
  taken = λ x y p q.
      let r = m.taken x y p q in
      record {
        is = record { bytes = bytes; file = ap (file_of x.files) (sym named) ∙ (r.read.file ∙ ap Some (ap (λ l. bytes ++ l) (r.whole small) ∙ append-nil bytes)); small = small; reads = e };
        takes = t.taken x y p q;
        starts = r.read.starts;
      };
}

pub if_context : {E : Type 0} (r : Result Context E) (told now : Option ShelfContent) (lent : Option (List ℕ)) (file : List ℕ) → lent ≡ Some file → IfOk r (λ context. WhereKnown (ReadsContext (Some file) context) told now)
    → IfOk r (λ context. WhereKnown (ReadsContext lent context) told now)
if_context (Ok context) told now lent file e m = subst (λ f. WhereKnown (ReadsContext f context) told now) (sym e) m
if_context (Err error) told now lent file e m = tt

-- one context holds
pub one_context : (file : Option (List ℕ)) (shelf : ShelfContent) (a b : Context) → ContextHolds file shelf a → ContextHolds file shelf b → a ≡ b
one_context None shelf a b p q = p ∙ sym q
one_context (Some name) shelf a b p q =
    let both : Some p.bytes ≡ Some q.bytes = sym p.file ∙ q.file in
    let same : p.bytes ≡ q.bytes = (cc) in
    let reads : Some a ≡ Some b = sym p.reads ∙ (ap context_of same ∙ q.reads) in
    (cc)

-- a context that holds is there
pub has_context : (file : Option (List ℕ)) (shelf : ShelfContent) (context : Context) → ContextHolds file shelf context → HasContext file shelf
has_context None shelf context h = tt
has_context (Some name) shelf context h =
    record { bytes = h.bytes; file = h.file; tested = ap (λ b. b && is_some (context_of h.bytes)) (short (length h.bytes) h.small) ∙ ap is_some h.reads }

-- ---- refusals

-- no more was read than a piece past a first fault, whatever the task
reads_to : (task : Task) (fault : Fault) (before now : ℕ) → now ≤ before + (fault.at + largest_piece) → ReadsAtMost task fault before now
reads_to (itemizes i) fault before now l = λ k. l
reads_to _ fault before now l = l

reads_later : (task : Task) (fault : Fault) (a b now : ℕ) → a ≤ b → ReadsAtMost task fault a now → ReadsAtMost task fault b now
reads_later (itemizes i) fault a b now l r = λ k. let m : now ≤ a + (fault.at + largest_piece) = r k in omega (arith, l, m)
reads_later _ fault a b now l r = omega (arith, l, r)

-- ---- the page after it

pub takes_before : (asked : Asked) (file : Option (List ℕ)) → file ≡ asked.context → (x y : ShelfContent) → TakesContext file x y → TakesFiles (Some asked) x y
takes_before asked file e x y t =
    let m : TakesContext asked.context x y = subst (λ f. TakesContext f x y) e t in
    record { files = m.files; size = omega (arith, m.size); most = omega (arith, m.most); starts = omega (arith, m.starts) }

takes_both : (asked : Asked) (x y z : ShelfContent) → TakesContext asked.context x y → TakesOf (encode_utf8_all asked.page) page_limit y z → TakesFiles (Some asked) x z
takes_both asked x y z m p =
    let size : size_of (file_of y.files (encode_utf8_all asked.page)) ≡ size_of (file_of x.files (encode_utf8_all asked.page)) = ap (λ f. size_of (file_of f (encode_utf8_all asked.page))) m.files in
    record { files = p.files ∙ m.files; size = omega (arith, m.size, p.file, size); most = omega (arith, m.most, p.most); starts = omega (arith, m.starts, p.starts) }

there_before : (asked : Asked) (context : Context) (bytes : List ℕ) (x y : ShelfContent) → ReadsContext asked.context context x y → file_of y.files (encode_utf8_all asked.page) ≡ Some bytes → file_of x.files (encode_utf8_all asked.page) ≡ Some bytes
there_before asked context bytes x y c h = sym (ap (λ f. file_of f (encode_utf8_all asked.page)) c.takes.files) ∙ h

job_text : (asked : Asked) (context : Context) (outcome : Outcome) (x y z : ShelfContent) → ReadsContext asked.context context x y → PageText asked.task context (encode_utf8_all asked.page) outcome y z → JobText asked outcome x z
job_text asked context outcome x y z c p = record {
  context = context;
  holds = c.is;
  page = record { bytes = p.page.bytes; file = there_before asked context p.page.bytes x y c p.page.file; gives = p.page.gives; graph = p.page.graph; left = p.page.left };
  starts = omega (arith, c.starts, p.starts);
}

job_refused : (asked : Asked) (context : Context) (fault : Fault) (x y z : ShelfContent) → ReadsContext asked.context context x y → PageRefused asked.task context (encode_utf8_all asked.page) fault y z → JobRefused asked fault x z
job_refused asked context fault x y z c p = record {
  context = context;
  holds = c.is;
  bytes = p.bytes;
  file = there_before asked context p.bytes x y c p.file;
  refused = p.refused;
  reads = reads_later asked.task fault y.taken (x.taken + context_size asked.context x) z.taken c.takes.size p.reads;
}

-- ---- what a page is

pub page_right : (syntax : Syntax) (context : Context) (name named : List ℕ) (done : Unit {0}) → named ≡ name → (x y : ShelfContent) → ReadsWhole (GivesRight syntax context) named done x y → PageText (checks syntax) context name found.Right x y
page_right syntax context name named done e x y c =
    let right : IsRight syntax context c.bytes ok_line = record { tree = c.gives.tree; is = record { page = c.gives.page; accepted = c.gives.accepted }; spelled = refl } in
    record { page = record { bytes = c.bytes; file = sym (ap (λ n. file_of x.files n) e) ∙ c.file; gives = right; graph = λ read. right; left = c.left }; starts = c.starts }

pub page_text : (e : Extraction) (context : Context) (name named : List ℕ) (form : Form) (outcome : Outcome) (list : List CodeTriple) → named ≡ name → form ≡ form_in e.format e.graph context
    → IsFormText form (numbered nat_eq (copied nat_eq (triples_seen list))) (output_text outcome) → (Denoted outcome → FormDenotes form (output_text outcome) (as_read (numbered nat_eq (copied nat_eq (triples_seen list)))))
    → (x y : ShelfContent) → ReadsWhole (GivesList e.syntax context e.address) named list x y → PageText (extracts e) context name outcome x y
page_text e context name named form outcome list n f spelled denotes x y c =
    let made = text_made e context form outcome list c.bytes f spelled denotes c.gives in
    record { page = record { bytes = c.bytes; file = sym (ap (λ n. file_of x.files n) n) ∙ c.file; gives = made.0; graph = made.1; left = c.left }; starts = c.starts }

pub page_found : (task : Task) (way : Way) (context : Context) (name named : List ℕ) (fault : Fault) → named ≡ name → way ≡ way_in task context → (x y : ShelfContent) → FindsFault way named fault x y → PageRefused task context name fault x y
page_found task way context name named fault e w x y f =
    record { bytes = f.bytes; file = sym (ap (λ n. file_of x.files n) e) ∙ f.file; refused = refuses_first task context f.bytes fault (subst (λ (z : Way). HasFirst z f.bytes fault) w f.is); reads = reads_to task fault x.taken y.taken f.read }

-- why a page was not read
pub fails_refused : (way : Way) (name named : List ℕ) (e : InputError) (fault : Fault) (told now : Option ShelfContent) → named ≡ name → PageFails way named e told now → e ≡ error.Refused fault → WhereKnown (FindsFault way name fault) told now
fails_refused way name named e fault told now n g is = subst (λ x. WhereKnown (FindsFault way x fault) told now) n (subst (λ x. PageFails way named x told now) is g)

pub fails_clean : (way : Way) (name named : List ℕ) (e : InputError) (told now : Option ShelfContent) → named ≡ name → PageFails way named e told now → e ≡ error.Failed → WhereKnown (ReadsClean way name) told now
fails_clean way name named e told now n g is = subst (λ x. WhereKnown (ReadsClean way x) told now) n (subst (λ x. PageFails way named x told now) is g)

pub fails_no_context : (way : Way) (name : List ℕ) (e : InputError) (told now : Option ShelfContent) → PageFails way name e told now → e ≡ error.BadContext → ⊥
fails_no_context way name e told now g is = subst (λ x. PageFails way name x told now) is g

-- where no context file is named the standard context holds, and nothing is read
standard_holds : (x : ShelfContent) → ReadsContext None standard x x
standard_holds x = record { is = refl; takes = record { files = refl; size = omega arith; most = omega arith; starts = omega arith }; starts = omega arith }

pub standard_stays : (told : Option ShelfContent) → WhereKnown (ReadsContext None standard) told told
standard_stays told = moves_same (ReadsContext None standard) standard_holds told

pub rose_before : (a b c : ℕ) → a ≤ b → Rose b c → Rose a c
rose_before a b c low rose = omega (arith, low, rose)

lacks_page : (told mid : Option ShelfContent) (asked : Asked) (context : Context) → WhereKnown (ReadsContext asked.context context) told mid → Lacks mid (encode_utf8_all asked.page) → TellsThat (IsLacking asked) told
lacks_page told None asked context m l = absurd l
lacks_page None (Some y) asked context m l = let e = m.same in absurd (cc)
lacks_page (Some x) (Some y) asked context m l =
    let c = m.taken x y refl refl in
    inr (has_context asked.context x context c.is, sym (ap (λ f. file_of f (encode_utf8_all asked.page)) c.takes.files) ∙ l)

-- ---- where a read failed

-- the context file
pub context_stops : (asked : Asked) (file : Option (List ℕ)) → file ≡ asked.context → (x y : ShelfContent) → TakesContext file x y → StopsCleanly (Some asked) x y
context_stops asked file e x y t context holds bytes f =
    let m : TakesContext asked.context x y = subst (λ f. TakesContext f x y) e t in
    let c = unread_clean (way_in asked.task context) (refuses_so asked.task context) (encode_utf8_all asked.page) (record { files = x.files; left = x.left; taken = x.taken + context_size asked.context x; starts = x.starts }) y m.size bytes f in
    record { bytes = c.bytes; rest = c.rest; are = c.are; taken = c.taken; clean = c.clean }

-- the page
page_stops : (asked : Asked) (context : Context) (x y z : ShelfContent) → ReadsContext asked.context context x y → ReadsClean (way_in asked.task context) (encode_utf8_all asked.page) y z → StopsCleanly (Some asked) x z
page_stops asked context x y z c r other holds bytes f =
    let same : context ≡ other = one_context asked.context x context other c.is holds in
    let k = r bytes (ap (λ g. file_of g (encode_utf8_all asked.page)) c.takes.files ∙ f) in
    subst (λ q. IsClean (way_in asked.task q) bytes (x.taken + context_size asked.context x) z.taken) same
    (record { bytes = k.bytes; rest = k.rest; are = k.are; taken = omega (arith, k.taken, c.takes.size); clean = k.clean })

-- ---- what a call for the page of a job gives under a context, and so the call for the job

pub record PageDone (task : Task) (context : Context) (name : List ℕ) (r : Result Outcome InputError) (told now : Option ShelfContent) (before after : ℕ) : Type 0 where
  pub ok : IfOk r (λ outcome. WhereKnown (PageText task context name outcome) told now)
  pub refused : (fault : Fault) → r ≡ Err (error.Refused fault) → WhereKnown (PageRefused task context name fault) told now
  pub takes : WhereKnown (TakesOf name page_limit) told now
  pub failed : IsErrOf r error.Failed → Rose before after ⊎ Lacks told name
  pub cleanly : IsErrOf r error.Failed → WhereKnown (ReadsClean (way_in task context) name) told now

pub record JobDone (asked : Asked) (r : Result Outcome InputError) (told now : Option ShelfContent) (before after : ℕ) : Type 0 where
  pub ok : IfOk r (λ outcome. WhereKnown (JobText asked outcome) told now)
  pub refused : (fault : Fault) → r ≡ Err (error.Refused fault) → WhereKnown (JobRefused asked fault) told now
  pub takes : WhereKnown (TakesFiles (Some asked)) told now
  pub failed : IsErrOf r error.Failed → Rose before after ⊎ TellsThat (IsLacking asked) told
  pub cleanly : IsErrOf r error.Failed → WhereKnown (StopsCleanly (Some asked)) told now

pub job_done : (asked other : Asked) (file : Option (List ℕ)) (context : Context) (r : Result Outcome InputError) (told mid now : Option ShelfContent) (a b c : ℕ) → asked ≡ other → file ≡ asked.context
    → WhereKnown (ReadsContext file context) told mid → a ≤ b → PageDone other.task context (encode_utf8_all other.page) r mid now b c → JobDone asked r told now a c
job_done asked other file context r told mid now a b c is e reads low page =
    let m : WhereKnown (ReadsContext asked.context context) told mid = subst (λ f. WhereKnown (ReadsContext f context) told mid) e reads in
    let d : PageDone asked.task context (encode_utf8_all asked.page) r mid now b c = subst (λ (k : Asked). PageDone k.task context (encode_utf8_all k.page) r mid now b c) (sym is) page in
    record {
      ok = IfOk-weaker r (λ outcome. WhereKnown (PageText asked.task context (encode_utf8_all asked.page) outcome) mid now) (λ outcome. WhereKnown (JobText asked outcome) told now)
          (λ outcome p. moves_then (JobText asked outcome) (λ x y z k t. job_text asked context outcome x y z k t) m p) d.ok;
      refused = λ fault f. moves_then (JobRefused asked fault) (λ x y z k p. job_refused asked context fault x y z k p) m (d.refused fault f);
      takes = moves_then (TakesFiles (Some asked)) (λ x y z k p. takes_both asked x y z k.takes p) m d.takes;
      failed = λ f. ⊎_elim (λ rose. inl (rose_before a b c low rose)) (λ lacks. inr (lacks_page told mid asked context m lacks)) (d.failed f);
      cleanly = λ f. moves_then (StopsCleanly (Some asked)) (λ x y z k p. page_stops asked context x y z k p) m (d.cleanly f);
    }

-- ---- items of a page, from what was read of it to what it is

pub page_items : (i : Itemization) (context : Context) (name named : List ℕ) (kept : Kept) (outcome_is : Found) → named ≡ name → ((address : Chars) (tree : Tree) → AreItems address tree kept → JsonText address tree (output_text outcome_is))
    → (x y : ShelfContent) → ReadsWhole (PageHasItems i.syntax i.address) named kept x y → PageText (itemizes i) context name outcome_is x y
page_items i context name named kept outcome_is n json x y c =
    let has : HasItems i c.bytes (output_text outcome_is) = record { tree = c.gives.tree; page = c.gives.page; json = json i.address c.gives.tree c.gives.holds } in
    record { page = record { bytes = c.bytes; file = sym (ap (λ n. file_of x.files n) n) ∙ c.file; gives = has; graph = λ read. has; left = c.left }; starts = c.starts }

pub page_item_fault : (i : Itemization) (context : Context) (name named : List ℕ) (kept : Kept) (fault : Fault) → named ≡ name → ((address : Chars) (tree : Tree) → AreItems address tree kept → outcome standard_bounds address tree ≡ Refused fault)
    → (x y : ShelfContent) → ReadsWhole (PageHasItems i.syntax i.address) named kept x y → PageRefused (itemizes i) context name fault x y
page_item_fault i context name named kept fault n faulty x y c =
    let is : outcome standard_bounds i.address c.gives.tree ≡ Refused fault = faulty i.address c.gives.tree c.gives.holds in
    record {
      bytes = c.bytes;
      file = sym (ap (λ n. file_of x.files n) n) ∙ c.file;
      refused = inr (record { tree = c.gives.tree; page = c.gives.page; refused = is });
      reads = λ k. let differ : true ≡ false = sym (item_of_items i.address c.gives.tree fault is) ∙ k in absurd (cc);
    }
