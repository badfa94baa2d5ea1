-- Each worked row by its rule.
use Rattle.rx_command.proofs.Common.{◌≡◌, ℕ, ◌≤◌, inl, inr, List, [], ◌∷◌, refl, subst, Some, None, Err, codes, Html, Fault, page_read, page_ended, finds_only_faults, refusal_laws, standard_limits, rdfa_way, HasFirst, end_first, the_fault, Asked, extracts, checks, most_items, IsRight, the_text, sample_page, nothing_asked, of_page, of_fault, no_file, no_context, no_file_of_several, refused_line, RowsAreAnswered, Row, file, small_page, small_text, check_words, extract_words, many_words, sym, ap, arith, encode_utf8_all, Tree, reads_only_pages, Iri, Literal, Plain, Triple, spo, written, Gathering, Itemization, itemizes, base_in, facts_in, HasItems, JsonText, no_bytes_read, GivesTriples, JudgesEach, IsGathered, DenotesGathered, of_pages, shelf_with, item_page, item_text, item_words, many_files, many_text}
use Rattle.std.specs.Fmt.{digits}
use lib.Utf8.{encode}
use Rattle.std.specs.Str.{is_utf8, chars}
use Rattle.json.specs.Json.{value}
use Rattle.json.specs.Lex.{lex, punctuate}
use Rattle.rx_grammar.specs.declared.faults.Kind.TheVariants.{Unended, Mismatch, RelativeVocab}
use Rattle.rx_page.specs.Readers.{IsReadPage}
use Rattle.rx_job.specs.declared.formats.Format.TheVariants.{Nquads}
use Rattle.rx_command.proofs.SampleTokens.{samples_are_pages}
use Rattle.rx_command.proofs.WorkedPages.{sample_row, read_to, small_is, extraction, small_has, small_denotes, mismatched, mismatch_first, relative, relative_first, first_tree, small_tree, iri_writable}
use Rattle.rx_items.proofs.Common.{Data, null, Outcome, Given, Refused, outcome, standard_bounds}
use Rattle.rx_jsonld.proofs.Common.{Among, WritableTriple}
use Rattle.json.specs.Print.{escape_byte}
use Rattle.rx_pages.specs.Nesting.{told_trees}
use Rattle.rx_refs.specs.Parts.{components_of}
use Rattle.rx_refs.specs.Dots.{step, without_dots}
use Rattle.rx_refs.specs.Resolve.{target, resolved}
use Rattle.rx_rdfa.specs.Resources.{resources}
use Rattle.rx_rdfa.specs.Inherited.{below}
use Rattle.rx_rdfa.specs.Times.{time_kind}
use Rattle.rx_rdfa.specs.Element.{start_of, end_of as element_end}
use Rattle.rx_rdfa.specs.Lists.{entries_at, cells}
use Rattle.rx_many.specs.Lines.{QuadLine, comment, statement, lines_from, numbered_lines, distinct_lines}
use Rattle.rx_many.specs.Pages.{JudgedPage, refused_page, accepted_page}
use Rattle.rx_many.specs.Standing.{WritableLine, SpellsLines}
use Rattle.rx_many.specs.Writing.{pages_document}
use Rattle.rx_many.proofs.DatasetLemmas.{denotes_pages}
use Rattle.rx_command.proofs.GatheringLemmas.{judged_graphs}
use Rattle.rx_rdfa.specs.Standard as names
use Rattle.rx_command.specs.declared.statuses.Status.TheVariants as status

-- ---- two pages

abbrev pub two_pages : Gathering
two_pages = record {
  syntax = Html;
  context = None;
  pages = record { address = codes "http://a.example/"; page = codes "page.html" } ∷ record { address = codes "http://b.example/"; page = codes "other.html" } ∷ [];
}

abbrev a_triple : Triple ℕ
a_triple = spo (Iri (codes "http://a.example/")) (codes "http://v.example/name") (Literal (codes "Ann") Plain)

a_made : written (base_in (codes "http://a.example/") small_tree) (facts_in names.standard small_tree) ≡ a_triple ∷ []
unfolding time_kind components_of step without_dots target resolved resources below start_of element_end entries_at cells
a_made = refl

a_gives : GivesTriples Html names.standard (codes "http://a.example/") small_page (a_triple ∷ [])
a_gives = record { tree = small_tree; is = small_is; given = sym a_made }

abbrev pub ended : Fault
ended = record { kind = Unended; token = 0; at = 0 }

pub empty_first : HasFirst (rdfa_way Html names.standard) [] ended
empty_first =
    end_first (rdfa_way Html names.standard) (refusal_laws names.standard) [] ended (no_bytes_read (rdfa_way Html names.standard) (refusal_laws names.standard)) (finds_only_faults Html standard_limits [] ended refl)

abbrev two_judged : List JudgedPage
two_judged = accepted_page (codes "http://a.example/") (a_triple ∷ []) ∷ refused_page (codes "http://b.example/") ended ∷ []

are_judged : JudgesEach GivesTriples Html names.standard many_files two_pages.pages two_judged
unfolding encode
are_judged = (record { bytes = small_page; file = refl; address = refl; judged = a_gives }, (record { bytes = []; file = refl; address = refl; judged = empty_first }, tt))

many_spelled : many_text ≡ encode_utf8_all (pages_document two_judged)
unfolding encode digits components_of step without_dots target resolved
many_spelled = refl

abbrev two_lines : List (QuadLine ℕ)
two_lines = statement (codes "http://a.example/") a_triple ∷ comment (codes "http://b.example/") ended ∷ []

lines_are : two_lines ≡ distinct_lines (numbered_lines (lines_from 0 two_judged))
unfolding components_of step without_dots target resolved
lines_are = refl

a_writable : WritableTriple (Some (codes "http://a.example/")) a_triple
a_writable = record {
  subject = iri_writable (codes "http://a.example/") refl refl refl;
  predicate = iri_writable (codes "http://v.example/name") refl refl refl;
  object = (record { scalars = refl }, tt);
  graph = iri_writable (codes "http://a.example/") refl refl refl;
}

are_writable : (line : QuadLine ℕ) → Among two_lines line → WritableLine line
are_writable line (inl e) = subst (λ (x : QuadLine ℕ). WritableLine x) e a_writable
are_writable line (inr (inl e)) = subst (λ (x : QuadLine ℕ). WritableLine x) e (record { iri = iri_writable (codes "http://b.example/") refl refl refl; at = omega arith; token = omega arith })
are_writable line (inr (inr m)) = absurd m

many_spells : SpellsLines many_text (numbered_lines (lines_from 0 two_judged))
many_spells = record { spelled = many_spelled; writable = λ line m. are_writable line (subst (λ (xs : List (QuadLine ℕ)). Among xs line) (sym lines_are) m) }

are_gathered : IsGathered two_pages many_text (shelf_with many_files)
are_gathered = record { context = names.standard; holds = refl; pages = two_judged; judged = are_judged; spelled = many_spelled }

are_denoted : DenotesGathered two_pages many_text (shelf_with many_files)
are_denoted = record {
  context = names.standard;
  holds = refl;
  pages = two_judged;
  judged = judged_graphs Html names.standard many_files two_pages.pages two_judged are_judged;
  denotes = denotes_pages two_judged many_text many_spells;
}

pub gathered_row : Row many_words many_files status.Done many_text []
gathered_row = of_pages two_pages many_text are_gathered are_denoted

-- ---- items

abbrev item_tree : Tree
item_tree = first_tree (told_trees (read_to (page_read Html standard_limits item_page)).told)

abbrev itemization : Itemization
itemization = record { syntax = Html; address = codes "http://localhost/" }

abbrev value_in : Outcome → Data
value_in (Given value) = value
value_in (Refused fault) = null

abbrev item_value : Data
item_value = value_in (outcome standard_bounds (codes "http://localhost/") item_tree)

has_items : HasItems itemization item_page item_text
unfolding components_of step without_dots target resolved encode escape_byte
has_items =
    let r = reads_only_pages Html standard_limits item_page (read_to (page_read Html standard_limits item_page)) refl in
    let same : item_tree ≡ r.tree = ap first_tree r.trees in
    record { tree = r.tree; page = r.page; json = subst (λ t. JsonText (codes "http://localhost/") t item_text) same (record { value = item_value; given = refl; spelled = refl }) }

pub items_row : Row item_words (file item_page) status.Done item_text []
unfolding encode
items_row =
    of_page (record { task = itemizes itemization; context = None; page = codes "page.html" }) item_text
    (record { context = names.standard; bytes = item_page; is_context = refl; file = refl; holds_so = the_text (itemizes itemization) names.standard item_page item_text has_items has_items })

-- what the words ask for
abbrev a_check : Asked
a_check = record { task = checks Html; context = None; page = codes "page.html" }

abbrev an_extraction : Asked
an_extraction = record {
  task = extracts (record { syntax = Html; format = Nquads; graph = None; address = codes "http://localhost/" });
  context = Some (codes "names.json");
  page = codes "page.html";
}

pub other_page : Row check_words ((codes "other.html", small_page) ∷ []) status.ReadFault [] []
unfolding encode
other_page = no_file a_check (inr (tt, refl))

pub no_context_file : Row extract_words (file small_page) status.ReadFault [] []
unfolding encode
no_context_file = no_file an_extraction (inl refl)

pub no_page_beside_context : Row extract_words ((codes "names.json", codes "{}") ∷ []) status.ReadFault [] []
unfolding encode is_utf8 chars value lex punctuate
no_page_beside_context = no_file an_extraction (inr (record { bytes = codes "{}"; file = refl; tested = refl }, refl))

pub one_page_of_two : Row many_words (file small_page) status.ReadFault [] []
unfolding encode
one_page_of_two = no_file_of_several two_pages (inr (tt, inr (inl refl)))

pub empty_context_file : Row extract_words ((codes "names.json", []) ∷ file small_page) status.BadContext [] (codes "refused: context file\n")
unfolding encode is_utf8 chars value lex punctuate
empty_context_file = no_context an_extraction (record { bytes = []; file = refl; tested = refl })

pub right_sample : (count : ℕ) → count ≤ most_items → Row check_words (file (sample_page count)) status.Done (codes "ok\n") []
unfolding encode
right_sample count few =
    let p = samples_are_pages count few in
    let is : IsRight Html names.standard (sample_page count) (codes "ok\n") = record { tree = p.0; is = p.1; spelled = refl } in
    of_page a_check (codes "ok\n") (record { context = names.standard; bytes = sample_page count; is_context = refl; file = refl; holds_so = the_text (checks Html) names.standard (sample_page count) (codes "ok\n") is is })

right_small : IsRight Html names.standard small_page (codes "ok\n")
right_small = record { tree = _; is = small_is; spelled = refl }

pub right : Row check_words (file small_page) status.Done (codes "ok\n") []
unfolding encode
right = of_page a_check (codes "ok\n") (record { context = names.standard; bytes = small_page; is_context = refl; file = refl; holds_so = the_text (checks Html) names.standard small_page (codes "ok\n") right_small right_small })

pub extracted : Row (codes "extract" ∷ codes "--base" ∷ codes "http://localhost/" ∷ codes "page.html" ∷ []) (file small_page) status.Done small_text []
unfolding encode
extracted =
    of_page (record { task = extracts extraction; context = None; page = codes "page.html" }) small_text
    (record { context = names.standard; bytes = small_page; is_context = refl; file = refl; holds_so = the_text (extracts extraction) names.standard small_page small_text small_has small_denotes })

-- ---- a file that is no page

-- a first fault is the answer to a check
refused_so : (bytes : List ℕ) (fault : Fault) (line : List ℕ) → refused_line fault ≡ line → HasFirst (rdfa_way Html names.standard) bytes fault → Row check_words (file bytes) (status.Refused fault) [] line
unfolding encode
refused_so bytes fault line e first =
    subst (λ l. Row check_words (file bytes) (status.Refused fault) [] l) e
    (of_fault a_check fault (record { context = names.standard; bytes = bytes; is_context = refl; file = refl; holds_so = the_fault (checks Html) names.standard bytes fault first }))

-- bytes that are read, and end too early
unended_so : (bytes : List ℕ) (fault : Fault) → IsReadPage (rdfa_way Html names.standard) bytes → page_ended (page_read Html standard_limits bytes) ≡ Err fault → HasFirst (rdfa_way Html names.standard) bytes fault
unended_so bytes fault read e = end_first (rdfa_way Html names.standard) (refusal_laws names.standard) bytes fault read (finds_only_faults Html standard_limits bytes fault e)

pub empty : Row check_words (file []) (status.Refused (record { kind = Unended; token = 0; at = 0 })) [] (codes "refused: Unended at byte 0 in token 0\n")
unfolding digits
empty = refused_so [] ended (codes "refused: Unended at byte 0 in token 0\n") refl empty_first

abbrev cut_page : List ℕ
cut_page = codes "<html><p>a</p>"

cut_read : IsReadPage (rdfa_way Html names.standard) cut_page
cut_read = record { now = read_to (page_read Html standard_limits cut_page); read = refl; accepted = refl }

pub cut_short : Row check_words (file (codes "<html><p>a</p>")) (status.Refused (record { kind = Unended; token = 14; at = 14 })) [] (codes "refused: Unended at byte 14 in token 14\n")
unfolding digits
cut_short =
    let fault : Fault = record { kind = Unended; token = 14; at = 14 } in
    refused_so cut_page fault (codes "refused: Unended at byte 14 in token 14\n") refl (unended_so cut_page fault cut_read refl)

pub mismatch : Row check_words (file (codes "<html><b></i></b></html>")) (status.Refused (record { kind = Mismatch; token = 9; at = 12 })) [] (codes "refused: Mismatch at byte 12 in token 9\n")
unfolding digits
mismatch = refused_so (codes "<html><b></i></b></html>") mismatched (codes "refused: Mismatch at byte 12 in token 9\n") refl mismatch_first

pub relative_vocab : Row check_words (file (codes "<html vocab=\"x\"></html>")) (status.Refused (record { kind = RelativeVocab; token = 0; at = 15 })) [] (codes "refused: RelativeVocab at byte 15 in token 0\n")
unfolding digits
relative_vocab = refused_so (codes "<html vocab=\"x\"></html>") relative (codes "refused: RelativeVocab at byte 15 in token 0\n") refl relative_first

pub rows_are_answered : RowsAreAnswered
rows_are_answered = record {
  no_words = nothing_asked;
  no_page_named = nothing_asked;
  no_task = nothing_asked;
  no_address = nothing_asked;
  twice_an_option = nothing_asked;
  no_items = nothing_asked;
  too_many_items = nothing_asked;
  no_page = no_file a_check (inr (tt, refl));
  other_page = other_page;
  no_context_file = no_context_file;
  no_page_beside_context = no_page_beside_context;
  one_page_of_two = one_page_of_two;
  empty_context_file = empty_context_file;
  right = right;
  right_sample = right_sample;
  empty = empty;
  cut_short = cut_short;
  mismatch = mismatch;
  relative_vocab = relative_vocab;
  extracted = extracted;
  one_item = sample_row;
  itemized = items_row;
  gathered = gathered_row;
}
