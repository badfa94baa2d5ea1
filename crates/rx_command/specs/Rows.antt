-- Worked rows of the answer: words and files, and the status, the text and the line that are right for them.
use Rattle.std.specs.Prelude.{ℕ, ◌≤◌, List, [], ◌∷◌, codes}
use Rattle.rx_ports.specs.Shelves.{ShelfContent}
use Rattle.rx_terms.specs.Text.{Chars}
use Rattle.rx_grammar.specs.declared.faults.Kind.TheVariants.{Unended, Mismatch, RelativeVocab}
use Rattle.rx_job.specs.Words.{job, most_items}
use Rattle.rx_command.specs.Gathering.{FileList}
use Rattle.rx_command.specs.Samples.{sample_page}
use Rattle.rx_command.specs.Endings.{IsAnswer}
use Rattle.rx_command.specs.declared.statuses.Status.{Status}
use Rattle.rx_command.specs.declared.statuses.Status.TheVariants as status

-- a shelf with these files, of which none was started
abbrev pub shelf_with : FileList → ShelfContent
shelf_with files = record { files = files; left = []; taken = 0; starts = 0 }

-- With these words and files the right answer is this status, this text on out, and this line on err.
abbrev pub Row : List Chars → FileList → Status → List ℕ → List ℕ → Type 0
Row words files s text line = IsAnswer (shelf_with files) (job words) s text line

abbrev pub usage : List ℕ
usage = codes "usage: rdfax extract|items|check|sample\n"

-- a page with one triple, its triples' text, and its file
abbrev pub small_page : List ℕ
small_page = codes "<html><p property=\"http://v.example/name\">Ann</p></html>"

abbrev pub small_text : List ℕ
small_text = codes "<http://localhost/> <http://v.example/name> \"Ann\" .\n"

abbrev pub file : List ℕ → FileList
file bytes = (codes "page.html", bytes) ∷ []

abbrev pub check_words : List Chars
check_words = codes "check" ∷ codes "page.html" ∷ []

abbrev pub extract_words : List Chars
extract_words = codes "extract" ∷ codes "--context" ∷ codes "names.json" ∷ codes "--base" ∷ codes "http://localhost/" ∷ codes "page.html" ∷ []

abbrev pub many_words : List Chars
many_words = codes "many" ∷ codes "http://a.example/" ∷ codes "page.html" ∷ codes "http://b.example/" ∷ codes "other.html" ∷ []

abbrev pub many_files : FileList
many_files = (codes "page.html", small_page) ∷ (codes "other.html", []) ∷ []

abbrev pub many_text : List ℕ
many_text = codes "<http://a.example/> <http://v.example/name> \"Ann\" <http://a.example/> .\n# refused: Unended at byte 0 in token 0 of http://b.example/\n"

-- a page with one item, and its items
abbrev pub item_page : List ℕ
item_page = codes "<html><p itemscope itemtype=\"http://v.example/Person\"><b itemprop=\"name\">Ann</b></p></html>"

abbrev pub item_text : List ℕ
item_text = codes "{\"items\":[{\"properties\":{\"name\":[\"Ann\"]},\"type\":[\"http://v.example/Person\"]}]}\n"

abbrev pub item_words : List Chars
item_words = codes "items" ∷ codes "--base" ∷ codes "http://localhost/" ∷ codes "page.html" ∷ []

abbrev pub one_line : List ℕ
one_line = codes "sample 1: 182 bytes, 5 triples, 376 output bytes, depth 4\n"

-- law
pub record RowsAreAnswered : Type 0 where
  -- words that ask for nothing
  pub no_words : Row [] [] status.Usage [] usage
  pub no_page_named : Row (codes "check" ∷ []) (file small_page) status.Usage [] usage
  pub no_task : Row (codes "page.html" ∷ []) (file small_page) status.Usage [] usage
  pub no_address : Row (codes "extract" ∷ codes "page.html" ∷ []) (file small_page) status.Usage [] usage
  pub twice_an_option : Row (codes "check" ∷ codes "--syntax" ∷ codes "html" ∷ codes "--syntax" ∷ codes "html" ∷ codes "page.html" ∷ []) (file small_page) status.Usage [] usage
  pub no_items : Row (codes "sample" ∷ codes "0" ∷ []) [] status.Usage [] usage
  pub too_many_items : Row (codes "sample" ∷ codes "100001" ∷ []) [] status.Usage [] usage
  -- a sample
  pub one_item : Row (codes "sample" ∷ codes "1" ∷ []) [] status.Done one_line []
  -- a file is missing
  pub no_page : Row check_words [] status.ReadFault [] []
  pub other_page : Row check_words ((codes "other.html", small_page) ∷ []) status.ReadFault [] []
  pub no_context_file : Row extract_words (file small_page) status.ReadFault [] []
  pub no_page_beside_context : Row extract_words ((codes "names.json", codes "{}") ∷ []) status.ReadFault [] []
  pub one_page_of_two : Row many_words (file small_page) status.ReadFault [] []
  -- a context file that is none
  pub empty_context_file : Row extract_words ((codes "names.json", []) ∷ file small_page) status.BadContext [] (codes "refused: context file\n")
  -- a page
  pub right : Row check_words (file small_page) status.Done (codes "ok\n") []
  pub right_sample : (count : ℕ) → count ≤ most_items → Row check_words (file (sample_page count)) status.Done (codes "ok\n") []
  pub extracted : Row (codes "extract" ∷ codes "--base" ∷ codes "http://localhost/" ∷ codes "page.html" ∷ []) (file small_page) status.Done small_text []
  pub itemized : Row item_words (file item_page) status.Done item_text []
  -- of two pages one is empty
  pub gathered : Row many_words many_files status.Done many_text []
  -- a file that is none
  pub empty : Row check_words (file []) (status.Refused (record { kind = Unended; token = 0; at = 0 })) [] (codes "refused: Unended at byte 0 in token 0\n")
  pub cut_short : Row check_words (file (codes "<html><p>a</p>")) (status.Refused (record { kind = Unended; token = 14; at = 14 })) [] (codes "refused: Unended at byte 14 in token 14\n")
  pub mismatch : Row check_words (file (codes "<html><b></i></b></html>")) (status.Refused (record { kind = Mismatch; token = 9; at = 12 })) [] (codes "refused: Mismatch at byte 12 in token 9\n")
  pub relative_vocab : Row check_words (file (codes "<html vocab=\"x\"></html>")) (status.Refused (record { kind = RelativeVocab; token = 0; at = 15 })) [] (codes "refused: RelativeVocab at byte 15 in token 0\n")
