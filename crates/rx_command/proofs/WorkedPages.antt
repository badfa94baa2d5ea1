-- Pages and faults of the worked rows, read byte by byte.
use Rattle.rx_command.proofs.Common.{◌≡◌, ◌∙◌, ⊎_elim, inl, inr, ℕ, true, false, List, [], ◌∷◌, ◌++◌, refl, sym, ap, subst, None, Result, Ok, Err, codes, encode_utf8_all, append_assoc, append-nil, chars, all_scalars, Chars, Html, Page, Tree, end, Fault, Progress, page_read, page_on, no_progress, spot_of, finds_only_faults, reads_only_pages, MeaningAt, for_form, for_meaning, Way, IsRefusal, Iri, Literal, Plain, Triple, set_of, spo, Renamed, written, graph_of, refusal_laws, Extraction, standard_limits, rdfa_way, HasFirst, IsAccepted, HasText, DenotesGraph, base_in, facts_in, fronts, none_read, small_page, small_text, ◌≤◌, length, arith, sample_page, cut_in, IsCut, in_item, at_end, HasDepth, IsDeepest, IsSample, of_sample, Row, one_line}
use Rattle.rx_turtle.proofs.Common.{append_cancel_left, has_scheme, has_forbidden, ascii-chars, Among, quads, WritableTriple, WritableIri}
use Rattle.rx_pages.proofs.Common.{FaultAt, told_trees, fault_stays, page_append, reads_what_is_underway}
use Rattle.rx_items.proofs.Common.{written_denotes, sees, nothing_seen}
use Rattle.rx_grammar.specs.declared.faults.Kind.TheVariants.{Mismatch, RelativeVocab}
use lib.Utf8.{encode}
use Rattle.rx_nest.specs.RefusedTags.{ReaderRefuses}
use Rattle.rx_nest.proofs.Firsts.{meaning_first}
use Rattle.rx_nest.proofs.Meanings.{meant, read_as_meant}
use Rattle.rx_refs.specs.Parts.{components_of}
use Rattle.rx_refs.specs.Dots.{step, without_dots}
use Rattle.rx_refs.specs.Resolve.{target, resolved}
use Rattle.rx_rdfa.specs.Resources.{resources}
use Rattle.rx_rdfa.specs.Inherited.{below}
use Rattle.rx_rdfa.specs.Times.{time_kind}
use Rattle.rx_rdfa.specs.Element.{start_of, end_of as element_end}
use Rattle.rx_rdfa.specs.Lists.{entries_at, cells}
use Rattle.rx_nquads.specs.Document.{Nquads}
use Rattle.rx_nquads.specs.Writing.{nquads}
use Rattle.rx_nquads.proofs.Denoting.{denotes}
use Rattle.std.specs.Fmt.{digits}
use Rattle.rx_nest.specs.ShownLines.{shown_line}
use Rattle.rx_rdfa.specs.Standard as names
use Rattle.rx_job.specs.declared.formats.Format.TheVariants as format
use Rattle.rx_command.specs.declared.statuses.Status.TheVariants as status

-- ---- a page with one triple

-- where the reader stands
abbrev pub read_to : Result Progress Fault → Progress
read_to (Ok now) = now
read_to (Err fault) = no_progress

abbrev pub first_tree : List Tree → Tree
first_tree [] = end
first_tree (tree ∷ trees) = tree

abbrev pub small_tree : Tree
small_tree = first_tree (told_trees (read_to (page_read Html standard_limits small_page)).told)

pub small_is : IsAccepted Html names.standard small_page small_tree
unfolding time_kind components_of step without_dots target resolved resources below start_of element_end entries_at cells
small_is =
    let r = reads_only_pages Html standard_limits small_page (read_to (page_read Html standard_limits small_page)) refl in
    let same : small_tree ≡ r.tree = ap first_tree r.trees in
    record { page = subst (λ t. Page Html standard_limits small_page t) (sym same) r.page; accepted = refl }

abbrev small_list : List (Triple ℕ)
small_list = spo (Iri (codes "http://localhost/")) (codes "http://v.example/name") (Literal (codes "Ann") Plain) ∷ []

abbrev address : Chars
address = codes "http://localhost/"

small_made : written (base_in address small_tree) (facts_in names.standard small_tree) ≡ small_list
unfolding time_kind components_of step without_dots target resolved resources below start_of element_end entries_at cells
small_made = refl

pub iri_writable : (iri : Chars) → all_scalars iri ≡ true → has_scheme iri ≡ true → has_forbidden iri ≡ false → WritableIri iri
iri_writable iri a s f = record { text = record { scalars = a }; is_iri = record { scheme = s; clean = f } }

triple_writable : WritableTriple None (spo (Iri (codes "http://localhost/")) (codes "http://v.example/name") (Literal (codes "Ann") Plain))
triple_writable = record {
  subject = iri_writable (codes "http://localhost/") refl refl refl;
  predicate = iri_writable (codes "http://v.example/name") refl refl refl;
  object = (record { scalars = refl }, tt);
  graph = tt;
}

small_writable : (t : Triple ℕ) → Among small_list t → WritableTriple None t
small_writable t (inl e) = subst (λ (x : Triple ℕ). WritableTriple None x) e triple_writable
small_writable t (inr m) = absurd m

abbrev pub extraction : Extraction
extraction = record { syntax = Html; format = format.Nquads; graph = None; address = address }

small_spelled : small_text ≡ encode_utf8_all (nquads small_list None)
unfolding encode
small_spelled = refl

pub small_has : HasText extraction names.standard small_page small_text
small_has = record { tree = small_tree; is = small_is; spelled = small_spelled ∙ ap (λ (ts : List (Triple ℕ)). encode_utf8_all (nquads ts None)) (sym small_made) }

small_chars : chars small_text ≡ nquads small_list None
small_chars = ascii-chars small_text refl

pub small_denotes : DenotesGraph extraction names.standard small_page small_text
small_denotes = record {
  tree = small_tree;
  is = small_is;
  triples = small_list;
  denotes = subst (λ x. Nquads x (quads small_list None)) (sym small_chars) (denotes None small_list small_writable);
  renamed =
      subst (λ ts. Renamed (graph_of (base_in address small_tree) (facts_in names.standard small_tree)) (set_of ts)) small_made
      (written_denotes (base_in address small_tree) (facts_in names.standard small_tree));
}

-- ---- a fault behind bytes that are read

module _ (way : Way) (law : IsRefusal way.refused) (clean : List ℕ) (p : Progress) (h : page_read way.syntax way.limits clean ≡ Ok p) (none : way.refused (sees nothing_seen p.told).signs ≡ None)
    (byte : ℕ) (fault : Fault) (k : page_read way.syntax way.limits (clean ++ byte ∷ []) ≡ Err fault) where
  -- no more is read
  none_on : (more : List ℕ) (q : Progress) → page_read way.syntax way.limits (clean ++ byte ∷ more) ≡ Ok q → ⊥
  none_on more q e =
      let on : page_read way.syntax way.limits (clean ++ byte ∷ more) ≡ Err fault =
      ap (λ x. page_read way.syntax way.limits x) (sym (append_assoc clean (byte ∷ []) more))
      ∙ (page_append way.syntax way.limits (spot_of way.syntax p.now.nest) (Ok no_progress) (clean ++ byte ∷ []) more
      ∙ (ap (λ x. page_on way.syntax way.limits x more) k ∙ fault_stays way.syntax way.limits fault more)) in
      let both : Err fault ≡ Ok q = sym on ∙ e in
      absurd (cc)

  no_meaning : (rest : List ℕ) (other : Fault) → MeaningAt way (clean ++ byte ∷ rest) other → ⊥
  no_meaning rest other meaning = by (read_as_meant way law (clean ++ byte ∷ rest) other meaning)
    where
      within : (m : ReaderRefuses way (clean ++ byte ∷ rest) other) (mid : List ℕ) → clean ≡ m.front ++ mid → ⊥
      within m mid e = none_read way law clean p h none other (record { front = m.front; rest = mid; are = e; now = m.now; read = m.read; refused = m.refused })

      beyond : (m : ReaderRefuses way (clean ++ byte ∷ rest) other) (mid : List ℕ) → m.front ≡ clean ++ mid → ⊥
      beyond m [] e = within m [] (sym (append-nil clean) ∙ (sym e ∙ sym (append-nil m.front)))
      beyond m (next ∷ mid) e =
          let tails : byte ∷ rest ≡ (next ∷ mid) ++ m.rest = append_cancel_left clean (byte ∷ rest) ((next ∷ mid) ++ m.rest) (m.are ∙ (ap (λ x. x ++ m.rest) e ∙ append_assoc clean (next ∷ mid) m.rest)) in
          let same : next ≡ byte = cc in
          none_on mid m.now (ap (λ n. page_read way.syntax way.limits (clean ++ n ∷ mid)) (sym same) ∙ (ap (λ x. page_read way.syntax way.limits x) (sym e) ∙ m.read))

      by : ReaderRefuses way (clean ++ byte ∷ rest) other → ⊥
      by m = ⊎_elim (λ r. beyond m r.0 r.1) (λ r. within m r.0 r.1) (fronts clean (byte ∷ rest) m.front m.rest m.are)

  pub form_first : (rest : List ℕ) → FaultAt way.syntax way.limits (clean ++ byte ∷ rest) fault → HasFirst way (clean ++ byte ∷ rest) fault
  form_first rest f = for_form f (λ other m. no_meaning rest other m)

abbrev pub check_way : Way
check_way = rdfa_way Html names.standard

abbrev pub mismatched : Fault
mismatched = record { kind = Mismatch; token = 9; at = 12 }

pub mismatch_first : HasFirst check_way (codes "<html><b></i></b></html>") mismatched
mismatch_first =
    form_first check_way (refusal_laws names.standard) (codes "<html><b></i") (read_to (page_read Html standard_limits (codes "<html><b></i"))) refl refl 62 mismatched refl (codes "</b></html>")
    (finds_only_faults Html standard_limits (codes "<html><b></i></b></html>") mismatched refl)

-- ---- a start tag that is refused for what it means

abbrev pub relative : Fault
relative = record { kind = RelativeVocab; token = 0; at = 15 }

relative_read : ReaderRefuses check_way (codes "<html vocab=\"x\"></html>") relative
unfolding time_kind components_of step without_dots target resolved resources below start_of element_end entries_at cells
relative_read = record {
  front = codes "<html vocab=\"x\">";
  rest = codes "</html>";
  are = refl;
  now = read_to (page_read Html standard_limits (codes "<html vocab=\"x\">"));
  read = refl;
  refused = refl;
}

pub relative_first : HasFirst check_way (codes "<html vocab=\"x\"></html>") relative
relative_first =
    for_meaning (meant check_way (refusal_laws names.standard) (codes "<html vocab=\"x\"></html>") relative relative_read)
    (meaning_first check_way (refusal_laws names.standard) (codes "<html vocab=\"x\"></html>") relative relative_read)

-- ---- the worked row of the sample of one item

abbrev one_page : List ℕ
one_page =
    codes "<!DOCTYPE html>\n<html vocab=\"http://schema.org/\">\n<body typeof=\"ItemList\">\n<div property=\"itemListElement\" typeof=\"Product\"><span property=\"name\">Item 0</span></div>\n</body>\n</html>\n"

abbrev one_cut : List ℕ
one_cut = codes "<!DOCTYPE html>\n<html vocab=\"http://schema.org/\">\n<body typeof=\"ItemList\">\n<div property=\"itemListElement\" typeof=\"Product\"><span property=\"name\">Item 0"

-- ---- the page and its triples

abbrev one_tree : Tree
one_tree = first_tree (told_trees (read_to (page_read Html standard_limits one_page)).told)

one_accepted : IsAccepted Html names.standard (sample_page 1) one_tree
unfolding digits time_kind components_of step without_dots target resolved resources below start_of element_end entries_at cells
one_accepted =
    let r = reads_only_pages Html standard_limits one_page (read_to (page_read Html standard_limits one_page)) refl in
    let same : one_tree ≡ r.tree = ap first_tree r.trees in
    record { page = subst (λ t. Page Html standard_limits one_page t) (sym same) r.page; accepted = refl }

-- ---- its depth

-- the open elements where the reader stands
open_there : (bytes : List ℕ) (now : Progress) (depth : ℕ) → page_read Html standard_limits bytes ≡ Ok now → depth ≡ length (shown_line Html now.now.nest.line) → HasDepth bytes depth
open_there bytes now depth h e = record {
  line = now.now.nest.line;
  phase = now.now.nest.phase;
  run = now.now.scan.run;
  part = now.now.scan.held;
  underway =
      (reads_what_is_underway Html standard_limits bytes now.now.nest.line now.now.nest.phase now.now.scan.run now.now.scan.held).1
      (record { now = now; read = h; is_at = record { line_is = refl; phase_is = refl }; run_is = refl; part_is = refl });
  is = e;
}

cut_deep : HasDepth (cut_in 0) 4
unfolding digits
cut_deep = open_there one_cut (read_to (page_read Html standard_limits one_cut)) 4 refl refl

end_deep : HasDepth (sample_page 1) 0
unfolding digits
end_deep = open_there one_page (read_to (page_read Html standard_limits one_page)) 0 refl refl

no_deeper : (others : List ℕ) → IsCut 1 others → (other : ℕ) × HasDepth others other × (other ≤ 4)
no_deeper others (in_item i l) = let first : 0 ≡ i = omega (arith, l) in (4, subst (λ n. HasDepth (cut_in n) 4) first cut_deep, omega arith)
no_deeper others at_end = (0, end_deep, omega arith)

one_deep : IsDeepest 1 4
one_deep = record { bytes = cut_in 0; cut = in_item 0 (omega arith); has = cut_deep; most = no_deeper }

-- ---- the line

one_is : IsSample 1 one_line
unfolding encode digits time_kind components_of step without_dots target resolved resources below start_of element_end entries_at cells
one_is = record {
  tree = one_tree;
  is = one_accepted;
  depth = 4;
  deepest = one_deep;
  spelled = refl;
}

pub sample_row : Row (codes "sample" ∷ codes "1" ∷ []) [] status.Done one_line []
sample_row = of_sample 1 one_line one_is
