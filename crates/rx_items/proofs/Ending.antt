-- The items of a whole page.
use Rattle.rx_items.proofs.Common.{◌≡◌, List, ℕ, Option, Err, sym, ap, subst, ◌∙◌, Chars, start_tag_of, Tree, tags_of, signs_of, Stop, rows_of, Growing, ShowsRows, after, nothing_grown, MicrodataSetting, microdata_way, Collects, BaseIs}
use Rattle.rx_rdfa.specs.Base.{base_by, root_href}
use Rattle.rx_microdata.specs.Base.{base_in}
use Rattle.rx_grammar.specs.declared.stops.Stop.TheVariants as stop
use Rattle.rx_nest.specs.Readings.{IsWhole, Whole, EndsWithinPage}
use Rattle.rx_base.specs.Seekings.{known, sought}
use Rattle.rx_base.specs.Sought.{sought_seen}
use Rattle.rx_base.specs.declared.seeking.Sought.{Sought}
use Rattle.rx_base.specs.declared.seeking.Sought.TheVariants as looks
use Rattle.rx_base.proofs.Found.{base_found}
use Rattle.rx_items.specs.declared.collectors.Base.{Base}
use Rattle.rx_items.specs.declared.collectors.Base.TheVariants as base
use Rattle.rx_items.specs.declared.collectors.Collector.{Collector}
use Rattle.rx_items.specs.Walks.{ItemWalkEndGives}
use Rattle.rx_items.proofs.TableLaws.{show}
use Rattle.rx_items.proofs.Telling.{told_tree}

-- the base of a page, once all of it is read
whole_sought : (setting : MicrodataSetting) (bytes : List ℕ) (collector : Collector) (w : Whole (microdata_way setting) (Collects setting) bytes collector)
    → sought (signs_of w.tree) ≡ known (root_href (tags_of w.tree))
whole_sought setting bytes collector w =
    let d = w.page.document in
    subst (λ (t : Tree). sought (signs_of t) ≡ known (root_href (tags_of t))) (sym d.tree_is) (base_found (start_tag_of d.root d.t) d.inside)

no_sought : (x : Sought) (href : Option Chars) → known href ≡ sought_seen x → ⊥
no_sought looks.FirstChild href e = cc
no_sought looks.BaseChild href e = cc

-- nothing is looked for any more
pub base_known : (collector : Collector) (x : Sought) → collector.base ≡ base.Sought x → IsWhole microdata_way Collects collector → ⊥
base_known collector x e w =
    let at : BaseIs w.setting.address (sought (signs_of w.whole.tree)) (base.Sought x) = subst (λ (b : Base). BaseIs w.setting.address (sought (signs_of w.whole.tree)) b) e w.whole.known.base_is in
    no_sought x (root_href (tags_of w.whole.tree)) (sym (whole_sought w.setting w.bytes collector w.whole) ∙ at)

-- it is the page's
pub base_is : (setting : MicrodataSetting) (bytes : List ℕ) (collector : Collector) (w : Whole (microdata_way setting) (Collects setting) bytes collector) (iri : Chars) → BaseIs setting.address (sought (signs_of w.tree)) (base.Known iri)
    → iri ≡ base_in setting.address w.tree
base_is setting bytes collector w iri h =
    let same : known h.0 ≡ known (root_href (tags_of w.tree)) = sym h.1 ∙ whole_sought setting bytes collector w in
    let href : h.0 ≡ root_href (tags_of w.tree) = cc in
    h.2 ∙ ap (λ x. base_by x setting.address) href

-- the table has the rows of the page
pub rows_shown : (setting : MicrodataSetting) (bytes : List ℕ) (collector : Collector) (w : Whole (microdata_way setting) (Collects setting) bytes collector)
    → ShowsRows collector.table.words collector.table.text collector.table.times collector.table.rows (rows_of w.tree)
rows_shown setting bytes collector w =
    let table : collector.table ≡ after nothing_grown w.tree = w.known.table_is ∙ told_tree nothing_grown w.tree in
    subst (λ (g : Growing). ShowsRows g.words g.text g.times g.rows (rows_of w.tree)) (sym table) (show w.tree).1

-- where the bytes end within a page
pub unfinished : (setting : MicrodataSetting) (bytes : List ℕ) (why : Stop) → EndsWithinPage (microdata_way setting) bytes why → ItemWalkEndGives setting bytes (Err why)
unfinished setting bytes (stop.Fault fault) h = h
unfinished setting bytes stop.NoMemory h = tt
