-- What a page's walks answer, as what they read a page for has it.
use Rattle.rx_items.proofs.Common.{ℕ, List, Result, Ok, Err, Chars, Stop, Sign, Way, IsRefusal, none_refuses}
use Rattle.rx_terms.specs.declared.triples.Triple.{Triple as CodeTriple}
use Rattle.rx_grammar.specs.declared.stops.Stop.TheVariants as stop
use Rattle.rx_nest.specs.Readings as readings
use Rattle.rx_nest.specs.Readings.{EndsWithinPage, Read, ReadingStands}
use Rattle.rx_walk.specs.Checks as checks
use Rattle.rx_walk.specs.RefusalLaws.{refusal_laws}
use Rattle.rx_walk.specs.Settings.{Setting, way_of}
use Rattle.rx_walk.specs.Walks as walks
use Rattle.rx_items.specs.Collecting as items
use Rattle.rx_items.specs.Walks as item_walks
use Rattle.rx_items.specs.declared.kept.Kept.{Kept}
use Rattle.rx_page.specs.Readers.{IsReadPage, PageFeedGives, EndStops, PageEndGives}
use Rattle.rx_page.proofs.FrontLemmas.{end_first}

-- a piece
pub fed : {L : Type 0} (way : Way) (knows : L → List Sign → Type 0) (bytes piece : List ℕ) (r : Result (Unit {0}) Stop) (new : Read L)
    → readings.FeedGives way knows bytes piece r new → PageFeedGives way (ReadingStands way knows) bytes piece r new
fed way knows bytes piece (Ok done) new g = g
fed way knows bytes piece (Err why) new g = g.0

-- the page's end
unfinished : (way : Way) (law : IsRefusal way.refused) (bytes : List ℕ) (why : Stop) → IsReadPage way bytes → EndsWithinPage way bytes why → EndStops way bytes why
unfinished way law bytes (stop.Fault fault) i u = (end_first way law bytes fault i u.0, u.2)
unfinished way law bytes stop.NoMemory i u = tt

pub walk_ended : (setting : Setting) (address : Chars) (bytes : List ℕ) (r : Result (List CodeTriple) Stop) → IsReadPage (way_of setting) bytes
    → walks.WalkEndGives setting address bytes r → PageEndGives (way_of setting) (walks.WalkEnded setting address) bytes r
walk_ended setting address bytes (Ok list) i e = e
walk_ended setting address bytes (Err why) i e = unfinished (way_of setting) (refusal_laws setting.context) bytes why i e

pub items_ended : (setting : items.MicrodataSetting) (bytes : List ℕ) (r : Result Kept Stop) → IsReadPage (items.microdata_way setting) bytes
    → item_walks.ItemWalkEndGives setting bytes r → PageEndGives (items.microdata_way setting) (item_walks.ItemWalkEnded setting) bytes r
items_ended setting bytes (Ok kept) i e = e
items_ended setting bytes (Err (stop.Fault fault)) i e = (end_first (items.microdata_way setting) none_refuses bytes fault i e.0, e.2)
items_ended setting bytes (Err stop.NoMemory) i e = tt

pub check_ended : (setting : Setting) (bytes : List ℕ) (r : Result (Unit {0}) Stop) → IsReadPage (way_of setting) bytes
    → checks.CheckEndGives setting bytes r → PageEndGives (way_of setting) (λ b done. checks.Accepted setting b) bytes r
check_ended setting bytes (Ok done) i e = e
check_ended setting bytes (Err why) i e = unfinished (way_of setting) (refusal_laws setting.context) bytes why i e
