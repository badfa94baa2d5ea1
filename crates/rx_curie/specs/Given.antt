-- What the code answers of a start tag.
use Rattle.std.specs.Prelude.{◌≡◌, Bool, true, false, not, ◌&&◌, List, ◌∷◌, Option, Some, None, codes, is_some, is_none, option_and_then, option_map, Result, MatchResult, if◌then◌else◌}
use Rattle.rx_rdfa.specs.Common.{Chars, trimmed, ElementTag, attribute, Context, unless_empty, vocab, Facts, Other, Ref, Datatype, Refusal, RelativeVocab, XmlLiteral, HtmlLiteral, refusal, is_relative, is_of_meaning, Kind}
use Rattle.rx_rdfa.specs.Facts as the
use Rattle.rx_names.specs.Lines.{NamesStand}
use Rattle.rx_names.specs.Views.{names_seen}
use Rattle.rx_names.specs.declared.names.NamesView.{NamesView}
use Rattle.rx_grammar.specs.declared.faults.Kind.TheVariants as kind
use Rattle.rx_curie.specs.declared.facts.Facts.{Facts as CodeFacts}
use Rattle.rx_curie.specs.declared.facts.FactsError.{FactsError}
use Rattle.rx_curie.specs.declared.facts.FactsError.TheVariants as error
use Rattle.rx_curie.specs.Seen.{facts_seen}

-- the vocabulary that a tag declares, where that isn't empty
abbrev pub own_vocabulary : ElementTag → Option Chars
own_vocabulary tag = option_and_then (λ value. unless_empty (trimmed value)) (attribute tag (codes "vocab"))

-- the vocabulary in force that the elements around declare, none where the tag has `vocab`, empty or not
abbrev pub vocabulary_from : List ElementTag → ElementTag → Option Chars
vocabulary_from above tag = if is_some (attribute tag (codes "vocab")) then None else vocab above

-- what holds of the facts that the rules give a tag, whose declarations the names have, where no element around declares a relative
-- vocabulary
abbrev pub OnFacts : NamesView → ElementTag → (Facts → Type 0) → Type 0
OnFacts names tag Holds =
    (above : List ElementTag) → NamesStand (names_seen names) (tag ∷ above) → is_relative (vocabulary_from above tag) ≡ false
    → Holds (the.facts (names_seen names).context above tag)

-- the datatype and the resource that an attribute says, where it is there
abbrev pub datatype_in : Context → List ElementTag → Option Chars → Option Datatype
datatype_in context line value = option_map (λ text. the.attribute_datatype (the.predicate context line (trimmed text))) value

abbrev pub resource_in : Context → List ElementTag → Option Chars → Option Ref
resource_in context line value = option_and_then (the.resource_of context line) value

abbrev pub kind_of_refusal : Refusal → Kind
kind_of_refusal RelativeVocab = kind.RelativeVocab
kind_of_refusal XmlLiteral = kind.XmlLiteral
kind_of_refusal HtmlLiteral = kind.HtmlLiteral

-- the tag is refused for this; or there was no memory, of which nothing is said
abbrev pub RefusesFor : FactsError → Option Refusal → Type 0
RefusesFor (error.Meaning k) None = ⊥
RefusesFor (error.Meaning k) (Some refused) = k ≡ kind_of_refusal refused
RefusesFor error.NoMemory refused = Unit {0}

-- these facts where nothing is to be refused in them, else the first refusal that holds
abbrev pub GivesFacts : Result CodeFacts FactsError → Facts → Type 0
GivesFacts result facts = MatchResult result (λ made. (facts_seen made ≡ facts) × (refusal facts ≡ None)) (λ why. RefusesFor why (refusal facts))

-- the same of a value into which the tag was read
abbrev pub GivesIn : Result (Unit {0}) FactsError → CodeFacts → Facts → Type 0
GivesIn result made facts = MatchResult result (λ done. (facts_seen made ≡ facts) × (refusal facts ≡ None)) (λ why. RefusesFor why (refusal facts))

-- the error is that of a refusal
abbrev pub IsMeaning : FactsError → Type 0
IsMeaning (error.Meaning k) = Unit {0}
IsMeaning error.NoMemory = ⊥

-- the tag is refused for what it means
abbrev pub IsRefused : Result (Unit {0}) FactsError → Type 0
IsRefused result = MatchResult result (λ done. ⊥) IsMeaning

-- what no attribute says, of an element that the rules don't name
abbrev pub no_facts : Facts
no_facts = record {
  kind = Other;
  about = None;
  resource = None;
  href = None;
  src = None;
  rel = None;
  rev = None;
  property = None;
  types = None;
  content = None;
  datetime = None;
  datatype = None;
  inlist = false;
  vocab = None;
  lang = None;
}

-- neither a resource nor a predicate is said
abbrev pub refers_to_nothing : Facts → Bool
refers_to_nothing facts =
    is_none facts.about
    && (is_none facts.resource
    && (is_none facts.href && (is_none facts.src && (is_none facts.rel && (is_none facts.rev && (is_none facts.property && is_none facts.types))))))

-- no attribute says anything
abbrev pub is_silent : Facts → Bool
is_silent facts =
    refers_to_nothing facts && (is_none facts.content && (is_none facts.datetime && (is_none facts.datatype && (not facts.inlist && is_none facts.vocab))))

abbrev pub is_for_meaning : FactsError → Bool
is_for_meaning (error.Meaning k) = is_of_meaning k
is_for_meaning error.NoMemory = true
