-- Spelled tokens that lead to open elements stand at the front of a page.
use Rattle.rx_pages.proofs.Words.{◌≡◌, ◌∙◌, ℕ, true, false, List, [], ◌∷◌, ◌++◌, Option, Some, None, refl, ap, sym, subst, append-nil, append_assoc, Chars, not_both_ways, PlacedCharacter, Syntax, Token, Spells, has_references, keeps_runs, has_sections, has_less_than, raw_name, a_less_than, a_raw_run, a_reference, a_kept_run, a_section, Item, Spelled, no_more, one, Line, Phase, Stands, not_begun, Content, Event, Nesting, Goes, stands, goes, IsAt, FrontsStand}
use Rattle.rx_grammar.specs.declared.contents.Content.TheVariants as content
use Rattle.rx_grammar.specs.Pages as pages
use Rattle.rx_pages.proofs.Standing.{may_stand, one_more}

pub spelled_outside : (syntax : Syntax) (inside : Content) (text : Chars) (next : Option ℕ) (token : Token) → Spells syntax inside text next token → inside ≡ content.Outside → may_stand token ≡ true
spelled_outside s i _ next _ (a_less_than e h b) o = absurd (not_both_ways _ h (ap has_less_than o))
spelled_outside s i _ next _ (a_raw_run text name r h b) o = absurd (let w : None ≡ Some name = sym (ap raw_name o) ∙ r in cc)
spelled_outside s i _ next _ (a_reference body c r b m) o = absurd (not_both_ways _ r (ap has_references o))
spelled_outside s i _ next _ (a_kept_run run k h b) o = absurd (not_both_ways _ k (ap keeps_runs o))
spelled_outside s i _ next _ (a_section text h f) o = absurd (not_both_ways _ h (ap has_sections o))
spelled_outside s i _ next _ _ o = refl

module _ (syntax : Syntax) (depth : ℕ) (line : Line) (phase : Phase) where
  pub walk : {n : Nesting} {entries : List PlacedCharacter} {next : Option ℕ} {items : List Item} {events : List Event} (first : List Item) → Stands syntax depth first n.line n.phase → Spelled syntax entries next items → Goes syntax depth (IsAt line phase) n items events
      → Stands syntax depth (first ++ items) line phase
  walk first h no_more (stands n at) = subst (λ l. Stands syntax depth (first ++ []) l phase) at.line_is (subst (λ p. Stands syntax depth (first ++ []) n.line p) at.phase_is (subst (λ xs. Stands syntax depth xs n.line n.phase) (sym (append-nil first)) h))
  walk {n = n} first h (one c run rest item {items = items} sp f l more) (goes item2 step ci e g) =
      subst (λ xs. Stands syntax depth xs line phase) (append_assoc first (item ∷ []) items)
      (walk (first ++ item ∷ []) (one_more syntax depth item (spelled_outside syntax item.content _ _ item.token sp) first n.line n.phase n.drops h ci step e) more g)

pub fronts_stand : FrontsStand
fronts_stand syntax depth entries next items line phase spelled l = walk syntax depth line phase [] (not_begun false pages.no_more) spelled l.going
