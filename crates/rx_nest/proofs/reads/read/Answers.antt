use Rattle.std.proofs.Common.{ℕ, ◌≡◌, ◌∙◌, refl, sym, ap, subst, true, false, Ok, Err}
use Rattle.rx_scan.specs.declared.answers.Token.{Token}
use Rattle.rx_scan.specs.Steps as scan
use Rattle.rx_nest.specs.declared.tree_tokens.TreeToken.{TreeToken}
use Rattle.rx_nest.specs.declared.tree_tokens.TreeToken.TheVariants as tree_token
use Rattle.rx_nest.specs.TreeTokens as hears
use Rattle.rx_nest.specs.Nests as nests
use Rattle.rx_nest.proofs.ReadTokens.{answers, heard, not_tag, quiet_stop, run_between, scan_stops}
use Rattle.rx_nest.proofs.OpenElements.{stays_same}
use Rattle.rx_nest.proofs.reads.read.Goals as goal

-- src/reads.rt:20:26
pub returns-in-Err-clause-reads : goal.returns-in-Err-clause-reads
returns-in-Err-clause-reads c syntax limits bytes told at =
    let h = rw c.in-Err.is at c.step.follows.holds-at-none in
    scan_stops syntax limits bytes told c.args.scan.now c.args.line.now at c.args.piece.now c.in-Err.stop c.step.follows.lender-at-none c.args.line.now (h.1 at.now.scan at.stands)

-- src/reads.rt:21:17
pub returns-in-Err-take_token-clause-reads : goal.returns-in-Err-take_token-clause-reads
returns-in-Err-take_token-clause-reads c syntax limits bytes told at =
    let h = rw c.in-Ok.is at c.step.follows.holds-at-none in
    heard syntax limits bytes told c.args.scan.now c.args.line.now at c.args.piece.now c.in-Ok.step.0 c.in-Ok.step.1 c.step.follows.lender-at-none (h.1 at.now.scan at.stands) h.0.2.shows (Err c.in-Err-take_token.stop) c.take_token.new.self c.in-Err-take_token.ensures

-- src/reads.rt:23:9
pub enter-requires-clause-content : goal.enter-requires-clause-content
enter-requires-clause-content c =
    let h = rw c.in-Ok.is at c.step.follows.holds-at-none in
    let at = c.requires.at in
    let tagged = subst (λ x. hears.TakesToken c.args.line.now c.in-Ok.step.1 (Ok x) c.take_token.new.self) c.in-Tag.is c.in-Ok-take_token.ensures in
    ap (λ x. scan.is_of_syntax c.step.follows.lender-at-none.reading.setting.syntax x) c.content.ensures
    ∙ (heard c.requires.syntax c.requires.limits c.requires.bytes c.requires.told c.args.scan.now c.args.line.now at c.args.piece.now c.in-Ok.step.0 c.in-Ok.step.1 c.step.follows.lender-at-none (h.1 at.now.scan at.stands) h.0.2.shows (Ok (tree_token.Tag c.in-Tag.told)) c.take_token.new.self tagged).0

-- src/reads.rt:15:1
pub returns-in-Tag-clause-reads : goal.returns-in-Tag-clause-reads
returns-in-Tag-clause-reads c syntax limits bytes told at =
    let h = rw c.in-Ok.is at c.step.follows.holds-at-none in
    let tagged = subst (λ x. hears.TakesToken c.args.line.now c.in-Ok.step.1 (Ok x) c.take_token.new.self) c.in-Tag.is c.in-Ok-take_token.ensures in
    let mid = c.step.follows.lender-at-none in
    let stepped = h.1 at.now.scan at.stands in
    let entered = c.enter.ensures.new ∙ ap (λ x. scan.moved_inside x c.in-Tag.told.drops mid) c.content.ensures in
    subst (λ x. nests.Heeds syntax limits bytes told c.args.piece.now c.in-Ok.step.0 (tree_token.Tag c.in-Tag.told) c.args.line.now x c.take_token.new.self) (sym entered)
    ((heard syntax limits bytes told c.args.scan.now c.args.line.now at c.args.piece.now c.in-Ok.step.0 c.in-Ok.step.1 mid stepped h.0.2.shows (Ok (tree_token.Tag c.in-Tag.told)) c.take_token.new.self tagged).1
    (subst (λ x. scan.ScanStands x stepped.scanned.next) entered (c.enter.ensures.stands stepped.scanned.next stepped.stands)))

-- src/reads.rt:15:1
pub returns-in_default : goal.returns-in_default
returns-in_default c =
    let h = rw c.in-Ok.is at c.step.follows.holds-at-none in
    let said = c.in-Ok-take_token.ensures in
    record {
      reads = λ syntax limits bytes told at.
          let stepped = h.1 at.now.scan at.stands in
          not_tag syntax limits bytes told c.args.scan.now c.args.line.now at c.args.piece.now c.in-Ok.step.0 c.in-Ok.step.1 c.step.follows.lender-at-none stepped c.in-Ok-take_token.tree_token c.take_token.new.self c.in_default.not-Tag
          (heard syntax limits bytes told c.args.scan.now c.args.line.now at c.args.piece.now c.in-Ok.step.0 c.in-Ok.step.1 c.step.follows.lender-at-none stepped h.0.2.shows (Ok c.in-Ok-take_token.tree_token) c.take_token.new.self said);
      takes = subst (λ b. scan.TakesSome c.args.piece.now c.in-Ok.step.0 b) (answers c.in-Ok.step.1 (Ok c.in-Ok-take_token.tree_token) c.args.line.now c.take_token.new.self said) h.0.3;
      stays = tt;
      quiet = λ syntax limits bytes told at b q. refl;
    }

pub returns-in-Err-clause-stays : goal.returns-in-Err-clause-stays
returns-in-Err-clause-stays c = stays_same (ℕ × TreeToken) c.in-Err.stop c.args.line.now

pub returns-in-Err-take_token-clause-stays : goal.returns-in-Err-take_token-clause-stays
returns-in-Err-take_token-clause-stays c = (answers c.in-Ok.step.1 (Err c.in-Err-take_token.stop) c.args.line.now c.take_token.new.self c.in-Err-take_token.ensures).1

pub returns-in-Err-clause-quiet : goal.returns-in-Err-clause-quiet
returns-in-Err-clause-quiet c syntax limits bytes told at b q =
    quiet_stop (ℕ × Token) (ℕ × TreeToken) c.in-Err.stop (c.in-Err.ensures.quiet at.now.scan at.stands (run_between syntax limits bytes told c.args.scan.now c.args.line.now at b) q)

pub returns-in-Err-take_token-clause-quiet : goal.returns-in-Err-take_token-clause-quiet
returns-in-Err-take_token-clause-quiet c syntax limits bytes told at b q =
    let none = c.in-Ok.ensures.quiet_tells at.now.scan at.stands (run_between syntax limits bytes told c.args.scan.now c.args.line.now at b) q in
    absurd (let w : true ≡ false = sym (answers c.in-Ok.step.1 (Err c.in-Err-take_token.stop) c.args.line.now c.take_token.new.self c.in-Err-take_token.ensures).0 ∙ none in cc)
