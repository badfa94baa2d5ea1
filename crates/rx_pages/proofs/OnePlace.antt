-- The front of a page has one line of open elements and one phase, whatever comes next: they are what the reader comes to behind it.
use Rattle.rx_pages.proofs.Common.{◌≡◌, ◌∙◌, ℕ, ◌+◌, List, Option, ap, sym, length, arith, Syntax, Begun, Line, Phase, Limits, Nesting, Progress, ok_is, OnePlace}
use Rattle.rx_pages.proofs.Closings.{fronted}
use Rattle.rx_pages.proofs.ClosedTold.{front_reads}

module _ (syntax : Syntax) (limits : Limits) (bytes : List ℕ) where
  -- limits under which one more byte isn't too long
  abbrev wide : Limits
  wide = record { tag = limits.tag; page = length bytes + 1; depth = limits.depth }

  wider : (next : Option ℕ) (line : Line) (phase : Phase) → Begun syntax limits bytes next line phase → Begun syntax wide bytes next line phase
  wider next line phase b = record { entries = b.entries; items = b.items; size = omega arith; read = b.read; no_nul = b.no_nul; spelled = b.spelled; fit = b.fit; sections = b.sections; stands = b.stands }

pub one_place : OnePlace
one_place syntax limits bytes next behind line others phase other a b =
    let f = fronted syntax (wide syntax limits bytes) bytes next line phase (wider syntax limits bytes next line phase a) in
    let g = fronted syntax (wide syntax limits bytes) bytes behind others other (wider syntax limits bytes behind others other b) in
    let r = front_reads syntax (wide syntax limits bytes) bytes line phase f (omega arith) in
    let q = front_reads syntax (wide syntax limits bytes) bytes others other g (omega arith) in
    let place : f.reaches.place ≡ g.reaches.place = sym r.place ∙ (ap (λ (p : Progress). p.now.nest) (ok_is r.tells.now q.tells.now _ r.tells.read q.tells.read) ∙ q.place) in
    record { line_is = sym f.reaches.at.line_is ∙ (ap (λ (n : Nesting). n.line) place ∙ g.reaches.at.line_is); phase_is = sym f.reaches.at.phase_is ∙ (ap (λ (n : Nesting). n.phase) place ∙ g.reaches.at.phase_is) }
