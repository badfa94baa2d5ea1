-- From what a session's call answers to what the call of a page does.
use Rattle.rdfax_c.proofs.Common.{◌≡◌, ℕ, true, List, subst, inl, inr, Option, Some, Result, Err, SessionOpenGives, State, KeepsOpened, OpensPage, LendsQuad}
use Rattle.rx_quads.specs.Listed.{ShowsOne, quads_of}
use Rattle.rx_quads.specs.declared.terms.ShownQuad.{ShownQuad}
use Rattle.rx_session.specs.Sessions.{ShowsQuad, quads_in, shown_in}
use Rattle.rx_session.specs.Wants.{Want}
use Rattle.rx_session.specs.declared.given.Given.TheVariants as given
use Rattle.rx_session.specs.declared.errors.OpenError.{OpenError}
use Rattle.rx_session.specs.declared.errors.OpenError.TheVariants as open_error
use Rattle.rx_session.specs.declared.sessions.State.TheVariants as state
use Rattle.rdfax_c.specs.Lent.{quad_lent}
use Rattle.rdfax_c.specs.declared.terms.Terms.{Terms}

pub opens_page : (asked : Option Want) (file : Option (List ℕ)) (answer : Result State OpenError) (result : ℕ) (new : Option State) → SessionOpenGives asked file answer → KeepsOpened answer result new → OpensPage asked file result new
opens_page asked file answer result new opens (inl k) = record { answer = answer; opens = opens; code = k.0; kept = k.1 }
opens_page asked file answer result new opens (inr k) = record { answer = Err open_error.NoMemory; opens = tt; code = k.0; kept = k.1 }

-- the quad that was shown is lent
the_quad : (a b : ShownQuad) → Some a ≡ Some b → a ≡ b
the_quad a b e = cc

pub lends_shown : (old : State) (number : ℕ) (new : State) (quad : ShownQuad) (out : Terms) → ShowsQuad old number true new → shown_in new ≡ Some quad → out ≡ quad_lent quad → LendsQuad old number new out
lends_shown (state.Reads work) number new quad out shows is told = absurd (cc)
lends_shown (state.Gave (given.Text text nodes)) number (state.Gave other) quad out shows is told = absurd (cc)
lends_shown (state.Gave (given.Text text nodes)) number (state.Reads work) quad out shows is told = absurd shows
lends_shown (state.Gave (given.Text text nodes)) number (state.Refused fault) quad out shows is told = absurd shows
lends_shown (state.Gave (given.Text text nodes)) number state.Spent quad out shows is told = absurd shows
lends_shown (state.Gave (given.Quads q nodes)) number (state.Gave (given.Text text others)) quad out shows is told = absurd shows
lends_shown (state.Gave (given.Quads q nodes)) number (state.Gave (given.Quads r others)) quad out shows is told =
    record { quad = quad; kept = is; shown = subst (λ (s : ShownQuad). ShowsOne (quads_of q) number s) (the_quad r.shown quad is) shows; told = told }
lends_shown (state.Gave (given.Quads q nodes)) number (state.Reads work) quad out shows is told = absurd shows
lends_shown (state.Gave (given.Quads q nodes)) number (state.Refused fault) quad out shows is told = absurd shows
lends_shown (state.Gave (given.Quads q nodes)) number state.Spent quad out shows is told = absurd shows
lends_shown (state.Refused fault) number new quad out shows is told = absurd (cc)
lends_shown state.Spent number new quad out shows is told = absurd (cc)
