use Rattle.rdfax_c.proofs.Common.{◌∙◌, ap, sym, refl, inl, rules}
use Rattle.rx_session.specs.Given.{lent_quad}
use Rattle.rdfax_c.proofs.CallLemmas.{lends_shown}
use Rattle.rdfax_c.proofs.exports.lend_quad.Goals as goal

pub returns-clause-lends : goal.returns-clause-lends
returns-clause-lends c = record {
  answers = inl refl;
  lends = λ _. lends_shown c.args.session.now _ _ c.in-Some.quad.now _ (search rules) (sym c.shown.ensures ∙ ap lent_quad c.in-Some.is) c.quad_lent.ensures;
  kept = λ e. absurd (cc);
  untold = λ n. absurd (n refl);
}
