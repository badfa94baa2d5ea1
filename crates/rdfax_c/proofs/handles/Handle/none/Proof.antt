-- `none` makes a handle of the null pointer, which owns nothing.
use Rattle.rdfax_c.proofs.Common.{[], ◌∷◌, refl, None, id⊢, ftrue, tables, agg, of_opd, no_more, and_then, returns, enter, alloc_all, pass_all, free_all, look_at, sets, null_ptr, nothing, says, Stays, walk_of, ends_at, ‵, raw, ◌⊛◌, ◌$◌, ◌∵◌, !, qed, done, drop, use1, split, join, suffices, held, proved, lit}
use denote.Triple.Entry.{on_entry}
use Rattle.rdfax_c.proofs.HandleSteps.{Handle, word, handle_good, handle_in}
use Rattle.rdfax_c.specs.contracts.handles.Handle.none as f
use Rattle.rdfax_c.proofs.handles.Handle.none.Statement.{statement}
use Rattle.rdfax_c.proofs.handles.Handle.none.Code as code

abbrev stayed : Stays f.ended.signature.params f.ended.kept
stayed = tt

pub none_spec : {M : Type 1} → statement M
none_spec 𝓤 𝓛 𝓜 𝓡 wired =
    let c = f.clauses 𝓛 𝓜.mem 𝓡.returns in let W = walk_of 𝓛 f.ended stayed c in let 𝓣 = tables 𝓤 𝓛.H 𝓜 𝓡 𝓡.env in
    proved 𝓛 f.ended stayed c 𝓜 𝓡 tt f.Key.name code.function (code.unfolded 𝓤 𝓛.H 𝓜 𝓡 wired)
    (λ κs. tt) (λ κs. tt) (λ κs qs bounds a n are.
    let y : W.Ghost = ((κs, qs, bounds, a, tt), n) in let made : Handle.Denot = record { at = null_ptr; session = None } in
    qed 𝓛 (raw (on_entry 𝓛 f.signature κs qs a tt) ∷ ‵ ftrue ∷ []) ∵ drop ! $ drop ! $
    enter ! _ _ _ _ _ $ alloc_all ! (λ l. pass_all ! refl tt $
    sets ! (agg ! (and_then ! (lit ! tt) (no_more !))) refl (handle_good null_ptr) $
    returns ! (look_at ! 0 refl) $ free_all ! refl $
    nothing ! $ use1 𝓛 (‵ (held null_ptr None)) (id⊢ 𝓤 _) $ handle_in ! made $
    suffices ! _ (ends_at 𝓛 f.ended stayed c y (word null_ptr) made tt tt) $ says ! refl $ nothing ! $ nothing ! $ done !))
