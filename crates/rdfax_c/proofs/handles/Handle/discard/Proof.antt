-- `discard` lets a handle go that owns nothing.
use Rattle.rdfax_c.proofs.Common.{◌≡◌, List, [], ◌∷◌, ◌++◌, refl, sym, subst, proved_at, leaves, SProp, ent, id⊢, ftrue, WpFn, Val, tables, whole, sub, stop, fld, of_opd, returns, enter, alloc_all, pass_all, free_all, look_at, get, get_in, sets, yes, owns, plain, types_at, nothing, Stays, stay_dropped, walk_of, ends_at, Goes-blank, ‵, raw, ◌⊛◌, ◌$◌, ◌∵◌, !, qed, by, drop, keep, use1, split, fsplit, join, feq_i, suffices, vunit, unit_lit}
use Rattle.rdfax_c.proofs.HandleSteps.{Handle, word, pointer_good, handle_good, handle_out}
use Rattle.rdfax_c.specs.contracts.handles.Handle.discard as f
use Rattle.rdfax_c.proofs.handles.Handle.discard.Statement.{statement}
use Rattle.rdfax_c.proofs.handles.Handle.discard.Code as code

abbrev stayed : Stays f.ended.signature.params f.ended.kept
stayed = (stay_dropped (plain (λ _. Handle)) yes, tt)

pub discard_spec : {M : Type 1} → statement M
discard_spec 𝓤 𝓛 𝓜 𝓡 wired =
    let H = 𝓛.H in let 𝓣 = tables 𝓤 H 𝓜 𝓡 𝓡.env in let c = f.clauses 𝓛 𝓜.mem 𝓡.returns in let fn = code.function in
    proved_at 𝓛 f.ended stayed c 𝓜 𝓡 (Goes-blank 𝓛 0 (plain (λ _. Handle)) yes (λ κs x e. tt), tt) f.Key.name fn (code.unfolded 𝓤 H 𝓜 𝓡 wired) (λ z are.
    let κs = z.0.0 in let v = z.0.3.0 in let Post : Val → SProp 𝓤 = (walk_of 𝓛 f.ended stayed c).post z in let Run : List Val → SProp 𝓤 = λ ws. WpFn 𝓤 H 𝓣.C 𝓣.Λ fn ws Post in
    qed 𝓛 ((‵ ftrue ⊛ ‵ (owns (types_at f.ended.signature.params κs) z.0.3 z.0.4)) ∷ raw ((c κs z.0.3).requires z.1) ∷ []) ∵ split ! $ drop ! $ fsplit ! $ handle_out ! v z.0.4.0 (λ ws. drop ! $ drop ! $
    suffices ! (Run (word v.at ∷ [])) (subst (λ (us : List Val). ent 𝓤 (Run (word v.at ∷ [])) (Run us)) (sym (λ i. ws i ++ [])) (id⊢ 𝓤 (Run (word v.at ∷ [])))) $
    enter ! 𝓣.C 𝓣.Λ fn (word v.at ∷ []) Post $ alloc_all ! (λ l. pass_all ! refl (handle_good v.at, tt) $
    sets ! (of_opd ! (get_in ! (fld ! refl (stop !)) (sub ! 0 refl (whole !)))) refl (pointer_good v.at) $ sets ! (of_opd ! (get ! refl)) refl (pointer_good v.at) $
    sets ! (of_opd ! (unit_lit !)) refl (tt, tt) $ returns ! (look_at ! 0 refl) $ free_all ! refl $
    nothing ! $ feq_i ! (List Val) (vunit ∷ []) (vunit ∷ []) refl $ nothing ! $ nothing ! $ join ! $ nothing ! $ keep ! (0 ∷ 1 ∷ 2 ∷ 3 ∷ []) $
    by ! (leaves 𝓛 f.ended stayed c z vunit tt (tt, tt) (tt, tt)))))
