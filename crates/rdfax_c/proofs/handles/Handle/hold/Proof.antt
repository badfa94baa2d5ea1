-- `hold` keeps a box's pointer, and owns what the box did.
use Rattle.rdfax_c.proofs.Common.{◌≡◌, List, [], ◌∷◌, ◌++◌, refl, sym, subst, Some, proved_at, SProp, ent, id⊢, ftrue, WpFn, Val, vptr, tables, whole, sub, agg, stop, fld, of_opd, no_more, and_then, returns, enter, alloc_all, pass_all, free_all, look_at, get, get_in, sets, yes, RattleType, owns, block_ptr, plain, types_at, nothing, says, Stays, stay_dropped, walk_of, ends_at, Goes-blank, ‵, raw, ◌⊛◌, ◌$◌, ◌∵◌, !, qed, done, drop, move, keep, use1, split, fsplit, fpack, join, feq_i, suffices, ghosts, boxed}
use Rattle.std.specs.contracts.alloc.Global as global
use Rattle.std.proofs.alloc.Global.TheLaws as global_laws
use Rattle.rx_session.specs.contracts.sessions.Session as session
use Rattle.rdfax_c.proofs.Values.{both, Loose, loose_good, loose_out}
use Rattle.rdfax_c.proofs.HandleSteps.{Handle, word, handle_good, handle_in}
use Rattle.rdfax_c.specs.contracts.handles.Handle.hold as f
use Rattle.rdfax_c.proofs.handles.Handle.hold.Statement.{statement}
use Rattle.rdfax_c.proofs.handles.Handle.hold.Code as code

abbrev L : RattleType
L = Loose session.the_row global.the_row global_laws.the_row_laws ghosts

abbrev stayed : Stays f.ended.signature.params f.ended.kept
stayed = (stay_dropped (plain (λ _. L)) yes, tt)

pub hold_spec : {M : Type 1} → statement M
hold_spec 𝓤 𝓛 𝓜 𝓡 wired =
    let H = 𝓛.H in let 𝓣 = tables 𝓤 H 𝓜 𝓡 𝓡.env in let c = f.clauses 𝓛 𝓜.mem 𝓡.returns in let fn = code.function in
    proved_at 𝓛 f.ended stayed c 𝓜 𝓡 (Goes-blank 𝓛 0 (plain (λ _. L)) yes (λ κs x e. tt), tt) f.Key.name fn (code.unfolded 𝓤 H 𝓜 𝓡 wired) (λ z are.
    let κs = z.0.0 in let v = z.0.3.0 in let Post : Val → SProp 𝓤 = (walk_of 𝓛 f.ended stayed c).post z in let Run : List Val → SProp 𝓤 = λ ws. WpFn 𝓤 H 𝓣.C 𝓣.Λ fn ws Post in
    qed 𝓛 ((‵ ftrue ⊛ ‵ (owns (types_at f.ended.signature.params κs) z.0.3 z.0.4)) ∷ raw ((c κs z.0.3).requires z.1) ∷ []) ∵ split ! $ drop ! $ fsplit ! $
    loose_out session.the_row global.the_row global_laws.the_row_laws ghosts ! v z.0.4.0 (λ b o h e ws fits.
    let made : Handle.Denot = record { at = block_ptr b o; session = Some v.value } in
    -- [what the box owns; the allocator; nothing; nothing]
    move ! (1 ∷ []) $ drop ! $ move ! (1 ∷ []) $ drop ! $ move ! (1 ∷ []) $ drop ! $
    use1 𝓛 (‵ (boxed (block_ptr b o) v.value v.alloc)) (id⊢ 𝓤 _) $ fpack ! global.the_row.Denot (boxed (block_ptr b o) v.value) v.alloc $ handle_in ! made $
    suffices ! (Run (both (vptr b o) h ∷ [])) (subst (λ (us : List Val). ent 𝓤 (Run (both (vptr b o) h ∷ [])) (Run us)) (sym (λ i. ws i ++ [])) (id⊢ 𝓤 (Run (both (vptr b o) h ∷ [])))) $
    enter ! 𝓣.C 𝓣.Λ fn (both (vptr b o) h ∷ []) Post $ alloc_all ! (λ l. pass_all ! refl (loose_good session.the_row global.the_row global_laws.the_row_laws ghosts b o h fits, tt) $
    sets ! (of_opd ! (get_in ! (fld ! refl (stop !)) (sub ! 0 refl (whole !)))) refl (tt, tt) $ sets ! (of_opd ! (get_in ! (fld ! refl (stop !)) (sub ! 1 refl (whole !)))) refl fits $
    sets ! (of_opd ! (get ! refl)) refl fits $ sets ! (of_opd ! (get ! refl)) refl (tt, tt) $
    sets ! (agg ! (and_then ! (get ! refl) (no_more !))) refl (handle_good (block_ptr b o)) $ returns ! (look_at ! 0 refl) $ free_all ! refl $
    suffices ! _ (ends_at 𝓛 f.ended stayed c z (word (block_ptr b o)) made (tt, tt) (tt, tt)) $ says ! refl $
    nothing ! $ nothing ! $ join ! $ nothing ! $ done !)))
