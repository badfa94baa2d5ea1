-- `release` gives the box's pointer back.
use Rattle.rdfax_c.proofs.Common.{◌≡◌, List, [], ◌∷◌, ◌++◌, ◌∙◌, refl, sym, ap, subst, Option, Some, None, is_some, true, false, proved_at, SProp, ent, id⊢, never, fst∗, ftrue, WpFn, Val, vptr, sem, tables, whole, sub, agg, stop, fld, of_opd, no_more, and_then, returns, enter, alloc_all, pass_all, free_all, look_at, get, get_in, sets, impl, tnil, dnil, yes, RattleType, owns, Ptr, block_ptr, null_ptr, in_a_block, plain, types_at, nothing, heard, says, Stays, stay_dropped, walk_of, ends_at, Al, Goes-blank, handle_tells, fact, ‵, raw, ◌⊛◌, ◌$◌, ◌∵◌, !, qed, done, drop, move, keep, use1, split, fsplit, fpick, join, feq_i, rewrite, suffices, lone, ghosts, State, boxed, held}
use mir.Raw.{raw as bare}
use Rattle.std.specs.contracts.alloc.Global as global
use Rattle.std.proofs.alloc.Global.TheLaws as global_laws
use Rattle.rx_session.specs.contracts.sessions.Session as session
use Rattle.rdfax_c.proofs.Values.{both, Loose, loose_good, loose_in}
use Rattle.rdfax_c.proofs.HandleSteps.{Handle, word, pointer_good, handle_good, handle_out}
use Rattle.rdfax_c.specs.contracts.handles.Handle.release as f
use Rattle.rdfax_c.proofs.handles.Handle.release.Statement.{statement}
use Rattle.rdfax_c.proofs.handles.Handle.release.Code as code

abbrev L : RattleType
L = Loose session.the_row global.the_row global_laws.the_row_laws ghosts

abbrev al : Al
al = record { row = global.the_row; laws = global_laws.the_row_laws; g = ghosts; d = impl [] tnil dnil; drops = impl [] tnil dnil }

abbrev stayed : Stays f.ended.signature.params f.ended.kept
stayed = (stay_dropped (plain (λ _. Handle)) yes, (stay_dropped (plain (λ _. global.the_row)) yes, tt))

-- a handle that holds something holds a value
holds_one : (x : Option State) → is_some x ≡ true → (s : State) × (x ≡ Some s)
holds_one None e = absurd (cc)
holds_one (Some s) e = (s, refl)

pub release_spec : {M : Type 1} → statement M
release_spec 𝓤 𝓛 𝓜 𝓡 wired =
    let H = 𝓛.H in let 𝓣 = tables 𝓤 H 𝓜 𝓡 𝓡.env in let c = f.clauses 𝓛 𝓜.mem 𝓡.returns in let fn = code.function in
    proved_at 𝓛 f.ended stayed c 𝓜 𝓡 (Goes-blank 𝓛 0 (plain (λ _. Handle)) yes (λ κs x e. tt), (Goes-blank 𝓛 0 (plain (λ _. global.the_row)) yes (λ κs x e. tt), tt)) f.Key.name fn (code.unfolded 𝓤 H 𝓜 𝓡 wired) (λ z are.
    let κs = z.0.0 in let v = z.0.3.0 in let a = z.0.3.1.0 in let Post : Val → SProp 𝓤 = (walk_of 𝓛 f.ended stayed c).post z in let Run : List Val → SProp 𝓤 = λ ws. WpFn 𝓤 H 𝓣.C 𝓣.Λ fn ws Post in
    qed 𝓛 ((‵ ftrue ⊛ ‵ (owns (types_at f.ended.signature.params κs) z.0.3 z.0.4)) ∷ raw (fact 𝓤 (is_some v.session ≡ true)) ∷ []) ∵ move ! (1 ∷ []) $ heard ! _ (λ some.
    let one = holds_one v.session some in
    split ! $ drop ! $ fsplit ! $ handle_out ! v z.0.4.0 (λ ws.
    rewrite ! 0 (λ (x : Option State). ‵ (held v.at x)) one.1 refl $ fpick ! (λ heap.
    in_a_block ! v.at (λ p. boxed p one.0 heap) (fst∗ 𝓤 (never 𝓤) (sem 𝓛 (ghosts.dealloc_token heap (bare (lone session.the_row.mir)) null_ptr))) (λ b o e.
    move ! (1 ∷ []) $ fsplit ! $ handle_tells al ! a z.0.4.1.0 (λ h ea fits.
    -- [the allocator; nothing; what the box owns]
    let made : L.Denot = record { at = block_ptr b o; alloc = a; value = one.0 } in
    move ! (1 ∷ []) $ drop ! $ move ! (1 ∷ 0 ∷ []) $ loose_in session.the_row global.the_row global_laws.the_row_laws ghosts ! b o h a one.0 $
    let ws' : List Val = word (block_ptr b o) ∷ h ∷ [] in let is = ws ∙ ap (λ (p : Ptr). word p ∷ []) e in
    suffices ! (Run ws') (subst (λ (us : List Val). ent 𝓤 (Run ws') (Run us)) (sym (λ i. is i ++ (ea i ++ []))) (id⊢ 𝓤 (Run ws'))) $
    enter ! 𝓣.C 𝓣.Λ fn ws' Post $ alloc_all ! (λ l. pass_all ! refl (handle_good (block_ptr b o), (fits, tt)) $
    sets ! (of_opd ! (get_in ! (fld ! refl (stop !)) (sub ! 0 refl (whole !)))) refl (tt, tt) $ sets ! (of_opd ! (get ! refl)) refl (tt, tt) $
    sets ! (agg ! (and_then ! (get ! refl) (and_then ! (get ! refl) (no_more !)))) refl (loose_good session.the_row global.the_row global_laws.the_row_laws ghosts b o h fits) $
    returns ! (look_at ! 0 refl) $ free_all ! refl $
    suffices ! _ (ends_at 𝓛 f.ended stayed c z (both (vptr b o) h) made (tt, (tt, tt)) (tt, (tt, tt))) $ says ! (sym one.1) $
    move ! (0 ∷ []) $ nothing ! $ nothing ! $ join ! $ nothing ! $ join ! $ nothing ! $ done !)))))))
