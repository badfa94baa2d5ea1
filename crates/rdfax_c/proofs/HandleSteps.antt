-- What a handle owns, by its machine value. Assumes `Logic`.
use Rattle.rdfax_c.proofs.Common.{◌≡◌, List, [], ◌∷◌, ◌++◌, refl, subst, lit<, Val, vstruct, vcons, vnil, of_list, Logic, RattleType, Valss, layout, Ptr, block_ptr, null_ptr, ptr_val, nothing, Ura, Item, Goal, Seq, Step, step, ‵, ◌$◌, drop, fsplit, fjoin, fpick, fpack, feq_i, feq_l, RawPtr, within, shape, Good, held}
use Rattle.rdfax_c.specs.contracts.handles.Handle as handle

abbrev pub Handle : RattleType
Handle = handle.the_row

-- the machine value of a handle at this pointer
abbrev pub word : Ptr → Val
word p = vstruct (vcons (ptr_val p) vnil)

pub pointer_good : (p : Ptr) → Good (layout RawPtr) (ptr_val p)
pointer_good (block_ptr b o) = (tt, tt)
pointer_good null_ptr = (tt, record { fits = lit< tt })

pub handle_good : (p : Ptr) → Good (layout Handle) (word p)
handle_good (block_ptr b o) = (tt, (tt, tt))
handle_good null_ptr = (tt, (record { fits = lit< tt }, tt))

module _ {M : Type 1} {𝓤 : Ura M} {𝓛 : Logic 𝓤} {K : Type 0} {Γ : List (Item 𝓤)} {G : Goal 𝓤 𝓛.H} where
  pub handle_out : K → (d : Handle.Denot) (vs : List Val) → (vs ≡ word d.at ∷ [] → Seq K 𝓛 (‵ (held d.at d.session) ∷ Γ) G) → Seq K 𝓛 (‵ (Handle.own_val d vs) ∷ Γ) G
  handle_out t d vs k =
      fsplit t $ fpick t (λ vss. fsplit t $ feq_l t (λ ev. fsplit t $ feq_l t (λ ep. drop t $ k
      (subst (λ (ps : List Val). vs ≡ vstruct (of_list (ps ++ [])) ∷ []) ep ev))))

  pub handle_in : K → (d : Handle.Denot) → Step K 𝓛 (‵ (Handle.own_val d (word d.at ∷ [])) ∷ Γ) G (‵ (held d.at d.session) ∷ Γ) G
  handle_in t d = step (λ s. let v : Val = word d.at in
      nothing t $ feq_i t (List Val) (ptr_val d.at ∷ []) (ptr_val d.at ∷ []) refl $ fjoin t $ feq_i t (List Val) (v ∷ []) (v ∷ []) refl $ fjoin t $
      fpack t (Valss (RawPtr ∷ [])) (within (shape handle.the_type) (d.at, tt) (v ∷ [])) (ptr_val d.at ∷ [], tt) $ fjoin t $ s)
