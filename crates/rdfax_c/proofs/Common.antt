-- What the proofs of this crate cite of the crates below, and of its own definitions.
pub use Rattle.rdfax_c.specs.Calls.{KeepsOpened, LendsQuad, OpensPage, bytes_given, extraction_by}
pub use Rattle.rdfax_c.specs.Held.{boxed, held}
pub use Rattle.rdfax_c.specs.contracts.loose.Loose.into_box.{clauses, ended}
pub use Rattle.rx_items.proofs.Common.{Err, List, None, Option, Result, Some, [], ap, false, inl, inr, is_some, refl, rules, subst, sym, true, ℕ, ◌++◌, ◌∙◌, ◌∷◌, ◌≡◌}
pub use Rattle.rx_nest.proofs.Common.{lit<}
pub use Rattle.rx_session.specs.Requests.{SessionOpenGives, bytes_in, check_in, items_wanted}
pub use Rattle.rx_session.specs.declared.sessions.State.{State}
pub use Rattle.std.proofs.BoxSteps.Steps.{box_in, box_out}
pub use Rattle.std.proofs.alloc.Calls.{Al, Goes-blank, handle_tells}
pub use Rattle.std.proofs.boxed.Box.from_raw.Met.{met}
pub use Rattle.std.proofs.cell.Inside.{Good, one}
pub use Rattle.std.proofs.raw_atomic.Calls.{fm}
pub use Rattle.std.proofs.raw_atomic.Walks.{leaves, proved, proved_at}
pub use Rattle.std.specs.Box.Ownership.{box_owns}
pub use Rattle.std.specs.contracts.impls.GlobalAllocator.TheImpl.{ghosts}
pub use base.Fml.{flft, fsep, ftrue}
pub use base.Logic.{SProp, emp, ent, fst∗, id⊢, never}
pub use contract.Monad.{fact, fact_i}
pub use contract.Running.{tables}
pub use denote.Builtin.{RawPtr}
pub use denote.Exit.{no, yes}
pub use denote.Memory.{lone}
pub use denote.Param.Laws.{Laws, param_laws}
pub use denote.Param.{bounded, layout, param}
pub use denote.RattleType.{RattleType, Valss, owns}
pub use denote.RawPtr.{Ptr, block_ptr, in_a_block, null_ptr, ptr_val}
pub use denote.Signature.{plain, types_at}
pub use denote.Steps.{heard, nothing, only, peeks}
pub use denote.Struct.Owning.{shape}
pub use denote.Struct.Struct.{Struct, within}
pub use denote.Struct.Tuple.{Tuple}
pub use denote.Triple.Call.{calls_at, calls_at_last}
pub use denote.Triple.Spec.{triple_of}
pub use denote.Triple.Walked.{Stays, ends_at, says, stay_dropped, walk_of}
pub use mir.MapTy.{inst_fn}
pub use mir.Syntax.{a_type, dcons, dnil, impl, tnil}
pub use mir.Val.{Val, WT, has_ty, of_list, vcons, vnil, vptr, vstruct, vunit}
pub use prog.Wp.{WpFn}
pub use seplogic.Ra.Ura.{Ura}
pub use types.ByLocal.{alloc_all, env, free_all, get, get_in, lands_as, lands_last, look_at, pass_all, sets}
pub use types.Kit.{ !, Goal, Item, Seq, Step, at_ret, await, by, done, drop, feq_i, feq_l, fjoin, fjoin3, fpack, fpick, fsplit, fsplit3, join, keep, later, move, pick, qed, raw, rewrite, some, split, split3, step, suffices, use0, use1, ‵, ◌$◌, ◌∵◌, ◌⊛◌}
pub use types.Logic.{Logic, sem}
pub use types.Part.{agg, sub, whole}
pub use types.Run.{and_then, blocks, enter, exec, first, fld, lit, no_more, of_opd, returns, stop, unit_lit}
