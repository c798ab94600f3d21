-- The names of the logic, and of the crates below, that the proofs of this crate use, in one place.
pub use Rattle.atomic_table.proofs.Names.{◌≡◌, ℕ, ◌+◌, ◌*◌, ◌%◌, ◌^◌, ◌<◌, List, [], ◌∷◌, sym, refl, ap, subst, arith, lit<, w64, a_type, dcons, dnil, named, Val, vunit, vint, vptr, inst_fn, SProp, ent, sep, emp, Lft, Fml, ftrue, fsep, flft, sem, ‵, raw, ◌⊛◌, given, mean, at_ret, ◌$◌, ◌∵◌, !, qed, by, move, keep, drop, split, split3, join, fsplit, fsplit3, fjoin, fjoin3, fpick, learn, use0, use3, rewrite, feq_i, flt_i, stop, fld, load, lit, unit_lit, of_opd, bin, no_more, and_then, first, blocks, exec, Calls-last, returns, enter, alloc_all, pass_all, free_all, look_at, get, through, sets, lands_last, is, env, agg, sub, whole, look_in, tables, yes, RattleType, owns, types_at, plain, Ptr, block_ptr, ptr_val, nothing, param, bounded, Stays, stay_dropped, walk_of, Goes-dropped, fact, fact_i, block_of, count_of, at_block, via, RefOf, usize, u64, mut_vals, mut_Tells, shr_vals, shr_Tells, uint_vals, uint_Tells, stay_ref, Goes-ref, bit_or, bit_and, opens, closes, obor_close, shr_bor-open, Valss, pick, some, later, await, use1, use2, fpack, of_list, vstruct, InBlock, alive, length, get_in, no, WT, heard, layouts, WpFn, id⊢, suffices, Share, calls_at_last, mem, ◌∙◌, Bool, true, replicate, length-replicate, get_or-replicate, ◌⊑◌, ◌++◌, cell_at, Is, shows, peeks, Ura, vcons, vnil, Logic, makes_shadow, u64-laws, u64-copy, u64-field, copy_shared, Tuple, feq_l, full_share, Body, fobs, fbor, guard_i, tokens_halve, fact_use, hidden_shr, part_at, looks, shuts, unhide, lent_out, zero, suc, done, calls_at, capped, size_word, live, lands_as, sets_last, all, apply∗, all_e, each}
pub use base.Fml.{GName, fhide, feq, fobor, fauth, fex, Incl-trans, froom}
pub use base.Logic.{guard, upd, ex, upd_i}
pub use base.Shift.{Keyless}
pub use base.Stored.{Gv}
pub use contract.BorrowLft.{⊑_static}
pub use denote.Builtin.{unit}
pub use denote.Copied.{Struct-Copied}
pub use denote.Opens.{Opens, Shut}
pub use denote.Param.Laws.{Laws, of_field}
pub use denote.Param.Send.{IsSend, IsSync, Frees, part_keyless, Common, sendable}
pub use denote.RawPtr.{null_ptr, lies_at, room_for, in_block, ◌+ₚ◌}
pub use denote.Shadow.{pure_i}
pub use denote.Steps.{owned}
pub use denote.Struct.Field.{RawPtr-field}
pub use denote.Struct.Laws.{RawPtr-copy, field_copy}
pub use denote.Struct.Lending.{of_Lends}
pub use denote.Struct.Owning.{shape}
pub use denote.Struct.Struct.{Struct, Struct-Makes, within as within_struct}
pub use denote.Struct.Tuple.{tuple_type}
pub use lib.Dec.{eqb}
pub use lib.ListN.{get_or}
pub use mathlib.Core.Bool.{false}
pub use mathlib.Core.Option.{none}
pub use mir.Syntax.{Ty, ty_ptr, ty_struct, tcons, tnil, ty_int, ty_array, Body as CodeBody, ty_unit}
pub use mir.Val.{has_ty}
pub use prog.Atomic.{either}
pub use prog.Capped.{capped_fits}
pub use prog.Memory.{align}
pub use prog.Wp.{Wp, after_seq, at_return}
pub use types.ByLocal.{get_tag}
pub use types.Kit.{Goal, Step, step as kit_step, Seq, Item, Soaks, check, Post as After, any_q, show, frame, assume, done}
pub use types.Match.{vrt, in_variant}
pub use types.Run.{align_word, switches_on}
pub use types.SemTy.{cells}
pub use Rattle.atomic_table.proofs.Calls.{fm, seq_cst, found, stored, finds, has_stored, loads, stores, adds, ors, ands, exchanges}
pub use Rattle.atomic_table.proofs.Dealing.{strip_lies, table_lies, gathers_with, gathers, deals}
pub use Rattle.atomic_table.proofs.Moves.{steps, forks, two, absorbs, merged, after, placed}
pub use Rattle.atomic_table.proofs.Raw.{Row as Places, all as places, row_Typed, From, at_from, Made, from_goes, from_gives, of_strip, parts_typed, Row-seen, Into, at_into, Into-goes, Into-gives, to_strip}
pub use Rattle.atomic_table.proofs.Sent.{shares_keyless, owns_keyless, seat_keyless}
pub use Rattle.atomic_table.proofs.Shown.{shown_laws, lends_shown}
pub use Rattle.atomic_table.proofs.Walks.{proved, leaves, proved_at}
pub use Rattle.atomic_table.specs.Seated.{TableId, fact as seated_fact, age, mine, Placed, common, lasts, word, strip, table_owns, row, standing, inner}
pub use Rattle.atomic_table.specs.Table.{Me, step, Allows, Splits, Joins, Final, Seen, opening, State}
pub use Rattle.atomic_table.specs.declared.shared.TableRule.{Ghosts as RuleGhosts}
pub use Rattle.core.proofs.alloc.Calls.{Al, token, Takes, at_takes, Takes-goes, Takes-gives, Answered, Answer-typed, answers, Gives, at_gives, Gives-goes, Gives-Gives}
pub use Rattle.core.proofs.atomic.Steps.{tail}
pub use Rattle.core.proofs.mem.Param.{El, R, elτ}
pub use Rattle.core.proofs.once.Made.{ok_of, err_of}
pub use Rattle.core.proofs.slots.Bodies.{after as past, head, arm_body}
pub use Rattle.core.proofs.slots.Leases.{lease_val, block_ty, P, args, uncapped, block_size, block_align}
pub use Rattle.core.proofs.slots.Opens.{row_val}
pub use Rattle.core.proofs.slots.Places.{sz, of_room, to_room}
pub use Rattle.core.proofs.tally.Steps.{word_out, word_in}
pub use Rattle.core.specs.Mem.Slots.{slots_ptr, slots_len, slots_items, slots_filled, IsFull, slots_counts}
pub use Rattle.core.specs.Mem.Slots.Ownership.{bytes_of, slot, slots, slot_lent, slots_lent}
pub use Rattle.core.specs.Sync.RawAtomic.{asks, always}
pub use Rattle.core.specs.declared.alloc.Allocator.{Ghosts as AllocatorGhosts}
pub use Rattle.core.specs.declared.result.Result.TheVariants.{Ok, Err}
pub use Rattle.std.proofs.Common.{T, set}
pub use Rattle.std.proofs.Crossing.{frees, send, sync}
pub use Rattle.core.proofs.raw_atomic.Asked.{borrowed, Lies, Again}
pub use Rattle.atomic_table.proofs.Roster.{row_at, Reset}
