-- What the walks of this crate use, in one place.
pub use Rattle.shared_row.proofs.Names.{◌≡◌, ℕ, List, [], ◌∷◌, sym, refl, a_type, dcons, dnil, named, Val, vptr, inst_fn, SProp, emp, Fml, ftrue, fsep, flft, ‵, raw, ◌⊛◌, given, ◌$◌, ◌∵◌, !, qed, by, move, keep, drop, split, split3, join, fsplit, fsplit3, fjoin, fjoin3, learn, use0, rewrite, feq_i, stop, fld, of_opd, no_more, and_then, returns, enter, alloc_all, pass_all, free_all, look_at, get, sets, sub, whole, tables, RattleType, owns, types_at, plain, Ptr, nothing, param, bounded, Stays, stay_dropped, walk_of, Goes-dropped, fact, fact_i, u64, mut_vals, mut_Tells, stay_ref, Goes-ref, opens, closes, pick, some, later, await, use1, use2, InBlock, length, get_in, no, unit, TableId, mine, proved, leaves, ◌*◌, ◌^◌, ◌<◌, ap, subst, w64, vint, at_ret, first, blocks, exec, lands_last, is, env, yes, block_ptr, ptr_val, block_of, count_of, at_block, usize, uint_vals, uint_Tells, WT, calls_at_last, mem, ◌∙◌, Bool, true, replicate, length-replicate, get_or-replicate, tail, fm, Final, Seen, strip, table_owns, strip_lies, table_lies, gathers_with, full_share, ⊑_static, false, get_or, El, row_val, slots_ptr, slots_len, slots_items, IsFull, Places, places, row_Typed, From, at_from, Made, from_goes, from_gives, of_strip, alive, gathers, arith, lit<, ent, agg, RefOf, Valss, fpack, of_list, vstruct, WpFn, id⊢, suffices, ◌++◌, feq_l, slots_filled, slots_counts, proved_at, parts_typed, Row-seen, Into, at_into, Into-goes, Into-gives, to_strip, opening, deals, ◌+◌, sep, sem, mean, fpick, use3, load, lit, Calls-last, through, look_in, via, shr_vals, shr_Tells, asks, always, Splits, age, forks, two, seq_cst, found, finds, loads, fex, vunit, unit_lit, Joins, absorbs, merged, flt_i, bin, obor_close, shr_bor-open, seated_fact, shuts, tokens_halve, none, Me, step, Allows, steps, after, stored, has_stored, stores, either, eqb, exchanges, ◌%◌, adds, bit_or, ors, bit_and, ands, Lft, heard, Share, ◌⊑◌, calls_at, ty_array, Incl-trans, froom, align, capped, capped_fits, size_word, align_word, elτ, Al, Takes, at_takes, Takes-goes, Takes-gives, Answered, Answer-typed, answers, past, head, arm_body, args, P, lease_val, uncapped, block_ty, block_size, block_align, sz, of_room, Wp, after_seq, at_return, After, any_q, live, vrt, in_variant, switches_on, get_tag, lands_as, sets_last, CodeBody, vcons, vnil, Is, owned, Struct, Struct-Makes, within_struct, Tuple, tuple_type, Ok, Err, ok_of, err_of, ty_unit, has_ty, T, token, Gives, at_gives, Gives-goes, Gives-Gives, to_room}
pub use Rattle.shared_row.specs.contracts.shared_words.RowSeat.{the_row as Seat}
pub use Rattle.shared_row.proofs.Reached.{Row as Shared, invariant_of, finds_start, takes_seat, shuts_seat, lets_go, seated}
pub use Rattle.shared_row.proofs.Values.{BareFields, bare_val, word_laws, bare_told, bare_fits, SeatFields, seat_val, seat_made, bare_made, opened_val, opened_fits}
pub use Rattle.shared_row.specs.Words.{AllFit}
pub use Rattle.shared_row.proofs.Fitting.{strip_fits}
pub use Rattle.shared_row.proofs.Leases.{Rr, granted, right_made, right_had}
pub use Rattle.shared_row.proofs.Glanced.{Has, finds_word}
