-- The names that the contracts of sessions cite, passed on from one place. Declares nothing.
pub use Rattle.heap_layout.specs.Blocks.{all_kinds}
pub use Rattle.heap_layout.specs.Zones.{IsAddress, block_at, block_start, offset_at}
pub use Rattle.heap_layout.specs.declared.block.Kind.{Kind}
pub use Rattle.heap_layout.specs.declared.layout.TheConstants.{BLOCK_LINES}
pub use Rattle.ideal_heap.specs.Commands.{is_gc, is_meet, is_new, size_wanted}
pub use Rattle.ideal_heap.specs.Ideal.{IdealHeap, empty}
pub use Rattle.ideal_heap.specs.Names.{IsName}
pub use Rattle.ideal_heap.specs.Reach.{PathReaches}
pub use Rattle.ideal_heap.specs.Runs.{Entry, IsMutator, IsOrderPrefix, IsRun, alone, commands_of, entry, heap_after_run}
pub use Rattle.ideal_heap.specs.Runs.{is_full, of_mutator, replies_of, trace_of}
pub use Rattle.ideal_heap.specs.declared.command.Command.{Command}
pub use Rattle.ideal_heap.specs.declared.name.Name.{Name}
pub use Rattle.object_model.specs.Ages.{RemembersYoung, is_logged, is_old}
pub use Rattle.object_model.specs.Births.{IsLargeRoom, IsRoom, WritesLargeObject, with_block}
pub use Rattle.object_model.specs.Graphs.{IsReachable, MutatorState, new_mutator, numbers_of, roots_of}
pub use Rattle.object_model.specs.Lawful.{IsClear, IsLawful, IsWellFormed, LineBitsAreExact}
pub use Rattle.object_model.specs.Objects.{HasKind, HeapState, IsHeld, IsInExtent, block_word, blocks_for, cell_words}
pub use Rattle.object_model.specs.Objects.{class_at, empty_heap, global_at, is_pinned, is_start, is_unlogged}
pub use Rattle.object_model.specs.Objects.{line_marked, name_at, num_at, number_at, nums_at, ref_at, refs_at, size_at}
pub use Rattle.object_model.specs.Objects.{size_of, word_at}
pub use Rattle.object_model.specs.WorkedHeaps.{plain_object, unowned}
pub use Rattle.object_model.specs.declared.collect.Collect.{Collect}
pub use Rattle.object_model.specs.declared.collect.Collect.TheVariants.{Full, Nursery}
pub use Rattle.sessions.specs.Collecting.{Collects, IsCollection, IsEmptied, IsNurseryReachable, Remembers}
pub use Rattle.sessions.specs.Collecting.{first_collection, holes_in, is_candidate, is_evacuated, is_hole_start}
pub use Rattle.sessions.specs.Collecting.{is_logged_under, is_old_under, is_recyclable, marked_in, may_move, still_free}
pub use Rattle.sessions.specs.Collecting.{young_blocks}
pub use Rattle.sessions.specs.Fitting.{Fits, HasCellFor, HasHole, HasSomeHole, IsFreeRun, IsLineHole, IsTail}
pub use Rattle.sessions.specs.Fitting.{LiesInHole, MayGrant, MayGrantRun, allowance_of, class_for, class_of, counts_of}
pub use Rattle.sessions.specs.Fitting.{free_of, headroom_of, total_of, used_of}
pub use Rattle.sessions.specs.Grants.{BlockCounts, HoldsReserve, IsGrantable, IsRunGrantable, after_taking, all_plans}
pub use Rattle.sessions.specs.Grants.{allowance_in, allowances, counts_with, headroom_in, total_in, used_in}
pub use Rattle.sessions.specs.Plans.{Copies, GenCopy, Headroom, Immix, MarkSweep, NoGc, Nothing, Plan, Reserve, Rules}
pub use Rattle.sessions.specs.Plans.{SemiSpace, StickyImmix, plan_word, rules_of}
pub use Rattle.sessions.specs.Sessions.{AddsObject, AtEnd, AtGc, AtMeet, AtNeed, Cause, ChangesBlocks, CollectsFor}
pub use Rattle.sessions.specs.Sessions.{EndsBy, ExhaustsAllowance, InSession, IsBirth, IsEpoch, IsOfPart, IsSound}
pub use Rattle.sessions.specs.Sessions.{IsWhole, LeavesNoGap, MakesCollection, Meets, Moment, Needs, OnlyReplies}
pub use Rattle.sessions.specs.Sessions.{Places, PlacesLarge, PlacesSmall, Raised, RunsPart, ServesAll, ServesNeed}
pub use Rattle.sessions.specs.Sessions.{Setting, Stopped, StoresInto, UsesBlock, UsesRun, all_done, birth_count}
pub use Rattle.sessions.specs.Sessions.{counts_after, first_moment, ideal_at, is_at_gc, is_at_meet, is_at_need}
pub use Rattle.sessions.specs.Sessions.{is_waiting, next_in, refused_entry, traced_mutators}
pub use Rattle.sessions.specs.WorkedCollections.{aged_heap, cells_left, evacuated_kinds, first_one, four_kinds}
pub use Rattle.sessions.specs.WorkedCollections.{fragmented_heap, heap_before, heap_left, large_heap, left_in_place}
pub use Rattle.sessions.specs.WorkedCollections.{lined_heap, lonely_one, movable_heap, moved_out, old_one, pinned_one}
pub use Rattle.sessions.specs.WorkedCollections.{remembered_ones, roots_before, roots_moved, run_heap, second_one}
pub use Rattle.sessions.specs.WorkedCollections.{two_young, unlogged_after}
pub use Rattle.sessions.specs.WorkedFits.{full_heap, heap_used, mixed_heap, split_heap, used_heap}
pub use Rattle.sessions.specs.WorkedSessions.{heap_after_birth, part_of_birth, worked_moment, worked_setting}
pub use Rattle.heap_layout.specs.declared.block.Kind.TheVariants as kinds
pub use Rattle.ideal_heap.specs.declared.command.Command.TheVariants as c
pub use Rattle.ideal_heap.specs.declared.reply.Reply.TheVariants as r
