-- The names of other crates that the contracts cite, passed on from one place. Declares nothing.
pub use Rattle.block_sweeps.specs.Sweeping.{AreApart, HasNoLiving, InBlock, IsLineWord, IsTouchedHere, MarksTouched}
pub use Rattle.block_sweeps.specs.Sweeping.{Sweeps, SweepsRun, Unlogs}
pub use Rattle.cell_space.specs.FreeCells.{HasNoCell, IsNextCell}
pub use Rattle.heap_layout.specs.Blocks.{IsValidWord, all_kinds, code_of, is_block_code, kind_code}
pub use Rattle.heap_layout.specs.Zones.{BlockWords, IsRowOf, StartBits, block_at, block_start, first, offset_at}
pub use Rattle.heap_layout.specs.declared.block.Kind.{Kind}
pub use Rattle.heap_layout.specs.declared.layout.Layout.{Layout}
pub use Rattle.heap_layout.specs.declared.layout.TheConstants.{BLOCK_LINES, LINE_WORDS}
pub use Rattle.heap_layout.specs.declared.region.Region.{Region}
pub use Rattle.line_marks.specs.Bits.{HasNoClearRun, IsFirstClearRun, bit_in}
pub use Rattle.object_model.specs.Ages.{Lives, RemembersYoung, is_old as is_old_at}
pub use Rattle.object_model.specs.Heaps.{heap_state}
pub use Rattle.object_model.specs.Lawful.{AllLie, IsReadableBlock, IsTouched, IsWellFormed, LineBitsAreExact}
pub use Rattle.object_model.specs.Objects.{HasKind, HeapState, IsHeld, IsInExtent, block_count, block_word}
pub use Rattle.object_model.specs.Objects.{blocks_for as blocks_for_size, class_at, has_kind, line_marked, lines_for}
pub use Rattle.object_model.specs.Objects.{owner_at, shown, size_of, state_over, word_at}
pub use Rattle.object_model.specs.Preserving.{may_leave, may_leave as may_leave_from}
pub use Rattle.object_model.specs.Releasing.{InSpan, IsReleasable}
pub use Rattle.object_model.specs.declared.collect.Collect.{Collect}
pub use Rattle.object_model.specs.declared.collect.Collect.TheVariants.{Full, Nursery}
pub use Rattle.plan_api.specs.Ages.{AreReadable, BeginsYoungIn, begins_young as begins_young_at}
pub use Rattle.plan_api.specs.Cells.{HasNoClearCell, IsFirstCell}
pub use Rattle.plan_api.specs.Counting.{session_counts, session_reserve}
pub use Rattle.plan_api.specs.Cursors.{LacksRoom, PlacesInHole, PlacesInOverflow, PlacesInRegion}
pub use Rattle.plan_api.specs.Evacuation.{HasFills, listed}
pub use Rattle.plan_api.specs.Flags.{flags_of, has_cells}
pub use Rattle.plan_api.specs.Holes.{HasRoomFrom, IsFirstHole, IsFirstPart, IsHolePart}
pub use Rattle.plan_api.specs.Releasing.{Releases, is_kept_after, word_after}
pub use Rattle.plan_api.specs.Relisting.{Relists}
pub use Rattle.plan_api.specs.Taking.{TakesBlocks}
pub use Rattle.plan_api.specs.Views.{IsViewOf}
pub use Rattle.plan_api.specs.WorkedCursors.{cursors_with}
pub use Rattle.plan_api.specs.declared.block_view.BlockView.{BlockView}
pub use Rattle.plan_api.specs.declared.cursors.Cursors.{Cursors}
pub use Rattle.plan_api.specs.declared.flags.PlanFlags.{PlanFlags}
pub use Rattle.sessions.specs.Collecting.{Remembers, first_collection, is_copied_out as is_copied_in, is_evacuated}
pub use Rattle.sessions.specs.Collecting.{is_old_under, may_move}
pub use Rattle.sessions.specs.Fitting.{Fits, HasHole, HasSomeHole, IsFreeRun, IsTail, LiesInHole, MayGrant, MayGrantRun}
pub use Rattle.sessions.specs.Fitting.{allowance_of, class_for as class_for_size, counts_of, free_of}
pub use Rattle.sessions.specs.Grants.{BlockCounts, BlockCounts as Counts, HoldsReserve, IsGrantable, IsRunGrantable}
pub use Rattle.sessions.specs.Grants.{after_taking, allowance_in, counts_with, headroom_in, reserve_in}
pub use Rattle.sessions.specs.Grants.{reserve_per_block, total_in, used_in}
pub use Rattle.sessions.specs.Plans.{Copies, Headroom, Nothing, Plan, Plan as PlanName, Rules, has_holes, plan_word}
pub use Rattle.sessions.specs.Plans.{rules_of}
pub use Rattle.sessions.specs.WorkedFits.{mixed_heap}
pub use Rattle.heap_layout.specs.declared.block.Kind.TheVariants as kinds
pub use Rattle.plan_api.specs.declared.counts.Reserve.TheVariants as reserves
pub use Rattle.sessions.specs.Plans as plans
