-- The names of other crates that the contracts cite, passed on from one place. Declares nothing.
pub use Rattle.heap_layout.specs.Zones.{IsAddress, IsRowOf, LineWords, UnlogBits, bit_of, block_start, first, heap_of}
pub use Rattle.heap_layout.specs.Zones.{row_words}
pub use Rattle.heap_layout.specs.declared.layout.TheConstants.{GLOBALS}
pub use Rattle.object_model.specs.Heaps.{heap_state}
pub use Rattle.object_model.specs.Lines.{TouchesLine}
pub use Rattle.object_model.specs.Objects.{HasKind, IsHeld, size_of, state_of}
pub use Rattle.object_model.specs.Times.{times}
pub use Rattle.object_model.specs.declared.collect.Collect.TheVariants.{Full}
pub use Rattle.object_model.specs.declared.shape.TheConstants.{MAX_MEDIUM_WORDS}
pub use Rattle.plain_tracer.specs.TokenRights.{IsGrey, IsMarking, IsNextField, IsReached, IsWon, grey_of, logged_token}
pub use Rattle.plain_tracer.specs.Tracers.{ChangesWords, Claims, ClaimsRoot, FindsNone, Forwards, Fronts, IsTraced}
pub use Rattle.plain_tracer.specs.Tracers.{KeepsRun, MakesEvents, ScansField, ScansFields, SetsGlobal, TakesCopyBlock}
pub use Rattle.plain_tracer.specs.Tracers.{TracerHolds, Tracks, Wins}
pub use Rattle.side_meta.specs.BitWords.{with_bit}
pub use Rattle.trace_core.specs.CallEvents.{IsNoRoot, Marks, copying}
pub use Rattle.trace_core.specs.Machine.{ByRoot, ClaimCause, Claim as ClaimEvent, Event, TakeBlock}
pub use Rattle.trace_core.specs.Rights.{HoldsLogged, IsCopiedHere, IsMoving, IsReferred, IsWaiting, StaysHere, WasHeld}
pub use Rattle.trace_core.specs.Rooms.{NoneFree}
pub use Rattle.trace_core.specs.Runs.{MayRun, setup_of, with_unlogs, without_lines, without_unlogs}
pub use Rattle.trace_core.specs.Setups.{Setup, blocks, may_be_moved, size as size_before}
pub use Rattle.trace_core.specs.Traces.{IsAskedBy, IsFinished, NoneIsFree, machine_after, target_of}
pub use Rattle.trace_core.specs.Views.{NothingIsLeft, View, claimed_view, copied_view, first_view, left_view}
pub use Rattle.trace_core.specs.Views.{taken_view}
pub use Rattle.heap_layout.specs.declared.block.Kind.TheVariants as kinds
