-- The names of other crates that the contracts cite, passed on from one place. Declares nothing.
pub use Rattle.block_sweeps.specs.Sweeping.{InBlock}
pub use Rattle.block_sweeps.specs.WordSweeps.{MaySweep, SweepsWords}
pub use Rattle.block_release.specs.Knowing.{IsKnown, IsTracedUnder, ShowsRelease}
pub use Rattle.block_release.specs.Released.{AreReleased, FlagShowsEvacuation, LineBitsMarkSurvivors}
pub use Rattle.block_release.specs.Released.{LinesOfClaimedAreMarked, LinesOfTargetsAreMarked, DiffersInSome}
pub use Rattle.block_release.specs.Released.{LosesNothing, ReleasesBelow, SweepsSome, UnlogBitsMarkSurvivors}
pub use Rattle.block_release.specs.Released.{UnlogWordMarksSurvivors, with_numbers}
pub use Rattle.heap_layout.specs.Blocks.{IsValidWord, code_of, kind_code}
pub use Rattle.heap_layout.specs.Zones.{IsRowOf, block_at}
pub use Rattle.heap_layout.specs.declared.layout.Layout.{Layout}
pub use Rattle.heap_layout.specs.declared.layout.TheConstants.{BLOCK_LINES}
pub use Rattle.object_model.specs.Ages.{Lives}
pub use Rattle.object_model.specs.Heaps.{heap_state}
pub use Rattle.object_model.specs.Lawful.{IsLawful}
pub use Rattle.object_model.specs.Objects.{HasKind, HeapState, IsHeld, block_word, is_unlogged, line_marked, nums_at}
pub use Rattle.object_model.specs.Objects.{refs_at, shown, state_of, state_over, word_at}
pub use Rattle.object_model.specs.Releasing.{IsReleasable}
pub use Rattle.object_model.specs.declared.collect.Collect.{Collect}
pub use Rattle.object_model.specs.declared.collect.Collect.TheVariants.{Full, Nursery}
pub use Rattle.plan_api.specs.Releasing.{Releases, is_kept_after, word_after}
pub use Rattle.sessions.specs.Plans.{Rules}
pub use Rattle.trace_core.specs.Machine.{Event}
pub use Rattle.trace_core.specs.Outcomes.{base_after_trace}
pub use Rattle.trace_core.specs.Runs.{IsRunOf}
pub use Rattle.trace_core.specs.Setups.{Setup, blocks, collection}
pub use Rattle.trace_core.specs.Traces.{IsFinished, IsTracing, heap_after, machine_after}
pub use Rattle.trace_core.specs.declared.run.TraceRun.{TraceRun}
pub use Rattle.block_release.specs.declared.releasing.Known.TheVariants as knowledge
pub use Rattle.heap_layout.specs.declared.block.Kind.TheVariants as kinds
