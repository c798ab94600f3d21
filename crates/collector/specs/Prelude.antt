-- The names of other crates that the contracts cite, passed on from one place. Declares nothing.
pub use Rattle.block_release.specs.Knowing.{IsRunUnder}
pub use Rattle.block_release.specs.Released.{ReleasesBelow, with_numbers}
pub use Rattle.collector.specs.Awaited.{IsAwaited}
pub use Rattle.collector.specs.Collected.{EvacuatesAll, FillsIf, FillsInTurn, IsOffered, LeavesFewBlocks}
pub use Rattle.collector.specs.Finished.{IsFinishedTrace}
pub use Rattle.collector.specs.Items.{IsObject, items_of, tokens_of}
pub use Rattle.collector.specs.RootPackets.{AreRootItems, AreRootPackets}
pub use Rattle.collector.specs.Serving.{AreShaped, HasRights, ServesItems}
pub use Rattle.collector.specs.Tallies.{Counts, IsNote, NotesIf, capped, has_moved, stays_in_place}
pub use Rattle.collector.specs.WorkedBounds.{one_copied, one_kept, one_object, two_large, two_objects, worked_note}
pub use Rattle.collector.specs.Working.{AwaitsPackets, AwaitsNothing}
pub use Rattle.collector.specs.declared.worker.TracingStart.{TracingStart}
pub use Rattle.object_model.specs.Ages.{ListsLogged}
pub use Rattle.object_model.specs.Heaps.{heap_state}
pub use Rattle.object_model.specs.Lawful.{AreRoots, IsLawful}
pub use Rattle.object_model.specs.Objects.{HeapState, IsHeld, word_at}
pub use Rattle.object_model.specs.Times.{one_if}
pub use Rattle.object_model.specs.declared.collect.Collect.TheVariants.{Full, Nursery}
pub use Rattle.object_model.specs.declared.collect.Collect.{Collect}
pub use Rattle.plain_tracer.specs.TokenRights.{IsReached, grey_of}
pub use Rattle.plain_tracer.specs.Tracers.{TracerHolds, Tracks}
pub use Rattle.plain_tracer.specs.declared.tokens.Grey.{Grey}
pub use Rattle.plain_tracer.specs.declared.tokens.Reached.{Reached}
pub use Rattle.racing_collector.specs.Together.{FillsBlocks}
pub use Rattle.sessions.specs.Collecting.{Collects, IsCollection, OnlyCounts, Remembers, first_collection}
pub use Rattle.sessions.specs.Fitting.{used_of}
pub use Rattle.sessions.specs.Plans.{Copies, GenCopy, Plan, Rules, SemiSpace, rules_of}
pub use Rattle.sessions.specs.Sessions.{Cause, InSession, MakesCollection, Moment, Places, RunsPart, Setting}
pub use Rattle.trace_core.specs.Machine.{Event}
pub use Rattle.trace_core.specs.Outcomes.{HaveAsked, NoOthersAsked, image}
pub use Rattle.trace_core.specs.Runs.{MayRun, is_nursery, setup_of}
pub use Rattle.trace_core.specs.Setups.{Setup, blocks, collection}
pub use Rattle.trace_core.specs.Traces.{IsFinished, IsTracing, heap_after, machine_after, stage_of}
pub use Rattle.trace_core.specs.Views.{View}
pub use Rattle.trace_core.specs.declared.run.TraceRun.{TraceRun}
pub use Rattle.work_packets.specs.Packets.{HasItems}
pub use Rattle.work_packets.specs.declared.packet.TheConstants.{MAX_ITEMS}
pub use Rattle.write_barrier.specs.Listed.{CoverLogged}
pub use Rattle.collector.specs.declared.item.Item.TheVariants as items
pub use Rattle.work_packets.specs.declared.packet.Bucket.TheVariants as buckets
