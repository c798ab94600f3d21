-- The names of other crates that the contracts cite, passed on from one place. Declares nothing.
pub use Rattle.command_line.specs.Orders.{job_of_order, texts}
pub use Rattle.command_line.specs.Words.{Files, Job, Made, Work, job_of}
pub use Rattle.driver.specs.Exits.{IsExit, IsReported, Ran, refusal, refusal_line}
pub use Rattle.driver.specs.LiveNames.{AreLiveNames, count_words_named, heap_alone, ideal_live_line, record_size}
pub use Rattle.driver.specs.Printed.{AreTraces, AreTracesOf, AsksFirst, AsksPrefix, Content, EndsAtKnown, HasFault}
pub use Rattle.driver.specs.Printed.{HasTraces, IsBad, IsLong, IsNoTrace, IsTooLong, IsTraceIn, IsUsage, IsWholeText}
pub use Rattle.driver.specs.Printed.{IsWithinLimits, Prints, PrintsPrefix, Unread, WritesFaultLine, fault_line}
pub use Rattle.driver.specs.Printed.{file_line, job_files, line_fault, long_line, memory_line, setting_of, unread_line}
pub use Rattle.driver.specs.Printed.{usage_line, why_word, write_line}
pub use Rattle.driver.specs.MapPlaces.{AreDisjoint, IsMapOf, LiesInBlocks}
pub use Rattle.driver.specs.Reading.{AsksName, Halts, IsOneOf, fault_line_of, status_of}
pub use Rattle.driver.specs.Reports.{place_in, session_lines}
pub use Rattle.driver.specs.Statuses.{status_number}
pub use Rattle.driver.specs.Texts.{AreLive, IsReport, IsSessionText, IsSummary, MapPlace, counts_part, held_line}
pub use Rattle.driver.specs.Texts.{kinds_line, live_line, map_line, map_part, place_line, place_of, replies_part}
pub use Rattle.driver.specs.Texts.{report_part, summary_part}
pub use Rattle.driver.specs.WorkedEnds.{each_kind, worked_end}
pub use Rattle.driver.specs.WorkedReach.{place_at, worked_ideal, worked_map, worked_names, worked_trace}
pub use Rattle.driver.specs.declared.status.Status.{Status}
pub use Rattle.driver.specs.Writing.{WritesText, WritesTextBy}
pub use Rattle.heap_graph.specs.Places.{IsPlaceOfObject, addresses_of}
pub use Rattle.heap_layout.specs.Blocks.{code_of}
pub use Rattle.heap_layout.specs.Zones.{IsAddress}
pub use Rattle.ideal_heap.specs.Ideal.{At, IdealHeap, empty, record_of}
pub use Rattle.ideal_heap.specs.Names.{IsBefore, name}
pub use Rattle.ideal_heap.specs.Runs.{alone, entry, is_full, replies_of}
pub use Rattle.ideal_heap.specs.declared.command.Command.{Command}
pub use Rattle.ideal_heap.specs.declared.reply.Reply.{Reply as AnyReply}
pub use Rattle.ideal_heap.specs.declared.name.Name.{Name}
pub use Rattle.made_trace.specs.Counts.{AreCounts}
pub use Rattle.made_trace.specs.Made.{made_trace}
pub use Rattle.mm_runtime.specs.Prelude.{IsManaged}
pub use Rattle.mm_runtime.specs.Managers.{Closes, ClosesSome, IsRunnableTrace, left}
pub use Rattle.object_model.specs.Counting.{count_words_at}
pub use Rattle.object_model.specs.Graphs.{IsReachable, MutatorState, roots_of}
pub use Rattle.object_model.specs.Heaps.{heap_state}
pub use Rattle.object_model.specs.Objects.{HeapState, IsHeld, empty_heap, name_at, record_at, size_at}
pub use Rattle.object_model.specs.WorkedHeaps.{build_heap, plain_object, unowned}
pub use Rattle.outside.specs.Outside.{AppendsPrefix, AppendsText, Asked, HasRisen, SinkState, SourceState}
pub use Rattle.sessions.specs.Plans.{GenCopy, NoGc, Plan, StickyImmix, rules_of}
pub use Rattle.sessions.specs.Sessions.{IsSound, IsWhole, Moment, Setting, ideal_at}
pub use Rattle.trace_text.specs.Grammar.{trace}
pub use Rattle.trace_text.specs.Readers.{HasRead}
pub use Rattle.trace_text.specs.Text.{HasFullLine, ended, mutator_text}
pub use Rattle.trace_text.specs.declared.fault.TraceFault.{TraceFault as AnyFault, TraceFault}
pub use Rattle.driver.specs.declared.status.Status.TheVariants as status
pub use Rattle.heap_layout.specs.declared.block.Kind.TheVariants as kinds
pub use Rattle.ideal_heap.specs.declared.command.Command.TheVariants as command
pub use Rattle.ideal_heap.specs.declared.reply.Reply.TheVariants as reply
