-- The names that the contracts of programs cite, passed on from one place. Declares nothing.
pub use Rattle.ideal_heap.specs.declared.command.Command.{Command}
pub use Rattle.ideal_heap.specs.declared.command.Command.TheVariants as command
pub use Rattle.ideal_heap.specs.declared.name.Name.{Name}
pub use Rattle.ideal_heap.specs.declared.reply.Reply.{Reply}
pub use Rattle.ideal_heap.specs.declared.reply.Reply.TheVariants as reply
pub use Rattle.ideal_heap.specs.Commands.{is_new}
pub use Rattle.ideal_heap.specs.Names.{name}
pub use Rattle.ideal_heap.specs.Ideal.{IdealHeap, IsIdeal, Field, Nil, At, name_of_field, field_reply}
pub use Rattle.ideal_heap.specs.Ideal.{field_of as field_to, global_reply, empty, step}
pub use Rattle.ideal_heap.specs.Runs.{Entry, IsRun, alone, entry, heap_after_run, is_full}
pub use Rattle.programs.specs.Contents.{missing_reply, number_of_object, number_of, field_in, field_in_heap}
pub use Rattle.programs.specs.Footprints.{changed_by, shared_by, pinned_by, SetsField, Changes, HitsNumber, HitsField}
pub use Rattle.programs.specs.Growth.{IsGrown}
pub use Rattle.programs.specs.Lists.{IsListFrom, IsList, IsGlobalList, HasElement, KeepsLists, heap_after, pushes, pops}
