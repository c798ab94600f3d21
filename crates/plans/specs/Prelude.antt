-- The names of other crates that the contracts cite, passed on from one place. Declares nothing.
pub use Rattle.block_sweeps.specs.Sweeping.{AreApart, MarksTouched, Sweeps, object_count}
pub use Rattle.heap_layout.specs.Blocks.{IsValidWord, code_of, kind_code}
pub use Rattle.heap_layout.specs.Zones.{IsRowOf, row_words}
pub use Rattle.object_model.specs.Lawful.{IsReadableBlock}
pub use Rattle.object_model.specs.Objects.{HasKind, HeapState, block_word, shown}
pub use Rattle.object_model.specs.Releasing.{IsReleasable}
pub use Rattle.object_model.specs.declared.collect.Collect.{Collect}
pub use Rattle.plan_api.proofs.EvacuationLaws.{none-large}
pub use Rattle.plan_api.proofs.PartLaws.{part-clear}
pub use Rattle.plan_api.proofs.ReserveLaws.{copies-kept, headroom-kept, nothing-kept}
pub use Rattle.plan_api.specs.Evacuation.{HasFills}
pub use Rattle.plan_api.specs.Releasing.{Releases, is_kept_after}
pub use Rattle.plan_api.specs.Relisting.{Relists}
pub use Rattle.sessions.specs.Plans.{Copies, Rules, GenCopy as gen_copy, Immix as immix, MarkSweep as mark_sweep}
pub use Rattle.sessions.specs.Plans.{NoGc as no_gc, rules_of, SemiSpace as semi_space, StickyImmix as sticky_immix}
pub use Rattle.heap_layout.specs.declared.block.Kind.TheVariants as kinds
