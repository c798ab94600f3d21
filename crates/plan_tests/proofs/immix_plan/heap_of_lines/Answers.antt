use Rattle.std.proofs.Common.{sym, ap, ◌∙◌, subst}
use Rattle.heap_layout.specs.declared.block.Kind.TheVariants as kinds
use Rattle.object_model.specs.Objects.{HeapState, empty_heap}
use Rattle.object_model.specs.Births.{with_block}
use Rattle.object_model.specs.Lawful.{IsLawful}
use Rattle.object_model.specs.WorkedHeaps.{unowned}
use Rattle.plan_tests.proofs.immix_plan.heap_of_lines.Goals as goal

pub with_object-requires : goal.with_object-requires
with_object-requires c = c.set_block.ensures
    ∙ ap (λ (s : HeapState). with_block s 0 (unowned kinds.Immix 0)) (c.into_row-row.ensures.state ∙ c.in_ok-new.ensures ∙ ap empty_heap c.requires)

pub from_row-requires : goal.from_row-requires
from_row-requires c = subst (λ (s : HeapState). IsLawful s) (sym c.with_object.ensures) c.lawful_heaps.ensures.immix
