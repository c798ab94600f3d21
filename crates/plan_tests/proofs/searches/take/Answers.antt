use Rattle.std.proofs.Common.{◌≡◌, ◌<◌, ℕ, sym, subst, arith, rules}
use denote.Enum.Bare.{differs_false}
use Rattle.heap_layout.specs.contracts.block.Kind.{the_type}
use Rattle.heap_layout.specs.declared.block.Kind.TheVariants as kinds
use Rattle.object_model.specs.Objects.{HeapState, state_of, HasKind}
use Rattle.object_model.specs.Lawful.{IsLawful}
use Rattle.object_model.specs.Heaps.{heap_state}
use Rattle.object_model.proofs.OneKind.{kind-from}
use Rattle.plan_api.proofs.Tallies.{kind-of-word}
use Rattle.plan_api.proofs.TestedRows.{taken-lawful}
use Rattle.plan_tests.proofs.searches.take.Goals as goal

pub from_row-requires : goal.from_row-requires
from_row-requires c =
    let s : HeapState = heap_state c.args.heap in
    let k : ℕ = c.args.block in
    let word = c.block.result in
    let there : k < s.blocks = omega arith in
    let kind : word.kind ≡ kinds.Free = differs_false the_type (search rules) word.kind kinds.Free (sym c.if-ne.ensures) in
    let free : HasKind s k kinds.Free = subst (HasKind s k) kind (kind-from s k word.kind there (kind-of-word s k word there c.block.ensures.valid c.block.ensures.code)) in
    subst (λ (x : HeapState). IsLawful x) (sym c.set_block.ensures)
    (taken-lawful (state_of c.into_row-row.result) k c.into_row-row.ensures.lawful (subst (λ (x : HeapState). HasKind x k kinds.Free) (sym c.into_row-row.ensures.state) free))
