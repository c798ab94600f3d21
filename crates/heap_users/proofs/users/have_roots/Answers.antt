use Rattle.std.proofs.Common.{◌≡◌, refl, sym, ◌∙◌, arith, ℕ, List, get_or, false, true}
use Rattle.mutator_calls.specs.declared.need.Mutator.{Mutator}
use Rattle.object_model.specs.Objects.{HeapState}
use Rattle.object_model.specs.Heaps.{heap_state}
use Rattle.object_model.specs.Graphs.{MutatorState, AreRegisters}
use Rattle.heap_users.proofs.UserLists.{nobody, get-read, each-more, each-all, all-each}
use Rattle.heap_users.proofs.users.have_roots.Goals as goal

abbrev Holds : HeapState → MutatorState → Type 0
Holds s m = AreRegisters s m.registers

pub returns-then-not-has_roots : goal.returns-then-not-has_roots
returns-then-not-has_roots c =
    let ms : List Mutator = c.args.mutators.now in
    let k : ℕ = c.loop-mutator.mutator-index in (
      λ is. absurd (let wrong : false ≡ true = is in cc),
      λ all. sym c.if-not-has_roots.true ∙ c.has_roots.ensures.1
          (all-each (Holds (heap_state c.args.heap.now)) ms k (get_or ms k nobody) all (get-read ms k nobody c.loop-mutator-test.true)),
    )

pub loop-mutator-preserved : goal.loop-mutator-preserved
loop-mutator-preserved c =
    let ms : List Mutator = c.args.mutators.now in
    let k : ℕ = c.loop-mutator.mutator-index in
    each-more (Holds (heap_state c.args.heap.now)) ms k (get_or ms k nobody) c.loop-mutator.invariant (get-read ms k nobody c.loop-mutator-test.true)
    (c.has_roots.ensures.0 c.if-not-has_roots.false)

pub returns : goal.returns
returns c = (
  λ _. each-all (Holds (heap_state c.args.heap.now)) c.args.mutators.now c.loop-mutator.mutator-index (omega arith) c.loop-mutator.invariant,
  λ _. refl,
)
