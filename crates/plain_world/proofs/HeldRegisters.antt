-- What the registers of a world hold.
use Rattle.std.proofs.Common.{◌≡◌, sym, subst, ℕ, ◌<◌, List, map}
use Rattle.std.specs.Prelude.{Some, slice_get, slice_index}
use Rattle.ideal_heap.specs.Ideal.{IdealHeap}
use Rattle.ideal_heap.specs.Runs.{heap_after_run}
use Rattle.object_model.specs.Graphs.{AreRegisters, MutatorState, Represents}
use Rattle.object_model.specs.Lawful.{IsRoot}
use Rattle.object_model.specs.Objects.{HeapState, state_of}
use Rattle.object_model.proofs.Representation as standing
use Rattle.mutator_core.specs.declared.state.LogEntry.{LogEntry}
use Rattle.mutator_core.specs.Machine.{Epoch}
use Rattle.mutator_core.specs.Logs.{heap_after, mutators_after, history_of}
use Rattle.mutator_calls.specs.declared.need.Mutator.{Mutator}
use Rattle.heap_users.specs.Users.{mutator_state}
use Rattle.heap_users.proofs.UserLists.{all-each}
use Rattle.plain_row.specs.declared.plain_row.PlainRow.{PlainRow}
use Rattle.plain_row.specs.Worlds.{IsAt, IsInSomeEpoch}
use Rattle.plain_row.proofs.EpochFacts as facts
use Rattle.plain_world.proofs.Closed.{may-use, mutators-same}

represents-now : (p : Epoch) (i : IdealHeap) (log : List LogEntry) (w : PlainRow) → IsAt p i log w
    → Represents (state_of w.row) (map mutator_state w.mutators.items) (heap_after_run i (history_of p log))
represents-now p i log w at =
    subst (λ (t : HeapState). Represents t (map mutator_state w.mutators.items) (heap_after_run i (history_of p log))) (sym at.heap)
    (subst (λ (ms : List MutatorState). Represents (heap_after p log) ms (heap_after_run i (history_of p log))) (mutators-same p i log w at)
    (standing.represents (heap_after p log) (mutators_after p log) (heap_after_run i (history_of p log))
    (facts.end p i log w at).set (facts.moment p i log w at).models))

-- each register is nil or holds the address of a held object
pub register-root : (w : PlainRow) → IsInSomeEpoch w → (m s : ℕ) (u : Mutator) → slice_get w.mutators.items m ≡ Some u → s < 16
    → IsRoot (state_of w.row) (slice_index u.registers s)
register-root w some m s u there small =
    let may = may-use (state_of w.row) (map mutator_state w.mutators.items) (heap_after_run some.ideal (history_of some.epoch some.log))
    (represents-now some.epoch some.ideal some.log w some.at) in
    all-each (λ (x : MutatorState). AreRegisters (state_of w.row) x.registers) w.mutators.items m u may.registers there s small
