-- The entries of a managed heap are a run.
use Rattle.std.proofs.Common.{◌≡◌, ◌∙◌, ap, sym, subst, List, Some}
use Rattle.std.specs.Prelude.{map}
use Rattle.ideal_heap.specs.Ideal.{IdealHeap, empty}
use Rattle.ideal_heap.specs.Runs.{Entry, IsRun, heap_after_run}
use Rattle.ideal_heap.proofs.RunLemmas.{longer, after-append}
use Rattle.object_model.specs.Objects.{state_of}
use Rattle.object_model.specs.Graphs.{Represents}
use Rattle.object_model.proofs.Representation as standing
use Rattle.mutator_core.specs.Machine.{Epoch}
use Rattle.mutator_core.specs.Logs.{heap_after, mutators_after, history_of}
use Rattle.heap_users.specs.Users.{mutator_state}
use Rattle.managed_heap.proofs.Worlds.facts
use Rattle.managed_heap.specs.Worlds.{PlainWorld, HasHistory, heap_of_world, mutators_of_world}
use Rattle.managed_heap.proofs.Worlds.{mutators-same}
use Rattle.sessions.specs.Plans.{Rules}
use Rattle.sessions.specs.Sessions.{ideal_at}
use Rattle.heap_users.specs.Beginnings.{epoch_of}
use Rattle.managed_value.specs.declared.managed.ManagedHeap.{ManagedHeap}
use Rattle.managed_value.specs.Histories.{HasEntries}

pub history-runs : {P : Type 0} (w : PlainWorld P) (p : Epoch) (i : IdealHeap) (part : List Entry) → HasHistory w p i part → IsRun i part
history-runs w p i part is = subst (IsRun i) is.history (facts.end p i is.log w.row is.at).run

history-represents : {P : Type 0} (w : PlainWorld P) (p : Epoch) (i : IdealHeap) (part : List Entry) → HasHistory w p i part → Represents (heap_of_world w) (mutators_of_world w) (heap_after_run i part)
history-represents w p i part is =
    subst (λ es. Represents (state_of w.row.row) (map mutator_state w.row.mutators.items) (heap_after_run i es)) is.history
    (subst (λ t. Represents t (map mutator_state w.row.mutators.items) (heap_after_run i (history_of p is.log))) (sym is.at.heap)
    (subst (λ ms. Represents (heap_after p is.log) ms (heap_after_run i (history_of p is.log))) (mutators-same p i is.log w.row is.at)
    (standing.represents (heap_after p is.log) (mutators_after p is.log) (heap_after_run i (history_of p is.log))
    (facts.end p i is.log w.row is.at).set (facts.moment p i is.log w.row is.at).models)))

pub entries-run : {P : Type 0} (rules : Rules) (h : ManagedHeap P) (es : List Entry) → HasEntries rules h es → IsRun empty es
entries-run rules h es has = subst (IsRun empty) (sym has.entries)
    (longer empty has.now.done has.part has.since.run
    (history-runs has.world (epoch_of rules has.now.heap has.now.mutators) (ideal_at has.now) has.part has.since.history))

pub entries-represent : {P : Type 0} (rules : Rules) (h : ManagedHeap P) (es : List Entry) (w : PlainWorld P) → HasEntries rules h es → h.world ≡ Some w → Represents (heap_of_world w) (mutators_of_world w) (heap_after_run empty es)
entries-represent rules h es w has here =
    let both : Some has.world ≡ Some w = sym has.here ∙ here in
    let same : has.world ≡ w = cc in
    subst (λ v. Represents (heap_of_world v) (mutators_of_world v) (heap_after_run empty es)) same
    (subst (λ i. Represents (heap_of_world has.world) (mutators_of_world has.world) i) (sym (after-append empty has.now.done has.part) ∙ ap (λ xs. heap_after_run empty xs) (sym has.entries))
    (history-represents has.world (epoch_of rules has.now.heap has.now.mutators) (ideal_at has.now) has.part has.since.history))
