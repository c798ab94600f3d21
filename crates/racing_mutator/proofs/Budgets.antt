-- The budget word is small.
use Rattle.std.proofs.Common.{◌≡◌, sym, subst, ℕ, ◌+◌, ◌<◌, ◌≤◌, ◌^◌, arith, length, List, ◌++◌}
use Rattle.std.specs.Prelude.{Option, Some, None}
use Rattle.std.proofs.lemmas.List.{length-map}
use Rattle.ideal_heap.specs.Ideal.{IdealHeap}
use Rattle.object_model.specs.Objects.{word_at}
use Rattle.object_model.specs.Graphs.{MutatorState, numbers_of}
use Rattle.sessions.specs.Plans.{Rules}
use Rattle.mutator_core.specs.declared.state.Event.TheVariants as e
use Rattle.mutator_core.specs.declared.state.LogEntry.{LogEntry}
use Rattle.mutator_core.specs.Machine.{Epoch}
use Rattle.mutator_core.specs.Guards.{allowance}
use Rattle.mutator_core.specs.Logs.{IsEpochLog, heap_after, local_after_log}
use Rattle.mutator_core.specs.Tickets.{tickets_in, tickets_below, drawn_by, allowed_to}
use Rattle.mutator_core.proofs.Counted.{smaller-most}
use Rattle.mutator_core.proofs.EpochEnds.{log-counted}
use Rattle.mutator_core.proofs.Sums.{sum-more, allowance-most}
use Rattle.mutator_rule.specs.declared.views.MutatorView.{MutatorView}
use Rattle.mutator_rule.specs.Logs.{MakesStep, KnowsLog}
use Rattle.racing_mutator.specs.declared.racing.Racing.{Racing}
use Rattle.racing_mutator.specs.RacingSeats.{view, epoch_of_racing}
use Rattle.racing_mutator.proofs.Looking.{just-before}

-- a ticket that may be used is a ticket
ticket-least : (most : ℕ) (o : Option ℕ) → tickets_in o ≤ tickets_below most o + 1
ticket-least most None = omega arith
ticket-least most (Some t) = omega arith

pub budget-few : (p : Epoch) (i : IdealHeap) (log : List LogEntry) → IsEpochLog p i log → word_at (heap_after p log) 1 ≤ allowance p + length (numbers_of p.mutators)
budget-few p i log is =
    let counted = log-counted p i log is in
    let all = counted.budget in
    let good = counted.allowed in
    let least = smaller-most (word_at (heap_after p log) 1) (allowance p) in
    let more = sum-more (λ m. drawn_by (local_after_log p log m)) (λ m. allowed_to (allowance p) (local_after_log p log m))
    (λ m. let t = ticket-least (allowance p) (local_after_log p log m).ticket in omega arith) (numbers_of p.mutators) in
    omega (arith, all, good, least, more)

-- a ticket that is drawn fits its width
pub ticket-fits : {P : Type 0} (rules : Rules) (a : Racing P) (v : MutatorView) (n : ℕ) → KnowsLog (epoch_of_racing rules a) (view a) → MakesStep rules (view a) e.DrawTicket n v → n < 2 ^ 32
ticket-fits rules a v n told st =
    let p : Epoch = epoch_of_racing rules a in
    let log : List LogEntry = (view a).seen ++ st.between in
    let few = budget-few p st.told.ideal log (just-before rules a v e.DrawTicket n st told) in
    let word : n ≡ word_at (heap_after p log) 1 = st.word in
    let most : allowance p ≤ p.before.blocks = allowance-most p.rules.reserve p.before in
    let long = told.inside.globals in
    let short = told.inside.most in
    let count : length (numbers_of p.mutators) ≤ 16 = subst (λ (k : ℕ). k ≤ 16) (sym (length-map p.mutators (λ (m : MutatorState). m.number))) told.epoch.ready.few in
    omega (arith, few, word, most, long, short, count)
