-- The history of an epoch, by the seats that saw it.
use Rattle.std.proofs.Common.{◌≡◌, sym, ◌∙◌, ap, subst, ℕ, ◌+◌, ◌<◌, ◌≤◌, arith, inl, inr, eq-eqb, List, [], ◌∷◌}
use Rattle.std.specs.Prelude.{Option, Some, None}
use Rattle.std.specs.List.{AllByRecursion, Contains, range_with_len}
use Rattle.std.proofs.lemmas.Bool.{cases_eq, ne_eqb}
use Rattle.std.proofs.lemmas.List.FromFn.{get_or-range_with_len, length-range_with_len}
use Rattle.ideal_heap.specs.declared.command.Command.{Command}
use Rattle.ideal_heap.specs.declared.reply.Reply.{Reply}
use Rattle.ideal_heap.specs.Ideal.{IdealHeap}
use Rattle.ideal_heap.specs.Runs.{Entry, IsRun, of_mutator}
use Rattle.ideal_heap.proofs.OrderLemmas.{of_mutator-all}
use Rattle.object_model.specs.Graphs.{Represents, numbers_of}
use Rattle.mutator_core.specs.declared.state.LogEntry.{LogEntry}
use Rattle.mutator_core.specs.Machine.{Epoch, Machine, heap_in, next, first_machine}
use Rattle.mutator_core.specs.Histories.{IsLog, history, entry_of, entries_with, entries_of, reply_in}
use Rattle.mutator_core.proofs.Beginnings.{log-ends}
use Rattle.mutator_core.proofs.EpochEnds.{log-recorded}
use Rattle.mutator_core.proofs.Lists.{all-append}
use Rattle.mutator_rule.specs.declared.seat.MutatorSeat.{MutatorSeat}
use Rattle.mutator_rule.specs.Seats.{known}
use Rattle.mutator_rule.specs.Views.{epoch_with}
use Rattle.racing_world.specs.declared.world.World.{World}
use Rattle.racing_mutator.specs.RacingSeats.{MayCall}
use Rattle.racing_world.specs.Calls.{epoch_of_world, history_at}
use Rattle.sessions.specs.Plans.{Rules}
use Rattle.sessions.specs.Sessions.{IsOfPart}
use Rattle.mm_runtime.proofs.PolledStops.{number-least}

-- one mutator's entries are its own
of-mutator-own : (m : ℕ) (es : List Entry) → AllByRecursion (λ e. e.mutator ≡ m) (of_mutator m es)
of-mutator-own m [] = tt
of-mutator-own m (e ∷ es) = elim (cases_eq e.mutator m) as (λ _. AllByRecursion (λ x. x.mutator ≡ m) (of_mutator m (e ∷ es))) [
  | inl same ↦ rw (eq-eqb e.mutator m same) (same, of-mutator-own m es)
  | inr other ↦ rw (ne_eqb e.mutator m other) (of-mutator-own m es)
]

pub of-mutator-twice : (m : ℕ) (es : List Entry) → of_mutator m (of_mutator m es) ≡ of_mutator m es
of-mutator-twice m es = of_mutator-all m (of_mutator m es) (of-mutator-own m es)

-- each entry of a log is of a mutator of its epoch
pub entries-listed : (p : Epoch) (h : Machine) (log : List LogEntry) → IsLog p h log → AllByRecursion (λ e. Contains (numbers_of p.mutators) e.mutator) (history p h log)
entries-listed p h [] is = tt
entries-listed p h (x ∷ xs) is =
    all-append (λ e. Contains (numbers_of p.mutators) e.mutator) (entries_of (heap_in p h) x) (history p (next p h x.mutator x.event) xs)
    (one x.mutator (entry_of x.event) (reply_in (heap_in p h) x.answer) is.0)
    (entries-listed p (next p h x.mutator x.event) xs is.3)
  where
    one : (m : ℕ) (command : Option Command) (r : Reply) → Contains (numbers_of p.mutators) m → AllByRecursion (λ e. Contains (numbers_of p.mutators) e.mutator) (entries_with m command r)
    one m None r known = tt
    one m (Some command) r known = (known, tt)

-- the numbers from 1 on
pub in-range : (n m : ℕ) → Contains (range_with_len 1 n) m → (1 ≤ m) × (m ≤ n)
in-range n m (i, within, is) =
    let count = length-range_with_len 1 n in
    let at : m ≡ 1 + i = sym is ∙ get_or-range_with_len 1 n i m (omega arith) in
    (omega arith, omega arith)

module _ {P : Type 0} (rules : Rules) (w : World P) (seat : MutatorSeat) (may : MayCall rules w.row seat) where
  abbrev p : Epoch
  p = epoch_with rules (known seat).start

  same : p ≡ epoch_of_world rules w
  same = ap (epoch_with rules) may.0.own.1

  -- no mutator has the number 0
  pub number-some : (n : ℕ) → Contains (numbers_of (epoch_of_world rules w).mutators) n → 0 < n
  number-some n known = number-least p.mutators may.0.own.2.epoch.represents.mutators.each n (subst (λ (q : Epoch). Contains (numbers_of q.mutators) n) (sym same) known)

  pub history-run : (i : IdealHeap) → Represents (epoch_of_world rules w).before (epoch_of_world rules w).mutators i → IsRun i (history_at rules seat)
  history-run i stands =
      let log = may.0.own.2.epoch in
      (log-ends p i (known seat).seen log.ready (subst (λ (q : Epoch). Represents q.before q.mutators i) (sym same) stands) log.steps).run

  pub history-each : AllByRecursion IsOfPart (history_at rules seat)
  history-each = (log-recorded p may.0.own.2.ideal (known seat).seen may.0.own.2.epoch).each

  pub history-listed : AllByRecursion (λ e. Contains (numbers_of (epoch_of_world rules w).mutators) e.mutator) (history_at rules seat)
  history-listed = subst (λ (q : Epoch). AllByRecursion (λ e. Contains (numbers_of q.mutators) e.mutator) (history_at rules seat)) same
      (entries-listed p (first_machine p) (known seat).seen may.0.own.2.epoch.steps)
