-- The end of an epoch.
use Rattle.std.specs.Prelude.{◌≡◌, ◌+◌, sum_by}
use Rattle.heap_layout.specs.declared.layout.TheConstants.{BUDGET_WORD}
use Rattle.object_model.specs.Objects.{HeapState, word_at}
use Rattle.sessions.specs.Fitting.{free_of}
use Rattle.mutator_core.specs.Machine.{Epoch}
use Rattle.mutator_core.specs.Guards.{allowance}
use Rattle.mutator_core.specs.Tickets.{tickets_in, tickets_below, smaller}
use Rattle.plain_world.specs.declared.plain_world.PlainWorld.{PlainWorld}
use Rattle.plain_world.specs.Calls.{heap_of_world}

-- The Free blocks taken in the epoch, and the unused tickets below the allowance, are together as
-- many as the tickets drawn, but at most the allowance. The tickets drawn are the Free blocks taken
-- and the unused tickets.
pub record GrantsWithTickets {P : Type 0} (p : Epoch) (w : PlainWorld P) (new : HeapState) : Type 0
  where
    pub allowed : free_of p.before + sum_by (λ x. tickets_below (allowance p) x.ticket)
        w.row.seats.items
        ≡ free_of new + smaller (word_at (heap_of_world w) BUDGET_WORD) (allowance p)
    pub drawn : free_of p.before + sum_by (λ x. tickets_in x.ticket) w.row.seats.items
        ≡ free_of new + word_at (heap_of_world w) BUDGET_WORD
