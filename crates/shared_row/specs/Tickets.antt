-- Tickets that seats draw.
use Rattle.core.specs.Prelude.{ℕ, ◌+◌, ◌<◌, ◌≤◌, ◌^◌, List, [], ◌∷◌, slice_index}
use Rattle.atomic_table.specs.Table.{State}

abbrev pub total : List ℕ → ℕ
total [] = 0
total (n ∷ ns) = n + total ns

-- the tickets drawn, with those that seats may still draw, are at most as many as there are
abbrev pub KeepsTickets : ℕ → State (Unit {0}) ℕ → Type 0
KeepsTickets all s = (slice_index s.words 0 + total s.views ≤ all) × (all < 2 ^ 64)
