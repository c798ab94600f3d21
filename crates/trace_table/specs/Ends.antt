-- The table and its seats as a trace begins, and what all shares are together as it ends.
use Rattle.std.specs.Prelude.{◌≡◌, ℕ, ◌+◌, ◌-◌, List, [], ◌∷◌, All, length, map, if◌then◌else◌}
use Rattle.std.specs.List.{range_with_len}
use Rattle.heap_layout.specs.declared.layout.TheConstants.{GLOBALS}
use Rattle.trace_core.specs.declared.run.TraceRun.{TraceRun}
use Rattle.trace_words.specs.declared.share.Share.{Share}
use Rattle.trace_words.specs.Shares.{first_share, worker_share, both_shares}
use Rattle.trace_table.specs.declared.table.TraceTable.{TraceTable}
use Rattle.trace_table.specs.declared.table.WorkerSeat.{WorkerSeat}
use Rattle.trace_table.specs.declared.tokens.GlobalRoot.{GlobalRoot}
use Rattle.trace_table.specs.declared.tokens.Grey.{Grey}
use Rattle.trace_table.specs.Seats.{IsSeat, IsGrey, IsGlobalRoot, setup_at}

-- what is left of the first share when k workers got their seats
abbrev pub kept_share : TraceRun → ℕ → ℕ → Share
kept_share run workers k = record (first_share run workers) {
  parts = workers + 1 - k;
  numbers = range_with_len (k + 1) (workers - k);
}

-- What is left of the rights in the table when all workers got their seats: to set the globals, and
-- to scan the logged objects, until their tokens are taken.
abbrev pub left_share : TraceTable → Share
left_share t = record (kept_share t.run (setup_at t).workers (setup_at t).workers) {
  gave = (if t.globals_taken then GLOBALS else 0)
      + (if t.logged_taken then length t.run.logged.items else 0);
  unset = if t.globals_taken then [] else range_with_len 0 GLOBALS;
  grey = if t.logged_taken then [] else map (λ x. (x, 0)) t.run.logged.items;
}

-- nothing but the keeper's seat has changed
pub record SameTable (t u : TraceTable) : Type 0 where
  pub words : u.row.words ≡ t.row.words
  pub run : u.run ≡ t.run
  pub globals : u.globals_taken ≡ t.globals_taken
  pub logged : u.logged_taken ≡ t.logged_taken

-- Seats and tokens of the one table are of the other, which is of the same collection.
pub record SameTrace (t u : TraceTable) : Type 0 where
  pub setup : setup_at u ≡ setup_at t
  pub run : u.run ≡ t.run
  pub seats : (s : WorkerSeat) → IsSeat t s → IsSeat u s
  pub greys : (g : Grey) → IsGrey t g → IsGrey u g
  pub roots : (g : GlobalRoot) → IsGlobalRoot t g → IsGlobalRoot u g

abbrev pub shares_of : List WorkerSeat → List Share
shares_of seats = map (λ s. s.seat.me.0) seats

-- the seats of workers 1, 2 and so on, who have done nothing yet
pub record NewSeats (t : TraceTable) (workers : ℕ) (seats : List WorkerSeat) : Type 0 where
  pub each : All (IsSeat t) seats
  pub shares : shares_of seats ≡ map (worker_share 1) (range_with_len 1 workers)

-- the share has the part of one worker, and is no token
abbrev pub IsOneWorkers : Share → Type 0
IsOneWorkers v = (v.parts ≡ 1) × (v.token ≡ 0)

-- a share that took in these shares, the last one first
abbrev pub joined : List Share → Share → Share
joined [] v = v
joined (w ∷ ws) v = both_shares (joined ws v) w
