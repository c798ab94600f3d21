-- What a worker of a racing trace has done, by the share of its seat.
use Rattle.std.specs.Prelude.{◌≡◌, ℕ, ◌+◌, ◌-◌, ◌^◌, ◌<◌, ◌⊎◌, min, Bool, not, nat_eq, IsTrue, List, [], All, length}
use Rattle.std.specs.Prelude.{map, slice_index, count_by, sum_by}
use Rattle.object_model.specs.Lawful.{AreRoots}
use Rattle.object_model.specs.Lines.{TouchesLine}
use Rattle.object_model.specs.Times.{times}
use Rattle.trace_core.specs.Setups.{Setup, blocks, size}
use Rattle.trace_core.specs.Views.{hits}
use Rattle.trace_words.specs.Rule.{HasLined}
use Rattle.trace_words.specs.Steps.{IsDone}
use Rattle.trace_words.specs.declared.share.Share.{Share}
use Rattle.trace_table.specs.Ends.{IsOneWorkers}
use Rattle.trace_table.specs.Seats.{IsTable, IsSeat, IsGrey, setup_at}
use Rattle.trace_table.specs.declared.table.TraceTable.{TraceTable}
use Rattle.trace_table.specs.declared.table.WorkerSeat.{WorkerSeat}
use Rattle.trace_table.specs.declared.tokens.Grey.{Grey}
use Rattle.racing_collector.specs.declared.racing.Racing.{Racing}
use Rattle.racing_collector.specs.declared.served.Served.{Served}
use Rattle.racing_collector.specs.declared.tally.Tally.{Tally}

-- The seat is that of a worker of the trace, who has nothing left to do.
pub record IsRacer (r : Racing) (s : WorkerSeat) : Type 0 where
  pub table : IsTable r.table
  pub seat : IsSeat r.table s
  pub done : IsDone (setup_at r.table) s.seat.me.0
  pub one : IsOneWorkers s.seat.me.0
  pub roots : AreRoots (setup_at r.table).before r.roots.items

abbrev pub places : List Served → List ℕ
places served = map (λ s. s.place) served

-- t is the target of the root r, nil of nil
abbrev pub IsTargetOf : Share → ℕ → ℕ → Type 0
IsTargetOf v r t = ((r ≡ 0) × (t ≡ 0)) ⊎ ((0 < r) × (0 < hits r t v.known))

-- a root of the trace was served: its target is known, and it asked
pub record IsServed (r : Racing) (v : Share) (s : Served) : Type 0 where
  pub place : s.place < length r.roots.items
  pub target : IsTargetOf v (slice_index r.roots.items s.place) s.target
  pub asked : 0 < slice_index r.roots.items s.place
      → 0 < times (slice_index r.roots.items s.place) v.asked

-- The lines of the object that was at x are marked where it is.
pub record HasItsLines (p : Setup) (v : Share) (x : ℕ) : Type 0 where
  pub target : ℕ
  pub known : 0 < hits x target v.known
  pub marked : (line : ℕ) → TouchesLine (blocks p) target (size p x) line → HasLined p v line

-- the share gave the token, and knows the object's target
pub record IsGiven (t : TraceTable) (v : Share) (g : Grey) : Type 0 where
  pub grey : IsGrey t g
  pub known : 0 < hits g.object g.target v.known

-- The share gave these tokens, and served these roots.
pub record Accounts (r : Racing) (v : Share) (served : List Served) (greys : List Grey)
    : Type 0 where
  -- the tokens are those of the objects that it copied
  pub copied : (x : ℕ) → times x v.copied ≡ times x (map (λ g. g.object) greys)
  pub tokens : All (IsGiven r.table v) greys
  -- the lines of each object that it scanned are marked, if the run marks lines
  pub lines : IsTrue r.table.run.lines → (x k : ℕ) → 0 < hits x k v.grey
      → HasItsLines (setup_at r.table) v x
  pub roots : All (IsServed r v) served
  -- only roots asked
  pub by_roots : (x : ℕ) → 0 < times x v.asked → (i : ℕ) × (slice_index r.roots.items i ≡ x)
  -- each block that it left has more than MAX_MEDIUM_WORDS kept words
  pub sparse : v.sparse ≡ []

-- the object of the token moves
abbrev pub has_moved : Grey → Bool
has_moved grey = not (nat_eq grey.target grey.object)

-- a count stands still at the most that its type has
abbrev pub capped : ℕ → ℕ → ℕ
capped most n = min n most

-- The objects of these tokens are counted too.
pub record CountsMore (before after : Tally) (greys : List Grey) : Type 0 where
  pub kept : after.kept ≡ capped (2 ^ 32 - 1) (before.kept + length greys)
  pub moved : after.moved ≡ capped (2 ^ 32 - 1) (before.moved + count_by has_moved greys)
  pub words : after.words ≡ capped (2 ^ 64 - 1) (before.words + sum_by (λ g. g.size) greys)

-- The tally counts the objects that the share copied.
pub record IsAccounted (r : Racing) (v : Share) (served : List Served) (tally : Tally)
    : Type 0 where
  pub greys : List Grey
  pub accounts : Accounts r v served greys
  pub kept : tally.kept ≡ capped (2 ^ 32 - 1) (length greys)
  pub moved : tally.moved ≡ capped (2 ^ 32 - 1) (count_by has_moved greys)
  pub words : tally.words ≡ capped (2 ^ 64 - 1) (sum_by (λ g. g.size) greys)
