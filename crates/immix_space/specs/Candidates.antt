-- Candidates for evacuation, by the holes and marked lines of all blocks.
use Rattle.std.specs.Prelude.{ℕ, ◌+◌, ◌≤◌, Bool, ◌&&◌, nat_eq, nat_lt, nat_le, if◌then◌else◌, List, sum_by}
use Rattle.std.specs.Prelude.{slice_index_or, take}
use Rattle.heap_layout.specs.declared.layout.TheConstants.{BLOCK_LINES}
use Rattle.object_model.specs.Objects.{HeapState}
use Rattle.sessions.specs.Collecting.{holes_in, marked_in, is_recyclable}
use Rattle.line_marks.specs.declared.holes.LineCounts.{LineCounts}

-- no holes and no marked lines
abbrev pub no_counts : LineCounts
no_counts = record { holes = 0; marked = 0 }

-- the holes and marked lines of block k if it is recyclable, else zeros
abbrev pub counts_at : HeapState → ℕ → LineCounts
counts_at s k = if is_recyclable s k then record {
  holes = holes_in s k;
  marked = marked_in s k;
} else no_counts

-- there are no more holes, and no more marked lines, than a block has lines
pub record HasFewLines (c : LineCounts) : Type 0 where
  pub holes : c.holes ≤ BLOCK_LINES
  pub marked : c.marked ≤ BLOCK_LINES

-- the marked lines of the blocks that have n holes; of those that have more than n
abbrev pub marked_with : ℕ → List LineCounts → ℕ
marked_with n counts = sum_by (λ c. if nat_eq n c.holes then c.marked else 0) counts

abbrev pub marked_above : ℕ → List LineCounts → ℕ
marked_above n counts = sum_by (λ c. if nat_lt n c.holes then c.marked else 0) counts

-- Block i is taken: it has a marked line, and it, the blocks with more holes and the lower blocks
-- with as many have together at most `room` marked lines.
abbrev pub is_chosen : List LineCounts → ℕ → ℕ → Bool
is_chosen counts room i =
    nat_lt 0 (slice_index_or counts i no_counts).marked
    && nat_le (marked_above (slice_index_or counts i no_counts).holes counts
    + marked_with (slice_index_or counts i no_counts).holes (take (i + 1) counts)) room
