-- Which events a tracer's call makes.
use Rattle.std.specs.Prelude.{◌≡◌, ℕ, ◌+◌, Bool, IsTrue, nat_eq, List, [], ◌∷◌, Option, Some, None, replicate}
use Rattle.std.specs.Prelude.{if◌then◌else◌}
use Rattle.trace_core.specs.Setups.{Setup, size}
use Rattle.trace_core.specs.Machine.{Event, ClaimCause, ByGlobal, ByField, Claim, Ask, Copy, Scan, SetGlobal, MarkLines}
use Rattle.trace_core.specs.Machine.{TakeBlock}
use Rattle.trace_core.specs.Views.{View, asked_roots, taken_view, left_view}

-- the block that is taken, if one is
abbrev pub block_taken : Option ℕ → List Event
block_taken None = []
block_taken (Some b) = TakeBlock b 1 ∷ []

abbrev pub taken_in : Option ℕ → View → View
taken_in None v = v
taken_in (Some b) v = taken_view b v

-- the same while nothing is copied into the block yet
abbrev pub left_in_block : Option ℕ → View → View
left_in_block None v = v
left_in_block (Some b) v = left_view b v

-- the steps of the copying of an object that is claimed
abbrev pub copying : Setup → ℕ → ℕ → List Event
copying p x t = replicate (if nat_eq t x then 1 else size p x + 2) (Copy x)

-- the event claims an object for this cause, copies one, or takes a block
abbrev pub Follows : ClaimCause → Event → Type 0
Follows cause (Claim x t by) = by ≡ cause
Follows cause (Copy x) = Unit {0}
Follows cause (TakeBlock b w) = w ≡ 1
Follows cause (Ask x) = ⊥
Follows cause (Scan x) = ⊥
Follows cause (SetGlobal g) = ⊥
Follows cause (MarkLines x word mask) = ⊥

-- the event marks lines of the object that was at x
abbrev pub Marks : ℕ → Event → Type 0
Marks x (MarkLines y word mask) = y ≡ x
Marks x _ = ⊥

-- the event scans a field of the object that was at x, follows one, or marks the object's lines if
-- the run marks lines
abbrev pub Scans : Bool → ℕ → Event → Type 0
Scans lines x (Scan y) = y ≡ x
Scans lines x (MarkLines y word mask) = (y ≡ x) × IsTrue lines
Scans lines x (Claim y t cause) = (i : ℕ) × (cause ≡ ByField x i)
Scans lines x (Copy y) = Unit {0}
Scans lines x (TakeBlock b w) = w ≡ 1
Scans lines x (Ask y) = ⊥
Scans lines x (SetGlobal g) = ⊥

-- the event sets the global, or follows it
abbrev pub Sets : ℕ → Event → Type 0
Sets g (SetGlobal h) = h ≡ g
Sets g e = Follows (ByGlobal g) e

-- the object is asked for by no root
abbrev pub IsNoRoot : ℕ → ClaimCause → Type 0
IsNoRoot x cause = (asked : List ℕ) → asked_roots x cause asked ≡ asked
